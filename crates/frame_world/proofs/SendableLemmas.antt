-- Where all that a daemon sends for a frame can be sent, so can what it sends on each connection.
use Rattle.std.proofs.Common.{◌≡◌, ℕ, false, List, [], ◌∷◌, ◌++◌, inl, inr, ap}
use Rattle.std.specs.List.{AllByRecursion}
use Rattle.bridge_world.specs.Lists.{Each}
use Rattle.daemon_core.specs.Outputs.{others_messages, id_of, outcome_of}
use Rattle.daemon_core.specs.Sending.{CanBeSent, AllCanBeSent, messages_back}
use Rattle.daemon_core.specs.State.{Links, State, is_number}
use Rattle.daemon_core.specs.declared.events.Event.TheVariants.{EditorFrame}
use Rattle.daemon_core.proofs.SendingLemmas.{back_can_be_sent, others_can_be_sent}
use Rattle.rpc_message.specs.Messages.{message_of}
use Rattle.frame_world.specs.Serving.{HasOnce, answer_messages}

pub each_of_all : {A : Type 0} (P : A → Type 0) (xs : List A) → AllByRecursion P xs → Each P xs
each_of_all P [] all = tt
each_of_all P (x ∷ xs) all = (all.0, each_of_all P xs all.1)

-- the connection of the body
pub answers_can_be_sent : (s : State) (n : ℕ) (body : List ℕ) → AllCanBeSent s (EditorFrame n body) → Each CanBeSent (answer_messages s n body)
answers_can_be_sent s n body all = each_of_all CanBeSent (messages_back s n (id_of (message_of body)) (outcome_of s n (message_of body))) (back_can_be_sent s n body all)

-- a connection stands somewhere among these
pub record StandsAmong (k : ℕ) (links : Links) (connections : List (ℕ × Links)) : Type 0 where
  pub before : List (ℕ × Links)
  pub behind : List (ℕ × Links)
  pub is : connections ≡ before ++ (k, links) ∷ behind

pub once_stands : (k : ℕ) (links : Links) (connections : List (ℕ × Links)) → HasOnce k links connections → StandsAmong k links connections
once_stands k links [] once = absurd once
once_stands k links (c ∷ connections) once = elim once [
  | inl here ↦ record { before = []; behind = connections; is = ap (λ (d : ℕ × Links). d ∷ connections) here.0 }
  | inr later ↦
      let rest : StandsAmong k links connections = once_stands k links connections later.1 in
      record { before = c ∷ rest.before; behind = rest.behind; is = ap (λ (cs : List (ℕ × Links)). c ∷ cs) rest.is }
]

-- another connection
pub tellings_can_be_sent : (s : State) (n : ℕ) (body : List ℕ) (k : ℕ) (links : Links) → HasOnce k links s.connections → is_number n k ≡ false
    → AllCanBeSent s (EditorFrame n body) → Each CanBeSent (others_messages s.base (outcome_of s n (message_of body)).effects links)
tellings_can_be_sent s n body k links once another all =
    let there : StandsAmong k links s.connections = once_stands k links s.connections once in
    each_of_all CanBeSent (others_messages s.base (outcome_of s n (message_of body)).effects links)
    (others_can_be_sent s n body k links there.before there.behind there.is another all)
