-- Of the messages that a daemon sends for a frame, those for each connection.
use Rattle.std.proofs.Common.{◌≡◌, ℕ, ◌<◌, ◌^◌, false, List, [], ◌∷◌, ◌++◌, length, ap, subst}
use Rattle.std.specs.List.{AllByRecursion, flat_map}
use Rattle.std.specs.Prelude.{if◌then◌else◌}
use Rattle.file_uri.specs.Base.{BaseView}
use Rattle.rpc_message.specs.Messages.{message_of}
use Rattle.rpc_message.specs.Replies.{IsReply, HasSignedId}
use Rattle.rpc_message.specs.Written.{written}
use Rattle.rpc_message.specs.declared.messages.ToEditor.{ToEditor}
use Rattle.daemon_core.specs.Outcome.{Effect}
use Rattle.daemon_core.specs.Outputs.{id_of, outcome_of, others_messages}
use Rattle.daemon_core.specs.Sending.{CanBeSent, EachCanBeSent, AllCanBeSent, messages_to_others, messages_back}
use Rattle.daemon_core.specs.State.{Links, State, is_number}
use Rattle.daemon_core.specs.declared.events.Event.TheVariants.{EditorFrame}

module _ {A : Type 0} (P : A → Type 0) where
  pub all_appended : (xs ys : List A) → AllByRecursion P xs → AllByRecursion P ys → AllByRecursion P (xs ++ ys)
  all_appended [] ys front back = back
  all_appended (x ∷ xs) ys front back = (front.0, all_appended xs ys front.1 back)

  pub all_in_front : (xs ys : List A) → AllByRecursion P (xs ++ ys) → AllByRecursion P xs
  all_in_front [] ys all = tt
  all_in_front (x ∷ xs) ys all = (all.0, all_in_front xs ys all.1)

  pub all_behind : (xs ys : List A) → AllByRecursion P (xs ++ ys) → AllByRecursion P ys
  all_behind [] ys all = all
  all_behind (x ∷ xs) ys all = all_behind xs ys all.1

-- what a writer gives of a message
pub can_be_sent : (message : ToEditor) (body : List ℕ) (size : ℕ) → body ≡ written message → (HasSignedId message → IsReply body message)
    → size ≡ length body → size < 2 ^ 64 → CanBeSent message
can_be_sent message body size is reads sized small = record {
  reads = λ signed. subst (λ b. IsReply b message) is (reads signed);
  small = subst (λ n. n < 2 ^ 64) (let e : size ≡ length (written message) = rw sized (ap length is) in e) small;
}

-- the connection of a frame: what it is sent itself can be sent
pub back_can_be_sent : (s : State) (n : ℕ) (body : List ℕ) → AllCanBeSent s (EditorFrame n body)
    → EachCanBeSent (messages_back s n (id_of (message_of body)) (outcome_of s n (message_of body)))
back_can_be_sent s n body all =
    all_in_front CanBeSent (messages_back s n (id_of (message_of body)) (outcome_of s n (message_of body)))
    (flat_map (messages_to_others n s.base (outcome_of s n (message_of body)).effects) s.connections) all

-- the connections that are told of effects
pub told_can_be_sent : (n : ℕ) (base : BaseView) (effects : List Effect) (k : ℕ) (links : Links) (before behind : List (ℕ × Links)) → is_number n k ≡ false
    → EachCanBeSent (flat_map (messages_to_others n base effects) (before ++ (k, links) ∷ behind)) → EachCanBeSent (others_messages base effects links)
told_can_be_sent n base effects k links [] behind another all =
    all_in_front CanBeSent (others_messages base effects links) (flat_map (messages_to_others n base effects) behind)
    (subst (λ b. EachCanBeSent ((if b then [] else others_messages base effects links) ++ flat_map (messages_to_others n base effects) behind)) another all)
told_can_be_sent n base effects k links (c ∷ before) behind another all =
    told_can_be_sent n base effects k links before behind another
    (all_behind CanBeSent (messages_to_others n base effects c) (flat_map (messages_to_others n base effects) (before ++ (k, links) ∷ behind)) all)

-- another connection than that of a frame: what it is told can be sent
pub others_can_be_sent : (s : State) (n : ℕ) (body : List ℕ) (k : ℕ) (links : Links) (before behind : List (ℕ × Links)) → s.connections ≡ before ++ (k, links) ∷ behind
    → is_number n k ≡ false → AllCanBeSent s (EditorFrame n body)
    → EachCanBeSent (others_messages s.base (outcome_of s n (message_of body)).effects links)
others_can_be_sent s n body k links before behind is another all =
    told_can_be_sent n s.base (outcome_of s n (message_of body)).effects k links before behind another
    (subst (λ (cs : List (ℕ × Links)). EachCanBeSent (flat_map (messages_to_others n s.base (outcome_of s n (message_of body)).effects) cs)) is
    (all_behind CanBeSent (messages_back s n (id_of (message_of body)) (outcome_of s n (message_of body)))
    (flat_map (messages_to_others n s.base (outcome_of s n (message_of body)).effects) s.connections) all))
