-- What bodies under way ask, where the link moves, and where requests are added.
use Rattle.std.proofs.Common.{◌≡◌, ℕ, ◌+◌, ◌<◌, ◌≤◌, List, [], ◌∷◌, ◌++◌, Option, Some, None, inl, inr, refl, ap, ◌∙◌, arith}
use Rattle.std.specs.Option.{option_map}
use Rattle.delta.specs.Cells.{Cells}
use Rattle.bridge_world.specs.Counted.{Frame, Sent}
use Rattle.bridge_world.specs.Plain.{Kind, OpenDone, Done, Failed, New, Old}
use Rattle.bridge_world.specs.Counted as N
use Rattle.bridge_world.specs.Tie.{Stand, Place, place, edited, after, reached}
use Rattle.rpc_message.specs.declared.messages.FromEditor.{FromEditor}
use Rattle.rpc_message.specs.declared.messages.ToEditor.{ToEditor}
use Rattle.frame_world.specs.Tie.{Ids, IsOf, Asks, IsBody, AreBodies, Says, AreSaid}

-- ---- bodies, where the link has ended or stands as they say

-- where a link is there at all, it stands as before
abbrev pub Weaker : Place → Place → Type 0
Weaker a b = (there : Stand) → b.stand ≡ Some there → a.stand ≡ Some there

abbrev pub message : ℕ → N.Message → Sent
message t k = record { session = t; message = k }

weaker_edit : (p : Cells) (o q : Option Stand) → ((there : Stand) → q ≡ Some there → o ≡ Some there) → (there : Stand)
    → option_map (edited p) q ≡ Some there → option_map (edited p) o ≡ Some there
weaker_edit p o None weaker there is = cc
weaker_edit p o (Some a) weaker there is = ap (option_map (edited p)) (weaker a refl) ∙ is

pub weaker_after : (k : N.Message) (t : ℕ) (a b : Place) → Weaker a b → Weaker (after (message t k) a) (after (message t k) b)
weaker_after (N.Opens content) t a b weaker there is = is
weaker_after (N.Edits seen p) t a b weaker there is = weaker_edit p a.stand b.stand weaker there is
weaker_after N.Closes t a b weaker there is = cc

weaker_asks : (k : N.Message) (uri : List ℕ) (ids : Ids) (t id : ℕ) (a b : Place) (asked : FromEditor) → Weaker a b → Asks uri ids k t id a asked → Asks uri ids k t id b asked
weaker_asks (N.Opens content) uri ids t id a b asked weaker h = h
weaker_asks (N.Edits seen p) uri ids t id a b asked weaker h =
    (h.0, (h.1.0, (h.1.1.0, (λ there is. h.1.1.1.0 there (weaker there is), h.1.1.1.1))))
weaker_asks N.Closes uri ids t id a b asked weaker h = h

pub bodies_weaker : (uri : List ℕ) (ids : Ids) (a b : Place) (sent : List Sent) (up : List (List ℕ)) → Weaker a b → AreBodies uri ids a sent up → AreBodies uri ids b sent up
bodies_weaker uri ids a b [] [] weaker h = tt
bodies_weaker uri ids a b [] (body ∷ up) weaker h = absurd h
bodies_weaker uri ids a b (m ∷ sent) [] weaker h = absurd h
bodies_weaker uri ids a b (m ∷ sent) (body ∷ up) weaker h = (
  record { id = h.0.id; asked = h.0.asked; read = h.0.read; says = weaker_asks m.message uri ids m.session h.0.id a b h.0.asked weaker h.0.says },
  bodies_weaker uri ids (after m a) (after m b) sent up (weaker_after m.message m.session a b weaker) h.1,
)

-- no link is there
pub nowhere : (low : ℕ) (a : Place) → Weaker a (place low None)
nowhere low a there is = cc

-- the same behind messages
pub weaker_reached : (sent : List Sent) (a b : Place) → Weaker a b → Weaker (reached sent a) (reached sent b)
weaker_reached [] a b weaker = weaker
weaker_reached (m ∷ sent) a b weaker = weaker_reached sent (after m a) (after m b) (weaker_after m.message m.session a b weaker)

-- one more body at the end
pub bodies-push : (uri : List ℕ) (ids : Ids) (a : Place) (sent : List Sent) (up : List (List ℕ)) (m : Sent) (body : List ℕ) → AreBodies uri ids a sent up
    → IsBody uri ids (reached sent a) m body → AreBodies uri ids a (sent ++ m ∷ []) (up ++ body ∷ [])
bodies-push uri ids a [] [] m body h b = (b, tt)
bodies-push uri ids a [] (other ∷ up) m body h b = absurd h
bodies-push uri ids a (k ∷ sent) [] m body h b = absurd h
bodies-push uri ids a (k ∷ sent) (other ∷ up) m body h b = (h.0, bodies-push uri ids (after k a) sent up m body h.1 b)

-- ---- ids, where requests are added

-- what is of a session by some ids is of it by others
pub record GoOn (ids next : Ids) : Type 0 where
  pub opens : (t id : ℕ) → IsOf ids t id (id ≡ ids.opening) → IsOf next t id (id ≡ next.opening)
  pub later : (t id : ℕ) → IsOf ids t id (ids.opening < id) → IsOf next t id (next.opening < id)
  pub any : (t id : ℕ) → IsOf ids t id (ids.opening ≤ id) → IsOf next t id (next.opening ≤ id)

asks_on : (k : N.Message) (uri : List ℕ) (ids next : Ids) (t id : ℕ) (a : Place) (asked : FromEditor) → GoOn ids next → Asks uri ids k t id a asked → Asks uri next k t id a asked
asks_on (N.Opens content) uri ids next t id a asked go h = (h.0, go.opens t id h.1)
asks_on (N.Edits seen p) uri ids next t id a asked go h = (h.0, (h.1.0, (h.1.1.0, (h.1.1.1.0, go.later t id h.1.1.1.1))))
asks_on N.Closes uri ids next t id a asked go h = (h.0, go.later t id h.1)

pub bodies_on : (uri : List ℕ) (ids next : Ids) (a : Place) (sent : List Sent) (up : List (List ℕ)) → GoOn ids next → AreBodies uri ids a sent up → AreBodies uri next a sent up
bodies_on uri ids next a [] [] go h = tt
bodies_on uri ids next a [] (body ∷ up) go h = absurd h
bodies_on uri ids next a (m ∷ sent) [] go h = absurd h
bodies_on uri ids next a (m ∷ sent) (body ∷ up) go h = (
  record { id = h.0.id; asked = h.0.asked; read = h.0.read; says = asks_on m.message uri ids next m.session h.0.id a h.0.asked go h.0.says },
  bodies_on uri ids next (after m a) sent up go h.1,
)

says_on : (k : Kind) (uri : List ℕ) (ids next : Ids) (t r : ℕ) (m : ToEditor) → GoOn ids next → Says uri ids k t r m → Says uri next k t r m
says_on OpenDone uri ids next t r m go h = (h.0, (h.1.0, go.opens t h.0 h.1.1))
says_on Done uri ids next t r m go h = (h.0, (h.1.0, go.later t h.0 h.1.1))
says_on (Failed cause) uri ids next t r m go h = (h.0, (h.1.0, go.any t h.0 h.1.1))
says_on New uri ids next t r m go h = h
says_on Old uri ids next t r m go h = h

pub said_on : (uri : List ℕ) (ids next : Ids) (wire : List Frame) (ms : List ToEditor) → GoOn ids next → AreSaid uri ids wire ms → AreSaid uri next wire ms
said_on uri ids next [] [] go h = tt
said_on uri ids next [] (m ∷ ms) go h = absurd h
said_on uri ids next (f ∷ wire) [] go h = absurd h
said_on uri ids next (f ∷ wire) (m ∷ ms) go h = (says_on f.mark.kind uri ids next f.mark.session f.revision m go h.0, said_on uri ids next wire ms go h.1)

of_on : {A : Type 0} (opening requests session t id : ℕ) → IsOf (record { opening = opening; requests = requests; session = session }) t id A
    → IsOf (record { opening = opening; requests = requests + 1; session = session }) t id A
of_on opening requests session t id of = record { sent = omega (arith, of.sent); place = of.place }

-- one more request of the session
pub one_more : (opening requests session : ℕ) → GoOn (record { opening = opening; requests = requests; session = session })
    (record { opening = opening; requests = requests + 1; session = session })
one_more opening requests session = record {
  opens = λ t id of. of_on opening requests session t id of;
  later = λ t id of. of_on opening requests session t id of;
  any = λ t id of. of_on opening requests session t id of;
}

of_older : {A B : Type 0} (opening requests session t id : ℕ) → IsOf (record { opening = opening; requests = requests; session = session }) t id A
    → IsOf (record { opening = requests + 1; requests = requests + 1; session = session + 1 }) t id B
of_older opening requests session t id of = record {
  sent = omega (arith, of.sent);
  place = elim of.place [
    | inl mine ↦ inr (omega (arith, mine.0), omega (arith, of.sent))
    | inr older ↦ inr (omega (arith, older.0), omega (arith, of.sent))
  ];
}

-- a request that opens a new session
pub one_open : (opening requests session : ℕ) → GoOn (record { opening = opening; requests = requests; session = session })
    (record { opening = requests + 1; requests = requests + 1; session = session + 1 })
one_open opening requests session = record {
  opens = λ t id of. of_older opening requests session t id of;
  later = λ t id of. of_older opening requests session t id of;
  any = λ t id of. of_older opening requests session t id of;
}
