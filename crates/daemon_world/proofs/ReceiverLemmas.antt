-- Who has a connection, as the number of it tells.
use Rattle.std.proofs.Common.{◌≡◌, ℕ, ◌-◌, ◌≤◌, ◌<◌, List, length, get_or, Some, sym, ap, ◌∙◌, arith}
use Rattle.std.specs.Prelude.{slice_get}
use Rattle.std.proofs.lemmas.Option.{slice_get_within}
use Rattle.bridge_world.proofs.RoomLemmas.{got}
use Rattle.plain_world.specs.declared.TheConstants.{FIRST_OWN}
use Rattle.kept_world.specs.Worlds.{KeptEditor, KeptWorld, editor_of}
use Rattle.daemon_world.specs.Order.{IsOrderly}
use Rattle.daemon_world.specs.Serving.{HasNobody, HasReceiver}

-- one that the script feeds is no editor's
pub nobody_on_fed : (k : KeptWorld) (owners : List ℕ) (d n : ℕ) → IsOrderly k owners → n < FIRST_OWN → HasNobody k d n
nobody_on_fed k owners d n orderly fed = record {
  nobody = λ e x at here on. let own = (orderly.connected e n x at on).own in omega (arith, own, fed);
}

-- one that was not begun is nobody's
pub nobody_on_new : (k : KeptWorld) (owners : List ℕ) (d n : ℕ) → IsOrderly k owners → length owners ≤ n - FIRST_OWN → HasNobody k d n
nobody_on_new k owners d n orderly past = record {
  nobody = λ e x at here on.
      let within = slice_get_within owners (n - FIRST_OWN) e (orderly.connected e n x at on).owner in omega (arith, within, past);
}

-- nobody but the editor that it was begun for has it
pub owner_alone : (k : KeptWorld) (owners : List ℕ) (d n e : ℕ) → IsOrderly k owners → slice_get owners (n - FIRST_OWN) ≡ Some e
    → ((x : KeptEditor) → editor_of k e ≡ Some x → x.daemon ≡ d → x.connection ≡ Some n → ⊥) → HasNobody k d n
owner_alone k owners d n e orderly is never = record {
  nobody = λ i x at here on.
      let both : Some i ≡ Some e = sym (orderly.connected i n x at on).owner ∙ is in
      let one : i ≡ e = cc in never x (ap (editor_of k) (sym one) ∙ at) here on;
}

pub nobody_there : (k : KeptWorld) (owners : List ℕ) (d n e : ℕ) → IsOrderly k owners → slice_get owners (n - FIRST_OWN) ≡ Some e → length k.editors ≤ e
    → HasNobody k d n
nobody_there k owners d n e orderly is past =
    owner_alone k owners d n e orderly is
    (λ x at here on. let within = slice_get_within k.editors e x at in omega (arith, within, past))

-- that one has another, or none
pub nobody_else : (k : KeptWorld) (owners : List ℕ) (d n e : ℕ) (y : KeptEditor) → IsOrderly k owners → slice_get owners (n - FIRST_OWN) ≡ Some e
    → editor_of k e ≡ Some y → (y.daemon ≡ d → y.connection ≡ Some n → ⊥) → HasNobody k d n
nobody_else k owners d n e y orderly is at never =
    owner_alone k owners d n e orderly is
    (λ x found here on.
    let both : Some x ≡ Some y = sym found ∙ at in
    let one : x ≡ y = cc in
    never (ap (λ (z : KeptEditor). z.daemon) (sym one) ∙ here) (ap (λ (z : KeptEditor). z.connection) (sym one) ∙ on))

-- the editor that has it, as it is read at its place
pub record Found (k : KeptWorld) (d n e : ℕ) (x : KeptEditor) : Type 0 where
  pub there : editor_of k e ≡ Some x
  pub daemon : x.daemon ≡ d
  pub connection : x.connection ≡ Some n

pub found_at : (k : KeptWorld) (d n e : ℕ) (x : KeptEditor) → HasReceiver k d n e → x ≡ get_or k.editors e x → Found k d n e x
found_at k d n e x has read =
    let at : editor_of k e ≡ Some x = got k.editors e x (slice_get_within k.editors e has.editor has.there) read in
    let both : Some x ≡ Some has.editor = sym at ∙ has.there in
    let one : x ≡ has.editor = cc in
    record {
      there = at;
      daemon = ap (λ (z : KeptEditor). z.daemon) one ∙ has.daemon;
      connection = ap (λ (z : KeptEditor). z.connection) one ∙ has.connection;
    }
