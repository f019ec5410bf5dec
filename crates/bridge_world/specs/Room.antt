-- One text of a daemon and its editors, as lists, and what can happen: the plain machine, and the same with
-- counts.
use Rattle.std.specs.Prelude.{ℕ, ◌==◌, Bool, true, not, List, [], ◌∷◌, ◌++◌, length, map, Option, Some, None, option_and_then}
use Rattle.delta.specs.Cells.{Cells, applied, base_length}
use Rattle.bridge_world.specs.Lists.{one_and_others, same, only_if}
use Rattle.std.specs.Prelude.{slice_get}
use Rattle.bridge_world.specs.Plain as P
use Rattle.bridge_world.specs.Counted as N
use Rattle.bridge_world.specs.Plain.{Closed, is_closed, Verdict}

-- the daemon's text and its editors, in the order in which they came
pub record Room (A : Type 0) : Type 0 where
  pub view : List ℕ
  pub editors : List A

-- what can happen. Editors are told by their number, from 0. A message is handled as the daemon judges it,
-- where its link could take it, and a change of the text comes from elsewhere. An open of a file that was
-- absent is a change of the text from elsewhere, and then the open.
pub data Move : Type 0 where
  Joins : (text : List ℕ) → Move
  Types : (n : ℕ) → (p : Cells) → Move
  Opens : (n : ℕ) → Move
  Closes : (n : ℕ) → Move
  Loses : (n : ℕ) → Move
  Handles : (n : ℕ) → (verdict : Verdict) → Move
  Delivers : (n : ℕ) → Move
  Pushes : (d : Cells) → Move

-- an editor that may do so does something of its own
abbrev pub at_editor : {A : Type 0} → (A → Bool) → (A → A) → ℕ → Room A → Option (Room A)
at_editor may f n w =
    option_and_then (λ x. only_if (may x) (record w { editors = one_and_others f same n w.editors })) (slice_get w.editors n)

-- a text after a change, if there is one
abbrev pub changed : Option Cells → List ℕ → List ℕ
changed None view = view
changed (Some d) view = applied d view

-- an editor is told of a change, if there is one
abbrev pub told_of : {A : Type 0} → (Cells → A → A) → Option Cells → A → A
told_of told None x = x
told_of told (Some d) x = told d x

-- a message of an editor is handled, and all others are told what it changes in the text
abbrev pub with_handled : {A : Type 0} → (List ℕ → A → A) → (Cells → A → A) → Option Cells → ℕ → Room A → Room A
with_handled handled told effect n w =
    record {
      view = changed effect w.view;
      editors = one_and_others (handled (changed effect w.view)) (told_of told effect) n w.editors;
    }

-- an editor with a text, before its first open
abbrev pub new_plain : List ℕ → P.Editor
new_plain text =
    record { text = text; state = Closed; session = 0; sent = []; wire = []; link = None }

-- the same with counts
abbrev pub new_counted : List ℕ → N.Editor
new_counted text =
    record { text = text; state = Closed; session = 0; own = 0; shown = 0; sent = []; wire = []; link = None }

-- the plain machine: the room after a move, where the move is possible
abbrev pub plain_step : Move → Room P.Editor → Option (Room P.Editor)
plain_step (Joins text) w = Some (record w { editors = w.editors ++ P.opened (new_plain text) ∷ [] })
plain_step (Types n p) w = at_editor (λ (x : P.Editor). base_length p == length x.text) (P.typed p) n w
plain_step (Opens n) w = at_editor (λ (x : P.Editor). is_closed x.state) P.opened n w
plain_step (Closes n) w = at_editor (λ (x : P.Editor). not (is_closed x.state)) P.closed n w
plain_step (Loses n) w = at_editor (λ x. true) P.lost n w
plain_step (Handles n verdict) w =
    option_and_then (λ (x : P.Editor). Some (with_handled (P.handled verdict) P.told (P.effect verdict x) n w)) (slice_get w.editors n)
plain_step (Delivers n) w = at_editor (λ x. true) P.delivered n w
plain_step (Pushes d) w =
    only_if (base_length d == length w.view) (record { view = applied d w.view; editors = map (P.told d) w.editors })

-- the same with counts, where the daemon refuses edits by their numbers too
abbrev pub counted_step : Move → Room N.Editor → Option (Room N.Editor)
counted_step (Joins text) w = Some (record w { editors = w.editors ++ N.opened (new_counted text) ∷ [] })
counted_step (Types n p) w = at_editor (λ (x : N.Editor). base_length p == length x.text) (N.typed p) n w
counted_step (Opens n) w = at_editor (λ (x : N.Editor). is_closed x.state) N.opened n w
counted_step (Closes n) w = at_editor (λ (x : N.Editor). not (is_closed x.state)) N.closed n w
counted_step (Loses n) w = at_editor (λ x. true) N.lost n w
counted_step (Handles n verdict) w =
    option_and_then (λ (x : N.Editor). Some (with_handled (N.handled (N.verdict_of verdict x)) N.told (N.effect verdict x) n w)) (slice_get w.editors n)
counted_step (Delivers n) w = at_editor (λ x. true) N.delivered n w
counted_step (Pushes d) w =
    only_if (base_length d == length w.view) (record { view = applied d w.view; editors = map (N.told d) w.editors })

-- the room after all these moves, where each is possible in turn
abbrev pub run : {A : Type 0} → (Move → Room A → Option (Room A)) → List Move → Room A → Option (Room A)
run step [] w = Some w
run step (m ∷ moves) w = option_and_then (λ v. run step moves v) (step m w)

-- a text without editors
abbrev pub empty_room : {A : Type 0} → List ℕ → Room A
empty_room view = record { view = view; editors = [] }

-- what is left of a room with counts without them
abbrev pub plain_room : Room N.Editor → Room P.Editor
plain_room w = record { view = w.view; editors = map N.plain_of w.editors }
