-- Groups that are read one after the other, and which bytes are no group.
use Rattle.std.proofs.Common.{◌≡◌, ◌≢◌, ℕ, ◌+◌, Bool, true, false, not, ◌&&◌, ◌||◌, List, [], ◌∷◌, ◌++◌, length, replicate, Result, Ok, Err, refl, sym, ap, subst, ◌∙◌, append_assoc, arith, length-append}
use Rattle.std.specs.List.{list_any, AllByRecursion}
use Rattle.std.proofs.lemmas.List.{append-nil, length-replicate, replicate-append-replicate}
use Rattle.std.proofs.lemmas.List.Concat.{flat_map-append}
use Rattle.std.proofs.lemmas.List.Folds.{list_any-append}
use Rattle.byte_format.specs.declared.faults.Outside.{Outside}
use Rattle.byte_format.specs.Format.{IsBytes}
use Rattle.byte_format.proofs.Lawful.{IsSound}
use Rattle.journal_format.specs.declared.records.Record.{Record}
use Rattle.journal_format.specs.Read.{IsOutside}
use Rattle.journal_format.specs.Image.{mark, group_field, open_group, open_groups, all_records, gates_from, is_actor, actor_is_first, AreGroups, IsPlaced, IsFirstBad}
use Rattle.journal_format.specs.Progress.{IsReadTo}
use Rattle.journal_format.proofs.EncodingLaws.{group_lawful}

-- ---- the actor's record is the first and the only one

abbrev first_true : (a b : Bool) → (a && b) ≡ true → a ≡ true
first_true true b both = refl
first_true false b both = both

behind_first : (a b c : Bool) → (a && not b) ≡ true → (a && not (b || c)) ≡ not c
behind_first true true c both = absurd cc
behind_first true false c both = refl
behind_first false b c both = absurd cc

pub actor_behind : (first : Record) (others added : List Record) → actor_is_first (first ∷ others) ≡ true
    → actor_is_first (first ∷ (others ++ added)) ≡ not (list_any is_actor added)
actor_behind first others added is =
    rw (list_any-append is_actor others added) (behind_first (is_actor first) (list_any is_actor others) (list_any is_actor added) is)

-- ---- one group more

each_more : {X : Type 0} (P : X → Type 0) (xs : List X) (x : X) → AllByRecursion P xs → P x → AllByRecursion P (xs ++ x ∷ [])
each_more P [] x each here = (here, tt)
each_more P (y ∷ xs) x each here = (each.0, each_more P xs x each.1 here)

pub open_groups-push : (groups : List (List Record)) (group : List Record) → open_groups (groups ++ group ∷ []) ≡ open_groups groups ++ open_group group
open_groups-push groups group = flat_map-append open_group groups (group ∷ []) ∙ ap (λ (l : List ℕ). open_groups groups ++ l) (append-nil (open_group group))

pub all_records-push : (groups : List (List Record)) (group : List Record) → all_records (groups ++ group ∷ []) ≡ all_records groups ++ group
all_records-push groups group = flat_map-append (λ g. g) groups (group ∷ []) ∙ ap (λ (l : List Record). all_records groups ++ l) (append-nil group)

pub gates_from-push : (place : ℕ) (groups : List (List Record)) (group : List Record)
    → gates_from place (groups ++ group ∷ []) ≡ gates_from place groups ++ replicate (length group) (place + length (open_groups groups))
gates_from-push place [] group = append-nil (replicate (length group) place) ∙ ap (λ (k : ℕ). replicate (length group) k) (omega arith)
gates_from-push place (g ∷ groups) group =
    let next = place + length (open_group g) in
    let further : next + length (open_groups groups) ≡ place + length (open_group g ++ open_groups groups) = omega (arith, length-append (open_group g) (open_groups groups)) in
    ap (λ (l : List ℕ). replicate (length g) place ++ l) (gates_from-push next groups group ∙ ap (λ (k : ℕ). gates_from next groups ++ replicate (length group) k) further)
    ∙ sym (append_assoc (replicate (length g) place) (gates_from next groups) (replicate (length group) (place + length (open_groups (g ∷ groups)))))

pub groups-push : (groups : List (List Record)) (group : List Record) → AreGroups groups → group_field.Fits group
    → actor_is_first (all_records groups ++ group) ≡ true → AreGroups (groups ++ group ∷ [])
groups-push groups group good fits actor = record {
  each = each_more group_field.Fits groups group good.each fits;
  actor = ap actor_is_first (all_records-push groups group) ∙ actor;
}

-- what was read as a group is one
pub group_read : (behind : List ℕ) (group : List Record) (rest : List ℕ) → IsBytes behind → group_field.reads behind ≡ Ok (group, rest)
    → group_field.Fits group × (behind ≡ group_field.spelled group ++ rest)
group_read behind group rest fits read = subst (IsSound group_field behind) read (group_lawful.sound behind fits)

-- a group was read behind an open gate
pub reads_on : (bytes : List ℕ) (recorded : List Record) (gates : List ℕ) (end : ℕ) (group : List Record) (behind rest : List ℕ)
    → IsReadTo bytes recorded gates end (1 ∷ behind) → behind ≡ group_field.spelled group ++ rest → group_field.Fits group
    → actor_is_first (recorded ++ group) ≡ true
    → IsReadTo bytes (recorded ++ group) (gates ++ replicate (length group) end) (end + length (open_group group)) rest
reads_on bytes recorded gates end group behind rest so_far is fits actor =
    let groups = so_far.groups in
    let joined : open_groups groups ++ (1 ∷ behind) ≡ open_groups (groups ++ group ∷ []) ++ rest =
    ap (λ (l : List ℕ). open_groups groups ++ (1 ∷ l)) is ∙ sym (append_assoc (open_groups groups) (open_group group) rest)
    ∙ ap (λ (l : List ℕ). l ++ rest) (sym (open_groups-push groups group)) in
    record {
      groups = groups ++ group ∷ [];
      spelling = so_far.spelling ∙ ap (λ (l : List ℕ). mark ++ l) joined;
      records_are = ap (λ (l : List Record). l ++ group) so_far.records_are ∙ sym (all_records-push groups group);
      gates_are = ap (λ (l : List ℕ). l ++ replicate (length group) end) so_far.gates_are
          ∙ ap (λ (k : ℕ). gates_from (length mark) groups ++ replicate (length group) k) (so_far.end_is ∙ length-append mark (open_groups groups))
          ∙ sym (gates_from-push (length mark) groups group);
      end_is = omega (
        arith,
        so_far.end_is,
        ap length (open_groups-push groups group),
        length-append (open_groups groups) (open_group group),
        length-append mark (open_groups groups),
        length-append mark (open_groups (groups ++ group ∷ [])),
      );
      good = groups-push groups group so_far.good fits (ap (λ (l : List Record). actor_is_first (l ++ group)) (sym so_far.records_are) ∙ actor);
    }

-- one of the same more
pub replicate_more : (gate i : ℕ) → replicate (i + 1) gate ≡ replicate i gate ++ gate ∷ []
replicate_more gate i = sym (replicate-append-replicate i 1 gate)

pub read_length : (bytes : List ℕ) (recorded : List Record) (gates : List ℕ) (end : ℕ) (rest : List ℕ) → IsReadTo bytes recorded gates end rest
    → length bytes ≡ end + length rest
read_length bytes recorded gates end rest so_far =
    omega (
      arith,
      ap length so_far.spelling,
      so_far.end_is,
      length-append mark (open_groups so_far.groups ++ rest),
      length-append mark (open_groups so_far.groups),
      length-append (open_groups so_far.groups) rest,
    )

-- the gate that was reached is closed
pub ends_closed : (bytes : List ℕ) (recorded : List Record) (gates : List ℕ) (end gate : ℕ) (rest : List ℕ) → IsReadTo bytes recorded gates end (gate ∷ rest) → gate ≢ 1
    → IsPlaced bytes recorded gates end
ends_closed bytes recorded gates end gate rest so_far closed = record {
  groups = so_far.groups;
  image = record { gate = gate; rest = rest; spelling = so_far.spelling; closed = closed; good = so_far.good };
  records_are = so_far.records_are;
  gates_are = so_far.gates_are;
  end_is = so_far.end_is;
}

-- ---- no group

each_last : {X : Type 0} (P : X → Type 0) (xs : List X) (x : X) → AllByRecursion P (xs ++ x ∷ []) → P x
each_last P [] x each = each.0
each_last P (y ∷ xs) x each = each_last P xs x each.1

is_bad : (bytes : List ℕ) (recorded : List Record) (gates : List ℕ) (end : ℕ) (behind : List ℕ) → IsReadTo bytes recorded gates end (1 ∷ behind)
    → ((group : List Record) (next : ℕ) (rest : List ℕ) → behind ≡ group_field.spelled group ++ next ∷ rest → group_field.Fits group
    → actor_is_first (recorded ++ group) ≡ true → ⊥)
    → IsFirstBad bytes end
is_bad bytes recorded gates end behind so_far none = record {
  groups = so_far.groups;
  behind = behind;
  spelling = so_far.spelling;
  place_is = so_far.end_is;
  good = so_far.good;
  bad = λ group next rest is good.
      none group next rest is (each_last group_field.Fits so_far.groups group good.each)
      (ap (λ (l : List Record). actor_is_first (l ++ group)) so_far.records_are ∙ ap actor_is_first (sym (all_records-push so_far.groups group)) ∙ good.actor);
}

-- bytes that begin with a group are read as it
read_as : (group : List Record) (next : ℕ) (rest behind : List ℕ) → behind ≡ group_field.spelled group ++ next ∷ rest → group_field.Fits group
    → group_field.reads behind ≡ Ok (group, next ∷ rest)
read_as group next rest behind is fits = ap group_field.reads is ∙ group_lawful.again group (next ∷ rest) fits

read_or : List Record × List ℕ → Result (List Record × List ℕ) Outside → List Record × List ℕ
read_or any (Ok read) = read
read_or any (Err fault) = any

pub same_read : (reading : Result (List Record × List ℕ) Outside) (a b : List Record × List ℕ) → reading ≡ Ok a → reading ≡ Ok b → a ≡ b
unfolding read_or
same_read reading a b first second = ap (read_or a) (sym first ∙ second)

pub outside_is_bad : (bytes : List ℕ) (recorded : List Record) (gates : List ℕ) (end : ℕ) (behind : List ℕ) → IsReadTo bytes recorded gates end (1 ∷ behind)
    → IsOutside (group_field.reads behind) → IsFirstBad bytes end
outside_is_bad bytes recorded gates end behind so_far outside =
    is_bad bytes recorded gates end behind so_far (λ group next rest is fits actor. subst IsOutside (read_as group next rest behind is fits) outside)

pub ended_is_bad : (bytes : List ℕ) (recorded : List Record) (gates : List ℕ) (end : ℕ) (behind : List ℕ) (read : List Record) (after : List ℕ)
    → IsReadTo bytes recorded gates end (1 ∷ behind) → group_field.reads behind ≡ Ok (read, after) → length after ≡ 0 → IsFirstBad bytes end
ended_is_bad bytes recorded gates end behind read after so_far reads none =
    is_bad bytes recorded gates end behind so_far (λ group next rest is fits actor.
    let same : (read, after) ≡ (group, next ∷ rest) = same_read (group_field.reads behind) (read, after) (group, next ∷ rest) reads (read_as group next rest behind is fits) in
    omega (arith, none, ap (λ x. length x.1) same))

pub actor_is_bad : (bytes : List ℕ) (recorded : List Record) (gates : List ℕ) (end : ℕ) (behind : List ℕ) (read : List Record) (after : List ℕ)
    → IsReadTo bytes recorded gates end (1 ∷ behind) → group_field.reads behind ≡ Ok (read, after) → actor_is_first (recorded ++ read) ≡ false → IsFirstBad bytes end
actor_is_bad bytes recorded gates end behind read after so_far reads bad =
    is_bad bytes recorded gates end behind so_far (λ group next rest is fits actor.
    let same : (read, after) ≡ (group, next ∷ rest) = same_read (group_field.reads behind) (read, after) (group, next ∷ rest) reads (read_as group next rest behind is fits) in
    let first : actor_is_first (recorded ++ read) ≡ true = ap (λ x. actor_is_first (recorded ++ x.0)) same ∙ actor in
    cc)

-- a gate for each record
gates_long : (place : ℕ) (groups : List (List Record)) → length (gates_from place groups) ≡ length (all_records groups)
gates_long place [] = refl
gates_long place (g ∷ groups) =
    let next = place + length (open_group g) in
    omega (
      arith,
      length-append (replicate (length g) place) (gates_from next groups),
      length-replicate (length g) place,
      gates_long next groups,
      length-append g (all_records groups),
    )

pub placed_long : (bytes : List ℕ) (recorded : List Record) (gates : List ℕ) (end : ℕ) → IsPlaced bytes recorded gates end → length gates ≡ length recorded
placed_long bytes recorded gates end placed =
    ap length placed.gates_are ∙ gates_long (length mark) placed.groups ∙ ap length (sym placed.records_are)
