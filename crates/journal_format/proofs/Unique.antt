-- Bytes stand for one list of groups at most, and where a gate is bad for none.
use Rattle.std.proofs.Common.{◌≡◌, ◌≢◌, ℕ, Bool, true, false, not, ◌&&◌, ◌||◌, List, [], ◌∷◌, ◌++◌, length, drop, get_or, refl, sym, ap, subst, ◌∙◌, append_assoc, arith, length-append}
use Rattle.std.specs.List.{list_any, AllByRecursion}
use Rattle.std.proofs.lemmas.List.{append-nil, append_cancel_left, nil_from_length}
use Rattle.std.proofs.lemmas.List.Concat.{flat_map-append}
use Rattle.std.proofs.lemmas.List.Folds.{list_any-append}
use Rattle.journal_format.specs.declared.records.Record.{Record}
use Rattle.journal_format.specs.Image.{mark, group_field, open_group, open_groups, all_records, is_actor, actor_is_first, AreGroups, IsImage, IsFirstBad}
use Rattle.journal_format.proofs.EncodingLaws.{group_lawful}
use Rattle.journal_format.proofs.ImageLaws.{same_read}

-- a group, and what stands behind it
abbrev before : List Record → List ℕ → List Record × List ℕ
before group behind = (group, behind)

-- bytes that begin with a group begin with no other, and the same stands behind it
same_group : (a b : List Record) (behind_a behind_b : List ℕ) → group_field.Fits a → group_field.Fits b
    → group_field.spelled a ++ behind_a ≡ group_field.spelled b ++ behind_b → before a behind_a ≡ before b behind_b
same_group a b behind_a behind_b a_fits b_fits is =
    same_read (group_field.reads (group_field.spelled a ++ behind_a)) (a, behind_a) (b, behind_b) (group_lawful.again a behind_a a_fits)
    (ap group_field.reads is ∙ group_lawful.again b behind_b b_fits)

-- the groups behind a first one, and what follows them
regrouped : (group : List Record) (groups : List (List Record)) (tail : List ℕ)
    → open_groups (group ∷ groups) ++ tail ≡ 1 ∷ (group_field.spelled group ++ (open_groups groups ++ tail))
regrouped group groups tail = append_assoc (open_group group) (open_groups groups) tail

-- the first of two lists of groups on the same bytes, and the others with what follows them
same_first : (g : List Record) (gs : List (List Record)) (h : List Record) (hs : List (List Record)) (s t : List ℕ) → group_field.Fits g → group_field.Fits h
    → open_groups (g ∷ gs) ++ s ≡ open_groups (h ∷ hs) ++ t → before g (open_groups gs ++ s) ≡ before h (open_groups hs ++ t)
same_first g gs h hs s t g_fits h_fits is =
    same_group g h (open_groups gs ++ s) (open_groups hs ++ t) g_fits h_fits (ap (drop 1) (sym (regrouped g gs s) ∙ is ∙ regrouped h hs t))

head_of : (x y : ℕ) (xs ys : List ℕ) → x ∷ xs ≡ y ∷ ys → x ≡ y
head_of x y xs ys is = ap (λ (l : List ℕ). get_or l 0 0) is

pub same_groups : (xs ys : List (List Record)) (a b : ℕ) (s t : List ℕ) → AllByRecursion group_field.Fits xs → AllByRecursion group_field.Fits ys
    → open_groups xs ++ a ∷ s ≡ open_groups ys ++ b ∷ t → a ≢ 1 → b ≢ 1 → xs ≡ ys
same_groups [] [] a b s t xs_fit ys_fit is a_closed b_closed = refl
same_groups [] (h ∷ ys) a b s t xs_fit ys_fit is a_closed b_closed =
    absurd (a_closed (head_of a 1 s (group_field.spelled h ++ (open_groups ys ++ b ∷ t)) (is ∙ regrouped h ys (b ∷ t))))
same_groups (g ∷ xs) [] a b s t xs_fit ys_fit is a_closed b_closed =
    absurd (b_closed (head_of b 1 t (group_field.spelled g ++ (open_groups xs ++ a ∷ s)) (sym is ∙ regrouped g xs (a ∷ s))))
same_groups (g ∷ xs) (h ∷ ys) a b s t xs_fit ys_fit is a_closed b_closed =
    let first = same_first g xs h ys (a ∷ s) (b ∷ t) xs_fit.0 ys_fit.0 is in
    let others : xs ≡ ys = same_groups xs ys a b s t xs_fit.1 ys_fit.1 (ap (λ x. x.1) first) a_closed b_closed in
    ap (λ gs. g ∷ gs) others ∙ ap (λ x. x.0 ∷ ys) first

pub one_image : (bytes : List ℕ) (xs ys : List (List Record)) → IsImage bytes xs → IsImage bytes ys → xs ≡ ys
one_image bytes xs ys a b =
    same_groups xs ys a.gate b.gate a.rest b.rest a.good.each b.good.each
    (append_cancel_left mark (open_groups xs ++ a.gate ∷ a.rest) (open_groups ys ++ b.gate ∷ b.rest) (sym a.spelling ∙ b.spelling)) a.closed b.closed

-- ---- a bad gate

first_any : (a b c : Bool) → (a && not (b || c)) ≡ true → (a && not b) ≡ true
first_any true true c is = is
first_any true false c is = refl
first_any false b c is = is

actor_in_front : (front others : List Record) → actor_is_first (front ++ others) ≡ true → actor_is_first front ≡ true
actor_in_front [] others is = refl
actor_in_front (r ∷ front) others is =
    let both : (is_actor r && not (list_any is_actor front || list_any is_actor others)) ≡ true = rw (list_any-append is_actor front others) at is in
    first_any (is_actor r) (list_any is_actor front) (list_any is_actor others) both

each_in_front : {X : Type 0} (P : X → Type 0) (xs ys : List X) → AllByRecursion P (xs ++ ys) → AllByRecursion P xs
each_in_front P [] ys each = tt
each_in_front P (x ∷ xs) ys each = (each.0, each_in_front P xs ys each.1)

-- groups in front of others may stand where all may
groups_in_front : (xs ys : List (List Record)) → AreGroups (xs ++ ys) → AreGroups xs
groups_in_front xs ys good = record {
  each = each_in_front group_field.Fits xs ys good.each;
  actor = actor_in_front (all_records xs) (all_records ys) (ap actor_is_first (sym (flat_map-append (λ g. g) xs ys)) ∙ good.actor);
}

-- a gate behind groups is not nothing
next_gate : (groups : List (List Record)) (x : ℕ) (rest : List ℕ) → (next : ℕ) × (behind : List ℕ) × (open_groups groups ++ x ∷ rest ≡ next ∷ behind)
next_gate [] x rest = (x, rest, refl)
next_gate (g ∷ groups) x rest = (1, group_field.spelled g ++ (open_groups groups ++ x ∷ rest), regrouped g groups (x ∷ rest))

-- no group may stand at the gate behind these bytes, with a byte behind it
abbrev IsBad : List (List Record) → List ℕ → Type 0
IsBad groups behind = (group : List Record) (next : ℕ) (rest : List ℕ) → behind ≡ group_field.spelled group ++ next ∷ rest → AreGroups (groups ++ group ∷ []) → ⊥

-- where a bad gate stands behind groups, all groups on the same bytes stand before it, and a gate behind them is open
before_bad : (done xs ys : List (List Record)) (behind : List ℕ) (x : ℕ) (rest : List ℕ) → AllByRecursion group_field.Fits xs → AreGroups (done ++ ys)
    → open_groups xs ++ 1 ∷ behind ≡ open_groups ys ++ x ∷ rest → IsBad (done ++ xs) behind → (x ≡ 1) × ((more : List (List Record)) × (xs ≡ ys ++ more))
before_bad done [] [] behind x rest xs_fit good is bad = (sym (head_of 1 x behind rest is), ([], refl))
before_bad done [] (h ∷ ys) behind x rest xs_fit good is bad =
    let next = next_gate ys x rest in
    let inside : behind ≡ group_field.spelled h ++ next.0 ∷ next.1 =
    ap (drop 1) (is ∙ regrouped h ys (x ∷ rest)) ∙ ap (λ (l : List ℕ). group_field.spelled h ++ l) next.2 in
    let one_more : AreGroups (done ++ h ∷ []) = groups_in_front (done ++ h ∷ []) ys (subst AreGroups (sym (append_assoc done (h ∷ []) ys)) good) in
    absurd (bad h next.0 next.1 inside (subst (λ gs. AreGroups (gs ++ h ∷ [])) (sym (append-nil done)) one_more))
before_bad done (g ∷ xs) [] behind x rest xs_fit good is bad =
    (head_of x 1 rest (group_field.spelled g ++ (open_groups xs ++ 1 ∷ behind)) (sym is ∙ regrouped g xs (1 ∷ behind)), (g ∷ xs, refl))
before_bad done (g ∷ xs) (h ∷ ys) behind x rest xs_fit good is bad =
    let h_fits : group_field.Fits h = (each_behind group_field.Fits done (h ∷ ys) good.each).0 in
    let first = same_first g xs h ys (1 ∷ behind) (x ∷ rest) xs_fit.0 h_fits is in
    let same : g ≡ h = ap (λ x. x.0) first in
    let good_on : AreGroups ((done ++ g ∷ []) ++ ys) = subst AreGroups (ap (λ k. done ++ k ∷ ys) (sym same) ∙ sym (append_assoc done (g ∷ []) ys)) good in
    let bad_on : IsBad ((done ++ g ∷ []) ++ xs) behind = subst (λ gs. IsBad gs behind) (sym (append_assoc done (g ∷ []) xs)) bad in
    let others = before_bad (done ++ g ∷ []) xs ys behind x rest xs_fit.1 good_on (ap (λ x. x.1) first) bad_on in
    (others.0, (others.1.0, ap (λ gs. g ∷ gs) others.1.1 ∙ ap (λ k. k ∷ (ys ++ others.1.0)) same))
  where
    each_behind : {X : Type 0} (P : X → Type 0) (xs ys : List X) → AllByRecursion P (xs ++ ys) → AllByRecursion P ys
    each_behind P [] ys each = each
    each_behind P (x ∷ xs) ys each = each_behind P xs ys each.1

pub bad_is_no_image : (bytes : List ℕ) (place : ℕ) (groups : List (List Record)) → IsFirstBad bytes place → IsImage bytes groups → ⊥
bad_is_no_image bytes place groups bad image =
    let same = append_cancel_left mark (open_groups bad.groups ++ 1 ∷ bad.behind) (open_groups groups ++ image.gate ∷ image.rest) (sym bad.spelling ∙ image.spelling) in
    image.closed (before_bad [] bad.groups groups bad.behind image.gate image.rest bad.good.each image.good same bad.bad).0

pub one_bad_gate : (bytes : List ℕ) (a b : ℕ) → IsFirstBad bytes a → IsFirstBad bytes b → a ≡ b
one_bad_gate bytes a b first second =
    let same = append_cancel_left mark (open_groups first.groups ++ 1 ∷ first.behind) (open_groups second.groups ++ 1 ∷ second.behind) (sym first.spelling ∙ second.spelling) in
    let one = (before_bad [] first.groups second.groups first.behind 1 second.behind first.good.each second.good same first.bad).1 in
    let other = (before_bad [] second.groups first.groups second.behind 1 first.behind second.good.each first.good (sym same) second.bad).1 in
    let none : one.0 ≡ [] =
    nil_from_length one.0 (omega (arith, ap length one.1, ap length other.1, length-append second.groups one.0, length-append first.groups other.0)) in
    let groups : first.groups ≡ second.groups = one.1 ∙ ap (λ gs. second.groups ++ gs) none ∙ append-nil second.groups in
    first.place_is ∙ ap (λ gs. length (mark ++ open_groups gs)) groups ∙ sym second.place_is
