-- Tests of ids and of paths: both ways round they are one.
use Rattle.std.proofs.Common.{◌≡◌, ℕ, Bool, true, false, ◌↔◌, IsTrue, refl, sym, ap, ◌∙◌, subst, List}
use Rattle.std.specs.Ordering.{is_eq}
use Rattle.std.specs.Cmp.Lexicographic.{nat_list_cmp_total}
use Rattle.std.proofs.lemmas.Cmp.{tied_itself}
use Rattle.tt_base.specs.declared.ids.ElemId.{ElemId}
use Rattle.replica_dir.specs.Ids.{is_id, is_path}
use Rattle.replica_dir.proofs.IdLemmas.{id_same, path_same}
use Rattle.replica_text.specs.Ids.{same}
use Rattle.replica_text.proofs.OrderLemmas.{same_one, same_self}
use Rattle.replica_views.proofs.DirectoryLemmas.{is_itself}

pub same_is : (a b : ElemId) → same a b ≡ is_id a b
unfolding same
same_is a b = refl

pub id_turned : (a b : ElemId) → is_id a b ≡ is_id b a
id_turned a b = by (is_id a b) refl (is_id b a) refl where
  by : (x : Bool) → is_id a b ≡ x → (y : Bool) → is_id b a ≡ y → is_id a b ≡ is_id b a
  by true here true there = here ∙ sym there
  by false apart false other = apart ∙ sym other
  by true here false other =
      let one : is_id b a ≡ true = subst (λ (q : ElemId). is_id q a ≡ true) (id_same a b here) (is_itself a) in
      let never : true ≡ false = sym one ∙ other in cc
  by false apart true there =
      let one : is_id a b ≡ true = subst (λ (q : ElemId). is_id q b ≡ true) (id_same b a there) (is_itself b) in
      let never : true ≡ false = sym one ∙ apart in cc

pub path_itself : (path : List ℕ) → is_path path path ≡ true
path_itself path = ap is_eq (tied_itself nat_list_cmp_total path)

pub path_turned : (a b : List ℕ) → is_path a b ≡ is_path b a
path_turned a b = by (is_path a b) refl (is_path b a) refl where
  by : (x : Bool) → is_path a b ≡ x → (y : Bool) → is_path b a ≡ y → is_path a b ≡ is_path b a
  by true here true there = here ∙ sym there
  by false apart false other = apart ∙ sym other
  by true here false other =
      let one : is_path b a ≡ true = subst (λ (q : List ℕ). is_path q a ≡ true) (path_same a b here) (path_itself a) in
      let never : true ≡ false = sym one ∙ other in cc
  by false apart true there =
      let one : is_path a b ≡ true = subst (λ (q : List ℕ). is_path q b ≡ true) (path_same b a there) (path_itself b) in
      let never : true ≡ false = sym one ∙ apart in cc

pub equals_same : (r : Bool) (a b : ElemId) → IsTrue r ↔ (a ≡ b) → r ≡ same a b
equals_same true a b is = sym (ap (same a) (sym (is.0 refl)) ∙ same_self a)
equals_same false a b is = by (same a b) refl where
  by : (x : Bool) → same a b ≡ x → false ≡ same a b
  by true here = let never : false ≡ true = is.1 (same_one a b here) in cc
  by false apart = sym apart
