-- A store that has learnt a change, from its history and its staged records.
use Rattle.std.proofs.Common.{◌≡◌, Bool, true, false, List, Result, Ok, Err, IsTrue, refl, sym, ap, ◌∙◌, subst}
use Rattle.std.specs.Prelude.{IfOk, IfErr}
use Rattle.change_codec.specs.Change.{Change}
use Rattle.change_graph.specs.History.{History}
use Rattle.change_graph.specs.declared.faults.GraphFault.{GraphFault}
use Rattle.change_graph.specs.declared.faults.GraphFault.TheVariants.{Clash, MissingDeps, BadChange, Memory}
use Rattle.journal_format.specs.declared.records.Record.{Record}
use Rattle.replica_store.specs.Store.{StoreView, IsStore}
use Rattle.replica_store.specs.Calls.{with_staged, IsNotAdded}
use Rattle.replica_store.proofs.RecordLemmas.{store_staged}
use Rattle.replica_disk.specs.Learning.{IsLearnt, goes_on, HoldsTheSame, HoldsMore, HoldsNoMore}
use Rattle.replica_disk.specs.declared.learning.Learnt.{Learnt}
use Rattle.replica_disk.specs.declared.learning.Learnt.TheVariants as learnt

-- the store with another history and other staged records
abbrev pub with_parts : {D : Type 0} → StoreView D → History → List Record → Bool → StoreView D
with_parts store history staged live = record store { history = history; staged = staged; live = live }

module _ {D : Type 0} (old : StoreView D) (live : IsTrue old.live) (change : Change) (history : History) (staged : List Record) where
  pub unchanged : (b : Bool) → b ≡ true → HoldsTheSame old.history old.staged history staged → with_parts old history staged b ≡ old
  unchanged b on same =
      ap (λ (h : History). with_parts old h staged b) same.history_is
      ∙ ap (λ (s : List Record). with_parts old old.history s b) same.staged_is
      ∙ ap (λ (l : Bool). with_parts old old.history old.staged l) (on ∙ sym live)

  pub added : (b : Bool) → b ≡ true → history ≡ (with_staged old change).history → staged ≡ (with_staged old change).staged → with_parts old history staged b ≡ with_staged old change
  added b on history_is staged_is =
      ap (λ (h : History). with_parts old h staged b) history_is
      ∙ ap (λ (s : List Record). with_parts old (with_staged old change).history s b) staged_is
      ∙ ap (λ (l : Bool). with_parts old (with_staged old change).history (with_staged old change).staged l) (on ∙ sym live)

  pub learns : (answer : Result Learnt GraphFault) → IfOk answer (HoldsMore old.history old.staged change history staged)
      → IfOk answer (IsLearnt old change (with_parts old history staged (goes_on answer)))
  learns (Ok learnt.Repeat) more = record { held = more.0; new_is = unchanged true refl more.1 }
  learns (Ok (learnt.Added effects)) more = record { may = more.may; new_is = added true refl more.history_is more.staged_is; are_effects = more.are_effects }
  learns (Err fault) more = tt

  pub refuses : (answer : Result Learnt GraphFault) → IfErr answer (HoldsNoMore old.history old.staged change history staged)
      → IfErr answer (IsNotAdded old change (with_parts old history staged (goes_on answer)))
  refuses (Ok any) none = tt
  refuses (Err (Clash held given)) none = (none.0, unchanged true refl none.1)
  refuses (Err (MissingDeps names)) none = (none.0, unchanged true refl none.1)
  refuses (Err (BadChange place cause)) none = (none.0, unchanged true refl none.1)
  refuses (Err Memory) none = refl

  -- it is a store again, unless memory ran out
  pub goes_on_as_store : (answer : Result Learnt GraphFault) → IfOk answer (HoldsMore old.history old.staged change history staged)
      → IfErr answer (HoldsNoMore old.history old.staged change history staged) → IsStore old
      → IsTrue (goes_on answer) → IsStore (with_parts old history staged (goes_on answer))
  goes_on_as_store (Ok learnt.Repeat) more none is on = subst IsStore (sym (unchanged true refl more.1)) is
  goes_on_as_store (Ok (learnt.Added effects)) more none is on = subst IsStore (sym (added true refl more.history_is more.staged_is)) (store_staged old change is more.may)
  goes_on_as_store (Err (Clash held given)) more none is on = subst IsStore (sym (unchanged true refl none.1)) is
  goes_on_as_store (Err (MissingDeps names)) more none is on = subst IsStore (sym (unchanged true refl none.1)) is
  goes_on_as_store (Err (BadChange place cause)) more none is on = subst IsStore (sym (unchanged true refl none.1)) is
  goes_on_as_store (Err Memory) more none is on = let never : false ≡ true = on in absurd cc

  -- the same for what the code tests
  pub learns_so : (b : Bool) (answer : Result Learnt GraphFault) → b ≡ goes_on answer → IfOk answer (HoldsMore old.history old.staged change history staged)
      → IfOk answer (IsLearnt old change (with_parts old history staged b))
  learns_so b answer is more = subst (λ (l : Bool). IfOk answer (IsLearnt old change (with_parts old history staged l))) (sym is) (learns answer more)

  pub refuses_so : (b : Bool) (answer : Result Learnt GraphFault) → b ≡ goes_on answer → IfErr answer (HoldsNoMore old.history old.staged change history staged)
      → IfErr answer (IsNotAdded old change (with_parts old history staged b))
  refuses_so b answer is none = subst (λ (l : Bool). IfErr answer (IsNotAdded old change (with_parts old history staged l))) (sym is) (refuses answer none)

  pub store_so : (b : Bool) (answer : Result Learnt GraphFault) → b ≡ goes_on answer → IfOk answer (HoldsMore old.history old.staged change history staged)
      → IfErr answer (HoldsNoMore old.history old.staged change history staged) → IsStore old → IsTrue b → IsStore (with_parts old history staged b)
  store_so b answer is more none store on =
      subst (λ (l : Bool). IsStore (with_parts old history staged l)) (sym is) (goes_on_as_store answer more none store (subst IsTrue is on))
