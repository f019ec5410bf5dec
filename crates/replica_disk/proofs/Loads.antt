-- Records that are taken one after another, up to some place.
use Rattle.std.proofs.Common.{◌≡◌, ℕ, zero, suc, ◌+◌, ◌<◌, List, [], ◌∷◌, ◌++◌, length, take, drop, get_or, sym, ap, ◌∙◌, subst, arith}
use Rattle.std.specs.List.{AllByRecursion}
use Rattle.std.proofs.lemmas.List.{take_more, drop_more, take-append-drop, length-take-le}
use Rattle.change_graph.specs.History.{History}
use Rattle.change_graph.specs.Adding.{IsRefused}
use Rattle.journal_format.specs.Encoding.{HoldsEncoding}
use Rattle.journal_format.specs.declared.records.Record.{Record}
use Rattle.replica_views.specs.Views.{beginning}
use Rattle.replica_store.specs.Records.{Notes, no_notes, with_record, history_from, notes_from, with_note, IsTaken, AreTaken, IsFirstRefused}
use Rattle.replica_store.proofs.RecordLemmas.{history-append, notes-append, taken-append}
use Rattle.replica_disk.specs.Loading.{HoldsRefused}

each_at : (rs : List Record) (i : ℕ) (d : Record) → AllByRecursion HoldsEncoding rs → i < length rs → HoldsEncoding (get_or rs i d)
each_at [] i d each inside = absurd (omega arith)
each_at (r ∷ rs) zero d each inside = each.0
each_at (r ∷ rs) (suc i) d each inside = each_at rs i d each.1 (omega arith)

module _ (rs : List Record) (i : ℕ) (x : Record) (inside : i < length rs) (is : x ≡ get_or rs i x) where
  front_more : take (i + 1) rs ≡ take i rs ++ x ∷ []
  front_more = take_more rs i x inside ∙ ap (λ (y : Record). take i rs ++ y ∷ []) (sym is)

  parts : rs ≡ take i rs ++ x ∷ drop (i + 1) rs
  parts =
      sym (take-append-drop i rs)
      ∙ ap (λ (l : List Record). take i rs ++ l) (drop_more rs i x inside ∙ ap (λ (y : Record). y ∷ drop (i + 1) rs) (sym is))

  pub history_more : (old new : History) → old ≡ history_from beginning (take i rs) → new ≡ with_record old x → new ≡ history_from beginning (take (i + 1) rs)
  history_more old new so step =
      step
      ∙ ap (λ (h : History). with_record h x) so
      ∙ sym (history-append beginning (take i rs) (x ∷ []))
      ∙ sym (ap (history_from beginning) front_more)

  pub notes_more : (old new : Notes) → old ≡ notes_from no_notes (take i rs) → new ≡ with_note old x → new ≡ notes_from no_notes (take (i + 1) rs)
  notes_more old new so step =
      step
      ∙ ap (λ (n : Notes). with_note n x) so
      ∙ sym (notes-append no_notes (take i rs) (x ∷ []))
      ∙ sym (ap (notes_from no_notes) front_more)

  pub taken_more : (old : History) → old ≡ history_from beginning (take i rs) → AreTaken beginning (take i rs) → IsTaken old x → AreTaken beginning (take (i + 1) rs)
  taken_more old so taken here =
      subst (AreTaken beginning) (sym front_more)
      (taken-append beginning (take i rs) (x ∷ []) taken (subst (λ (h : History). IsTaken h x) so here, tt))

  pub encoding_here : AllByRecursion HoldsEncoding rs → HoldsEncoding x
  encoding_here each = subst HoldsEncoding (sym is) (each_at rs i x each inside)

  -- where the records before are taken and this one is refused, it is the first
  pub refused_here : (old : History) → old ≡ history_from beginning (take i rs) → AreTaken beginning (take i rs) → HoldsRefused old x → IsFirstRefused rs i
  refused_here old so taken refused = record {
    before = take i rs;
    change = refused.change;
    behind = drop (i + 1) rs;
    records_are = parts ∙ ap (λ (r : Record). take i rs ++ r ∷ drop (i + 1) rs) refused.entry_is;
    place_is = sym (length-take-le i rs (omega arith));
    fits = refused.fits;
    taken = taken;
    fault = refused.fault;
    refused = subst (λ (h : History). IsRefused h refused.change refused.fault) so refused.refused;
    some = refused.some;
  }
