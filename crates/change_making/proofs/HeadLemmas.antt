-- The names that a history holds have their 32 bytes, and its heads are such.
use Rattle.std.proofs.Common.{◌≡◌, true, not, List, [], ◌∷◌, Option, Some, None, is_some, refl, sym, subst}
use Rattle.std.specs.List.{AllByRecursion}
use Rattle.std.specs.Map.{keys_of}
use Rattle.tt_base.specs.declared.ids.Name.{Name}
use Rattle.byte_format.specs.Values.{name_field}
use Rattle.change_codec.specs.Change.{Change}
use Rattle.change_codec.specs.Encoding.{change_format}
use Rattle.change_graph.specs.History.{History, change_at, is_held, name_of}
use Rattle.change_graph.specs.Answers.{IsHeads}
use Rattle.change_graph.specs.Histories.{IsHistory}
use Rattle.replica_views.specs.Growth.{IsGrown}
use Rattle.replica_views.specs.Made.{is_dep, heads_of}
use Rattle.replica_views.proofs.HistoryLemmas.{grown_history}
use Rattle.replica_views.proofs.LayerLemmas.{all_more, entries_held}
use Rattle.replica_views.proofs.StayLemmas.{all_filter}
use Rattle.replica_views.proofs.ToldLemmas.{heads_told}
use Rattle.sha2.proofs.Facts256.{length-sha256}
use Rattle.change_making.proofs.ByteLemmas.{digest_is_bytes}
use Rattle.change_making.proofs.FitsLemmas.{name_fits}

held_fits : (history : History) → IsHistory history → (name : Name) → is_held history name ≡ true → name_field.Fits name
held_fits history is name held = by (change_at history name) refl held where
  by : (o : Option Change) → change_at history name ≡ o → is_some o ≡ true → name_field.Fits name
  by None found some = absurd cc
  by (Some change) found some =
      subst name_field.Fits (sym (is.named name change found))
      (name_fits (name_of change) (length-sha256 (change_format.spelled change)) (digest_is_bytes (change_format.spelled change)))

keys_all : (P : Name → Type 0) (es : History) → AllByRecursion (λ (e : Name × Change). P e.0) es → AllByRecursion P (keys_of es)
keys_all P [] all = tt
keys_all P (e ∷ es) all = (all.0, keys_all P es all.1)

heads_held : (history : History) → AllByRecursion (λ name. is_held history name ≡ true) (heads_of history)
unfolding heads_of
heads_held history =
    all_filter (λ name. is_held history name ≡ true) (λ name. not (is_dep history name)) (keys_of history)
    (keys_all (λ name. is_held history name ≡ true) history (entries_held history))

pub heads_fit : (history : History) → IsGrown history → (heads : List Name) → IsHeads history heads → AllByRecursion name_field.Fits heads
heads_fit history grown heads are =
    subst (AllByRecursion name_field.Fits) (sym (heads_told history grown heads are))
    (all_more (λ name. is_held history name ≡ true) name_field.Fits (heads_of history) (held_fits history (grown_history history grown)) (heads_held history))
