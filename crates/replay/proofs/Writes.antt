-- How far a writing has come, and what the next write of it adds.
use Rattle.std.proofs.Common.{◌≡◌, ℕ, ◌+◌, List, [], ◌++◌, take, drop, refl, sym, ap, ap₂, ◌∙◌}
use Rattle.std.proofs.Math.Seq.{take-add}
use Rattle.std.proofs.lemmas.List.{drop-drop, take-append-drop, append-nil}
use Rattle.outside.proofs.ToldLemmas.{append_known_nothing, append_known_more}
use Rattle.outside.specs.Gives.{Gives}
use Rattle.outside.specs.SinkMeaning.{SinkMeaning}
use Rattle.std.specs.Io.KnownBytes.{append_known}
use Rattle.outside.specs.declared.sinks.Gave.TheVariants.{Bytes}

-- since `old` the bytes but for `rest` were written
pub record WroteAllBut (old now : SinkMeaning) (bytes rest : List ℕ) : Type 0 where
  pub same : now.faults ≡ old.faults
  pub count : ℕ
  pub rest_is : rest ≡ drop count bytes
  pub written : now.written ≡ append_known old.written (take count bytes)

pub nothing_yet : (m : SinkMeaning) (bytes : List ℕ) → WroteAllBut m m bytes bytes
nothing_yet m bytes = record { same = refl; count = 0; rest_is = refl; written = sym (append_known_nothing m.written) }

pub wrote_more : (old now new : SinkMeaning) (bytes rest : List ℕ) (n : ℕ) → WroteAllBut old now bytes rest → Gives now new rest (Bytes n) → WroteAllBut old new bytes (drop n rest)
wrote_more old now new bytes rest n so_far gives =
    record {
      same = gives.so.faults ∙ so_far.same;
      count = so_far.count + n;
      rest_is = ap (drop n) so_far.rest_is ∙ drop-drop n so_far.count bytes;
      written =
          gives.so.written ∙ ap₂ append_known so_far.written (ap (take n) so_far.rest_is)
          ∙ append_known_more old.written (take so_far.count bytes) (take n (drop so_far.count bytes))
          ∙ ap (append_known old.written) (sym (take-add so_far.count n bytes));
    }

pub wrote_all : (old now : SinkMeaning) (bytes : List ℕ) → WroteAllBut old now bytes [] → now.written ≡ append_known old.written bytes
wrote_all old now bytes so_far =
    so_far.written
    ∙ ap (append_known old.written)
    (sym (append-nil (take so_far.count bytes)) ∙ ap (λ rest. take so_far.count bytes ++ rest) so_far.rest_is ∙ take-append-drop so_far.count bytes)
