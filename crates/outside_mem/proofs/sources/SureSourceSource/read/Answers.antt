use Rattle.std.proofs.Common.{◌≡◌, ℕ, ◌+◌, ◌-◌, ◌++◌, List, length, take, drop, Some, refl, sym, ap, ap₂, ◌∙◌, arith}
use Rattle.std.proofs.lemmas.List.{take-append-drop, take_rest, drop-drop}
use Rattle.std.proofs.lemmas.Bool.Decides.{nat_tests}
use Rattle.outside_mem.proofs.sources.SureSourceSource.read.Goals as goal

-- what is left is the front that was copied, and then what is left behind it
taken_front : (bytes seen buf : List ℕ) (place n : ℕ) → seen ≡ bytes → take n buf ≡ take n (take (length seen - place) (drop place seen)) → drop place bytes ≡ take n buf ++ drop (place + n) bytes
taken_front bytes seen buf place n is copied =
    sym (take-append-drop n (drop place bytes))
    ∙ ap₂ ◌++◌ (ap (take n) (sym (take_rest bytes place)) ∙ ap (λ s. take n (take (length s - place) (drop place s))) (sym is) ∙ sym copied) (drop-drop n place bytes)

pub returns-clause-takes : goal.returns-clause-takes
returns-clause-takes c =
    let count = c.copy_front-count.ensures.count in
    let front =
    taken_front c.self.inside.bytes.items c.deref.result.now c.copy_front-count.new.buf c.self.inside.place c.copy_front-count.result c.deref.ensures.value c.copy_front-count.ensures.copied in
    rw (← c.self.view_is) (record {
      later = omega arith;
      so = record { some = grind (arith, nat_tests); fits = omega arith; left = ap Some front; ended = refl; faults = refl };
    })
