-- Between two histories there is one list of effects.
use Rattle.std.proofs.Common.{◌≡◌, ◌↔◌, ℕ, Bool, false, ap, ap₂, ◌∙◌, sym, List, [], ◌∷◌, map, IsTrue, All, refl}
use Rattle.std.specs.Cmp.{both_ways}
use Rattle.std.specs.Cmp.Lexicographic.{slice_cmp}
use Rattle.std.specs.Ordering.{nat_cmp}
use Rattle.std.proofs.lemmas.Cmp.{nat_list_cmp_total}
use Rattle.std.proofs.lemmas.List.Elements.{All-head, All-tail}
use Rattle.std.proofs.lemmas.Map.Lookups.{exact_bytes}
use Rattle.delta.specs.Cells.{Cells, changes_nothing}
use Rattle.change_graph.specs.History.{History}
use Rattle.replica_dir.specs.Ids.{has_path}
use Rattle.replica_views.specs.Effects.{PathEffect, effect_at, paths_of, AreEffects}
use Rattle.replica_views.proofs.ToldLemmas.{same_list}

module _ (before later : History) where
  abbrev effect_of : List ℕ → PathEffect
  effect_of path = record { path = path; delta = effect_at before later path }

  abbrev IsExact : PathEffect → Type 0
  IsExact e = e.delta ≡ effect_at before later e.path

  by_paths : (es : List PathEffect) → All IsExact es → es ≡ map effect_of (paths_of es)
  by_paths [] all = refl
  by_paths (e ∷ es) all =
      let first : e.delta ≡ effect_at before later e.path = All-head IsExact e es all in
      ap₂ (λ (d : Cells) (rest : List PathEffect). record { path = e.path; delta = d } ∷ rest) first (by_paths es (All-tail IsExact e es all))

  pub effects_one : (one other : List PathEffect) → AreEffects before later one → AreEffects before later other → one ≡ other
  effects_one one other a b =
      by_paths one a.exact
      ∙ ap (map effect_of)
      (same_list (slice_cmp nat_cmp) nat_list_cmp_total exact_bytes (paths_of one) (paths_of other) a.rising b.rising
      (λ path.
      both_ways (has_path (paths_of one) path) (has_path (paths_of other) path)
      (λ has. (b.all path).1 ((a.all path).0 has))
      (λ has. (a.all path).1 ((b.all path).0 has))))
      ∙ sym (by_paths other b.exact)
