use Rattle.std.proofs.Common.{◌≡◌, true, false, refl, sym, ap, ◌∙◌, subst}
use Rattle.plain_world.specs.Base.{script_base}
use Rattle.kept_world.specs.Moves.{can_move}
use Rattle.kept_world.specs.Tie.{Ties}
use Rattle.kept_world.specs.Worlds.{KeptWorld}
use Rattle.daemon_world.specs.Worlds.{WorldView}
use Rattle.daemon_world.proofs.PlayLemmas.{not_played, is_played}
use Rattle.daemon_world.proofs.worlds.World.play.Goals as goal

pub returns-then-not-can_play-clause-not_possible : goal.returns-then-not-can_play-clause-not_possible
returns-then-not-can_play-clause-not_possible c = λ reader w ties.
    let kept : c.args.self.now.kept ≡ c.self.inside.machine = ap (λ (v : WorldView). v.kept) (sym c.self.view_is) in
    let tied : Ties script_base c.self.inside.machine w = subst (λ (v : KeptWorld). Ties script_base v w) kept ties in
    let may : can_move script_base c.self.inside.machine c.args.moved.now ≡ false = sym c.can_play.ensures ∙ c.if-not-can_play.true in (
      λ refused. not_played c.moves_are_possible_alike.ensures script_base reader c.self.inside.machine w c.args.moved.now tied may,
      λ none. refl,
    )

pub returns-in_default-clause-not_possible : goal.returns-in_default-clause-not_possible
returns-in_default-clause-not_possible c = λ reader w ties.
    let kept : c.args.self.now.kept ≡ c.self.inside.machine = ap (λ (v : WorldView). v.kept) (sym c.self.view_is) in
    let tied : Ties script_base c.self.inside.machine w = subst (λ (v : KeptWorld). Ties script_base v w) kept ties in
    let may : can_move script_base c.self.inside.machine c.args.moved.now ≡ true = sym c.can_play.ensures ∙ c.if-not-can_play.false in (
      λ refused. cc,
      λ none. absurd (is_played c.moves_are_possible_alike.ensures script_base reader c.self.inside.machine w c.args.moved.now tied may none),
    )

pub returns-in_default-make-clause-not_possible : goal.returns-in_default-make-clause-not_possible
returns-in_default-make-clause-not_possible c = λ reader w ties.
    let kept : c.args.self.now.kept ≡ c.self.inside.machine = ap (λ (v : WorldView). v.kept) (sym c.self.view_is) in
    let tied : Ties script_base c.self.inside.machine w = subst (λ (v : KeptWorld). Ties script_base v w) kept ties in
    let may : can_move script_base c.self.inside.machine c.args.moved.now ≡ true = sym c.can_play.ensures ∙ c.if-not-can_play.false in (
      λ refused. cc,
      λ none. absurd (is_played c.moves_are_possible_alike.ensures script_base reader c.self.inside.machine w c.args.moved.now tied may none),
    )

pub returns-clause-not_possible : goal.returns-clause-not_possible
returns-clause-not_possible c = λ reader w ties.
    let kept : c.args.self.now.kept ≡ c.self.inside.machine = ap (λ (v : WorldView). v.kept) (sym c.self.view_is) in
    let tied : Ties script_base c.self.inside.machine w = subst (λ (v : KeptWorld). Ties script_base v w) kept ties in
    let may : can_move script_base c.self.inside.machine c.args.moved.now ≡ true = sym c.can_play.ensures ∙ c.if-not-can_play.false in (
      λ refused. cc,
      λ none. absurd (is_played c.moves_are_possible_alike.ensures script_base reader c.self.inside.machine w c.args.moved.now tied may none),
    )
