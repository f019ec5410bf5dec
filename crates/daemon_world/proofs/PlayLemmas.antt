-- A move that is made, in the plain machine.
use Rattle.std.proofs.Common.{◌≡◌, true, false, Option, Some, None, is_some, refl, sym, ap, ◌∙◌}
use Rattle.file_uri.specs.Base.{BaseView}
use Rattle.replay_script.specs.declared.moves.Move.{Move}
use Rattle.plain_world.specs.RawFrames.{Reader}
use Rattle.plain_world.specs.Step.{played}
use Rattle.plain_world.specs.World as P
use Rattle.kept_world.specs.Laws.{PossibleAlike}
use Rattle.kept_world.specs.Moves.{can_move}
use Rattle.kept_world.specs.Tie.{Ties}
use Rattle.kept_world.specs.Worlds.{KeptWorld}

none_there : {A : Type 0} (o : Option A) → is_some o ≡ false → o ≡ None
none_there None is = refl
none_there (Some x) is = cc

-- what is not possible is not played
pub not_played : PossibleAlike → (base : BaseView) (reader : Reader) (k : KeptWorld) (w : P.World) (moved : Move) → Ties base k w
    → can_move base k moved ≡ false → played base reader w moved ≡ None
not_played alike base reader k w moved ties may =
    none_there (played base reader w moved) (sym (alike base reader k w moved ties) ∙ may)

-- and what is possible is
pub is_played : PossibleAlike → (base : BaseView) (reader : Reader) (k : KeptWorld) (w : P.World) (moved : Move) → Ties base k w
    → can_move base k moved ≡ true → played base reader w moved ≡ None → ⊥
is_played alike base reader k w moved ties may none =
    let both : false ≡ true = ap is_some (sym none) ∙ sym (alike base reader k w moved ties) ∙ may in cc
