-- A link that has begun.
use Rattle.std.proofs.Common.{◌≡◌, ℕ, false, List, length, ap, arith}
use Rattle.delta.specs.Cells.{Cells, base_length, inserts, deleting}
use Rattle.delta.specs.Cells as cells
use Rattle.delta.proofs.CellsLemmas.{base_length-covers, base_length-inserts}
use Rattle.editor_bridge.specs.Link.{Link, new_link, daemon_length}

pub replacement_fits : (view : List ℕ) (size : ℕ) (d : Cells) (link : Link) → d ≡ inserts view (deleting size) → size ≡ length link.base
    → link ≡ new_link link.base → base_length d ≡ daemon_length link
replacement_fits view size d link is sized new =
    omega (arith, ap base_length is, base_length-inserts view (deleting size), base_length-covers false size cells.nothing, ap daemon_length new, sized)
