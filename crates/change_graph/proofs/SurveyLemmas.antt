-- What is seen at a run of indices, and what is refused for it.
use Rattle.std.proofs.Common.{map, ◌≡◌, ℕ, ◌-◌, false, ap, ◌∙◌, List, length, take, drop}
use Rattle.std.proofs.lemmas.List.{take_rest}
use Rattle.change_codec.specs.declared.ops.Op.{Op}
use Rattle.change_codec.specs.declared.ops.Ref.{Ref}
use Rattle.change_graph.specs.declared.runs.Scan.{Scan}
use Rattle.change_graph.specs.declared.starts.Landing.{Landing}
use Rattle.change_graph.specs.Starts.{IsLanding}
use Rattle.change_graph.proofs.RunLemmas.{told_from}
use Rattle.change_graph.specs.Refusals.{thing_seen, things}
use Rattle.change_graph.specs.Runs.{so_far, told}

-- a run that is followed from an operation that begins no later
pub landed : (ops : List Op) (from object : Ref) (index count : ℕ) (landing : Landing) (scan : Scan) → IsLanding ops index landing
    → so_far scan ≡ told object (record { skip = index - landing.start; left = count; objects = false; others = false })
    (map (thing_seen from) (things (take (length ops - landing.place) (drop landing.place ops))))
    → so_far scan ≡ told object (record { skip = index; left = count; objects = false; others = false }) (map (thing_seen from) (things ops))
landed ops from object index count landing scan land followed =
    followed
    ∙ ap (λ (os : List Op). told object (record { skip = index - landing.start; left = count; objects = false; others = false }) (map (thing_seen from) (things os)))
    (take_rest ops landing.place)
    ∙ told_from object (thing_seen from) ops landing.place landing.start index count land.begins land.before
