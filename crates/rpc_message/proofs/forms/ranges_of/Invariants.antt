use Rattle.std.proofs.Common.{◌≡◌, ◌++◌, drop, option_map}
use Rattle.serde_json.specs.View.{items_view}
use Rattle.rpc_message.specs.Forms.{range, items}
use Rattle.rpc_message.proofs.forms.ranges_of.Given as goal

-- what was read, with what the rest gives, is what all give
abbrev pub invariant-loop-value : goal.invariant-loop-value
invariant-loop-value l =
    option_map (λ rest. l.ranges ++ rest) (items range (items_view (drop l.value-index l.value-items))) ≡ items range (items_view l.value-items)
