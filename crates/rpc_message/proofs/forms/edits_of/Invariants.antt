use Rattle.std.proofs.Common.{◌≡◌, ◌++◌, drop, option_map}
use Rattle.serde_json.specs.View.{items_view}
use Rattle.rpc_message.specs.Forms.{edit, items}
use Rattle.rpc_message.proofs.forms.edits_of.Given as goal

-- what was read, with what the rest gives, is what all give
abbrev pub invariant-loop-value : goal.invariant-loop-value
invariant-loop-value l =
    option_map (λ rest. l.edits ++ rest) (items edit (items_view (drop l.value-index l.value-items))) ≡ items edit (items_view l.value-items)
