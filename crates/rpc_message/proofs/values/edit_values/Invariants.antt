use Rattle.std.proofs.Common.{◌≡◌, take, drop, map}
use Rattle.std.specs.List.{AllByRecursion}
use Rattle.serde_json.specs.View.{view}
use Rattle.rpc_message.specs.Replies.{IsEdit}
use Rattle.rpc_message.specs.Values.{edit}
use Rattle.rpc_message.proofs.values.edit_values.Given as goal

-- the values are those of the edits so far; and all edits have characters if the rest have
abbrev pub invariant-loop-edit : goal.invariant-loop-edit
invariant-loop-edit l = record {
  values : map view l.list.items ≡ map edit (take l.edit-index l.edits);
  characters : AllByRecursion IsEdit (drop l.edit-index l.edits) → AllByRecursion IsEdit l.edits;
}
