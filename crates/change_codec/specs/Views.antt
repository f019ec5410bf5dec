-- What operations stand for whose bytes are looked at where they are.
use Rattle.std.specs.Str.{chars}
use Rattle.change_codec.specs.declared.ops.Op.{Op}
use Rattle.change_codec.specs.declared.ops.Op.TheVariants.{Make, Remove, Insert, Delete}
use Rattle.change_codec.specs.declared.views.OpView.{OpView}
use Rattle.change_codec.specs.declared.views.OpView.TheVariants.{Make as MakeView, Remove as RemoveView, Insert as InsertView, Delete as DeleteView}

abbrev pub op_viewed : OpView → Op
op_viewed (MakeView path) = Make path.now
op_viewed (RemoveView object) = Remove object
op_viewed (InsertView object parent text) = Insert object parent (chars text.now)
op_viewed (DeleteView object first count) = Delete object first count
