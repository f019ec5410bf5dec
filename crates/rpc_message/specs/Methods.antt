-- The methods that an editor may ask for, and their names.
use Rattle.std.specs.Prelude.{ℕ, zero, suc, List, map, Option, None, option_and_then, slice_get, codes}
use Rattle.std.specs.List.{enumerate_from}
use Rattle.name_table.specs.Rows.{number_of}
use Rattle.rpc_message.specs.declared.methods.Method.{Method}
use Rattle.rpc_message.specs.declared.methods.Method.TheVariants.{Open, Close, Edit, Cursor, Shutdown}
use Rattle.rpc_message.specs.declared.methods.TheConstants.{METHODS}

-- the name of a method
abbrev pub name : Method → List ℕ
name Open = codes "open"
name Close = codes "close"
name Edit = codes "edit"
name Cursor = codes "cursor"
name Shutdown = codes "shutdown"

-- the table of names: the methods are numbered from 1, in the order of `METHODS`
abbrev pub methods : List (ℕ × List ℕ)
methods = enumerate_from 1 (map name METHODS)

-- the method of this number
abbrev pub numbered : ℕ → Option Method
numbered zero = None
numbered (suc place) = slice_get METHODS place

-- the method of this name
abbrev pub method_named : List ℕ → Option Method
method_named word = option_and_then numbered (number_of word methods)
