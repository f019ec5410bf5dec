-- The directory that the daemons of scripts serve.
use Rattle.std.specs.Prelude.{[], codes, Result, Ok, Err}
use Rattle.file_uri.specs.Base.{BaseView, base_of}
use Rattle.file_uri.specs.declared.faults.UriFault.{UriFault}

-- the base that a text is read as; of a text that is none nothing is said
abbrev pub base_or : Result BaseView UriFault → BaseView
base_or (Ok base) = base
base_or (Err fault) = record { text = []; path = [] }

-- the base of the daemons of scripts
unfoldable pub script_base : BaseView
script_base = base_or (base_of (codes "file:///work/"))
