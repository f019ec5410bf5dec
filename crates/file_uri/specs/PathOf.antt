-- Which shared path a URI names below a base.
use Rattle.std.specs.Prelude.{◌==◌, ℕ, List, length, drop, Option, Some, None, Result, Ok, Err, if◌then◌else◌}
use Rattle.std.specs.List.{starts_with}
use Rattle.std.specs.Str.{is_utf8}
use Rattle.tt_base.specs.declared.paths.PathFault.{PathFault}
use Rattle.tt_base.specs.Path.{path_fault}
use Rattle.tt_base.specs.Answers.{and_then}
use Rattle.file_uri.specs.declared.faults.UriFault.{UriFault}
use Rattle.file_uri.specs.declared.faults.UriFault.TheVariants.{OutsideBase, NotUtf8, BadPath}
use Rattle.file_uri.specs.FileUrl.{file_url, decoded_path}
use Rattle.file_uri.specs.Base.{BaseView}

-- the text, unless it breaks a rule of paths
abbrev pub unless_fault : Option PathFault → List ℕ → Result (List ℕ) UriFault
unless_fault None text = Ok text
unless_fault (Some fault) text = Err (BadPath fault)

-- the shared path that these bytes are
abbrev pub shared_path : List ℕ → Result (List ℕ) UriFault
shared_path bytes =
    if is_utf8 bytes then unless_fault (path_fault bytes) bytes else Err NotUtf8

-- the shared path that these bytes are below a directory
abbrev pub path_below : List ℕ → List ℕ → Result (List ℕ) UriFault
path_below directory bytes =
    if starts_with ◌==◌ bytes directory then shared_path (drop (length directory) bytes)
    else Err OutsideBase

-- the shared path that a URI names; its query and its fragment say nothing of the file
abbrev pub path_of : BaseView → List ℕ → Result (List ℕ) UriFault
path_of base uri = and_then (file_url uri) (λ url. path_below base.path (decoded_path url))
