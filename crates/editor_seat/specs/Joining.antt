-- An editor that has just joined.
use Rattle.std.specs.Prelude.{ℕ, List, [], Some}
use Rattle.file_uri.specs.Base.{BaseView}
use Rattle.file_uri.specs.UriOf.{uri_of}
use Rattle.editor_client.specs.Editor.{new_editor}
use Rattle.frame_world.specs.Seats.{opened}
use Rattle.kept_world.specs.Worlds.{KeptEditor}

-- an editor of the file at a path below a base, which shows this text, on a connection that begins with its open (the project's own)
abbrev pub joined : BaseView → ℕ → List ℕ → ℕ → List ℕ → KeptEditor
joined base daemon path connection text =
    record {
      daemon = daemon;
      path = path;
      connection = Some connection;
      seat = opened (record { client = new_editor (uri_of base path) text; up = []; down = [] });
    }
