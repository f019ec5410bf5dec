-- What an editor sends is read as what it asks.
use Rattle.std.proofs.Common.{ℕ, ◌+◌, ◌≤◌, List, ap, ◌∙◌, length, arith}
use Rattle.file_uri.specs.Base.{BaseView}
use Rattle.file_uri.specs.PathOf.{path_of}
use Rattle.file_uri.proofs.UriLemmas.{path_of-uri_of}
use Rattle.text_position.specs.Changes.{Change}
use Rattle.text_position.specs.Places.{position_at}
use Rattle.text_position.proofs.LawLemmas.{delta_of_one_edit}
use Rattle.text_position.proofs.PositionLemmas.{position_at-bounds}
use Rattle.message_bytes.specs.Fitting.{IsCount, IsPosition}
use Rattle.message_bytes.proofs.BodyLemmas.{request_comes_back}
use Rattle.editor_client.specs.Editor.{Editor}
use Rattle.editor_client.specs.Requests.{open_request, close_request, edit_request}
use Rattle.frame_world.specs.Laws.{IsClientOf, IsChangeOf, AreAsked, IsTold}

pub requests_are_read : (base : BaseView) (path : List ℕ) (c : Editor) → IsClientOf base path c → AreAsked base path c
requests_are_read base path c is = record {
  path_is = ap (path_of base) is.uri ∙ path_of-uri_of base path is.base_is is.utf8 is.fine;
  opening = request_comes_back (c.requests + 1) (open_request c) is.id_fits (is.uri_utf8, is.characters);
  closing = request_comes_back (c.requests + 1) (close_request c) is.id_fits is.uri_utf8;
}

position_fits : (text : List ℕ) (place : ℕ) → place ≤ length text → IsCount (length text) → IsPosition (position_at text place)
position_fits text place within small =
    let bounds = position_at-bounds text place within in (omega (arith, bounds.0, within, small), omega (arith, bounds.1, within, small))

pub changes_are_read : (base : BaseView) (path : List ℕ) (c : Editor) (change : Change) → IsClientOf base path c → IsChangeOf c change → IsTold c change
changes_are_read base path c change is of = record {
  edit =
      request_comes_back (c.requests + 1) (edit_request change c) is.id_fits (
        is.uri_utf8,
        (
          is.shown_fits,
          (
            (
              position_fits c.text change.start (omega (arith, of.forward, of.within)) is.length_fits,
              (position_fits c.text change.end of.within is.length_fits, of.characters),
            ),
            tt,
          ),
        ),
      );
  delta = delta_of_one_edit c.text change of.forward of.within;
}
