-- Bounds within which each change that a daemon makes has an encoding. They speak of paths, texts and counts, and of no encoding.
use Rattle.std.specs.Prelude.{◌≡◌, ℕ, ◌<◌, ◌^◌, true, List, [], ◌∷◌, length}
use Rattle.std.specs.Str.{all_scalars}
use Rattle.delta.specs.Cells.{Cell, Cells, applied}
use Rattle.change_codec.specs.WellFormed.{IsActor, IsPath}
use Rattle.replica_views.specs.Objects.{live_at}
use Rattle.daemon_history.specs.Holding.{Holding, text_at, held}

abbrev pub InsertsScalarsOf : List Cell → List ℕ → Type 0
InsertsScalarsOf [] last = all_scalars last ≡ true
InsertsScalarsOf (c ∷ cs) last = (all_scalars c.inserted ≡ true) × InsertsScalarsOf cs last

-- each text that the delta inserts is one of Unicode scalar values
abbrev pub InsertsScalars : Cells → Type 0
InsertsScalars d = InsertsScalarsOf d.cells d.last

-- What a daemon that makes a change for a delta of the text at a path keeps, whatever machine it runs on: none addresses 2 ^ 62 bytes,
-- and a character that is shown, a change that is held and an object at a path each take one or more.
pub record IsWithinBounds (h : Holding) (path : List ℕ) (d : Cells) : Type 0 where
  -- 16 bytes name a daemon
  pub actor_is : IsActor h.actor
  -- a daemon makes changes at shared paths only
  pub path_is : IsPath path
  -- the changes are held in memory
  pub few : held h < 2 ^ 63
  -- so is the text that is shown
  pub before : length (text_at h path) < 2 ^ 62
  -- and what is shown next, of which the longest that is made is far shorter
  pub after : length (applied d (text_at h path)) < 2 ^ 62
  -- the texts of an editor are UTF-8
  pub scalars : InsertsScalars d

-- what one that removes the file at a path keeps
pub record IsRemovalWithinBounds (h : Holding) (path : List ℕ) : Type 0 where
  -- 16 bytes name a daemon
  pub actor_is : IsActor h.actor
  -- the changes are held in memory
  pub few : held h < 2 ^ 63
  -- so are the objects that they make
  pub few_objects : length (live_at h.history path) < 2 ^ 63
