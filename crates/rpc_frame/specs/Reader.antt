-- What a reader's fields stand for.
use Rattle.std.specs.Prelude.{◌≡◌, ℕ, Bool, true, false, List, []}
use Rattle.rpc_frame.specs.Stream.{StreamEnd, Begun, Broken}
use Rattle.rpc_frame.specs.ReaderView.{ReaderView}
use Rattle.rpc_frame.specs.Held.{held_bytes, IsHeld}
use Rattle.rpc_frame.specs.declared.begun.FrameBegun.{FrameBegun}
use Rattle.rpc_frame.specs.declared.readers.Standing.{Standing}
use Rattle.rpc_frame.specs.declared.readers.Standing.TheVariants as standing
use Rattle.rpc_frame.specs.declared.readers.FrameReader.TheInside.{Inside}

-- what is kept of the stream
abbrev pub kept_of : Standing → FrameBegun → StreamEnd
kept_of standing.Reading begun = Begun (held_bytes begun)
kept_of (standing.Broken fault) begun = Broken fault
kept_of standing.Spent begun = Begun []

-- whether memory has lasted so far
abbrev pub is_live : Standing → Bool
is_live standing.Reading = true
is_live (standing.Broken fault) = true
is_live standing.Spent = false

-- what contracts see
abbrev pub view_of : Inside → ReaderView
view_of r = record { limit = r.limit; kept = kept_of r.standing r.begun; held = held_bytes r.begun; live = is_live r.standing; done = r.done.items }

-- while it reads, the place in the frame begun is right, and no body waits; from then on no part of a frame is held
abbrev pub InOrder : ℕ → Standing → FrameBegun → List (List ℕ) → Type 0
InOrder limit standing.Reading begun done = IsHeld limit begun × (done ≡ [])
InOrder limit (standing.Broken fault) begun done = held_bytes begun ≡ []
InOrder limit standing.Spent begun done = (held_bytes begun ≡ []) × (done ≡ [])

-- the same of the fields
pub record IsInOrder (r : Inside) : Type 0 where
  pub order : InOrder r.limit r.standing r.begun r.done.items
