-- A reader of frames as contracts see it.
use Rattle.std.specs.Prelude.{ℕ, Bool, List, ◌++◌}
use Rattle.rpc_frame.specs.Stream.{StreamEnd, Begun, Broken, Reads}

-- its limit, what it keeps of its stream, the bytes that it holds in memory of a frame begun, whether it is not spent,
-- and the bodies that `take_done` would give
pub record ReaderView : Type 0 where
  pub limit : ℕ
  pub kept : StreamEnd
  pub held : List ℕ
  pub live : Bool
  pub done : List (List ℕ)

-- the bytes kept and then a piece are the frames of these bodies, and then what the end says
abbrev pub ReadsOn : ℕ → StreamEnd → List ℕ → List (List ℕ) → StreamEnd → Type 0
ReadsOn limit (Begun kept) piece bodies end = Reads limit (kept ++ piece) bodies end
ReadsOn limit (Broken fault) piece bodies end = ⊥

-- no fault has come
abbrev pub IsUnbroken : StreamEnd → Type 0
IsUnbroken (Begun bytes) = Unit {0}
IsUnbroken (Broken fault) = ⊥
