-- A frame as it is written.
use Rattle.std.specs.Prelude.{ℕ, List, ◌∷◌, ◌++◌, length, codes}
use Rattle.std.specs.Fmt.{decimal}

-- `Content-Length: `, the body's length in decimal, CR LF CR LF, the body
abbrev pub frame_bytes : List ℕ → List ℕ
frame_bytes body = codes "Content-Length: " ++ (decimal (length body) ++ (13 ∷ 10 ∷ 13 ∷ 10 ∷ body))
