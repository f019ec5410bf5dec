-- Streams that the grammar reads as the rows of the base protocol's tests say.
use Rattle.std.proofs.Common.{◌≡◌, [], ◌∷◌, ◌++◌, refl, lit<, lit≤}
use Rattle.std.specs.Prelude.{codes}
use Rattle.rpc_frame.specs.Scanning.{scan_over, start}
use Rattle.rpc_frame.specs.Stream.{IsBadAt}
use Rattle.rpc_frame.specs.declared.headers.Place.TheVariants.{FieldEnd, Whole}
use Rattle.rpc_frame.specs.declared.headers.Lengths.TheVariants.{One, Several}
use Rattle.rpc_frame.proofs.HeldLemmas.{bad_byte}

-- a letter in place of the number
pub letter-is-bad : IsBadAt 16 (codes "Content-Length: x")
letter-is-bad = bad_byte (codes "Content-Length: ") [] 120 (lit< tt) (lit≤ tt) (lit< tt)

-- a line feed without its carriage return
pub line_feed-is-bad : IsBadAt 17 (codes "Content-Length: 1" ++ (10 ∷ []))
line_feed-is-bad = bad_byte (codes "Content-Length: 1") [] 10 (lit< tt) (lit≤ tt) (lit< tt)

-- the case of a name does not count
pub two-lengths : scan_over start (codes "Content-Length: 1" ++ (13 ∷ 10 ∷ []) ++ codes "content-LENGTH:\t2 " ++ (13 ∷ 10 ∷ 13 ∷ 10 ∷ [])) ≡ record { place = Whole; lengths = Several }
two-lengths = refl

-- the digits are cut to the greatest u64
pub number-is-cut : scan_over start (codes "Content-Length: 999999999999999999999999999999" ++ (13 ∷ [])) ≡ record { place = FieldEnd; lengths = One 18446744073709551615 }
number-is-cut = refl
