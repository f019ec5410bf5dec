-- How a reader of header bytes goes on, one byte a turn. What this means is in `Header`; that both agree is proved.
use Rattle.std.specs.Prelude.{ℕ, ◌+◌, ◌-◌, ◌*◌, ◌^◌, ◌==◌, ◌&&◌, nat_lt, List, [], ◌∷◌, min, slice_index, codes, if◌then◌else◌}
use Rattle.std.specs.Char.{is_ascii_digit, to_ascii_lowercase}
use Rattle.rpc_frame.specs.Header.{is_name_byte, is_blank}
use Rattle.rpc_frame.specs.declared.headers.TheConstants.{HEADER_LIMIT}
use Rattle.rpc_frame.specs.declared.headers.Place.{Place}
use Rattle.rpc_frame.specs.declared.headers.Place.TheVariants.{FirstLine, NextLine, LengthName, OtherName, OtherValue, LengthBefore, LengthDigits, LengthAfter, FieldEnd, PartEnd, Whole, Bad}
use Rattle.rpc_frame.specs.declared.headers.Lengths.{Lengths}
use Rattle.rpc_frame.specs.declared.headers.Lengths.TheVariants.{NoneYet, One, Several}
use Rattle.rpc_frame.specs.declared.headers.Scan.{Scan}

-- the name that gives a length, in lower case
abbrev pub length_name : List ℕ
length_name = codes "content-length"

-- a name goes on, whose bytes so far are the first of `Content-Length`
abbrev pub name_place : ℕ → ℕ → Place
name_place matched b =
    if is_name_byte b then (if nat_lt matched 14 && (to_ascii_lowercase b == slice_index length_name matched) then LengthName (matched + 1) else OtherName)
    else Bad

-- the number with one more digit, cut to the greatest u64
abbrev pub with_digit : ℕ → ℕ → ℕ
with_digit n b = min (n * 10 + (b - 48)) (2 ^ 64 - 1)

-- the place behind a byte
abbrev pub place_after : Place → ℕ → Place
place_after FirstLine b = name_place 0 b
place_after NextLine b = if b == 13 then PartEnd else name_place 0 b
place_after (LengthName matched) b = if b == 58 then (if nat_lt matched 14 then OtherValue else LengthBefore) else name_place matched b
place_after OtherName b = if b == 58 then OtherValue else (if is_name_byte b then OtherName else Bad)
place_after OtherValue b = if b == 13 then FieldEnd else (if b == 10 then Bad else OtherValue)
place_after LengthBefore b = if is_blank b then LengthBefore else (if is_ascii_digit b then LengthDigits (with_digit 0 b) else Bad)
place_after (LengthDigits n) b = if is_ascii_digit b then LengthDigits (with_digit n b) else (if is_blank b then LengthAfter n else (if b == 13 then FieldEnd else Bad))
place_after (LengthAfter n) b = if is_blank b then LengthAfter n else (if b == 13 then FieldEnd else Bad)
place_after FieldEnd b = if b == 10 then NextLine else Bad
place_after PartEnd b = if b == 10 then Whole else Bad
place_after Whole b = Bad
place_after Bad b = Bad

-- the lengths of the header part, with one more
abbrev pub with_length : Lengths → ℕ → Lengths
with_length NoneYet n = One n
with_length (One m) n = Several
with_length Several n = Several

-- the CR behind a length's digits ends its field
abbrev pub lengths_after : Place → Lengths → ℕ → Lengths
lengths_after (LengthDigits n) lengths b = if b == 13 then with_length lengths n else lengths
lengths_after (LengthAfter n) lengths b = if b == 13 then with_length lengths n else lengths
lengths_after place lengths b = lengths

-- the scan behind a byte
abbrev pub scan_after : Scan → ℕ → Scan
scan_after scan b = record { place = place_after scan.place b; lengths = lengths_after scan.place scan.lengths b }

-- the scan after these bytes
abbrev pub scan_over : Scan → List ℕ → Scan
scan_over scan [] = scan
scan_over scan (b ∷ bytes) = scan_over (scan_after scan b) bytes

-- the scan before the first byte
abbrev pub start : Scan
start = record { place = FirstLine; lengths = NoneYet }

-- how many bytes a header part needs from there on at the least, more than it may have where it cannot go on
abbrev pub missing : Place → ℕ
missing FirstLine = 6
missing NextLine = 2
missing (LengthName matched) = if nat_lt matched 14 then 5 else 6
missing OtherName = 5
missing OtherValue = 4
missing LengthBefore = 5
missing (LengthDigits n) = 4
missing (LengthAfter n) = 4
missing FieldEnd = 3
missing PartEnd = 1
missing Whole = 0
missing Bad = HEADER_LIMIT + 1
