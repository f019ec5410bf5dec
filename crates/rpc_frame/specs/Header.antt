-- The header part of a frame, after the base protocol of the Language Server Protocol.
use Rattle.std.specs.Prelude.{◌≡◌, ℕ, ◌-◌, ◌^◌, ◌<◌, ◌≤◌, ◌==◌, ◌&&◌, ◌||◌, Bool, not, List, [], ◌∷◌, ◌++◌, length, map, filter, min, All, IsTrue, codes}
use Rattle.std.specs.Char.{is_ascii_digit}
use Rattle.std.specs.List.{list_all, flat_map}
use Rattle.std.specs.Str.{bytes_eq, str_to_ascii_lowercase}
use Rattle.std.specs.Str.Parse.{digits_value}
use Rattle.rpc_frame.specs.declared.headers.TheConstants.{HEADER_LIMIT}

-- a field: its name, and its value as it stands between the colon and the line's end
pub record Field : Type 0 where
  pub name : List ℕ
  pub value : List ℕ

-- any byte but CR and LF
abbrev pub is_value_byte : ℕ → Bool
is_value_byte b = not (b == 13) && not (b == 10)

-- any byte but CR, LF and the colon
abbrev pub is_name_byte : ℕ → Bool
is_name_byte b = not (b == 58) && is_value_byte b

-- a space or a tab
abbrev pub is_blank : ℕ → Bool
is_blank b = b == 32 || b == 9

-- the name is `Content-Length`, in whichever ASCII case
abbrev pub gives_length : Field → Bool
gives_length field = bytes_eq (str_to_ascii_lowercase field.name) (codes "content-length")

-- blanks, one or more decimal digits, blanks
pub record IsLengthText (value : List ℕ) : Type 0 where
  pub before : List ℕ
  pub digits : List ℕ
  pub after : List ℕ
  pub whole : value ≡ before ++ (digits ++ after)
  pub some_digit : 0 < length digits
  pub blank_before : IsTrue (list_all is_blank before)
  pub decimal : IsTrue (list_all is_ascii_digit digits)
  pub blank_after : IsTrue (list_all is_blank after)

-- the number of the value's digits, cut to the greatest u64
abbrev pub length_given : Field → ℕ
length_given field = min (digits_value 10 (filter is_ascii_digit field.value)) (2 ^ 64 - 1)

-- what a field may be
pub record IsField (field : Field) : Type 0 where
  pub some_name : 0 < length field.name
  pub name : IsTrue (list_all is_name_byte field.name)
  pub value : IsTrue (list_all is_value_byte field.value)
  pub length_text : IsTrue (gives_length field) → IsLengthText field.value

-- a field as it is written: name, colon, value, CR LF
abbrev pub field_bytes : Field → List ℕ
field_bytes field = field.name ++ (58 ∷ (field.value ++ (13 ∷ 10 ∷ [])))

-- fields and then the empty line
abbrev pub header_bytes : List Field → List ℕ
header_bytes fields = flat_map field_bytes fields ++ (13 ∷ 10 ∷ [])

-- a header part: one or more fields and the empty line, 8,192 bytes at most
pub record IsHeader (fields : List Field) (bytes : List ℕ) : Type 0 where
  pub some_field : 0 < length fields
  pub each : All IsField fields
  pub whole : bytes ≡ header_bytes fields
  pub short : length bytes ≤ HEADER_LIMIT

-- the numbers of the fields that give a length, in order
abbrev pub lengths : List Field → List ℕ
lengths fields = map length_given (filter gives_length fields)
