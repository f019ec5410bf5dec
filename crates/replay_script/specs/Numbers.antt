-- How numbers, and bytes in hexadecimal, are read: what their readers compute.
use Rattle.std.specs.Prelude.{ℕ, ◌^◌, ◌%◌, ◌==◌, Bool, ◌&&◌, List, [], length, nat_lt, Option, Some, None, if◌then◌else◌}
use Rattle.std.specs.Fmt.{decimal}
use Rattle.std.specs.List.{list_all}
use Rattle.std.specs.Result.{result_unwrap_or}
use Rattle.std.specs.Str.{bytes_eq}
use Rattle.std.specs.Str.Parse.{digits_value}
use Rattle.hex.specs.Hex.{decode_of}
use Rattle.replay_script.specs.Characters.{is_lower_hex}

-- the number of 64 bits whose decimal digits a text is
abbrev pub number_of : List ℕ → Option ℕ
number_of text =
    let n = digits_value 10 text in
    if bytes_eq (decimal n) text && nat_lt n (2 ^ 64) then Some n else None

-- two or more lower-case digits, in pairs
abbrev pub is_hexadecimal : List ℕ → Bool
is_hexadecimal text = nat_lt 0 (length text) && length text % 2 == 0 && list_all is_lower_hex text

-- the bytes that the digits spell
abbrev pub bytes_of : List ℕ → Option (List ℕ)
bytes_of text = if is_hexadecimal text then Some (result_unwrap_or (decode_of text) []) else None
