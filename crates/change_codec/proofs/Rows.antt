-- A worked change: actor 1 makes the file `f` with the text `ab`. Its bytes, these with one more, and the first three alone.
use Rattle.std.proofs.Common.{◌≡◌, ℕ, List, [], ◌∷◌, ◌++◌, Ok, Err, refl}
use Rattle.std.specs.Prelude.{codes, replicate}
use Rattle.std.specs.Str.{is_utf8, chars}
use Rattle.byte_format.specs.Format.{whole}
use Rattle.byte_format.specs.declared.faults.Kind.TheVariants.{Short, Rest}
use Rattle.byte_format.specs.Values.{u16_field, u64_field, actor_field, path_field, count_field, text_field, rising_names, names_field}
use Rattle.change_codec.specs.Change.{Change}
use Rattle.change_codec.specs.declared.ops.Ref.TheVariants.{Here}
use Rattle.change_codec.specs.declared.ops.Parent.TheVariants.{Root}
use Rattle.change_codec.specs.declared.ops.Op.TheVariants.{Make, Insert}
use Rattle.change_codec.specs.Encoding.{ref_field, parent_field, op_field, some_ops, ops_field, change_format}

abbrev worked_change : Change
worked_change = record {
  actor = record { 0 = replicate 15 0 ++ 1 ∷ [] };
  seq = 1;
  deps = [];
  ops = Make (codes "f") ∷ Insert (Here 0) Root (codes "ab") ∷ [];
}

-- a number below 256 in 8 bytes
abbrev eight : ℕ → List ℕ
eight n = replicate 7 0 ++ n ∷ []

abbrev worked_bytes : List ℕ
worked_bytes =
    codes "TTC1" ++ (replicate 15 0 ++ 1 ∷ (eight 1 ++ (eight 0 ++ (eight 2
    ++ (1 ∷ 0 ∷ 1 ∷ codes "f" ++ (3 ∷ 0 ∷ eight 0 ++ (0 ∷ eight 2 ++ codes "ab")))))))

spelled_so : change_format.spelled worked_change ≡ worked_bytes
unfolding change_format actor_field u64_field names_field rising_names ops_field some_ops op_field path_field u16_field ref_field parent_field text_field count_field is_utf8 chars lib.Utf8.encode
spelled_so = refl

read_so : whole change_format worked_bytes ≡ Ok worked_change
unfolding change_format actor_field u64_field names_field rising_names ops_field some_ops op_field path_field u16_field ref_field parent_field text_field count_field is_utf8 chars lib.Utf8.encode
read_so = refl

one_byte_more : whole change_format (worked_bytes ++ 7 ∷ []) ≡ Err (record { kind = Rest; left = 1 })
unfolding change_format actor_field u64_field names_field rising_names ops_field some_ops op_field path_field u16_field ref_field parent_field text_field count_field is_utf8 chars lib.Utf8.encode
one_byte_more = refl

three_bytes : whole change_format (codes "TTC") ≡ Err (record { kind = Short; left = 3 })
unfolding change_format
three_bytes = refl
