-- What is written for a value is read as that value.
use Rattle.std.proofs.Common.{◌≡◌, ℕ, ◌^◌, ◌<◌, ◌≤◌, pos, negsuc, Bool, true, false, List, [], ◌∷◌, ◌++◌, Some, option_map, option_and_then, refl, sym, ap, ◌∙◌, arith, append-nil}
use Rattle.std.specs.Prelude.{⊤, IsUtf8}
use Rattle.std.proofs.lemmas.Fmt.{IsAscii-decimal, IsAscii-signed}
use Rattle.std.proofs.lemmas.Str.{IsUtf8-append, IsUtf8-nil, IsUtf8-from_ascii}
use Rattle.json.specs.Json as json
use Rattle.json.specs.Lex.{tokens}
use Rattle.json.specs.Print.{quoted, IsNumber}
use Rattle.json.specs.Tree as tree
use Rattle.json.proofs.Printed.Decimals.{IsNumber-decimal, IsNumber-signed_decimal}
use Rattle.json.proofs.Printed.Tokens.{tokens-print}
use Rattle.json.proofs.Printed.Trees.{value-json_tokens, ArePrintable-json_tokens}
use Rattle.json.proofs.Printed.Utf8.{IsUtf8-are_ascii, IsUtf8-quoted, IsUtf8-boolean}
use Rattle.serde_json.proofs.Numbers.{number_of-decimal, number_of-negative}
use Rattle.serde_json.proofs.Texts.{print-outline}
use Rattle.serde_json.specs.Data.{Num, unsigned, negative, float, Data, null, boolean, number, string, array, object, Items, no_items, item, Members, no_members, member, put, depth, items_depth, members_depth}
use Rattle.serde_json.specs.Read.{number_of, of_json, of_items, of_members, read, max_depth}
use Rattle.serde_json.specs.Written.{number_text, outline, items_outline, members_outline, comma_if, compact_text, items_text, members_text}
use Rattle.rpc_message.specs.Json.{json_of}
use Rattle.rpc_message.proofs.JsonLemmas.{json_of-taken}

-- a whole number of 64 bits
abbrev pub IsWhole : Num → Type 0
IsWhole (unsigned n) = n < 2 ^ 64
IsWhole (negative (pos n)) = ⊥
IsWhole (negative (negsuc n)) = n < 2 ^ 63
IsWhole (float x) = ⊥

-- members that are put in turn
abbrev pub rebuilt : Members → Members → Members
rebuilt no_members found = found
rebuilt (member k d ms) found = rebuilt ms (put k d found)

-- a value of strings in UTF-8 and whole numbers, whose members stand in rising order of their names
abbrev mutual
  pub IsSaid : Data → Type 0
  IsSaid null = ⊤
  IsSaid (boolean b) = ⊤
  IsSaid (number n) = IsWhole n
  IsSaid (string s) = IsUtf8 s
  IsSaid (array ds) = AreSaid ds
  IsSaid (object ms) = MembersAreSaid ms × (rebuilt ms no_members ≡ ms)

  pub AreSaid : Items → Type 0
  AreSaid no_items = ⊤
  AreSaid (item d ds) = IsSaid d × AreSaid ds

  pub MembersAreSaid : Members → Type 0
  MembersAreSaid no_members = ⊤
  MembersAreSaid (member k d ms) = IsUtf8 k × (IsSaid d × MembersAreSaid ms)

-- ---- the value comes back from its tokens

number_again : (n : Num) → IsWhole n → number_of (number_text n) ≡ Some n
number_again (unsigned n) is = number_of-decimal n is
number_again (negative (pos n)) is = absurd is
number_again (negative (negsuc n)) is = number_of-negative n is
number_again (float x) is = absurd is

mutual
  value_again : (d : Data) → IsSaid d → of_json (outline d) ≡ Some d
  value_again null is = refl
  value_again (boolean b) is = refl
  value_again (number n) is = ap (option_map number) (number_again n is)
  value_again (string s) is = refl
  value_again (array ds) is = ap (option_map array) (items_again ds is)
  value_again (object ms) is = ap (option_map object) (members_again ms no_members is.0 ∙ ap Some is.1)

  items_again : (ds : Items) → AreSaid ds → of_items (items_outline ds) ≡ Some ds
  items_again no_items is = refl
  items_again (item d ds) is =
      ap (option_and_then (λ e. option_map (item e) (of_items (items_outline ds)))) (value_again d is.0)
      ∙ ap (option_map (item d)) (items_again ds is.1)

  members_again : (ms found : Members) → MembersAreSaid ms → of_members (members_outline ms) found ≡ Some (rebuilt ms found)
  members_again no_members found is = refl
  members_again (member k d ms) found is =
      ap (option_and_then (λ e. of_members (members_outline ms) (put k e found))) (value_again d is.1.0)
      ∙ members_again ms (put k d found) is.1.1

-- ---- its numbers are numbers, and it nests as deep

number_is : (n : Num) → IsWhole n → IsNumber (number_text n)
number_is (unsigned n) is = IsNumber-decimal n is
number_is (negative (pos n)) is = absurd is
number_is (negative (negsuc n)) is = IsNumber-signed_decimal (negsuc n) (omega arith)
number_is (float x) is = absurd is

mutual
  has_numbers : (d : Data) → IsSaid d → tree.HasNumbers (outline d)
  has_numbers null is = tt
  has_numbers (boolean b) is = tt
  has_numbers (number n) is = number_is n is
  has_numbers (string s) is = tt
  has_numbers (array ds) is = items_have_numbers ds is
  has_numbers (object ms) is = members_have_numbers ms is.0

  items_have_numbers : (ds : Items) → AreSaid ds → tree.ItemsHaveNumbers (items_outline ds)
  items_have_numbers no_items is = tt
  items_have_numbers (item d ds) is = (has_numbers d is.0, items_have_numbers ds is.1)

  members_have_numbers : (ms : Members) → MembersAreSaid ms → tree.MembersHaveNumbers (members_outline ms)
  members_have_numbers no_members is = tt
  members_have_numbers (member k d ms) is = (has_numbers d is.1.0, members_have_numbers ms is.1.1)

mutual
  same_depth : (d : Data) → tree.depth (outline d) ≤ depth d
  same_depth null = omega arith
  same_depth (boolean b) = omega arith
  same_depth (number n) = omega arith
  same_depth (string s) = omega arith
  same_depth (array ds) = omega (arith, same_items_depth ds)
  same_depth (object ms) = omega (arith, same_members_depth ms)

  same_items_depth : (ds : Items) → tree.items_depth (items_outline ds) ≤ items_depth ds
  same_items_depth no_items = omega arith
  same_items_depth (item d ds) = omega (arith, same_depth d, same_items_depth ds)

  same_members_depth : (ms : Members) → tree.members_depth (members_outline ms) ≤ members_depth ms
  same_members_depth no_members = omega arith
  same_members_depth (member k d ms) = omega (arith, same_depth d, same_members_depth ms)

-- ---- its text is UTF-8

number_utf8 : (n : Num) → IsWhole n → IsUtf8 (number_text n)
number_utf8 (unsigned n) is = IsUtf8-from_ascii _ (IsAscii-decimal n is)
number_utf8 (negative (pos n)) is = absurd is
number_utf8 (negative (negsuc n)) is = IsUtf8-from_ascii _ (IsAscii-signed (negsuc n) (omega arith))
number_utf8 (float x) is = absurd is

comma_utf8 : (later : Bool) → IsUtf8 (comma_if later)
comma_utf8 true = IsUtf8-are_ascii (44 ∷ []) refl
comma_utf8 false = IsUtf8-nil

byte_then : (b : ℕ) (text : List ℕ) → IsUtf8 (b ∷ []) → IsUtf8 text → IsUtf8 (b ∷ text)
byte_then b text one rest = IsUtf8-append (b ∷ []) text one rest

mutual
  text_utf8 : (d : Data) → IsSaid d → IsUtf8 (compact_text d)
  text_utf8 null is = IsUtf8-are_ascii _ refl
  text_utf8 (boolean b) is = IsUtf8-boolean b
  text_utf8 (number n) is = number_utf8 n is
  text_utf8 (string s) is = IsUtf8-quoted s is
  text_utf8 (array ds) is = byte_then 91 (items_text false ds) (IsUtf8-are_ascii (91 ∷ []) refl) (items_utf8 false ds is)
  text_utf8 (object ms) is = byte_then 123 (members_text false ms) (IsUtf8-are_ascii (123 ∷ []) refl) (members_utf8 false ms is.0)

  items_utf8 : (later : Bool) (ds : Items) → AreSaid ds → IsUtf8 (items_text later ds)
  items_utf8 later no_items is = IsUtf8-are_ascii (93 ∷ []) refl
  items_utf8 later (item d ds) is =
      IsUtf8-append (comma_if later) _ (comma_utf8 later) (IsUtf8-append (compact_text d) _ (text_utf8 d is.0) (items_utf8 true ds is.1))

  members_utf8 : (later : Bool) (ms : Members) → MembersAreSaid ms → IsUtf8 (members_text later ms)
  members_utf8 later no_members is = IsUtf8-are_ascii (125 ∷ []) refl
  members_utf8 later (member k d ms) is =
      IsUtf8-append (comma_if later) _ (comma_utf8 later)
      (IsUtf8-append (quoted k) _ (IsUtf8-quoted k is.0)
      (byte_then 58 (compact_text d ++ members_text true ms) (IsUtf8-are_ascii (58 ∷ []) refl)
      (IsUtf8-append (compact_text d) _ (text_utf8 d is.1.0) (members_utf8 true ms is.1.1))))

-- ---- together

read_again : (d : Data) → IsSaid d → depth d ≤ max_depth → read (compact_text d) ≡ Some d
read_again d is shallow =
    let all = tokens-print (tree.json_tokens (outline d)) (ArePrintable-json_tokens (outline d) (has_numbers d is)) in
    let said : tokens (compact_text d) ≡ tree.json_tokens (outline d) ++ [] =
    ap tokens (sym (print-outline d)) ∙ all ∙ sym (append-nil (tree.json_tokens (outline d))) in
    ap (λ ts. option_and_then of_json (option_and_then (λ p. json.if_last p.0 p.1) (json.value max_depth ts))) said
    ∙ ap (λ o. option_and_then of_json (option_and_then (λ p. json.if_last p.0 p.1) o))
    (value-json_tokens (outline d) max_depth [] (omega (arith, same_depth d)))
    ∙ value_again d is

-- a body that is the text of a value has that value
pub said_again : (d : Data) → IsSaid d → depth d ≤ max_depth → json_of (compact_text d) ≡ Some d
said_again d is shallow = json_of-taken (compact_text d) d (text_utf8 d is) (read_again d is shallow)
