-- Lines: what the reader gives of a line is what the grammar says of it, both ways; and the line that is written for a move asks for it.
use Rattle.std.proofs.Common.{◌≡◌, ℕ, suc, ◌+◌, ◌-◌, ◌≤◌, ◌==◌, ◌&&◌, Bool, true, false, List, [], ◌∷◌, ◌++◌, take, drop, map}
use Rattle.std.proofs.Common.{Option, Some, None, refl, sym, ap, ap₂, ◌∙◌, subst, arith, inl, inr, eqb-true, slice_get}
use Rattle.std.specs.Prelude.{IsUtf8, option_map}
use Rattle.std.specs.List.{AllByRecursion, AllZip, enumerate_from, join_with_byte, list_all}
use Rattle.std.specs.Str.{bytes_eq}
use Rattle.std.proofs.lemmas.Bool.{cases_Bool, and_parts, false≢true}
use Rattle.std.proofs.lemmas.List.{drop_more, take-append-drop}
use Rattle.std.proofs.lemmas.Slice.Eq.{bytes_eq-Decides}
use Rattle.name_table.specs.Rows.{number_of}
use Rattle.replay_script.specs.Arguments.{◌>>=◌, Form, First, Values, read, read_all, first_of}
use Rattle.replay_script.specs.Cut.{Parts, cut, cut_at, space_place}
use Rattle.replay_script.specs.Grammar.{Argument, AsksFor, AsksNothing, Empty, Comment, IsOutside, Spells, call, call_of, spaced, written}
use Rattle.replay_script.specs.Laws.{GrammarIsDecided, IsWritable, LinesAreUnambiguous, WrittenLineAsks}
use Rattle.replay_script.specs.Lines.{asked_by, asked_with, line_asks}
use Rattle.replay_script.specs.Words.{asked, forms_of, name_of, names, word_named}
use Rattle.replay_script.specs.declared.contents.Speaker.{Speaker}
use Rattle.replay_script.specs.declared.cuts.Quoting.TheVariants.{Outside as NoQuotes}
use Rattle.replay_script.specs.declared.moves.Move.{Move}
use Rattle.replay_script.specs.declared.words.Word.{Word}
use Rattle.replay_script.specs.declared.words.Word.TheVariants.{Daemon, Load, Editor, Typed, Up, Down, Settle, Close, Open, Cut, Show, File, Held, Link}
use Rattle.replay_script.specs.declared.words.Word.TheVariants.{Pass, Copy, Sync, Unlink, Outside, Sweep, Report, Disk, Crash, Restart, Stop, Begin, Hear, End}
use Rattle.replay_script.specs.declared.words.TheConstants.{WORDS}
use Rattle.replay_script.proofs.ArgumentGrammar.{argument, argument_passes, argument_read, argument_spelled, argument_written, may_lead}
use Rattle.replay_script.proofs.Spaces.{cut-argument, found_space, is_unquoted, unquoted_passes}
use Rattle.replay_script.proofs.TextGrammar.{both_give, made_gives, utf8_cut}

-- the arguments that values are
abbrev arguments : (forms : List Form) → Values forms → List Argument
arguments [] values = []
arguments (form ∷ forms) values = argument form values.0 ∷ arguments forms values.1

-- one form or more, and each but the last may stand in front of another
abbrev are_in_order : List Form → Bool
are_in_order [] = false
are_in_order (form ∷ []) = true
are_in_order (form ∷ other ∷ forms) = may_lead form && are_in_order (other ∷ forms)

-- texts that spell the arguments are read as them
arguments_read : (forms : List Form) (values : Values forms) (texts : List (List ℕ)) → are_in_order forms ≡ true → AllZip Spells texts (arguments forms values)
    → read_all forms (join_with_byte 32 texts) ≡ Some values
arguments_read [] values texts order spells = absurd (false≢true order)
arguments_read (form ∷ []) values [] order spells = absurd spells
arguments_read (form ∷ []) values (text ∷ []) order spells = ap (option_map (λ value. (value, tt))) (argument_read form values.0 text spells.0)
arguments_read (form ∷ []) values (text ∷ more ∷ texts) order spells = absurd spells.1
arguments_read (form ∷ other ∷ forms) values [] order spells = absurd spells
arguments_read (form ∷ other ∷ forms) values (text ∷ []) order spells = absurd spells.1
arguments_read (form ∷ other ∷ forms) values (text ∷ more ∷ texts) order spells =
    let parts = and_parts (may_lead form) (are_in_order (other ∷ forms)) order in
    let behind = join_with_byte 32 (more ∷ texts) in
    let ends = cut-argument text behind (argument_passes form values.0 text spells.0 parts.0) in
    let first : first_of form (text ++ 32 ∷ behind) ≡ Some (record { value = values.0; rest = behind }) = rw (ends, argument_read form values.0 text spells.0) refl in
    rw (first, arguments_read (other ∷ forms) values.1 (more ∷ texts) parts.1 spells.1) refl

-- a text that is cut is its parts, around a space
text_cut : (text : List ℕ) (parts : Parts) → cut text ≡ Some parts → text ≡ parts.argument ++ 32 ∷ parts.rest
text_cut text parts found =
    let place = made_gives (space_place NoQuotes text) (cut_at text) parts found in
    let i = place.from in
    let space = found_space NoQuotes text i place.one in
    sym (take-append-drop i text)
    ∙ ap (λ t. take i text ++ t) (drop_more text i 0 space.0 ∙ ap (λ c. c ∷ drop (i + 1) text) space.1)
    ∙ ap (λ p. p.argument ++ 32 ∷ p.rest) place.two

-- what is read as arguments is texts that spell them, with one space between each and the next
record AreTexts (line : List ℕ) (arguments : List Argument) : Type 0 where
  first : List ℕ
  others : List (List ℕ)
  stand : line ≡ join_with_byte 32 (first ∷ others)
  spell : AllZip Spells (first ∷ others) arguments

arguments_spelled : (forms : List Form) (values : Values forms) (line : List ℕ) → IsUtf8 line → read_all forms line ≡ Some values → AreTexts line (arguments forms values)
arguments_spelled [] values line utf8 found = cc
arguments_spelled (form ∷ []) values line utf8 found =
    let made = made_gives (read form line) (λ value. let alone : Values (form ∷ []) = (value, tt) in alone) values found in
    let same : made.from ≡ values.0 = ap (λ v. v.0) made.two in
    record { first = line; others = []; stand = refl; spell = (argument_spelled form values.0 line utf8 (made.one ∙ ap Some same), tt) }
arguments_spelled (form ∷ other ∷ forms) values line utf8 found =
    let more_from = λ (first : First form). option_map (λ others. let all : Values (form ∷ other ∷ forms) = (first.value, others) in all) (read_all (other ∷ forms) first.rest) in
    let whole = both_give (first_of form line) more_from values found in
    let first = whole.between in
    let others = made_gives (read_all (other ∷ forms) first.rest) (λ others. let all : Values (form ∷ other ∷ forms) = (first.value, others) in all) values whole.two in
    let parts = both_give (cut line) (λ parts. option_map (λ value. let f : First form = record { value = value; rest = parts.rest } in f) (read form parts.argument)) first whole.one in
    let text = parts.between.argument in
    let value = made_gives (read form text) (λ value. let f : First form = record { value = value; rest = parts.between.rest } in f) first parts.two in
    let stands : line ≡ text ++ 32 ∷ parts.between.rest = text_cut line parts.between parts.one in
    let both = utf8_cut text 32 parts.between.rest (omega arith) (subst IsUtf8 stands utf8) in
    let rest_is : parts.between.rest ≡ first.rest = ap (λ f. f.rest) value.two in
    let one : value.from ≡ values.0 = ap (λ f. f.value) value.two ∙ ap (λ v. v.0) others.two in
    let more : others.from ≡ values.1 = ap (λ v. v.1) others.two in
    let rest = arguments_spelled (other ∷ forms) values.1 first.rest (subst IsUtf8 rest_is both.second) (others.one ∙ ap Some more) in
    record {
      first = text;
      others = rest.first ∷ rest.others;
      stand = stands ∙ ap (λ t. text ++ 32 ∷ t) (rest_is ∙ rest.stand);
      spell = (argument_spelled form values.0 text both.first (value.one ∙ ap Some one), rest.spell);
    }

-- a word of the table: its name gives it back, has no spaces, and begins no comment; its forms are in order
record IsKnown (word : Word) : Type 0 where
  named : word_named (name_of word) ≡ Some word
  unquoted : list_all is_unquoted (name_of word) ≡ true
  asks : (rest : List ℕ) → line_asks (name_of word ++ rest) ≡ option_map Some (asked_by (name_of word ++ rest))
  order : are_in_order (forms_of word) ≡ true

known : (word : Word) → IsKnown word
known Daemon = record { named = refl; unquoted = refl; asks = λ rest. refl; order = refl }
known _ = record { named = refl; unquoted = refl; asks = λ rest. refl; order = refl }

-- a word that is found among words has the name that was sought
record IsFoundAt (words : List Word) (name : List ℕ) (from number : ℕ) : Type 0 where
  after : from ≤ number
  word : Word
  there : slice_get words (number - from) ≡ Some word
  called : name ≡ name_of word

found_later : (w : Word) (words : List Word) (name : List ℕ) (from number : ℕ) → IsFoundAt words name (from + 1) number → IsFoundAt (w ∷ words) name from number
found_later w words name from number is =
    let after = is.after in
    let next : number - from ≡ suc (number - (from + 1)) = omega arith in
    record { after = omega arith; word = is.word; there = ap (slice_get (w ∷ words)) next ∙ is.there; called = is.called }

word_found : (words : List Word) (name : List ℕ) (from number : ℕ) → number_of name (enumerate_from from (map name_of words)) ≡ Some number → IsFoundAt words name from number
word_found [] name from number found = cc
word_found (w ∷ words) name from number found =
    elim (cases_Bool (bytes_eq (name_of w) name)) [
      | inl same ↦
          let here : from ≡ number = let got = rw same at found in cc in
          let none : number - from ≡ 0 = omega arith in
          record { after = omega arith; word = w; there = ap (slice_get (w ∷ words)) none; called = sym ((bytes_eq-Decides (name_of w) name).0 same) }
      | inr other ↦ found_later w words name from number (word_found words name (from + 1) number (rw other at found))
    ]

word_called : (name : List ℕ) (word : Word) → word_named name ≡ Some word → name ≡ name_of word
word_called name word found =
    let number = both_give (number_of name names) (λ n. slice_get WORDS n) word found in
    let is = word_found WORDS name 0 number.between number.one in
    let place : number.between - 0 ≡ number.between = omega arith in
    let same : Some is.word ≡ Some word = sym is.there ∙ ap (slice_get WORDS) place ∙ number.two in
    is.called ∙ ap name_of (let one : is.word ≡ word = cc in one)

-- the row of the move that a word asks for
asked_call : (word : Word) (values : Values (forms_of word)) → call_of (asked word values) ≡ call (name_of word) (arguments (forms_of word) values)
asked_call Begin (d, (conn, (Speaker.Editor, _))) = refl
asked_call Begin (d, (conn, (Speaker.Peer, _))) = refl
asked_call Daemon values = refl
asked_call _ values = refl

-- a move, as a word and its values
record IsAsked (moved : Move) : Type 0 where
  word : Word
  values : Values (forms_of word)
  same : asked word values ≡ moved

asking : (moved : Move) → IsAsked moved
asking (Move.Daemon d) = record { word = Daemon; values = (d, tt); same = refl }
asking (Move.Load d base disk) = record { word = Load; values = (d, (base, (disk, tt))); same = refl }
asking (Move.Editor e d path text) = record { word = Editor; values = (e, (d, (path, (text, tt)))); same = refl }
asking (Move.Typed e place gone text) = record { word = Typed; values = (e, (place, (gone, (text, tt)))); same = refl }
asking (Move.Up e) = record { word = Up; values = (e, tt); same = refl }
asking (Move.Down e) = record { word = Down; values = (e, tt); same = refl }
asking (Move.Settle e) = record { word = Settle; values = (e, tt); same = refl }
asking (Move.Close e) = record { word = Close; values = (e, tt); same = refl }
asking (Move.Open e) = record { word = Open; values = (e, tt); same = refl }
asking (Move.Cut e) = record { word = Cut; values = (e, tt); same = refl }
asking (Move.Show e) = record { word = Show; values = (e, tt); same = refl }
asking (Move.File d path) = record { word = File; values = (d, (path, tt)); same = refl }
asking (Move.Held d) = record { word = Held; values = (d, tt); same = refl }
asking (Move.Link a b) = record { word = Link; values = (a, (b, tt)); same = refl }
asking (Move.Pass a b k) = record { word = Pass; values = (a, (b, (k, tt))); same = refl }
asking (Move.Copy a b k) = record { word = Copy; values = (a, (b, (k, tt))); same = refl }
asking (Move.Sync a b n) = record { word = Sync; values = (a, (b, (n, tt))); same = refl }
asking (Move.Unlink a b) = record { word = Unlink; values = (a, (b, tt)); same = refl }
asking (Move.Outside d path content) = record { word = Outside; values = (d, (path, (content, tt))); same = refl }
asking (Move.Sweep d) = record { word = Sweep; values = (d, tt); same = refl }
asking (Move.Report d path content) = record { word = Report; values = (d, (path, (content, tt))); same = refl }
asking (Move.Disk d path) = record { word = Disk; values = (d, (path, tt)); same = refl }
asking (Move.Crash d) = record { word = Crash; values = (d, tt); same = refl }
asking (Move.Restart d) = record { word = Restart; values = (d, tt); same = refl }
asking (Move.Stop d k mode) = record { word = Stop; values = (d, (k, (mode, tt))); same = refl }
asking (Move.BeginEditor d conn) = record { word = Begin; values = (d, (conn, (Speaker.Editor, tt))); same = refl }
asking (Move.BeginPeer d conn) = record { word = Begin; values = (d, (conn, (Speaker.Peer, tt))); same = refl }
asking (Move.Hear d conn bytes) = record { word = Hear; values = (d, (conn, (bytes, tt))); same = refl }
asking (Move.End d conn) = record { word = End; values = (d, (conn, tt)); same = refl }

-- texts that spell one argument or more are one or more
no_texts : (forms : List Form) (values : Values forms) → are_in_order forms ≡ true → AllZip Spells [] (arguments forms values) → ⊥
no_texts [] values order spells = false≢true order
no_texts (form ∷ forms) values order spells = spells

word_asked : (word : Word) (values : Values (forms_of word)) (texts : List (List ℕ)) → AllZip Spells texts (arguments (forms_of word) values)
    → line_asks (spaced (name_of word) texts) ≡ Some (Some (asked word values))
word_asked word values [] spells = absurd (no_texts (forms_of word) values (known word).order spells)
word_asked word values (text ∷ texts) spells =
    let is = known word in
    let rest = join_with_byte 32 (text ∷ texts) in
    let ends : cut (name_of word ++ 32 ∷ rest) ≡ Some (record { argument = name_of word; rest = rest }) =
    cut-argument (name_of word) rest (unquoted_passes (name_of word) is.unquoted) in
    let by_word : asked_by (name_of word ++ 32 ∷ rest) ≡ option_map (asked word) (read_all (forms_of word) rest) = rw (ends, is.named) refl in
    is.asks (32 ∷ rest)
    ∙ ap (option_map Some) (by_word ∙ ap (option_map (asked word)) (arguments_read (forms_of word) values (text ∷ texts) is.order spells))

-- a line that asks for a move is read as it
pub move_read : (line : List ℕ) (moved : Move) → AsksFor line moved → line_asks line ≡ Some (Some moved)
move_read line moved is =
    let asks = asking moved in
    let row : call_of moved ≡ call (name_of asks.word) (arguments (forms_of asks.word) asks.values) = ap call_of (sym asks.same) ∙ asked_call asks.word asks.values in
    let spells = subst (λ c. AllZip Spells is.texts c.arguments) row is.spells in
    ap line_asks (is.stands ∙ ap (λ c. spaced c.word is.texts) row)
    ∙ word_asked asks.word asks.values is.texts spells
    ∙ ap (λ m. Some (Some m)) asks.same

asked_spelled : (line : List ℕ) (moved : Move) → IsUtf8 line → asked_by line ≡ Some moved → AsksFor line moved
asked_spelled line moved utf8 found =
    let whole = both_give (cut line) (λ parts. word_named parts.argument >>= asked_with parts.rest) moved found in
    let parts = whole.between in
    let word = both_give (word_named parts.argument) (asked_with parts.rest) moved whole.two in
    let values = made_gives (read_all (forms_of word.between) parts.rest) (asked word.between) moved word.two in
    let stands : line ≡ parts.argument ++ 32 ∷ parts.rest = text_cut line parts whole.one in
    let both = utf8_cut parts.argument 32 parts.rest (omega arith) (subst IsUtf8 stands utf8) in
    let texts = arguments_spelled (forms_of word.between) values.from parts.rest both.second values.one in
    let row : call (name_of word.between) (arguments (forms_of word.between) values.from) ≡ call_of moved =
    sym (asked_call word.between values.from) ∙ ap call_of values.two in
    let called = word_called parts.argument word.between word.one in
    let all = texts.first ∷ texts.others in
    record {
      texts = all;
      stands = stands ∙ ap₂ (λ name rest. name ++ 32 ∷ rest) called texts.stand ∙ ap (λ c. spaced c.word all) row;
      spells = subst (λ c. AllZip Spells all c.arguments) row texts.spell;
    }

-- a line that is read as a move asks for it
pub move_spelled : (line : List ℕ) (moved : Move) → IsUtf8 line → line_asks line ≡ Some (Some moved) → AsksFor line moved
move_spelled [] moved utf8 found = cc
move_spelled (b ∷ line) moved utf8 found =
    elim (cases_Bool (b == 35)) [
      | inl hash ↦ let nothing = rw hash at found in cc
      | inr other ↦
          let made = made_gives (asked_by (b ∷ line)) (λ m. Some m) (Some moved) (rw other at found) in
          let same : made.from ≡ moved = let both = made.two in cc in
          asked_spelled (b ∷ line) moved utf8 (made.one ∙ ap Some same)
    ]

pub nothing_read : (line : List ℕ) → AsksNothing line → line_asks line ≡ Some None
nothing_read line (Empty is) = ap line_asks is
nothing_read line (Comment text is) = ap line_asks is

pub nothing_spelled : (line : List ℕ) → line_asks line ≡ Some None → AsksNothing line
nothing_spelled [] found = Empty refl
nothing_spelled (b ∷ line) found =
    elim (cases_Bool (b == 35)) [
      | inl hash ↦ Comment line (ap (λ c. c ∷ line) (eqb-true b 35 hash))
      | inr other ↦
          let made = made_gives (asked_by (b ∷ line)) (λ m. Some m) None (rw other at found) in
          let both = made.two in
          cc
    ]

pub outside_spelled : (line : List ℕ) → line_asks line ≡ None → IsOutside line
outside_spelled line found =
    record {
      something = λ nothing. let read = nothing_read line nothing in cc;
      no_move = λ moved asks. let read = move_read line moved asks in cc;
    }

outside_by : (line : List ℕ) (answer : Option (Option Move)) → line_asks line ≡ answer → IsUtf8 line → IsOutside line → answer ≡ None
outside_by line None is utf8 outside = refl
outside_by line (Some None) is utf8 outside = absurd (outside.something (nothing_spelled line is))
outside_by line (Some (Some moved)) is utf8 outside = absurd (outside.no_move moved (move_spelled line moved utf8 is))

pub grammar_decided : GrammarIsDecided
grammar_decided line utf8 =
    record {
      moves = λ moved. (λ found. move_spelled line moved utf8 found, λ asks. move_read line moved asks);
      nothing = (nothing_spelled line, nothing_read line);
      outside = (outside_spelled line, outside_by line (line_asks line) refl utf8);
    }

pub lines_unambiguous : LinesAreUnambiguous
lines_unambiguous line =
    record {
      one = λ moved other asks asks_other.
          let first = move_read line moved asks in
          let second = move_read line other asks_other in
          cc;
      none = λ moved asks nothing.
          let first = move_read line moved asks in
          let second = nothing_read line nothing in
          cc;
    }

all_written : (arguments : List Argument) → AllByRecursion IsWritable arguments → AllZip Spells (map written arguments) arguments
all_written [] are = tt
all_written (argument ∷ arguments) are = (argument_written argument are.0, all_written arguments are.1)

pub written_asks : WrittenLineAsks
written_asks moved has = record { texts = map written (call_of moved).arguments; stands = refl; spells = all_written (call_of moved).arguments has }
