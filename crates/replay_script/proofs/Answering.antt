-- What the reading of a move and of a line answers, from what the reading of the arguments answers.
use Rattle.std.proofs.Common.{◌≡◌, ℕ, true, false, List, Option, Some, None, Result, Ok, Err, refl, sym, ap, subst, ok_or}
use Rattle.std.specs.Prelude.{IsUtf8, IsSome, option_map}
use Rattle.std.proofs.lemmas.Bool.{false≢true}
use Rattle.replay_script.specs.Arguments.{Values, read_all}
use Rattle.replay_script.specs.Grammar.{TakesMemory}
use Rattle.replay_script.specs.Lines.{asked_with, line_asks}
use Rattle.replay_script.specs.Reads.{Answers, AnswerTakes, Gives, Reads, ReadsLine, ReadsMove}
use Rattle.replay_script.specs.Words.{asked, forms_of, takes_memory}
use Rattle.replay_script.specs.declared.faults.LineFault.{LineFault}
use Rattle.replay_script.specs.declared.faults.LineFault.TheVariants.{NotAMove, Memory}
use Rattle.replay_script.specs.declared.moves.Move.{Move}
use Rattle.replay_script.specs.declared.words.Word.{Word}
use Rattle.replay_script.specs.declared.words.Word.TheVariants.{Load, Editor, Typed, File, Outside, Report, Disk, Hear}
use Rattle.replay_script.proofs.LineGrammar.{move_spelled, nothing_spelled, outside_spelled}

-- the moves of a word that takes memory take memory
word_takes : (word : Word) (values : Values (forms_of word)) → takes_memory word ≡ true → TakesMemory (asked word values)
word_takes Load values takes = refl
word_takes Editor values takes = refl
word_takes Typed values takes = refl
word_takes File values takes = refl
word_takes Outside values takes = refl
word_takes Report values takes = refl
word_takes Disk values takes = refl
word_takes Hear values takes = refl
word_takes _ values takes = absurd (false≢true takes)

some_given : (word : Word) (o : Option (Values (forms_of word))) → takes_memory word ≡ true → IsSome (option_map (asked word) o) → Gives TakesMemory (option_map (asked word) o)
some_given word None takes there = absurd (false≢true there)
some_given word (Some values) takes there = record { value = asked word values; is = refl; memory = word_takes word values takes }

pub kept_read : (word : Word) (text : List ℕ) (r : Result Move LineFault) → takes_memory word ≡ true → Reads r (asked_with text word) → ReadsMove r (asked_with text word)
kept_read word text (Ok moved) takes reads = reads
kept_read word text (Err NotAMove) takes reads = reads
kept_read word text (Err Memory) takes reads = some_given word (read_all (forms_of word) text) takes reads

-- the other words take none
pub plain_word : (word : Word) → (word ≡ Load → ⊥) → (word ≡ Editor → ⊥) → (word ≡ Typed → ⊥) → (word ≡ File → ⊥) → (word ≡ Outside → ⊥) → (word ≡ Report → ⊥) → (word ≡ Disk → ⊥)
    → (word ≡ Hear → ⊥) → takes_memory word ≡ false
plain_word Load load editor typed file outside report disk hear = absurd (load refl)
plain_word Editor load editor typed file outside report disk hear = absurd (editor refl)
plain_word Typed load editor typed file outside report disk hear = absurd (typed refl)
plain_word File load editor typed file outside report disk hear = absurd (file refl)
plain_word Outside load editor typed file outside report disk hear = absurd (outside refl)
plain_word Report load editor typed file outside report disk hear = absurd (report refl)
plain_word Disk load editor typed file outside report disk hear = absurd (disk refl)
plain_word Hear load editor typed file outside report disk hear = absurd (hear refl)
plain_word _ load editor typed file outside report disk hear = refl

sure_read : (o : Option Move) → ReadsMove (ok_or o NotAMove) o
sure_read None = refl
sure_read (Some moved) = refl

pub plain_read : (o : Option Move) (expected : Option Move) (r : Result Move LineFault) → r ≡ ok_or o NotAMove → o ≡ expected → ReadsMove r expected
plain_read o expected r is same =
    subst (λ (q : Result Move LineFault). ReadsMove q expected) (sym is) (subst (λ (e : Option Move). ReadsMove (ok_or o NotAMove) e) same (sure_read o))

-- a line asks for what a move is read from
line_given : (expected : Option Move) → Gives TakesMemory expected → Gives AnswerTakes (option_map (λ moved. Some moved) expected)
line_given expected gives = record { value = Some gives.value; is = ap (option_map (λ moved. Some moved)) gives.is; memory = gives.memory }

pub line_refused : (fault : LineFault) (expected : Option Move) → ReadsMove (Err fault) expected → ReadsLine (Err fault) (option_map (λ moved. Some moved) expected)
line_refused NotAMove expected reads = ap (option_map (λ moved. Some moved)) reads
line_refused Memory expected reads = line_given expected reads

memory_answered : (line : List ℕ) (value : Option Move) → IsUtf8 line → line_asks line ≡ Some value → AnswerTakes value → Answers line (Err Memory)
memory_answered line None utf8 asks takes = absurd takes
memory_answered line (Some moved) utf8 asks takes = record { moved = moved; asks = move_spelled line moved utf8 asks; memory = takes }

-- what is computed of a line is what the grammar says
pub answered : (line : List ℕ) (r : Result (Option Move) LineFault) → IsUtf8 line → ReadsLine r (line_asks line) → Answers line r
answered line (Ok None) utf8 reads = nothing_spelled line reads
answered line (Ok (Some moved)) utf8 reads = move_spelled line moved utf8 reads
answered line (Err NotAMove) utf8 reads = outside_spelled line reads
answered line (Err Memory) utf8 reads = memory_answered line reads.value utf8 reads.is reads.memory
