-- What a reading answers.
use Rattle.std.specs.Prelude.{◌≡◌, List, ℕ, Option, Some, None, IsSome, Result, Ok, Err}
use Rattle.replay_script.specs.Grammar.{AsksFor, AsksNothing, IsOutside, TakesMemory}
use Rattle.replay_script.specs.declared.faults.LineFault.{LineFault}
use Rattle.replay_script.specs.declared.faults.LineFault.TheVariants.{NotAMove, Memory}
use Rattle.replay_script.specs.declared.moves.Move.{Move}

-- a refusal where the grammar gives nothing, and want of memory where it gives a value
abbrev pub IsRefusal : {A : Type 0} → LineFault → Option A → Type 0
IsRefusal NotAMove expected = expected ≡ None
IsRefusal Memory expected = IsSome expected

-- the value that the grammar gives, as the definitions see it, or its refusal
abbrev pub ReadsAs : {T A : Type 0} → (T → A) → Result T LineFault → Option A → Type 0
ReadsAs seen (Ok value) expected = expected ≡ Some (seen value)
ReadsAs seen (Err fault) expected = IsRefusal fault expected

-- the value that the grammar gives; a refusal exactly where it gives none; want of memory only in place of a value
abbrev pub Reads : {T : Type 0} → Result T LineFault → Option T → Type 0
Reads result expected = ReadsAs (λ value. value) result expected

-- the grammar gives a value that takes memory
pub record Gives {A : Type 0} (takes : A → Type 0) (expected : Option A) : Type 0 where
  pub value : A
  pub is : expected ≡ Some value
  pub memory : takes value

-- the value that the grammar gives; a refusal exactly where it gives none; want of memory only in place of a value that takes memory
abbrev pub ReadsKept : {A : Type 0} → (A → Type 0) → Result A LineFault → Option A → Type 0
ReadsKept takes (Ok value) expected = expected ≡ Some value
ReadsKept takes (Err NotAMove) expected = expected ≡ None
ReadsKept takes (Err Memory) expected = Gives takes expected

-- nothing takes no memory
abbrev pub AnswerTakes : Option Move → Type 0
AnswerTakes None = ⊥
AnswerTakes (Some moved) = TakesMemory moved

-- the reading of a move, and that of a line
abbrev pub ReadsMove : Result Move LineFault → Option Move → Type 0
ReadsMove result expected = ReadsKept TakesMemory result expected

abbrev pub ReadsLine : Result (Option Move) LineFault → Option (Option Move) → Type 0
ReadsLine result expected = ReadsKept AnswerTakes result expected

-- the line asks for a move that has a path, a text or bytes
pub record AsksForMemory (line : List ℕ) : Type 0 where
  pub moved : Move
  pub asks : AsksFor line moved
  pub memory : TakesMemory moved

-- what the reading of a line answers, by the grammar: nothing where it asks for nothing; the move that it asks for; `NotAMove`
-- where it is outside the grammar; and `Memory` only in place of a move that has a path, a text or bytes
abbrev pub Answers : List ℕ → Result (Option Move) LineFault → Type 0
Answers line (Ok None) = AsksNothing line
Answers line (Ok (Some moved)) = AsksFor line moved
Answers line (Err NotAMove) = IsOutside line
Answers line (Err Memory) = AsksForMemory line
