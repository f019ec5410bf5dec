-- How the arguments behind a word are read, one after another, each by its form.
use Rattle.std.specs.Prelude.{ℕ, List, [], ◌∷◌, Option, None, option_and_then}
use Rattle.std.specs.Option.{option_map}
use Rattle.tt_base.specs.declared.contents.Content.{Content}
use Rattle.replay_script.specs.Contents.{content_of, mode_of, speaker_of}
use Rattle.replay_script.specs.Cut.{cut}
use Rattle.replay_script.specs.Numbers.{number_of, bytes_of}
use Rattle.replay_script.specs.Paths.{path_of}
use Rattle.replay_script.specs.Quotes.{text_of}
use Rattle.replay_script.specs.declared.contents.Speaker.{Speaker}
use Rattle.outside.specs.declared.modes.Mode.{Mode}

-- the second reading, where the first gives a value
infixl 10 ◌>>=◌
abbrev pub ◌>>=◌ : {A B : Type 0} → Option A → (A → Option B) → Option B
o >>= f = option_and_then f o

-- a form of arguments
pub data Form : Type 0 where
  Number : Form
  Path : Form
  Text : Form
  Contents : Form
  StopMode : Form
  Hexadecimal : Form
  Speaks : Form

-- what an argument of the form says
abbrev pub Value : Form → Type 0
Value Number = ℕ
Value Path = List ℕ
Value Text = List ℕ
Value Contents = Content
Value StopMode = Mode
Value Hexadecimal = List ℕ
Value Speaks = Speaker

-- what a text says as an argument of the form, and nothing where it is none
abbrev pub read : (form : Form) → List ℕ → Option (Value form)
read Number text = number_of text
read Path text = path_of text
read Text text = text_of text
read Contents text = content_of text
read StopMode text = mode_of text
read Hexadecimal text = bytes_of text
read Speaks text = speaker_of text

-- one value for each form
abbrev pub Values : List Form → Type 0
Values [] = Unit {0}
Values (form ∷ forms) = Value form × Values forms

-- the first argument, and what stands behind the space that ends it
pub record First (form : Form) : Type 0 where
  pub value : Value form
  pub rest : List ℕ

-- the same of a text that begins with an argument of the form
abbrev pub first_of : (form : Form) → List ℕ → Option (First form)
first_of form text = cut text >>= (λ parts. option_map (λ value. record { value = value; rest = parts.rest }) (read form parts.argument))

-- arguments of these forms, one or more, with one space between each and the next
abbrev pub read_all : (forms : List Form) → List ℕ → Option (Values forms)
read_all [] text = None
read_all (form ∷ []) text = option_map (λ value. (value, tt)) (read form text)
read_all (form ∷ second ∷ forms) text =
    first_of form text >>= (λ first. option_map (λ others. (first.value, others)) (read_all (second ∷ forms) first.rest))
