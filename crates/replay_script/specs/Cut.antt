-- How the end of an argument is found: it is the first space that stands in no quotes.
use Rattle.std.specs.Prelude.{ℕ, ◌+◌, ◌==◌, Bool, false, List, [], ◌∷◌, take, drop, Option, Some, None, suc, if◌then◌else◌}
use Rattle.std.specs.Option.{option_map}
use Rattle.replay_script.specs.Characters.{space, quote, backslash}
use Rattle.replay_script.specs.declared.cuts.Quoting.{Quoting}
use Rattle.replay_script.specs.declared.cuts.Quoting.TheVariants.{Outside, Inside, Escaped}

-- what a byte stands in, by the byte before it: outside quotes, inside, or inside and behind a backslash
abbrev pub quoting_behind : Quoting → ℕ → Quoting
quoting_behind Outside b = if b == quote then Inside else Outside
quoting_behind Inside b = if b == quote then Outside else (if b == backslash then Escaped else Inside)
quoting_behind Escaped b = Inside

-- a byte ends the argument
abbrev pub ends_argument : Quoting → ℕ → Bool
ends_argument Outside b = b == space
ends_argument _ b = false

-- the place of the first space outside quotes
abbrev pub space_place : Quoting → List ℕ → Option ℕ
space_place quoting [] = None
space_place quoting (b ∷ text) =
    if ends_argument quoting b then Some 0 else option_map suc (space_place (quoting_behind quoting b) text)

-- the argument that a text begins with, and what stands behind the space that ends it
pub record Parts : Type 0 where
  pub argument : List ℕ
  pub rest : List ℕ

-- the parts around a place
abbrev pub cut_at : List ℕ → ℕ → Parts
cut_at text place = record { argument = take place text; rest = drop (place + 1) text }

-- the parts of a text that has a space outside quotes
abbrev pub cut : List ℕ → Option Parts
cut text = option_map (cut_at text) (space_place Outside text)
