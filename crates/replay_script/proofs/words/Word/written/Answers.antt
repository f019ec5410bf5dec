use Rattle.std.proofs.Common.{◌≡◌, ℕ, List, Some, None, refl, ap, ◌∙◌}
use Rattle.name_table.specs.Rows.{word_of}
use denote.Enum.Declared.{tag_of}
use Rattle.replay_script.specs.contracts.words.Word.{the_type}
use Rattle.replay_script.specs.declared.words.Word.{Word}
use Rattle.replay_script.specs.declared.words.Word.TheVariants.{Daemon}
use Rattle.replay_script.specs.Words.{names, name_of}
use Rattle.replay_script.proofs.words.Word.written.Goals as goal

name_found : (word : Word) → word_of (tag_of the_type word) names ≡ Some (name_of word)
name_found Daemon = refl
name_found _ = refl

none_some : (name : List ℕ) → None ≡ Some name → ⊥
none_some name same = cc

pub returns-in-None : goal.returns-in-None
returns-in-None c =
    absurd (none_some (name_of c.args.self) (c.in-None.ensures.value ∙ ap (λ t. word_of (tag_of the_type c.args.self) t) c.names-names.ensures ∙ name_found c.args.self))
