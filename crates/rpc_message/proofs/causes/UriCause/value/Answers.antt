use Rattle.std.proofs.Common.{◌≡◌, ℕ, List, Some, None, refl, ap, ◌∙◌}
use denote.Enum.Declared.{tag_of}
use Rattle.name_table.specs.Rows.{word_of}
use Rattle.rpc_message.specs.Causes.{causes, name}
use Rattle.rpc_message.specs.contracts.causes.UriCause.{the_type}
use Rattle.rpc_message.specs.declared.causes.UriCause.{UriCause}
use Rattle.rpc_message.specs.declared.causes.UriCause.TheVariants.{NotAUri}
use Rattle.rpc_message.proofs.causes.UriCause.value.Goals as goal

name_found : (cause : UriCause) → word_of (tag_of the_type cause) causes ≡ Some (name cause)
name_found NotAUri = refl
name_found _ = refl

none_some : (word : List ℕ) → None ≡ Some word → ⊥
none_some word same = cc

pub returns-in-None : goal.returns-in-None
returns-in-None c =
    absurd (none_some (name c.args.self) (c.in-None.ensures.value ∙ ap (λ t. word_of (tag_of the_type c.args.self) t) c.causes-names.ensures ∙ name_found c.args.self))
