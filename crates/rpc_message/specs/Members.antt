-- The members of a request's parameters that have a meaning, and their names.
use Rattle.std.specs.Prelude.{List, [], ◌∷◌, ℕ, find, Option, codes}
use Rattle.std.specs.Str.{bytes_eq}
use Rattle.rpc_message.specs.declared.members.Member.{Member}
use Rattle.rpc_message.specs.declared.members.Member.TheVariants.{Params, Uri, Content, Revision, Delta, Ranges}

-- the name of a member
abbrev pub name : Member → List ℕ
name Params = codes "params"
name Uri = codes "uri"
name Content = codes "content"
name Revision = codes "revision"
name Delta = codes "delta"
name Ranges = codes "ranges"

-- every member
abbrev pub members : List Member
members = Params ∷ Uri ∷ Content ∷ Revision ∷ Delta ∷ Ranges ∷ []

-- the member of this name
abbrev pub member_named : List ℕ → Option Member
member_named word = find (λ m. bytes_eq word (name m)) members
