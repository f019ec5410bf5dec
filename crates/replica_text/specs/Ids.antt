-- The order of ids as tests, and runs of ids that differ in their index alone.
use Rattle.std.specs.Prelude.{ℕ, zero, suc, ◌+◌, Bool, false, ◌||◌, List}
use Rattle.std.specs.Ordering.{is_lt, is_eq}
use Rattle.std.specs.List.{list_any}
use Rattle.tt_base.specs.Ids.{id_cmp}
use Rattle.tt_base.specs.declared.ids.ElemId.{ElemId}
use Rattle.tt_base.specs.declared.elements.Element.{Element}

-- whether the one id stands before the other in the order of ids
unfoldable pub less : ElemId → ElemId → Bool
less a b = is_lt (id_cmp a b)

-- whether two ids are one
unfoldable pub same : ElemId → ElemId → Bool
same a b = is_eq (id_cmp a b)

-- the id behind this one in a run
abbrev pub next_id : ElemId → ElemId
next_id id = record id { index = suc id.index }

-- the id that stands so many behind this one in a run
abbrev pub shifted : ElemId → ℕ → ElemId
shifted id count = record id { index = id.index + count }

-- whether an id is among so many, from the first on
abbrev pub is_in_run : ElemId → ℕ → ElemId → Bool
is_in_run first zero id = false
is_in_run first (suc count) id = same first id || is_in_run (next_id first) count id

-- whether one of the elements has the id
abbrev pub is_known : List Element → ElemId → Bool
is_known elements id = list_any (λ (e : Element). same e.id id) elements
