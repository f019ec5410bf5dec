-- The orders of names, actors and ids.
use Rattle.std.specs.declared.cmp.Ordering.{Ordering}
use Rattle.std.specs.Ordering.{nat_cmp, ordering_then}
use Rattle.std.specs.Cmp.Lexicographic.{slice_cmp}
use Rattle.tt_base.specs.declared.ids.Name.{Name}
use Rattle.tt_base.specs.declared.ids.Actor.{Actor}
use Rattle.tt_base.specs.declared.ids.ElemId.{ElemId}

-- names by their bytes, the first first
abbrev pub name_cmp : Name → Name → Ordering
name_cmp a b = slice_cmp nat_cmp a.0 b.0

-- actors by their bytes, the first first
abbrev pub actor_cmp : Actor → Actor → Ordering
actor_cmp a b = slice_cmp nat_cmp a.0 b.0

-- ids by depth, then actor, then name, then index (Lamport's order of events, with the tie broken by who and what)
abbrev pub id_cmp : ElemId → ElemId → Ordering
id_cmp a b =
    ordering_then (nat_cmp a.depth b.depth)
    (ordering_then (actor_cmp a.actor b.actor) (ordering_then (name_cmp a.name b.name) (nat_cmp a.index b.index)))
