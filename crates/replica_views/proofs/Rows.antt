-- Worked histories: the names of the changes are made up.
use Rattle.std.proofs.Common.{◌≡◌, ℕ, List, [], ◌∷◌, Some, None, refl}
use Rattle.std.specs.Prelude.{codes}
use Rattle.delta.specs.Cells.{inserts, keeping, deleting, joined, nothing}
use Rattle.tt_base.specs.declared.ids.Name.{Name}
use Rattle.tt_base.specs.declared.ids.Actor.{Actor}
use Rattle.change_codec.specs.Change.{Change}
use Rattle.change_codec.specs.declared.ops.Ref.TheVariants.{Here, There}
use Rattle.change_codec.specs.declared.ops.Parent.TheVariants.{Root, After}
use Rattle.change_codec.specs.declared.ops.Op.TheVariants.{Make, Remove, Insert, Delete}
use Rattle.change_graph.specs.History.{History}
use Rattle.replica_text.specs.Ids.{less, same}
use Rattle.replica_views.specs.Ids.{depth_at}
use Rattle.replica_views.specs.Objects.{winner_at}
use Rattle.replica_views.specs.Texts.{ops_on, tree_of}
use Rattle.replica_views.specs.Views.{beginning, view_at}
use Rattle.replica_views.specs.Effects.{effect_at}
use Rattle.replica_views.specs.Made.{heads_of, made, removed}

abbrev actor : ℕ → Actor
actor n = record { 0 = n ∷ [] }

abbrev name : ℕ → Name
name n = record { 0 = n ∷ [] }

abbrev f : List ℕ
f = codes "f"

-- actor 1 makes `f` with the text `ab`
abbrev first : Change
first = record { actor = actor 1; seq = 1; deps = []; ops = Make f ∷ Insert (Here 0) Root (codes "ab") ∷ [] }

-- then, knowing of nothing but that, actor 1 puts `x` behind the `a`, and actor 2 puts `y` there and deletes the `b`
abbrev second : Change
second = record { actor = actor 1; seq = 2; deps = name 5 ∷ []; ops = Insert (There (name 5) 0) (After (There (name 5) 1)) (codes "x") ∷ [] }

abbrev other : Change
other =
    record {
      actor = actor 2;
      seq = 1;
      deps = name 5 ∷ [];
      ops = Insert (There (name 5) 0) (After (There (name 5) 1)) (codes "y") ∷ Delete (There (name 5) 0) (There (name 5) 2) 1 ∷ [];
    }

abbrev one : History
one = (name 5, first) ∷ []

abbrev two : History
two = (name 3, second) ∷ (name 5, first) ∷ []

abbrev all : History
all = (name 3, second) ∷ (name 4, other) ∷ (name 5, first) ∷ []

-- the change that is made for a delta is the one above; it knows the heads
made_first : made beginning (actor 1) f (inserts (codes "ab") nothing) ≡ first
unfolding made heads_of winner_at
made_first = refl

made_second : made one (actor 1) f (joined (keeping 1) (inserts (codes "x") (keeping 1))) ≡ second
unfolding made heads_of winner_at tree_of ops_on depth_at less same
made_second = refl

made_other : made one (actor 2) f (joined (keeping 1) (inserts (codes "y") (deleting 1))) ≡ other
unfolding made heads_of winner_at tree_of ops_on depth_at less same
made_other = refl

-- what stands behind one character stands there in falling order of ids: depth, then actor
shown : view_at all f ≡ Some (codes "ayx")
unfolding view_at winner_at tree_of ops_on depth_at less same
shown = refl

absent : view_at all (codes "g") ≡ None
unfolding view_at winner_at depth_at less same
absent = refl

deepest : depth_at all (name 4) ≡ 2
unfolding depth_at
deepest = refl

heads : heads_of all ≡ name 3 ∷ name 4 ∷ []
unfolding heads_of
heads = refl

-- the effect of the change of actor 2 where that of actor 1 is known
carried : effect_at two all f ≡ joined (keeping 1) (joined (inserts (codes "y") (keeping 1)) (deleting 1))
unfolding effect_at winner_at tree_of ops_on depth_at less same
carried = refl

-- a change that removes the file and knows of nothing else
gone : removed one (actor 2) f ≡ record { actor = actor 2; seq = 1; deps = name 5 ∷ []; ops = Remove (There (name 5) 0) ∷ [] }
unfolding removed heads_of depth_at less
gone = refl

without : view_at ((name 2, removed one (actor 2) f) ∷ all) f ≡ None
unfolding view_at winner_at removed heads_of depth_at less
without = refl

deleted : effect_at all ((name 2, removed one (actor 2) f) ∷ all) f ≡ deleting 3
unfolding effect_at winner_at removed heads_of tree_of ops_on depth_at less same
deleted = refl

-- two daemons make the file without knowing of each other: the greater object is read, and both are removed in rising order
abbrev apart : History
apart =
    (name 8, record { actor = actor 1; seq = 1; deps = []; ops = Make f ∷ Insert (Here 0) Root (codes "p") ∷ [] })
    ∷ (name 6, record { actor = actor 2; seq = 1; deps = []; ops = Make f ∷ Insert (Here 0) Root (codes "q") ∷ [] })
    ∷ []

greatest : view_at apart f ≡ Some (codes "q")
unfolding view_at winner_at tree_of ops_on depth_at less same
greatest = refl

both_gone : removed apart (actor 1) f
    ≡ record { actor = actor 1; seq = 2; deps = name 8 ∷ name 6 ∷ []; ops = Remove (There (name 8) 0) ∷ Remove (There (name 6) 0) ∷ [] }
unfolding removed heads_of depth_at less same
both_gone = refl
