-- How many of the held changes each daemon has made.
use Rattle.std.specs.Prelude.{◌≡◌, ℕ, List}
use Rattle.std.specs.BTreeMap.{is_at}
use Rattle.std.specs.List.{count_by}
use Rattle.std.specs.Map.{lookup}
use Rattle.std.specs.Option.{unwrap_or}
use Rattle.tt_base.specs.Ids.{actor_cmp}
use Rattle.tt_base.specs.declared.ids.Actor.{Actor}
use Rattle.change_graph.specs.History.{History}
use Rattle.replica_views.specs.Made.{is_made_by}

-- each daemon with a number, in the order of the daemons
abbrev pub CountsView : Type 0
CountsView = List (Actor × ℕ)

-- the number of the daemon, and 0 where it has none
abbrev pub count_at : CountsView → Actor → ℕ
count_at counts actor = unwrap_or (lookup (is_at (actor_cmp actor)) counts) 0

-- the numbers are those of the changes of a history
abbrev pub AreCounts : History → CountsView → Type 0
AreCounts history counts = (actor : Actor) → count_at counts actor ≡ count_by (is_made_by actor) history
