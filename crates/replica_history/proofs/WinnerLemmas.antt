-- The winner of a path is the greatest of its live objects.
use Rattle.std.proofs.Common.{◌≡◌, ℕ, Bool, true, false, cond, not, refl, sym, ◌∙◌, List, [], ◌∷◌, Option, Some, None}
use Rattle.std.specs.List.{filter}
use Rattle.tt_base.specs.declared.ids.ElemId.{ElemId}
use Rattle.change_graph.specs.History.{History}
use Rattle.replica_dir.specs.Ids.{has_id}
use Rattle.replica_dir.specs.DirectoryView.{DirectoryView, made_at, is_removed, is_live, IsWinner}
use Rattle.replica_dir.proofs.WinnerLemmas.{same_winner}
use Rattle.replica_text.specs.Ids.{less}
use Rattle.replica_text.proofs.OrderLemmas.{less_is}
use Rattle.replica_views.specs.Objects.{IsDirectoryOf, greater_of, greatest_id, winner_at}
use Rattle.replica_views.proofs.DirectoryLemmas.{has_filter, IsGreatestOf, greatest_is, winner_is}
use Rattle.replica_history.specs.Standings.{winner_in}

none_among : (ids : List ElemId) → greatest_id ids ≡ None → (q : ElemId) → has_id ids q ≡ false
none_among [] is q = refl
none_among (id ∷ ids) is q = by (greatest_id ids) is where
  by : (o : Option ElemId) → greater_of id o ≡ None → has_id (id ∷ ids) q ≡ false
  by None is = cc
  by (Some other) is = pick (less id other) is where
    pick : (b : Bool) → cond b (Some other) (Some id) ≡ None → has_id (id ∷ ids) q ≡ false
    pick true is = cc
    pick false is = cc

module _ (directory : DirectoryView) (path : List ℕ) where
  abbrev live : List ElemId
  live = filter (λ id. not (is_removed directory id)) (made_at directory path)

  live_is : (id : ElemId) → is_live directory path id ≡ has_id live id
  live_is id = sym (has_filter (λ x. not (is_removed directory x)) (made_at directory path) id)

  pub greatest_wins : IsWinner directory path (winner_in directory path)
  unfolding winner_in
  greatest_wins = by (greatest_id live) refl where
    by : (o : Option ElemId) → greatest_id live ≡ o → IsWinner directory path o
    by None none = λ id. live_is id ∙ none_among live none id
    by (Some id) found =
        let g : IsGreatestOf live id = greatest_is live id found in
        record {
          live = live_is id ∙ g.has;
          none_above = λ other is. sym (less_is id other) ∙ g.none_above other (sym (live_is other) ∙ is);
        }

  pub winner_found : (winner : Option ElemId) → IsWinner directory path winner → winner ≡ winner_in directory path
  winner_found winner is =
      same_winner directory directory (record { makes = λ p id. refl; removes = λ id. refl }) path winner (winner_in directory path) is greatest_wins

-- the winner in a directory is that of the history whose it is
pub winner_of_history : (history : History) (directory : DirectoryView) → IsDirectoryOf history directory → (path : List ℕ)
    → winner_in directory path ≡ winner_at history path
winner_of_history history directory is path = sym (winner_found directory path (winner_at history path) (winner_is history directory is path))
