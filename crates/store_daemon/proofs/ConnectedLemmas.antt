-- The connections of a daemon that serves.
use Rattle.std.proofs.Common.{◌≡◌, ℕ, ◌^◌, ◌-◌, ◌<◌, Bool, true, false, cond, not, List, [], ◌∷◌, filter, Option, Some, None, refl, sym, ap, ◌∙◌, subst}
use Rattle.std.specs.Cmp.{nat_cmp_total, eq_by_cmp_equiv}
use Rattle.std.specs.List.Sorted.{IsStrictlySortedBy}
use Rattle.std.specs.Map.{lookup, keys_of}
use Rattle.std.specs.Option.{unwrap_or}
use Rattle.std.specs.Ordering.{nat_cmp, is_eq}
use Rattle.std.proofs.lemmas.Cmp.{tied_itself}
use Rattle.std.proofs.lemmas.Map.{lookup-none}
use Rattle.std.proofs.lemmas.Map.Entries.{none_past_head}
use Rattle.std.proofs.lemmas.Map.Keys.{sorted_tail, IsDistinct-from_sorted}
use Rattle.editor_bridge.specs.Link.{Link}
use Rattle.file_uri.specs.Base.{BaseView}
use Rattle.daemon_core.specs.History.{History, text_at}
use Rattle.daemon_core.specs.Laws.{IsLinked, IsServing}
use Rattle.daemon_core.specs.State.{Links, is_number, link_at}
use Rattle.daemon_links.specs.Changing.{AllLinked, AllMayTell}
use Rattle.store_daemon.specs.Following.{texts_on}
use Rattle.store_daemon.specs.Serving.{AllConnected}

-- what is found leads to the daemon's texts
abbrev FoundLinked : History → Option Links → Type 0
FoundLinked history found = (path : List ℕ) (link : Link) → link_at (unwrap_or found []) path ≡ Some link → IsLinked history path link

-- what each look-up finds is as it should be, so each connection is, since each number stands once
pub each_connected : (history : History) (connections : List (ℕ × Links)) → IsStrictlySortedBy nat_cmp (keys_of connections)
    → ((n : ℕ) → FoundLinked history (lookup (is_number n) connections)) → AllConnected history connections
each_connected history [] sorted found = tt
each_connected history (c ∷ connections) sorted found = (
  record {
    linked = subst (FoundLinked history) (ap (λ b. cond (is_eq b) (Some c.1) (lookup (is_number c.0) connections)) (tied_itself nat_cmp_total c.0)) (found c.0);
  },
  each_connected history connections (sorted_tail nat_cmp c.0 (keys_of connections) sorted) (λ n. rest n (is_number n c.0) refl),
) where
  rest : (n : ℕ) (b : Bool) → is_number n c.0 ≡ b → FoundLinked history (lookup (is_number n) connections)
  rest n false apart = subst (FoundLinked history) (ap (λ b. cond b (Some c.1) (lookup (is_number n) connections)) apart) (found n)
  rest n true same =
      let none : lookup (is_number n) connections ≡ None =
      lookup-none (is_number n) connections (none_past_head (eq_by_cmp_equiv nat_cmp_total) n c connections (IsDistinct-from_sorted nat_cmp (keys_of (c ∷ connections)) sorted) same) in
      subst (FoundLinked history) (sym none) (λ path link there. cc)

pub some_connected : (history : History) (keeps : ℕ × Links → Bool) (connections : List (ℕ × Links)) → AllConnected history connections
    → AllConnected history (filter keeps connections)
some_connected history keeps [] all = tt
some_connected history keeps (c ∷ connections) all = by (keeps c) (some_connected history keeps connections all.1) where
  by : (b : Bool) → AllConnected history (filter keeps connections) → AllConnected history (cond b (c ∷ filter keeps connections) (filter keeps connections))
  by true later = (all.0, later)
  by false later = later

-- the other connections of a daemon that serves
pub others_connected : (base : BaseView) (history : History) (connections others : List (ℕ × Links)) (n : ℕ) → IsServing (texts_on base history connections)
    → IsStrictlySortedBy nat_cmp (keys_of connections) → others ≡ filter (λ c. not (is_number n c.0)) connections → AllConnected history others
others_connected base history connections others n serving sorted is =
    subst (AllConnected history) (sym is)
    (some_connected history (λ c. not (is_number n c.0)) connections (each_connected history connections sorted (λ k. serving.linked k)))

-- the links of one of them
pub own_connected : (base : BaseView) (history : History) (connections : List (ℕ × Links)) (n : ℕ) (links : Links) → IsServing (texts_on base history connections)
    → Some links ≡ lookup (is_number n) connections → AllLinked history links
own_connected base history connections n links serving found = record {
  linked = λ path link there. serving.linked n path link (ap (λ (ls : Option Links). link_at (unwrap_or ls []) path) (sym found) ∙ there);
}

-- they may all be told of a change of a text of the history
pub all_may_tell : (history : History) (path : List ℕ) (connections : List (ℕ × Links)) → history.held < 2 ^ 64 - 2 → AllConnected history connections
    → AllMayTell (text_at history path) path connections
all_may_tell history path [] room all = tt
all_may_tell history path (c ∷ connections) room all =
    (record { history = history; there = refl; linked = all.0; room = room }, all_may_tell history path connections room all.1)
