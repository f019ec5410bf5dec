-- Replaying the writes of a disk, one by one.
use Rattle.std.proofs.Common.{◌≡◌, ℕ, ◌+◌, ◌-◌, ◌<◌, ◌≤◌, Bool, true, false, List, [], ◌∷◌, ◌++◌, length, take, drop, map, fold, get_or, refl, sym, ap, ◌∙◌, subst, arith, length-take}
use Rattle.std.proofs.lemmas.List.{drop-append-le, drop-take, map-append, take_more, drop_all}
use Rattle.std.proofs.lemmas.List.Sums.{fold-append}
use Rattle.std.specs.Prelude.{if◌then◌else◌}
use Rattle.outside.specs.Images.{left_by}
use Rattle.outside.specs.declared.modes.Mode.{Mode}
use Rattle.outside.specs.declared.modes.Mode.TheVariants.{Lost, Kept, Torn}
use Rattle.outside_mem.specs.declared.histories.Entry.{Entry}
use Rattle.outside_mem.specs.DiskHistory.{Tried, DiskState, DiskHistory, begun, content_after, seen_of, writes_of, with_write, with_sync}
use Rattle.outside_mem.specs.Replayed.{tried_of, with_entry, history_of, HasReplayed}
use Rattle.outside_mem.proofs.DiskSteps.{present_synced}

-- the state after one entry more, with or without a sync before it
behind : (history : DiskHistory) (entry : Entry) → entry.behind_sync ≡ true → (with_entry history entry).present ≡ record { synced = seen_of history.present; tried = tried_of entry ∷ [] }
behind history entry is =
    ap (λ (synced : Bool). (with_write (if synced then with_sync history else history) (tried_of entry)).present) is
    ∙ ap (λ (state : DiskState). record { synced = state.synced; tried = state.tried ++ tried_of entry ∷ [] }) (present_synced history)

on_top : (history : DiskHistory) (entry : Entry) → entry.behind_sync ≡ false → (with_entry history entry).present ≡ record { synced = history.present.synced; tried = history.present.tried ++ tried_of entry ∷ [] }
on_top history entry is = ap (λ (synced : Bool). (with_write (if synced then with_sync history else history) (tried_of entry)).present) is

one_more : (began : List ℕ) (entries : List Entry) (i : ℕ) (d : Entry) → i < length entries → history_of began (take (i + 1) entries) ≡ with_entry (history_of began (take i entries)) (get_or entries i d)
one_more began entries i d inside = ap (history_of began) (take_more entries i d inside) ∙ fold-append with_entry (begun began) (take i entries) (get_or entries i d ∷ [])

-- a sync came: the writes so far are made, and those that are kept begin anew
pub replayed_behind : (began : List ℕ) (entries : List Entry) (i begin : ℕ) (content made : List ℕ) (d : Entry) → i < length entries → HasReplayed began (take i entries) content begin → (get_or entries i d).behind_sync ≡ true → made ≡ fold content_after content (map tried_of (take (i - begin) (drop begin entries))) → HasReplayed began (take (i + 1) entries) made i
replayed_behind began entries i begin content made d inside so_far is makes =
    let entry = get_or entries i d in
    let len : length (take i entries) ≡ i = omega (arith, length-take i entries) in
    let cut : take (i - begin) (drop begin entries) ≡ drop begin (take i entries) = sym (drop-take begin (i - begin) entries) ∙ ap (λ n. drop begin (take n entries)) (omega (arith, so_far.within)) in
    let content_is : seen_of (history_of began (take i entries)).present ≡ made = ap seen_of so_far.state ∙ sym (makes ∙ ap (λ es. fold content_after content (map tried_of es)) cut) in
    let rest : drop i (take (i + 1) entries) ≡ entry ∷ [] = ap (drop i) (take_more entries i d inside) ∙ drop-append-le i (take i entries) (entry ∷ []) (omega arith) ∙ ap (λ es. es ++ entry ∷ []) (drop_all i (take i entries) (omega arith)) in
    record {
      within = omega (arith, length-take (i + 1) entries);
      state = ap (λ (h : DiskHistory). h.present) (one_more began entries i d inside)
          ∙ behind (history_of began (take i entries)) entry is
          ∙ ap (λ synced. record { synced = synced; tried = tried_of entry ∷ [] }) content_is
          ∙ ap (λ es. record { synced = made; tried = map tried_of es }) (sym rest);
    }

-- no sync came: one write more is kept
pub replayed_on_top : (began : List ℕ) (entries : List Entry) (i begin : ℕ) (content : List ℕ) (d : Entry) → i < length entries → HasReplayed began (take i entries) content begin → (get_or entries i d).behind_sync ≡ false → HasReplayed began (take (i + 1) entries) content begin
replayed_on_top began entries i begin content d inside so_far is =
    let entry = get_or entries i d in
    let rest : drop begin (take (i + 1) entries) ≡ drop begin (take i entries) ++ entry ∷ [] = ap (drop begin) (take_more entries i d inside) ∙ drop-append-le begin (take i entries) (entry ∷ []) so_far.within in
    record {
      within = omega (arith, length-take (i + 1) entries, length-take i entries, so_far.within);
      state = ap (λ (h : DiskHistory). h.present) (one_more began entries i d inside)
          ∙ on_top (history_of began (take i entries)) entry is
          ∙ ap (λ (state : DiskState). record { synced = state.synced; tried = state.tried ++ tried_of entry ∷ [] }) so_far.state
          ∙ ap (λ tried. record { synced = content; tried = tried }) (sym (ap (map tried_of) rest ∙ map-append tried_of (drop begin (take i entries)) (entry ∷ [])));
    }

-- where nothing was written since the last sync, each mode leaves what a read gives
nothing_to_lose : (mode : Mode) (content : List ℕ) → left_by mode content [] ≡ content
nothing_to_lose Lost content = refl
nothing_to_lose Kept content = refl
nothing_to_lose Torn content = refl

pub left_synced : (mode : Mode) (history : DiskHistory) → left_by mode (with_sync history).present.synced (writes_of (with_sync history).present) ≡ seen_of (with_sync history).present
left_synced mode history =
    let of_state = λ (state : DiskState). left_by mode state.synced (writes_of state) in
    ap of_state (present_synced history) ∙ nothing_to_lose mode (seen_of history.present) ∙ sym (ap seen_of (present_synced history))
