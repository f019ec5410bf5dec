-- The laws, from what each list of moves keeps.
use Rattle.std.proofs.Common.{◌≡◌, ◌↔◌, ℕ, ◌+◌, ◌<◌, true, false, List, [], ◌∷◌, length, map, Option, Some, None, refl, sym, ap, ◌∙◌, subst, arith}
use Rattle.std.specs.Option.{option_map}
use Rattle.delta.specs.Cells.{Cells}
use Rattle.transform.specs.Carried.{IsChain, past_list, list_past}
use Rattle.editor_bridge.specs.Link.{editor_text, unshown}
use Rattle.std.specs.Prelude.{slice_get}
use Rattle.bridge_world.specs.Plain as P
use Rattle.bridge_world.specs.Plain.{Open, Kind, OpenDone, Done, Failed, New, Old}
use Rattle.bridge_world.specs.Counted.{Edits, Sent, Held, Frame, Editor, plain_of, plain_sent, base_of, down_of, carries_delta}
use Rattle.bridge_world.specs.Tie.{Stand, stand_of, client_of, NewFits, delta_if_new, new_deltas, Good}
use Rattle.bridge_world.specs.Room.{Room, plain_step, counted_step, run, empty_room, plain_room}
use Rattle.bridge_world.specs.Facts.{Facts}
use Rattle.bridge_world.specs.Laws.{Leads, TakesAlike, TakesAreAlike, IsNext, ShowsAreAlike, FactsHold, QuietShowsView}
use Rattle.bridge_world.proofs.ListLemmas.{at-map}
use Rattle.bridge_world.proofs.Moves.{refines, reached_good, no_fault}
use Rattle.bridge_world.proofs.MessageLemmas.{own_grows}
use Rattle.bridge_world.proofs.Delivery.{stands_there, leads_within, quiet_has_view}
use Rattle.bridge_world.proofs.KeptLemmas.{Kept, reached_kept}
use Rattle.bridge_world.proofs.FactLemmas.{facts}

-- what holds of each good editor without its numbers holds of each editor of the plain machine
from_good : (Q : List ℕ → P.Editor → Type 0) → ((view : List ℕ) (e : Editor) → Good view e → Kept (plain_of e) → Q view (plain_of e)) → (w : Room P.Editor) (n : ℕ) (x : P.Editor)
    → Leads plain_step w n x → Q w.view x
from_good Q given w n x led = by_room (run counted_step led.moves (empty_room led.start)) refl (sym (refines led.moves led.start) ∙ led.ran) where
  by_editor : (v : Room Editor) → run counted_step led.moves (empty_room led.start) ≡ Some v → (o : Option Editor) → slice_get v.editors n ≡ o → option_map plain_of o ≡ Some x
      → Q v.view x
  by_editor v ran None found is = cc
  by_editor v ran (Some e) found is =
      let same : plain_of e ≡ x = cc in
      subst (Q v.view) same (given v.view e (reached_good led.moves led.start v n e ran found) (subst Kept (sym same) (reached_kept led.moves led.start w n x led.ran led.found)))

  by_room : (o : Option (Room Editor)) → run counted_step led.moves (empty_room led.start) ≡ o → option_map plain_room o ≡ Some w → Q w.view x
  by_room None ran is = cc
  by_room (Some v) ran is =
      let same : plain_room v ≡ w = cc in
      let found : slice_get (map plain_of v.editors) n ≡ Some x = ap (λ (r : Room P.Editor). slice_get r.editors n) same ∙ led.found in
      subst (λ t. Q t x) (ap (λ (r : Room P.Editor). r.view) same)
      (by_editor v ran (slice_get v.editors n) refl (sym (at-map plain_of v.editors n) ∙ found))

pub facts_hold : FactsHold
facts_hold w n x led = from_good Facts facts w n x led

abbrev IsQuiet : List ℕ → P.Editor → Type 0
IsQuiet view x = x.state ≡ Open → x.sent ≡ [] → x.wire ≡ [] → x.text ≡ view

none_mapped : {A B : Type 0} (f : A → B) (xs : List A) → map f xs ≡ [] → xs ≡ []
none_mapped f [] is = refl
none_mapped f (x ∷ xs) is = cc

pub quiet_shows_view : QuietShowsView
quiet_shows_view w n x led =
    from_good IsQuiet (λ view e h kept open_now none_up none_down. quiet_has_view view e open_now (none_mapped plain_sent e.sent none_up)
    (none_mapped (λ (f : Frame). f.mark) e.wire none_down) h) w n x led

-- an edit at the front of what is under way

takes_alike : (view : List ℕ) (h : Held) (m : Sent) (seen : ℕ) (p : Cells) (sent : List Sent) (e : Editor)
    → Good view (record e { sent = record m { message = Edits seen p } ∷ sent; link = Some h }) → TakesAlike h seen p
takes_alike view h m seen p sent e good =
    let shown : seen ≡ h.seen = good.sent.0.1.0 in
    record {
      fits =
          no_fault seen p h.link (omega (arith, shown, good.link.confirmed)) (omega (arith, shown, good.link.seen))
          (good.sent.0.1.1 ∙ ap (λ n. length (editor_text n h.link)) (sym shown));
      carried = ap (λ n. past_list p (unshown n h.link)) shown;
      again = ap (λ n. list_past p (unshown n h.link)) shown;
    }

pub takes_are_alike : TakesAreAlike
takes_are_alike w n e h m seen p sent led linked first message =
    let good : Good w.view e = reached_good led.moves led.start w n e led.ran led.found in
    takes_alike w.view h m seen p sent e
    (subst (λ k. Good w.view (record e { sent = record m { message = k } ∷ sent; link = Some h })) message
    (subst (λ l. Good w.view (record e { sent = m ∷ sent; link = l })) linked (subst (λ q. Good w.view (record e { sent = q })) first good)))

-- a delta that comes to an open editor

next_frame : (view : List ℕ) (f : Frame) (wire : List Frame) (x : Held) (e : Editor) → f.mark.kind ≡ New
    → Good view (record e { state = Open; sent = []; wire = f ∷ wire; link = Some x }) → IsNext (record e { state = Open; sent = []; wire = f ∷ wire; link = Some x }) f
next_frame view f wire x e new h =
    let told : down_of x ≡ f.delta ∷ new_deltas wire = sym (h.tells refl x refl) ∙ ap (λ k. delta_if_new k f.delta (new_deltas wire)) new in
    let chain : IsChain (length (base_of x)) (f.delta ∷ new_deltas wire) = subst (IsChain (length (base_of x))) told h.link.chain in
    let there : stand_of x ≡ client_of e = stands_there view x (record e { wire = f ∷ wire }) h in
    record {
      new = new;
      nothing_up = refl;
      held = x;
      linked = refl;
      others = new_deltas wire;
      next = told;
      fits = chain.0 ∙ ap (λ (a : Stand). length a.text) there;
    }

own_number : (view : List ℕ) (f : Frame) (wire : List Frame) (sent : List Sent) (link : Option Held) (e : Editor) → f.mark.kind ≡ New
    → Good view (record e { state = Open; sent = sent; wire = f ∷ wire; link = link })
    → (f.revision ≡ e.own) ↔ IsNext (record e { state = Open; sent = sent; wire = f ∷ wire; link = link }) f
own_number view f wire sent None e new h = absurd (h.numbers.0.new new)
own_number view f wire [] (Some x) e new h =
    let there : stand_of x ≡ client_of e = stands_there view x (record e { wire = f ∷ wire }) h in
    let fits : NewFits (Some x) f = h.numbers.0.new new in
    (λ same. next_frame view f wire x e new h, λ next. fits.1 ∙ ap (λ (a : Stand). a.own) there)
own_number view f wire (m ∷ sent) (Some x) e new h =
    let fits : NewFits (Some x) f = h.numbers.0.new new in
    let more : e.own ≡ x.link.taken + length (m ∷ sent) =
    own_grows (m ∷ sent) h.low (stand_of x) (client_of e) (leads_within view m sent x (record e { wire = f ∷ wire }) h) in
    (λ same. absurd (omega (arith, fits.1, more, same)), λ next. let never : m ∷ sent ≡ [] = next.nothing_up in cc)

old_number : (view : List ℕ) (f : Frame) (wire : List Frame) (e : Editor) → f.mark.kind ≡ Old → Good view (record e { state = Open; wire = f ∷ wire })
    → (f.revision ≡ e.own) ↔ IsNext (record e { state = Open; wire = f ∷ wire }) f
old_number view f wire e old h =
    let less : f.revision < e.own = h.numbers.0.old old refl h.ordered.1.0 in
    (λ same. absurd (omega (arith, less, same)), λ next. let never : New ≡ Old = sym next.new ∙ old in cc)

pub shown_alike : (view : List ℕ) (f : Frame) (wire : List Frame) (e : Editor) (k : Kind) → f.mark.kind ≡ k → carries_delta k ≡ true
    → Good view (record e { state = Open; wire = f ∷ wire }) → (f.revision ≡ e.own) ↔ IsNext (record e { state = Open; wire = f ∷ wire }) f
shown_alike view f wire e New is delta h = own_number view f wire e.sent e.link e is h
shown_alike view f wire e Old is delta h = old_number view f wire e is h
shown_alike view f wire e OpenDone is delta h = let never : false ≡ true = delta in cc
shown_alike view f wire e Done is delta h = let never : false ≡ true = delta in cc
shown_alike view f wire e (Failed cause) is delta h = let never : false ≡ true = delta in cc

pub shows_are_alike : ShowsAreAlike
shows_are_alike w n e f wire led open_now first delta =
    let good : Good w.view e = reached_good led.moves led.start w n e led.ran led.found in
    subst (λ s. (f.revision ≡ e.own) ↔ IsNext (record e { state = s }) f) (sym open_now)
    (subst (λ v. (f.revision ≡ e.own) ↔ IsNext (record e { state = Open; wire = v }) f) (sym first)
    (shown_alike w.view f wire e f.mark.kind refl delta
    (subst (λ s. Good w.view (record e { state = s; wire = f ∷ wire })) open_now (subst (λ v. Good w.view (record e { wire = v })) first good))))
