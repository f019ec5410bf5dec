-- Each step of a connection keeps the tie.
use Rattle.std.proofs.Common.{◌≡◌, ℕ, ◌+◌, ◌≤◌, Bool, true, false, List, [], ◌∷◌, ◌++◌, length, Option, Some, None, inl, inr, refl, sym, ap, ◌∙◌, subst, arith}
use Rattle.std.specs.Option.{option_map}
use Rattle.delta.specs.Cells.{Cells, applied, base_length, changes_nothing}
use Rattle.delta.proofs.LawLemmas.{applied-nothing}
use Rattle.bridge_world.specs.Lists.{unless}
use Rattle.bridge_world.specs.Plain.{Closed, is_closed, New, Mark, mark}
use Rattle.bridge_world.specs.Counted.{Opens, Edits, Closes, Sent, Held, Editor, marks, base_of, down_of, new_frame, typed_where, opened, closed, lost, pushed_on, pushed, told}
use Rattle.bridge_world.specs.Tie.{Stand, client_of, Place, place, edited, after, MessageFits, EditFits, AllFit, reached, Aims, Ordered, Good}
use Rattle.bridge_world.specs.Facts.{HasFailed, AllBefore}
use Rattle.bridge_world.proofs.ListLemmas.{has_one-append, has_one_front, push_not_empty}
use Rattle.bridge_world.proofs.HeldLemmas.{with_push, base_of-push, down_of-push, fits_pushed}
use Rattle.bridge_world.proofs.MessageLemmas.{reached-push, all_fit-push, session_rises}
use Rattle.bridge_world.proofs.MarkLemmas.{ordered-append, ordered_closed, before_not_failed}
use Rattle.bridge_world.proofs.FrameLemmas.{marks-append, numbers-append, numbers_later, numbers_closed, numbers_reopened, numbers_same, numbers_new, new_deltas-append}
use Rattle.bridge_world.specs.Facts.{IsFailure}

-- where the messages of an editor lead
abbrev pub target_of : ℕ → Editor → Place
target_of low e = reached e.sent (place low e.link)

pub low_within : (view : List ℕ) (e : Editor) (h : Good view e) → h.low ≤ e.session
low_within view e h = omega (arith, session_rises e.sent (place h.low e.link) h.sent, h.session)

-- typing

good_typed_live : (view : List ℕ) (p : Cells) (e : Editor) → base_length p ≡ length e.text → is_closed e.state ≡ false → Good view e → Good view (typed_where false p e)
good_typed_live view p e fits live h =
    let t : Place = target_of h.low e in
    let m : Sent = record { session = e.session; message = Edits e.shown p } in
    let on : reached (e.sent ++ m ∷ []) (place h.low e.link) ≡ after m t = reached-push e.sent m (place h.low e.link) in
    let client : Stand = client_of e in
    let aims : Aims false t.stand e.link h.low e.session client (marks e.wire) =
    subst (λ b. Aims b t.stand e.link h.low e.session client (marks e.wire)) live h.aims in
    let edit_fits : MessageFits (Edits e.shown p) e.session t = elim aims [
      | inl a ↦ (sym h.session, fits_at t.stand a.meets)
      | inr g ↦ (sym h.session, fits_none t.stand g.no_target)
    ] in
    let later : Aims false (option_map (edited p) t.stand) e.link h.low e.session (edited p client) (marks e.wire) = elim aims [
      | inl a ↦ inl (record { meets = ap (option_map (edited p)) a.meets; no_error = a.no_error })
      | inr g ↦ inr (record { no_target = ap (option_map (edited p)) g.no_target; no_link = g.no_link; present = g.present; failed = g.failed })
    ] in
    record {
      low = h.low;
      link = h.link;
      sent = all_fit-push e.sent m (place h.low e.link) h.sent edit_fits;
      session = ap (λ (x : Place). x.session) on ∙ h.session;
      aims =
          subst (λ b. Aims b (reached (e.sent ++ m ∷ []) (place h.low e.link)).stand e.link h.low e.session (edited p client) (marks e.wire)) (sym live)
          (subst (λ (x : Place). Aims false x.stand e.link h.low e.session (edited p client) (marks e.wire)) (sym on) later);
      ordered = h.ordered;
      numbers = numbers_later e.link (is_closed e.state) e.session e.own e.wire h.numbers;
      tells = λ none. absurd (push_not_empty e.sent m none);
    } where
      fits_at : (a : Option Stand) → a ≡ Some (client_of e) → EditFits e.shown p a
      fits_at a is = subst (EditFits e.shown p) (sym is) (refl, fits)

      fits_none : (a : Option Stand) → a ≡ None → EditFits e.shown p a
      fits_none a is = subst (EditFits e.shown p) (sym is) tt

pub good_typed : (view : List ℕ) (closed : Bool) (p : Cells) (e : Editor) → base_length p ≡ length e.text → is_closed e.state ≡ closed → Good view e
    → Good view (typed_where closed p e)
good_typed view false p e fits is h = good_typed_live view p e fits is h
good_typed view true p e fits is h =
    let t : Place = target_of h.low e in
    record {
      low = h.low;
      link = h.link;
      sent = h.sent;
      session = h.session;
      aims =
          subst (λ b. Aims b t.stand e.link h.low e.session (record { text = applied p e.text; seen = e.shown; own = e.own }) (marks e.wire)) (sym is)
          (subst (λ b. Aims b t.stand e.link h.low e.session (client_of e) (marks e.wire)) is h.aims);
      ordered = h.ordered;
      numbers = h.numbers;
      tells = h.tells;
    }

-- open, close, and the end of the connection

pub good_opened : (view : List ℕ) (e : Editor) → e.state ≡ Closed → Good view e → Good view (opened e)
good_opened view e is h =
    let t : Place = target_of h.low e in
    let m : Sent = record { session = e.session + 1; message = Opens e.text } in
    let on : reached (e.sent ++ m ∷ []) (place h.low e.link) ≡ after m t = reached-push e.sent m (place h.low e.link) in
    let none : t.stand ≡ None = subst (λ s. Aims (is_closed s) t.stand e.link h.low e.session (client_of e) (marks e.wire)) is h.aims in
    let before : AllBefore (e.session + 1) (marks e.wire) = subst (λ s. Ordered s h.low e.session (marks e.wire)) is h.ordered in
    record {
      low = h.low;
      link = h.link;
      sent = all_fit-push e.sent m (place h.low e.link) h.sent (none, omega (arith, h.session));
      session = ap (λ (x : Place). x.session) on;
      aims = inl (record { meets = ap (λ (x : Place). x.stand) on; no_error = before_not_failed (e.session + 1) (marks e.wire) before });
      ordered = inl (omega (arith, low_within view e h), before);
      numbers = numbers_reopened e.link (is_closed e.state) e.session e.own (e.session + 1) e.wire before h.numbers;
      tells = λ none. absurd (push_not_empty e.sent m none);
    }

pub good_closed : (view : List ℕ) (e : Editor) → Good view e → Good view (closed e)
good_closed view e h =
    let t : Place = target_of h.low e in
    let m : Sent = record { session = e.session; message = Closes } in
    let on : reached (e.sent ++ m ∷ []) (place h.low e.link) ≡ after m t = reached-push e.sent m (place h.low e.link) in
    record {
      low = h.low;
      link = h.link;
      sent = all_fit-push e.sent m (place h.low e.link) h.sent (sym h.session);
      session = ap (λ (x : Place). x.session) on ∙ h.session;
      aims = ap (λ (x : Place). x.stand) on;
      ordered = ordered_closed e.state h.low e.session (marks e.wire) h.ordered;
      numbers = numbers_closed e.link (is_closed e.state) e.session e.own e.wire h.numbers;
      tells = λ none. absurd (push_not_empty e.sent m none);
    }

pub good_lost : (view : List ℕ) (e : Editor) → Good view (lost e)
good_lost view e =
    record { low = e.session; link = tt; sent = tt; session = refl; aims = refl; ordered = tt; numbers = tt; tells = λ none h is. cc }

-- what is appended is no error of the session

pub not_failed-append : (s : ℕ) (v w : List Mark) → (HasFailed s v → ⊥) → (HasFailed s w → ⊥) → HasFailed s (v ++ w) → ⊥
not_failed-append s v w f g k = elim (has_one-append (IsFailure s) v w k) [ inl x ↦ f x | inr x ↦ g x ]

aims_more : (b : Bool) (target : Option Stand) (l m : Option Held) (low s : ℕ) (client : Stand) (v w : List Mark) → (HasFailed s w → ⊥) → (l ≡ None → m ≡ None)
    → Aims b target l low s client v → Aims b target m low s client (v ++ w)
aims_more true target l m low s client v w f n aims = aims
aims_more false target l m low s client v w f n aims = elim aims [
  | inl a ↦ inl (record { meets = a.meets; no_error = not_failed-append s v w a.no_error f })
  | inr g ↦ inr (record { no_target = g.no_target; no_link = n g.no_link; present = g.present; failed = has_one_front (IsFailure s) v w g.failed })
]

-- a push

pub good_pushed : (view : List ℕ) (d : Cells) (link : Option Held) (e : Editor) → let c : Editor = record e { link = link } in base_length d ≡ length view → Good view c
    → Good (applied d view) (pushed_on link d c)
good_pushed view d None e fits h =
    record { low = h.low; link = tt; sent = h.sent; session = h.session; aims = h.aims; ordered = h.ordered; numbers = h.numbers; tells = h.tells }
good_pushed view d (Some x) e fits h =
    let y : Held = with_push d x in
    let c : Editor = record e { link = Some x } in
    let base : base_of y ≡ base_of x = base_of-push d x h.link.confirmed h.link.seen in
    let down : down_of y ≡ down_of x ++ d ∷ [] = down_of-push d x h.link.confirmed h.link.seen in
    let there : place h.low (Some x) ≡ place h.low (Some y) =
    ap (λ b. record { session = h.low; stand = Some (record { text = b; seen = x.seen; own = x.link.taken }) }) (sym base) in
    let all : marks (e.wire ++ new_frame x.session x.link.taken d ∷ []) ≡ marks e.wire ++ mark x.session New ∷ [] =
    marks-append e.wire (new_frame x.session x.link.taken d ∷ []) in
    record {
      low = h.low;
      link = fits_pushed view h.low d x fits h.link;
      sent = subst (AllFit e.sent) there h.sent;
      session = ap (λ a. (reached e.sent a).session) (sym there) ∙ h.session;
      aims =
          subst (λ a. Aims (is_closed e.state) (reached e.sent a).stand (Some y) h.low e.session (client_of c) (marks (e.wire ++ new_frame x.session x.link.taken d ∷ []))) there
          (subst (Aims (is_closed e.state) (reached e.sent (place h.low (Some x))).stand (Some y) h.low e.session (client_of c)) (sym all)
          (aims_more (is_closed e.state) _ (Some x) (Some y) h.low e.session (client_of c) (marks e.wire) (mark x.session New ∷ [])
          (λ k. elim k [ inl f ↦ f.0 | inr rest ↦ rest ]) (λ none. cc) h.aims));
      ordered =
          subst (Ordered e.state h.low e.session) (sym all)
          (ordered-append e.state h.low e.session (marks e.wire) (mark x.session New ∷ []) (low_within view c h) h.ordered (h.link.session, tt));
      numbers =
          numbers-append (Some y) (is_closed e.state) e.session e.own e.wire _
          (numbers_same (Some x) (Some y) (is_closed e.state) e.session e.own e.wire (λ f g. g) h.numbers)
          (numbers_new y (is_closed e.state) e.session e.own (d ∷ []));
      tells = λ none z is.
          let same : y ≡ z = cc in
          new_deltas-append e.wire (new_frame x.session x.link.taken d ∷ [])
          ∙ ap (λ l. l ++ d ∷ []) (h.tells none x refl)
          ∙ sym down
          ∙ ap down_of same;
    }

pub good_told : (view : List ℕ) (d : Cells) (e : Editor) → base_length d ≡ length view → Good view e → Good (applied d view) (told d e)
good_told view d e fits h = by_test (changes_nothing d) refl where
  by_test : (b : Bool) → changes_nothing d ≡ b → Good (applied d view) (unless b (pushed d) e)
  by_test true is = subst (λ v. Good v e) (sym (applied-nothing d view is fits)) h
  by_test false is = good_pushed view d e.link e fits h
