-- The handling of a message keeps the tie, whatever the daemon makes of it.
use Rattle.std.proofs.Common.{◌≡◌, ◌≢◌, ℕ, ◌+◌, ◌≤◌, ◌<◌, Bool, true, false, List, [], ◌∷◌, ◌++◌, length, map, Option, Some, None, inl, inr, refl, sym, ap, ◌∙◌, subst, arith}
use Rattle.std.specs.Str.{bytes_eq}
use Rattle.std.proofs.lemmas.Slice.Eq.{bytes_eq-Decides}
use Rattle.delta.specs.Cells.{Cells, applied, deleting, nothing}
use Rattle.delta.proofs.CellsLemmas.{base_length-inserts, base_length-covers}
use Rattle.delta.proofs.ApplyLemmas.{applied-replacing_all}
use Rattle.transform.specs.Carried.{IsChain, applied_all, past_list}
use Rattle.editor_bridge.specs.Link.{new_link, unshown, replacement_unless, first_deltas}
use Rattle.bridge_world.specs.Plain.{is_closed, Cause, NotOpen, OpenDone, Done, Failed, Mark, mark, news, aged_mark, Verdict, Accepts, Refuses}
use Rattle.bridge_world.specs.Counted.{Message, Opens, Edits, Closes, Sent, Frame, Held, Editor, marks, down_of, answer, new_frame, aged_frame, answered, ended, linked, took}
use Rattle.bridge_world.specs.Counted.{handled_by, effect_by}
use Rattle.bridge_world.specs.Tie.{Stand, stand_of, client_of, Place, place, edited, after_message, MessageFits, AllFit, reached, Aims, Ordered, Good}
use Rattle.bridge_world.specs.Facts.{IsFailure, HasFailed}
use Rattle.bridge_world.specs.Room.{changed}
use Rattle.bridge_world.proofs.ListLemmas.{has_one_behind}
use Rattle.bridge_world.proofs.HeldLemmas.{with_take, base_of-take, queue_of-take, down_of-take, fits_taken}
use Rattle.bridge_world.proofs.MessageLemmas.{session_rises, none_leads, own_grows, LeadsWithout, leads_without}
use Rattle.bridge_world.proofs.MarkLemmas.{ordered-append, ordered-answer, ordered-aged, of_same, of-news, failed-unaged, news_not_failed}
use Rattle.bridge_world.proofs.FrameLemmas.{marks-append, marks-aged, marks-answered, marks-resent, Numbers, numbers-append, fits_answer, numbers_same, numbers_aged, numbers_new}
use Rattle.bridge_world.proofs.FrameLemmas.{new_deltas-resent, new_deltas-opened}
use Rattle.bridge_world.proofs.GoodSteps.{low_within, not_failed-append}

-- what is under way was overtaken, and more is appended that is no error of the session
aims_aged : (b : Bool) (target : Option Stand) (l m : Option Held) (low s : ℕ) (client : Stand) (v w : List Mark) → (HasFailed s w → ⊥) → l ≢ None → Aims b target l low s client v
    → Aims b target m low s client (map aged_mark v ++ w)
aims_aged true target l m low s client v w f some aims = aims
aims_aged false target l m low s client v w f some aims = elim aims [
  | inl a ↦ inl (record { meets = a.meets; no_error = not_failed-append s (map aged_mark v) w (λ k. a.no_error (failed-unaged s v k)) f })
  | inr g ↦ absurd (some g.no_link)
]

one_error : (low s t : ℕ) (cause : Cause) → t ≡ low → low ≡ s → HasFailed s (mark t (Failed cause) ∷ [])
one_error low s t cause is same = inl (tt, is ∙ same)

-- an error of the session that is handled is appended. The editor's own session is a later one, or the
-- messages lead to no link anyhow
aims_failed : (b : Bool) (target : Option Stand) (l : Option Held) (low s : ℕ) (client : Stand) (v w : List Mark) (t : ℕ) (cause : Cause) → t ≡ low
    → (target ≡ Some client → low < s) → (HasFailed s w → HasFailed s v) → Aims b target l low s client v → Aims b target None low s client (w ++ mark t (Failed cause) ∷ [])
aims_failed true target l low s client v w t cause is later same aims = aims
aims_failed false target l low s client v w t cause is later same aims = elim aims [
  | inl a ↦ inl (record {
    meets = a.meets;
    no_error =
        not_failed-append s w (mark t (Failed cause) ∷ []) (λ k. a.no_error (same k))
        (λ k. elim k [ inl f ↦ omega (arith, f.1, is, later a.meets) | inr rest ↦ rest ]);
  })
  | inr g ↦ inr (record {
    no_target = g.no_target;
    no_link = refl;
    present = g.present;
    failed = has_one_behind (IsFailure s) w (mark t (Failed cause) ∷ []) (one_error low s t cause is g.present);
  })
]

-- the same where the messages led to the editor's link, and now lead to none
aims_given_up : (b : Bool) (low s : ℕ) (client : Stand) (w : List Mark) (t : ℕ) (cause : Cause) → t ≡ low → low ≡ s
    → Aims b None None low s client (w ++ mark t (Failed cause) ∷ [])
aims_given_up true low s client w t cause is same = refl
aims_given_up false low s client w t cause is same =
    inr (record {
      no_target = refl;
      no_link = refl;
      present = same;
      failed = has_one_behind (IsFailure s) w (mark t (Failed cause) ∷ []) (one_error low s t cause is same);
    })

-- an open of a later session is handled
aims_moved : (b : Bool) (target : Option Stand) (l m : Option Held) (low t s : ℕ) (client : Stand) (v w : List Mark) → low < t → t ≤ s → (HasFailed s w → ⊥)
    → Aims b target l low s client v → Aims b target m t s client (v ++ w)
aims_moved true target l m low t s client v w lt le f aims = aims
aims_moved false target l m low t s client v w lt le f aims = elim aims [
  | inl a ↦ inl (record { meets = a.meets; no_error = not_failed-append s v w a.no_error f })
  | inr g ↦ absurd (omega (arith, lt, le, g.present))
]

aims_at : (b : Bool) (target : Option Stand) (low t s : ℕ) (client : Stand) (v : List Mark) → low < t → t ≤ s → Aims b target None low s client v → Aims b target None t s client v
aims_at true target low t s client v lt le aims = aims
aims_at false target low t s client v lt le aims = elim aims [
  | inl a ↦ inl a
  | inr g ↦ absurd (omega (arith, lt, le, g.present))
]

-- where the link is there, its number is below the editor's own
below_own : (b : Bool) (target : Option Stand) (x : Held) (low s : ℕ) (client : Stand) (v : List Mark) → x.session ≡ low
    → (target ≡ Some client → low ≡ s → x.link.taken < client.own) → Aims b target (Some x) low s client v → b ≡ false → x.session ≡ s → x.link.taken < client.own
below_own true target x low s client v is f aims open_now same = let never : true ≡ false = open_now in cc
below_own false target x low s client v is f aims open_now same = elim aims [
  | inl a ↦ f a.meets (sym is ∙ same)
  | inr g ↦ let never : Some x ≡ None = g.no_link in cc
]

-- an edit is taken

good_took : (view : List ℕ) (s seen : ℕ) (p : Cells) (x : Held) (sent : List Sent) (e : Editor)
    → Good view (record e { sent = record { session = s; message = Edits seen p } ∷ sent; link = Some x })
    → Good (applied (past_list p (down_of x)) view) (took s seen p x (record e { sent = sent; link = Some x }))
good_took view s seen p x sent e h =
    let c : Editor = record e { sent = record { session = s; message = Edits seen p } ∷ sent; link = Some x } in
    let y : Held = with_take seen p x in
    let led : Place = record { session = h.low; stand = Some (edited p (stand_of x)) } in
    let shown : seen ≡ x.seen = h.sent.0.1.0 in
    let there : led ≡ place h.low (Some y) =
    ap (λ b. record { session = h.low; stand = Some (record { text = b; seen = x.seen; own = x.link.taken + 1 }) }) (sym (base_of-take seen p x shown)) in
    let queue : List Cells = y.link.unconfirmed in
    let next : List Frame = map aged_frame e.wire ++ answer s Done ∷ map (new_frame x.session (x.link.taken + 1)) queue in
    let all : marks next ≡ map aged_mark (marks e.wire) ++ mark s Done ∷ news x.session queue = marks-resent e.wire s Done x.session (x.link.taken + 1) queue in
    record {
      low = h.low;
      link = fits_taken view h.low seen p x shown h.sent.0.1.1 h.link;
      sent = subst (AllFit sent) there h.sent.1;
      session = ap (λ a. (reached sent a).session) (sym there) ∙ h.session;
      aims =
          subst (λ a. Aims (is_closed e.state) (reached sent a).stand (Some y) h.low e.session (client_of c) (marks next)) there
          (subst (Aims (is_closed e.state) (reached sent led).stand (Some y) h.low e.session (client_of c)) (sym all)
          (aims_aged (is_closed e.state) (reached sent led).stand (Some x) (Some y) h.low e.session (client_of c) (marks e.wire) (mark s Done ∷ news x.session queue)
          (λ k. elim k [ inl f ↦ f.0 | inr rest ↦ news_not_failed e.session x.session queue rest ]) (λ none. cc) h.aims));
      ordered =
          subst (Ordered e.state h.low e.session) (sym all)
          (ordered-append e.state h.low e.session (map aged_mark (marks e.wire)) (mark s Done ∷ news x.session queue) (low_within view c h)
          (ordered-aged e.state h.low e.session (marks e.wire) h.ordered)
          (h.sent.0.0, of_same x.session h.low (news x.session queue) h.link.session (of-news x.session queue)));
      numbers =
          numbers-append (Some y) (is_closed e.state) e.session e.own (map aged_frame e.wire) _
          (numbers_aged x (Some y) (is_closed e.state) e.session e.own e.wire
          (below_own (is_closed e.state) (reached sent led).stand x h.low e.session (client_of c) (marks e.wire) h.link.session
          (λ meets same. omega (
            arith,
            own_grows sent h.low (edited p (stand_of x)) (client_of c)
                (record { fits = h.sent.1; meets = meets; present = h.session ∙ sym same }),
          )) h.aims)
          h.numbers)
          (fits_answer (Some y) (is_closed e.state) e.session e.own s Done (λ k. cc) (λ k. cc), numbers_new y (is_closed e.state) e.session e.own queue);
      tells = λ none z is.
          let same : y ≡ z = cc in
          new_deltas-resent e.wire s x.session (x.link.taken + 1) queue ∙ queue_of-take seen p x shown ∙ sym (down_of-take seen p x shown) ∙ ap down_of same;
    }

-- there is no link, and a message other than an open is refused

good_unlinked : (view : List ℕ) (k : Message) (s : ℕ) (cause : Cause) (sent : List Sent) (e : Editor) → ((low : ℕ) → MessageFits k s (place low None) → s ≡ low)
    → ((low : ℕ) → after_message k s (place low None) ≡ place low None) → Good view (record e { sent = record { session = s; message = k } ∷ sent; link = None })
    → Good view (answered s (Failed cause) (record e { sent = sent; link = None }))
good_unlinked view k s cause sent e of_session stays h =
    let c : Editor = record e { sent = record { session = s; message = k } ∷ sent; link = None } in
    let is : s ≡ h.low = of_session h.low h.sent.0 in
    let there : after_message k s (place h.low None) ≡ place h.low None = stays h.low in
    let fits : AllFit sent (place h.low None) = subst (AllFit sent) there h.sent.1 in
    let ends : (reached sent (place h.low None)).session ≡ e.session = ap (λ a. (reached sent a).session) (sym there) ∙ h.session in
    let all : marks (e.wire ++ answer s (Failed cause) ∷ []) ≡ marks e.wire ++ mark s (Failed cause) ∷ [] = marks-append e.wire (answer s (Failed cause) ∷ []) in
    record {
      low = h.low;
      link = tt;
      sent = fits;
      session = ends;
      aims =
          subst (Aims (is_closed e.state) (reached sent (place h.low None)).stand None h.low e.session (client_of c)) (sym all)
          (aims_failed (is_closed e.state) (reached sent (place h.low None)).stand None h.low e.session (client_of c) (marks e.wire) (marks e.wire) s cause is
          (λ meets. omega (arith, ends, none_leads sent (place h.low None) (client_of c) refl fits meets)) (λ k. k)
          (subst (λ a. Aims (is_closed e.state) (reached sent a).stand None h.low e.session (client_of c) (marks e.wire)) there h.aims));
      ordered =
          subst (Ordered e.state h.low e.session) (sym all)
          (ordered-append e.state h.low e.session (marks e.wire) (mark s (Failed cause) ∷ []) (low_within view c h) h.ordered (is, tt));
      numbers =
          numbers-append None (is_closed e.state) e.session e.own e.wire _ h.numbers
          (fits_answer None (is_closed e.state) e.session e.own s (Failed cause) (λ k. cc) (λ k. cc), tt);
      tells = λ none z no. cc;
    }

-- a close is handled

good_close : (view : List ℕ) (s : ℕ) (x : Held) (sent : List Sent) (e : Editor) → Good view (record e { sent = record { session = s; message = Closes } ∷ sent; link = Some x })
    → Good view (ended s Done (record e { sent = sent; link = Some x }))
good_close view s x sent e h =
    let c : Editor = record e { sent = record { session = s; message = Closes } ∷ sent; link = Some x } in
    let led : Place = place h.low None in
    let all : marks (map aged_frame e.wire ++ answer s Done ∷ []) ≡ map aged_mark (marks e.wire) ++ mark s Done ∷ [] =
    marks-append (map aged_frame e.wire) (answer s Done ∷ []) ∙ ap (λ v. v ++ mark s Done ∷ []) (marks-aged e.wire) in
    record {
      low = h.low;
      link = tt;
      sent = h.sent.1;
      session = h.session;
      aims =
          subst (Aims (is_closed e.state) (reached sent led).stand None h.low e.session (client_of c)) (sym all)
          (aims_aged (is_closed e.state) (reached sent led).stand (Some x) None h.low e.session (client_of c) (marks e.wire) (mark s Done ∷ [])
          (λ k. elim k [ inl f ↦ f.0 | inr rest ↦ rest ]) (λ none. cc) h.aims);
      ordered =
          subst (Ordered e.state h.low e.session) (sym all)
          (ordered-append e.state h.low e.session (map aged_mark (marks e.wire)) (mark s Done ∷ []) (low_within view c h)
          (ordered-aged e.state h.low e.session (marks e.wire) h.ordered) (h.sent.0, tt));
      numbers =
          numbers-append None (is_closed e.state) e.session e.own (map aged_frame e.wire) _
          (numbers_aged x None (is_closed e.state) e.session e.own e.wire
          (below_own (is_closed e.state) (reached sent led).stand x h.low e.session (client_of c) (marks e.wire) h.link.session
          (λ meets same. absurd (omega (arith, same, h.session, none_leads sent led (client_of c) refl h.sent.1 meets))) h.aims)
          h.numbers)
          (fits_answer None (is_closed e.state) e.session e.own s Done (λ k. cc) (λ k. cc), tt);
      tells = λ none z no. cc;
    }

-- an edit is refused, and its link ends

good_edit_refused : (view : List ℕ) (s seen : ℕ) (p : Cells) (cause : Cause) (x : Held) (sent : List Sent) (e : Editor)
    → Good view (record e { sent = record { session = s; message = Edits seen p } ∷ sent; link = Some x })
    → Good view (ended s (Failed cause) (record e { sent = sent; link = Some x }))
good_edit_refused view s seen p cause x sent e h =
    let c : Editor = record e { sent = record { session = s; message = Edits seen p } ∷ sent; link = Some x } in
    let led : Place = record { session = h.low; stand = Some (edited p (stand_of x)) } in
    let without : LeadsWithout sent h.low (edited p (stand_of x)) = leads_without sent h.low (edited p (stand_of x)) h.sent.1 in
    let all : marks (map aged_frame e.wire ++ answer s (Failed cause) ∷ []) ≡ map aged_mark (marks e.wire) ++ mark s (Failed cause) ∷ [] =
    marks-append (map aged_frame e.wire) (answer s (Failed cause) ∷ []) ∙ ap (λ v. v ++ mark s (Failed cause) ∷ []) (marks-aged e.wire) in
    let order : Ordered e.state h.low e.session (marks (map aged_frame e.wire ++ answer s (Failed cause) ∷ [])) =
    subst (Ordered e.state h.low e.session) (sym all)
    (ordered-append e.state h.low e.session (map aged_mark (marks e.wire)) (mark s (Failed cause) ∷ []) (low_within view c h)
    (ordered-aged e.state h.low e.session (marks e.wire) h.ordered) (h.sent.0.0, tt)) in
    let fit : Numbers None (is_closed e.state) e.session e.own (map aged_frame e.wire ++ answer s (Failed cause) ∷ []) =
    numbers-append None (is_closed e.state) e.session e.own (map aged_frame e.wire) _
    (numbers_aged x None (is_closed e.state) e.session e.own e.wire
    (below_own (is_closed e.state) (reached sent led).stand x h.low e.session (client_of c) (marks e.wire) h.link.session
    (λ meets same. omega (arith, own_grows sent h.low (edited p (stand_of x)) (client_of c) (record { fits = h.sent.1; meets = meets; present = h.session ∙ sym same }))) h.aims)
    h.numbers)
    (fits_answer None (is_closed e.state) e.session e.own s (Failed cause) (λ k. cc) (λ k. cc), tt) in
    elim without.leads [
      | inl same ↦ record {
        low = h.low;
        link = tt;
        sent = without.fits;
        session = ap (λ (a : Place). a.session) same ∙ h.session;
        aims =
            subst (Aims (is_closed e.state) (reached sent (place h.low None)).stand None h.low e.session (client_of c)) (sym all)
            (subst (λ (a : Place). Aims (is_closed e.state) a.stand None h.low e.session (client_of c) (map aged_mark (marks e.wire) ++ mark s (Failed cause) ∷ [])) (sym same)
            (aims_failed (is_closed e.state) (reached sent led).stand (Some x) h.low e.session (client_of c) (marks e.wire) (map aged_mark (marks e.wire)) s cause h.sent.0.0
            (λ meets. omega (
              arith,
              ap (λ (a : Place). a.session) same,
              h.session,
              none_leads sent (place h.low None) (client_of c) refl without.fits
                  (ap (λ (a : Place). a.stand) same ∙ meets),
            ))
            (λ k. failed-unaged e.session (marks e.wire) k) h.aims));
        ordered = order;
        numbers = fit;
        tells = λ none z no. cc;
      }
      | inr up ↦
          let present : h.low ≡ e.session = sym up.present ∙ h.session in
          record {
            low = h.low;
            link = tt;
            sent = without.fits;
            session = ap (λ (a : Place). a.session) up.none ∙ present;
            aims =
                subst (λ (a : Place). Aims (is_closed e.state) a.stand None h.low e.session (client_of c) (marks (map aged_frame e.wire ++ answer s (Failed cause) ∷ [])))
                (sym up.none)
                (subst (Aims (is_closed e.state) None None h.low e.session (client_of c)) (sym all)
                (aims_given_up (is_closed e.state) h.low e.session (client_of c) (map aged_mark (marks e.wire)) s cause h.sent.0.0 present));
            ordered = order;
            numbers = fit;
            tells = λ none z no. cc;
          }
    ]

-- an open is taken

good_linked : (view : List ℕ) (s : ℕ) (content : List ℕ) (first : List Cells) (sent : List Sent) (e : Editor) → IsChain (length content) first
    → Good view (record e { sent = record { session = s; message = Opens content } ∷ sent; link = None })
    → Good (applied_all first content) (linked s content first (record e { sent = sent; link = None }))
good_linked view s content first sent e chain h =
    let c : Editor = record e { sent = record { session = s; message = Opens content } ∷ sent; link = None } in
    let start : Stand = record { text = content; seen = 0; own = 0 } in
    let led : Place = record { session = s; stand = Some start } in
    let y : Held = record { session = s; seen = 0; link = record (new_link content) { unconfirmed = first } } in
    let within : s ≤ e.session = omega (arith, session_rises sent led h.sent.1, h.session) in
    let all : marks (e.wire ++ answer s OpenDone ∷ map (new_frame s 0) first) ≡ marks e.wire ++ mark s OpenDone ∷ news s first = marks-answered e.wire s OpenDone s 0 first in
    record {
      low = s;
      link = record { session = refl; confirmed = omega arith; seen = omega arith; chain = chain; leads = refl };
      sent = h.sent.1;
      session = h.session;
      aims =
          subst (Aims (is_closed e.state) (reached sent led).stand (Some y) s e.session (client_of c)) (sym all)
          (aims_moved (is_closed e.state) (reached sent led).stand None (Some y) h.low s e.session (client_of c) (marks e.wire) (mark s OpenDone ∷ news s first) h.sent.0.1 within
          (λ k. elim k [ inl f ↦ f.0 | inr rest ↦ news_not_failed e.session s first rest ]) h.aims);
      ordered =
          subst (Ordered e.state s e.session) (sym all)
          (ordered-answer e.state h.low e.session s (marks e.wire) (mark s OpenDone) (news s first) h.sent.0.1 within h.ordered tt refl (of-news s first));
      numbers =
          numbers-append (Some y) (is_closed e.state) e.session e.own e.wire _
          (numbers_same None (Some y) (is_closed e.state) e.session e.own e.wire (λ f g. absurd g) h.numbers)
          (fits_answer (Some y) (is_closed e.state) e.session e.own s OpenDone (λ k. cc) (λ k. cc), numbers_new y (is_closed e.state) e.session e.own first);
      tells = λ none z is.
          let same : y ≡ z = cc in
          new_deltas-opened e.wire (is_closed e.state) e.session e.own s first h.numbers ∙ ap down_of same;
    }

-- an open is refused

good_open_refused : (view : List ℕ) (s : ℕ) (content : List ℕ) (cause : Cause) (sent : List Sent) (e : Editor)
    → Good view (record e { sent = record { session = s; message = Opens content } ∷ sent; link = None })
    → Good view (answered s (Failed cause) (record e { sent = sent; link = None }))
good_open_refused view s content cause sent e h =
    let c : Editor = record e { sent = record { session = s; message = Opens content } ∷ sent; link = None } in
    let start : Stand = record { text = content; seen = 0; own = 0 } in
    let led : Place = record { session = s; stand = Some start } in
    let within : s ≤ e.session = omega (arith, session_rises sent led h.sent.1, h.session) in
    let without : LeadsWithout sent s start = leads_without sent s start h.sent.1 in
    let all : marks (e.wire ++ answer s (Failed cause) ∷ []) ≡ marks e.wire ++ mark s (Failed cause) ∷ [] = marks-append e.wire (answer s (Failed cause) ∷ []) in
    let order : Ordered e.state s e.session (marks (e.wire ++ answer s (Failed cause) ∷ [])) =
    subst (Ordered e.state s e.session) (sym all)
    (ordered-answer e.state h.low e.session s (marks e.wire) (mark s (Failed cause)) [] h.sent.0.1 within h.ordered tt refl tt) in
    let fit : Numbers None (is_closed e.state) e.session e.own (e.wire ++ answer s (Failed cause) ∷ []) =
    numbers-append None (is_closed e.state) e.session e.own e.wire _ h.numbers
    (fits_answer None (is_closed e.state) e.session e.own s (Failed cause) (λ k. cc) (λ k. cc), tt) in
    elim without.leads [
      | inl same ↦ record {
        low = s;
        link = tt;
        sent = without.fits;
        session = ap (λ (a : Place). a.session) same ∙ h.session;
        aims =
            subst (Aims (is_closed e.state) (reached sent (place s None)).stand None s e.session (client_of c)) (sym all)
            (subst (λ (a : Place). Aims (is_closed e.state) a.stand None s e.session (client_of c) (marks e.wire ++ mark s (Failed cause) ∷ [])) (sym same)
            (aims_failed (is_closed e.state) (reached sent led).stand None s e.session (client_of c) (marks e.wire) (marks e.wire) s cause refl
            (λ meets. omega (
              arith,
              ap (λ (a : Place). a.session) same,
              h.session,
              none_leads sent (place s None) (client_of c) refl without.fits
                  (ap (λ (a : Place). a.stand) same ∙ meets),
            ))
            (λ k. k) (aims_at (is_closed e.state) (reached sent led).stand h.low s e.session (client_of c) (marks e.wire) h.sent.0.1 within h.aims)));
        ordered = order;
        numbers = fit;
        tells = λ none z no. cc;
      }
      | inr up ↦
          let present : s ≡ e.session = sym up.present ∙ h.session in
          record {
            low = s;
            link = tt;
            sent = without.fits;
            session = ap (λ (a : Place). a.session) up.none ∙ present;
            aims =
                subst (λ (a : Place). Aims (is_closed e.state) a.stand None s e.session (client_of c) (marks (e.wire ++ answer s (Failed cause) ∷ []))) (sym up.none)
                (subst (Aims (is_closed e.state) None None s e.session (client_of c)) (sym all)
                (aims_given_up (is_closed e.state) s e.session (client_of c) (marks e.wire) s cause refl present));
            ordered = order;
            numbers = fit;
            tells = λ none z no. cc;
          }
    ]

-- what follows an open at once leads from its content to the daemon's text

first_chain : (content view : List ℕ) → IsChain (length content) (first_deltas content view)
first_chain content view = by_test (bytes_eq content view) where
  by_test : (b : Bool) → IsChain (length content) (replacement_unless b content view)
  by_test true = tt
  by_test false =
      (omega (arith, base_length-inserts view (deleting (length content)), base_length-covers false (length content) nothing), tt)

first_leads : (content view : List ℕ) → applied_all (first_deltas content view) content ≡ view
first_leads content view = by_test (bytes_eq content view) refl where
  by_test : (b : Bool) → bytes_eq content view ≡ b → applied_all (replacement_unless b content view) content ≡ view
  by_test true is = (bytes_eq-Decides content view).0 is
  by_test false is = applied-replacing_all view (length content) content refl

-- all of these
pub good_handled : (k : Message) (link : Option Held) (verdict : Verdict) (view : List ℕ) (s : ℕ) (sent : List Sent) (e : Editor)
    → Good view (record e { sent = record { session = s; message = k } ∷ sent; link = link })
    → let view' : List ℕ = changed (effect_by k link verdict) view in Good view' (handled_by k link verdict view' s (record e { sent = sent; link = link }))
good_handled (Opens content) None Accepts view s sent e h =
    subst (λ v. Good v (linked s content (first_deltas content view) (record e { sent = sent; link = None }))) (first_leads content view)
    (good_linked view s content (first_deltas content view) sent e (first_chain content view) h)
good_handled (Opens content) None (Refuses cause) view s sent e h = good_open_refused view s content cause sent e h
good_handled (Opens content) (Some x) verdict view s sent e h = let never : Some (stand_of x) ≡ None = h.sent.0.0 in cc
good_handled (Edits seen p) None verdict view s sent e h =
    good_unlinked view (Edits seen p) s NotOpen sent e (λ low f. f.0) (λ low. refl) h
good_handled (Edits seen p) (Some x) Accepts view s sent e h =
    subst (λ n. Good (applied (past_list p (unshown n x.link)) view) (took s seen p x (record e { sent = sent; link = Some x }))) (sym h.sent.0.1.0)
    (good_took view s seen p x sent e h)
good_handled (Edits seen p) (Some x) (Refuses cause) view s sent e h = good_edit_refused view s seen p cause x sent e h
good_handled Closes None verdict view s sent e h = good_unlinked view Closes s NotOpen sent e (λ low f. f) (λ low. refl) h
good_handled Closes (Some x) verdict view s sent e h = good_close view s x sent e h
