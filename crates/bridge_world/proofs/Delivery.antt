-- What comes to an editor, which judges it by its number, does what it does without numbers.
use Rattle.std.proofs.Common.{◌≡◌, ◌≢◌, ℕ, ◌+◌, ◌<◌, ◌==◌, Bool, true, false, List, [], ◌∷◌, map, Option, Some, None, inl, inr, refl, sym, ap, ◌∙◌, subst, arith}
use Rattle.std.specs.Option.{option_map}
use Rattle.std.proofs.lemmas.Bool.{eq-eqb, ne_eqb}
use Rattle.std.proofs.lemmas.Bool.Decides.{eqb_tells}
use Rattle.delta.specs.Cells.{Cells, applied}
use Rattle.transform.specs.Carried.{applied_all}
use Rattle.bridge_world.specs.Plain as P
use Rattle.bridge_world.specs.Plain.{State, Opening, Open, Closed, is_closed, Kind, OpenDone, Done, Failed, New, Old, Mark, mark}
use Rattle.bridge_world.specs.Counted as N
use Rattle.bridge_world.specs.Counted.{Held, Frame, Sent, Editor, plain_of, plain_link, plain_sent, marks, base_of, down_of, with_one_shown}
use Rattle.bridge_world.specs.Tie.{Stand, stand_of, client_of, place, reached, Aims, AnswersOpen, Ordered, NewFits, delta_if_new}
use Rattle.bridge_world.specs.Facts.{IsFailure, IsError, HasFailed, AllBefore}
use Rattle.bridge_world.specs.Tie.{new_deltas, Good}
use Rattle.bridge_world.proofs.HeldLemmas.{base_of-one_shown, down_of-one_shown, fits_shown}
use Rattle.bridge_world.proofs.MessageLemmas.{LeadsWithin, begins_with_edit, own_grows, edits_of-first}
use Rattle.bridge_world.proofs.MarkLemmas.{before_from_of, ordered-rest, ordered_answered}
use Rattle.bridge_world.proofs.FrameLemmas.{numbers_closed, numbers_same, delta_if_not_new}

-- one step of both machines: with counts it is the step without, and it keeps the tie
pub record Both (view : List ℕ) (x : P.Editor) (e : Editor) : Type 0 where
  pub plain : plain_of e ≡ x
  pub good : Good view e

-- the first frame is gone, and nothing else has changed

aims_rest : (b : Bool) (target : Option Stand) (l : Option Held) (low s : ℕ) (client : Stand) (m : Mark) (v : List Mark) → (IsFailure s m → HasFailed s v)
    → Aims b target l low s client (m ∷ v) → Aims b target l low s client v
aims_rest true target l low s client m v other aims = aims
aims_rest false target l low s client m v other aims = elim aims [
  | inl a ↦ inl (record { meets = a.meets; no_error = λ k. a.no_error (inr k) })
  | inr g ↦ inr (record {
    no_target = g.no_target;
    no_link = g.no_link;
    present = g.present;
    failed = elim g.failed [ inl f ↦ other f | inr rest ↦ rest ];
  })
]

good_rest : (view : List ℕ) (f : Frame) (wire : List Frame) (e : Editor) → Good view (record e { wire = f ∷ wire })
    → (AnswersOpen f.mark.kind → f.mark.session ≡ e.session → e.state ≢ Opening) → (IsFailure e.session f.mark → HasFailed e.session (marks wire))
    → (f.mark.kind ≡ New → e.sent ≡ [] → (x : Held) → e.link ≡ Some x → ⊥) → Good view (record e { wire = wire })
good_rest view f wire e h turn error new =
    record {
      low = h.low;
      link = h.link;
      sent = h.sent;
      session = h.session;
      aims = aims_rest (is_closed e.state) (reached e.sent (place h.low e.link)).stand e.link h.low e.session (client_of e) f.mark (marks wire) error h.aims;
      ordered = ordered-rest e.state h.low e.session f.mark (marks wire) turn h.ordered;
      numbers = h.numbers.1;
      tells = λ none x is. sym (delta_if_not_new f.mark.kind f.delta (new_deltas wire) (λ k. new k none x is)) ∙ h.tells none x is;
    }

-- a frame that both machines pass over
both_rest : (view : List ℕ) (f : Frame) (wire : List Frame) (e : Editor) → Good view (record e { wire = f ∷ wire })
    → (AnswersOpen f.mark.kind → f.mark.session ≡ e.session → e.state ≢ Opening) → (IsFailure e.session f.mark → HasFailed e.session (marks wire))
    → (f.mark.kind ≡ New → e.sent ≡ [] → (x : Held) → e.link ≡ Some x → ⊥) → Both view (plain_of (record e { wire = wire })) (record e { wire = wire })
both_rest view f wire e h turn error new = record { plain = refl; good = good_rest view f wire e h turn error new }

-- where nothing is under way to the daemon the link stands where its editor stands
pub stands_there : (view : List ℕ) (x : Held) (e : Editor) → Good view (record e { state = Open; sent = []; link = Some x }) → stand_of x ≡ client_of e
stands_there view x e h = elim h.aims [
  | inl a ↦ let met : Some (stand_of x) ≡ Some (client_of e) = a.meets in cc
  | inr g ↦ let never : Some x ≡ None = g.no_link in cc
]

-- the first delta that the editor has not shown is shown
shown_first : (view : List ℕ) (f : Frame) (wire : List Frame) (x : Held) (e : Editor) → f.mark.kind ≡ New
    → let c : Editor = record e { state = Open; sent = []; wire = wire; link = Some x } in Good view (record c { wire = f ∷ wire })
    → Both view (P.shown_first (down_of x) (plain_link x) (plain_of c)) (N.shown_if true f.delta c)
shown_first view f wire x e new h =
    let d : Cells = f.delta in
    let rest : List Cells = new_deltas wire in
    let y : Held = with_one_shown x in
    let c : Editor = record e { state = Open; sent = []; wire = wire; link = Some x } in
    let told : down_of x ≡ d ∷ rest = sym (h.tells refl x refl) ∙ ap (λ k. delta_if_new k d rest) new in
    let base : base_of y ≡ applied d (base_of x) = base_of-one_shown x d rest h.link.confirmed told in
    let down : down_of y ≡ rest = down_of-one_shown x d rest h.link.confirmed told in
    let there : stand_of x ≡ client_of e = stands_there view x (record e { wire = f ∷ wire }) h in
    let later : Stand = record { text = applied d e.text; seen = e.shown + 1; own = e.own } in
    let meets : stand_of y ≡ later =
    ap (λ b. record { text = b; seen = x.seen + 1; own = x.link.taken }) base
    ∙ ap (λ (a : Stand). record { text = applied d a.text; seen = a.seen + 1; own = a.own }) there in
    record {
      plain =
          ap (λ b. record {
            text = applied d e.text;
            state = Open;
            session = e.session;
            sent = [];
            wire = marks wire;
            link = Some
                (record { session = x.session; base = b; down = down_of y });
          }) base
          ∙ ap (λ q. record {
            text = applied d e.text;
            state = Open;
            session = e.session;
            sent = [];
            wire = marks wire;
            link = Some
                (record { session = x.session; base = applied d (base_of x); down = q });
          }) down
          ∙ ap (λ q. P.shown_first q (plain_link x) (plain_of c)) (sym told);
      good = record {
        low = h.low;
        link = fits_shown view h.low x d rest told h.link;
        sent = tt;
        session = h.session;
        aims = inl (record {
          meets = ap (λ a. Some a) meets;
          no_error = elim h.aims [
            | inl a ↦ λ k. a.no_error (inr k)
            | inr g ↦ let never : Some x ≡ None = g.no_link in cc
          ];
        });
        ordered = (h.ordered.0, h.ordered.1.1);
        numbers = numbers_same (Some x) (Some y) false e.session e.own wire (λ f g. g) h.numbers.1;
        tells = λ none z is. let same : y ≡ z = cc in sym down ∙ ap down_of same;
      };
    }

-- where something is under way to the daemon, it leads within the session
pub leads_within : (view : List ℕ) (m : Sent) (sent : List Sent) (x : Held) (e : Editor) → (h : Good view (record e { state = Open; sent = m ∷ sent; link = Some x }))
    → LeadsWithin (m ∷ sent) h.low (stand_of x) (client_of e)
leads_within view m sent x e h = elim h.aims [
  | inl a ↦ record { fits = h.sent; meets = a.meets; present = h.session ∙ sym h.ordered.0 }
  | inr g ↦ let never : Some x ≡ None = g.no_link in cc
]

-- a delta that is to be shown comes to an open editor
new_heard : (view : List ℕ) (f : Frame) (wire : List Frame) (sent : List Sent) (link : Option Held) (e : Editor) → f.mark.kind ≡ New
    → let c : Editor = record e { state = Open; sent = sent; wire = wire; link = link } in Good view (record c { wire = f ∷ wire })
    → Both view (P.shown_on (option_map plain_link link) (plain_of c)) (N.shown_if (f.revision == e.own) f.delta c)
new_heard view f wire sent None e new h = absurd (h.numbers.0.new new)
new_heard view f wire [] (Some x) e new h =
    let c : Editor = record e { state = Open; sent = []; wire = wire; link = Some x } in
    let there : stand_of x ≡ client_of e = stands_there view x (record e { wire = f ∷ wire }) h in
    let fits : NewFits (Some x) f = h.numbers.0.new new in
    let same : f.revision ≡ e.own = fits.1 ∙ ap (λ (a : Stand). a.own) there in
    subst (λ b. Both view (P.shown_first (down_of x) (plain_link x) (plain_of c)) (N.shown_if b f.delta c)) (sym (eq-eqb f.revision e.own same))
    (shown_first view f wire x e new h)
new_heard view f wire (m ∷ sent) (Some x) e new h =
    let c : Editor = record e { state = Open; sent = m ∷ sent; wire = wire; link = Some x } in
    let within : LeadsWithin (m ∷ sent) h.low (stand_of x) (client_of e) = leads_within view m sent x (record e { wire = f ∷ wire }) h in
    let first = begins_with_edit m sent h.low (stand_of x) (client_of e) within in
    let fits : NewFits (Some x) f = h.numbers.0.new new in
    let less : f.revision < e.own = omega (arith, fits.1, own_grows (m ∷ sent) h.low (stand_of x) (client_of e) within) in
    let listed : P.edits_of x.session (map plain_sent (m ∷ sent)) ≡ first.delta ∷ P.edits_of h.low (map plain_sent sent) =
    ap (λ s. P.edits_of s (map plain_sent (m ∷ sent))) h.link.session ∙ edits_of-first m sent h.low first.seen first.delta first.is in
    let passed : Both view (plain_of c) c =
    both_rest view f wire (record e { state = Open; sent = m ∷ sent; link = Some x }) h
    (λ turn. absurd (subst AnswersOpen new turn)) (λ error. absurd (subst IsError new error.0)) (λ k none. let never : m ∷ sent ≡ [] = none in cc) in
    subst (λ b. Both view (P.shown_where (P.edits_of x.session (map plain_sent (m ∷ sent))) (plain_link x) (plain_of c)) (N.shown_if b f.delta c))
    (sym (ne_eqb f.revision e.own (λ is. omega (arith, less, is))))
    (subst (λ edits. Both view (P.shown_where edits (plain_link x) (plain_of c)) c) (sym listed) passed)

-- where the editor is not open, and nothing is under way to the daemon, nothing is to be shown

no_new_opening : (view : List ℕ) (f : Frame) (wire : List Frame) (x : Held) (e : Editor) → f.mark.kind ≡ New
    → Good view (record e { state = Opening; sent = []; wire = f ∷ wire; link = Some x }) → ⊥
no_new_opening view f wire x e new h =
    let fits : NewFits (Some x) f = h.numbers.0.new new in
    elim h.ordered [
      | inl waits ↦ omega (arith, h.session, waits.0)
      | inr there ↦ elim there.1 [
        | inl old ↦ omega (arith, fits.0, h.link.session, h.session, old.0)
        | inr here ↦ subst AnswersOpen new here.answer
      ]
    ]

no_new_closed : (view : List ℕ) (x : Held) (e : Editor) → Good view (record e { state = Closed; sent = []; link = Some x }) → ⊥
no_new_closed view x e h = let never : Some (stand_of x) ≡ None = h.aims in cc

-- an error of the session closes the text

aims_closed : (b : Bool) (target : Option Stand) (l : Option Held) (low s : ℕ) (client : Stand) (m : Mark) (v : List Mark) → IsFailure s m → Aims b target l low s client (m ∷ v)
    → target ≡ None
aims_closed true target l low s client m v f aims = aims
aims_closed false target l low s client m v f aims = elim aims [
  | inl a ↦ absurd (a.no_error (inl f))
  | inr g ↦ g.no_target
]

good_failed : (view : List ℕ) (f : Frame) (wire : List Frame) (e : Editor) → IsFailure e.session f.mark → f.mark.kind ≢ New → AllBefore (e.session + 1) (marks wire)
    → Good view (record e { wire = f ∷ wire }) → Good view (record e { state = Closed; wire = wire })
good_failed view f wire e failed old before h =
    record {
      low = h.low;
      link = h.link;
      sent = h.sent;
      session = h.session;
      aims = aims_closed (is_closed e.state) (reached e.sent (place h.low e.link)).stand e.link h.low e.session (client_of e) f.mark (marks wire) failed h.aims;
      ordered = before;
      numbers = numbers_closed e.link (is_closed e.state) e.session e.own wire h.numbers.1;
      tells = λ none x is. sym (delta_if_not_new f.mark.kind f.delta (new_deltas wire) old) ∙ h.tells none x is;
    }

-- the plain machine passes over a mark whatever the test gives
both_by : (view : List ℕ) (k : Kind) (b : Bool) (e : Editor) → P.heard k e.state true (plain_of e) ≡ plain_of e → P.heard k e.state false (plain_of e) ≡ plain_of e
    → Both view (plain_of e) e → Both view (P.heard k e.state b (plain_of e)) e
both_by view k true e yes_is no_is both = subst (λ x. Both view x e) (sym yes_is) both
both_by view k false e yes_is no_is both = subst (λ x. Both view x e) (sym no_is) both

abbrev framed : Kind → ℕ → ℕ → Cells → Frame
framed k s r d = record { mark = mark s k; revision = r; delta = d }

-- a frame of each kind comes, in each state

heard_new : (st : State) (view : List ℕ) (s r : ℕ) (d : Cells) (wire : List Frame) (e : Editor)
    → let c : Editor = record e { state = st; wire = wire } in Good view (record c { wire = framed New s r d ∷ wire })
    → Both view (P.heard New st (s == e.session) (plain_of c)) (N.heard New st (s == e.session) (framed New s r d) c)
heard_new Open view s r d wire e h =
    let c : Editor = record e { state = Open; wire = wire } in
    subst (λ b. Both view (P.heard New Open b (plain_of c)) (N.shown_if (r == e.own) d c)) (sym (eq-eqb s e.session h.ordered.1.0))
    (new_heard view (framed New s r d) wire e.sent e.link e refl h)
heard_new Opening view s r d wire e h =
    both_rest view (framed New s r d) wire (record e { state = Opening }) h (λ turn. absurd turn) (λ error. absurd error.0)
    (λ k none x is. no_new_opening view (framed New s r d) wire x e refl
    (subst (λ l. Good view (record e { state = Opening; sent = []; wire = framed New s r d ∷ wire; link = l })) is
    (subst (λ q. Good view (record e { state = Opening; sent = q; wire = framed New s r d ∷ wire })) none h)))
heard_new Closed view s r d wire e h =
    both_rest view (framed New s r d) wire (record e { state = Closed }) h (λ turn. absurd turn) (λ error. absurd error.0)
    (λ k none x is. no_new_closed view x (record e { wire = framed New s r d ∷ wire })
    (subst (λ l. Good view (record e { state = Closed; sent = []; wire = framed New s r d ∷ wire; link = l })) is
    (subst (λ q. Good view (record e { state = Closed; sent = q; wire = framed New s r d ∷ wire })) none h)))

heard_old : (st : State) (view : List ℕ) (s r : ℕ) (d : Cells) (wire : List Frame) (e : Editor)
    → let c : Editor = record e { state = st; wire = wire } in Good view (record c { wire = framed Old s r d ∷ wire })
    → Both view (P.heard Old st (s == e.session) (plain_of c)) (N.heard Old st (s == e.session) (framed Old s r d) c)
heard_old Open view s r d wire e h =
    let c : Editor = record e { state = Open; wire = wire } in
    let less : r < e.own = h.numbers.0.old refl refl h.ordered.1.0 in
    subst (λ b. Both view (plain_of c) (N.shown_if b d c)) (sym (ne_eqb r e.own (λ is. omega (arith, less, is))))
    (both_rest view (framed Old s r d) wire (record e { state = Open }) h (λ turn. absurd turn) (λ error. absurd error.0) (λ k. cc))
heard_old Opening view s r d wire e h =
    both_rest view (framed Old s r d) wire (record e { state = Opening }) h (λ turn. absurd turn) (λ error. absurd error.0) (λ k. cc)
heard_old Closed view s r d wire e h =
    both_rest view (framed Old s r d) wire (record e { state = Closed }) h (λ turn. absurd turn) (λ error. absurd error.0) (λ k. cc)

heard_open_done : (st : State) (view : List ℕ) (s r : ℕ) (d : Cells) (wire : List Frame) (e : Editor)
    → let c : Editor = record e { state = st; wire = wire } in Good view (record c { wire = framed OpenDone s r d ∷ wire })
    → Both view (P.heard OpenDone st (s == e.session) (plain_of c)) (N.heard OpenDone st (s == e.session) (framed OpenDone s r d) c)
heard_open_done Open view s r d wire e h =
    both_rest view (framed OpenDone s r d) wire (record e { state = Open }) h (λ turn is opening. cc) (λ error. absurd error.0) (λ k. cc)
heard_open_done Closed view s r d wire e h =
    both_rest view (framed OpenDone s r d) wire (record e { state = Closed }) h (λ turn is opening. cc) (λ error. absurd error.0) (λ k. cc)
heard_open_done Opening view s r d wire e h =
    let f : Frame = framed OpenDone s r d in
    let c : Editor = record e { state = Opening; wire = wire } in
    elim (eqb_tells s e.session) [
      | inl mine ↦
          subst (λ b. Both view (P.heard OpenDone Opening b (plain_of c)) (N.heard OpenDone Opening b f c)) (sym mine.0)
          (record {
            plain = refl;
            good = record {
              low = h.low;
              link = h.link;
              sent = h.sent;
              session = h.session;
              aims = aims_rest false (reached e.sent (place h.low e.link)).stand e.link h.low e.session (client_of e) f.mark (marks wire) (λ error. absurd error.0) h.aims;
              ordered = ordered_answered h.low e.session f.mark (marks wire) mine.1 h.ordered;
              numbers = h.numbers.1;
              tells = h.tells;
            };
          })
      | inr other ↦
          subst (λ b. Both view (P.heard OpenDone Opening b (plain_of c)) (N.heard OpenDone Opening b f c)) (sym other.0)
          (both_rest view f wire (record e { state = Opening }) h (λ turn is. absurd (other.1 is)) (λ error. absurd error.0) (λ k. cc))
    ]

heard_done : (st : State) (view : List ℕ) (s r : ℕ) (d : Cells) (wire : List Frame) (e : Editor)
    → let c : Editor = record e { state = st; wire = wire } in Good view (record c { wire = framed Done s r d ∷ wire }) → Both view (plain_of c) c
heard_done st view s r d wire e h =
    both_rest view (framed Done s r d) wire (record e { state = st }) h (λ turn. absurd turn) (λ error. absurd error.0) (λ k. cc)

behind_failure : (st : State) (low s : ℕ) (m : Mark) (v : List Mark) → m.session ≡ s → Ordered st low s (m ∷ v) → AllBefore (s + 1) v
behind_failure Closed low s m v is h = h.1
behind_failure Open low s m v is h = before_from_of s (s + 1) v (omega arith) h.1.1
behind_failure Opening low s m v is h = before_from_of s (s + 1) v (omega arith) (ordered_answered low s m v is h).1

heard_failed : (cause : P.Cause) (view : List ℕ) (s r : ℕ) (d : Cells) (wire : List Frame) (e : Editor)
    → let c : Editor = record e { wire = wire } in Good view (record c { wire = framed (Failed cause) s r d ∷ wire })
    → Both view (P.heard (Failed cause) e.state (s == e.session) (plain_of c)) (N.heard (Failed cause) e.state (s == e.session) (framed (Failed cause) s r d) c)
heard_failed cause view s r d wire e h =
    let f : Frame = framed (Failed cause) s r d in
    let c : Editor = record e { wire = wire } in
    elim (eqb_tells s e.session) [
      | inl mine ↦
          subst (λ b. Both view (P.heard (Failed cause) e.state b (plain_of c)) (N.heard (Failed cause) e.state b f c)) (sym mine.0)
          (record {
            plain = refl;
            good = good_failed view f wire e (tt, mine.1) (λ k. cc) (behind_failure e.state h.low e.session f.mark (marks wire) mine.1 h.ordered) h;
          })
      | inr other ↦
          subst (λ b. Both view (P.heard (Failed cause) e.state b (plain_of c)) (N.heard (Failed cause) e.state b f c)) (sym other.0)
          (both_rest view f wire e h (λ turn is. absurd (other.1 is)) (λ error. absurd (other.1 error.1)) (λ k. cc))
    ]

heard_by : (k : Kind) (view : List ℕ) (s r : ℕ) (d : Cells) (wire : List Frame) (e : Editor)
    → let c : Editor = record e { wire = wire } in Good view (record c { wire = framed k s r d ∷ wire })
    → Both view (P.heard k e.state (s == e.session) (plain_of c)) (N.heard k e.state (s == e.session) (framed k s r d) c)
heard_by New view s r d wire e h = heard_new e.state view s r d wire e h
heard_by Old view s r d wire e h = heard_old e.state view s r d wire e h
heard_by OpenDone view s r d wire e h = heard_open_done e.state view s r d wire e h
heard_by Done view s r d wire e h = heard_done e.state view s r d wire e h
heard_by (Failed cause) view s r d wire e h = heard_failed cause view s r d wire e h

pub both_delivered : (view : List ℕ) (e : Editor) → Good view e → Both view (P.delivered (plain_of e)) (N.delivered e)
both_delivered view e h = by_wire e.wire h where
  by_wire : (wire : List Frame) → Good view (record e { wire = wire })
      → Both view (P.delivered_first (marks wire) (plain_of (record e { wire = wire }))) (N.delivered_first wire (record e { wire = wire }))
  by_wire [] h = record { plain = refl; good = h }
  by_wire (f ∷ wire) h = heard_by f.mark.kind view f.mark.session f.revision f.delta wire e h

-- an open editor with nothing under way has the daemon's text
pub quiet_has_view : (view : List ℕ) (e : Editor) → e.state ≡ Open → e.sent ≡ [] → e.wire ≡ [] → Good view e → e.text ≡ view
quiet_has_view view e open_now none_up none_down h =
    by_link e.link
    (subst (λ s. Good view (record e { state = s; sent = []; wire = [] })) open_now
    (subst (λ q. Good view (record e { sent = q; wire = [] })) none_up (subst (λ w. Good view (record e { wire = w })) none_down h))) where
      by_link : (l : Option Held) → Good view (record e { state = Open; sent = []; wire = []; link = l }) → e.text ≡ view
      by_link None g = elim g.aims [
        | inl a ↦ let never : None ≡ Some (client_of e) = a.meets in cc
        | inr up ↦ absurd up.failed
      ]
      by_link (Some x) g =
          let there : stand_of x ≡ client_of e = stands_there view x (record e { wire = [] }) g in
          ap (λ (a : Stand). a.text) (sym there) ∙ ap (λ q. applied_all q (base_of x)) (g.tells refl x refl) ∙ g.link.leads
