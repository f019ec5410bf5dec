-- What the plain machine keeps of the order of what is under way: nothing of a session is sent behind its
-- close, and no success of an open stands behind what is to be shown of its session.
use Rattle.std.proofs.Common.{◌≡◌, ◌≢◌, ℕ, zero, suc, ◌+◌, ◌≤◌, ◌<◌, ◌==◌, Bool, true, false, List, [], ◌∷◌, ◌++◌, length, map, Option, Some, None, option_and_then}
use Rattle.std.proofs.Common.{refl, ap, subst, arith}
use Rattle.std.specs.Prelude.{not}
use Rattle.delta.specs.Cells.{Cells, base_length, applied, changes_nothing}
use Rattle.bridge_world.specs.Lists.{Each, one_and_others, same, unless, only_if}
use Rattle.std.specs.Prelude.{slice_get}
use Rattle.bridge_world.specs.Plain.{State, Opening, Open, Closed, is_closed, Kind, OpenDone, Done, Failed, New, Old, Mark, Message, Opens, Edits, Closes, Sent, Link}
use Rattle.bridge_world.specs.Plain.{Editor}
use Rattle.bridge_world.specs.Plain.{typed_where, opened, closed, lost, aged, aged_mark, news, pushed_on, pushed, told, answered, ended, Verdict, Accepts, Refuses}
use Rattle.editor_bridge.specs.Link.{first_deltas}
use Rattle.bridge_world.specs.Plain.{handled_by, handled, effect, shown_first, shown_where, shown_on, edits_of, heard, delivered, delivered_first, mark, typed}
use Rattle.bridge_world.specs.Room as R
use Rattle.bridge_world.specs.Room.{Room, Move, at_editor, changed, told_of, new_plain, plain_step, run, empty_room}
use Rattle.bridge_world.proofs.ListLemmas.{each-append, each_at, each_image}

-- messages

abbrev pub IsClose : Message → Type 0
IsClose Closes = Unit {0}
IsClose m = ⊥

-- what is said of a close of session n, where the editor is in this session and has closed its text or not
pub record IsPast (closed : Bool) (session n : ℕ) : Type 0 where
  pub within : n ≤ session
  pub left : closed ≡ false → n < session

pub record ClosesThere (closed : Bool) (session : ℕ) (m : Sent) (sent : List Sent) : Type 0 where
  pub past : IsPast closed session m.session
  pub later : Each (λ (n : Sent). m.session < n.session) sent

abbrev pub ClosesLast : Bool → ℕ → List Sent → Type 0
ClosesLast closed session [] = Unit {0}
ClosesLast closed session (m ∷ sent) = (IsClose m.message → ClosesThere closed session m sent) × ClosesLast closed session sent

-- the editor goes on to another session or state
closes_weaker : (c c' : Bool) (s s' : ℕ) (sent : List Sent) → ((n : ℕ) → IsPast c s n → IsPast c' s' n) → ClosesLast c s sent → ClosesLast c' s' sent
closes_weaker c c' s s' [] f h = tt
closes_weaker c c' s s' (m ∷ sent) f h =
    (λ close. let there = h.0 close in record { past = f m.session there.past; later = there.later }, closes_weaker c c' s s' sent f h.1)

-- one more message is sent, of a session that is later than each that is past
closes_push : (c : Bool) (s : ℕ) (sent : List Sent) (m : Sent) → ((n : ℕ) → IsPast c s n → n < m.session) → (IsClose m.message → IsPast true s m.session)
    → ClosesLast c s sent → ((n : ℕ) → IsPast c s n → IsPast true s n) → ClosesLast true s (sent ++ m ∷ [])
closes_push c s [] m f g h w = (λ close. record { past = g close; later = tt }, tt)
closes_push c s (x ∷ sent) m f g h w = (
  λ close.
      let there = h.0 close in
      record { past = w x.session there.past; later = each-append (λ (n : Sent). x.session < n.session) sent (m ∷ []) there.later (f x.session there.past, tt) },
  closes_push c s sent m f g h.1 w,
)

-- the same where no close is sent, and nothing else changes
closes_push_other : (c : Bool) (s : ℕ) (sent : List Sent) (m : Sent) → ((n : ℕ) → IsPast c s n → n < m.session) → (IsClose m.message → ⊥) → ClosesLast c s sent
    → ClosesLast c s (sent ++ m ∷ [])
closes_push_other c s [] m f g h = (λ close. absurd (g close), tt)
closes_push_other c s (x ∷ sent) m f g h = (
  λ close.
      let there = h.0 close in
      record { past = there.past; later = each-append (λ (n : Sent). x.session < n.session) sent (m ∷ []) there.later (f x.session there.past, tt) },
  closes_push_other c s sent m f g h.1,
)

pub closes_behind : (c : Bool) (s : ℕ) (before sent : List Sent) → ClosesLast c s (before ++ sent) → ClosesLast c s sent
closes_behind c s [] sent h = h
closes_behind c s (m ∷ before) sent h = closes_behind c s before sent h.1

-- marks

abbrev IsNotNew : Mark → Type 0
IsNotNew m = m.kind ≡ New → ⊥

abbrev IsNotDone : Mark → Type 0
IsNotDone m = m.kind ≡ OpenDone → ⊥

abbrev pub DoneFirst : List Mark → Type 0
DoneFirst [] = Unit {0}
DoneFirst (m ∷ wire) = (m.kind ≡ New → Each (λ (n : Mark). n.kind ≡ OpenDone → n.session ≢ m.session) wire) × DoneFirst wire

not_done_differs : (s : ℕ) (w : List Mark) → Each IsNotDone w → Each (λ (n : Mark). n.kind ≡ OpenDone → n.session ≢ s) w
not_done_differs s [] h = tt
not_done_differs s (m ∷ w) h = (λ is. absurd (h.0 is), not_done_differs s w h.1)

done-append : (v w : List Mark) → Each IsNotDone w → DoneFirst v → DoneFirst w → DoneFirst (v ++ w)
done-append [] w n h k = k
done-append (m ∷ v) w n h k =
    (λ is. each-append (λ (n : Mark). n.kind ≡ OpenDone → n.session ≢ m.session) v w (h.0 is) (not_done_differs m.session w n), done-append v w n h.1 k)

done-append_none : (v w : List Mark) → Each IsNotNew v → DoneFirst w → DoneFirst (v ++ w)
done-append_none [] w n k = k
done-append_none (m ∷ v) w n k = (λ is. absurd (n.0 is), done-append_none v w n.1 k)

news_not_done : (s : ℕ) (down : List Cells) → Each IsNotDone (news s down)
news_not_done s down = each_image IsNotDone (λ d. mark s New) down (λ d is. cc)

news_done_first : (s : ℕ) (down : List Cells) → DoneFirst (news s down)
news_done_first s [] = tt
news_done_first s (d ∷ down) = (λ is. not_done_differs s (news s down) (news_not_done s down), news_done_first s down)

aged_not_new : (k : Kind) → aged k ≡ New → ⊥
aged_not_new OpenDone e = cc
aged_not_new Done e = cc
aged_not_new (Failed cause) e = cc
aged_not_new New e = cc
aged_not_new Old e = cc

none_new_aged : (v : List Mark) → Each IsNotNew (map aged_mark v)
none_new_aged v = each_image IsNotNew aged_mark v (λ m. aged_not_new m.kind)

-- what is kept

pub record Kept (e : Editor) : Type 0 where
  pub closes : ClosesLast (is_closed e.state) e.session e.sent
  pub done : DoneFirst e.wire
  pub new : e.link ≡ None → Each IsNotNew e.wire

kept_typed : (c : Bool) (p : Cells) (e : Editor) → is_closed e.state ≡ c → Kept e → Kept (typed_where c p e)
kept_typed true p e is h = record { closes = h.closes; done = h.done; new = h.new }
kept_typed false p e is h =
    record {
      closes = closes_push_other (is_closed e.state) e.session e.sent (record { session = e.session; message = Edits p }) (λ n past. past.left is) (λ close. close) h.closes;
      done = h.done;
      new = h.new;
    }

kept_opened : (e : Editor) → Kept e → Kept (opened e)
kept_opened e h =
    record {
      closes =
          closes_push_other false (e.session + 1) e.sent (record { session = e.session + 1; message = Opens e.text }) (λ n past. past.left refl) (λ close. close)
          (closes_weaker (is_closed e.state) false e.session (e.session + 1) e.sent
          (λ n past. record { within = omega (arith, past.within); left = λ open_now. omega (arith, past.within) }) h.closes);
      done = h.done;
      new = h.new;
    }

closed_only : true ≡ false → ⊥
closed_only e = cc

kept_closed : (e : Editor) → is_closed e.state ≡ false → Kept e → Kept (closed e)
kept_closed e is h =
    record {
      closes =
          closes_push (is_closed e.state) e.session e.sent (record { session = e.session; message = Closes }) (λ n past. past.left is)
          (λ close. record { within = omega arith; left = λ no. absurd (closed_only no) }) h.closes
          (λ n past. record { within = past.within; left = λ no. absurd (closed_only no) });
      done = h.done;
      new = h.new;
    }

kept_lost : (e : Editor) → Kept (lost e)
kept_lost e = record { closes = tt; done = tt; new = λ is. tt }

kept_pushed : (link : Option Link) (d : Cells) (e : Editor) → Kept (record e { link = link }) → Kept (pushed_on link d (record e { link = link }))
kept_pushed None d e h = h
kept_pushed (Some l) d e h =
    record {
      closes = h.closes;
      done = done-append e.wire (mark l.session New ∷ []) (λ is. cc, tt) h.done (λ is. tt, tt);
      new = λ is. cc;
    }

kept_told : (d : Cells) (e : Editor) → Kept e → Kept (told d e)
kept_told d e h = by_test (changes_nothing d) where
  by_test : (b : Bool) → Kept (unless b (pushed d) e)
  by_test true = h
  by_test false = kept_pushed e.link d e h

kept_told_of : (d : Option Cells) (e : Editor) → Kept e → Kept (told_of told d e)
kept_told_of None e h = h
kept_told_of (Some d) e h = kept_told d e h

kept_answered : (s : ℕ) (k : Kind) (m : Sent) (sent : List Sent) (e : Editor) → k ≢ New → k ≢ OpenDone → Kept (record e { sent = m ∷ sent })
    → Kept (answered s k (record e { sent = sent }))
kept_answered s k m sent e other done h =
    record {
      closes = h.closes.1;
      done = done-append e.wire (mark s k ∷ []) (λ is. done is, tt) h.done (λ is. absurd (other is), tt);
      new = λ is. each-append IsNotNew e.wire (mark s k ∷ []) (h.new is) (other, tt);
    }

kept_ended : (s : ℕ) (k : Kind) (m : Sent) (sent : List Sent) (e : Editor) → k ≢ New → Kept (record e { sent = m ∷ sent }) → Kept (ended s k (record e { sent = sent }))
kept_ended s k m sent e other h =
    record {
      closes = h.closes.1;
      done = done-append_none (map aged_mark e.wire) (mark s k ∷ []) (none_new_aged e.wire) (λ is. absurd (other is), tt);
      new = λ is. each-append IsNotNew (map aged_mark e.wire) (mark s k ∷ []) (none_new_aged e.wire) (other, tt);
    }

kept_handled_by : (k : Message) (link : Option Link) (verdict : Verdict) (view : List ℕ) (s : ℕ) (sent : List Sent) (e : Editor)
    → Kept (record e { sent = record { session = s; message = k } ∷ sent; link = link }) → Kept (handled_by k link verdict view s (record e { sent = sent; link = link }))
kept_handled_by (Opens content) None Accepts view s sent e h =
    record {
      closes = h.closes.1;
      done =
          done-append_none e.wire (mark s OpenDone ∷ news s (first_deltas content view)) (h.new refl)
          (λ is. cc, news_done_first s (first_deltas content view));
      new = λ is. cc;
    }
kept_handled_by (Opens content) None (Refuses cause) view s sent e h = kept_answered s _ _ sent (record e { link = None }) (λ is. cc) (λ is. cc) h
kept_handled_by (Opens content) (Some l) verdict view s sent e h = kept_answered s _ _ sent (record e { link = Some l }) (λ is. cc) (λ is. cc) h
kept_handled_by (Edits p) None verdict view s sent e h = kept_answered s _ _ sent (record e { link = None }) (λ is. cc) (λ is. cc) h
kept_handled_by (Edits p) (Some l) Accepts view s sent e h =
    record {
      closes = h.closes.1;
      done = done-append_none (map aged_mark e.wire) _ (none_new_aged e.wire) (λ is. cc, news_done_first l.session _);
      new = λ is. cc;
    }
kept_handled_by (Edits p) (Some l) (Refuses cause) view s sent e h = kept_ended s _ _ sent (record e { link = Some l }) (λ is. cc) h
kept_handled_by Closes None verdict view s sent e h = kept_answered s _ _ sent (record e { link = None }) (λ is. cc) (λ is. cc) h
kept_handled_by Closes (Some l) verdict view s sent e h = kept_ended s _ _ sent (record e { link = Some l }) (λ is. cc) h

kept_handled : (verdict : Verdict) (view : List ℕ) (e : Editor) → Kept e → Kept (handled verdict view e)
kept_handled verdict view e h = by_sent e.sent h where
  by_sent : (sent : List Sent) → Kept (record e { sent = sent }) → Kept (handled verdict view (record e { sent = sent }))
  by_sent [] g = g
  by_sent (m ∷ sent) g = kept_handled_by m.message e.link verdict view m.session sent e g

-- a mark comes

kept_rest : (m : Mark) (wire : List Mark) (e : Editor) → Kept (record e { wire = m ∷ wire }) → Kept (record e { wire = wire })
kept_rest m wire e h = record { closes = h.closes; done = h.done.1; new = λ is. (h.new is).1 }

kept_shown : (link : Option Link) (e : Editor) → Kept (record e { link = link }) → Kept (shown_on link (record e { link = link }))
kept_shown None e h = h
kept_shown (Some l) e h = by_edits (edits_of l.session e.sent) where
  by_down : (down : List Cells) → Kept (shown_first down l (record e { link = Some l }))
  by_down [] = h
  by_down (d ∷ down) = record { closes = h.closes; done = h.done; new = λ is. cc }

  by_edits : (up : List Cells) → Kept (shown_where up l (record e { link = Some l }))
  by_edits [] = by_down l.down
  by_edits (p ∷ up) = h

kept_state : (st : State) (e : Editor) → (is_closed st ≡ false → is_closed e.state ≡ false) → Kept e → Kept (record e { state = st })
kept_state st e f h =
    record {
      closes =
          closes_weaker (is_closed e.state) (is_closed st) e.session e.session e.sent
          (λ n past. record { within = past.within; left = λ open_now. past.left (f open_now) }) h.closes;
      done = h.done;
      new = h.new;
    }

kept_heard : (k : Kind) (st : State) (present : Bool) (e : Editor) → e.state ≡ st → Kept e → Kept (heard k st present e)
kept_heard New Open true e is h = kept_shown e.link e h
kept_heard New Open false e is h = h
kept_heard New Opening present e is h = h
kept_heard New Closed present e is h = h
kept_heard OpenDone Opening true e is h = kept_state Open e (λ open_now. ap is_closed is) h
kept_heard OpenDone Opening false e is h = h
kept_heard OpenDone Open present e is h = h
kept_heard OpenDone Closed present e is h = h
kept_heard (Failed cause) st true e is h = kept_state Closed e (λ no. let never : true ≡ false = no in cc) h
kept_heard (Failed cause) st false e is h = h
kept_heard Done st present e is h = h
kept_heard Old st present e is h = h

kept_delivered : (e : Editor) → Kept e → Kept (delivered e)
kept_delivered e h = by_wire e.wire h where
  by_wire : (wire : List Mark) → Kept (record e { wire = wire }) → Kept (delivered_first wire (record e { wire = wire }))
  by_wire [] g = g
  by_wire (m ∷ wire) g = kept_heard m.kind e.state (m.session == e.session) (record e { wire = wire }) refl (kept_rest m wire e g)

-- the editors of a room

each_all : {A : Type 0} (P : A → Type 0) (g : A → A) (xs : List A) → ((x : A) → P x → P (g x)) → Each P xs → Each P (map g xs)
each_all P g [] others h = tt
each_all P g (x ∷ xs) others h = (others x h.0, each_all P g xs others h.1)

each_one : {A : Type 0} (P : A → Type 0) (f g : A → A) (n : ℕ) (xs : List A) → ((x : A) → slice_get xs n ≡ Some x → P x → P (f x)) → ((x : A) → P x → P (g x)) → Each P xs
    → Each P (one_and_others f g n xs)
each_one P f g n [] one others h = tt
each_one P f g zero (x ∷ xs) one others h = (one x refl h.0, each_all P g xs others h.1)
each_one P f g (suc n) (x ∷ xs) one others h = (others x h.0, each_one P f g n xs one others h.1)

abbrev pub IfKept : Option (Room Editor) → Type 0
IfKept None = Unit {0}
IfKept (Some w) = Each Kept w.editors

kept_found : (w : Room Editor) (n : ℕ) (G : Editor → Option (Room Editor)) → ((e : Editor) → slice_get w.editors n ≡ Some e → IfKept (G e))
    → IfKept (option_and_then G (slice_get w.editors n))
kept_found w n G f = by_found (slice_get w.editors n) refl where
  by_found : (o : Option Editor) → slice_get w.editors n ≡ o → IfKept (option_and_then G o)
  by_found None is = tt
  by_found (Some e) is = f e is

kept_own : (w : Room Editor) (n : ℕ) (may : Editor → Bool) (f : Editor → Editor) → ((e : Editor) → may e ≡ true → Kept e → Kept (f e)) → Each Kept w.editors
    → IfKept (at_editor may f n w)
kept_own w n may f steps h = kept_found w n _ (λ e found. by_test e found (may e) refl) where
  by_test : (e : Editor) → slice_get w.editors n ≡ Some e → (b : Bool) → may e ≡ b → IfKept (only_if b (record w { editors = one_and_others f same n w.editors }))
  by_test e found false is = tt
  by_test e found true is =
      each_one Kept f same n w.editors (λ x there k. steps x (let here : e ≡ x = cc in subst (λ y. may y ≡ true) here is) k) (λ x k. k) h

not_true : (b : Bool) → not b ≡ true → b ≡ false
not_true false is = refl
not_true true is = cc

kept_step : (m : Move) (w : Room Editor) → Each Kept w.editors → IfKept (plain_step m w)
kept_step (R.Joins text) w h =
    each-append Kept w.editors (opened (new_plain text) ∷ []) h (kept_opened (new_plain text) (kept_lost (new_plain text)), tt)
kept_step (R.Types n p) w h = kept_own w n (λ (e : Editor). base_length p == length e.text) (typed p) (λ e may k. kept_typed (is_closed e.state) p e refl k) h
kept_step (R.Opens n) w h = kept_own w n (λ (e : Editor). is_closed e.state) opened (λ e may k. kept_opened e k) h
kept_step (R.Closes n) w h = kept_own w n (λ (e : Editor). not (is_closed e.state)) closed (λ e may k. kept_closed e (not_true (is_closed e.state) may) k) h
kept_step (R.Loses n) w h = kept_own w n (λ (e : Editor). true) lost (λ e may k. kept_lost e) h
kept_step (R.Handles n verdict) w h = kept_found w n _ (λ e found.
    each_one Kept (handled verdict (changed (effect verdict e) w.view)) (told_of told (effect verdict e)) n w.editors
    (λ x there k. kept_handled verdict (changed (effect verdict e) w.view) x k) (λ x k. kept_told_of (effect verdict e) x k) h)
kept_step (R.Delivers n) w h = kept_own w n (λ (e : Editor). true) delivered (λ e may k. kept_delivered e k) h
kept_step (R.Pushes d) w h = by_test (base_length d == length w.view) where
  by_test : (b : Bool) → IfKept (only_if b (record { view = applied d w.view; editors = map (told d) w.editors }))
  by_test false = tt
  by_test true = each_all Kept (told d) w.editors (λ x k. kept_told d x k) h

kept_run : (moves : List Move) (w : Room Editor) → Each Kept w.editors → IfKept (run plain_step moves w)
kept_run [] w h = h
kept_run (m ∷ moves) w h = went_on (λ v k. kept_run moves v k) (plain_step m w) (kept_step m w h) where
  went_on : ((v : Room Editor) → Each Kept v.editors → IfKept (run plain_step moves v)) → (o : Option (Room Editor)) → IfKept o
      → IfKept (option_and_then (λ v. run plain_step moves v) o)
  went_on rest None k = tt
  went_on rest (Some v) k = rest v k

pub reached_kept : (moves : List Move) (view : List ℕ) (w : Room Editor) (n : ℕ) (e : Editor) → run plain_step moves (empty_room view) ≡ Some w → slice_get w.editors n ≡ Some e
    → Kept e
reached_kept moves view w n e ran found = each_at Kept w.editors n e found (subst IfKept ran (kept_run moves (empty_room view) tt))
