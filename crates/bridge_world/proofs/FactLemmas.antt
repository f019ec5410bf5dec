-- The facts of the plain machine, from the tie.
use Rattle.std.proofs.Common.{◌≡◌, ◌≢◌, ◌⊎◌, ℕ, ◌+◌, ◌≤◌, ◌<◌, ◌==◌, Bool, false, List, [], ◌∷◌, ◌++◌, length, map, Option, Some, None, inl, inr, refl, sym, ap, ◌∙◌, subst}
use Rattle.std.proofs.Common.{arith}
use Rattle.std.specs.Option.{option_map}
use Rattle.std.proofs.lemmas.Bool.{eq-eqb, ne_eqb, cases_lt}
use Rattle.delta.specs.Cells.{Cells, applied, base_length}
use Rattle.delta.proofs.LawLemmas.{length-applied}
use Rattle.transform.specs.Carried.{IsChain}
use Rattle.bridge_world.specs.Lists.{Each}
use Rattle.bridge_world.specs.Plain as P
use Rattle.bridge_world.specs.Plain.{State, Opening, Open, Closed, is_closed, Kind, OpenDone, Done, Failed, New, Old, Mark}
use Rattle.bridge_world.specs.Counted.{Message, Opens, Edits, Closes, Sent, Frame, Held, Editor, plain_message, plain_sent, plain_link, plain_of, marks, base_of, down_of}
use Rattle.bridge_world.specs.Tie.{Stand, stand_of, client_of, Place, place, edited, after_message, after, MessageFits, AllFit, reached, Aims, AnswersOpen}
use Rattle.bridge_world.specs.Facts.{IsError, HasFailed}
use Rattle.bridge_world.specs.Tie.{IsAnswered, Ordered, FrameFits, NewFits, delta_if_new, new_deltas, Good}
use Rattle.bridge_world.specs.Facts.{AllOf}
use Rattle.bridge_world.specs.Facts.{HasLink, IsLinked, IsOpening, IsAccepted, one_if_new, count_new, Give, Facts}
use Rattle.bridge_world.proofs.ListLemmas.{each-map}
use Rattle.bridge_world.proofs.MessageLemmas.{one_rises, session_rises, none_leads, LeadsWithin, begins_with_edit, edits_of-first}
use Rattle.bridge_world.proofs.KeptLemmas.{IsClose, ClosesThere, ClosesLast, closes_behind, DoneFirst, Kept}
use Rattle.bridge_world.proofs.GoodSteps.{low_within}

-- the edits of a session lead from one stand to another

Give-more : (p : Cells) (base text : List ℕ) (edits : List Cells) → base_length p ≡ length base → Give (applied p base) edits text → Give base (p ∷ edits) text
Give-more p base text edits fits give =
    record {
      chain = (fits, subst (λ n. IsChain n edits) (length-applied p base fits) give.chain);
      gives = give.gives;
    }

edits_give : (sent : List Sent) (low : ℕ) (x b : Stand) → LeadsWithin sent low x b → Give x.text (P.edits_of low (map plain_sent sent)) b.text
edits_give [] low x b h =
    let met : Some x ≡ Some b = h.meets in
    let same : x ≡ b = cc in
    record { chain = tt; gives = ap (λ (y : Stand). y.text) same }
edits_give (m ∷ sent) low x b h =
    let first = begins_with_edit m sent low x b h in
    subst (λ edits. Give x.text edits b.text) (sym (edits_of-first m sent low first.seen first.delta first.is))
    (Give-more first.delta x.text b.text (P.edits_of low (map plain_sent sent)) first.fits (edits_give sent low (edited first.delta x) b first.rest))

-- the edits of a session apply one after the other, also where its close is sent behind them

not_an_edit : (k : P.Message) (edits : List Cells) → P.edit_of k false edits ≡ edits
not_an_edit (P.Opens content) edits = refl
not_an_edit (P.Edits p) edits = refl
not_an_edit P.Closes edits = refl

none_of_session : (s : ℕ) (sent : List P.Sent) → Each (λ (n : P.Sent). s < n.session) sent → P.edits_of s sent ≡ []
none_of_session s [] h = refl
none_of_session s (m ∷ sent) h =
    ap (λ b. P.edit_of m.message b (P.edits_of s sent)) (ne_eqb m.session s (λ e. omega (arith, h.0, e)))
    ∙ not_an_edit m.message (P.edits_of s sent)
    ∙ none_of_session s sent h.1

edits_apply : (sent : List Sent) (low : ℕ) (x : Stand) (c : Bool) (s : ℕ) → AllFit sent (record { session = low; stand = Some x }) → ClosesLast c s (map plain_sent sent)
    → IsChain (length x.text) (P.edits_of low (map plain_sent sent))
edits_apply [] low x c s h k = tt
edits_apply (m ∷ sent) low x c s h k =
    by_message m.message m.session (λ y g. edits_apply sent low y c s g k.1) h.0 h.1 k.0 where
      by_message : (n : Message) (t : ℕ) → ((y : Stand) → AllFit sent (record { session = low; stand = Some y }) → IsChain (length y.text) (P.edits_of low (map plain_sent sent)))
          → MessageFits n t (record { session = low; stand = Some x }) → AllFit sent (after_message n t (record { session = low; stand = Some x }))
          → (IsClose (plain_message n) → ClosesThere c s (record { session = t; message = plain_message n }) (map plain_sent sent))
          → IsChain (length x.text) (P.edit_of (plain_message n) (t == low) (P.edits_of low (map plain_sent sent)))
      by_message (Opens content) t rest f h k = let never : Some x ≡ None = f.0 in cc
      by_message (Edits seen p) t rest f h k =
          subst (λ b. IsChain (length x.text) (P.edit_of (P.Edits p) b (P.edits_of low (map plain_sent sent)))) (sym (eq-eqb t low f.0))
          (f.1.1, subst (λ n. IsChain n (P.edits_of low (map plain_sent sent))) (length-applied p x.text f.1.1) (rest (edited p x) h))
      by_message Closes t rest f h k =
          subst (IsChain (length x.text)) (sym (ap (λ n. P.edits_of n (map plain_sent sent)) (sym f) ∙ none_of_session t (map plain_sent sent) (k tt).later)) tt

-- where a session is reached that was not there, its open is under way

open_behind : (s : ℕ) (m : P.Sent) (sent : List P.Sent) → IsOpening s sent → IsOpening s (m ∷ sent)
open_behind s m sent o =
    record { content = o.content; before = m ∷ o.before; behind = o.behind; there = ap (λ q. m ∷ q) o.there }

open_under_way : (sent : List Sent) (a : Place) → AllFit sent a → a.session < (reached sent a).session → IsOpening (reached sent a).session (map plain_sent sent)
open_under_way [] a h lt = absurd (omega (arith, lt))
open_under_way (m ∷ sent) a h lt =
    by_message m.message m.session (λ c g less. open_under_way sent c g less) h.0 h.1 lt where
      by_message : (k : Message) (s : ℕ) → ((c : Place) → AllFit sent c → c.session < (reached sent c).session → IsOpening (reached sent c).session (map plain_sent sent))
          → MessageFits k s a → AllFit sent (after_message k s a) → a.session < (reached sent (after_message k s a)).session
          → IsOpening (reached sent (after_message k s a)).session (record { session = s; message = plain_message k } ∷ map plain_sent sent)
      by_message (Opens content) s rest f h lt =
          let led : Place = after_message (Opens content) s a in
          let up : s ≤ (reached sent led).session = session_rises sent led h in
          elim (cases_lt s (reached sent led).session) [
            | inl less ↦ open_behind (reached sent led).session (record { session = s; message = P.Opens content }) (map plain_sent sent) (rest led h less)
            | inr more ↦
                let same : s ≡ (reached sent led).session = omega (arith, up, more) in
                record {
                  content = content;
                  before = [];
                  behind = map plain_sent sent;
                  there = ap (λ n. record { session = n; message = P.Opens content } ∷ map plain_sent sent) same;
                }
          ]
      by_message (Edits seen p) s rest f h lt = open_behind _ _ (map plain_sent sent) (rest (after_message (Edits seen p) s a) h lt)
      by_message Closes s rest f h lt = open_behind _ _ (map plain_sent sent) (rest (after_message Closes s a) h lt)

-- the messages behind an open of a session lead from its content

pub record LedBehind (a : Place) (sent : List Sent) (s : ℕ) (content : List ℕ) (behind : List P.Sent) : Type 0 where
  pub rest : List Sent
  pub is : map plain_sent rest ≡ behind
  pub fits : AllFit rest (record { session = s; stand = Some (record { text = content; seen = 0; own = 0 }) })
  pub later : a.session < s
  pub ends : reached sent a ≡ reached rest (record { session = s; stand = Some (record { text = content; seen = 0; own = 0 }) })

head_is : (x y : P.Sent) (xs ys : List P.Sent) → x ∷ xs ≡ y ∷ ys → x ≡ y
head_is x y xs ys e = cc

led_behind : (before : List P.Sent) (sent : List Sent) (a : Place) (s : ℕ) (content : List ℕ) (behind : List P.Sent)
    → map plain_sent sent ≡ before ++ record { session = s; message = P.Opens content } ∷ behind → AllFit sent a → LedBehind a sent s content behind
led_behind [] [] a s content behind is h = cc
led_behind (x ∷ before) [] a s content behind is h = cc
led_behind [] (m ∷ sent) a s content behind is h = by_message m.message m.session h.0 h.1 is where
  by_message : (k : Message) (t : ℕ) → MessageFits k t a → AllFit sent (after_message k t a)
      → record { session = t; message = plain_message k } ∷ map plain_sent sent ≡ record { session = s; message = P.Opens content } ∷ behind
      → LedBehind a (record { session = t; message = k } ∷ sent) s content behind
  by_message (Opens given) t f h is =
      let session : t ≡ s = ap (λ (m : P.Sent). m.session) (head_is _ _ _ _ is) in
      let text : given ≡ content = let e = ap (λ (m : P.Sent). m.message) (head_is _ _ _ _ is) in cc in
      let rest : map plain_sent sent ≡ behind = cc in
      let there : after_message (Opens given) t a ≡ record { session = s; stand = Some (record { text = content; seen = 0; own = 0 }) } =
      ap (λ n. record { session = n; stand = Some (record { text = given; seen = 0; own = 0 }) }) session
      ∙ ap (λ q. record { session = s; stand = Some (record { text = q; seen = 0; own = 0 }) }) text in
      record { rest = sent; is = rest; fits = subst (AllFit sent) there h; later = omega (arith, f.1, session); ends = ap (reached sent) there }
  by_message (Edits seen p) t f h is = let never : P.Edits p ≡ P.Opens content = ap (λ (m : P.Sent). m.message) (head_is _ _ _ _ is) in cc
  by_message Closes t f h is = let never : P.Closes ≡ P.Opens content = ap (λ (m : P.Sent). m.message) (head_is _ _ _ _ is) in cc
led_behind (x ∷ before) (m ∷ sent) a s content behind is h =
    let tail : map plain_sent sent ≡ before ++ record { session = s; message = P.Opens content } ∷ behind = cc in
    let rest = led_behind before sent (after m a) s content behind tail h.1 in
    record { rest = rest.rest; is = rest.is; fits = rest.fits; later = omega (arith, one_rises m.message m.session a h.0, rest.later); ends = rest.ends }

-- what is to be shown

count_new-deltas : (wire : List Frame) → count_new (marks wire) ≡ length (new_deltas wire)
count_new-deltas [] = refl
count_new-deltas (f ∷ wire) = by_kind f.mark.kind (count_new (marks wire)) (new_deltas wire) (count_new-deltas wire) where
  by_kind : (k : Kind) (n : ℕ) (ds : List Cells) → n ≡ length ds → one_if_new k + n ≡ length (delta_if_new k f.delta ds)
  by_kind New n ds is = omega (arith, is)
  by_kind Old n ds is = omega (arith, is)
  by_kind OpenDone n ds is = omega (arith, is)
  by_kind Done n ds is = omega (arith, is)
  by_kind (Failed cause) n ds is = omega (arith, is)

new_is_linked : (link : Option Held) (f : Frame) → NewFits link f → HasLink (option_map plain_link link) f.mark
new_is_linked None f fits = absurd fits
new_is_linked (Some h) f fits = record { link = plain_link h; there = refl; same = fits.0 }

-- nothing that is to be shown comes before the success of its open

not_before_done : (before behind : List Mark) (s : ℕ) → DoneFirst (before ++ record { session = s; kind = OpenDone } ∷ behind)
    → Each (λ (m : Mark). m.kind ≡ New → m.session ≢ s) before
not_before_done [] behind s h = tt
not_before_done (m ∷ before) behind s h = (λ is same. done_there m before (h.0 is) (sym same), not_before_done before behind s h.1) where
  done_there : (m : Mark) (v : List Mark) → Each (λ (n : Mark). n.kind ≡ OpenDone → n.session ≢ m.session) (v ++ record { session = s; kind = OpenDone } ∷ behind) → s ≡ m.session
      → ⊥
  done_there m [] each same = each.0 refl same
  done_there m (x ∷ v) each same = done_there m v each.1 same

-- the answer to an open, which is no error

accepted_by : (s : ℕ) (m : Mark) (wire : List Mark) (k : Kind) → m.kind ≡ k → AnswersOpen k → m.session ≡ s → AllOf s wire → (HasFailed s (m ∷ wire) → ⊥) → IsAccepted s (m ∷ wire)
accepted_by s m wire OpenDone is turn mine own no_error =
    record {
      before = [];
      behind = wire;
      there = ap (λ n. record { session = n; kind = m.kind } ∷ wire) mine ∙ ap (λ k. record { session = s; kind = k } ∷ wire) is;
      older = tt;
      own = own;
    }
accepted_by s m wire (Failed cause) is turn mine own no_error = absurd (no_error (inl (subst IsError (sym is) tt, mine)))
accepted_by s m wire Done is turn mine own no_error = absurd turn
accepted_by s m wire New is turn mine own no_error = absurd turn
accepted_by s m wire Old is turn mine own no_error = absurd turn

accepted : (s : ℕ) (wire : List Mark) → IsAnswered s wire → (HasFailed s wire → ⊥) → IsAccepted s wire
accepted s [] answered no_error = absurd answered
accepted s (m ∷ wire) answered no_error = elim answered [
  | inl old ↦
      let rest = accepted s wire old.1 (λ k. no_error (inr k)) in
      record { before = m ∷ rest.before; behind = rest.behind; there = ap (λ w. m ∷ w) rest.there; older = (old.0, rest.older); own = rest.own }
  | inr here ↦ accepted_by s m wire m.kind refl here.answer here.present here.own no_error
]

-- an editor that has not closed its text, whose link of the session is there

pub record IsLive (e : Editor) (low : ℕ) (x : Held) : Type 0 where
  pub leads : LeadsWithin e.sent low (stand_of x) (client_of e)
  pub no_error : HasFailed e.session (marks e.wire) → ⊥

live : (view : List ℕ) (x : Held) (e : Editor) → is_closed e.state ≡ false → (h : Good view (record e { link = Some x })) → h.low ≡ e.session → IsLive e h.low x
live view x e open_now h present =
    let t : Place = reached e.sent (place h.low (Some x)) in
    let aims : Aims false t.stand (Some x) h.low e.session (client_of e) (marks e.wire) =
    subst (λ b. Aims b t.stand (Some x) h.low e.session (client_of e) (marks e.wire)) open_now h.aims in
    elim aims [
      | inl a ↦ record { leads = record { fits = h.sent; meets = a.meets; present = h.session ∙ sym present }; no_error = a.no_error }
      | inr g ↦ let never : Some x ≡ None = g.no_link in cc
    ]

-- the facts of an editor whose link is there

text_given : (view : List ℕ) (x : Held) (e : Editor) → Good view (record e { link = Some x }) → x.session ≡ e.session → is_closed e.state ≡ false
    → Give (base_of x) (P.edits_of e.session (map plain_sent e.sent)) e.text
text_given view x e h present open_now =
    let low : h.low ≡ e.session = sym h.link.session ∙ present in
    subst (λ s. Give (base_of x) (P.edits_of s (map plain_sent e.sent)) e.text) low
    (edits_give e.sent h.low (stand_of x) (client_of e) (live view x e open_now h low).leads)

nothing_up : (low : ℕ) (x b : Stand) (sent : List Sent) → LeadsWithin sent low x b → P.edits_of low (map plain_sent sent) ≡ [] → sent ≡ []
nothing_up low x b [] h none = refl
nothing_up low x b (m ∷ sent) h none =
    let first = begins_with_edit m sent low x b h in
    let never : first.delta ∷ P.edits_of low (map plain_sent sent) ≡ [] = sym (edits_of-first m sent low first.seen first.delta first.is) ∙ none in
    cc

shown_next : (view : List ℕ) (x : Held) (e : Editor) → Good view (record e { link = Some x }) → x.session ≡ e.session → is_closed e.state ≡ false
    → P.edits_of e.session (map plain_sent e.sent) ≡ [] → count_new (marks e.wire) ≡ length (down_of x)
shown_next view x e h present open_now none_up =
    let low : h.low ≡ e.session = sym h.link.session ∙ present in
    let none : e.sent ≡ [] =
    nothing_up h.low (stand_of x) (client_of e) e.sent (live view x e open_now h low).leads (ap (λ s. P.edits_of s (map plain_sent e.sent)) low ∙ none_up) in
    count_new-deltas e.wire ∙ ap length (h.tells none x refl)

answered : (st : State) (low s : ℕ) (wire : List Mark) → st ≡ Opening → low ≡ s → Ordered st low s wire → IsAnswered s wire
answered Opening low s wire is same h = elim h [
  | inl waits ↦ absurd (omega (arith, same, waits.0))
  | inr there ↦ there.1
]
answered Open low s wire is same h = cc
answered Closed low s wire is same h = cc

opening_text : (view : List ℕ) (e : Editor) → Good view e → (o : IsOpening e.session (map plain_sent e.sent)) → is_closed e.state ≡ false
    → Give o.content (P.edits_of e.session o.behind) e.text
opening_text view e h o open_now =
    let start : Stand = record { text = o.content; seen = 0; own = 0 } in
    let a : Place = place h.low e.link in
    let led = led_behind o.before e.sent a e.session o.content o.behind o.there h.sent in
    let aims : Aims false (reached e.sent a).stand e.link h.low e.session (client_of e) (marks e.wire) =
    subst (λ b. Aims b (reached e.sent a).stand e.link h.low e.session (client_of e) (marks e.wire)) open_now h.aims in
    elim aims [
      | inl ahead ↦
          subst (λ q. Give o.content (P.edits_of e.session q) e.text) led.is
          (edits_give led.rest e.session start (client_of e) (record {
            fits = led.fits;
            meets = ap (λ (c : Place). c.stand) (sym led.ends) ∙ ahead.meets;
            present = ap (λ (c : Place). c.session) (sym led.ends) ∙ h.session;
          }))
      | inr g ↦ absurd (omega (arith, led.later, g.present))
    ]

is_linked : (view : List ℕ) (link : Option Held) (e : Editor) (h : Good view (record e { link = link })) → (reached e.sent (place h.low link)).stand ≡ Some (client_of e)
    → h.low ≡ e.session → IsLinked (plain_of (record e { link = link }))
is_linked view None e h meets same =
    absurd (omega (arith, same, h.session, none_leads e.sent (place h.low None) (client_of e) refl h.sent meets))
is_linked view (Some x) e h meets same = record { link = plain_link x; there = refl; present = h.link.session ∙ same }

known : (view : List ℕ) (link : Option Held) (e : Editor) → Good view (record e { link = link }) → is_closed e.state ≡ false → IsOpening e.session (map plain_sent e.sent)
    ⊎ (IsLinked (plain_of (record e { link = link })) ⊎ HasFailed e.session (marks e.wire))
known view link e h open_now =
    let a : Place = place h.low link in
    let aims : Aims false (reached e.sent a).stand link h.low e.session (client_of e) (marks e.wire) =
    subst (λ b. Aims b (reached e.sent a).stand link h.low e.session (client_of e) (marks e.wire)) open_now h.aims in
    elim aims [
      | inr g ↦ inr (inr g.failed)
      | inl ahead ↦ elim (cases_lt h.low e.session) [
        | inl less ↦ inl (subst (λ s. IsOpening s (map plain_sent e.sent)) h.session (open_under_way e.sent a h.sent (omega (arith, less, h.session))))
        | inr more ↦ inr (inl (is_linked view link e h ahead.meets (omega (arith, more, low_within view (record e { link = link }) h))))
      ]
    ]

new_linked : (view : List ℕ) (link : Option Held) (e : Editor) → Good view (record e { link = link })
    → Each (λ (m : Mark). m.kind ≡ New → HasLink (option_map plain_link link) m) (marks e.wire)
new_linked view link e g =
    each-map (FrameFits link (is_closed e.state) e.session e.own) (λ (m : Mark). m.kind ≡ New → HasLink (option_map plain_link link) m)
    (λ (f : Frame). f.mark) e.wire (λ f fits new. new_is_linked link f (fits.new new)) g.numbers

up_applies : (view : List ℕ) (x : Held) (e : Editor) → Good view (record e { link = Some x }) → ClosesLast (is_closed e.state) e.session (map plain_sent e.sent)
    → IsChain (length (base_of x)) (P.edits_of x.session (map plain_sent e.sent))
up_applies view x e h kept =
    subst (λ s. IsChain (length (base_of x)) (P.edits_of s (map plain_sent e.sent))) (sym h.link.session)
    (edits_apply e.sent h.low (stand_of x) (is_closed e.state) e.session h.sent kept)

opening_applies : (view : List ℕ) (e : Editor) → Good view e → ClosesLast (is_closed e.state) e.session (map plain_sent e.sent)
    → (s : ℕ) (o : IsOpening s (map plain_sent e.sent)) → IsChain (length o.content) (P.edits_of s o.behind)
opening_applies view e h kept s o =
    let start : Stand = record { text = o.content; seen = 0; own = 0 } in
    let led = led_behind o.before e.sent (place h.low e.link) s o.content o.behind o.there h.sent in
    let behind : ClosesLast (is_closed e.state) e.session (record { session = s; message = P.Opens o.content } ∷ o.behind) =
    closes_behind (is_closed e.state) e.session o.before _ (subst (ClosesLast (is_closed e.state) e.session) o.there kept) in
    subst (λ q. IsChain (length o.content) (P.edits_of s q)) led.is
    (edits_apply led.rest s start (is_closed e.state) e.session led.fits (subst (ClosesLast (is_closed e.state) e.session) (sym led.is) behind.1))

facts_by : (view : List ℕ) (link : Option Held) (e : Editor) → Good view (record e { link = link }) → Kept (plain_of (record e { link = link }))
    → Facts view (plain_of (record e { link = link }))
facts_by view None e g k =
    record {
      daemons_text = λ l is. cc;
      editors_text = λ i open_now. let never : None ≡ Some i.link = i.there in cc;
      up_applies = λ l is. cc;
      opening_text = λ o open_now. opening_text view (record e { link = None }) g o open_now;
      opening_applies = λ s o. opening_applies view (record e { link = None }) g k.closes s o;
      shown_next = λ i open_now none_up. let never : None ≡ Some i.link = i.there in cc;
      new_linked = new_linked view None e g;
      done_first = λ before behind s is. not_before_done before behind s (subst DoneFirst is k.done);
      accepted = λ i opening. let never : None ≡ Some i.link = i.there in cc;
      known = λ open_now. known view None e g open_now;
    }
facts_by view (Some x) e g k =
    record {
      daemons_text = λ l is. let same : plain_link x ≡ l = cc in subst (λ (k : P.Link). Give k.base k.down view) same (record { chain = g.link.chain; gives = g.link.leads });
      editors_text = λ i open_now.
          let there : Some (plain_link x) ≡ Some i.link = i.there in
          let same : plain_link x ≡ i.link = cc in
          subst (λ (k : P.Link). Give k.base (P.edits_of e.session (map plain_sent e.sent)) e.text) same
          (text_given view x e g (ap (λ (k : P.Link). k.session) same ∙ i.present) open_now);
      up_applies = λ l is.
          let same : plain_link x ≡ l = cc in
          subst (λ (n : P.Link). IsChain (length n.base) (P.edits_of n.session (map plain_sent e.sent))) same (up_applies view x e g k.closes);
      opening_text = λ o open_now. opening_text view (record e { link = Some x }) g o open_now;
      opening_applies = λ s o. opening_applies view (record e { link = Some x }) g k.closes s o;
      shown_next = λ i open_now none_up.
          let there : Some (plain_link x) ≡ Some i.link = i.there in
          let same : plain_link x ≡ i.link = cc in
          shown_next view x e g (ap (λ (k : P.Link). k.session) same ∙ i.present) open_now none_up ∙ ap (λ (k : P.Link). length k.down) same;
      new_linked = new_linked view (Some x) e g;
      done_first = λ before behind s is. not_before_done before behind s (subst DoneFirst is k.done);
      accepted = λ i opening.
          let there : Some (plain_link x) ≡ Some i.link = i.there in
          let same : plain_link x ≡ i.link = cc in
          let low : g.low ≡ e.session = sym g.link.session ∙ ap (λ (k : P.Link). k.session) same ∙ i.present in
          accepted e.session (marks e.wire) (answered e.state g.low e.session (marks e.wire) opening low g.ordered) (live view x e (ap is_closed opening) g low).no_error;
      known = λ open_now. known view (Some x) e g open_now;
    }

-- all of these
pub facts : (view : List ℕ) (e : Editor) → Good view e → Kept (plain_of e) → Facts view (plain_of e)
facts view e h k = facts_by view e.link e h k
