-- After every list of moves the machine with counts is the plain one, and each connection keeps the tie.
use Rattle.std.proofs.Common.{◌≡◌, ℕ, zero, suc, ◌≤◌, ◌==◌, Bool, true, false, List, [], ◌∷◌, length, map, Option, Some, None, option_and_then, refl, sym, ap, ◌∙◌, subst, arith}
use Rattle.std.specs.Prelude.{not}
use Rattle.std.specs.Option.{option_map}
use Rattle.std.proofs.lemmas.List.{map-append}
use Rattle.std.proofs.lemmas.Bool.{eqb-true, eq-eqb}
use Rattle.std.proofs.lemmas.Bool.Decides.{nat_tests}
use Rattle.delta.specs.Cells.{Cells, applied, base_length, changes_nothing}
use Rattle.transform.specs.Carried.{IsChain, past_list, chain_end}
use Rattle.transform.proofs.MergedLemmas.{base_length-past_list}
use Rattle.transform.proofs.ChainLemmas.{length-applied_all}
use Rattle.editor_bridge.specs.Link.{Link, issued, editor_text, unshown}
use Rattle.editor_bridge.specs.Faults.{revision_fault, length_fault, first_fault, edit_fault}
use Rattle.bridge_world.specs.Lists.{one_and_others, same, unless, only_if}
use Rattle.std.specs.Prelude.{slice_get}
use Rattle.bridge_world.specs.Plain as P
use Rattle.bridge_world.specs.Plain.{State, Opening, Open, Closed, is_closed, Verdict, Accepts, Refuses}
use Rattle.bridge_world.specs.Counted as N
use Rattle.bridge_world.specs.Counted.{Message, Opens, Edits, Closes, Sent, Held, Editor, plain_of, plain_link, plain_message, plain_sent, down_of, verdict_unless}
use Rattle.bridge_world.specs.Counted.{verdict_by}
use Rattle.bridge_world.specs.Tie.{Good, AllGood}
use Rattle.bridge_world.specs.Room as R
use Rattle.bridge_world.specs.Room.{Room, Move, at_editor, changed, told_of, with_handled, new_plain, new_counted, plain_step, counted_step, run, empty_room, plain_room}
use Rattle.bridge_world.proofs.ListLemmas.{each_at, each-append, at-map}
use Rattle.bridge_world.proofs.PlainSteps.{plain-typed, plain-opened, plain-closed, plain-lost, plain-pushed, plain-handled, IsSeen}
use Rattle.bridge_world.proofs.GoodSteps.{good_typed, good_opened, good_closed, good_lost, good_told}
use Rattle.bridge_world.proofs.HandledSteps.{good_handled}
use Rattle.bridge_world.proofs.Delivery.{Both, both_delivered}

-- each editor takes the same step in both machines

pub record AllBoth (view : List ℕ) (xs : List P.Editor) (es : List Editor) : Type 0 where
  pub plain : map plain_of es ≡ xs
  good : AllGood view es

pub all_map : (view view' : List ℕ) (g' : P.Editor → P.Editor) (g : Editor → Editor) (es : List Editor) → ((e : Editor) → Good view e → Both view' (g' (plain_of e)) (g e))
    → AllGood view es → AllBoth view' (map g' (map plain_of es)) (map g es)
all_map view view' g' g [] others h = record { plain = refl; good = tt }
all_map view view' g' g (e ∷ es) others h =
    let one = others e h.0 in
    let rest = all_map view view' g' g es others h.1 in
    record {
      plain = ap (λ x. x ∷ map plain_of (map g es)) one.plain ∙ ap (λ xs. g' (plain_of e) ∷ xs) rest.plain;
      good = (one.good, rest.good);
    }

pub all_but_one : (view view' : List ℕ) (f' g' : P.Editor → P.Editor) (f g : Editor → Editor) (n : ℕ) (es : List Editor) (e : Editor) → slice_get es n ≡ Some e
    → Both view' (f' (plain_of e)) (f e) → ((x : Editor) → Good view x → Both view' (g' (plain_of x)) (g x)) → AllGood view es
    → AllBoth view' (one_and_others f' g' n (map plain_of es)) (one_and_others f g n es)
all_but_one view view' f' g' f g n [] e is one others h = cc
all_but_one view view' f' g' f g zero (x ∷ es) e is one others h =
    let here : e ≡ x = cc in
    let first = subst (λ y. Both view' (f' (plain_of y)) (f y)) here one in
    let rest = all_map view view' g' g es others h.1 in
    record {
      plain = ap (λ y. y ∷ map plain_of (map g es)) first.plain ∙ ap (λ xs. f' (plain_of x) ∷ xs) rest.plain;
      good = (first.good, rest.good);
    }
all_but_one view view' f' g' f g (suc n) (x ∷ es) e is one others h =
    let first = others x h.0 in
    let rest = all_but_one view view' f' g' f g n es e is one others h.1 in
    record {
      plain = ap (λ y. y ∷ map plain_of (one_and_others f g n es)) first.plain ∙ ap (λ xs. g' (plain_of x) ∷ xs) rest.plain;
      good = (first.good, rest.good);
    }

both_same : (view : List ℕ) (e : Editor) → Good view e → Both view (same (plain_of e)) (same e)
both_same view e h = record { plain = refl; good = h }

-- a change is told

plain_pushed : (view : List ℕ) (d : Cells) (link : Option Held) (e : Editor) → Good view (record e { link = link })
    → plain_of (N.pushed_on link d (record e { link = link })) ≡ P.pushed_on (option_map plain_link link) d (plain_of (record e { link = link }))
plain_pushed view d None e h = refl
plain_pushed view d (Some x) e h = plain-pushed d x (record e { link = Some x }) h.link.confirmed h.link.seen

pub both_told : (view : List ℕ) (d : Cells) (e : Editor) → base_length d ≡ length view → Good view e → Both (applied d view) (P.told d (plain_of e)) (N.told d e)
both_told view d e fits h = record { plain = by_test (changes_nothing d); good = good_told view d e fits h } where
  by_test : (b : Bool) → plain_of (unless b (N.pushed d) e) ≡ unless b (P.pushed d) (plain_of e)
  by_test true = refl
  by_test false = plain_pushed view d e.link e h

abbrev pub EffectFits : Option Cells → List ℕ → Type 0
EffectFits None view = Unit {0}
EffectFits (Some d) view = base_length d ≡ length view

pub both_told_of : (view : List ℕ) (d : Option Cells) (e : Editor) → EffectFits d view → Good view e → Both (changed d view) (told_of P.told d (plain_of e)) (told_of N.told d e)
both_told_of view None e fits h = record { plain = refl; good = h }
both_told_of view (Some d) e fits h = both_told view d e fits h

-- a message is handled

-- both machines make the same change of the text, which applies to it, and the step is the same
pub record BothHandled (view : List ℕ) (effect effect' : Option Cells) (x : P.Editor) (e : Editor) : Type 0 where
  pub effects : effect' ≡ effect
  pub fits : EffectFits effect' view
  pub both : Both (changed effect' view) x e

pub no_fault : (seen : ℕ) (p : Cells) (l : Link) → l.confirmed ≤ seen → seen ≤ issued l → base_length p ≡ length (editor_text seen l) → edit_fault seen p l ≡ None
no_fault seen p l low high fits =
    let revision : revision_fault seen l ≡ None = grind (arith, nat_tests) in
    let size : length_fault (base_length p) (length (editor_text seen l)) ≡ None = rw (eq-eqb (base_length p) (length (editor_text seen l)) fits) refl in
    ap (λ f. first_fault f (length_fault (base_length p) (length (editor_text seen l)))) revision ∙ size

-- an edit that comes to its link is for a text that the link knows, so that the link refuses nothing
pub same_verdict : (k : Message) (link : Option Held) (verdict : Verdict) (view : List ℕ) (s : ℕ) (sent : List Sent) (e : Editor)
    → Good view (record e { sent = record { session = s; message = k } ∷ sent; link = link }) → verdict_by verdict k link ≡ verdict
same_verdict (Opens content) link verdict view s sent e h = refl
same_verdict (Edits seen p) None verdict view s sent e h = refl
same_verdict (Edits seen p) (Some x) verdict view s sent e h =
    let shown : seen ≡ x.seen = h.sent.0.1.0 in
    ap (λ f. verdict_unless f verdict)
    (no_fault seen p x.link (omega (arith, shown, h.link.confirmed)) (omega (arith, shown, h.link.seen))
    (h.sent.0.1.1 ∙ ap (λ n. length (editor_text n x.link)) (sym shown)))
same_verdict Closes link verdict view s sent e h = refl

is_seen : (k : Message) (link : Option Held) (view : List ℕ) (s : ℕ) (sent : List Sent) (e : Editor)
    → Good view (record e { sent = record { session = s; message = k } ∷ sent; link = link }) → IsSeen k link
is_seen (Opens content) link view s sent e h = tt
is_seen (Edits seen p) None view s sent e h = tt
is_seen (Edits seen p) (Some x) view s sent e h = h.sent.0.1.0
is_seen Closes link view s sent e h = tt

same_effect : (k : Message) (link : Option Held) (verdict : Verdict) (view : List ℕ) (s : ℕ) (sent : List Sent) (e : Editor)
    → Good view (record e { sent = record { session = s; message = k } ∷ sent; link = link })
    → N.effect_by k link verdict ≡ P.effect_by (plain_message k) (option_map plain_link link) verdict
same_effect (Opens content) None verdict view s sent e h = refl
same_effect (Opens content) (Some x) verdict view s sent e h = refl
same_effect (Edits seen p) None verdict view s sent e h = refl
same_effect (Edits seen p) (Some x) Accepts view s sent e h = ap (λ n. Some (past_list p (unshown n x.link))) h.sent.0.1.0
same_effect (Edits seen p) (Some x) (Refuses cause) view s sent e h = refl
same_effect Closes None verdict view s sent e h = refl
same_effect Closes (Some x) verdict view s sent e h = refl

pub effect_fits : (k : Message) (link : Option Held) (verdict : Verdict) (view : List ℕ) (s : ℕ) (sent : List Sent) (e : Editor)
    → Good view (record e { sent = record { session = s; message = k } ∷ sent; link = link }) → EffectFits (N.effect_by k link verdict) view
effect_fits (Opens content) link verdict view s sent e h = tt
effect_fits (Edits seen p) None verdict view s sent e h = tt
effect_fits (Edits seen p) (Some x) (Refuses cause) view s sent e h = tt
effect_fits (Edits seen p) (Some x) Accepts view s sent e h =
    let chain : IsChain (base_length p) (down_of x) = subst (λ n. IsChain n (down_of x)) (sym h.sent.0.1.1) h.link.chain in
    ap (λ n. base_length (past_list p (unshown n x.link))) h.sent.0.1.0
    ∙ base_length-past_list p (down_of x) chain
    ∙ ap (λ n. chain_end n (down_of x)) h.sent.0.1.1
    ∙ sym (length-applied_all (down_of x) (N.base_of x) h.link.chain)
    ∙ ap length h.link.leads
effect_fits Closes link verdict view s sent e h = tt

both_handled_first : (k : Message) (link : Option Held) (verdict : Verdict) (view : List ℕ) (s : ℕ) (sent : List Sent) (e : Editor)
    → Good view (record e { sent = record { session = s; message = k } ∷ sent; link = link })
    → let c : Editor = record e { sent = sent; link = link } in let d' : Option Cells = N.effect_by k link verdict in let d : Option Cells = P.effect_by (plain_message k)
    (option_map plain_link link) verdict in BothHandled view d d' (P.handled_by (plain_message k) (option_map plain_link link) verdict (changed d view) s (plain_of c))
    (N.handled_by k link verdict (changed d' view) s c)
both_handled_first k link verdict view s sent e h =
    let c : Editor = record e { sent = sent; link = link } in
    let d' : Option Cells = N.effect_by k link verdict in
    record {
      effects = same_effect k link verdict view s sent e h;
      fits = effect_fits k link verdict view s sent e h;
      both = record {
        plain =
            plain-handled k link verdict (changed d' view) s (record e { sent = sent }) (is_seen k link view s sent e h)
            ∙ ap (λ d. P.handled_by (plain_message k) (option_map plain_link link) verdict (changed d view) s (plain_of c)) (same_effect k link verdict view s sent e h);
        good = good_handled k link verdict view s sent e h;
      };
    }

pub both_handled : (verdict : Verdict) (view : List ℕ) (e : Editor) → Good view e
    → BothHandled view (P.effect verdict (plain_of e)) (N.effect verdict e) (P.handled verdict (changed (P.effect verdict (plain_of e)) view) (plain_of e))
    (N.handled (N.verdict_of verdict e) (changed (N.effect verdict e) view) e)
both_handled verdict view e h = by_sent e.sent h where
  by_sent : (sent : List Sent) → Good view (record e { sent = sent })
      → let c : Editor = record e { sent = sent } in BothHandled view (P.effect verdict (plain_of c)) (N.effect verdict c)
      (P.handled verdict (changed (P.effect verdict (plain_of c)) view) (plain_of c)) (N.handled (N.verdict_of verdict c) (changed (N.effect verdict c) view) c)
  by_sent [] g = record { effects = refl; fits = tt; both = record { plain = refl; good = g } }
  by_sent (m ∷ sent) g =
      subst (λ v. BothHandled view (P.effect_by (plain_message m.message) (option_map plain_link e.link) verdict) (N.effect_by m.message e.link v)
      (P.handled_by (plain_message m.message) (option_map plain_link e.link) verdict
      (changed (P.effect_by (plain_message m.message) (option_map plain_link e.link) verdict) view) m.session
      (plain_of (record e { sent = sent }))) (N.handled_by m.message e.link v (changed (N.effect_by m.message e.link v) view) m.session
      (record e { sent = sent }))) (sym (same_verdict m.message e.link verdict view m.session sent e g))
      (both_handled_first m.message e.link verdict view m.session sent e g)

-- a move

abbrev pub IfGood : Option (Room Editor) → Type 0
IfGood None = Unit {0}
IfGood (Some w) = AllGood w.view w.editors

pub record BothMoved (x : Option (Room P.Editor)) (o : Option (Room Editor)) : Type 0 where
  pub plain : x ≡ option_map plain_room o
  pub good : IfGood o

-- both machines find the same editor
at_both : (w : Room Editor) (n : ℕ) (F : P.Editor → Option (Room P.Editor)) (G : Editor → Option (Room Editor)) → AllGood w.view w.editors
    → ((e : Editor) → slice_get w.editors n ≡ Some e → Good w.view e → BothMoved (F (plain_of e)) (G e))
    → BothMoved (option_and_then F (slice_get (map plain_of w.editors) n)) (option_and_then G (slice_get w.editors n))
at_both w n F G h one =
    subst (λ o. BothMoved (option_and_then F o) (option_and_then G (slice_get w.editors n))) (sym (at-map plain_of w.editors n)) (found (slice_get w.editors n) refl) where
      found : (o : Option Editor) → slice_get w.editors n ≡ o → BothMoved (option_and_then F (option_map plain_of o)) (option_and_then G o)
      found None is = record { plain = refl; good = tt }
      found (Some e) is = one e is (each_at (Good w.view) w.editors n e is h)

-- an editor does something of its own, where the test holds
own_move : (w : Room Editor) (n : ℕ) (may' : P.Editor → Bool) (may : Editor → Bool) (f' : P.Editor → P.Editor) (f : Editor → Editor) → ((e : Editor) → may' (plain_of e) ≡ may e)
    → ((e : Editor) → may e ≡ true → Good w.view e → Both w.view (f' (plain_of e)) (f e)) → AllGood w.view w.editors
    → BothMoved (at_editor may' f' n (plain_room w)) (at_editor may f n w)
own_move w n may' may f' f tests steps h = at_both w n _ _ h (λ e is g.
    subst (λ b. BothMoved (only_if b (record { view = w.view; editors = one_and_others f' same n (map plain_of w.editors) }))
    (only_if (may e) (record w { editors = one_and_others f same n w.editors }))) (sym (tests e))
    (by_test e is g (may e) refl)) where
      by_test : (e : Editor) → slice_get w.editors n ≡ Some e → Good w.view e → (b : Bool) → may e ≡ b
          → BothMoved (only_if b (record { view = w.view; editors = one_and_others f' same n (map plain_of w.editors) }))
          (only_if b (record w { editors = one_and_others f same n w.editors }))
      by_test e is g false may_not = record { plain = refl; good = tt }
      by_test e is g true holds =
          let all = all_but_one w.view w.view f' same f same n w.editors e is (steps e holds g) (both_same w.view) h in
          record { plain = ap (λ xs. Some (record { view = w.view; editors = xs })) (sym all.plain); good = all.good }

closed_is : (st : State) → is_closed st ≡ true → st ≡ Closed
closed_is Closed h = refl
closed_is Opening h = cc
closed_is Open h = cc

pub both_moved : (m : Move) (w : Room Editor) → AllGood w.view w.editors → BothMoved (plain_step m (plain_room w)) (counted_step m w)
both_moved (R.Joins text) w h =
    record {
      plain = ap (λ xs. Some (record { view = w.view; editors = xs })) (sym (map-append plain_of w.editors (N.opened (new_counted text) ∷ [])));
      good =
          each-append (Good w.view) w.editors (N.opened (new_counted text) ∷ []) h
          (good_opened w.view (new_counted text) refl (good_lost w.view (new_counted text)), tt);
    }
both_moved (R.Types n p) w h =
    own_move w n _ (λ (e : Editor). base_length p == length e.text) (P.typed p) (N.typed p) (λ e. refl)
    (λ e fits g. record {
      plain = plain-typed (is_closed e.state) p e;
      good = good_typed w.view (is_closed e.state) p e (eqb-true (base_length p) (length e.text) fits) refl g;
    }) h
both_moved (R.Opens n) w h =
    own_move w n _ (λ (e : Editor). is_closed e.state) P.opened N.opened (λ e. refl)
    (λ e is g. record { plain = plain-opened e; good = good_opened w.view e (closed_is e.state is) g }) h
both_moved (R.Closes n) w h =
    own_move w n _ (λ (e : Editor). not (is_closed e.state)) P.closed N.closed (λ e. refl)
    (λ e is g. record { plain = plain-closed e; good = good_closed w.view e g }) h
both_moved (R.Loses n) w h =
    own_move w n (λ (x : P.Editor). true) (λ (e : Editor). true) P.lost N.lost (λ e. refl) (λ e is g. record { plain = plain-lost e; good = good_lost w.view e }) h
both_moved (R.Handles n verdict) w h = at_both w n _ _ h (λ e is g.
    let one = both_handled verdict w.view e g in
    let d' : Option Cells = N.effect verdict e in
    let both : Both (changed d' w.view) (P.handled verdict (changed d' w.view) (plain_of e)) (N.handled (N.verdict_of verdict e) (changed d' w.view) e) =
    subst (λ d. Both (changed d' w.view) (P.handled verdict (changed d w.view) (plain_of e)) (N.handled (N.verdict_of verdict e) (changed d' w.view) e))
    (sym one.effects) one.both in
    let all =
    all_but_one w.view (changed d' w.view) (P.handled verdict (changed d' w.view)) (told_of P.told d') (N.handled (N.verdict_of verdict e) (changed d' w.view))
    (told_of N.told d') n w.editors e is both
    (λ x k. both_told_of w.view d' x one.fits k) h in
    record {
      plain =
          ap (λ d. Some (with_handled (P.handled verdict) P.told d n (plain_room w))) (sym one.effects)
          ∙ ap (λ xs. Some (record { view = changed d' w.view; editors = xs })) (sym all.plain);
      good = all.good;
    })
both_moved (R.Delivers n) w h =
    own_move w n (λ (x : P.Editor). true) (λ (e : Editor). true) P.delivered N.delivered (λ e. refl) (λ e is g. both_delivered w.view e g) h
both_moved (R.Pushes d) w h = by_test (base_length d == length w.view) refl where
  by_test : (b : Bool) → (base_length d == length w.view) ≡ b
      → BothMoved (only_if b (record { view = applied d w.view; editors = map (P.told d) (map plain_of w.editors) }))
      (only_if b (record { view = applied d w.view; editors = map (N.told d) w.editors }))
  by_test false is = record { plain = refl; good = tt }
  by_test true is =
      let all = all_map w.view (applied d w.view) (P.told d) (N.told d) w.editors (λ x k. both_told w.view d x (eqb-true (base_length d) (length w.view) is) k) h in
      record { plain = ap (λ xs. Some (record { view = applied d w.view; editors = xs })) (sym all.plain); good = all.good }

-- a list of moves
both_run : (moves : List Move) (w : Room Editor) → AllGood w.view w.editors → BothMoved (run plain_step moves (plain_room w)) (run counted_step moves w)
both_run [] w h = record { plain = refl; good = h }
both_run (m ∷ moves) w h =
    let one = both_moved m w h in
    subst (λ o. BothMoved (option_and_then (λ v. run plain_step moves v) o) (option_and_then (λ v. run counted_step moves v) (counted_step m w))) (sym one.plain)
    (went_on (λ v g. both_run moves v g) (counted_step m w) one.good) where
      went_on : ((v : Room Editor) → AllGood v.view v.editors → BothMoved (run plain_step moves (plain_room v)) (run counted_step moves v)) → (o : Option (Room Editor)) → IfGood o
          → BothMoved (option_and_then (λ v. run plain_step moves v) (option_map plain_room o)) (option_and_then (λ v. run counted_step moves v) o)
      went_on rest None g = record { plain = refl; good = tt }
      went_on rest (Some v) g = rest v g

pub refines : (moves : List Move) (view : List ℕ) → run plain_step moves (empty_room view) ≡ option_map plain_room (run counted_step moves (empty_room view))
refines moves view = (both_run moves (empty_room view) tt).plain

-- each editor of a room that is reached keeps the tie
pub reached_good : (moves : List Move) (view : List ℕ) (w : Room Editor) (n : ℕ) (e : Editor) → run counted_step moves (empty_room view) ≡ Some w → slice_get w.editors n ≡ Some e
    → Good w.view e
reached_good moves view w n e ran found =
    each_at (Good w.view) w.editors n e found (subst IfGood ran (both_run moves (empty_room view) tt).good)
