-- A message that is carried out: what it asks for by the texts at hand is what it asks for by those that are read of the changes.
use Rattle.std.proofs.Common.{◌≡◌, ◌⊎◌, ℕ, true, false, List, [], ◌∷◌, length, Option, Some, None, inl, inr, is_some, Ok, Err, refl, sym, ap, ◌∙◌, subst}
use Rattle.std.specs.Option.{unwrap_or}
use Rattle.std.specs.Prelude.{IfSome}
use Rattle.delta.specs.Cells.{applied}
use Rattle.editor_bridge.specs.Link.{Link}
use Rattle.file_uri.specs.Base.{BaseView}
use Rattle.rpc_message.specs.declared.messages.FromEditor.{FromEditor}
use Rattle.rpc_message.specs.declared.refusals.Refusal.{Refusal}
use Rattle.rpc_message.specs.declared.refusals.Refusal.TheVariants as refusals
use Rattle.daemon_core.specs.History as texts
use Rattle.daemon_core.specs.History.{History}
use Rattle.daemon_core.specs.Laws.{IsLinked}
use Rattle.daemon_core.specs.Outcome.{Effect, LinkEvent, Stays, Gone, own_links}
use Rattle.daemon_core.specs.Refusing.{◌>>=◌, may_grow}
use Rattle.daemon_core.specs.Outputs.{own_messages}
use Rattle.daemon_core.specs.Serving as texts_serving
use Rattle.daemon_core.specs.State as texts_state
use Rattle.daemon_core.specs.State.{Links, link_at}
use Rattle.daemon_core.proofs.MessageLemmas as texts_lemmas
use Rattle.daemon_core.proofs.StepLemmas.{IsSound, gone_linked}
use Rattle.daemon_history.specs.Holding as holds
use Rattle.daemon_history.specs.Holding.{Holding}
use Rattle.daemon_history.specs.Making.{Clash, making}
use Rattle.daemon_events.specs.Outcome.{Outcome}
use Rattle.daemon_events.specs.Serving.{noted, unless_clash, made, effects_if, done, carried_out, clashes, on_message, or_refusal}
use Rattle.daemon_events.specs.State.{State}
use Rattle.daemon_events.specs.Wanting.{Desk, Wanted, wanted}
use Rattle.daemon_events.proofs.HoldingLemmas.{read_text}
use Rattle.daemon_links.specs.Changing.{AllLinked, effect_of}
use Rattle.daemon_links.specs.Editing.{Stops}
use Rattle.daemon_links.specs.declared.changes.Change.{Change}
use Rattle.daemon_links.specs.declared.stops.Stop.{Stop}
use Rattle.daemon_links.specs.declared.stops.Stop.TheVariants as stops
use Rattle.daemon_texts.specs.Texts as texts_of
use Rattle.daemon_texts.specs.Texts.{AreAtHand, made_if}
use Rattle.daemon_texts.proofs.WantedLemmas.{does, as_wanted}
use Rattle.message_steps.specs.Asking.{desk, path_to_open, IsEnough}
use Rattle.message_steps.specs.Following.{answer_of, IsWantedChange, Changes, Does, IsRefused}
use Rattle.message_steps.specs.declared.steps.Step.{Step}
use Rattle.store_daemon.specs.Following.{texts_on}
use Rattle.store_daemon.specs.Making.{HoldsChange, HoldsAtHand, IsKept, IsUndone, IsStill, CarriesStep, CanCarry, Carries, state_with, refused_step, notices_of, told_of, made_of}
use Rattle.store_daemon.specs.declared.making.Done.{Done}

-- where a text is at hand, it is the one that is read of the changes
there_held : (h : Holding) (files : History) (path : List ℕ) → AreAtHand h files → is_some (texts.view_at files path) ≡ true
    → holds.view_at h path ≡ texts.view_at files path
there_held h files path hand some = by (texts.view_at files path) refl where
  by : (view : Option (List ℕ)) → texts.view_at files path ≡ view → holds.view_at h path ≡ texts.view_at files path
  by (Some text) is = hand.held_there path text is ∙ sym is
  by None is = let never : false ≡ true = sym (ap is_some is) ∙ some in cc

module _ (h : Holding) (files : History) (base : BaseView) (links : Links) where
  -- a refusal, which leaves all that is held as it was
  pub refused_carries : (after : Holding) (now : Links) (refusal : Refusal) (event : LinkEvent) (d : Done) → after ≡ h → d.step ≡ refused_step refusal
      → clashes refusal ≡ notices_of d.notice → now ≡ own_links event links → own_messages base event links ≡ [] → AllLinked files now
      → Carries h after files base links now (or_refusal (state_with h base links) (Err (record { refusal = refusal; own = event }))) d
  refused_carries after now refusal event d same step_is notices left unsent linked =
      let none : d.step.change ≡ None = ap (λ (x : Step). x.change) step_is in
      record {
        answer = sym (ap (λ (x : Step). answer_of x.answer) step_is);
        messages = ap (λ (x : Step). x.messages) step_is ∙ sym unsent;
        own_is = left;
        effects = sym (ap told_of none);
        notices = notices;
        holding = (λ i. noted (sym (ap (λ (x : Step). x.opens) step_is) i) (sym same i));
        stops = sym (ap (λ (x : Step). x.shuts_down) step_is);
        change = subst (HoldsAtHand h after files) (sym none) same;
        linked = subst (λ (c : Option Change). AllLinked (made_of c files) now) (sym none) linked;
      }

module _ (h : Holding) (files : History) (base : BaseView) (links : Links) (message : FromEditor)
    (can : CanCarry h files links (path_to_open base message)) where
  -- the daemon of what is held, and that of the texts at hand, each with this connection
  abbrev s : State
  s = state_with h base links

  abbrev t : texts_state.State
  t = texts_on base files ((0, links) ∷ [])

  abbrev shown : Desk
  shown = desk base (holds.view_at h) links

  abbrev at_hand : Desk
  at_hand = desk base (texts.view_at files) links

  pub enough_held : IsEnough files (holds.view_at h) links (path_to_open base message)
  enough_held = record {
    opened = λ path is. sym (can.opened path is);
    linked = λ path link found. there_held h files path can.hand (can.linked.linked path link found).there;
  }

  pub enough_texts : IsEnough files (texts.view_at files) links (path_to_open base message)
  enough_texts = record { opened = λ path is. refl; linked = λ path link found. refl }

  -- what a change needs of what is held
  holds_change : (w : Wanted) (own : Links) (change : Change) → IsWantedChange files shown w own change → HoldsChange h change
  holds_change w own change is =
      let read : unwrap_or (holds.view_at h change.path) [] ≡ holds.text_at h change.path = sym (read_text h change.path) in
      record {
        fits = is.fits ∙ ap length read;
        short = subst (λ (text : List ℕ). may_grow (length text) (length (applied change.delta text)) ≡ true) read is.short;
      }

  pub step_can : (own : Links) (step : Step) → Does files shown (wanted shown message) own step → IfSome step.change (HoldsChange h)
  step_can own step d = by step.change d.meets.change where
    by : (change : Option Change) → Changes files shown d.w own change → IfSome change (HoldsChange h)
    by None none = tt
    by (Some change) is = holds_change d.w own change is

  -- what is done by the texts at hand leaves links as they should be
  sound_texts : IsSound t 0 (texts_serving.or_refusal t (wanted at_hand message >>= does t))
  sound_texts =
      subst (λ r. IsSound t 0 (texts_serving.or_refusal t r)) (as_wanted t 0 message)
      (texts_lemmas.message_sound t 0 message can.linked.linked)

  made_same : (w : Wanted) (own : Links) (change : Option Change) → Changes files at_hand w own change → made_if w.change files ≡ made_of change files
  made_same w own None is = ap (λ c. made_if c files) is
  made_same w own (Some change) is = ap (λ c. made_if c files) is.is

  pub step_linked : (own : Links) (step : Step) → Does files at_hand (wanted at_hand message) own step → AllLinked (made_of step.change files) own
  step_linked own step d =
      let sound : IsSound t 0 (texts_of.done t d.w) =
      subst (λ r. IsSound t 0 (texts_serving.or_refusal t (r >>= does t))) d.asked_is sound_texts in
      record {
        linked =
            subst (λ (ls : Links). (path : List ℕ) (link : Link) → link_at ls path ≡ Some link → IsLinked (made_of step.change files) path link) (sym d.meets.own_is)
            (subst (λ (f : History). (path : List ℕ) (link : Link) → link_at (own_links d.w.own links) path ≡ Some link → IsLinked f path link)
            (made_same d.w own step.change d.meets.change) sound.own);
      }

  pub refused_linked : (own : Links) (refusal : Refusal) → IsRefused at_hand (wanted at_hand message) own refusal → AllLinked files own
  refused_linked own refusal is =
      let sound : IsSound t 0 (texts_serving.or_refusal t (Err (record { refusal = refusal; own = is.event }))) =
      subst (λ r. IsSound t 0 (texts_serving.or_refusal t (r >>= does t))) is.asked_is sound_texts in
      record {
        linked =
            subst (λ (ls : Links). (path : List ℕ) (link : Link) → link_at ls path ≡ Some link → IsLinked files path link) (sym is.own_is) sound.own;
      }

  -- ---- what the message comes to

  -- what is asked for is done, where the change is made
  done_outcome : (w : Wanted) (change : Option Effect) (after : Holding) → wanted shown message ≡ Ok w → w.change ≡ change
      → made s w.if_refused change ≡ Ok after → or_refusal s (on_message s 0 message) ≡ done s w after
  done_outcome w change after asked is makes =
      ap (λ r. or_refusal s (r >>= carried_out s)) asked
      ∙ ap (λ c. or_refusal s (made s w.if_refused c >>= λ a. Ok (done s w a))) is
      ∙ ap (λ r. or_refusal s (r >>= λ a. Ok (done s w a))) makes

  -- another change has the name
  clash_outcome : (w : Wanted) (change : Effect) (clash : Clash) → wanted shown message ≡ Ok w → w.change ≡ Some change
      → making h change.path change.delta ≡ Err clash
      → or_refusal s (on_message s 0 message)
      ≡ or_refusal s (Err (record { refusal = refusals.Clash clash.given clash.held; own = w.if_refused }))
  clash_outcome w change clash asked is makes =
      ap (λ r. or_refusal s (r >>= carried_out s)) asked
      ∙ ap (λ c. or_refusal s (made s w.if_refused c >>= λ a. Ok (done s w a))) is
      ∙ ap (λ r. or_refusal s (unless_clash w.if_refused r >>= λ a. Ok (done s w a))) makes

  still : (after : Holding) (own now : Links) (step : Step) (d : Done) → Does files shown (wanted shown message) own step
      → AllLinked (made_of step.change files) own → step.change ≡ None → IsStill h after step own now d
      → Carries h after files base links now (or_refusal s (on_message s 0 message)) d
  still after own now step d asked linked none kept =
      let w : Wanted = asked.w in
      let wants : Changes files shown w own None = subst (Changes files shown w own) none asked.meets.change in
      subst (λ (x : Done). Carries h after files base links now (or_refusal s (on_message s 0 message)) x) (sym kept.done_is)
      (subst (λ (x : Outcome). Carries h after files base links now x (record { step = step; notice = None }))
      (sym (done_outcome w None h asked.asked_is wants refl))
      (record {
        answer = asked.meets.answer;
        messages = asked.meets.messages;
        own_is = kept.own_is ∙ asked.meets.own_is;
        effects = ap effects_if wants ∙ sym (ap told_of none);
        notices = refl;
        holding = (λ i. noted (asked.meets.opens i) (sym kept.same i));
        stops = asked.meets.stops;
        change = subst (HoldsAtHand h after files) (sym none) kept.same;
        linked = subst (AllLinked (made_of step.change files)) (sym kept.own_is) linked;
      }))

  kept : (after : Holding) (own now : Links) (step : Step) (change : Change) (d : Done) → Does files shown (wanted shown message) own step
      → AllLinked (made_of step.change files) own → step.change ≡ Some change → IsKept h change after step own now d
      → Carries h after files base links now (or_refusal s (on_message s 0 message)) d
  kept after own now step change d asked linked some is =
      let w : Wanted = asked.w in
      let wants : IsWantedChange files shown w own change = subst (Changes files shown w own) some asked.meets.change in
      subst (λ (x : Done). Carries h after files base links now (or_refusal s (on_message s 0 message)) x) (sym is.done_is)
      (subst (λ (x : Outcome). Carries h after files base links now x (record { step = step; notice = None }))
      (sym (done_outcome w (Some (effect_of change)) after asked.asked_is wants.is (ap (unless_clash w.if_refused) is.made.is)))
      (record {
        answer = asked.meets.answer;
        messages = asked.meets.messages;
        own_is = is.own_is ∙ asked.meets.own_is;
        effects = ap effects_if wants.is ∙ sym (ap told_of some);
        notices = refl;
        holding = ap (λ (o : Option (List ℕ)). noted o after) asked.meets.opens;
        stops = asked.meets.stops;
        change =
            subst (HoldsAtHand h after files) (sym some)
            (record {
              one = is.made.one;
              here = sym wants.at_hand;
              fits = wants.fits ∙ ap (λ (v : Option (List ℕ)). length (unwrap_or v [])) wants.at_hand;
            });
        linked = subst (AllLinked (made_of step.change files)) (sym is.own_is) linked;
      }))

  -- what is left of the links where a change cannot be made
  undone_linked : (event : LinkEvent) (path : List ℕ) → (event ≡ Stays) ⊎ (event ≡ Gone path) → AllLinked files (own_links event links)
  undone_linked event path how = elim how [
    | inl stays ↦ subst (λ e. AllLinked files (own_links e links)) (sym stays) can.linked
    | inr gone ↦ subst (λ e. AllLinked files (own_links e links)) (sym gone) (record { linked = gone_linked files path links can.linked.linked })
  ]

  undone : (after : Holding) (own now : Links) (step : Step) (change : Change) (d : Done) → Does files shown (wanted shown message) own step
      → step.change ≡ Some change → IsUndone h change after own now d
      → Carries h after files base links now (or_refusal s (on_message s 0 message)) d
  undone after own now step change d asked some is =
      let w : Wanted = asked.w in
      let wants : IsWantedChange files shown w own change = subst (Changes files shown w own) some asked.meets.change in
      let left : now ≡ own_links w.if_refused links = is.own_is ∙ sym wants.undone in
      subst (λ (x : Outcome). Carries h after files base links now x d)
      (sym (clash_outcome w (effect_of change) is.clash asked.asked_is wants.is is.is))
      (refused_carries h files base links after now (refusals.Clash is.clash.given is.clash.held) w.if_refused d is.same is.step_is (sym is.notices_are) left wants.unsent
      (subst (AllLinked files) (sym left) (undone_linked w.if_refused change.path wants.if_refused)))

  -- ---- a message whose step was taken, and one that is refused before

  pub carried : (after : Holding) (own now : Links) (step : Step) (d : Done) → Does files shown (wanted shown message) own step
      → Does files at_hand (wanted at_hand message) own step → CarriesStep h step.change after step own now d
      → Carries h after files base links now (or_refusal s (on_message s 0 message)) d
  carried after own now step d asked asked_here carries = by step.change refl carries where
    by : (change : Option Change) → step.change ≡ change → CarriesStep h change after step own now d
        → Carries h after files base links now (or_refusal s (on_message s 0 message)) d
    by None none is = still after own now step d asked (step_linked own step asked_here) none is
    by (Some change) some is = elim is [
      | inl one ↦ kept after own now step change d asked (step_linked own step asked_here) some one
      | inr met ↦ undone after own now step change d asked some met
    ]

  pub carried_refused : (now : Links) (refusal : Refusal) (stop : Stop) (d : Done) → stop ≡ stops.Refused refusal
      → Stops (IsRefused shown (wanted shown message) now) stop → Stops (IsRefused at_hand (wanted at_hand message) now) stop
      → d.step ≡ refused_step refusal → notices_of d.notice ≡ clashes refusal
      → Carries h h files base links now (or_refusal s (on_message s 0 message)) d
  carried_refused now refusal stop d stopped told told_here step_is notices =
      let is : IsRefused shown (wanted shown message) now refusal = subst (Stops (IsRefused shown (wanted shown message) now)) stopped told in
      let is_here : IsRefused at_hand (wanted at_hand message) now refusal =
      subst (Stops (IsRefused at_hand (wanted at_hand message) now)) stopped told_here in
      subst (λ r. Carries h h files base links now (or_refusal s (r >>= carried_out s)) d) (sym is.asked_is)
      (refused_carries h files base links h now refusal is.event d refl step_is (sym notices) is.own_is is.silent (refused_linked now refusal is_here))
