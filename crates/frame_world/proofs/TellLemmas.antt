-- An editor is told of what comes on another connection.
use Rattle.std.proofs.Common.{◌≡◌, ℕ, ◌-◌, Bool, true, false, List, [], ◌∷◌, ◌++◌, map, flat_map, Option, Some, None, inl, inr, refl, sym, ap, ◌∙◌, subst, append-nil}
use Rattle.std.specs.Prelude.{if◌then◌else◌}
use Rattle.std.specs.Option.{option_map}
use Rattle.std.proofs.lemmas.List.{map-append}
use Rattle.delta.specs.Cells.{Cells, IsNormal, changes_nothing}
use Rattle.text_position.specs.Changes.{edits_of}
use Rattle.transform.specs.Carried.{applied_all}
use Rattle.transform.proofs.ChainLemmas.{applied_all-take-drop}
use Rattle.editor_bridge.specs.Link.{Link, daemon_text, with_pushed}
use Rattle.file_uri.specs.Base.{BaseView}
use Rattle.file_uri.specs.UriOf.{uri_of}
use Rattle.bridge_world.specs.Plain.{Kind, OpenDone, Done, Failed, New, Old}
use Rattle.bridge_world.specs.Counted as N
use Rattle.bridge_world.specs.Counted.{base_of, down_of, new_frame, Held, Frame}
use Rattle.bridge_world.specs.Lists.{Each, unless}
use Rattle.bridge_world.specs.Tie.{place, delta_if_new, new_deltas, Good}
use Rattle.bridge_world.proofs.HeldLemmas.{with_push, base_of-push}
use Rattle.bridge_world.proofs.ListLemmas.{each-append}
use Rattle.rpc_message.specs.declared.messages.MessageId.{MessageId}
use Rattle.rpc_message.specs.declared.messages.ToEditor.{ToEditor}
use Rattle.rpc_message.specs.declared.messages.ToEditor.TheVariants.{Edit}
use Rattle.daemon_core.specs.History.{is_path}
use Rattle.daemon_core.specs.Outcome.{Effect, Outcome, told_links}
use Rattle.daemon_core.specs.Outputs.{of_link, told_messages, others_messages, reply, own_messages, send, told_outputs, sent_to_others, stop_if, outputs}
use Rattle.daemon_core.specs.Sending.{CanBeSent}
use Rattle.daemon_core.specs.State.{Links, State, is_number, link_at, links_of, at_path}
use Rattle.daemon_core.proofs.FileLemmas.{is_path_itself, path_same}
use Rattle.daemon_core.proofs.MapLemmas.{number_same}
use Rattle.frame_world.specs.Seats.{Seat}
use Rattle.frame_world.specs.Serving.{sent_on, link_held, IsAt, HasNone, HasOnce, told_in_turn, IsOneChange, TellsAlike}
use Rattle.frame_world.specs.Tie.{Ids, AreSaid, IsWritten, AreWritten, text_behind, frame_of, IsTied}
use Rattle.frame_world.proofs.BodyLemmas.{bodies_weaker}
use Rattle.frame_world.proofs.LookLemmas.{told_after, changed_at, changed_here, changed_none}
use Rattle.frame_world.proofs.SentLemmas.{number_itself, sent_on-append, sent_on-own, sent_on-other, sent_on-stop, said-append}

-- ---- what is sent there

number_back : (n k : ℕ) → is_number n k ≡ false → is_number k n ≡ false
number_back n k apart = by (is_number k n) refl where
  by : (b : Bool) → is_number k n ≡ b → b ≡ false
  by false is = refl
  by true is = sym (sym apart ∙ ap (λ m. is_number m k) (sym (number_same k n is)) ∙ number_itself k)

none_told : (n k : ℕ) (base : BaseView) (effects : List Effect) (cs : List (ℕ × Links)) → HasNone k cs → sent_on k (flat_map (sent_to_others n base effects) cs) ≡ []
none_told n k base effects [] none = refl
none_told n k base effects (c ∷ cs) none =
    sent_on-append k (sent_to_others n base effects c) (flat_map (sent_to_others n base effects) cs)
    ∙ ap (λ l. l ++ sent_on k (flat_map (sent_to_others n base effects) cs)) (by (is_number n c.0))
    ∙ none_told n k base effects cs none.1 where
      by : (b : Bool) → sent_on k (if b then [] else told_outputs base effects c) ≡ []
      by true = refl
      by false = sent_on-other k c.0 (others_messages base effects c.1) none.0

once_told : (n k : ℕ) (base : BaseView) (effects : List Effect) (links : Links) (cs : List (ℕ × Links)) → is_number n k ≡ false → HasOnce k links cs
    → sent_on k (flat_map (sent_to_others n base effects) cs) ≡ map frame_of (others_messages base effects links)
once_told n k base effects links [] apart once = absurd once
once_told n k base effects links (c ∷ cs) apart once =
    sent_on-append k (sent_to_others n base effects c) (flat_map (sent_to_others n base effects) cs)
    ∙ (elim once [
      | inl here ↦
          ap (λ (d : ℕ × Links). sent_on k (sent_to_others n base effects d) ++ sent_on k (flat_map (sent_to_others n base effects) cs)) here.0
          ∙ ap (λ b. sent_on k (if b then [] else told_outputs base effects (k, links)) ++ sent_on k (flat_map (sent_to_others n base effects) cs)) apart
          ∙ ap (λ l. l ++ sent_on k (flat_map (sent_to_others n base effects) cs)) (sent_on-own k (others_messages base effects links))
          ∙ ap (λ l. map frame_of (others_messages base effects links) ++ l) (none_told n k base effects cs here.1)
          ∙ append-nil (map frame_of (others_messages base effects links))
      | inr later ↦
          ap (λ l. l ++ sent_on k (flat_map (sent_to_others n base effects) cs)) (by (is_number n c.0) later.0)
          ∙ once_told n k base effects links cs apart later.1
    ]) where
      by : (b : Bool) → is_number k c.0 ≡ false → sent_on k (if b then [] else told_outputs base effects c) ≡ []
      by true other = refl
      by false other = sent_on-other k c.0 (others_messages base effects c.1) other

sent_told : (s : State) (n k : ℕ) (id : Option MessageId) (o : Outcome) (links : Links) → is_number n k ≡ false → HasOnce k links s.connections
    → sent_on k (outputs s n id o) ≡ map frame_of (others_messages s.base o.effects links)
sent_told s n k id o links apart once =
    let ms : List ToEditor = reply id o.answer ++ own_messages s.base o.own (links_of s n) in
    let others = flat_map (sent_to_others n s.base o.effects) s.connections in
    sent_on-append k (map (send n) ms) (others ++ stop_if o.shuts_down)
    ∙ ap (λ l. l ++ sent_on k (others ++ stop_if o.shuts_down)) (sent_on-other k n ms (number_back n k apart))
    ∙ sent_on-append k others (stop_if o.shuts_down)
    ∙ ap (λ l. sent_on k others ++ l) (sent_on-stop k o.shuts_down)
    ∙ append-nil (sent_on k others)
    ∙ once_told n k s.base o.effects links s.connections apart once

-- ---- what is written there

behind_text : (kind : Kind) (d : Cells) (ds : List Cells) (text : List ℕ) → applied_all (delta_if_new kind d ds) text ≡ applied_all ds (text_behind kind d text)
behind_text New d ds text = refl
behind_text Old d ds text = refl
behind_text OpenDone d ds text = refl
behind_text Done d ds text = refl
behind_text (Failed cause) d ds text = refl

written_push : (uri text : List ℕ) (ids : Ids) (wire : List Frame) (ms : List ToEditor) (t r : ℕ) (d : Cells) (m : ToEditor) → AreSaid uri ids wire ms → AreWritten uri text wire ms
    → IsWritten uri (applied_all (new_deltas wire) text) r d m → AreWritten uri text (wire ++ new_frame t r d ∷ []) (ms ++ m ∷ [])
written_push uri text ids [] [] t r d m said h w = (w, tt)
written_push uri text ids [] (k ∷ ms) t r d m said h w = absurd said
written_push uri text ids (f ∷ wire) [] t r d m said h w = absurd said
written_push uri text ids (f ∷ wire) (k ∷ ms) t r d m said h w = (
  h.0,
  written_push uri (text_behind f.mark.kind f.delta text) ids wire ms t r d m said.1 h.1
      (subst (λ l. IsWritten uri l r d m) (behind_text f.mark.kind f.delta (new_deltas wire) text) w),
)

-- ---- the editor

-- what an editor becomes that is sent these messages, with these links open
record Becomes (uri path : List ℕ) (x : Seat) (links : Links) (ns : List ToEditor) (e : N.Editor) : Type 0 where
  tied : IsTied uri (record x { down = x.down ++ map frame_of ns }) e
  link : link_at links path ≡ option_map link_held e.link
  others : (q : List ℕ) → (q ≡ path → ⊥) → link_at links q ≡ None

-- nothing
becomes_same : (uri path : List ℕ) (x : Seat) (links : Links) (e : N.Editor) → IsTied uri x e → link_at links path ≡ option_map link_held e.link
    → ((q : List ℕ) → (q ≡ path → ⊥) → link_at links q ≡ None) → Becomes uri path x links [] e
becomes_same uri path x links e tied link others = record {
  tied = subst (λ l. IsTied uri (record x { down = l }) e) (sym (append-nil x.down)) tied;
  link = link;
  others = others;
}

-- a delta that its link gets
becomes_pushed : (uri path view : List ℕ) (x : Seat) (links : Links) (d : Cells) (q : Held) (e : N.Editor) → let c : N.Editor = record e { link = Some q } in Good view c → IsTied uri x c
    → IsNormal d → link_at links path ≡ Some q.link → ((y : List ℕ) → (y ≡ path → ⊥) → link_at links y ≡ None)
    → let m : ToEditor = Edit uri q.link.taken (edits_of (daemon_text q.link) d) in Each CanBeSent (m ∷ [])
    → Becomes uri path x (at_path path (with_pushed d) links) (m ∷ []) (N.pushed d c)
becomes_pushed uri path view x links d q e good tied normal link others fits =
    let c : N.Editor = record e { link = Some q } in
    let m : ToEditor = Edit uri q.link.taken (edits_of (daemon_text q.link) d) in
    let y : Held = with_push d q in
    let h = tied.tied in
    let ms : List ToEditor = tied.messages in
    let ids : Ids = record { opening = h.opening; requests = x.client.requests; session = e.session } in
    let base : base_of y ≡ base_of q = base_of-push d q good.link.confirmed good.link.seen in
    let whole : applied_all (down_of q) (base_of q) ≡ daemon_text q.link = applied_all-take-drop (q.seen - q.link.confirmed) q.link.unconfirmed q.link.base in
    record {
      tied = record {
        messages = ms ++ m ∷ [];
        tied = record {
          uri_is = h.uri_is;
          text = h.text;
          state = h.state;
          own = h.own;
          shown = h.shown;
          opening = h.opening;
          last_open = h.last_open;
          within = h.within;
          low = h.low;
          up =
              bodies_weaker uri ids (place h.low (Some q)) (place h.low (Some y)) e.sent x.up
              (λ there is. ap (λ b. Some (record { text = b; seen = q.seen; own = q.link.taken })) (sym base) ∙ is) h.up;
          frames = ap (λ l. l ++ frame_of m ∷ []) h.frames ∙ sym (map-append frame_of ms (m ∷ []));
          sent = each-append CanBeSent ms (m ∷ []) h.sent fits;
          down = said-append uri ids e.wire (new_frame q.session q.link.taken d ∷ []) ms (m ∷ []) h.down ((edits_of (daemon_text q.link) d, refl), tt);
          written = λ none k linked.
              let same : y ≡ k = cc in
              subst (λ (z : Held). AreWritten uri (base_of z) (e.wire ++ new_frame q.session q.link.taken d ∷ []) (ms ++ m ∷ [])) same
              (subst (λ t. AreWritten uri t (e.wire ++ new_frame q.session q.link.taken d ∷ []) (ms ++ m ∷ [])) (sym base)
              (written_push uri (base_of q) ids e.wire ms q.session q.link.taken d m h.down (h.written none q refl)
              (record {
                is =
                    ap (λ t. Edit uri q.link.taken (edits_of t d))
                    (sym whole ∙ ap (λ l. applied_all l (base_of q)) (sym (good.tells none q refl)));
                normal = normal;
              })));
        };
      };
      link = changed_here path (with_pushed d) links q.link link;
      others = λ z apart. changed_none path (with_pushed d) links z (others z apart);
    }

-- an effect on its own file
becomes_told : (uri path view : List ℕ) (base : BaseView) (x : Seat) (links : Links) (d : Cells) (link : Option Held) (e : N.Editor) → let c : N.Editor = record e { link = link } in
    uri_of base path ≡ uri → Good view c → IsTied uri x c → IsNormal d → changes_nothing d ≡ false → link_at links path ≡ option_map link_held link
    → ((y : List ℕ) → (y ≡ path → ⊥) → link_at links y ≡ None)
    → let ns : List ToEditor = of_link (option_map link_held link) (told_messages base (record { path = path; delta = d })) in Each CanBeSent ns
    → Becomes uri path x (at_path path (with_pushed d) links) ns (N.told d c)
becomes_told uri path view base x links d None e uri_is good tied normal some is others fits =
    let c : N.Editor = record e { link = None } in
    subst (λ b. Becomes uri path x (at_path path (with_pushed d) links) [] (unless b (N.pushed d) c)) (sym some)
    (becomes_same uri path x (at_path path (with_pushed d) links) c tied (changed_none path (with_pushed d) links path is) (λ y apart. changed_none path (with_pushed d) links y (others y apart)))
becomes_told uri path view base x links d (Some q) e uri_is good tied normal some is others fits =
    let c : N.Editor = record e { link = Some q } in
    let told : List ToEditor = Edit (uri_of base path) q.link.taken (edits_of (daemon_text q.link) d) ∷ [] in
    let right : Edit (uri_of base path) q.link.taken (edits_of (daemon_text q.link) d) ∷ [] ≡ Edit uri q.link.taken (edits_of (daemon_text q.link) d) ∷ [] =
    ap (λ u. Edit u q.link.taken (edits_of (daemon_text q.link) d) ∷ []) uri_is in
    subst (λ b. Becomes uri path x (at_path path (with_pushed d) links) told (unless b (N.pushed d) c)) (sym some)
    (subst (λ ns. Becomes uri path x (at_path path (with_pushed d) links) ns (N.pushed d c)) (sym right)
    (becomes_pushed uri path view x links d q e good tied normal is others (subst (Each CanBeSent) right fits)))

-- a link elsewhere is not changed
kept_at : (q : List ℕ) (f : Link → Link) (links : Links) (path : List ℕ) → is_path q path ≡ false → link_at (at_path q f links) path ≡ link_at links path
kept_at q f links path apart =
    changed_at q f links path ∙ ap (λ b. option_map (λ (l : Link). if b then f l else l) (link_at links path)) apart ∙ same (link_at links path) where
      same : (o : Option Link) → option_map (λ (l : Link). l) o ≡ o
      same None = refl
      same (Some l) = refl

-- an effect on any file
becomes_effect : (uri path view : List ℕ) (base : BaseView) (x : Seat) (links : Links) (q : List ℕ) (d : Cells) (e : N.Editor) → uri_of base path ≡ uri → Good view e → IsTied uri x e
    → IsNormal d → changes_nothing d ≡ false → link_at links path ≡ option_map link_held e.link → ((y : List ℕ) → (y ≡ path → ⊥) → link_at links y ≡ None)
    → let ns : List ToEditor = of_link (link_at links q) (told_messages base (record { path = q; delta = d })) in Each CanBeSent ns
    → Becomes uri path x (at_path q (with_pushed d) links) ns (if is_path q path then N.told d e else e)
becomes_effect uri path view base x links q d e uri_is good tied normal some is others fits = by (is_path q path) refl where
  here : path ≡ q → Becomes uri path x (at_path q (with_pushed d) links) (of_link (link_at links q) (told_messages base (record { path = q; delta = d }))) (N.told d e)
  here same =
      let at_path_is : of_link (link_at links path) (told_messages base (record { path = path; delta = d }))
      ≡ of_link (option_map link_held e.link) (told_messages base (record { path = path; delta = d })) =
      ap (λ l. of_link l (told_messages base (record { path = path; delta = d }))) is in
      let fits_here : Each CanBeSent (of_link (link_at links path) (told_messages base (record { path = path; delta = d }))) =
      subst (λ p. Each CanBeSent (of_link (link_at links p) (told_messages base (record { path = p; delta = d })))) (sym same) fits in
      subst (λ p. Becomes uri path x (at_path p (with_pushed d) links) (of_link (link_at links p) (told_messages base (record { path = p; delta = d }))) (N.told d e)) same
      (subst (λ ns. Becomes uri path x (at_path path (with_pushed d) links) ns (N.told d e)) (sym at_path_is)
      (becomes_told uri path view base x links d e.link e uri_is good tied normal some is others (subst (Each CanBeSent) at_path_is fits_here)))

  by : (b : Bool) → is_path q path ≡ b
      → Becomes uri path x (at_path q (with_pushed d) links) (of_link (link_at links q) (told_messages base (record { path = q; delta = d }))) (if b then N.told d e else e)
  by true one = here (sym (path_same q path one))
  by false other =
      let beside : link_at links q ≡ None = others q (λ same. never same) in
      subst (λ l. Becomes uri path x (at_path q (with_pushed d) links) (of_link l (told_messages base (record { path = q; delta = d }))) e) (sym beside)
      (becomes_same uri path x (at_path q (with_pushed d) links) e tied (kept_at q (with_pushed d) links path other ∙ is)
      (λ y apart. changed_none q (with_pushed d) links y (others y apart))) where
        never : q ≡ path → ⊥
        never same = let both : true ≡ false = sym (is_path_itself path) ∙ ap (λ p. is_path p path) (sym same) ∙ other in cc

-- one change at most
becomes_changed : (uri path view : List ℕ) (base : BaseView) (x : Seat) (links : Links) (q : List ℕ) (d : Cells) (e : N.Editor) → uri_of base path ≡ uri → Good view e → IsTied uri x e
    → IsNormal d → link_at links path ≡ option_map link_held e.link → ((y : List ℕ) → (y ≡ path → ⊥) → link_at links y ≡ None) → (b : Bool) → changes_nothing d ≡ b
    → let effects : List Effect = if b then [] else record { path = q; delta = d } ∷ [] in Each CanBeSent (others_messages base effects links)
    → Becomes uri path x (told_links effects links) (others_messages base effects links) (told_in_turn path effects e)
becomes_changed uri path view base x links q d e uri_is good tied normal is others true nothing fits = becomes_same uri path x links e tied is others
becomes_changed uri path view base x links q d e uri_is good tied normal is others false some fits =
    let alone : of_link (link_at links q) (told_messages base (record { path = q; delta = d })) ++ [] ≡ of_link (link_at links q) (told_messages base (record { path = q; delta = d })) =
    append-nil (of_link (link_at links q) (told_messages base (record { path = q; delta = d }))) in
    subst (λ ns. Becomes uri path x (at_path q (with_pushed d) links) ns (if is_path q path then N.told d e else e)) (sym alone)
    (becomes_effect uri path view base x links q d e uri_is good tied normal some is others (subst (Each CanBeSent) alone fits))

pub tellings_are_alike : (uri path view : List ℕ) (s : State) (n k : ℕ) (id : Option MessageId) (o : Outcome) (x : Seat) (e : N.Editor) → Good view e → IsTied uri x e → (at : IsAt s k path e)
    → uri_of s.base path ≡ uri → is_number n k ≡ false → IsOneChange s o → Each CanBeSent (others_messages s.base o.effects at.links)
    → TellsAlike uri path s n k id o x e
tellings_are_alike uri path view s n k id o x e good tied at uri_is apart change fits =
    let b : Becomes uri path x (told_links o.effects at.links) (others_messages s.base o.effects at.links) (told_in_turn path o.effects e) =
    subst (λ (effects : List Effect). Each CanBeSent (others_messages s.base effects at.links)
    → Becomes uri path x (told_links effects at.links) (others_messages s.base effects at.links) (told_in_turn path effects e)) (sym change.effects)
    (becomes_changed uri path view s.base x at.links change.path change.delta e uri_is good tied change.normal at.link at.others (changes_nothing change.delta) refl) fits in
    record {
      tied =
          subst (λ l. IsTied uri (record x { down = x.down ++ l }) (told_in_turn path o.effects e)) (sym (sent_told s n k id o at.links apart at.once)) b.tied;
      at = record { links = told_links o.effects at.links; once = told_after s n k o at.links apart at.once; link = b.link; others = b.others };
    }
