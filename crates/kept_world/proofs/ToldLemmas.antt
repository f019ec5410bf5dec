-- An editor of a world is told of what comes to its daemon on another connection.
use Rattle.std.proofs.Common.{◌≡◌, ℕ, ◌==◌, ◌&&◌, Bool, true, false, List, [], ◌∷◌, length, Option, Some, None, refl, sym, ap, ◌∙◌, subst, arith}
use Rattle.std.specs.Prelude.{if◌then◌else◌}
use Rattle.std.proofs.lemmas.Bool.{eqb-true, eqb-false, eq-eqb}
use Rattle.delta.specs.Cells.{base_length, applied, changes_nothing}
use Rattle.delta.proofs.LawLemmas.{applied-nothing}
use Rattle.file_uri.specs.Base.{BaseView}
use Rattle.file_uri.specs.UriOf.{uri_of}
use Rattle.bridge_world.specs.Counted as N
use Rattle.bridge_world.specs.Counted.{plain_of, Held}
use Rattle.bridge_world.specs.Lists.{Each, unless}
use Rattle.bridge_world.specs.Plain as P
use Rattle.bridge_world.specs.Tie.{Good}
use Rattle.bridge_world.proofs.Delivery.{Both}
use Rattle.bridge_world.proofs.Moves.{both_told}
use Rattle.rpc_message.specs.declared.messages.MessageId.{MessageId}
use Rattle.daemon_core.specs.History.{History, is_path, text_at, made}
use Rattle.daemon_core.specs.Outcome.{Effect, Outcome, effects_of, state_after}
use Rattle.daemon_core.specs.Outputs.{others_messages, outputs}
use Rattle.daemon_core.specs.Sending.{CanBeSent}
use Rattle.daemon_core.specs.State.{Links, State, is_number}
use Rattle.daemon_core.proofs.FileLemmas.{text_made, text_elsewhere, path_same, is_path_back}
use Rattle.daemon_core.proofs.StepLemmas.{IsChange, Quiet, Made}
use Rattle.plain_world.specs.Handling.{told_seat, told_seats}
use Rattle.plain_world.specs.World as W
use Rattle.plain_world.proofs.WorldLemmas.{told_is, told_apart}
use Rattle.frame_world.specs.Seats.{Seat}
use Rattle.frame_world.specs.Serving.{HasOnce, IsAt, told_in_turn, received, IsOneChange, TellsAlike}
use Rattle.frame_world.specs.Tie.{IsTied}
use Rattle.frame_world.proofs.TellLemmas.{tellings_are_alike}
use Rattle.kept_world.specs.Events.{received_on, told_editor}
use Rattle.kept_world.specs.Tie.{IsApart, ConnectedAs, IsTiedEditor}
use Rattle.kept_world.specs.Worlds.{KeptHost, KeptEditor, KeptWorld, running}
use Rattle.kept_world.proofs.TieLemmas.{connected_on}

-- ---- the editor in the plain machine and with counts

told_both : (d : ℕ) (s : State) (o : Outcome) (y : W.Seat) (e : N.Editor) → IsChange s o → y.daemon ≡ d → y.editor ≡ plain_of e
    → Good (text_at s.history y.path) e → Both (text_at o.history y.path) (told_seats d o.effects y).editor (told_in_turn y.path o.effects e)
told_both d s o y e (Quiet same untold) here is h =
    subst (λ (es : List Effect). Both (text_at o.history y.path) (told_seats d es y).editor (told_in_turn y.path es e)) (sym untold)
    (subst (λ (history : History). Both (text_at history y.path) y.editor e) (sym same) (record { plain = sym is; good = h }))
told_both d s o y e (Made path δ fits same effects) here is h =
    subst (λ (es : List Effect). Both (text_at o.history y.path) (told_seats d es y).editor (told_in_turn y.path es e)) (sym effects)
    (subst (λ (history : History). Both (text_at history y.path) (told_seats d (effects_of path δ) y).editor (told_in_turn y.path (effects_of path δ) e)) (sym same)
    (by_path (is_path path y.path) refl (changes_nothing δ) refl)) where
      after : List ℕ
      after = text_at (made s.history path δ) y.path

      there : is_path path y.path ≡ true → after ≡ applied δ (text_at s.history y.path)
      there at = subst (λ p. text_at (made s.history path δ) p ≡ applied δ (text_at s.history p)) (path_same path y.path at) (text_made s.history path δ)

      fits_here : is_path path y.path ≡ true → base_length δ ≡ length (text_at s.history y.path)
      fits_here at = fits ∙ ap (λ p. length (text_at s.history p)) (path_same path y.path at)

      still : text_at s.history y.path ≡ after → Both after y.editor e
      still same = record { plain = sym is; good = subst (λ t. Good t e) same h }

      chosen : (b : Bool) → Both after (if b then P.told δ y.editor else y.editor) (if b then N.told δ e else e)
          → Both after (if b then record y { editor = P.told δ y.editor } else y).editor (if b then N.told δ e else e)
      chosen true both = both
      chosen false both = both

      told_if : (b : Bool) → is_path path y.path ≡ b → Both after (if b then P.told δ y.editor else y.editor) (if b then N.told δ e else e)
          → Both after (told_seat d (record { path = path; delta = δ }) y).editor (if is_path path y.path then N.told δ e else e)
      told_if b at both =
          subst (λ c. Both after (if c && is_path path y.path then record y { editor = P.told δ y.editor } else y).editor (if is_path path y.path then N.told δ e else e))
          (sym (eq-eqb y.daemon d here))
          (subst (λ c. Both after (if c then record y { editor = P.told δ y.editor } else y).editor (if c then N.told δ e else e)) (sym at) (chosen b both))

      by_path : (b : Bool) → is_path path y.path ≡ b → (n : Bool) → changes_nothing δ ≡ n
          → let es : List Effect = if n then [] else record { path = path; delta = δ } ∷ [] in Both after (told_seats d es y).editor (told_in_turn y.path es e)
      by_path false apart true nothing = still (sym (text_elsewhere s.history path y.path δ (is_path_back path y.path apart)))
      by_path false apart false some = told_if false apart (still (sym (text_elsewhere s.history path y.path δ (is_path_back path y.path apart))))
      by_path true at true nothing = still (sym (there at ∙ applied-nothing δ (text_at s.history y.path) nothing (fits_here at)))
      by_path true at false some =
          told_if true at
          (subst (λ t. Both t (P.told δ y.editor) (N.told δ e)) (sym (there at))
          (subst (λ q. Both (applied δ (text_at s.history y.path)) (P.told δ q) (N.told δ e)) (sym is) (both_told (text_at s.history y.path) δ e (fits_here at) h)))

-- an editor without a link is not told
none_told : (path : List ℕ) (effects : List Effect) (e : N.Editor) → e.link ≡ None → told_in_turn path effects e ≡ e
none_told path [] e none = refl
none_told path (effect ∷ effects) e none =
    ap (told_in_turn path effects) (one (is_path effect.path path)) ∙ none_told path effects e none where
      without : (b : Bool) → unless b (N.pushed effect.delta) (record e { link = None }) ≡ record e { link = None }
      without true = refl
      without false = refl

      one : (b : Bool) → (if b then N.told effect.delta e else e) ≡ e
      one false = refl
      one true =
          subst (λ link. N.told effect.delta (record e { link = link }) ≡ record e { link = link }) (sym none) (without (changes_nothing effect.delta))

-- ---- the editor in its world

-- what an event of daemon d on connection n, which comes to this outcome, leaves of both worlds
pub record Tells (base : BaseView) (k l : KeptWorld) (w v : W.World) (d n : ℕ) (o : Outcome) (h : KeptHost) : Type 0 where
  pub runs : running k d ≡ Some h
  pub base_is : h.state.base ≡ base
  pub change : IsChange h.state o
  pub one : IsOneChange h.state o
  pub fits : (m : ℕ) (links : Links) → is_number n m ≡ false → HasOnce m links h.state.connections
      → Each CanBeSent (others_messages h.state.base o.effects links)
  pub plain : W.Host
  pub there : W.host_of w d ≡ Some plain
  pub files : plain.state.history ≡ h.state.history
  pub kept_after : KeptHost
  pub runs_after : running l d ≡ Some kept_after
  pub state_is : kept_after.state ≡ state_after h.state n o
  pub plain_after : W.Host
  pub there_after : W.host_of v d ≡ Some plain_after
  pub files_after : plain_after.state.history ≡ o.history
  pub beside : (c : ℕ) → (c ≡ d → ⊥) → running l c ≡ running k c
  pub plain_beside : (c : ℕ) → (c ≡ d → ⊥) → W.host_of v c ≡ W.host_of w c
  pub connections : l.connections ≡ k.connections

module _ (base : BaseView) (k l : KeptWorld) (w v : W.World) (d n : ℕ) (id : Option MessageId) (o : Outcome) (h : KeptHost) (ev : Tells base k l w v d n o h) where
  -- an editor of another daemon
  pub tied_elsewhere : (x : KeptEditor) (y : W.Seat) → (x.daemon ≡ d → ⊥) → IsTiedEditor base k w x y → IsTiedEditor base l v x y
  tied_elsewhere x y apart t = record {
    daemon = t.daemon;
    path = t.path;
    connection = t.connection;
    path_is = t.path_is;
    host = t.host;
    there = ev.plain_beside x.daemon apart ∙ t.there;
    counted = t.counted;
    plain = t.plain;
    good = t.good;
    tied = t.tied;
    connected = connected_on k l x t.counted x.connection (ev.beside x.daemon apart) (omega (arith, ev.connections)) t.connected;
  }

  -- the texts of an editor's file before and after
  pub good_before : (x : KeptEditor) (y : W.Seat) → x.daemon ≡ d → (t : IsTiedEditor base k w x y) → Good (text_at h.state.history x.path) t.counted
  good_before x y here t =
      let one : Some t.host ≡ Some ev.plain = sym t.there ∙ ap (W.host_of w) here ∙ ev.there in
      let host : t.host ≡ ev.plain = cc in
      subst (λ (history : History). Good (text_at history x.path) t.counted) (ap (λ (g : W.Host). g.state.history) host ∙ ev.files) t.good

  -- what an editor of this daemon comes to
  pub tied_here : (x : KeptEditor) (y : W.Seat) (seat : Seat) (editor : P.Editor) (counted : N.Editor) → x.daemon ≡ d → IsTiedEditor base k w x y
      → Both (text_at o.history x.path) editor counted → IsTied (uri_of base x.path) seat counted → ConnectedAs l (record x { seat = seat }) counted x.connection
      → IsTiedEditor base l v (record x { seat = seat }) (record y { editor = editor })
  tied_here x y seat editor counted here t both tied connected = record {
    daemon = t.daemon;
    path = t.path;
    connection = t.connection;
    path_is = t.path_is;
    host = ev.plain_after;
    there = ap (W.host_of v) here ∙ ev.there_after;
    counted = counted;
    plain = sym both.plain;
    good = subst (λ (history : History). Good (text_at history x.path) counted) (sym ev.files_after) both.good;
    tied = tied;
    connected = connected;
  }

  -- the same of one that is told
  told_so : (x : KeptEditor) (y : W.Seat) → x.daemon ≡ d → (t : IsTiedEditor base k w x y)
      → Both (text_at o.history x.path) (told_seats d o.effects y).editor (told_in_turn x.path o.effects t.counted)
  told_so x y here t =
      subst (λ path. Both (text_at o.history path) (told_seats d o.effects y).editor (told_in_turn path o.effects t.counted)) t.path
      (told_both d h.state o y t.counted ev.change (t.daemon ∙ here) t.plain
      (subst (λ path. Good (text_at h.state.history path) t.counted) (sym t.path) (good_before x y here t)))

  told_here : (x : KeptEditor) (y : W.Seat) (c : Option ℕ) → x.daemon ≡ d → ((m : ℕ) → c ≡ Some m → is_number n m ≡ false)
      → let z : KeptEditor = record x { connection = c } in IsTiedEditor base k w z y
      → IsTiedEditor base l v (received_on c (outputs h.state n id o) z) (told_seats d o.effects y)
  told_here x y None here others t =
      let z : KeptEditor = record x { connection = None } in
      let apart : IsApart z t.counted = t.connected in
      let same : told_in_turn x.path o.effects t.counted ≡ t.counted = none_told x.path o.effects t.counted apart.link in
      let told : Both (text_at o.history x.path) (told_seats d o.effects y).editor t.counted =
      subst (Both (text_at o.history x.path) (told_seats d o.effects y).editor) same (told_so z y here t) in
      subst (IsTiedEditor base l v z) (sym (told_is d o.effects y))
      (tied_here z y x.seat (told_seats d o.effects y).editor t.counted here t told t.tied apart)
  told_here x y (Some m) here others t =
      let z : KeptEditor = record x { connection = Some m } in
      let at = t.connected in
      let one : Some at.host ≡ Some h = sym at.runs ∙ ap (running k) here ∙ ev.runs in
      let host : at.host ≡ h = cc in
      let there : IsAt h.state m x.path t.counted = subst (λ (q : KeptHost). IsAt q.state m x.path t.counted) host at.at in
      let next : N.Editor = told_in_turn x.path o.effects t.counted in
      let alike : TellsAlike (uri_of base x.path) x.path h.state n m id o x.seat t.counted =
      tellings_are_alike (uri_of base x.path) x.path (text_at h.state.history x.path) h.state n m id o x.seat t.counted (good_before z y here t) t.tied there
      (ap (λ b. uri_of b x.path) ev.base_is) (others m refl) ev.one (ev.fits m there.links (others m refl) there.once) in
      subst (IsTiedEditor base l v (received_on (Some m) (outputs h.state n id o) z)) (sym (told_is d o.effects y))
      (tied_here z y (received m (outputs h.state n id o) x.seat) (told_seats d o.effects y).editor next here t (told_so z y here t) alike.tied
      (record {
        host = ev.kept_after;
        runs = ap (running l) here ∙ ev.runs_after;
        at = subst (λ (s : State). IsAt s m x.path next) (sym ev.state_is) alike.at;
        own = at.own;
        below = omega (arith, at.below, ev.connections);
      }))

  -- each editor that is not on the connection of the event
  pub told_each : (x : KeptEditor) (y : W.Seat) → ((m : ℕ) → x.daemon ≡ d → x.connection ≡ Some m → is_number n m ≡ false) → IsTiedEditor base k w x y
      → IsTiedEditor base l v (told_editor d (outputs h.state n id o) x) (told_seats d o.effects y)
  told_each x y others t = by (x.daemon == d) refl where
    by : (b : Bool) → (x.daemon == d) ≡ b
        → IsTiedEditor base l v (if b then received_on x.connection (outputs h.state n id o) x else x) (told_seats d o.effects y)
    by true here = told_here x y x.connection (eqb-true x.daemon d here) (λ m is. others m (eqb-true x.daemon d here) is) t
    by false apart =
        subst (IsTiedEditor base l v x) (sym (told_apart d o.effects y (ap (λ c. c == d) t.daemon ∙ apart)))
        (tied_elsewhere x y (eqb-false x.daemon d apart) t)
