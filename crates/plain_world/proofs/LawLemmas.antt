-- What holds after every list of moves.
use Rattle.std.proofs.Common.{◌≡◌, inl, inr, ℕ, ◌==◌, Bool, true, false, not, ◌||◌, List, [], ◌∷◌, length, codes, refl, ap, ◌∙◌, subst, arith}
use Rattle.std.specs.Prelude.{if◌then◌else◌}
use Rattle.std.proofs.lemmas.Bool.{eqb-true}
use Rattle.bridge_world.specs.Counted as N
use Rattle.bridge_world.specs.Plain as P
use Rattle.bridge_world.specs.Plain.{is_closed, State, Open, Opening, Closed}
use Rattle.bridge_world.specs.Counted.{Editor, Sent}
use Rattle.bridge_world.specs.Tie.{Good, Ordered, place, reached}
use Rattle.file_uri.specs.Base.{BaseView}
use Rattle.replay_script.specs.declared.moves.Move.{Move}
use Rattle.daemon_core.specs.History.{text_at}
use Rattle.plain_world.specs.Laws.{QuietShowsFile}
use Rattle.plain_world.specs.Lines.{word_of}
use Rattle.plain_world.specs.RawFrames.{Reader}
use Rattle.plain_world.specs.Step.{played, Leads, Begins, Then}
use Rattle.plain_world.specs.World.{Seat, World, is_connected}
use Rattle.plain_world.proofs.RawLemmas.{raw_begins_good, raw_ends_good, raw_hears_good}
use Rattle.plain_world.proofs.SeatLemmas.{Stands, stands_quiet, none_mapped}
use Rattle.plain_world.proofs.StepLemmas.{Keeps, begins_good, joins_good, types_good, up_good, down_good, settles_good, closes_good, opens_good, cuts_good, shows_good, file_good, held_good}
use Rattle.plain_world.proofs.WorldLemmas.{IsGood}

played_good : (base : BaseView) (reader : Reader) (w : World) (moved : Move) → IsGood w → Keeps (played base reader w moved)
played_good base reader w (Move.Daemon d) good = begins_good base w d good
played_good base reader w (Move.Editor e d path text) good = joins_good w e d path text good
played_good base reader w (Move.Typed e place gone text) good = types_good w e place gone text good
played_good base reader w (Move.Up e) good = up_good w e good
played_good base reader w (Move.Down e) good = down_good w e good
played_good base reader w (Move.Settle e) good = settles_good w e good
played_good base reader w (Move.Close e) good = closes_good w e good
played_good base reader w (Move.Open e) good = opens_good w e good
played_good base reader w (Move.Cut e) good = cuts_good w e good
played_good base reader w (Move.Show e) good = shows_good w e good
played_good base reader w (Move.File d path) good = file_good w d path good
played_good base reader w (Move.Held d) good = held_good w d good
played_good base reader w (Move.BeginEditor d c) good = raw_begins_good w d c good
played_good base reader w (Move.Hear d c piece) good = raw_hears_good reader w d c piece good
played_good base reader w (Move.End d c) good = raw_ends_good w d c good
played_good base reader w moved good = λ next never. cc

-- each world that moves lead to
pub reached_good : (base : BaseView) (reader : Reader) (moves : List Move) (w : World) (printed : List ℕ) → Leads base reader moves w printed → IsGood w
reached_good base reader _ _ _ Begins = record { serve = λ d h found. cc; seated = λ e x found. cc }
reached_good base reader _ _ _ (Then moves w printed moved next led step) =
    played_good base reader w moved (reached_good base reader moves w printed led) next step

-- an editor that is told to be quiet is open, with nothing under way
pub record IsIdle (x : P.Editor) : Type 0 where
  pub state : x.state ≡ Open
  pub sent : x.sent ≡ []
  pub wire : x.wire ≡ []

-- an editor that waits for the answer to its open has something under way
never_waits : (view : List ℕ) (x : P.Editor) → Stands view x → x.state ≡ Opening → x.sent ≡ [] → x.wire ≡ [] → ⊥
never_waits view x h waits none_up none_down =
    let e : Editor = h.counted in
    let good : Good view e = h.good in
    let sent : e.sent ≡ [] = none_mapped N.plain_sent e.sent (ap (λ (y : P.Editor). y.sent) h.is ∙ none_up) in
    let ordered : Ordered Opening good.low e.session [] =
    subst (λ w. Ordered Opening good.low e.session w) (ap (λ (y : P.Editor). y.wire) h.is ∙ none_down)
    (subst (λ s. Ordered s good.low e.session (N.marks e.wire)) (ap (λ (y : P.Editor). y.state) h.is ∙ waits) good.ordered) in
    let session : good.low ≡ e.session =
    subst (λ (ms : List Sent). (reached ms (place good.low e.link)).session ≡ e.session) sent good.session in
    elim ordered [ inl before ↦ omega (arith, before.0, session) | inr answered ↦ answered.1 ]

-- what the word says
idle_if_quiet : (x : Seat) (view : List ℕ) → Stands view x.editor → word_of x ≡ codes "quiet" → IsIdle x.editor
idle_if_quiet x view h word =
    by (is_connected x) (length x.editor.sent == 0) refl (length x.editor.wire == 0) refl x.editor.state refl word where
      empty : {A : Type 0} (xs : List A) → (length xs == 0) ≡ true → xs ≡ []
      empty [] is = refl
      empty (y ∷ xs) is = let none : length (y ∷ xs) ≡ 0 = eqb-true (length (y ∷ xs)) 0 is in absurd (omega (arith, none))

      by : (c : Bool) → (s : Bool) → (length x.editor.sent == 0) ≡ s → (w : Bool) → (length x.editor.wire == 0) ≡ w
          → (state : State) → x.editor.state ≡ state
          → (if not c then codes "lost"
          else (if not s || not w then codes "busy"
          else (if is_closed state then codes "closed" else codes "quiet"))) ≡ codes "quiet"
          → IsIdle x.editor
      by false s sent w wire state is word = cc
      by true false sent w wire state is word = cc
      by true true sent false wire state is word = cc
      by true true sent true wire Closed is word = cc
      by true true sent true wire Open is word = record { state = is; sent = empty x.editor.sent sent; wire = empty x.editor.wire wire }
      by true true sent true wire Opening is word =
          absurd (never_waits view x.editor h is (empty x.editor.sent sent) (empty x.editor.wire wire))

pub quiet_shows_file : QuietShowsFile
quiet_shows_file base reader moves w printed e x led found word =
    let seated = (reached_good base reader moves w printed led).seated e x found in
    let view : List ℕ = text_at seated.host.state.history x.path in
    let idle = idle_if_quiet x view seated.stands word in
    record {
      host = seated.host;
      there = seated.there;
      shows = stands_quiet view x.editor seated.stands idle.state idle.sent idle.wire;
    }
