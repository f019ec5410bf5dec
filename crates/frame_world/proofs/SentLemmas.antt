-- What a connection is sent, and what frames say of what is under way.
use Rattle.std.proofs.Common.{◌≡◌, ◌≢◌, ℕ, Bool, true, false, List, [], ◌∷◌, ◌++◌, map, flat_map, None, refl, sym, ap, ◌∙◌, append_assoc, append-nil}
use Rattle.std.specs.Prelude.{if◌then◌else◌}
use Rattle.std.specs.Ordering.{is_eq}
use Rattle.std.proofs.lemmas.Cmp.{tied_itself, nat_cmp_total}
use Rattle.delta.specs.Cells.{Cells, applied, IsNormal}
use Rattle.bridge_world.specs.Counted.{new_frame, aged_frame, Frame}
use Rattle.bridge_world.specs.Plain.{Kind, OpenDone, Done, Failed, New, Old}
use Rattle.bridge_world.specs.Lists.{Each}
use Rattle.bridge_world.specs.Tie.{FrameFits}
use Rattle.file_uri.specs.Base.{BaseView}
use Rattle.rpc_message.specs.declared.messages.ToEditor.{ToEditor}
use Rattle.daemon_core.specs.Outcome.{Effect}
use Rattle.daemon_core.specs.Outputs.{edit_messages, others_messages, send, told_outputs, sent_to_others, stop_if}
use Rattle.daemon_core.specs.State.{Links, is_number}
use Rattle.daemon_core.specs.declared.events.Output.{Output}
use Rattle.frame_world.specs.Serving.{frame_to, sent_on}
use Rattle.frame_world.specs.Tie.{Ids, Says, AreSaid, AreWritten, frame_of}

pub number_itself : (n : ℕ) → is_number n n ≡ true
number_itself n = ap is_eq (tied_itself nat_cmp_total n)

-- ---- what is sent on a connection

pub sent_on-append : (n : ℕ) (a b : List Output) → sent_on n (a ++ b) ≡ sent_on n a ++ sent_on n b
sent_on-append n [] b = refl
sent_on-append n (o ∷ a) b = ap (λ l. frame_to n o ++ l) (sent_on-append n a b) ∙ sym (append_assoc (frame_to n o) _ _)

pub sent_on-own : (n : ℕ) (ms : List ToEditor) → sent_on n (map (send n) ms) ≡ map frame_of ms
sent_on-own n [] = refl
sent_on-own n (m ∷ ms) =
    ap (λ b. (if b then frame_of m ∷ [] else []) ++ sent_on n (map (send n) ms)) (number_itself n)
    ∙ ap (λ l. frame_of m ∷ l) (sent_on-own n ms)

pub sent_on-other : (n k : ℕ) (ms : List ToEditor) → is_number n k ≡ false → sent_on n (map (send k) ms) ≡ []
sent_on-other n k [] apart = refl
sent_on-other n k (m ∷ ms) apart =
    ap (λ b. (if b then frame_of m ∷ [] else []) ++ sent_on n (map (send k) ms)) apart ∙ sent_on-other n k ms apart

sent_on-others : (n : ℕ) (base : BaseView) (effects : List Effect) (cs : List (ℕ × Links)) → sent_on n (flat_map (sent_to_others n base effects) cs) ≡ []
sent_on-others n base effects [] = refl
sent_on-others n base effects (c ∷ cs) =
    sent_on-append n (sent_to_others n base effects c) (flat_map (sent_to_others n base effects) cs)
    ∙ ap (λ l. l ++ sent_on n (flat_map (sent_to_others n base effects) cs)) (by (is_number n c.0) refl)
    ∙ sent_on-others n base effects cs where
      by : (b : Bool) → is_number n c.0 ≡ b → sent_on n (if b then [] else told_outputs base effects c) ≡ []
      by true is = refl
      by false is = sent_on-other n c.0 (others_messages base effects c.1) is

pub sent_on-stop : (n : ℕ) (b : Bool) → sent_on n (stop_if b) ≡ []
sent_on-stop n true = refl
sent_on-stop n false = refl

-- the connection of a message is sent just its reply and what it is sent itself
pub sent_own : (n : ℕ) (base : BaseView) (effects : List Effect) (cs : List (ℕ × Links)) (stops : Bool) (ms : List ToEditor)
    → sent_on n (map (send n) ms ++ (flat_map (sent_to_others n base effects) cs ++ stop_if stops)) ≡ map frame_of ms
sent_own n base effects cs stops ms =
    sent_on-append n (map (send n) ms) (flat_map (sent_to_others n base effects) cs ++ stop_if stops)
    ∙ ap (λ l. l ++ sent_on n (flat_map (sent_to_others n base effects) cs ++ stop_if stops)) (sent_on-own n ms)
    ∙ ap (λ l. map frame_of ms ++ l)
    (sent_on-append n (flat_map (sent_to_others n base effects) cs) (stop_if stops)
    ∙ ap (λ l. l ++ sent_on n (stop_if stops)) (sent_on-others n base effects cs)
    ∙ sent_on-stop n stops)
    ∙ append-nil (map frame_of ms)

-- ---- frames and messages

pub said-append : (uri : List ℕ) (ids : Ids) (v w : List Frame) (ms ns : List ToEditor) → AreSaid uri ids v ms → AreSaid uri ids w ns
    → AreSaid uri ids (v ++ w) (ms ++ ns)
said-append uri ids [] w [] ns h k = k
said-append uri ids [] w (m ∷ ms) ns h k = absurd h
said-append uri ids (f ∷ v) w [] ns h k = absurd h
said-append uri ids (f ∷ v) w (m ∷ ms) ns h k = (h.0, said-append uri ids v w ms ns h.1 k)

-- what was overtaken says what it said
aged_says : (k : Kind) (uri : List ℕ) (ids : Ids) (s r : ℕ) (d : Cells) (m : ToEditor) → Says uri ids k s r m
    → let f : Frame = aged_frame (record { mark = record { session = s; kind = k }; revision = r; delta = d }) in Says uri ids f.mark.kind f.mark.session f.revision m
aged_says OpenDone uri ids s r d m h = h
aged_says Done uri ids s r d m h = h
aged_says (Failed cause) uri ids s r d m h = h
aged_says New uri ids s r d m h = h
aged_says Old uri ids s r d m h = h

pub said-aged : (uri : List ℕ) (ids : Ids) (wire : List Frame) (ms : List ToEditor) → AreSaid uri ids wire ms → AreSaid uri ids (map aged_frame wire) ms
said-aged uri ids [] [] h = tt
said-aged uri ids [] (m ∷ ms) h = absurd h
said-aged uri ids (f ∷ wire) [] h = absurd h
said-aged uri ids (f ∷ wire) (m ∷ ms) h = (aged_says f.mark.kind uri ids f.mark.session f.revision f.delta m h.0, said-aged uri ids wire ms h.1)

pub said-new : (uri text : List ℕ) (ids : Ids) (s r : ℕ) (ds : List Cells) → AreSaid uri ids (map (new_frame s r) ds) (edit_messages uri r text ds)
said-new uri text ids s r [] = tt
said-new uri text ids s r (d ∷ ds) = ((_, refl), said-new uri (applied d text) ids s r ds)

pub written-new : (uri text : List ℕ) (s r : ℕ) (ds : List Cells) → Each IsNormal ds → AreWritten uri text (map (new_frame s r) ds) (edit_messages uri r text ds)
written-new uri text s r [] normal = tt
written-new uri text s r (d ∷ ds) normal = (record { is = refl; normal = normal.0 }, written-new uri (applied d text) s r ds normal.1)

-- behind frames that are not to be shown
behind_one : (k : Kind) (uri text : List ℕ) (s r : ℕ) (d : Cells) (rest : List Frame) (m : ToEditor) (ms : List ToEditor) → k ≢ New → AreWritten uri text rest ms
    → AreWritten uri text (record { mark = record { session = s; kind = k }; revision = r; delta = d } ∷ rest) (m ∷ ms)
behind_one OpenDone uri text s r d rest m ms other h = (tt, h)
behind_one Done uri text s r d rest m ms other h = (tt, h)
behind_one (Failed cause) uri text s r d rest m ms other h = (tt, h)
behind_one Old uri text s r d rest m ms other h = (tt, h)
behind_one New uri text s r d rest m ms other h = absurd (other refl)

pub written_behind : (uri text : List ℕ) (ids : Ids) (wire rest : List Frame) (ms ns : List ToEditor) → Each (λ (f : Frame). f.mark.kind ≢ New) wire → AreSaid uri ids wire ms
    → AreWritten uri text rest ns → AreWritten uri text (wire ++ rest) (ms ++ ns)
written_behind uri text ids [] rest [] ns old said h = h
written_behind uri text ids [] rest (m ∷ ms) ns old said h = absurd said
written_behind uri text ids (f ∷ wire) rest [] ns old said h = absurd said
written_behind uri text ids (f ∷ wire) rest (m ∷ ms) ns old said h =
    behind_one f.mark.kind uri text f.mark.session f.revision f.delta (wire ++ rest) m (ms ++ ns) old.0
    (written_behind uri text ids wire rest ms ns old.1 said.1 h)

aged_not_new : (k : Kind) (s r : ℕ) (d : Cells) → (aged_frame (record { mark = record { session = s; kind = k }; revision = r; delta = d })).mark.kind ≢ New
aged_not_new OpenDone s r d e = cc
aged_not_new Done s r d e = cc
aged_not_new (Failed cause) s r d e = cc
aged_not_new New s r d e = cc
aged_not_new Old s r d e = cc

pub old-aged : (wire : List Frame) → Each (λ (f : Frame). f.mark.kind ≢ New) (map aged_frame wire)
old-aged [] = tt
old-aged (f ∷ wire) = (aged_not_new f.mark.kind f.mark.session f.revision f.delta, old-aged wire)

-- without a link nothing is to be shown
pub old-unlinked : (closed : Bool) (s own : ℕ) (wire : List Frame) → Each (FrameFits None closed s own) wire → Each (λ (f : Frame). f.mark.kind ≢ New) wire
old-unlinked closed s own [] h = tt
old-unlinked closed s own (f ∷ wire) h = (λ e. h.0.new e, old-unlinked closed s own wire h.1)
