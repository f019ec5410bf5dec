-- Each step with counts is the step without them.
use Rattle.std.proofs.Common.{◌≡◌, ℕ, ◌+◌, ◌≤◌, Bool, true, false, List, [], ◌∷◌, ◌++◌, map, Option, Some, None, refl, ap, ◌∙◌}
use Rattle.std.specs.Option.{option_map}
use Rattle.std.proofs.lemmas.List.{map-append}
use Rattle.delta.specs.Cells.{Cells, applied}
use Rattle.transform.specs.Carried.{list_past}
use Rattle.editor_bridge.specs.Link.{issued, first_deltas}
use Rattle.bridge_world.specs.Plain as P
use Rattle.bridge_world.specs.Plain.{Opening, Closed, is_closed, Kind, Done, New, mark, news, Verdict, Accepts, Refuses}
use Rattle.bridge_world.specs.Counted as N
use Rattle.bridge_world.specs.Counted.{Message, Opens, Edits, Closes, Sent, Frame, Held, Editor, plain_message, plain_sent, marks, base_of, down_of, plain_link, plain_of, answer}
use Rattle.bridge_world.specs.Counted.{new_frame, aged_frame}
use Rattle.bridge_world.proofs.HeldLemmas.{with_push, with_take, base_of-push, down_of-push, base_of-take, queue_of-take, down_of-take}
use Rattle.bridge_world.proofs.FrameLemmas.{marks-append, marks-aged, marks-answered, marks-resent}

-- an editor of the plain machine by its parts
abbrev parts : Editor → List ℕ → P.State → ℕ → List P.Sent → List P.Mark → Option P.Link → P.Editor
parts e text state session sent wire link =
    record { text = text; state = state; session = session; sent = sent; wire = wire; link = link }

plain-sent : (sent : List Sent) (m : Sent) → map plain_sent (sent ++ m ∷ []) ≡ map plain_sent sent ++ plain_sent m ∷ []
plain-sent sent m = map-append plain_sent sent (m ∷ [])

pub plain-typed : (closed : Bool) (p : Cells) (e : Editor) → plain_of (N.typed_where closed p e) ≡ P.typed_where closed p (plain_of e)
plain-typed true p e = refl
plain-typed false p e =
    ap (λ s. parts e (applied p e.text) e.state e.session s (marks e.wire) (option_map plain_link e.link))
    (plain-sent e.sent (record { session = e.session; message = Edits e.shown p }))

pub plain-opened : (e : Editor) → plain_of (N.opened e) ≡ P.opened (plain_of e)
plain-opened e =
    ap (λ s. parts e e.text Opening (e.session + 1) s (marks e.wire) (option_map plain_link e.link))
    (plain-sent e.sent (record { session = e.session + 1; message = Opens e.text }))

pub plain-closed : (e : Editor) → plain_of (N.closed e) ≡ P.closed (plain_of e)
plain-closed e =
    ap (λ s. parts e e.text Closed e.session s (marks e.wire) (option_map plain_link e.link))
    (plain-sent e.sent (record { session = e.session; message = Closes }))

pub plain-lost : (e : Editor) → plain_of (N.lost e) ≡ P.lost (plain_of e)
plain-lost e = refl

pub plain-pushed : (d : Cells) (h : Held) (e : Editor) → h.link.confirmed ≤ h.seen → h.seen ≤ issued h.link
    → plain_of (N.pushed_on (Some h) d e) ≡ P.pushed_on (Some (plain_link h)) d (plain_of e)
plain-pushed d h e low high =
    ap (λ w. parts e e.text e.state e.session (map plain_sent e.sent) w (Some (plain_link (with_push d h))))
    (marks-append e.wire (new_frame h.session h.link.taken d ∷ []))
    ∙ ap (λ b. parts e e.text e.state e.session (map plain_sent e.sent) (marks e.wire ++ mark h.session New ∷ [])
    (Some (record { session = h.session; base = b; down = down_of (with_push d h) })))
    (base_of-push d h low high)
    ∙ ap (λ q. parts e e.text e.state e.session (map plain_sent e.sent) (marks e.wire ++ mark h.session New ∷ [])
    (Some (record { session = h.session; base = base_of h; down = q })))
    (down_of-push d h low high)

plain-answered : (s : ℕ) (k : Kind) (e : Editor) → plain_of (N.answered s k e) ≡ P.answered s k (plain_of e)
plain-answered s k e =
    ap (λ w. parts e e.text e.state e.session (map plain_sent e.sent) w (option_map plain_link e.link)) (marks-append e.wire (answer s k ∷ []))

plain-ended : (s : ℕ) (k : Kind) (e : Editor) → plain_of (N.ended s k e) ≡ P.ended s k (plain_of e)
plain-ended s k e =
    ap (λ w. parts e e.text e.state e.session (map plain_sent e.sent) w None)
    (marks-append (map aged_frame e.wire) (answer s k ∷ []) ∙ ap (λ v. v ++ mark s k ∷ []) (marks-aged e.wire))

plain-linked : (s : ℕ) (content : List ℕ) (first : List Cells) (e : Editor) → plain_of (N.linked s content first e) ≡ P.linked s content first (plain_of e)
plain-linked s content first e =
    ap (λ w. parts e e.text e.state e.session (map plain_sent e.sent) w (Some (record { session = s; base = content; down = first })))
    (marks-answered e.wire s P.OpenDone s 0 first)

plain-took : (s seen : ℕ) (p : Cells) (h : Held) (e : Editor) → seen ≡ h.seen → plain_of (N.took s seen p h e) ≡ P.took s p (plain_link h) (plain_of e)
plain-took s seen p h e is =
    let left : List Cells = list_past p (down_of h) in
    let queue : List Cells = (with_take seen p h).link.unconfirmed in
    ap (λ w. parts e e.text e.state e.session (map plain_sent e.sent) w (Some (plain_link (with_take seen p h))))
    (marks-resent e.wire s Done h.session (h.link.taken + 1) queue)
    ∙ ap (λ q. parts e e.text e.state e.session (map plain_sent e.sent) (map P.aged_mark (marks e.wire) ++ mark s Done ∷ news h.session q) (Some (plain_link (with_take seen p h))))
    (queue_of-take seen p h is)
    ∙ ap (λ b. parts e e.text e.state e.session (map plain_sent e.sent) (map P.aged_mark (marks e.wire) ++ mark s Done ∷ news h.session left)
    (Some (record { session = h.session; base = b; down = down_of (with_take seen p h) })))
    (base_of-take seen p h is)
    ∙ ap (λ q. parts e e.text e.state e.session (map plain_sent e.sent) (map P.aged_mark (marks e.wire) ++ mark s Done ∷ news h.session left)
    (Some (record { session = h.session; base = applied p (base_of h); down = q })))
    (down_of-take seen p h is)

-- an edit has the number of those that are shown
abbrev pub IsSeen : Message → Option Held → Type 0
IsSeen (Edits seen p) (Some h) = seen ≡ h.seen
IsSeen m link = Unit {0}

pub plain-handled : (m : Message) (link : Option Held) (verdict : Verdict) (view : List ℕ) (s : ℕ) (e : Editor) → IsSeen m link
    → let c : Editor = record e { link = link } in plain_of (N.handled_by m link verdict view s c) ≡ P.handled_by (plain_message m) (option_map plain_link link) verdict view s
    (plain_of c)
plain-handled (Opens content) None Accepts view s e seen =
    plain-linked s content (first_deltas content view) (record e { link = None })
plain-handled (Opens content) None (Refuses cause) view s e seen = plain-answered s _ (record e { link = None })
plain-handled (Opens content) (Some h) verdict view s e seen = plain-answered s _ (record e { link = Some h })
plain-handled (Edits n p) None verdict view s e seen = plain-answered s _ (record e { link = None })
plain-handled (Edits n p) (Some h) Accepts view s e seen = plain-took s n p h (record e { link = Some h }) seen
plain-handled (Edits n p) (Some h) (Refuses cause) view s e seen = plain-ended s _ (record e { link = Some h })
plain-handled Closes None verdict view s e seen = plain-answered s _ (record e { link = None })
plain-handled Closes (Some h) verdict view s e seen = plain-ended s Done (record e { link = Some h })
