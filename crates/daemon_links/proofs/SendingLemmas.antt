-- Frames as messages, one after the other.
use Rattle.std.proofs.Common.{◌≡◌, ℕ, suc, ◌+◌, ◌<◌, List, [], ◌∷◌, ◌++◌, append_assoc, length, drop, get_or, refl, sym, ap, ◌∙◌, subst, add-one, drop-cons}
use Rattle.delta.specs.Cells.{Cells, applied}
use Rattle.delta.proofs.LawLemmas.{length-applied}
use Rattle.transform.specs.Carried.{IsChain}
use Rattle.editor_bridge.specs.Frames.{frames}
use Rattle.editor_bridge.specs.Link.{Link}
use Rattle.editor_bridge.specs.declared.frames.BridgeFrame.{BridgeFrame}
use Rattle.rpc_message.specs.declared.messages.ToEditor.{ToEditor}
use Rattle.rpc_message.specs.declared.messages.ToEditor.TheVariants.{Edit}
use Rattle.text_position.specs.Changes.{edits_of}
use Rattle.daemon_core.specs.Outputs.{edit_messages, whole_queue}
use Rattle.daemon_links.specs.Sending.{deltas_of, messages_of}

pub deltas-frames : (revision : ℕ) (deltas : List Cells) → deltas_of (frames revision deltas) ≡ deltas
deltas-frames revision [] = refl
deltas-frames revision (d ∷ deltas) = ap (λ (ds : List Cells). d ∷ ds) (deltas-frames revision deltas)

pub messages-frames : (uri text : List ℕ) (revision : ℕ) (deltas : List Cells)
    → messages_of uri text (frames revision deltas) ≡ edit_messages uri revision text deltas
messages-frames uri text revision [] = refl
messages-frames uri text revision (d ∷ deltas) =
    ap (λ (ms : List ToEditor). Edit uri revision (edits_of text d) ∷ ms) (messages-frames uri (applied d text) revision deltas)

-- what is written of the frames so far, and what is left to write
pub record Writes (uri text : List ℕ) (all : List BridgeFrame) (written : List ToEditor) (reached : List ℕ) (left : List BridgeFrame) : Type 0 where
  pub whole : written ++ messages_of uri reached left ≡ messages_of uri text all
  pub chain : IsChain (length reached) (deltas_of left)

pub written_more : (uri text : List ℕ) (all : List BridgeFrame) (written more : List ToEditor) (reached next : List ℕ) (item : ToEditor) (frame : BridgeFrame) (rest left : List BridgeFrame)
    → rest ≡ frame ∷ left → Writes uri text all written reached rest
    → item ≡ Edit uri frame.revision (edits_of reached frame.delta) → more ≡ written ++ item ∷ [] → next ≡ applied frame.delta reached
    → Writes uri text all more next left
written_more uri text all written more reached next item frame rest left is h says put change =
    let chain = subst (λ (fs : List BridgeFrame). IsChain (length reached) (deltas_of fs)) is h.chain in
    record {
      whole =
          ap (λ (ms : List ToEditor). ms ++ messages_of uri next left) put
          ∙ (append_assoc written (item ∷ []) (messages_of uri next left)
          ∙ ((λ i. written ++ says i ∷ messages_of uri (change i) left)
          ∙ (ap (λ (fs : List BridgeFrame). written ++ messages_of uri reached fs) (sym is) ∙ h.whole)));
      chain = subst (λ n. IsChain n (deltas_of left)) (sym (ap length change ∙ length-applied frame.delta reached chain.0)) chain.1;
    }

pub item_ahead : {A : Type 0} (xs : List A) (i : ℕ) (x : A) → i < length xs → x ≡ get_or xs i x → drop i xs ≡ x ∷ drop (i + 1) xs
item_ahead {A} xs i x lt is =
    drop-cons xs i x lt ∙ (ap (λ (y : A). y ∷ drop (suc i) xs) (sym is) ∙ ap (λ n. x ∷ drop n xs) (sym (add-one i)))

-- the frames of a link's queue, from its base on
pub queue_chain : (text : List ℕ) (link : Link) (queue : List BridgeFrame) → text ≡ link.base → queue ≡ frames link.taken link.unconfirmed
    → IsChain (length link.base) link.unconfirmed → IsChain (length text) (deltas_of queue)
queue_chain text link queue base is chain =
    subst (λ (t : List ℕ). IsChain (length t) (deltas_of queue)) (sym base)
    (subst (IsChain (length link.base)) (sym (ap deltas_of is ∙ deltas-frames link.taken link.unconfirmed)) chain)

pub queue_written : (uri text : List ℕ) (link : Link) (queue : List BridgeFrame) → text ≡ link.base → queue ≡ frames link.taken link.unconfirmed
    → messages_of uri text queue ≡ whole_queue uri link
queue_written uri text link queue base is =
    (λ i. messages_of uri (base i) (is i)) ∙ messages-frames uri link.base link.taken link.unconfirmed
