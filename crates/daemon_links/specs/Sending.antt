-- The frames of a link as messages, in the contracts of private functions alone.
use Rattle.std.specs.Prelude.{ℕ, List, [], ◌∷◌, map}
use Rattle.delta.specs.Cells.{Cells, applied}
use Rattle.editor_bridge.specs.declared.frames.BridgeFrame.{BridgeFrame}
use Rattle.rpc_message.specs.declared.messages.ToEditor.{ToEditor}
use Rattle.rpc_message.specs.declared.messages.ToEditor.TheVariants.{Edit}
use Rattle.text_position.specs.Changes.{edits_of}

-- the deltas of the frames
abbrev pub deltas_of : List BridgeFrame → List Cells
deltas_of frames = map (λ frame. frame.delta) frames

-- the frames as messages, each for the text that those before it leave
abbrev pub messages_of : List ℕ → List ℕ → List BridgeFrame → List ToEditor
messages_of uri text [] = []
messages_of uri text (frame ∷ frames) =
    Edit uri frame.revision (edits_of text frame.delta) ∷ messages_of uri (applied frame.delta text) frames
