-- One piece more, or its fault.
use Rattle.std.proofs.Common.{◌≡◌, ◌+◌, ℕ, List, [], ◌++◌, get_or, Option, Result, Err, refl, sym, ◌∙◌, ap, subst}
use Rattle.std.specs.List.{concat}
use Rattle.std.proofs.lemmas.Result.{IfOk-weaker}
use Rattle.rpc_frame.specs.Stream.{StreamEnd, Broken, Reads}
use Rattle.rpc_frame.specs.ReaderView.{IsUnbroken}
use Rattle.rpc_frame.specs.Pieces.{EndsWith}
use Rattle.rpc_frame.specs.declared.faults.FrameEnd.{FrameEnd}
use Rattle.rpc_frame.specs.declared.faults.FrameFault.{FrameFault}
use Rattle.rpc_frame.proofs.HeldLemmas.{nothing_begun}
use Rattle.rpc_frame.proofs.Readings.{reads_none, piece_read, fault_of_all}
use Rattle.rpc_frame.proofs.pieces.read_each.Goals as goal

pub loop-piece-init : goal.loop-piece-init
loop-piece-init c =
    let reader = c.in_ok-reader.ensures in
    let limit = c.args.limit in
    let none = reads_none limit [] (nothing_begun limit) in
    let kept = subst (λ (end : StreamEnd). Reads limit [] [] end) (sym reader.kept) none in
    record {
      live = reader.live;
      limit = reader.limit;
      unbroken = subst IsUnbroken (sym reader.kept) tt;
      read = subst (λ (bodies : List (List ℕ)). Reads limit [] bodies c.in_ok-reader.reader.kept) (sym c.new-bodies.ensures.items) kept;
    }

-- the item at an index, under another name
item_at : (items : List (List ℕ)) (i : ℕ) (item piece : List ℕ) → item ≡ get_or items i item → piece ≡ item → piece ≡ get_or items i piece
item_at items i item piece is same = subst (λ x. x ≡ get_or items i x) (sym same) is

pub loop-piece-preserved : goal.loop-piece-preserved
loop-piece-preserved c =
    let inv = c.loop-piece.invariant in
    let pieces = c.args.pieces.now in
    let index = c.loop-piece.piece-index in
    let piece = c.as_slice.result.now in
    let is = item_at pieces index c.piece-item.result piece c.piece-item.is c.as_slice.ensures in
    let joined = c.in_ok-append-in-Ok.ensures.items ∙ ap (λ (more : List (List ℕ)). c.loop-piece.bodies.items ++ more) c.into_vec.ensures in
    record {
      live = c.in-Ok.ensures.live;
      limit = c.in-Ok.ensures.limit ∙ inv.limit;
      unbroken = c.in-Ok.ensures.unbroken;
      read = piece_read c.args.limit c.loop-piece.reader.limit pieces index piece c.loop-piece.bodies.items c.in-Ok.more c.append.new.self.items c.loop-piece.reader.kept
          c.feed.new.self.kept c.loop-piece-test.true is inv.limit joined inv.read c.in-Ok.ensures.read;
    }

-- the call ended by
abbrev ended_by : FrameEnd → Result (List (List ℕ)) FrameEnd
ended_by end = Err end

pub returns-in-Err : goal.returns-in-Err
returns-in-Err c =
    let inv = c.loop-piece.invariant in
    let pieces = c.args.pieces.now in
    let index = c.loop-piece.piece-index in
    let piece = c.as_slice.result.now in
    let is = item_at pieces index c.piece-item.result piece c.piece-item.is c.as_slice.ensures in
    let joined = c.in_ok-append-in-Err.ensures.items ∙ ap (λ (more : List (List ℕ)). c.loop-piece.bodies.items ++ more) (c.into_vec-in-Err.ensures ∙ c.take_done.ensures.bodies) in
    IfOk-weaker c.ended.result _ _ (λ read h.
    let met = c.in-Err.ensures.fault h.0.met (ap ended_by h.0.answered) in
    let front =
    piece_read c.args.limit c.loop-piece.reader.limit pieces index piece c.loop-piece.bodies.items c.feed.new.self.done c.append-in-Err.new.self.items
    c.loop-piece.reader.kept (Broken h.0.met) c.loop-piece-test.true is inv.limit joined inv.read met in
    let whole = fault_of_all c.args.limit pieces (index + 1) c.append-in-Err.new.self.items h.0.met front in record {
      end = Broken h.0.met;
      reads = subst (λ (bodies : List (List ℕ)). Reads c.args.limit (concat pieces) bodies (Broken h.0.met)) (sym h.1) whole;
      ends = subst (λ (fault : Option FrameFault). EndsWith fault (Broken h.0.met)) (sym h.0.told) refl;
    }) c.ended.ensures.fault
