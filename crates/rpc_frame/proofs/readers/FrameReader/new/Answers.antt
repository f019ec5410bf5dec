-- Nothing is held, and no body waits.
use Rattle.rpc_frame.proofs.readers.FrameReader.new.Goals as goal

pub invariant_of-result : goal.invariant_of-result
invariant_of-result c = record { order = (c.new.ensures.held c.args.limit, c.new-2.ensures.items) }
