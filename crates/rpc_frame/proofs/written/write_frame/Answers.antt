-- The bytes are the header's, and then the body's.
use Rattle.std.proofs.Common.{◌<◌, ◌^◌, ℕ, List, length, sym, ◌∙◌, subst, arith}
use Rattle.std.specs.Prelude.{string_bytes}
use Rattle.rpc_frame.specs.Stream.{IsFrame}
use Rattle.rpc_frame.proofs.WrittenLemmas.{written_with, written_frame}
use Rattle.rpc_frame.proofs.written.write_frame.Goals as goal

pub returns-clause-bytes : goal.returns-clause-bytes
returns-clause-bytes c = written_with (string_bytes c.in_ok-format.field-0) c.args.body.now c.from_vec.result c.in_ok-format.ensures.ok (c.from_vec.ensures
    ∙ rw c.into_bytes-bytes.ensures.value at c.in_ok-extend_from_slice.ensures.items)

pub returns-clause-frame : goal.returns-clause-frame
returns-clause-frame c = λ limit within.
    let small : length c.args.body.now < 2 ^ 64 = omega arith in
    let bytes = written_with (string_bytes c.in_ok-format.field-0) c.args.body.now c.from_vec.result c.in_ok-format.ensures.ok (c.from_vec.ensures
    ∙ rw c.into_bytes-bytes.ensures.value at c.in_ok-extend_from_slice.ensures.items) in
    subst (λ (frame : List ℕ). IsFrame limit c.args.body.now frame) (sym bytes) (written_frame limit c.args.body.now within small)
