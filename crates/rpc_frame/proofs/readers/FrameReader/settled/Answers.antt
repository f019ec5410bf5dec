-- What it keeps is a frame begun.
use Rattle.std.proofs.Common.{◌≡◌, ℕ, List, subst}
use Rattle.rpc_frame.specs.ReaderView.{ReaderView}
use Rattle.rpc_frame.specs.Stream.{Begun, IsFrameBegun}
use Rattle.rpc_frame.proofs.ReaderLemmas.{kept_begun}
use Rattle.rpc_frame.proofs.readers.FrameReader.settled.Goals as goal

pub returns-clause-begun : goal.returns-clause-begun
returns-clause-begun c =
    let inside = c.self.inside in
    let Holds : ReaderView → Type 0 = λ v. (bytes : List ℕ) → v.kept ≡ Begun bytes → IsFrameBegun v.limit bytes in
    subst Holds c.self.view_is (λ bytes is. kept_begun inside.standing inside.begun inside.limit inside.done.items bytes c.self.invariant.order is)
