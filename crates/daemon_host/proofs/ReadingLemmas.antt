-- What a reader of frames gives for a piece is what every reader of streams gives.
use Rattle.std.proofs.Common.{◌≡◌, ◌⊎◌, inl, inr, ℕ, List, [], ◌++◌, Option, Some, None, refl, sym, ap, ◌∙◌, subst}
use Rattle.rpc_frame.specs.Faults.{answer_of}
use Rattle.rpc_frame.specs.Pieces.{EndsWith}
use Rattle.rpc_frame.specs.ReaderView.{ReaderView, ReadsOn, IsUnbroken}
use Rattle.rpc_frame.specs.Stream.{StreamEnd, Begun, Broken}
use Rattle.rpc_frame.specs.declared.faults.FrameEnd.{FrameEnd}
use Rattle.rpc_frame.specs.declared.faults.FrameEnd.TheVariants.{Closed}
use Rattle.rpc_frame.specs.declared.faults.FrameFault.{FrameFault}
use Rattle.rpc_frame.proofs.OneReading.{one_reading}
use Rattle.plain_world.specs.RawFrames.{Reader, Reading, read_behind}
use Rattle.plain_world.specs.declared.TheConstants.{LONGEST_BODY}
use Rattle.daemon_host.specs.Streams.{IsAtRest, IsReadAs}

-- there is one reading behind what was kept
reads_behind : (reader : Reader) (kept : StreamEnd) (piece : List ℕ) (bodies : List (List ℕ)) (end : StreamEnd) → ReadsOn LONGEST_BODY kept piece bodies end
    → read_behind reader kept piece ≡ record { bodies = bodies; kept = end }
reads_behind reader (Begun kept) piece bodies end reads =
    let stream : List ℕ = kept ++ piece in
    let same =
    one_reading LONGEST_BODY stream (reader.read stream).bodies bodies (reader.read stream).kept end (reader.right stream) reads in
    λ i. record { bodies = same.0 i; kept = same.1 i }
reads_behind reader (Broken fault) piece bodies end reads = absurd reads

-- a stream, behind a piece of which these bodies and this fault are told
pub record GivesSo (reading : Reading) (after : StreamEnd) (bodies : List (List ℕ)) (fault : Option FrameFault) : Type 0 where
  pub kept : after ≡ reading.kept
  pub read : IsReadAs reading (record { bodies = bodies; fault = fault })

gives_so : (reading : Reading) (after : StreamEnd) (bodies : List (List ℕ)) (fault : Option FrameFault) → reading ≡ record { bodies = bodies; kept = after }
    → EndsWith fault after → GivesSo reading after bodies fault
gives_so reading after bodies fault is ends =
    subst (λ (r : Reading). GivesSo r after bodies fault) (sym is) (record { kept = refl; read = record { bodies = refl; ends = ends } })

no_fault : (end : StreamEnd) → IsUnbroken end → EndsWith None end
no_fault (Begun bytes) unbroken = tt
no_fault (Broken fault) unbroken = absurd unbroken

-- a piece without a fault
pub goes_on : (reader : Reader) (before after : ReaderView) (stream : StreamEnd) (piece : List ℕ) (bodies : List (List ℕ)) → IsAtRest before
    → before.kept ≡ stream → ReadsOn before.limit before.kept piece bodies after.kept → IsUnbroken after.kept
    → GivesSo (read_behind reader stream piece) after.kept bodies None
goes_on reader before after stream piece bodies rest same reads unbroken =
    let here : ReadsOn LONGEST_BODY before.kept piece bodies after.kept =
    subst (λ limit. ReadsOn limit before.kept piece bodies after.kept) rest.limit reads in
    subst (λ s. GivesSo (read_behind reader s piece) after.kept bodies None) same
    (gives_so _ after.kept bodies None (reads_behind reader before.kept piece bodies after.kept here) (no_fault after.kept unbroken))

-- a piece in which the first fault comes, or which comes behind it
pub breaks_off : (reader : Reader) (before after : ReaderView) (stream : StreamEnd) (piece : List ℕ) (end : FrameEnd) (fault : FrameFault) → IsAtRest before
    → before.kept ≡ stream
    → (end ≡ answer_of fault → ReadsOn before.limit before.kept piece after.done (Broken fault))
    → (end ≡ answer_of fault → after.kept ≡ Broken fault)
    → (end ≡ Closed fault → before.kept ≡ Broken fault)
    → (before.kept ≡ Broken fault → after ≡ before)
    → (end ≡ answer_of fault) ⊎ (end ≡ Closed fault)
    → GivesSo (read_behind reader stream piece) after.kept after.done (Some fault)
breaks_off reader before after stream piece end fault rest same reads kept closed still met = elim met [
  | inl now ↦
      let here : ReadsOn LONGEST_BODY before.kept piece after.done (Broken fault) =
      subst (λ limit. ReadsOn limit before.kept piece after.done (Broken fault)) rest.limit (reads now) in
      subst (λ s. GivesSo (read_behind reader s piece) after.kept after.done (Some fault)) same
      (subst (λ s. GivesSo (read_behind reader before.kept piece) s after.done (Some fault)) (sym (kept now))
      (gives_so _ (Broken fault) after.done (Some fault) (reads_behind reader before.kept piece after.done (Broken fault) here) refl))
  | inr earlier ↦
      let was : before.kept ≡ Broken fault = closed earlier in
      let left : after ≡ before = still was in
      let none : after.done ≡ [] = ap (λ (r : ReaderView). r.done) left ∙ rest.none_wait in
      let is : after.kept ≡ Broken fault = ap (λ (r : ReaderView). r.kept) left ∙ was in
      subst (λ s. GivesSo (read_behind reader s piece) after.kept after.done (Some fault)) (sym was ∙ same)
      (subst (λ s. GivesSo (read_behind reader (Broken fault) piece) s after.done (Some fault)) (sym is)
      (subst (λ bodies. GivesSo (read_behind reader (Broken fault) piece) (Broken fault) bodies (Some fault)) (sym none)
      (record { kept = refl; read = record { bodies = refl; ends = refl } })))
]
