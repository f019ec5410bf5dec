-- What a live reader's fields say of its stream.
use Rattle.std.proofs.Common.{◌≡◌, ℕ, true, List, [], ◌++◌, subst}
use Rattle.rpc_frame.specs.Stream.{Begun, Broken, IsFrameBegun, Reads}
use Rattle.rpc_frame.specs.ReaderView.{ReadsOn}
use Rattle.rpc_frame.specs.Reader.{kept_of, is_live, InOrder}
use Rattle.rpc_frame.specs.Held.{held_bytes}
use Rattle.rpc_frame.specs.declared.begun.FrameBegun.{FrameBegun}
use Rattle.rpc_frame.specs.declared.faults.FrameFault.{FrameFault}
use Rattle.rpc_frame.specs.declared.readers.Standing.{Standing}
use Rattle.rpc_frame.specs.declared.readers.Standing.TheVariants as standing
use Rattle.rpc_frame.proofs.HeldLemmas.{held_begun, nothing_begun}
use Rattle.rpc_frame.proofs.OneReading.{one_reading}

-- what a live reader can read on is behind what it holds
pub reads_held : (s : Standing) (begun : FrameBegun) (limit : ℕ) (piece : List ℕ) (bodies : List (List ℕ)) (fault : FrameFault) → is_live s ≡ true
    → ReadsOn limit (kept_of s begun) piece bodies (Broken fault) → Reads limit (held_bytes begun ++ piece) bodies (Broken fault)
reads_held standing.Reading begun limit piece bodies fault live r = r
reads_held (standing.Broken other) begun limit piece bodies fault live r = absurd r
reads_held standing.Spent begun limit piece bodies fault live r = cc

-- a stream that ends with a frame begun has no fault
pub begun_or_broken : (limit : ℕ) (stream : List ℕ) (bodies others : List (List ℕ)) (bytes : List ℕ) (fault : FrameFault)
    → Reads limit stream bodies (Begun bytes) → Reads limit stream others (Broken fault) → ⊥
begun_or_broken limit stream bodies others bytes fault r q =
    let never = (one_reading limit stream bodies others (Begun bytes) (Broken fault) r q).1 in
    cc

-- and no two
pub one_fault : (limit : ℕ) (stream : List ℕ) (bodies others : List (List ℕ)) (fault other : FrameFault) → Reads limit stream bodies (Broken fault)
    → Reads limit stream others (Broken other) → fault ≡ other
one_fault limit stream bodies others fault other r q =
    let same = (one_reading limit stream bodies others (Broken fault) (Broken other) r q).1 in
    cc

-- what a reader in order keeps is a frame begun
pub kept_begun : (s : Standing) (begun : FrameBegun) (limit : ℕ) (done : List (List ℕ)) (bytes : List ℕ) → InOrder limit s begun done → kept_of s begun ≡ Begun bytes → IsFrameBegun limit bytes
kept_begun standing.Reading begun limit done bytes order is =
    let same : held_bytes begun ≡ bytes = cc in
    subst (IsFrameBegun limit) same (held_begun limit begun order.0)
kept_begun (standing.Broken fault) begun limit done bytes order is = cc
kept_begun standing.Spent begun limit done bytes order is =
    let same : [] ≡ bytes = cc in
    subst (IsFrameBegun limit) same (nothing_begun limit)
