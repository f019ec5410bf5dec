-- What a reader holds of a frame begun, in the words of the grammar.
use Rattle.std.proofs.Common.{◌≡◌, ℕ, ◌+◌, ◌<◌, ◌≤◌, ◌⊎◌, nat_lt, List, [], ◌∷◌, ◌++◌, length, take, Ok, Err, refl, sym, ◌∙◌, ap, ap₂, subst, inl, inr, arith, append_assoc, length-append}
use Rattle.std.proofs.Math.Seq.{take-append_seam, take-append-add}
use Rattle.std.proofs.lemmas.Bool.{cases_Bool}
use Rattle.std.proofs.lemmas.Bool.Decides.{nat_tests}
use Rattle.std.proofs.lemmas.List.{append-nil}
use Rattle.rpc_frame.specs.Header.{Field, IsHeader, lengths}
use Rattle.rpc_frame.specs.Scanning.{scan_after, scan_over, start, missing}
use Rattle.rpc_frame.specs.Stream.{IsHeaderBegun, IsBadAt, BeginsWithHeader, IsFrame, IsFrameBegun, HasFault}
use Rattle.rpc_frame.specs.Held.{held_bytes, IsReachedAt, IsShort, IsReached, IsHeld, stage_behind, stage_at, TakesByte, RefusesByte}
use Rattle.rpc_frame.specs.declared.begun.FrameBegun.{FrameBegun}
use Rattle.rpc_frame.specs.declared.begun.Stage.{Stage}
use Rattle.rpc_frame.specs.declared.begun.Stage.TheVariants.{Head, Body}
use Rattle.rpc_frame.specs.declared.begun.Stop.TheVariants.{Fault}
use Rattle.rpc_frame.specs.declared.faults.FrameFault.{FrameFault}
use Rattle.rpc_frame.specs.declared.faults.FrameFault.TheVariants.{NoLength, TwoLengths, TooLong}
use Rattle.rpc_frame.specs.declared.headers.Place.{Place}
use Rattle.rpc_frame.specs.declared.headers.Place.TheVariants.{FirstLine, NextLine, LengthName, OtherName, OtherValue, LengthBefore, LengthDigits, LengthAfter, FieldEnd, PartEnd, Whole, Bad}
use Rattle.rpc_frame.specs.declared.headers.Lengths.{Lengths}
use Rattle.rpc_frame.specs.declared.headers.Lengths.TheVariants.{NoneYet, One, Several}
use Rattle.rpc_frame.specs.declared.headers.Scan.{Scan}
use Rattle.rpc_frame.proofs.Rest.{with_all}
use Rattle.rpc_frame.proofs.Sound.{header_accepted}
use Rattle.rpc_frame.proofs.Viable.{scan_over-append, header_to, begun_from}

-- several lengths stay several
pub several_stay : (numbers : List ℕ) → with_all Several numbers ≡ Several
several_stay [] = refl
several_stay (n ∷ numbers) = several_stay numbers

-- no length was given
pub numbers-none : (numbers : List ℕ) → with_all NoneYet numbers ≡ NoneYet → numbers ≡ []
numbers-none [] e = refl
numbers-none (n ∷ []) e = cc
numbers-none (n ∷ m ∷ numbers) e = let never : Several ≡ NoneYet = sym (several_stay numbers) ∙ e in cc

-- one was
pub numbers-one : (numbers : List ℕ) (n : ℕ) → with_all NoneYet numbers ≡ One n → numbers ≡ n ∷ []
numbers-one [] n e = cc
numbers-one (m ∷ []) n e = cc
numbers-one (m ∷ k ∷ numbers) n e = let never : Several ≡ One n = sym (several_stay numbers) ∙ e in cc

-- more than one were
pub numbers-several : (numbers : List ℕ) → with_all NoneYet numbers ≡ Several → (first second : ℕ) × (others : List ℕ) × (numbers ≡ first ∷ second ∷ others)
numbers-several [] e = cc
numbers-several (n ∷ []) e = cc
numbers-several (n ∷ m ∷ numbers) e = (n, m, numbers, refl)

-- a place that is not behind the header part
pub open_or_whole : (limit : ℕ) (p : Place) → (p ≡ Whole) ⊎ ((0 < missing p) × ((l : Lengths) → stage_at limit p l ≡ Ok (Head (record { place = p; lengths = l }))))
open_or_whole limit FirstLine = inr (omega arith, λ l. refl)
open_or_whole limit NextLine = inr (omega arith, λ l. refl)
open_or_whole limit (LengthName matched) = elim (cases_Bool (nat_lt matched 14)) [ inl cut ↦ inr (rw cut (omega arith), λ l. refl) | inr whole ↦ inr (rw whole (omega arith), λ l. refl) ]
open_or_whole limit OtherName = inr (omega arith, λ l. refl)
open_or_whole limit OtherValue = inr (omega arith, λ l. refl)
open_or_whole limit LengthBefore = inr (omega arith, λ l. refl)
open_or_whole limit (LengthDigits n) = inr (omega arith, λ l. refl)
open_or_whole limit (LengthAfter n) = inr (omega arith, λ l. refl)
open_or_whole limit FieldEnd = inr (omega arith, λ l. refl)
open_or_whole limit PartEnd = inr (omega arith, λ l. refl)
open_or_whole limit Whole = inl refl
open_or_whole limit Bad = inr (omega arith, λ l. refl)

-- the stage behind a header part that gives one length within the limit
behind_reached : (limit : ℕ) (l : Lengths) (stage : Stage) (head body : List ℕ) → body ≡ [] → scan_over start head ≡ record { place = Whole; lengths = l }
    → length head ≤ 8192 → stage_behind limit l ≡ Ok stage → IsReachedAt limit stage head body
behind_reached limit NoneYet stage head body none scan short e = cc
behind_reached limit Several stage head body none scan short e = cc
behind_reached limit (One n) stage head body none scan short e = elim (cases_Bool (nat_lt limit n)) [
  | inl long ↦ let never : Err (Fault (TooLong n)) ≡ Ok stage = rw long at e in cc
  | inr within ↦
      let is : Ok (Body n) ≡ Ok stage = rw within at e in
      let same : Body n ≡ stage = cc in
      subst (λ s. IsReachedAt limit s head body) same (record { scanned = scan; room = short; within = grind (arith, nat_tests); few = omega (arith, ap length none) })
]

-- the stage behind a byte that is taken
pub stage_reached : (limit : ℕ) (scan : Scan) (stage : Stage) (head body : List ℕ) → body ≡ [] → scan ≡ scan_over start head
    → length head + missing scan.place ≤ 8192 → stage_at limit scan.place scan.lengths ≡ Ok stage → IsReachedAt limit stage head body
stage_reached limit scan stage head body none is few e = elim (open_or_whole limit scan.place) [
  | inl whole ↦
      let behind : stage_behind limit scan.lengths ≡ Ok stage = sym (ap (λ p. stage_at limit p scan.lengths) whole) ∙ e in
      let read : scan_over start head ≡ record { place = Whole; lengths = scan.lengths } = sym is ∙ ap (λ p. record { place = p; lengths = scan.lengths }) whole in
      behind_reached limit scan.lengths stage head body none read (omega (arith, few)) behind
  | inr goes_on ↦
      let stays : Ok (Head scan) ≡ Ok stage = sym (goes_on.1 scan.lengths) ∙ e in
      let same : Head scan ≡ stage = cc in
      subst (λ s. IsReachedAt limit s head body) same (record { no_body = none; scanned = is; goes_on = goes_on.0; room = few })
]

-- the scan after one more byte
pub scan_of-more : (scan : Scan) (head : List ℕ) (b : ℕ) → scan ≡ scan_over start head → scan_after scan b ≡ scan_over start (head ++ (b ∷ []))
scan_of-more scan head b is = ap (λ s. scan_after s b) is ∙ sym (scan_over-append start head (b ∷ []))

-- a byte that is taken leaves the reader in its place
pub taken_reached : (limit b : ℕ) (scan : Scan) (old new : FrameBegun) → IsReachedAt limit (Head scan) old.head.items old.body.items → TakesByte limit scan b old new → IsReached limit new
taken_reached limit b scan old new at t =
    let is : scan_after scan b ≡ scan_over start new.head.items = scan_of-more scan old.head.items b at.scanned ∙ ap (scan_over start) (sym t.head) in
    let few : length new.head.items + missing (scan_after scan b).place ≤ 8192 = omega (arith, t.short, ap length t.head, length-append old.head.items (b ∷ [])) in
    record { at = stage_reached limit (scan_after scan b) new.stage new.head.items new.body.items (t.body ∙ at.no_body) is few t.stage }

pub taken_bytes : (limit b : ℕ) (scan : Scan) (old new : FrameBegun) → IsReachedAt limit (Head scan) old.head.items old.body.items
    → TakesByte limit scan b old new → held_bytes new ≡ held_bytes old ++ (b ∷ [])
taken_bytes limit b scan old new at t =
    ap₂ (λ xs ys. xs ++ ys) t.head (t.body ∙ at.no_body)
    ∙ (append-nil (old.head.items ++ (b ∷ [])) ∙ ap (λ xs. xs ++ (b ∷ [])) (sym (append-nil old.head.items) ∙ ap (λ ys. old.head.items ++ ys) (sym at.no_body)))

-- a whole header part, and then the rest
begins : (fields : List Field) (bytes more numbers : List ℕ) → IsHeader fields bytes → numbers ≡ lengths fields → BeginsWithHeader (bytes ++ more) numbers more
begins fields bytes more numbers h e = record { fields = fields; header = bytes; is_header = h; numbers_are = e; whole = refl }

-- the fault of a whole header part's lengths
lengths_refused : (limit : ℕ) (l : Lengths) (fault : FrameFault) (fields : List Field) (bytes more : List ℕ) → IsHeader fields bytes
    → with_all NoneYet (lengths fields) ≡ l → stage_behind limit l ≡ Err (Fault fault) → HasFault limit fault (bytes ++ more)
lengths_refused limit NoneYet fault fields bytes more h e r =
    let same : NoLength ≡ fault = cc in
    subst (λ f. HasFault limit f (bytes ++ more)) same (more, begins fields bytes more [] h (sym (numbers-none (lengths fields) e)))
lengths_refused limit Several fault fields bytes more h e r =
    let same : TwoLengths ≡ fault = cc in
    let several = numbers-several (lengths fields) e in
    subst (λ f. HasFault limit f (bytes ++ more)) same
    (record { first = several.0; second = several.1; others = several.2; rest = more; begins = begins fields bytes more (several.0 ∷ several.1 ∷ several.2) h (sym several.3) })
lengths_refused limit (One n) fault fields bytes more h e r = elim (cases_Bool (nat_lt limit n)) [
  | inl long ↦
      let is : Err (Fault (TooLong n)) ≡ Err (Fault fault) = rw long at r in
      let same : TooLong n ≡ fault = cc in
      let one = begins fields bytes more (n ∷ []) h (sym (numbers-one (lengths fields) n e)) in
      subst (λ f. HasFault limit f (bytes ++ more)) same (record { rest = more; begins = one; above = grind (arith, nat_tests) })
  | inr within ↦ let never : Ok (Body n) ≡ Err (Fault fault) = rw within at r in cc
]

-- a header part that is whole has this fault
pub whole_refused : (limit : ℕ) (scan : Scan) (fault : FrameFault) (head more : List ℕ) → scan ≡ scan_over start head → length head + missing scan.place ≤ 8192
    → stage_at limit scan.place scan.lengths ≡ Err (Fault fault) → HasFault limit fault (head ++ more)
whole_refused limit scan fault head more is few e = elim (open_or_whole limit scan.place) [
  | inr goes_on ↦ let never : Ok (Head scan) ≡ Err (Fault fault) = sym (goes_on.1 scan.lengths) ∙ e in cc
  | inl whole ↦
      let behind : stage_behind limit scan.lengths ≡ Err (Fault fault) = sym (ap (λ p. stage_at limit p scan.lengths) whole) ∙ e in
      let ends : (scan_over start head).place ≡ Whole = ap (λ (s : Scan). s.place) (sym is) ∙ whole in
      let accepted = header_accepted head ends (omega (arith, few)) in
      lengths_refused limit scan.lengths fault accepted.0 head more accepted.1 (sym accepted.2 ∙ ap (λ (s : Scan). s.lengths) (sym is)) behind
]

-- no header part begins with one byte more
pub bad_byte : (head more : List ℕ) (b : ℕ) → 0 < missing (scan_over start head).place → length head + missing (scan_over start head).place ≤ 8192
    → 8192 < length head + 1 + missing (scan_over start (head ++ (b ∷ []))).place → IsBadAt (length head) (head ++ (b ∷ more))
bad_byte head more b some few bad = record {
  here = omega (arith, length-append head (b ∷ more));
  begun = subst IsHeaderBegun (sym (take-append_seam head (b ∷ more))) (begun_from head some few);
  bad = λ fields rest h.
      let front : take (length head + 1) (head ++ (b ∷ more)) ≡ head ++ (b ∷ []) = take-append-add head (b ∷ more) 1 in
      let viable = header_to fields (head ++ (b ∷ [])) rest (subst (λ xs. IsHeader fields (xs ++ rest)) front h) in
      omega (arith, viable, bad, length-append head (b ∷ []));
}

refused_at : (limit b : ℕ) (scan : Scan) (old : FrameBegun) (fault : FrameFault) (more : List ℕ) → IsReachedAt limit (Head scan) old.head.items old.body.items
    → RefusesByte limit scan b old fault → HasFault limit fault (old.head.items ++ (b ∷ more))
refused_at limit b scan old fault more at (inl bad) =
    let head = old.head.items in
    let some : 0 < missing (scan_over start head).place = subst (λ (s : Scan). 0 < missing s.place) at.scanned at.goes_on in
    let few : length head + missing (scan_over start head).place ≤ 8192 = subst (λ (s : Scan). length head + missing s.place ≤ 8192) at.scanned at.room in
    let long : 8192 < length head + 1 + missing (scan_over start (head ++ (b ∷ []))).place =
    subst (λ (s : Scan). 8192 < length head + 1 + missing s.place) (scan_of-more scan head b at.scanned) bad.0 in
    subst (λ f. HasFault limit f (head ++ (b ∷ more))) (sym bad.1) (bad_byte head more b some few long)
refused_at limit b scan old fault more at (inr whole) =
    let head = old.head.items in
    let few : length (head ++ (b ∷ [])) + missing (scan_after scan b).place ≤ 8192 = omega (arith, whole.0, length-append head (b ∷ [])) in
    subst (HasFault limit fault) (append_assoc head (b ∷ []) more) (whole_refused limit (scan_after scan b) fault (head ++ (b ∷ [])) more (scan_of-more scan head b at.scanned) few whole.1)

-- a byte that is refused has the fault in its place, whatever follows
pub refused : (limit b : ℕ) (scan : Scan) (old : FrameBegun) (fault : FrameFault) (more : List ℕ) → IsReachedAt limit (Head scan) old.head.items old.body.items
    → RefusesByte limit scan b old fault → HasFault limit fault (held_bytes old ++ (b ∷ more))
refused limit b scan old fault more at r =
    let same : old.head.items ≡ held_bytes old = sym (append-nil old.head.items) ∙ ap (λ ys. old.head.items ++ ys) (sym at.no_body) in
    subst (λ xs. HasFault limit fault (xs ++ (b ∷ more))) same (refused_at limit b scan old fault more at r)

-- the header part before a body
body_begins : (limit n : ℕ) (head body : List ℕ) → IsReachedAt limit (Body n) head body → BeginsWithHeader (head ++ body) (n ∷ []) body
body_begins limit n head body at =
    let ends : (scan_over start head).place ≡ Whole = ap (λ (s : Scan). s.place) at.scanned in
    let accepted = header_accepted head ends at.room in
    begins accepted.0 head body (n ∷ []) accepted.1 (sym (numbers-one (lengths accepted.0) n (sym accepted.2 ∙ ap (λ (s : Scan). s.lengths) at.scanned)))

-- a body that is whole ends its frame
pub body_whole : (limit n : ℕ) (head body : List ℕ) → IsReachedAt limit (Body n) head body → length body ≡ n → IsFrame limit body (head ++ body)
body_whole limit n head body at e = record {
  begins = subst (λ m. BeginsWithHeader (head ++ body) (m ∷ []) body) (sym e) (body_begins limit n head body at);
  within = omega (arith, at.within, e);
}

-- what is held is a frame begun
pub begun_at : (limit : ℕ) (stage : Stage) (head body : List ℕ) → IsReachedAt limit stage head body → IsShort stage body → IsFrameBegun limit (head ++ body)
begun_at limit (Head scan) head body at short =
    let some : 0 < missing (scan_over start head).place = subst (λ (s : Scan). 0 < missing s.place) at.scanned at.goes_on in
    let few : length head + missing (scan_over start head).place ≤ 8192 = subst (λ (s : Scan). length head + missing s.place ≤ 8192) at.scanned at.room in
    let same : head ≡ head ++ body = sym (append-nil head) ∙ ap (λ ys. head ++ ys) (sym at.no_body) in
    inl (subst IsHeaderBegun same (begun_from head some few))
begun_at limit (Body n) head body at short = inr (record { number = n; body = body; begins = body_begins limit n head body at; within = at.within; shorter = short })

pub held_begun : (limit : ℕ) (begun : FrameBegun) → IsHeld limit begun → IsFrameBegun limit (held_bytes begun)
held_begun limit begun h = begun_at limit begun.stage begun.head.items begun.body.items h.at h.short

-- at the beginning of a frame
pub nothing_begun : (limit : ℕ) → IsFrameBegun limit []
nothing_begun limit = inl (begun_from [] (omega arith) (omega arith))

pub start_reached : (limit : ℕ) → IsReachedAt limit (Head start) [] []
start_reached limit = record { no_body = refl; scanned = refl; goes_on = omega arith; room = omega arith }
