-- Every stream has a reading.
use Rattle.std.proofs.Common.{◌≡◌, ℕ, ◌+◌, ◌<◌, ◌≤◌, ◌⊎◌, nat_lt, List, [], ◌∷◌, ◌++◌, length, Ok, Err, refl, sym, ◌∙◌, ap, subst, inl, inr, arith, append_assoc, length-append}
use Rattle.std.proofs.lemmas.Bool.{cases_lt, cases_Bool}
use Rattle.std.proofs.lemmas.List.{append-nil}
use Rattle.rpc_frame.specs.Scanning.{scan_after, scan_over, start, missing}
use Rattle.rpc_frame.specs.Stream.{HasFault, Begun, Broken, Reads, IsRead}
use Rattle.rpc_frame.specs.Held.{IsReachedAt, IsShort, stage_behind, stage_at}
use Rattle.rpc_frame.specs.declared.begun.Stage.{Stage}
use Rattle.rpc_frame.specs.declared.begun.Stage.TheVariants.{Head, Body}
use Rattle.rpc_frame.specs.declared.begun.Stop.TheVariants.{Fault}
use Rattle.rpc_frame.specs.declared.faults.FrameFault.{FrameFault}
use Rattle.rpc_frame.specs.declared.faults.FrameFault.TheVariants.{BadHeader, NoLength, TwoLengths, TooLong}
use Rattle.rpc_frame.specs.declared.headers.Place.{Place}
use Rattle.rpc_frame.specs.declared.headers.Lengths.{Lengths}
use Rattle.rpc_frame.specs.declared.headers.Lengths.TheVariants.{NoneYet, One, Several}
use Rattle.rpc_frame.specs.declared.headers.Scan.{Scan}
use Rattle.rpc_frame.proofs.HeldLemmas.{open_or_whole, start_reached, stage_reached, scan_of-more, whole_refused, bad_byte, begun_at, body_whole}
use Rattle.rpc_frame.proofs.Readings.{reads_none, reads_behind}

-- a fault at once
read_fault : (limit : ℕ) (stream : List ℕ) (fault : FrameFault) → HasFault limit fault stream → IsRead limit stream
read_fault limit stream fault h = record {
  bodies = [];
  end = Broken fault;
  reads = record { frames = []; rest = stream; each = tt; whole = refl; ends = h };
}

-- a whole header part leads to a body, or has a fault
behind_or_fault : (limit : ℕ) (l : Lengths) → ((stage : Stage) × (stage_behind limit l ≡ Ok stage)) ⊎ ((fault : FrameFault) × (stage_behind limit l ≡ Err (Fault fault)))
behind_or_fault limit NoneYet = inr (NoLength, refl)
behind_or_fault limit (One n) = elim (cases_Bool (nat_lt limit n)) [
  | inl long ↦ inr (TooLong n, rw long refl)
  | inr within ↦ inl (Body n, rw within refl)
]
behind_or_fault limit Several = inr (TwoLengths, refl)

-- a byte leads to a stage, or to a fault
stage_or_fault : (limit : ℕ) (p : Place) (l : Lengths) → ((stage : Stage) × (stage_at limit p l ≡ Ok stage)) ⊎ ((fault : FrameFault) × (stage_at limit p l ≡ Err (Fault fault)))
stage_or_fault limit p l = elim (open_or_whole limit p) [
  | inr goes_on ↦ inl (Head (record { place = p; lengths = l }), goes_on.1 l)
  | inl whole ↦ subst (λ (q : Place). ((stage : Stage) × (stage_at limit q l ≡ Ok stage)) ⊎ ((fault : FrameFault) × (stage_at limit q l ≡ Err (Fault fault)))) (sym whole) (behind_or_fault limit l)
]

-- a body is short, or whole
short_or_whole : (stage : Stage) (body : List ℕ) → IsShort stage body ⊎ ((n : ℕ) × (stage ≡ Body n) × (n ≤ length body))
short_or_whole (Head scan) body = inl tt
short_or_whole (Body n) body = elim (cases_lt (length body) n) [ inl short ↦ inl short | inr whole ↦ inr (n, refl, whole) ]

-- what reads on behind a place in a frame begun
abbrev ReadsFrom : ℕ → List ℕ → Type 0
ReadsFrom limit bytes = (stage : Stage) (head body : List ℕ) → IsReachedAt limit stage head body → IsShort stage body → IsRead limit ((head ++ body) ++ bytes)

-- a frame that ends is one body more
go_on : (limit : ℕ) (bytes : List ℕ) (stage : Stage) (head body : List ℕ) → IsReachedAt limit stage head body → ReadsFrom limit bytes → IsRead limit ((head ++ body) ++ bytes)
go_on limit bytes stage head body at next = elim (short_or_whole stage body) [
  | inl short ↦ next stage head body at short
  | inr (n, is, enough) ↦
      let reached = subst (λ (s : Stage). IsReachedAt limit s head body) is at in
      let frame = body_whole limit n head body reached (omega (arith, enough, reached.few)) in
      let later = next (Head start) [] [] (start_reached limit) tt in
      record { bodies = body ∷ later.bodies; end = later.end; reads = reads_behind limit body (head ++ body) bytes later.bodies later.end frame later.reads }
]

-- a byte of a header part is one more
head_moved : (head body bytes : List ℕ) (b : ℕ) → body ≡ [] → ((head ++ (b ∷ [])) ++ body) ++ bytes ≡ (head ++ body) ++ (b ∷ bytes)
head_moved head body bytes b none =
    ap (λ xs. ((head ++ (b ∷ [])) ++ xs) ++ bytes) none
    ∙ (ap (λ xs. xs ++ bytes) (append-nil (head ++ (b ∷ []))) ∙ (append_assoc head (b ∷ []) bytes ∙ ap (λ xs. xs ++ (b ∷ bytes)) (sym (append-nil head) ∙ ap (λ xs. head ++ xs) (sym none))))

-- a byte of a header part
read_head : (limit b : ℕ) (bytes : List ℕ) (scan : Scan) (head body : List ℕ) → IsReachedAt limit (Head scan) head body → ReadsFrom limit bytes → IsRead limit ((head ++ body) ++ (b ∷ bytes))
read_head limit b bytes scan head body at next =
    let is = scan_of-more scan head b at.scanned in
    let some : 0 < missing (scan_over start head).place = subst (λ (s : Scan). 0 < missing s.place) at.scanned at.goes_on in
    let few : length head + missing (scan_over start head).place ≤ 8192 = subst (λ (s : Scan). length head + missing s.place ≤ 8192) at.scanned at.room in
    let stream : head ++ (b ∷ bytes) ≡ (head ++ body) ++ (b ∷ bytes) = ap (λ xs. xs ++ (b ∷ bytes)) (sym (append-nil head) ∙ ap (λ xs. head ++ xs) (sym at.no_body)) in
    elim (cases_lt 8192 (length head + 1 + missing (scan_after scan b).place)) [
      | inl bad ↦
          let long : 8192 < length head + 1 + missing (scan_over start (head ++ (b ∷ []))).place = subst (λ (s : Scan). 8192 < length head + 1 + missing s.place) is bad in
          subst (IsRead limit) stream (read_fault limit (head ++ (b ∷ bytes)) (BadHeader (length head)) (bad_byte head bytes b some few long))
      | inr room ↦
          let enough : length (head ++ (b ∷ [])) + missing (scan_after scan b).place ≤ 8192 = omega (arith, room, length-append head (b ∷ [])) in
          elim (stage_or_fault limit (scan_after scan b).place (scan_after scan b).lengths) [
            | inl (stage, leads) ↦
                let reached = stage_reached limit (scan_after scan b) stage (head ++ (b ∷ [])) body at.no_body is enough leads in
                subst (IsRead limit) (head_moved head body bytes b at.no_body) (go_on limit bytes stage (head ++ (b ∷ [])) body reached next)
            | inr (fault, leads) ↦
                let met = whole_refused limit (scan_after scan b) fault (head ++ (b ∷ [])) bytes is enough leads in
                subst (IsRead limit) (append_assoc head (b ∷ []) bytes ∙ stream) (read_fault limit ((head ++ (b ∷ [])) ++ bytes) fault met)
          ]
    ]

-- a byte of a body
read_body : (limit b : ℕ) (bytes : List ℕ) (n : ℕ) (head body : List ℕ) → IsReachedAt limit (Body n) head body → length body < n → ReadsFrom limit bytes → IsRead limit ((head ++ body) ++ (b ∷ bytes))
read_body limit b bytes n head body at short next =
    let reached : IsReachedAt limit (Body n) head (body ++ (b ∷ [])) =
    record { scanned = at.scanned; room = at.room; within = at.within; few = omega (arith, short, length-append body (b ∷ [])) } in
    let moved : (head ++ (body ++ (b ∷ []))) ++ bytes ≡ (head ++ body) ++ (b ∷ bytes) = simp append_assoc in
    subst (IsRead limit) moved (go_on limit bytes (Body n) head (body ++ (b ∷ [])) reached next)

-- from a place in a frame begun on
read_from : (limit : ℕ) (bytes : List ℕ) → ReadsFrom limit bytes
read_from limit [] stage head body at short = record {
  bodies = [];
  end = Begun (head ++ body);
  reads = subst (λ (xs : List ℕ). Reads limit xs [] (Begun (head ++ body))) (sym (append-nil (head ++ body))) (reads_none limit (head ++ body) (begun_at limit stage head body at short));
}
read_from limit (b ∷ bytes) (Head scan) head body at short = read_head limit b bytes scan head body at (read_from limit bytes)
read_from limit (b ∷ bytes) (Body n) head body at short = read_body limit b bytes n head body at short (read_from limit bytes)

-- every stream has a reading
pub every_stream : (limit : ℕ) (stream : List ℕ) → IsRead limit stream
every_stream limit stream = read_from limit stream (Head start) [] [] (start_reached limit) tt
