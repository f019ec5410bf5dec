-- How a reading of a stream goes on with more bytes.
use Rattle.std.proofs.Common.{◌≡◌, ℕ, ◌+◌, ◌<◌, length, get_or, take, drop, List, [], ◌∷◌, ◌++◌, refl, sym, ◌∙◌, ap, subst, append_assoc, arith, length-append}
use Rattle.std.specs.List.{AllZip, concat}
use Rattle.std.proofs.lemmas.List.{append-nil, take-append-le, take-append-drop, take_more}
use Rattle.std.proofs.lemmas.List.Elements.{AllZip-push}
use Rattle.std.proofs.lemmas.List.Folds.{concat-append}
use Rattle.rpc_frame.specs.Stream.{IsHeaderBegun, BeginsWithHeader, IsFrame, IsFrameBegun, HasFault, StreamEnd, Begun, Broken, Reads}
use Rattle.rpc_frame.specs.Header.{IsHeader}
use Rattle.rpc_frame.specs.ReaderView.{ReadsOn}
use Rattle.rpc_frame.specs.declared.faults.FrameFault.{FrameFault}
use Rattle.rpc_frame.specs.declared.faults.FrameFault.TheVariants.{BadHeader, NoLength, TwoLengths, TooLong}

-- no frame yet
pub reads_none : (limit : ℕ) (kept : List ℕ) → IsFrameBegun limit kept → Reads limit kept [] (Begun kept)
reads_none limit kept begun = record { frames = []; rest = kept; each = tt; whole = refl; ends = (refl, begun) }

-- the stream goes on behind what is kept
goes_on : (frames : List (List ℕ)) (stream rest kept more : List ℕ) → stream ≡ concat frames ++ rest → rest ≡ kept → stream ++ more ≡ concat frames ++ (kept ++ more)
goes_on frames stream rest kept more whole e =
    ap (λ xs. xs ++ more) (whole ∙ ap (λ xs. concat frames ++ xs) e) ∙ append_assoc (concat frames) kept more

-- a frame begun goes on
pub reads_begun : (limit : ℕ) (stream kept more : List ℕ) (bodies : List (List ℕ)) → Reads limit stream bodies (Begun kept) → IsFrameBegun limit (kept ++ more)
    → Reads limit (stream ++ more) bodies (Begun (kept ++ more))
reads_begun limit stream kept more bodies r begun = record {
  frames = r.frames;
  rest = kept ++ more;
  each = r.each;
  whole = goes_on r.frames stream r.rest kept more r.whole r.ends.0;
  ends = (refl, begun);
}

-- a frame begun meets a fault
pub reads_fault : (limit : ℕ) (stream kept more : List ℕ) (bodies : List (List ℕ)) (fault : FrameFault) → Reads limit stream bodies (Begun kept)
    → HasFault limit fault (kept ++ more) → Reads limit (stream ++ more) bodies (Broken fault)
reads_fault limit stream kept more bodies fault r broken = record {
  frames = r.frames;
  rest = kept ++ more;
  each = r.each;
  whole = goes_on r.frames stream r.rest kept more r.whole r.ends.0;
  ends = broken;
}

-- a frame begun ends
pub reads_frame : (limit : ℕ) (stream kept more body : List ℕ) (bodies : List (List ℕ)) → Reads limit stream bodies (Begun kept)
    → IsFrame limit body (kept ++ more) → IsFrameBegun limit [] → Reads limit (stream ++ more) (bodies ++ (body ∷ [])) (Begun [])
reads_frame limit stream kept more body bodies r frame begun = record {
  frames = r.frames ++ ((kept ++ more) ∷ []);
  rest = [];
  each = AllZip-push (IsFrame limit) bodies r.frames body (kept ++ more) r.each frame;
  whole = goes_on r.frames stream r.rest kept more r.whole r.ends.0
      ∙ sym (append-nil (concat (r.frames ++ ((kept ++ more) ∷ []))) ∙ (concat-append r.frames ((kept ++ more) ∷ []) ∙ ap (λ xs. concat r.frames ++ xs) (append-nil (kept ++ more))));
  ends = (refl, begun);
}

-- frames behind frames
frames-append : (limit : ℕ) (bodies frames others lasts : List (List ℕ)) → AllZip (IsFrame limit) bodies frames → AllZip (IsFrame limit) others lasts
    → AllZip (IsFrame limit) (bodies ++ others) (frames ++ lasts)
frames-append limit [] [] others lasts h k = k
frames-append limit (b ∷ bodies) (f ∷ frames) others lasts h k = (h.0, frames-append limit bodies frames others lasts h.1 k)
frames-append limit [] (f ∷ frames) others lasts h k = absurd h
frames-append limit (b ∷ bodies) [] others lasts h k = absurd h

-- a reading, and then that of what comes behind what it kept
pub reads_then : (limit : ℕ) (front rest : List ℕ) (first second : List (List ℕ)) (kept end : StreamEnd) → Reads limit front first kept
    → ReadsOn limit kept rest second end → Reads limit (front ++ rest) (first ++ second) end
reads_then limit front rest first second (Broken fault) end r q = absurd q
reads_then limit front rest first second (Begun kept) end r q = record {
  frames = r.frames ++ q.frames;
  rest = q.rest;
  each = frames-append limit first r.frames second q.frames r.each q.each;
  whole = goes_on r.frames front r.rest kept rest r.whole r.ends.0
      ∙ (ap (λ xs. concat r.frames ++ xs) q.whole ∙ (sym (append_assoc (concat r.frames) (concat q.frames) q.rest) ∙ ap (λ xs. xs ++ q.rest) (sym (concat-append r.frames q.frames))));
  ends = q.ends;
}

-- a header part that is whole stays so
begins_more : (bytes numbers rest more : List ℕ) → BeginsWithHeader bytes numbers rest → BeginsWithHeader (bytes ++ more) numbers (rest ++ more)
begins_more bytes numbers rest more h = record {
  fields = h.fields;
  header = h.header;
  is_header = h.is_header;
  numbers_are = h.numbers_are;
  whole = ap (λ xs. xs ++ more) h.whole ∙ append_assoc h.header rest more;
}

-- a fault stays, whatever follows
fault_stays : (limit : ℕ) (fault : FrameFault) (bytes more : List ℕ) → HasFault limit fault bytes → HasFault limit fault (bytes ++ more)
fault_stays limit (BadHeader place) bytes more h = record {
  here = omega (arith, h.here, length-append bytes more);
  begun = subst IsHeaderBegun (sym (take-append-le place bytes more (omega (arith, h.here)))) h.begun;
  bad = λ fields rest k. h.bad fields rest (subst (λ xs. IsHeader fields (xs ++ rest)) (take-append-le (place + 1) bytes more (omega (arith, h.here))) k);
}
fault_stays limit NoLength bytes more h = (h.0 ++ more, begins_more bytes [] h.0 more h.1)
fault_stays limit TwoLengths bytes more h = record {
  first = h.first;
  second = h.second;
  others = h.others;
  rest = h.rest ++ more;
  begins = begins_more bytes (h.first ∷ h.second ∷ h.others) h.rest more h.begins;
}
fault_stays limit (TooLong number) bytes more h = record { rest = h.rest ++ more; begins = begins_more bytes (number ∷ []) h.rest more h.begins; above = h.above }

-- nothing behind a fault is read
pub reads_closed : (limit : ℕ) (front rest : List ℕ) (bodies : List (List ℕ)) (fault : FrameFault) → Reads limit front bodies (Broken fault) → Reads limit (front ++ rest) bodies (Broken fault)
reads_closed limit front rest bodies fault r = record {
  frames = r.frames;
  rest = r.rest ++ rest;
  each = r.each;
  whole = ap (λ xs. xs ++ rest) r.whole ∙ append_assoc (concat r.frames) r.rest rest;
  ends = fault_stays limit fault r.rest rest r.ends;
}

-- a frame in front
pub reads_behind : (limit : ℕ) (body frame stream : List ℕ) (bodies : List (List ℕ)) (end : StreamEnd) → IsFrame limit body frame
    → Reads limit stream bodies end → Reads limit (frame ++ stream) (body ∷ bodies) end
reads_behind limit body frame stream bodies end f r = record {
  frames = frame ∷ r.frames;
  rest = r.rest;
  each = (f, r.each);
  whole = ap (λ xs. frame ++ xs) r.whole ∙ sym (append_assoc frame (concat r.frames) r.rest);
  ends = r.ends;
}

-- the pieces so far, with one more
concat-more : (pieces : List (List ℕ)) (i : ℕ) (piece : List ℕ) → i < length pieces → piece ≡ get_or pieces i piece → concat (take (i + 1) pieces) ≡ concat (take i pieces) ++ piece
concat-more pieces i piece below is =
    ap concat (take_more pieces i piece below) ∙ (concat-append (take i pieces) (get_or pieces i piece ∷ []) ∙ ap (λ xs. concat (take i pieces) ++ xs) (append-nil (get_or pieces i piece) ∙ sym is))

-- the reading of the pieces goes on by that of one more
pub piece_read : (limit own : ℕ) (pieces : List (List ℕ)) (i : ℕ) (piece : List ℕ) (bodies more all : List (List ℕ)) (kept end : StreamEnd) → i < length pieces
    → piece ≡ get_or pieces i piece → own ≡ limit → all ≡ bodies ++ more → Reads limit (concat (take i pieces)) bodies kept → ReadsOn own kept piece more end
    → Reads limit (concat (take (i + 1) pieces)) all end
piece_read limit own pieces i piece bodies more all kept end below is same joined r q =
    let on = subst (λ (l : ℕ). ReadsOn l kept piece more end) same q in
    let read = reads_then limit (concat (take i pieces)) piece bodies more kept end r on in
    let stream = subst (λ (xs : List ℕ). Reads limit xs (bodies ++ more) end) (sym (concat-more pieces i piece below is)) read in
    subst (λ (bs : List (List ℕ)). Reads limit (concat (take (i + 1) pieces)) bs end) (sym joined) stream

-- a fault in the pieces so far is that of all
pub fault_of_all : (limit : ℕ) (pieces : List (List ℕ)) (i : ℕ) (bodies : List (List ℕ)) (fault : FrameFault)
    → Reads limit (concat (take i pieces)) bodies (Broken fault) → Reads limit (concat pieces) bodies (Broken fault)
fault_of_all limit pieces i bodies fault r =
    let parts : concat (take i pieces) ++ concat (drop i pieces) ≡ concat pieces = sym (concat-append (take i pieces) (drop i pieces)) ∙ ap concat (take-append-drop i pieces) in
    subst (λ (xs : List ℕ). Reads limit xs bodies (Broken fault)) parts (reads_closed limit (concat (take i pieces)) (concat (drop i pieces)) bodies fault r)
