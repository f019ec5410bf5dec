-- What the two writes of an append leave, whole or cut short by a crash.
use Rattle.std.proofs.Common.{◌≡◌, ◌≢◌, inl, inr, ℕ, ◌+◌, ◌<◌, ◌≤◌, List, [], ◌∷◌, ◌++◌, length, replicate, take, drop, get_or, IsTrue, refl, sym, ap, subst, ◌∙◌, append_assoc, arith, length-append, take-append-drop}
use Rattle.std.proofs.lemmas.List.{take_at, drop_at, drop_more}
use Rattle.std.proofs.lemmas.Bool.{cases_eq}
use Rattle.outside.specs.Images.{Write, overwritten, end_of}
use Rattle.outside.specs.Images as disk
use Rattle.outside.proofs.ImageLemmas.{image_before, image_behind, image_length}
use Rattle.journal_format.specs.declared.records.Record.{Record}
use Rattle.journal_format.specs.Image.{mark, group_field, open_group, open_groups, actor_is_first, StandsFor, IsPlaced}
use Rattle.journal_format.specs.Progress.{IsReadTo}
use Rattle.journal_format.proofs.ImageLaws.{reads_on, ends_closed}
use Rattle.change_journal.specs.Journal.{IsBeforeOrAfter, appended}

pub placed_stands : (bytes : List ℕ) (recorded : List Record) (gates : List ℕ) (end : ℕ) → IsPlaced bytes recorded gates end → StandsFor bytes recorded
placed_stands bytes recorded gates end placed = (placed.groups, placed.image, placed.records_are)

module _ (content : List ℕ) (recorded : List Record) (gates : List ℕ) (gate : ℕ) (placed : IsPlaced content recorded gates gate) where
  pub front : List ℕ
  front = mark ++ open_groups placed.groups

  pub gate_at : length front ≡ gate
  unfolding front
  gate_at = sym placed.end_is

  -- the closed gate stands behind the groups
  pub content_is : content ≡ front ++ (placed.image.gate ∷ placed.image.rest)
  unfolding front
  content_is = placed.image.spelling ∙ sym (append_assoc mark (open_groups placed.groups) (placed.image.gate ∷ placed.image.rest))

  pub gate_inside : gate < length content
  gate_inside = omega (arith, gate_at, ap length content_is, length-append front (placed.image.gate ∷ placed.image.rest))

  -- any byte in the gate's place, and any bytes behind it
  pub read_to : (x : ℕ) (behind : List ℕ) → IsReadTo (front ++ (x ∷ behind)) recorded gates gate (x ∷ behind)
  unfolding front
  read_to x behind = record {
    groups = placed.groups;
    spelling = append_assoc mark (open_groups placed.groups) (x ∷ behind);
    records_are = placed.records_are;
    gates_are = placed.gates_are;
    end_is = placed.end_is;
    good = placed.image.good;
  }

  -- where it is no open gate, the records are as they were
  pub closed_stands : (x : ℕ) (behind : List ℕ) → x ≢ 1 → StandsFor (front ++ (x ∷ behind)) recorded
  closed_stands x behind closed =
      placed_stands (front ++ (x ∷ behind)) recorded gates gate (ends_closed (front ++ (x ∷ behind)) recorded gates gate x behind (read_to x behind) closed)

  pub content_stands : StandsFor content recorded
  content_stands = placed_stands content recorded gates gate placed

  -- the write behind the gate, cut short: the closed gate stands
  pub first_write : (bytes image : List ℕ) → disk.IsImage content (record { place = gate + 1; bytes = bytes } ∷ []) image → StandsFor image recorded
  first_write bytes image is =
      let x = placed.image.gate in
      let split : content ≡ (front ++ (x ∷ [])) ++ placed.image.rest = content_is ∙ sym (append_assoc front (x ∷ []) placed.image.rest) in
      let long : length (front ++ (x ∷ [])) ≡ gate + 1 = omega (arith, gate_at, length-append front (x ∷ [])) in
      let same : take (gate + 1) image ≡ front ++ (x ∷ []) =
      image_before content (record { place = gate + 1; bytes = bytes }) image is (omega (arith, gate_inside))
      ∙ ap (take (gate + 1)) split ∙ take_at (front ++ (x ∷ [])) placed.image.rest (gate + 1) long in
      let whole : image ≡ front ++ (x ∷ drop (gate + 1) image) =
      sym (take-append-drop (gate + 1) image) ∙ ap (λ (l : List ℕ). l ++ drop (gate + 1) image) same ∙ append_assoc front (x ∷ []) (drop (gate + 1) image) in
      subst (λ (l : List ℕ). StandsFor l recorded) (sym whole) (closed_stands x (drop (gate + 1) image) placed.image.closed)

  module _ (added : List Record) (fits : group_field.Fits added) (actor : IsTrue (actor_is_first (recorded ++ added))) where
    -- what stands behind what was written
    pub rest : List ℕ
    rest = drop (gate + 1 + length (appended added)) content

    pub behind : List ℕ
    behind = group_field.spelled added ++ (0 ∷ rest)

    pub written : overwritten content (record { place = gate + 1; bytes = appended added }) ≡ front ++ (placed.image.gate ∷ behind)
    unfolding behind rest
    written =
        let x = placed.image.gate in
        let split : content ≡ (front ++ (x ∷ [])) ++ placed.image.rest = content_is ∙ sym (append_assoc front (x ∷ []) placed.image.rest) in
        let long : length (front ++ (x ∷ [])) ≡ gate + 1 = omega (arith, gate_at, length-append front (x ∷ [])) in
        let before : take (gate + 1) content ≡ front ++ (x ∷ []) = ap (take (gate + 1)) split ∙ take_at (front ++ (x ∷ [])) placed.image.rest (gate + 1) long in
        let tail = drop (gate + 1 + length (appended added)) content in
        ap (λ (l : List ℕ). l ++ appended added ++ tail) before
        ∙ append_assoc (front ++ (x ∷ [])) (appended added) tail
        ∙ append_assoc front (x ∷ []) (appended added ++ tail)
        ∙ ap (λ (l : List ℕ). front ++ (x ∷ l)) (append_assoc (group_field.spelled added) (0 ∷ []) tail)

    -- with the gate open the group stands there too
    open_read_to : IsReadTo (front ++ (1 ∷ behind)) (recorded ++ added) (gates ++ replicate (length added) gate) (gate + length (open_group added)) (0 ∷ rest)
    unfolding behind
    open_read_to = reads_on (front ++ (1 ∷ behind)) recorded gates gate added behind (0 ∷ rest) (read_to 1 behind) refl fits actor

    pub open_placed : IsPlaced (front ++ (1 ∷ behind)) (recorded ++ added) (gates ++ replicate (length added) gate) (gate + length (open_group added))
    open_placed =
        ends_closed (front ++ (1 ∷ behind)) (recorded ++ added) (gates ++ replicate (length added) gate) (gate + length (open_group added)) 0 rest open_read_to (omega arith)

    any_gate : (x : ℕ) → IsBeforeOrAfter recorded added (front ++ (x ∷ behind))
    any_gate x = elim (cases_eq x 1) [
      | inl is_open ↦ inr (subst (λ (y : ℕ). StandsFor (front ++ (y ∷ behind)) (recorded ++ added)) (sym is_open)
          (placed_stands (front ++ (1 ∷ behind)) (recorded ++ added) (gates ++ replicate (length added) gate) (gate + length (open_group added)) open_placed))
      | inr closed ↦ inl (closed_stands x behind closed)
    ]

    -- the gate's write, cut short: any byte in its place
    pub second_write : (image : List ℕ)
        → disk.IsImage (overwritten content (record { place = gate + 1; bytes = appended added })) (record { place = gate; bytes = 1 ∷ [] } ∷ []) image
        → IsBeforeOrAfter recorded added image
    second_write image is =
        let x = placed.image.gate in
        let synced = overwritten content (record { place = gate + 1; bytes = appended added }) in
        let write : Write = record { place = gate; bytes = 1 ∷ [] } in
        let long : length synced ≡ gate + 1 + length behind = ap length written ∙ omega (arith, gate_at, length-append front (x ∷ behind)) in
        let inside : end_of write ≤ length synced = omega (arith, long) in
        let same_length : length image ≡ length synced = image_length synced write image is inside in
        let before : take gate image ≡ front =
        image_before synced write image is (omega (arith, long)) ∙ ap (take gate) written ∙ take_at front (x ∷ behind) gate gate_at in
        let split : synced ≡ (front ++ (x ∷ [])) ++ behind = written ∙ sym (append_assoc front (x ∷ []) behind) in
        let after : drop (gate + 1) image ≡ behind =
        image_behind synced write image is inside ∙ ap (drop (gate + 1)) split
        ∙ drop_at (front ++ (x ∷ [])) behind (gate + 1) (omega (arith, gate_at, length-append front (x ∷ []))) in
        let y = get_or image gate 0 in
        let from_gate : drop gate image ≡ y ∷ behind = drop_more image gate 0 (omega (arith, same_length, long)) ∙ ap (λ (l : List ℕ). y ∷ l) after in
        let whole : image ≡ front ++ (y ∷ behind) =
        sym (take-append-drop gate image) ∙ ap (λ (l : List ℕ). l ++ drop gate image) before ∙ ap (λ (l : List ℕ). front ++ l) from_gate in
        subst (IsBeforeOrAfter recorded added) (sym whole) (any_gate y)

    -- between the two writes the records are as they were
    pub between : StandsFor (overwritten content (record { place = gate + 1; bytes = appended added })) recorded
    between = subst (λ (l : List ℕ). StandsFor l recorded) (sym written) (closed_stands placed.image.gate behind placed.image.closed)

    -- behind both the group is there
    pub opened : IsPlaced (overwritten (overwritten content (record { place = gate + 1; bytes = appended added })) (record { place = gate; bytes = 1 ∷ [] }))
        (recorded ++ added) (gates ++ replicate (length added) gate) (gate + length (open_group added))
    opened =
        let x = placed.image.gate in
        let split : front ++ (x ∷ behind) ≡ (front ++ (x ∷ [])) ++ behind = sym (append_assoc front (x ∷ []) behind) in
        let whole : overwritten (front ++ (x ∷ behind)) (record { place = gate; bytes = 1 ∷ [] }) ≡ front ++ (1 ∷ behind) =
        ap (λ (l : List ℕ). l ++ (1 ∷ []) ++ drop (gate + 1) (front ++ (x ∷ behind))) (take_at front (x ∷ behind) gate gate_at)
        ∙ ap (λ (l : List ℕ). front ++ (1 ∷ []) ++ l)
        (ap (drop (gate + 1)) split ∙ drop_at (front ++ (x ∷ [])) behind (gate + 1) (omega (arith, gate_at, length-append front (x ∷ []))))
        ∙ append_assoc front (1 ∷ []) behind in
        subst (λ (l : List ℕ). IsPlaced l (recorded ++ added) (gates ++ replicate (length added) gate) (gate + length (open_group added)))
        (sym (ap (λ (l : List ℕ). overwritten l (record { place = gate; bytes = 1 ∷ [] })) written ∙ whole)) open_placed
