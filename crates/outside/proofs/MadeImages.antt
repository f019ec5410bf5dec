-- What is an image: the content that writes make, whole or torn, and the content without one of them.
use Rattle.std.proofs.Common.{◌≡◌, ℕ, ◌+◌, ◌-◌, ◌/◌, ◌<◌, ◌≤◌, ◌⊎◌, ◌||◌, Bool, true, false, List, [], ◌∷◌, ◌++◌, length, replicate, take, drop, map, fold, min, max, get_or, refl, sym, ap, ◌∙◌, subst, inl, inr, arith, append_assoc, length-append, length-take, length-drop, get_or-take, get_or-drop}
use Rattle.std.proofs.Math.ListN.{get_or-append}
use Rattle.std.proofs.lemmas.List.{append-nil, get_or-append_right, length-replicate}
use Rattle.std.proofs.lemmas.List.Folds.{list_any-append}
use Rattle.std.proofs.lemmas.List.Sums.{fold-append}
use Rattle.std.proofs.lemmas.Bool.Decides.{nat_tests}
use Rattle.outside.specs.Images.{Write, IsImage, end_of, overwritten, is_written, reach, torn, left_by}
use Rattle.outside.specs.declared.modes.Mode.{Mode}
use Rattle.outside.specs.declared.modes.Mode.TheVariants.{Lost, Kept, Torn}

-- two writes over the same places
record HaveOneRange (made write : Write) : Type 0 where
  pub place : made.place ≡ write.place
  pub length : length made.bytes ≡ length write.bytes

-- what is read in front of a write, and behind it
kept_before : (content bytes : List ℕ) (place «end» k : ℕ) → k < place → k < length content → get_or (take place content ++ bytes ++ drop «end» content) k 0 ≡ get_or content k 0
kept_before content bytes place «end» k before inside =
    let in_take : k < length (take place content) = omega (arith, length-take place content) in
    let in_front : k < length (take place content ++ bytes) = omega (arith, length-append (take place content) bytes) in
    get_or-append (take place content ++ bytes) (drop «end» content) 0 k in_front
    ∙ get_or-append (take place content) bytes 0 k in_take
    ∙ get_or-take place content k 0 before

kept_behind : (content bytes : List ℕ) (place k : ℕ) → place + length bytes ≤ k → k < length content → get_or (take place content ++ bytes ++ drop (place + length bytes) content) k 0 ≡ get_or content k 0
kept_behind content bytes place k behind inside =
    let n = place + length bytes in
    let front : length (take place content ++ bytes) ≡ n = omega (arith, length-append (take place content) bytes, length-take place content) in
    let back : n + (k - n) ≡ k = omega arith in
    get_or-append_right (take place content ++ bytes) (drop n content) n k 0 front behind
    ∙ get_or-drop n content (k - n) 0
    ∙ ap (λ i. get_or content i 0) back

length_overwritten : (content bytes : List ℕ) (place : ℕ) → length (take place content ++ bytes ++ drop (place + length bytes) content) ≡ min place (length content) + length bytes + (length content - (place + length bytes))
length_overwritten content bytes place =
    length-append (take place content ++ bytes) (drop (place + length bytes) content)
    ∙ omega (arith, length-append (take place content) bytes, length-take place content, length-drop (place + length bytes) content)

-- one write more reaches as far or further, and is over no fewer places
reach_more : (len : ℕ) (writes : List Write) (write : Write) → reach len (writes ++ write ∷ []) ≡ max (reach len writes) (end_of write)
reach_more len writes write = fold-append (λ (longest : ℕ) (w : Write). max longest (end_of w)) len writes (write ∷ [])

neither : (a b : Bool) → (a || b) ≡ false → (a ≡ false) × (b ≡ false)
neither false false is = (refl, refl)
neither false true is = (refl, is)
neither true b is = (is, elim b as (λ v. v ≡ false) [ true ↦ is | false ↦ refl ])

written_neither : (writes : List Write) (write : Write) (k : ℕ) → is_written (writes ++ write ∷ []) k ≡ false → (is_written writes k ≡ false) × (is_written (write ∷ []) k ≡ false)
written_neither writes write k free = neither (is_written writes k) (is_written (write ∷ []) k) (sym (list_any-append _ writes (write ∷ [])) ∙ free)

outside_of : (write : Write) (k : ℕ) → is_written (write ∷ []) k ≡ false → (k < write.place) ⊎ (end_of write ≤ k)
outside_of write k free = grind (arith, nat_tests)

-- an image without one more write is an image
pub image_more : (synced : List ℕ) (writes : List Write) (image : List ℕ) (write : Write) → IsImage synced writes image → IsImage synced (writes ++ write ∷ []) image
image_more synced writes image write is = record {
  no_shorter = is.no_shorter;
  no_longer = omega (arith, is.no_longer, reach_more (length synced) writes write);
  elsewhere = λ k inside free. is.elsewhere k inside (written_neither writes write k free).0;
}

-- and so it is with bytes over the same places
image_over : (synced : List ℕ) (writes : List Write) (image : List ℕ) (made write : Write) → HaveOneRange made write → IsImage synced writes image → IsImage synced (writes ++ write ∷ []) (overwritten image made)
image_over synced writes image made write range is =
    let total = length_overwritten image made.bytes made.place in
    record {
      no_shorter = omega (arith, is.no_shorter, total);
      no_longer = omega (arith, is.no_longer, reach_more (length synced) writes write, total, range.place, range.length);
      elsewhere = λ k inside free.
          let parts = written_neither writes write k free in
          let in_image : k < length image = omega (arith, is.no_shorter) in
          let same = is.elsewhere k inside parts.0 in
          elim (outside_of write k parts.1) [
            | inl before ↦ kept_before image made.bytes made.place (end_of made) k (omega (arith, range.place)) in_image ∙ same
            | inr behind ↦ kept_behind image made.bytes made.place k (omega (arith, range.place, range.length)) in_image ∙ same
          ];
    }

pub image_overwritten : (synced : List ℕ) (writes : List Write) (image : List ℕ) (write : Write) → IsImage synced writes image → IsImage synced (writes ++ write ∷ []) (overwritten image write)
image_overwritten synced writes image write is = image_over synced writes image write write (record { place = refl; length = refl }) is

-- the content itself is its image
pub image_itself : (synced : List ℕ) → IsImage synced [] synced
image_itself synced = record { no_shorter = omega arith; no_longer = omega arith; elsewhere = λ k inside free. refl }

torn_range : (write : Write) → HaveOneRange (torn write) write
torn_range write = record {
  place = refl;
  length = omega (arith, length-append (take (length write.bytes / 2) write.bytes) (replicate (length write.bytes - length write.bytes / 2) 0xa5), length-take (length write.bytes / 2) write.bytes, length-replicate (length write.bytes - length write.bytes / 2) (let b : ℕ = 0xa5 in b));
}

kept_on : (synced : List ℕ) (before writes : List Write) (image : List ℕ) → IsImage synced before image → IsImage synced (before ++ writes) (fold overwritten image writes)
kept_on synced before [] image is = subst (λ ws. IsImage synced ws image) (sym (append-nil before)) is
kept_on synced before (write ∷ writes) image is =
    subst (λ ws. IsImage synced ws (fold overwritten (overwritten image write) writes)) (append_assoc before (write ∷ []) writes)
    (kept_on synced (before ++ write ∷ []) writes (overwritten image write) (image_overwritten synced before image write is))

torn_on : (synced : List ℕ) (before writes : List Write) (image : List ℕ) → IsImage synced before image → IsImage synced (before ++ writes) (fold overwritten image (map torn writes))
torn_on synced before [] image is = subst (λ ws. IsImage synced ws image) (sym (append-nil before)) is
torn_on synced before (write ∷ writes) image is =
    subst (λ ws. IsImage synced ws (fold overwritten (overwritten image (torn write)) (map torn writes))) (append_assoc before (write ∷ []) writes)
    (torn_on synced (before ++ write ∷ []) writes (overwritten image (torn write)) (image_over synced before image (torn write) write (torn_range write) is))

lost_on : (synced : List ℕ) (before writes : List Write) (image : List ℕ) → IsImage synced before image → IsImage synced (before ++ writes) image
lost_on synced before [] image is = subst (λ ws. IsImage synced ws image) (sym (append-nil before)) is
lost_on synced before (write ∷ writes) image is =
    subst (λ ws. IsImage synced ws image) (append_assoc before (write ∷ []) writes)
    (lost_on synced (before ++ write ∷ []) writes image (image_more synced before image write is))

-- what a stopped disk leaves is an image
pub left_is_image : (mode : Mode) (synced : List ℕ) (writes : List Write) → IsImage synced writes (left_by mode synced writes)
left_is_image Lost synced writes = lost_on synced [] writes synced (image_itself synced)
left_is_image Kept synced writes = kept_on synced [] writes synced (image_itself synced)
left_is_image Torn synced writes = torn_on synced [] writes synced (image_itself synced)
