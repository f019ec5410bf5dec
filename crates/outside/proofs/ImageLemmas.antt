-- What the images of a disk keep, and what is one of them.
use Rattle.std.proofs.Common.{◌≡◌, ℕ, ◌+◌, ◌<◌, ◌≤◌, false, List, [], ◌∷◌, length, take, drop, get_or, refl, sym, ◌∙◌, arith, length-take, length-drop, get_or-take, get_or-drop}
use Rattle.std.proofs.lemmas.List.{ext_get_or}
use Rattle.std.proofs.lemmas.Bool.Decides.{nat_tests}
use Rattle.outside.specs.Images.{Write, IsImage, end_of, is_written}

-- a content no longer than another, and the same at each of the places, is its front
same_front : (n : ℕ) (xs ys : List ℕ) → n ≤ length xs → n ≤ length ys → ((place : ℕ) → place < n → get_or xs place 0 ≡ get_or ys place 0) → take n xs ≡ take n ys
same_front n xs ys in_xs in_ys same =
    ext_get_or 0 (take n xs) (take n ys) (omega (arith, length-take n xs, length-take n ys))
    (λ i below. let less : i < n = omega (arith, length-take n xs) in get_or-take n xs i 0 less ∙ same i less ∙ sym (get_or-take n ys i 0 less))

-- where nothing was written there is one image
pub image_of_none : (synced image : List ℕ) → IsImage synced [] image → image ≡ synced
image_of_none synced image is = ext_get_or 0 image synced (omega (arith, is.no_shorter, is.no_longer)) (λ i below. is.elsewhere i (omega (arith, is.no_longer)) refl)

-- in front of all the writes an image is what it was
pub image_front : (n : ℕ) (synced : List ℕ) (writes : List Write) (image : List ℕ) → IsImage synced writes image → n ≤ length synced → ((place : ℕ) → place < n → is_written writes place ≡ false) → take n image ≡ take n synced
image_front n synced writes image is inside free = same_front n image synced (omega (arith, is.no_shorter)) inside (λ place below. is.elsewhere place (omega arith) (free place below))

not_before : (write : Write) (place : ℕ) → place < write.place → is_written (write ∷ []) place ≡ false
not_before write place below = grind (arith, nat_tests)

not_behind : (write : Write) (place : ℕ) → end_of write ≤ place → is_written (write ∷ []) place ≡ false
not_behind write place above = grind (arith, nat_tests)

-- in front of one write
pub image_before : (synced : List ℕ) (write : Write) (image : List ℕ) → IsImage synced (write ∷ []) image → write.place ≤ length synced → take write.place image ≡ take write.place synced
image_before synced write image is inside = image_front write.place synced (write ∷ []) image is inside (λ place below. not_before write place below)

-- behind one write that reaches no further than the old end
pub image_length : (synced : List ℕ) (write : Write) (image : List ℕ) → IsImage synced (write ∷ []) image → end_of write ≤ length synced → length image ≡ length synced
image_length synced write image is inside = let longest = is.no_longer in omega (arith, is.no_shorter, longest)

pub image_behind : (synced : List ℕ) (write : Write) (image : List ℕ) → IsImage synced (write ∷ []) image → end_of write ≤ length synced → drop (end_of write) image ≡ drop (end_of write) synced
image_behind synced write image is inside =
    let same_length = image_length synced write image is inside in
    ext_get_or 0 (drop (end_of write) image) (drop (end_of write) synced) (omega (arith, length-drop (end_of write) image, length-drop (end_of write) synced, same_length))
    (λ i below. let place = end_of write + i in
    get_or-drop (end_of write) image i 0
    ∙ is.elsewhere place (omega (arith, length-drop (end_of write) image, same_length, below)) (not_behind write place (omega arith))
    ∙ sym (get_or-drop (end_of write) synced i 0))
