-- What is told after one call and then another, and that telling no bytes changes nothing.
use Rattle.std.proofs.Common.{◌≡◌, ℕ, List, [], ◌++◌, Option, Some, None, refl, ap, sym, append_assoc}
use Rattle.std.proofs.lemmas.List.{append-nil}
use Rattle.std.specs.Io.KnownBytes.{prepend_known, append_known}

pub append_known_nothing : (told : Option (List ℕ)) → append_known told [] ≡ told
append_known_nothing None = refl
append_known_nothing (Some bytes) = ap Some (append-nil bytes)

pub append_known_more : (told : Option (List ℕ)) (a b : List ℕ) → append_known (append_known told a) b ≡ append_known told (a ++ b)
append_known_more None a b = refl
append_known_more (Some bytes) a b = ap Some (append_assoc bytes a b)

pub prepend_known_nothing : (told : Option (List ℕ)) → prepend_known [] told ≡ told
prepend_known_nothing None = refl
prepend_known_nothing (Some bytes) = refl

pub prepend_known_more : (told : Option (List ℕ)) (a b : List ℕ) → prepend_known a (prepend_known b told) ≡ prepend_known (a ++ b) told
prepend_known_more None a b = refl
prepend_known_more (Some bytes) a b = ap Some (sym (append_assoc a b bytes))
