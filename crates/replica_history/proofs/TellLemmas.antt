-- What a directory has once it was told one make or one remove of several.
use Rattle.std.proofs.Common.{◌≡◌, Bool, true, false, cond, ◌||◌, ◌&&◌, refl, sym}

pub told_more : (at own rest old new : Bool) → new ≡ cond at (cond own true old) old → (((at && own) || rest) || old) ≡ (rest || new)
told_more true true true old new is = refl
told_more true true false old new is = sym is
told_more true false true old new is = refl
told_more true false false old new is = sym is
told_more false own true old new is = refl
told_more false own false old new is = sym is

pub told_one : (own rest old new : Bool) → new ≡ cond own true old → ((own || rest) || old) ≡ (rest || new)
told_one true true old new is = refl
told_one true false old new is = sym is
told_one false true old new is = refl
told_one false false old new is = sym is
