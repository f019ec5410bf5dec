-- What a refusal of `SharedPath::read` says of the bytes.
use Rattle.std.proofs.Common.{◌≡◌, ℕ, ◌⊎◌, Bool, cond, List, None, Some, Option, Result, Ok, Err, sym, refl, ap, subst, ◌∙◌, inl, inr, ⊎_elim}
use Rattle.std.specs.Prelude.{nat_lt, length, IfErr}
use Rattle.std.specs.List.{list_any}
use Rattle.std.specs.Str.{IsUtf8, is_utf8}
use Rattle.std.proofs.lemmas.Bool.{cases_Bool, cond-true, cond-false, cond_both}
use Rattle.std.proofs.lemmas.Str.{IsUtf8-from_is_utf8, is_utf8-from_IsUtf8}
use Rattle.tt_base.specs.declared.paths.PathFault.{PathFault}
use Rattle.tt_base.specs.declared.paths.PathFault.TheVariants as path
use Rattle.tt_base.specs.Path.{parts, is_nul, is_absolute, is_empty_part, is_dot_part, is_reserved_part, path_fault}
use Rattle.file_uri.specs.declared.faults.UriFault.{UriFault}
use Rattle.file_uri.specs.declared.faults.UriFault.TheVariants.{NotUtf8, BadPath, Memory}
use Rattle.file_uri.specs.PathFaults.{fault_of}
use Rattle.file_uri.specs.PathOf.{shared_path, unless_fault}

pub shared_path-not_utf8 : (bytes : List ℕ) → (IsUtf8 bytes → ⊥) → shared_path bytes ≡ Err NotUtf8
shared_path-not_utf8 bytes no_text =
    ⊎_elim
    (λ text. absurd (no_text (IsUtf8-from_is_utf8 bytes text)))
    (λ other. cond-false _ _ _ other)
    (cases_Bool (is_utf8 bytes))

pub shared_path-utf8 : (bytes : List ℕ) → IsUtf8 bytes → shared_path bytes ≡ unless_fault (path_fault bytes) bytes
shared_path-utf8 bytes text = cond-true _ _ _ (is_utf8-from_IsUtf8 bytes text)

fault_cases : (fault : Option PathFault) → (fault ≡ None) ⊎ ((f : PathFault) × (fault ≡ Some f))
fault_cases None = inl refl
fault_cases (Some f) = inr (f, refl)

-- ---- the refusal of a text is never want of memory

record IsToldAsPath (fault : Option PathFault) : Type 0 where
  told : (g : PathFault) → fault ≡ Some g → fault_of g ≡ BadPath g

not_refused : IsToldAsPath None
not_refused = record { told = λ g same. let wrong : None ≡ Some g = same in cc }

refused : (f : PathFault) → fault_of f ≡ BadPath f → IsToldAsPath (Some f)
refused f is = record { told = λ g same. let here : f ≡ g = cc in subst (λ x. fault_of x ≡ BadPath x) here is }

first_of_rules : (b : Bool) (f : PathFault) (others : Option PathFault) → fault_of f ≡ BadPath f → IsToldAsPath others → IsToldAsPath (cond b (Some f) others)
first_of_rules b f others is rest = cond_both b (Some f) others IsToldAsPath (λ _. refused f is) (λ _. rest)

path_fault-told : (text : List ℕ) → IsToldAsPath (path_fault text)
path_fault-told text =
    first_of_rules (nat_lt 1024 (length text)) path.TooLong _ refl
    (first_of_rules (list_any is_nul text) path.NulByte _ refl
    (first_of_rules (is_absolute text) path.Absolute _ refl
    (first_of_rules (list_any is_empty_part (parts text)) path.Empty _ refl
    (first_of_rules (list_any is_dot_part (parts text)) path.DotPart _ refl
    (first_of_rules (list_any is_reserved_part (parts text)) path.Reserved _ refl
    (first_of_rules (nat_lt 32 (length (parts text))) path.TooDeep _ refl not_refused))))))

-- what `SharedPath::read` answers
abbrev PathReading : Type 0
PathReading = Result (List ℕ) PathFault

abbrev taken : List ℕ → PathReading
taken p = Ok p

abbrev refusal : PathFault → PathReading
refusal f = Err f

-- the path that was read of a text that is these bytes
pub shared_path-read : (bytes text p : List ℕ) → text ≡ bytes → IsUtf8 bytes → ((f : PathFault) → path_fault text ≡ Some f → taken p ≡ refusal f)
    → (path_fault text ≡ None → p ≡ text) → shared_path bytes ≡ Ok p
shared_path-read bytes text p same utf8 refused read =
    shared_path-utf8 bytes utf8
    ∙ ⊎_elim
    (λ fine. ap (λ f. unless_fault f bytes) fine ∙ ap Ok (sym (read (ap path_fault same ∙ fine) ∙ same)))
    (λ broken. let wrong = refused broken.0 (ap path_fault same ∙ broken.1) in absurd (cc))
    (fault_cases (path_fault bytes))

fault_of_cases : (f : PathFault) → (fault_of f ≡ BadPath f) ⊎ (fault_of f ≡ Memory)
fault_of_cases path.TooLong = inl refl
fault_of_cases path.NulByte = inl refl
fault_of_cases path.Absolute = inl refl
fault_of_cases path.Empty = inl refl
fault_of_cases path.DotPart = inl refl
fault_of_cases path.Reserved = inl refl
fault_of_cases path.TooDeep = inl refl
fault_of_cases path.Memory = inr refl

-- the refusal of a text that is these bytes
pub shared_path-refused : (bytes text : List ℕ) (f : PathFault) → text ≡ bytes → IsUtf8 bytes
    → ((g : PathFault) → path_fault text ≡ Some g → refusal f ≡ refusal g) → (path_fault text ≡ None → f ≡ path.Memory)
    → (shared_path bytes ≡ Err (fault_of f)) ⊎ (fault_of f ≡ Memory)
shared_path-refused bytes text f same utf8 refused read =
    ⊎_elim
    (λ fine. inr (ap fault_of (read (ap path_fault same ∙ fine))))
    (λ broken.
    let first : broken.0 ≡ f = let again = refused broken.0 (ap path_fault same ∙ broken.1) in cc in
    let here : path_fault bytes ≡ Some f = broken.1 ∙ ap Some first in
    ⊎_elim
    (λ bad. inl (shared_path-utf8 bytes utf8 ∙ ap (λ x. unless_fault x bytes) here ∙ ap Err (sym bad)))
    inr
    (fault_of_cases f))
    (fault_cases (path_fault bytes))

-- bytes that are refused are refused for just that
pub shared_path-exact : (bytes text : List ℕ) (f : PathFault) (fault : UriFault) → text ≡ bytes → IsUtf8 bytes
    → ((g : PathFault) → path_fault text ≡ Some g → refusal f ≡ refusal g) → shared_path bytes ≡ Err fault → fault_of f ≡ fault
shared_path-exact bytes text f fault same utf8 refused expected =
    ⊎_elim
    (λ fine. let wrong : shared_path bytes ≡ Ok bytes = shared_path-utf8 bytes utf8 ∙ ap (λ g. unless_fault g bytes) fine in absurd (cc))
    (λ broken.
    let first : broken.0 ≡ f = let again = refused broken.0 (ap path_fault same ∙ broken.1) in cc in
    let is : shared_path bytes ≡ Err (BadPath broken.0) = shared_path-utf8 bytes utf8 ∙ ap (λ g. unless_fault g bytes) broken.1 in
    let bad : BadPath broken.0 ≡ fault = cc in
    ap fault_of (sym first) ∙ (path_fault-told bytes).told broken.0 broken.1 ∙ bad)
    (fault_cases (path_fault bytes))

-- what holds of each refusal that may come holds of the one that comes
pub IfErr-each : {T E : Type 0} (r : Result T E) (P : E → Type 0) → ((e : E) → r ≡ Err e → P e) → IfErr r P
IfErr-each (Ok value) P each = tt
IfErr-each (Err fault) P each = each fault refl
