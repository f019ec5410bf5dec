-- Readings of a part and of the whole that it stands in.
use Rattle.std.proofs.Common.{◌≡◌, ℕ, true, false, List, [], ◌∷◌, Option, Some, None, is_some, Result, Err, IsErrAnd, refl, sym, ap, ◌∙◌, subst}
use Rattle.std.specs.Prelude.{option_map}
use Rattle.std.proofs.lemmas.Bool.{false≢true}
use Rattle.std.proofs.lemmas.Result.{err_from_is_err_and}
use Rattle.replay_script.specs.Arguments.{◌>>=◌, First, Form, Value, Values, read, read_all}
use Rattle.replay_script.specs.Cut.{Parts, cut}
use Rattle.replay_script.specs.Reads.{IsRefusal, ReadsAs}
use Rattle.replay_script.specs.declared.faults.LineFault.{LineFault}
use Rattle.replay_script.specs.declared.faults.LineFault.TheVariants.{NotAMove, Memory}

-- a fault that is handed on
pub handed_on : {T A : Type 0} (seen : T → A) (r : Result T LineFault) (fault : LineFault) (expected : Option A) → IsErrAnd r (λ e. e ≡ fault) → IsRefusal fault expected → ReadsAs seen r expected
handed_on seen r fault expected err refused =
    let from = err_from_is_err_and r err in
    subst (λ (q : Result _ LineFault). ReadsAs seen q expected) (sym (from.1 ∙ ap Err from.2)) refused

-- a part is refused, and with it what is made of it alone
pub refused_mapped : {A B : Type 0} (f : A → B) (fault : LineFault) (part : Option A) → IsRefusal fault part → IsRefusal fault (option_map f part)
refused_mapped f NotAMove part refused = ap (option_map f) refused
refused_mapped f Memory None there = there
refused_mapped f Memory (Some value) there = there

some_mapped : {A B : Type 0} (f : A → B) (part : Option A) → is_some part ≡ true → is_some (option_map f part) ≡ true
some_mapped f None there = there
some_mapped f (Some value) there = refl

-- two arguments, of which the first is read already
abbrev rest_read : (form other : Form) (rest : List ℕ) → Option (Value form) → Option (Values (form ∷ other ∷ []))
rest_read form other rest o =
    let first : Option (First form) = option_map (λ value. record { value = value; rest = rest }) o in
    first >>= (λ first. option_map (λ others. (first.value, others)) (option_map (λ value. (value, tt)) (read other first.rest)))

two_read : (form other : Form) (text : List ℕ) (parts : Parts) → cut text ≡ Some parts → read_all (form ∷ other ∷ []) text ≡ rest_read form other parts.rest (read form parts.argument)
two_read form other text parts is = rw is refl

rest_none : (form other : Form) (rest : List ℕ) (o : Option (Value form)) → read other rest ≡ None → rest_read form other rest o ≡ None
rest_none form other rest None none = refl
rest_none form other rest (Some value) none = rw none refl

none_from : {A : Type 0} (o : Option A) → is_some o ≡ false → o ≡ None
none_from None none = refl
none_from (Some value) none = absurd (false≢true (sym none))

-- the second argument is none of its form
pub second_missing : (form other : Form) (text : List ℕ) (parts : Parts) → cut text ≡ Some parts → is_some (read other parts.rest) ≡ false → read_all (form ∷ other ∷ []) text ≡ None
second_missing form other text parts is none =
    two_read form other text parts is ∙ rest_none form other parts.rest (read form parts.argument) (none_from (read other parts.rest) none)

first_of_two : (form other : Form) (rest : List ℕ) (fault : LineFault) (o : Option (Value form)) → is_some (read other rest) ≡ true → IsRefusal fault o → IsRefusal fault (rest_read form other rest o)
first_of_two form other rest NotAMove o there refused = ap (rest_read form other rest) refused
first_of_two form other rest Memory None there refused = refused
first_of_two form other rest Memory (Some value) there refused =
    some_mapped (λ others. (value, others)) (option_map (λ v. (v, tt)) (read other rest)) (some_mapped (λ v. (v, tt)) (read other rest) there)

-- the first argument is refused, where the second is one of its form
pub first_refused : (form other : Form) (text : List ℕ) (parts : Parts) (fault : LineFault) → cut text ≡ Some parts → is_some (read other parts.rest) ≡ true
    → IsRefusal fault (read form parts.argument) → IsRefusal fault (read_all (form ∷ other ∷ []) text)
first_refused form other text parts fault is there refused =
    subst (λ (o : Option (Values (form ∷ other ∷ []))). IsRefusal fault o) (sym (two_read form other text parts is)) (first_of_two form other parts.rest fault (read form parts.argument) there refused)

-- the second argument is refused, behind one that was read
pub second_refused : (form other : Form) (text : List ℕ) (parts : Parts) (fault : LineFault) (value : Value form)
    → cut text ≡ Some parts → read form parts.argument ≡ Some value → IsRefusal fault (read other parts.rest)
    → IsRefusal fault (read_all (form ∷ other ∷ []) text)
second_refused form other text parts fault value is first refused =
    subst (λ (o : Option (Values (form ∷ other ∷ []))). IsRefusal fault o) (sym (two_read form other text parts is ∙ ap (rest_read form other parts.rest) first))
    (refused_mapped (λ others. (value, others)) fault (option_map (λ v. (v, tt)) (read other parts.rest)) (refused_mapped (λ v. (v, tt)) fault (read other parts.rest) refused))
