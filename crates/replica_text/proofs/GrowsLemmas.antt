-- Lists that grow keep growing, and what is new to the later one is new to the earlier.
use Rattle.std.proofs.Common.{List, [], ◌∷◌, ◌++◌, refl, sym, ◌∙◌, subst, inl, inr}
use Rattle.tt_base.specs.Elements.{IsNew}
use Rattle.tt_base.specs.declared.ids.ElemId.{ElemId}
use Rattle.tt_base.specs.declared.elements.Element.{Element}
use Rattle.replica_text.specs.Joined.{IsLater, Grows}

itself : (e : Element) → IsLater e e
itself e = record { id = refl; ch = refl; gone = λ h. h }

later_trans : (x y z : Element) → IsLater x y → IsLater y z → IsLater x z
later_trans x y z h k = record { id = k.id ∙ h.id; ch = k.ch ∙ h.ch; gone = λ g. k.gone (h.gone g) }

pub grows_itself : (whole xs : List Element) → Grows whole xs xs
grows_itself whole [] = tt
grows_itself whole (x ∷ xs) = inl (itself x, grows_itself whole xs)

pub new_before : (id : ElemId) (whole xs ys : List Element) → Grows whole xs ys → IsNew id ys → IsNew id xs
new_before id whole [] [] h n = tt
new_before id whole (x ∷ xs) [] h n = absurd h
new_before id whole [] (y ∷ ys) h n = tt
new_before id whole (x ∷ xs) (y ∷ ys) h n = elim h [
  | inl k ↦ ((λ is. n.0 (k.0.id ∙ is)), new_before id whole xs ys k.1 n.1)
  | inr k ↦ new_before id whole (x ∷ xs) ys k.1 n.1
]

pub grows_trans : (first second xs ys zs : List Element) → ((id : ElemId) → IsNew id second → IsNew id first) → Grows first xs ys → Grows second ys zs → Grows first xs zs
grows_trans first second [] [] [] w h k = tt
grows_trans first second (x ∷ xs) [] [] w h k = absurd h
grows_trans first second xs (y ∷ ys) [] w h k = absurd k
grows_trans first second [] [] (z ∷ zs) w h k = (w z.id k.0, grows_trans first second [] [] zs w h k.1)
grows_trans first second (x ∷ xs) [] (z ∷ zs) w h k = absurd h
grows_trans first second [] (y ∷ ys) (z ∷ zs) w h k = elim k [
  | inl g ↦ (subst (λ (i : ElemId). IsNew i first) (sym g.0.id) h.0, grows_trans first second [] ys zs w h.1 g.1)
  | inr g ↦ (w z.id g.0, grows_trans first second [] (y ∷ ys) zs w h g.1)
]
grows_trans first second (x ∷ xs) (y ∷ ys) (z ∷ zs) w h k = elim k [
  | inl g ↦ elim h [
    | inl f ↦ inl (later_trans x y z f.0 g.0, grows_trans first second xs ys zs w f.1 g.1)
    | inr f ↦ inr (subst (λ (i : ElemId). IsNew i first) (sym g.0.id) f.0, grows_trans first second (x ∷ xs) ys zs w f.1 g.1)
  ]
  | inr g ↦ inr (w z.id g.0, grows_trans first second (x ∷ xs) (y ∷ ys) zs w h g.1)
]

-- the same elements in front and behind, whatever comes between
pub grows_behind : (whole front xs ys : List Element) → Grows whole xs ys → Grows whole (front ++ xs) (front ++ ys)
grows_behind whole [] xs ys h = h
grows_behind whole (e ∷ front) xs ys h = inl (itself e, grows_behind whole front xs ys h)

abbrev pub AllNew : List Element → List Element → Type 0
AllNew whole [] = Unit {0}
AllNew whole (e ∷ elements) = IsNew e.id whole × AllNew whole elements

pub grows_between : (whole run xs : List Element) → AllNew whole run → Grows whole xs (run ++ xs)
grows_between whole [] xs h = grows_itself whole xs
grows_between whole (e ∷ run) [] h = (h.0, grows_between whole run [] h.1)
grows_between whole (e ∷ run) (x ∷ xs) h = inr (h.0, grows_between whole run (x ∷ xs) h.1)
