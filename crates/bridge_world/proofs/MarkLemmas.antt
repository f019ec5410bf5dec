-- The order of what is under way to an editor, and the errors among it.
use Rattle.std.proofs.Common.{◌≡◌, ◌≢◌, ℕ, ◌+◌, ◌≤◌, ◌<◌, List, [], ◌∷◌, ◌++◌, map, inl, inr, refl, ◌∙◌, subst, arith}
use Rattle.std.proofs.lemmas.Bool.{cases_lt}
use Rattle.delta.specs.Cells.{Cells}
use Rattle.bridge_world.specs.Plain.{State, Opening, Open, Closed, Kind, OpenDone, Done, Failed, New, Old, Mark, aged, aged_mark, mark, news}
use Rattle.bridge_world.specs.Tie.{AnswersOpen, IsAnswered, Ordered}
use Rattle.bridge_world.specs.Facts.{IsError, IsFailure, HasFailed, AllOf, AllBefore}
use Rattle.bridge_world.proofs.ListLemmas.{each-append, each-map, each_weaker, each_image, has_none, has_one_unmapped}

-- sessions

pub before_from_of : (s t : ℕ) (v : List Mark) → s < t → AllOf s v → AllBefore t v
before_from_of s t v lt h = each_weaker (λ (m : Mark). m.session ≡ s) (λ (m : Mark). m.session < t) v (λ m e. omega (arith, lt, e)) h

pub before_later : (s t : ℕ) (v : List Mark) → s ≤ t → AllBefore s v → AllBefore t v
before_later s t v le h = each_weaker (λ (m : Mark). m.session < s) (λ (m : Mark). m.session < t) v (λ m lt. omega (arith, le, lt)) h

pub of_same : (s t : ℕ) (v : List Mark) → s ≡ t → AllOf s v → AllOf t v
of_same s t v e h = subst (λ n. AllOf n v) e h

pub of-append : (s : ℕ) (v w : List Mark) → AllOf s v → AllOf s w → AllOf s (v ++ w)
of-append s v w h k = each-append (λ (m : Mark). m.session ≡ s) v w h k

pub before-append : (s : ℕ) (v w : List Mark) → AllBefore s v → AllBefore s w → AllBefore s (v ++ w)
before-append s v w h k = each-append (λ (m : Mark). m.session < s) v w h k

of-aged : (s : ℕ) (v : List Mark) → AllOf s v → AllOf s (map aged_mark v)
of-aged s v h = each-map (λ (m : Mark). m.session ≡ s) (λ (m : Mark). m.session ≡ s) aged_mark v (λ m e. e) h

before-aged : (s : ℕ) (v : List Mark) → AllBefore s v → AllBefore s (map aged_mark v)
before-aged s v h = each-map (λ (m : Mark). m.session < s) (λ (m : Mark). m.session < s) aged_mark v (λ m e. e) h

pub of-news : (s : ℕ) (down : List Cells) → AllOf s (news s down)
of-news s down = each_image (λ (m : Mark). m.session ≡ s) (λ d. mark s New) down (λ d. refl)

-- the answer to an open

answered-append : (s : ℕ) (v w : List Mark) → IsAnswered s v → AllOf s w → IsAnswered s (v ++ w)
answered-append s [] w h k = absurd h
answered-append s (m ∷ v) w h k = elim h [
  | inl old ↦ inl (old.0, answered-append s v w old.1 k)
  | inr here ↦ inr (record { present = here.present; answer = here.answer; own = of-append s v w here.own k })
]

before_from_answered : (s : ℕ) (v : List Mark) → IsAnswered s v → AllBefore (s + 1) v
before_from_answered s [] h = absurd h
before_from_answered s (m ∷ v) h = elim h [
  | inl old ↦ (omega (arith, old.0), before_from_answered s v old.1)
  | inr here ↦ (omega (arith, here.present), before_from_of s (s + 1) v (omega arith) here.own)
]

answers_aged : (k : Kind) → AnswersOpen k → AnswersOpen (aged k)
answers_aged OpenDone h = tt
answers_aged (Failed cause) h = tt
answers_aged Done h = absurd h
answers_aged New h = absurd h
answers_aged Old h = absurd h

answered-aged : (s : ℕ) (v : List Mark) → IsAnswered s v → IsAnswered s (map aged_mark v)
answered-aged s [] h = absurd h
answered-aged s (m ∷ v) h = elim h [
  | inl old ↦ inl (old.0, answered-aged s v old.1)
  | inr here ↦ inr (record { present = here.present; answer = answers_aged m.kind here.answer; own = of-aged s v here.own })
]

-- the order

-- marks of the session whose messages are handled go behind all others
pub ordered-append : (st : State) (low s : ℕ) (v w : List Mark) → low ≤ s → Ordered st low s v → AllOf low w → Ordered st low s (v ++ w)
ordered-append Closed low s v w le h k = before-append (s + 1) v w h (before_from_of low (s + 1) w (omega (arith, le)) k)
ordered-append Open low s v w le h k = (h.0, of-append s v w h.1 (of_same low s w h.0 k))
ordered-append Opening low s v w le h k = elim h [
  | inl waits ↦ inl (waits.0, before-append s v w waits.1 (before_from_of low s w waits.0 k))
  | inr there ↦ inr (there.0, answered-append s v w there.1 (of_same low s w there.0 k))
]

-- the answer to an open goes behind all marks of older sessions
pub ordered-answer : (st : State) (low s t : ℕ) (v : List Mark) (m : Mark) (w : List Mark) → low < t → t ≤ s → Ordered st low s v → AnswersOpen m.kind → m.session ≡ t → AllOf t w
    → Ordered st t s (v ++ m ∷ w)
ordered-answer Closed low s t v m w lt le h turn is k =
    before-append (s + 1) v (m ∷ w) h (omega (arith, is, le), before_from_of t (s + 1) w (omega (arith, le)) k)
ordered-answer Open low s t v m w lt le h turn is k = absurd (omega (arith, lt, le, h.0))
ordered-answer Opening low s t v m w lt le h turn is k = elim h [
  | inl waits ↦ elim (cases_lt t s) [
    | inl less ↦ inl (less, before-append s v (m ∷ w) waits.1 (omega (arith, is, less), before_from_of t s w less k))
    | inr more ↦
        let same : t ≡ s = omega (arith, le, more) in
        inr (same, answers v waits.1 (is ∙ same) (of_same t s w same k))
  ]
  | inr there ↦ absurd (omega (arith, lt, le, there.0))
] where
  answers : (v : List Mark) → AllBefore s v → m.session ≡ s → AllOf s w → IsAnswered s (v ++ m ∷ w)
  answers [] before e k = inr (record { present = e; answer = turn; own = k })
  answers (x ∷ v) before e k = inl (before.0, answers v before.1 e k)

pub ordered-aged : (st : State) (low s : ℕ) (v : List Mark) → Ordered st low s v → Ordered st low s (map aged_mark v)
ordered-aged Closed low s v h = before-aged (s + 1) v h
ordered-aged Open low s v h = (h.0, of-aged s v h.1)
ordered-aged Opening low s v h = elim h [
  | inl waits ↦ inl (waits.0, before-aged s v waits.1)
  | inr there ↦ inr (there.0, answered-aged s v there.1)
]

pub ordered_closed : (st : State) (low s : ℕ) (v : List Mark) → Ordered st low s v → Ordered Closed low s v
ordered_closed Closed low s v h = h
ordered_closed Open low s v h = before_from_of s (s + 1) v (omega arith) h.1
ordered_closed Opening low s v h = elim h [
  | inl waits ↦ before_later s (s + 1) v (omega arith) waits.1
  | inr there ↦ before_from_answered s v there.1
]

-- the marks behind the first, which is no answer to the editor's open where it waits for one
pub ordered-rest : (st : State) (low s : ℕ) (m : Mark) (v : List Mark) → (AnswersOpen m.kind → m.session ≡ s → st ≢ Opening) → Ordered st low s (m ∷ v) → Ordered st low s v
ordered-rest Closed low s m v other h = h.1
ordered-rest Open low s m v other h = (h.0, h.1.1)
ordered-rest Opening low s m v other h = elim h [
  | inl waits ↦ inl (waits.0, waits.1.1)
  | inr there ↦ elim there.1 [
    | inl old ↦ inr (there.0, old.1)
    | inr here ↦ absurd (other here.answer here.present refl)
  ]
]

-- behind the answer to its open all is of the session
pub ordered_answered : (low s : ℕ) (m : Mark) (v : List Mark) → m.session ≡ s → Ordered Opening low s (m ∷ v) → (low ≡ s) × AllOf s v
ordered_answered low s m v is h = elim h [
  | inl waits ↦ absurd (omega (arith, is, waits.1.0))
  | inr there ↦ elim there.1 [
    | inl old ↦ absurd (omega (arith, is, old.0))
    | inr here ↦ (there.0, here.own)
  ]
]

-- errors

error_unaged : (k : Kind) → IsError (aged k) → IsError k
error_unaged OpenDone h = h
error_unaged Done h = h
error_unaged (Failed cause) h = h
error_unaged New h = h
error_unaged Old h = h

pub failed-unaged : (s : ℕ) (v : List Mark) → HasFailed s (map aged_mark v) → HasFailed s v
failed-unaged s v h = has_one_unmapped (IsFailure s) aged_mark v (λ m f. (error_unaged m.kind f.0, f.1)) h

pub news_not_failed : (s t : ℕ) (down : List Cells) → HasFailed s (news t down) → ⊥
news_not_failed s t [] h = h
news_not_failed s t (d ∷ down) h = elim h [ inl f ↦ f.0 | inr rest ↦ news_not_failed s t down rest ]

pub before_not_failed : (s : ℕ) (v : List Mark) → AllBefore s v → HasFailed s v → ⊥
before_not_failed s v h k = has_none (IsFailure s) (λ (m : Mark). m.session < s) v (λ m lt f. omega (arith, lt, f.1)) h k
