-- Adding a change comes to one answer at most.
use Rattle.std.proofs.Common.{◌≡◌, ◌≢◌, inl, inr, ℕ, Bool, false, refl, sym, ap, ◌∙◌, List, [], length, Option, Some, None, is_some, Result, Ok, Err, arith}
use Rattle.std.specs.Option.{unwrap_or}
use Rattle.std.specs.Cmp.{both_ways as two_ways}
use Rattle.std.proofs.lemmas.Bool.{both_ways, cases_lt}
use Rattle.change_codec.specs.Change.{Change}
use Rattle.change_codec.specs.Encoding.{change_format}
use Rattle.tt_base.specs.declared.ids.Name.{Name}
use Rattle.change_graph.specs.declared.causes.Cause.{Cause}
use Rattle.change_graph.specs.declared.causes.OpFault.{OpFault}
use Rattle.change_graph.specs.declared.faults.AddNote.{AddNote}
use Rattle.change_graph.specs.declared.faults.AddNote.TheVariants.{Added, Repeat}
use Rattle.change_graph.specs.declared.faults.GraphFault.{GraphFault}
use Rattle.change_graph.specs.declared.faults.GraphFault.TheVariants.{Clash, MissingDeps, BadChange, Memory}
use Rattle.change_graph.specs.History.{History, change_at, is_held, missing, name_of}
use Rattle.change_graph.specs.Closure.{IsClosureTest}
use Rattle.change_graph.specs.Refusals.{fault_at, IsFirstFault, IsAccepted}
use Rattle.change_graph.specs.Survey.{IsFirstOf}
use Rattle.change_graph.specs.Answers.{IsRepeat, IsClash, LacksDeps}
use Rattle.change_graph.specs.Adding.{IsNoted, IsRefused, IsAnswer, Noted, Refused}

-- ---- firsts of many

never_both : (o : Option Cause) (cause : Cause) → o ≡ Some cause → o ≡ None → ⊥
never_both o cause some none = absurd cc

first_place : (fault : ℕ → Option Cause) (one other : OpFault) → IsFirstOf fault one → IsFirstOf fault other → one.place ≡ other.place
first_place fault one other first second = elim (cases_lt one.place other.place) [
  | inl before ↦ absurd (never_both (fault one.place) one.cause first.here (second.none_before one.place before))
  | inr past ↦ elim (cases_lt other.place one.place) [
    | inl before ↦ absurd (never_both (fault other.place) other.cause second.here (first.none_before other.place before))
    | inr level ↦ omega (arith, past, level)
  ]
]

-- there is one first at most
first_same : (fault : ℕ → Option Cause) (one other : OpFault) → IsFirstOf fault one → IsFirstOf fault other → one ≡ other
first_same fault one other first second =
    let place : one.place ≡ other.place = first_place fault one other first second in
    let cause : one.cause ≡ other.cause =
    ap (λ (o : Option Cause). unwrap_or o one.cause) (sym first.here ∙ ap fault place ∙ second.here) in
    λ i. record { place = place i; cause = cause i }

-- ---- tests of one closure

-- two tests of one closure are one
tests_same : (history : History) (names : List Name) (f g : Name → Bool) → IsClosureTest history names f → IsClosureTest history names g → f ≡ g
tests_same history names f g first second =
    let same : (name : Name) → f name ≡ g name =
    λ name. two_ways (f name) (g name) (λ yes. second.all name (first.only name yes)) (λ yes. first.all name (second.only name yes)) in
    λ i. λ name. same name i

module _ (history : History) (change : Change) where
  -- ---- two answers of one kind

  -- the cause at each place, whichever test of the closure is taken
  same_at : (one other : Name → Bool) → IsClosureTest history change.deps one → IsClosureTest history change.deps other
      → (place : ℕ) → fault_at history one change.ops place ≡ fault_at history other change.ops place
  same_at one other first second place =
      ap (λ (known : Name → Bool). fault_at history known change.ops place) (tests_same history change.deps one other first second)

  bad_same : (p q : ℕ) (a b : Cause) → IsFirstFault history change p a → IsFirstFault history change q b → BadChange p a ≡ BadChange q b
  bad_same p q a b first second =
      let at = same_at first.known second.known first.knows second.knows in
      let one : OpFault = record { place = p; cause = a } in
      let other : OpFault = record { place = q; cause = b } in
      let same : one ≡ other =
      first_same (fault_at history first.known change.ops) one other
      (record { here = first.here; none_before = first.none_before })
      (record { here = at q ∙ second.here; none_before = λ earlier before. at earlier ∙ second.none_before earlier before }) in
      ap (λ (fault : OpFault). BadChange fault.place fault.cause) same

  found_same : (one other : Change) → change_at history (name_of change) ≡ Some one → change_at history (name_of change) ≡ Some other → one ≡ other
  found_same one other first second = ap (λ (o : Option Change). unwrap_or o one) (sym first ∙ second)

  clash_same : (held given held2 given2 : List ℕ) → IsClash history change held given → IsClash history change held2 given2
      → Clash held given ≡ Clash held2 given2
  clash_same held given held2 given2 first second =
      let others : first.other ≡ second.other = found_same first.other second.other first.other_held second.other_held in
      let helds : held ≡ held2 =
      first.held_bytes.spelling ∙ ap (λ (c : Change). change_format.spelled c) others ∙ sym second.held_bytes.spelling in
      let givens : given ≡ given2 = first.given_bytes.spelling ∙ sym second.given_bytes.spelling in
      λ i. Clash (helds i) (givens i)

  -- ---- two answers of different kinds

  held_or_new : {A : Type 0} (other : Change) → change_at history (name_of change) ≡ Some other → is_held history (name_of change) ≡ false → A
  held_or_new other found new =
      absurd (both_ways (is_held history (name_of change)) new (ap (λ (o : Option Change). is_some o) found))

  ready_or_lacks : {A : Type 0} (names : List Name) → missing history change.deps ≡ [] → LacksDeps history change names → A
  ready_or_lacks names ready lacks =
      let none : length names ≡ 0 = ap (λ (ns : List Name). length ns) (lacks.lacking ∙ ready) in absurd (omega (arith, none, lacks.some))

  repeat_or_clash : {A : Type 0} (held given : List ℕ) → IsRepeat history change → IsClash history change held given → A
  repeat_or_clash held given repeats clash = absurd (clash.differs (found_same clash.other change clash.other_held repeats))

  bad_or_accepted : {A : Type 0} (place : ℕ) (cause : Cause) → IsFirstFault history change place cause → IsAccepted history change → A
  bad_or_accepted place cause bad accepted =
      absurd (never_both (fault_at history bad.known change.ops place) cause bad.here
      (same_at bad.known accepted.known bad.knows accepted.knows place ∙ accepted.none place))

  -- ---- any two answers

  faults_same : (one other : GraphFault) → one ≢ Memory → other ≢ Memory → IsRefused history change one → IsRefused history change other → one ≡ other
  faults_same Memory other given given2 first second = absurd (given refl)
  faults_same (Clash a b) Memory given given2 first second = absurd (given2 refl)
  faults_same (MissingDeps names) Memory given given2 first second = absurd (given2 refl)
  faults_same (BadChange place cause) Memory given given2 first second = absurd (given2 refl)
  faults_same (Clash a b) (Clash c d) given given2 first second = clash_same a b c d first second
  faults_same (Clash a b) (MissingDeps names) given given2 first second = held_or_new first.other first.other_held second.new
  faults_same (Clash a b) (BadChange place cause) given given2 first second = held_or_new first.other first.other_held second.new
  faults_same (MissingDeps names) (Clash a b) given given2 first second = held_or_new second.other second.other_held first.new
  faults_same (MissingDeps names) (MissingDeps others) given given2 first second = ap (λ (ns : List Name). MissingDeps ns) (first.lacking ∙ sym second.lacking)
  faults_same (MissingDeps names) (BadChange place cause) given given2 first second = ready_or_lacks names second.ready first
  faults_same (BadChange place cause) (Clash a b) given given2 first second = held_or_new second.other second.other_held first.new
  faults_same (BadChange place cause) (MissingDeps names) given given2 first second = ready_or_lacks names first.ready second
  faults_same (BadChange p a) (BadChange q b) given given2 first second = bad_same p q a b first.first second.first

  note_or_fault : {A : Type 0} (new : History) (note : AddNote) (fault : GraphFault) → fault ≢ Memory
      → IsNoted history change new note → IsRefused history change fault → A
  note_or_fault new note Memory given noted refused = absurd (given refl)
  note_or_fault new Added (Clash a b) given noted refused = held_or_new refused.other refused.other_held noted.0.new
  note_or_fault new Added (MissingDeps names) given noted refused = ready_or_lacks names noted.0.ready refused
  note_or_fault new Added (BadChange place cause) given noted refused = bad_or_accepted place cause refused.first noted.0.accepted
  note_or_fault new Repeat (Clash a b) given noted refused = repeat_or_clash a b noted.0 refused
  note_or_fault new Repeat (MissingDeps names) given noted refused = held_or_new change noted.0 refused.new
  note_or_fault new Repeat (BadChange place cause) given noted refused = held_or_new change noted.0 refused.new

  notes_same : (new new2 : History) (one other : AddNote) → IsNoted history change new one → IsNoted history change new2 other → (new ≡ new2) × (one ≡ other)
  notes_same new new2 Added Added first second = (first.1 ∙ sym second.1, refl)
  notes_same new new2 Added Repeat first second = held_or_new change second.0 first.0.new
  notes_same new new2 Repeat Added first second = held_or_new change first.0 second.0.new
  notes_same new new2 Repeat Repeat first second = (first.1 ∙ sym second.1, refl)

  pub one_answer : {new new2 : History} {one other : Result AddNote GraphFault} → IsAnswer history change new one → IsAnswer history change new2 other
      → (new ≡ new2) × (one ≡ other)
  one_answer (Noted new note noted) (Noted new2 note2 noted2) =
      let same = notes_same new new2 note note2 noted noted2 in (same.0, ap (λ (n : AddNote). Ok n) same.1)
  one_answer (Noted new note noted) (Refused fault given refused) = note_or_fault new note fault given noted refused
  one_answer (Refused fault given refused) (Noted new note noted) = note_or_fault new note fault given noted refused
  one_answer (Refused fault given refused) (Refused fault2 given2 refused2) =
      (refl, ap (λ (f : GraphFault). Err f) (faults_same fault fault2 given given2 refused refused2))
