-- What comes of adding a change.
use Rattle.std.specs.Prelude.{◌≡◌, ◌≢◌, Result, Ok, Err}
use Rattle.change_codec.specs.Change.{Change}
use Rattle.change_graph.specs.History.{History, with_change}
use Rattle.change_graph.specs.Answers.{IsRepeat, IsClash, LacksDeps, IsBad, IsNext}
use Rattle.change_graph.specs.declared.faults.AddNote.{AddNote}
use Rattle.change_graph.specs.declared.faults.AddNote.TheVariants.{Added, Repeat}
use Rattle.change_graph.specs.declared.faults.GraphFault.{GraphFault}
use Rattle.change_graph.specs.declared.faults.GraphFault.TheVariants.{Clash, MissingDeps, BadChange, Memory}

-- it was added, or it was held before and nothing changed
abbrev pub IsNoted : History → Change → History → AddNote → Type 0
IsNoted old change new Added = IsNext old change × (new ≡ with_change old change)
IsNoted old change new Repeat = IsRepeat old change × (new ≡ old)

-- the cause for which it is refused
abbrev pub IsRefused : History → Change → GraphFault → Type 0
IsRefused history change (Clash held given) = IsClash history change held given
IsRefused history change (MissingDeps names) = LacksDeps history change names
IsRefused history change (BadChange place cause) = IsBad history change place cause
IsRefused history change Memory = Unit {0}

-- An answer, and the history behind it, want of memory apart. Of a history and a change there is one at most.
pub data IsAnswer (old : History) (change : Change) : History → Result AddNote GraphFault → Type 0 where
  Noted : (new : History) (note : AddNote) → IsNoted old change new note → IsAnswer old change new (Ok note)
  Refused : (fault : GraphFault) → fault ≢ Memory → IsRefused old change fault → IsAnswer old change old (Err fault)
