-- What the values of the code are in the words of the machines.
use Rattle.bridge_world.specs.declared.marks.State as kept_state
use Rattle.bridge_world.specs.declared.marks.State.TheVariants as state
use Rattle.bridge_world.specs.declared.marks.Cause as kept_cause
use Rattle.bridge_world.specs.declared.marks.Cause.TheVariants as cause
use Rattle.bridge_world.specs.declared.marks.Kind as kept_kind
use Rattle.bridge_world.specs.declared.marks.Kind.TheVariants as kind
use Rattle.bridge_world.specs.declared.marks.Mark as kept_mark
use Rattle.bridge_world.specs.declared.marks.Verdict as kept_verdict
use Rattle.bridge_world.specs.declared.marks.Verdict.TheVariants as verdict
use Rattle.bridge_world.specs.declared.editors.Message as kept_message
use Rattle.bridge_world.specs.declared.editors.Message.TheVariants as message
use Rattle.bridge_world.specs.Plain.{State, Opening, Open, Closed, Cause, NotOpen, AlreadyOpen, BadRevision, Other, Kind, OpenDone, Done, Failed, New, Old, Mark}
use Rattle.bridge_world.specs.Plain.{Verdict, Accepts, Refuses}
use Rattle.bridge_world.specs.Counted.{Message, Opens, Edits, Closes}

-- a state of an editor
abbrev pub as_state : kept_state.State → State
as_state state.Opening = Opening
as_state state.Open = Open
as_state state.Closed = Closed

-- a cause of a refusal
abbrev pub as_cause : kept_cause.Cause → Cause
as_cause cause.NotOpen = NotOpen
as_cause cause.AlreadyOpen = AlreadyOpen
as_cause cause.BadRevision = BadRevision
as_cause (cause.Other code) = Other code

-- what is under way to an editor
abbrev pub as_kind : kept_kind.Kind → Kind
as_kind kind.OpenDone = OpenDone
as_kind kind.Done = Done
as_kind (kind.Failed why) = Failed (as_cause why)
as_kind kind.New = New
as_kind kind.Old = Old

-- the same with its session
abbrev pub as_mark : kept_mark.Mark → Mark
as_mark m = record { session = m.session; kind = as_kind m.kind }

-- what the daemon makes of a message
abbrev pub as_verdict : kept_verdict.Verdict → Verdict
as_verdict verdict.Accepts = Accepts
as_verdict (verdict.Refuses why) = Refuses (as_cause why)

-- what an editor tells the daemon
abbrev pub as_message : kept_message.Message → Message
as_message (message.Opens content) = Opens content
as_message (message.Edits seen delta) = Edits seen delta
as_message message.Closes = Closes
