-- What holds of every message, as statements.
use Rattle.std.specs.Prelude.{◌≡◌, [], Err}
use Rattle.rpc_message.specs.declared.messages.FromEditor.{FromEditor}
use Rattle.daemon_core.specs.Refusing.{Refused}
use Rattle.daemon_events.specs.Serving.{clashes}
use Rattle.daemon_events.specs.Wanting.{Desk, wanted}

-- no message is refused because two changes have one name, before a change is made
abbrev pub NeverClashes : Type 0
NeverClashes = (d : Desk) (message : FromEditor) (refused : Refused) → wanted d message ≡ Err refused → clashes refused.refusal ≡ []
