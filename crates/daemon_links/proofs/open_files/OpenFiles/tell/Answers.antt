use Rattle.std.proofs.Common.{ap, ◌∙◌, ◌++◌, List}
use Rattle.delta.specs.Cells.{base_length}
use Rattle.editor_bridge.specs.Link.{with_pushed}
use Rattle.editor_bridge.specs.declared.frames.BridgeFrame.{BridgeFrame}
use Rattle.file_uri.specs.UriOf.{uri_of}
use Rattle.rpc_message.specs.declared.messages.ToEditor.TheVariants.{Edit}
use Rattle.text_position.specs.Changes.{edits_of}
use Rattle.daemon_core.specs.Outputs.{send}
use Rattle.daemon_core.specs.declared.events.Output.{Output}
use Rattle.daemon_links.specs.Changing.{effect_of}
use Rattle.daemon_links.proofs.TellLemmas.{none_told, one_told, may_push, may_fit, edit_sent, one_read, untold_read}
use Rattle.daemon_links.proofs.open_files.OpenFiles.tell.Goals as goal

pub returns-in_default-clause-links : goal.returns-in_default-clause-links
returns-in_default-clause-links c =
    rw c.get_mut.follows.holds-at-none
    (none_told c.args.change.now.path (with_pushed c.args.change.now.delta) c.self.inside.links.entries c.args.self.now c.self.view_is c.in_default.ensures.value)

pub push-requires-clause-room : goal.push-requires-clause-room
push-requires-clause-room c =
    may_push c.args.text.now c.args.change.now.path c.self.inside.links.entries c.args.self.now c.in-Some.link.now c.requires.told c.self.view_is c.in-Some.ensures.value

pub push-requires-clause-fits : goal.push-requires-clause-fits
push-requires-clause-fits c =
    ap base_length c.in_ok-copied.ensures
    ∙ may_fit c.args.text.now c.args.change.now.path c.args.change.now.delta c.self.inside.links.entries c.args.self.now c.in-Some.link.now
    c.requires.told c.self.view_is c.in-Some.ensures.value c.requires.fits

pub returns-clause-links : goal.returns-clause-links
returns-clause-links c =
    one_told c.args.change.now.path (with_pushed c.args.change.now.delta) c.self.inside.links.entries c.args.self.now _ c.in-Some.link.now c.push.new.self c.self.view_is
    c.get_mut.ensures.ordered c.in-Some.ensures.value (c.get_mut.follows.holds c.push.new.self).0
    (c.in_ok-frame.ensures.ok ∙ ap (λ d. with_pushed d c.in-Some.link.now) c.in_ok-copied.ensures)

pub returns-clause-sent : goal.returns-clause-sent
returns-clause-sent c = c.in_ok-push.ensures.items ∙ ap (λ (o : List Output). c.args.sent.now.items ++ o)
    (edit_sent c.args.base.now c.args.n (effect_of c.args.change.now) c.args.text.now c.self.inside.links.entries c.args.self.now c.in-Some.link.now
    c.in_ok-send.field-0 c.requires.told c.self.view_is c.in-Some.ensures.value
    (c.in_ok-send.ensures.frame
    ∙ ap (send c.args.n)
    (c.in_ok-message.ensures
    ∙ (ap (λ (f : BridgeFrame). Edit (uri_of c.args.base.now c.args.change.now.path) f.revision (edits_of c.args.text.now f.delta)) c.in_ok-frame.ensures.frame
    ∙ ap (λ d. Edit (uri_of c.args.base.now c.args.change.now.path) c.in-Some.link.now.taken (edits_of c.args.text.now d)) c.in_ok-copied.ensures))))

pub returns-in_default-clause-read : goal.returns-in_default-clause-read
returns-in_default-clause-read c =
    untold_read c.args.base.now c.args.n (effect_of c.args.change.now) c.self.inside.links.entries c.args.self.now c.self.view_is c.in_default.ensures.value

pub returns-clause-read : goal.returns-clause-read
returns-clause-read c =
    one_read c.args.base.now c.args.n (effect_of c.args.change.now) c.args.text.now c.self.inside.links.entries c.args.self.now c.in-Some.link.now
    c.in_ok-message.message c.requires.told c.self.view_is c.in-Some.ensures.value
    (c.in_ok-message.ensures
    ∙ (ap (λ (f : BridgeFrame). Edit (uri_of c.args.base.now c.args.change.now.path) f.revision (edits_of c.args.text.now f.delta)) c.in_ok-frame.ensures.frame
    ∙ ap (λ d. Edit (uri_of c.args.base.now c.args.change.now.path) c.in-Some.link.now.taken (edits_of c.args.text.now d)) c.in_ok-copied.ensures))
    c.in_ok-send.ensures.reads
