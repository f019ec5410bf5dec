use Rattle.std.proofs.Common.{drop}
use Rattle.file_uri.specs.UriOf.{uri_of}
use Rattle.daemon_links.proofs.SendingLemmas.{Writes}
use Rattle.daemon_links.proofs.sending.frame_messages.Given as goal

abbrev pub invariant-loop-frame : goal.invariant-loop-frame
invariant-loop-frame l = Writes (uri_of l.base l.path) l.text l.queue l.messages.items l.reached (drop l.frame-index l.queue)
