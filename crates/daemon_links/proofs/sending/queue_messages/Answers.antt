use Rattle.std.proofs.Common.{◌∙◌}
use Rattle.std.proofs.lemmas.Result.{IfOk-weaker}
use Rattle.file_uri.specs.UriOf.{uri_of}
use Rattle.daemon_links.proofs.SendingLemmas.{queue_chain, queue_written}
use Rattle.daemon_links.proofs.sending.queue_messages.Goals as goal

pub frame_messages-requires : goal.frame_messages-requires
frame_messages-requires c =
    queue_chain c.confirmed_text.result.now c.args.link.now c.as_slice.result.now c.confirmed_text.ensures.base
    (c.as_slice.ensures ∙ c.requires.told) c.requires.chain

pub returns : goal.returns
returns c =
    IfOk-weaker c.frame_messages.result _ _
    (λ messages is.
    is
    ∙ queue_written (uri_of c.args.base.now c.args.path.now) c.confirmed_text.result.now c.args.link.now c.as_slice.result.now
    c.confirmed_text.ensures.base (c.as_slice.ensures ∙ c.requires.told))
    c.frame_messages.ensures
