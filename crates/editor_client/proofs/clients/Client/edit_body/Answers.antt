use Rattle.std.proofs.Common.{◌≡◌, ◌+◌, [], ◌∷◌, ◌++◌, ap, ◌∙◌}
use Rattle.std.proofs.lemmas.Result.{IfOk-weaker}
use Rattle.serde_json.specs.Written.{compact_text}
use Rattle.tt_base.specs.declared.edits.TextEdit.{TextEdit}
use Rattle.text_position.specs.Changes.{Change, edit_for}
use Rattle.rpc_message.specs.Requests.{request}
use Rattle.rpc_message.specs.declared.messages.FromEditor.{FromEditor}
use Rattle.rpc_message.specs.declared.messages.FromEditor.TheVariants as message
use Rattle.editor_client.specs.Editor.{Editor}
use Rattle.editor_client.specs.Requests.{edit_request, body_of}
use Rattle.editor_client.proofs.clients.Client.edit_body.Goals as goal

pub returns-clause-body : goal.returns-clause-body
returns-clause-body c =
    let e = c.self.inside in
    let change : Change = record { start = c.args.start; end = c.args.end; text = c.args.text.now } in
    let edit : TextEdit = record { start = c.position_of.result; end = c.position_of-2.result; replacement = c.in_ok-copied.field-0 } in
    let places : edit ≡ edit_for e.text change =
    ap (λ p. record edit { start = p }) c.position_of.ensures.computed
    ∙ ap (λ p. record { start = (edit_for e.text change).start; end = p; replacement = c.in_ok-copied.field-0 }) c.position_of-2.ensures.computed
    ∙ ap (λ t. record (edit_for e.text change) { replacement = t }) c.in_ok-copied.ensures in
    let edits : c.from_vec.result ≡ edit_for e.text change ∷ [] =
    c.from_vec.ensures ∙ c.in_ok-push.ensures.items ∙ ap (λ l. l ++ edit ∷ []) c.new-edits.ensures.items ∙ ap (λ x. x ∷ []) places in
    let asked : message.Edit c.in_ok-copied-2.field-0 e.shown c.from_vec.result ≡ message.Edit e.uri e.shown (edit_for e.text change ∷ []) =
    ap (λ u. message.Edit u e.shown c.from_vec.result) c.in_ok-copied-2.ensures ∙ ap (message.Edit e.uri e.shown) edits in
    IfOk-weaker c.write_request.result (λ b. b ≡ compact_text (request (e.requests + 1) (message.Edit c.in_ok-copied-2.field-0 e.shown c.from_vec.result)))
    (λ b. b ≡ body_of (edit_request change c.args.self.now) c.args.self.now)
    (λ b is. is ∙ ap (λ (m : FromEditor). compact_text (request (e.requests + 1) m)) asked ∙ ap (λ (x : Editor). body_of (edit_request change x) x) c.self.view_is)
    c.write_request.ensures.text
