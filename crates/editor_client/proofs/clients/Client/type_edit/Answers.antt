use Rattle.std.proofs.Common.{◌≡◌, ◌+◌, ◌≤◌, false, length, sym, ap, ◌∙◌, arith}
use Rattle.text_position.specs.Changes.{Change}
use Rattle.editor_client.specs.Editor.{Editor, change_at, typed, is_closed}
use Rattle.editor_client.proofs.TypingLemmas.{typed_closed, typed_open, body_typed}
use Rattle.editor_client.proofs.clients.Client.type_edit.Goals as goal

pub returns-then-is_closed-clause-ok : goal.returns-then-is_closed-clause-ok
returns-then-is_closed-clause-ok c =
    let i = c.self.inside in
    let change : Change = change_at c.args.at c.args.gone c.args.text.now in
    let e : Editor = record { uri = i.uri; text = i.text; state = i.state; requests = i.requests; last_open = i.last_open; own = i.own; shown = i.shown } in
    let forward : c.args.at ≤ c.args.at + c.args.gone = omega arith in
    let within : c.args.at + c.args.gone ≤ length i.text = omega (arith, c.len-length.ensures, c.if-at-length.false, c.if-gone-length.false) in
    typed_closed change e c.splice_text.new.self forward within c.in_ok-splice_text.ensures.ok (sym c.is_closed.ensures ∙ c.if-is_closed.true)
    ∙ ap (typed change) c.self.view_is

pub returns-clause-ok : goal.returns-clause-ok
returns-clause-ok c =
    let i = c.self.inside in
    let change : Change = change_at c.args.at c.args.gone c.args.text.now in
    let e : Editor = record { uri = i.uri; text = i.text; state = i.state; requests = i.requests; last_open = i.last_open; own = i.own; shown = i.shown } in
    let forward : c.args.at ≤ c.args.at + c.args.gone = omega arith in
    let within : c.args.at + c.args.gone ≤ length i.text = omega (arith, c.len-length.ensures, c.if-at-length.false, c.if-gone-length.false) in
    typed_open change e c.splice_text-2.new.self forward within c.in_ok-splice_text-2.ensures.ok (sym c.is_closed.ensures ∙ c.if-is_closed.false)
    ∙ ap (typed change) c.self.view_is

pub returns-clause-body : goal.returns-clause-body
returns-clause-body c =
    let change : Change = change_at c.args.at c.args.gone c.args.text.now in
    let not_closed : is_closed c.args.self.now.state ≡ false =
    ap (λ (e : Editor). is_closed e.state) (sym c.self.view_is) ∙ sym c.is_closed.ensures ∙ c.if-is_closed.false in
    body_typed change c.args.self.now c.in_ok-body.body c.in_ok-body.ensures.body not_closed
