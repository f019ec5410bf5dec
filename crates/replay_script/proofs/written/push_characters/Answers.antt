use Rattle.std.proofs.Common.{◌≡◌, ◌++◌, string_bytes, sym, ap, ◌∙◌, append_assoc}
use Rattle.std.specs.Prelude.{encode_utf8_all}
use Rattle.std.specs.List.{flat_map}
use Rattle.std.specs.Str.{chars}
use Rattle.std.proofs.lemmas.Iterator.{YieldsList-from_chars}
use Rattle.std.proofs.lemmas.Iterator.Consumers.{YieldsList-end}
use Rattle.std.proofs.lemmas.List.{map-id}
use Rattle.replay_script.specs.Texts.{escaped}
use Rattle.replay_script.proofs.EscapeLemmas.{written_more}
use Rattle.replay_script.proofs.written.push_characters.Goals as goal

pub loop-ch-preserved : goal.loop-ch-preserved
loop-ch-preserved c =
    c.in_ok-push_escaped.ensures
    ∙ ap (λ t. t ++ encode_utf8_all (escaped c.in-Some.ch)) c.loop-ch.invariant
    ∙ append_assoc (string_bytes c.args.out.now) (encode_utf8_all (flat_map escaped c.loop-ch.yielded)) (encode_utf8_all (escaped c.in-Some.ch))
    ∙ ap (λ t. string_bytes c.args.out.now ++ t) (sym (written_more c.loop-ch.yielded c.in-Some.ch))

pub returns : goal.returns
returns c =
    let ended = YieldsList-end (YieldsList-from_chars c.args.text.now c.utf8.text cc) c.loop-ch.yielded _ c.loop-ch.yielded_by _ _ c.in-None.is c.next.ensures.steps in
    let all : chars c.args.text.now ≡ c.loop-ch.yielded = sym ended.0 ∙ map-id c.loop-ch.yielded in
    rw all c.loop-ch.invariant
