use Rattle.std.proofs.Common.{rules, sym, ◌∙◌}
use Rattle.std.proofs.lemmas.Result.{on_ok_weaker}
use Rattle.daemon_history.specs.Shown.{shown}
use Rattle.store_daemon.proofs.FetchLemmas.{was_put}
use Rattle.store_daemon.proofs.fetching.fetch.Goals as goal

pub returns-in-Some : goal.returns-in-Some
returns-in-Some g c =
    on_ok_weaker c.put.result
    (was_put (shown c.args.store.now) c.args.files.now c.put.new.self c.args.path c.in-Some.text c.requires.at_hand (search rules)
    (sym c.in_ok-text.ensures.text ∙ c.in-Some.is))
    c.put.ensures.ok
