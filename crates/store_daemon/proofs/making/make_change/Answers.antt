use Rattle.std.proofs.Common.{refl, ap, subst}
use Rattle.replica_store.specs.Calls.{IsNotMade}
use Rattle.daemon_history.specs.Shown.{shown}
use Rattle.store_daemon.proofs.making.make_change.Goals as goal

pub returns-in-Ok-clause-makes : goal.returns-in-Ok-clause-makes
returns-in-Ok-clause-makes g c =
    let makes = c.a_store_shows_what_its_daemon_holds.ensures.makes c.args.store.now c.make.new.self c.args.change.now.path c.args.change.now.delta
    c.in-Ok.field-0 c.in-Ok.ensures.made in
    record {
      is = makes;
      one =
          c.a_made_change_changes_one_text.ensures (shown c.args.store.now) (shown c.make.new.self) c.args.change.now.path c.args.change.now.delta
          (c.a_store_shows_what_its_daemon_holds.ensures.holds c.args.store.now (c.is_live-holds.ensures.store c.requires.live))
          makes c.in-Ok.ensures.made.added.may c.requires.can.fits c.normal_form.ensures;
    }

pub returns-in-Err-Clash-clause-makes : goal.returns-in-Err-Clash-clause-makes
returns-in-Err-Clash-clause-makes g c =
    let met =
    subst (IsNotMade c.args.store.now c.args.change.now.path c.args.change.now.delta c.make.new.self) c.in-Err-Clash.field-0-is
    c.in-Err-Clash.ensures.fault in
    record {
      clash = record { held = c.in-Err-Clash.held; given = c.in-Err-Clash.given };
      is =
          c.a_store_shows_what_its_daemon_holds.ensures.clashes c.args.store.now c.args.change.now.path c.args.change.now.delta
          c.in-Err-Clash.held c.in-Err-Clash.given met.0.clash;
      refusal_is = refl;
      same = ap shown met.1;
    }
