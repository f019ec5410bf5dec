use Rattle.std.proofs.Common.{ap, is_some, ◌≡◌, Some, true, subst, sym}
use Rattle.std.specs.Map.{set_value}
use Rattle.rpc_frame.specs.Stream.{StreamEnd}
use Rattle.daemon_core.specs.State.{is_number}
use Rattle.plain_world.specs.RawFrames.{Reader, read_behind}
use Rattle.kept_world.specs.Moves.{is_fed}
use Rattle.kept_world.specs.Steps.{kept_of}
use Rattle.kept_world.specs.Worlds.{KeptWorld, with_host}
use Rattle.daemon_host.specs.Streams.{IsReadAs}
use Rattle.daemon_world.specs.Hearing.{IsReadOn}
use Rattle.daemon_world.specs.Worlds.{world_of}
use Rattle.daemon_world.proofs.FedLemmas.{fed_at, reads_so, both_ok}
use Rattle.daemon_world.proofs.OrderLemmas.{host_set}
use Rattle.daemon_world.proofs.machine.Machine.read_piece.Goals as goal

pub invariant_of-self : goal.invariant_of-self
invariant_of-self c =
    let w = world_of c.self.inside.hosts.items c.self.inside.editors.items c.self.inside.owners.items in
    let fed = subst (λ (k : KeptWorld). is_fed k c.args.d c.args.c ≡ true) (sym c.self.view_is) c.requires in
    host_set w c.self.inside.owners.items c.args.d c.feed.new.self (ap is_some (fed_at w c.args.d c.args.c fed).runs) c.self.invariant

pub returns : goal.returns
returns c =
    let w = world_of c.self.inside.hosts.items c.self.inside.editors.items c.self.inside.owners.items in
    let h = c.in-Some.host in
    let slice = c.as_slice.result.now in
    both_ok c.feed.result
    (λ read. (r : Reader) (kept : StreamEnd) → kept_of h c.args.c ≡ Some kept → IsReadAs (read_behind r kept slice) read)
    (λ read. (r : Reader) (kept : StreamEnd) → kept_of h c.args.c ≡ Some kept
    → c.feed.new.self ≡ record h { readers = set_value (is_number c.args.c) h.readers (read_behind r kept slice).kept })
    (λ read. (r : Reader) → IsReadOn r c.args.self.now c.args.d c.args.c c.args.piece.now (with_host w c.args.d c.feed.new.self) read)
    (λ read reads keeps r.
    reads_so r c.args.self.now w c.args.d c.args.c c.args.piece.now slice c.index_mut-host.result.now h c.feed.new.self read c.self.view_is c.requires
    c.index_mut-host.ensures.value c.in-Some.is c.as_slice.ensures reads keeps)
    c.feed.ensures.read c.feed.ensures.kept
