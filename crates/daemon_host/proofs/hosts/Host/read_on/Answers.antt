use Rattle.std.proofs.Common.{◌≡◌, ◌∙◌, Some, ap}
use Rattle.std.proofs.lemmas.Result.{err_from_is_err_and}
use Rattle.std.specs.Cmp.{nat_cmp_total}
use Rattle.std.specs.Map.{lookup, set_value}
use Rattle.std.specs.Ordering.{nat_cmp}
use Rattle.rpc_frame.specs.Stream.{StreamEnd}
use Rattle.daemon_core.specs.State.{is_number}
use Rattle.daemon_links.proofs.MapLemmas.{taken_out}
use Rattle.plain_world.specs.RawFrames.{read_behind}
use Rattle.kept_world.specs.Worlds.{KeptHost}
use Rattle.daemon_host.proofs.HostLemmas.{without_stream_is, kept_again}
use Rattle.daemon_host.proofs.hosts.Host.read_on.Goals as goal

pub returns-in_err-stream-clause-err : goal.returns-in_err-stream-clause-err
returns-in_err-stream-clause-err c =
    let p = err_from_is_err_and c.from_residual.result c.from_residual.ensures.1 in
    rw p.1
    (without_stream_is c.args.c c.self.inside.daemon c.self.inside.streams.entries c.args.self.now c.remove.new.self.entries c.self.view_is
    (c.remove.ensures.entries ∙ taken_out nat_cmp nat_cmp_total c.args.c c.self.inside.streams.entries c.len.ensures.ordered))

pub returns-in_err-insert-clause-err : goal.returns-in_err-insert-clause-err
returns-in_err-insert-clause-err c =
    let p = err_from_is_err_and c.from_residual-in_err-insert.result c.from_residual-in_err-insert.ensures.1 in
    rw p.1
    (without_stream_is c.args.c c.self.inside.daemon c.self.inside.streams.entries c.args.self.now c.insert.new.self.entries c.self.view_is
    (c.in_err-insert.ensures.err ∙ c.remove.ensures.entries ∙ taken_out nat_cmp nat_cmp_total c.args.c c.self.inside.streams.entries c.len.ensures.ordered))

pub returns-clause-kept : goal.returns-clause-kept
returns-clause-kept c = λ reader kept known.
    let es = c.self.inside.streams.entries in
    let found : Some c.in-Some.stream ≡ lookup (is_number c.args.c) es = c.in-Some.ensures.value in
    let both : Some c.in-Some.stream ≡ Some kept = found ∙ ap (λ (h : KeptHost). lookup (is_number c.args.c) h.readers) c.self.view_is ∙ known in
    let same : c.in-Some.stream ≡ kept = cc in
    kept_again c.args.c c.self.inside.daemon es c.args.self.now c.in-Some.stream c.in_ok-stream.stream c.remove.new.self.entries c.insert.new.self.entries
    c.self.view_is c.len.ensures.ordered found
    (c.remove.ensures.entries ∙ taken_out nat_cmp nat_cmp_total c.args.c es c.len.ensures.ordered) c.in_ok-insert.ensures.entries
    ∙ ap (λ (w : StreamEnd). record c.args.self.now { readers = set_value (is_number c.args.c) c.args.self.now.readers w })
    (c.in_ok-stream.ensures.kept reader ∙ ap (λ (s : StreamEnd). (read_behind reader s c.args.piece.now).kept) same)
