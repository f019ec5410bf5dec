use Rattle.std.proofs.Common.{ℕ, ◌+◌, ◌<◌, ◌≤◌, ◌^◌, length, subst, sym, arith, ◌∙◌}
use Rattle.std.specs.List.{AllByRecursion, count_by}
use Rattle.std.proofs.lemmas.List.Sums.{count_by-le-length}
use Rattle.change_codec.specs.Encoding.{op_field}
use Rattle.replica_views.specs.Made.{is_made_by}
use Rattle.replica_views.proofs.ToldLemmas.{heads_told}
use Rattle.change_making.proofs.FitsLemmas.{actor_fits, u64_fits, names_fit, ops_fit, change_fits}
use Rattle.change_making.proofs.HeadLemmas.{heads_fit}
use Rattle.change_making.proofs.making.own_change.Goals as goal

pub new-requires : goal.new-requires
new-requires c =
    let few : count_by (is_made_by c.args.actor) c.args.graph.now ≤ length c.args.graph.now =
    count_by-le-length (is_made_by c.args.actor) c.args.graph.now in
    let own = c.requires.own in
    let room = c.requires.room in
    change_fits _ (actor_fits c.args.actor c.actor_length.ensures.long c.actor_length.ensures.bytes)
    (u64_fits (c.args.own + 1) (omega (arith, few, own, room)))
    (names_fit c.in_ok-deps.deps (heads_fit c.args.graph.now c.requires.grown c.in_ok-deps.deps c.in_ok-deps.ensures) c.in_ok-deps.ensures.rising
    (subst (λ (n : ℕ). n < 2 ^ 64) c.len.ensures c.len.type_inv))
    (ops_fit c.from_vec-listed.result (subst (AllByRecursion op_field.Fits) (sym c.from_vec-listed.ensures) c.requires.ops)
    (subst (λ (n : ℕ). n < 2 ^ 64) c.len-2.ensures c.len-2.type_inv))

pub returns : goal.returns
returns c =
    c.new.ensures
    ∙ (λ i. record {
      actor = c.args.actor;
      seq = c.requires.own i + 1;
      deps = heads_told c.args.graph.now c.requires.grown c.in_ok-deps.deps c.in_ok-deps.ensures i;
      ops = c.from_vec-listed.ensures i;
    })
