use Rattle.std.proofs.Common.{◌≡◌, ◌+◌, ◌-◌, ◌++◌, length, sym, ap, subst, ◌∙◌, arith, length-append}
use Rattle.std.proofs.lemmas.Bool.{eqb-true, eqb-false}
use Rattle.journal_format.specs.Read.{FindsFault}
use Rattle.journal_format.specs.Image.{group_field, open_group, actor_is_first}
use Rattle.journal_format.proofs.ImageLaws.{outside_is_bad, ended_is_bad, actor_is_bad, group_read, reads_on}
use Rattle.journal_format.proofs.groups.Progress.read_next.Goals as goal
use Rattle.journal_format.proofs.groups.Progress.read_next.Goals.{then-is_empty-via-then-is_empty, then-is_empty-via-else-is_empty+then-not-keeps_actor_first}

pub returns-in-Err-Outside-clause-read : goal.returns-in-Err-Outside-clause-read
returns-in-Err-Outside-clause-read c = λ bytes so_far.
    outside_is_bad bytes _ _ _ _ so_far (subst (λ e. FindsFault e (group_field.reads c.args.behind.now)) c.in-Err-Outside.field-0-is c.in-Err-Outside.ensures)

pub returns-then-is_empty-clause-read : goal.returns-then-is_empty-clause-read
returns-then-is_empty-clause-read c = λ bytes so_far.
    elim c.then-is_empty.branch [
      | then-is_empty-via-then-is_empty w ↦ ended_is_bad bytes _ _ _ _ _ _ so_far c.in-Ok.ensures (eqb-true _ _ (sym c.is_empty.ensures ∙ w.if-is_empty.true))
      | then-is_empty-via-else-is_empty+then-not-keeps_actor_first w ↦
          let first : w.keeps_actor_first.result ≡ actor_is_first (c.args.self.now.records.items ++ c.in-Ok.read.0.items) =
          rw (w.deref.ensures.value, w.deref-else-is_empty.ensures.value) at w.keeps_actor_first.ensures in
          actor_is_bad bytes _ _ _ _ _ _ so_far c.in-Ok.ensures (sym first ∙ w.if-not-keeps_actor_first.true)
    ]

pub overflow_sub-self : goal.overflow_sub-self
overflow_sub-self c =
    let read = group_read c.args.behind.now _ _ (λ i. omega (arith, c.type_inv.behind i)) c.in-Ok.ensures in
    omega (arith, ap length read.1, length-append (group_field.spelled c.in-Ok.read.0.items) c.in-Ok.read.1.now)

pub returns-clause-read : goal.returns-clause-read
returns-clause-read c = λ bytes so_far.
    let group = c.in-Ok.read.0.items in let behind = c.args.behind.now in let rest = c.in-Ok.read.1.now in let before = c.args.self.now in
    let read = group_read behind group rest (λ i. omega (arith, c.type_inv.behind i)) c.in-Ok.ensures in
    let first : c.keeps_actor_first.result ≡ actor_is_first (before.records.items ++ group) =
    rw (c.deref.ensures.value, c.deref-else-is_empty.ensures.value) at c.keeps_actor_first.ensures in
    let count : c.len.result ≡ length group = omega (arith, c.len.ensures) in
    let further : before.end + 1 + (length behind - length rest) ≡ before.end + length (open_group group) =
    omega (arith, ap length read.1, length-append (group_field.spelled group) rest) in
    rw (c.in_ok-append.ensures.items, c.in_ok-push_gates.ensures, count, further)
    (reads_on bytes before.records.items before.gates.items before.end group behind rest so_far read.1 read.0 (sym first ∙ c.if-not-keeps_actor_first.false))

pub returns-clause-rest : goal.returns-clause-rest
returns-clause-rest c =
    let read = group_read c.args.behind.now _ _ (λ i. omega (arith, c.type_inv.behind i)) c.in-Ok.ensures in (
      omega (arith, eqb-false _ _ (sym c.is_empty.ensures ∙ c.if-is_empty.false)),
      omega (arith, ap length read.1, length-append (group_field.spelled c.in-Ok.read.0.items) c.in-Ok.read.1.now),
    )
