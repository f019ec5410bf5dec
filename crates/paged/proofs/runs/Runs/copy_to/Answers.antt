use Rattle.std.proofs.Common.{◌≡◌, ◌+◌, ◌≤◌, length, take, vec_len, ap, arith, rules, length-drop}
use Rattle.std.proofs.lemmas.List.{length-take-le}
use Rattle.paged.proofs.ReadingLemmas.{copied-more, skipped-more}
use Rattle.paged.proofs.runs.Runs.copy_to.Goals as goal

pub loop-left-preserved : goal.loop-left-preserved
loop-left-preserved g c =
    let l = c.loop-left in
    let run = c.run-run.result.now in
    let part = c.min-part.result in
    let most : part ≤ l.left = omega (arith, c.min-part.ensures) in
    let added : vec_len c.extend_from_slice.new.self ≡ vec_len l.items + length (take part run) = search rules in
    record {
      copied =
          copied-more c.args.self.now l.self run c.reserve.new.self.items l.items.items c.extend_from_slice.new.self.items c.args.count l.left part l.invariant.rest c.run-run.ensures.front
          l.invariant.copied (search rules) (omega (arith, c.min-part.ensures)) most l.invariant.most;
      rest = skipped-more c.args.self.now l.self c.skip.new.self c.args.count l.left part l.invariant.rest c.skip.ensures most l.invariant.most;
      within = omega (arith, length-drop part l.self, ap length c.skip.ensures, l.invariant.within);
      most = omega (arith, l.invariant.most);
      room = omega (arith, l.invariant.room, added, length-take-le part run (omega (arith, c.min-part.ensures)), c.extend_from_slice.ensures.capacity);
    }
