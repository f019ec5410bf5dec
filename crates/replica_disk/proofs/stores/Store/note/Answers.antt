use Rattle.std.proofs.Common.{inl, inr, refl}
use Rattle.replica_disk.proofs.StoreLemmas.{was_live, other_note, notes_one, notes_store}
use Rattle.replica_disk.proofs.stores.Store.note.Goals as goal

pub invariant_of-self-2 : goal.invariant_of-self-2
invariant_of-self-2 g c = λ on.
    let live = was_live _ _ c.self.view_is c.requires.live in
    let kept = c.self.invariant live in (
      kept.0,
      notes_store _ live c.args.path.now c.args.note c.keep_note.new.staged c.keep_note.new.notes.entries c.in_ok-keep_note.ensures.notes
          c.in_ok-keep_note.ensures.staged kept.1,
    )

pub returns-then-is_kept-clause-ok : goal.returns-then-is_kept-clause-ok
returns-then-is_kept-clause-ok g c = rw (← c.self.view_is) (inl (c.is_kept.ensures.0 c.if-is_kept.true, refl))

pub returns-clause-ok : goal.returns-clause-ok
returns-clause-ok g c =
    let live = was_live _ _ c.self.view_is c.requires.live in
    rw (← c.self.view_is)
    (inr (
      other_note _ c.if-is_kept.false c.is_kept.ensures.1,
      notes_one _ live c.args.path.now c.args.note c.keep_note.new.staged c.keep_note.new.notes.entries c.in_ok-keep_note.ensures.notes
          c.in_ok-keep_note.ensures.staged,
    ))
