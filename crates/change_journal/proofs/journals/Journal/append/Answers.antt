use Rattle.change_journal.proofs.journals.Journal.append.Goals as goal

pub returns-clause-durable : goal.returns-clause-durable
returns-clause-durable g c = rw (← c.self.view_is) c.in_ok-append_held.ensures.durable
