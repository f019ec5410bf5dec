use Rattle.std.proofs.lemmas.Result.{IfOk-weaker}
use Rattle.replica_dir.proofs.WinnerLemmas.{found_live, found_rising, none_rising, IfOk-from_IsOkAnd}
use Rattle.replica_dir.proofs.directories.Directory.live.Goals as goal

pub returns-in-Some-clause-members : goal.returns-in-Some-clause-members
returns-in-Some-clause-members c =
    rw (← c.self.view_is)
    (IfOk-weaker c.outside.result _ _
    (λ list kept. found_live (record { makes = c.self.inside.makes.entries; removes = c.self.inside.removes }) c.args.path.now _ list c.in-Some.ensures.value kept)
    c.outside.ensures.list)

pub returns-in-Some-clause-rising : goal.returns-in-Some-clause-rising
returns-in-Some-clause-rising c =
    IfOk-weaker c.outside.result _ _
    (λ list kept. found_rising (record { makes = c.self.inside.makes.entries; removes = c.self.inside.removes }) _ list c.outside.ensures.rising kept)
    c.outside.ensures.list

pub returns-in-None-clause-rising : goal.returns-in-None-clause-rising
returns-in-None-clause-rising c = IfOk-from_IsOkAnd c.empty.result _ _ none_rising c.empty.ensures
