use Rattle.std.proofs.Common.{ap, subst}
use Rattle.std.specs.Map.{keys_of}
use Rattle.std.specs.Map.Iter.{deref}
use Rattle.std.proofs.lemmas.Map.Iter.{rest_all}
use Rattle.replica_dir.specs.DirectoryView.{DirectoryView, HasNoEmptyPath}
use Rattle.replica_dir.proofs.MakeLemmas.{walked_all, kept_paths}
use Rattle.replica_dir.proofs.directories.Directory.paths.Goals as goal

pub returns-clause-members : goal.returns-clause-members
returns-clause-members c =
    kept_paths c.args.self.now.makes c.from_vec.result (subst HasNoEmptyPath (ap (λ (d : DirectoryView). d.makes) c.self.view_is) c.self.invariant)
    (walked_all c.from_vec.result c.loop-path.paths.items c.loop-path.path-iterator (keys_of c.args.self.now.makes) c.from_vec.ensures
    (rest_all deref c.loop-path.path-iterator c.next.new.self c.next.result c.in-None.is c.next.ensures.steps)
    c.loop-path.invariant)
