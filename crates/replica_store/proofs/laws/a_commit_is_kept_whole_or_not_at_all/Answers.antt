use Rattle.replica_store.proofs.DiskLemmas.{store_shows, crash_shows, opens_showing}
use Rattle.replica_store.proofs.laws.a_commit_is_kept_whole_or_not_at_all.Goals as goal

pub returns : goal.returns
returns g c = record {
  now = store_shows;
  meanwhile = λ store again old new. crash_shows store again (g.D.Disk.meaning old) (g.D.Disk.meaning new);
  behind = λ again old new. opens_showing again (g.D.Disk.meaning old) (g.D.Disk.meaning new);
}
