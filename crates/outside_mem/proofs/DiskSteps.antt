-- What each call of a disk in memory does to what it tells.
use Rattle.std.proofs.Common.{◌≡◌, ℕ, ◌+◌, ◌-◌, ◌^◌, ◌≤◌, ◌⊎◌, Bool, true, false, List, [], ◌∷◌, ◌++◌, length, take, drop, map, fold, min, Ok, Err, refl, sym, ap, ◌∙◌, subst, inl, inr, arith, length-append}
use Rattle.std.proofs.lemmas.List.{drop-append-le, map-append}
use Rattle.std.proofs.lemmas.List.Sums.{fold-append}
use Rattle.outside.specs.Calls.{counted}
use Rattle.outside.specs.DiskCalls.{Elapses, IsUnchanged, Measures, Reads, Writes, Syncs}
use Rattle.outside.specs.Faults.{Rose}
use Rattle.outside.specs.Images.{Write, IsImage, overwritten}
use Rattle.outside.specs.Plan.{Arming, has_come}
use Rattle.outside.specs.declared.disks.Fault.{Fault}
use Rattle.outside.specs.declared.disks.DiskFault.{DiskFault}
use Rattle.outside.specs.declared.disks.DiskFault.TheVariants.{Failed, Memory}
use Rattle.outside.proofs.MadeImages.{image_more, image_itself}
use Rattle.outside_mem.specs.DiskHistory.{Tried, DiskState, DiskHistory, content_after, seen_of, writes_of, with_write, with_sync, synced_behind, IsImageOf, IsImageOfAny}
use Rattle.outside_mem.specs.DiskTold.{disk_meaning}

of_any_or_last : (states : List DiskState) (last : DiskState) (image : List ℕ) → IsImageOfAny (states ++ last ∷ []) image → IsImageOf last image ⊎ IsImageOfAny states image
of_any_or_last [] last image (inl of_last) = inl of_last
of_any_or_last [] last image (inr of_rest) = elim of_rest [ ]
of_any_or_last (state ∷ states) last image (inl of_state) = inr (inl of_state)
of_any_or_last (state ∷ states) last image (inr of_rest) = elim (of_any_or_last states last image of_rest) [ inl of_last ↦ inl of_last | inr of_any ↦ inr (inr of_any) ]

of_last_in : (states : List DiskState) (last : DiskState) (image : List ℕ) → IsImageOf last image → IsImageOfAny (states ++ last ∷ []) image
of_last_in [] last image of_last = inl of_last
of_last_in (state ∷ states) last image of_last = inr (of_last_in states last image of_last)

of_any_in : (states : List DiskState) (last : DiskState) (image : List ℕ) → IsImageOfAny states image → IsImageOfAny (states ++ last ∷ []) image
of_any_in [] last image of_none = elim of_none [ ]
of_any_in (state ∷ states) last image (inl of_state) = inl of_state
of_any_in (state ∷ states) last image (inr of_rest) = inr (of_any_in states last image of_rest)

-- the state does not change
pub elapses_same : (history : DiskHistory) (old new : Arming) (may_fail : Bool) (faults now : ℕ) → new.stop ≡ old.stop → faults ≤ now → Elapses (disk_meaning history old may_fail faults) (disk_meaning history new may_fail now)
elapses_same history old new may_fail faults now plan more = record {
  told = λ told. told;
  was_told = λ told. told;
  later = omega arith;
  nothing_else = λ t image early left. inl left;
  keeps = λ t image early left. left;
  plan = ap (λ stop. record { stop = stop; may_fail = may_fail }) plan;
  faults = more;
}

-- the state changes: the old one is past
pub elapses_more : (history : DiskHistory) (present : DiskState) (old new : Arming) (may_fail : Bool) (faults now : ℕ) → new.stop ≡ old.stop → faults ≤ now → Elapses (disk_meaning history old may_fail faults) (disk_meaning (record { present = present; past = history.past ++ history.present ∷ [] }) new may_fail now)
elapses_more history present old new may_fail faults now plan more = record {
  told = λ told. told;
  was_told = λ told. told;
  later = omega (arith, length-append history.past (history.present ∷ []));
  nothing_else = λ t image early left. elim left [
    | inl of_now ↦ inr (record { told = tt; image = of_now })
    | inr had ↦ inl (of_any_or_last (drop t history.past) history.present image (subst (λ states. IsImageOfAny states image) (drop-append-le t history.past (history.present ∷ []) early) had))
  ];
  keeps = λ t image early left. inr (subst (λ states. IsImageOfAny states image) (sym (drop-append-le t history.past (history.present ∷ []) early))
      (elim left [
        | inl of_old ↦ of_last_in (drop t history.past) history.present image of_old
        | inr had ↦ of_any_in (drop t history.past) history.present image had
      ]));
  plan = ap (λ stop. record { stop = stop; may_fail = may_fail }) plan;
  faults = more;
}

elapses_behind : (present : DiskState) (past : List DiskState) (tried : List Tried) (old new : Arming) (may_fail : Bool) (faults now : ℕ) → new.stop ≡ old.stop → faults ≤ now → Elapses (disk_meaning (record { present = present; past = past }) old may_fail faults) (disk_meaning (synced_behind present past tried) new may_fail now)
elapses_behind present past [] old new may_fail faults now plan more = elapses_same (record { present = present; past = past }) old new may_fail faults now plan more
elapses_behind present past (one ∷ tried) old new may_fail faults now plan more = elapses_more (record { present = present; past = past }) (record { synced = seen_of present; tried = [] }) old new may_fail faults now plan more

-- the state after a sync
state_behind : (synced : List ℕ) (tried : List Tried) (past : List DiskState) → (synced_behind (record { synced = synced; tried = tried }) past tried).present ≡ record { synced = fold content_after synced tried; tried = [] }
state_behind synced [] past = refl
state_behind synced (one ∷ tried) past = refl

pub present_synced : (history : DiskHistory) → (with_sync history).present ≡ record { synced = seen_of history.present; tried = [] }
present_synced history = state_behind history.present.synced history.present.tried history.past

-- what a read gives after a write
pub seen_more : (state : DiskState) (one : Tried) → seen_of (record { synced = state.synced; tried = state.tried ++ one ∷ [] }) ≡ content_after (seen_of state) one
seen_more state one = fold-append content_after state.synced state.tried (one ∷ [])

writes_more : (state : DiskState) (one : Tried) → writes_of (record { synced = state.synced; tried = state.tried ++ one ∷ [] }) ≡ writes_of state ++ one.write ∷ []
writes_more state one = map-append (λ (t : Tried). t.write) state.tried (one ∷ [])

-- a call that changes nothing but the count of faults
unchanged : (history : DiskHistory) (arming : Arming) (may_fail : Bool) (faults now : ℕ) → IsUnchanged (disk_meaning history arming may_fail faults) (disk_meaning history arming may_fail now)
unchanged history arming may_fail faults now = record {
  holds = record { told = λ told. told; was_told = λ told. told; seen = refl; synced = refl; writes = refl; moment = refl; since = λ t image. (λ left. left, λ left. left) };
  calls = refl;
}

-- one call counted
abbrev count : Arming → Arming
count arming = record { stop = arming.stop; calls = counted arming.calls }

pub write_made : (history : DiskHistory) (write : Write) (arming : Arming) (may_fail : Bool) (faults : ℕ) → has_come arming.stop (counted arming.calls) ≡ false → Writes (disk_meaning history arming may_fail faults) (disk_meaning (with_write history (record { write = write; made = true })) (count arming) may_fail faults) write (Ok tt)
write_made history write arming may_fail faults goes_on = record {
  elapses = elapses_more history (record { synced = history.present.synced; tried = history.present.tried ++ record { write = write; made = true } ∷ [] }) arming (count arming) may_fail faults faults refl (omega arith);
  so = record {
    seen = λ told. seen_more history.present (record { write = write; made = true });
    added = record { synced = λ told. refl; writes = λ told. writes_more history.present (record { write = write; made = true }); calls = λ told. refl };
    succeeded = record { goes_on = goes_on; faults = refl };
  };
}

pub write_failed : (history : DiskHistory) (write : Write) (arming : Arming) (may_fail : Bool) (faults now : ℕ) → (may_fail ≡ false → has_come arming.stop (counted arming.calls) ≡ true) → faults ≤ now → Rose faults now → Writes (disk_meaning history arming may_fail faults) (disk_meaning (with_write history (record { write = write; made = false })) (count arming) may_fail now) write (Err Failed)
write_failed history write arming may_fail faults now cause more rose =
    let seen = seen_of history.present in
    record {
      elapses = elapses_more history (record { synced = history.present.synced; tried = history.present.tried ++ record { write = write; made = false } ∷ [] }) arming (count arming) may_fail faults now refl more;
      so = record {
        seen = λ told. subst (λ content. IsImage seen (write ∷ []) content) (sym (seen_more history.present (record { write = write; made = false }))) (image_more seen [] seen write (image_itself seen));
        added = record { synced = λ told. refl; writes = λ told. writes_more history.present (record { write = write; made = false }); calls = λ told. refl };
        failed = record { cause = cause; faults = rose };
      };
    }

pub nothing_written : (history : DiskHistory) (write : Write) (arming : Arming) (may_fail : Bool) (faults : ℕ) → Writes (disk_meaning history arming may_fail faults) (disk_meaning history arming may_fail faults) write (Err Memory)
nothing_written history write arming may_fail faults = record {
  elapses = elapses_same history arming arming may_fail faults faults refl (omega arith);
  so = record {
    unchanged = unchanged history arming may_fail faults faults;
    faults = refl;
  };
}

pub sync_made : (history : DiskHistory) (arming : Arming) (may_fail : Bool) (faults : ℕ) → has_come arming.stop (counted arming.calls) ≡ false → Syncs (disk_meaning history arming may_fail faults) (disk_meaning (with_sync history) (count arming) may_fail faults) (Ok tt)
sync_made history arming may_fail faults goes_on = record {
  elapses = elapses_behind history.present history.past history.present.tried arming (count arming) may_fail faults faults refl (omega arith);
  seen = λ told. ap seen_of (present_synced history);
  calls = λ told. refl;
  so = record {
    synced = λ told. ap (λ (state : DiskState). state.synced) (present_synced history);
    writes = λ told. ap writes_of (present_synced history);
    succeeded = record { goes_on = goes_on; faults = refl };
  };
}

pub sync_failed : (history : DiskHistory) (arming : Arming) (may_fail : Bool) (faults now : ℕ) (fault : Fault) → (may_fail ≡ false → has_come arming.stop (counted arming.calls) ≡ true) → faults ≤ now → Rose faults now → Syncs (disk_meaning history arming may_fail faults) (disk_meaning history (count arming) may_fail now) (Err fault)
sync_failed history arming may_fail faults now fault cause more rose = record {
  elapses = elapses_same history arming (count arming) may_fail faults now refl more;
  seen = λ told. refl;
  calls = λ told. refl;
  so = record { synced = λ told. refl; writes = λ told. refl; failed = record { cause = cause; faults = rose } };
}

-- a call that is not counted failed
pub measure_failed : (history : DiskHistory) (arming : Arming) (may_fail : Bool) (faults now : ℕ) (fault : Fault) → (may_fail ≡ false → has_come arming.stop arming.calls ≡ true) → faults ≤ now → Rose faults now → Measures (disk_meaning history arming may_fail faults) (disk_meaning history arming may_fail now) (Err fault)
measure_failed history arming may_fail faults now fault cause more rose = record {
  elapses = elapses_same history arming arming may_fail faults now refl more;
  unchanged = unchanged history arming may_fail faults now;
  so = record { cause = cause; faults = rose };
}

pub read_failed : (history : DiskHistory) (arming : Arming) (may_fail : Bool) (faults now place : ℕ) (buf : List ℕ) (fault : Fault) → (may_fail ≡ false → has_come arming.stop arming.calls ≡ true) → faults ≤ now → Rose faults now → Reads (disk_meaning history arming may_fail faults) (disk_meaning history arming may_fail now) place buf (Err fault)
read_failed history arming may_fail faults now place buf fault cause more rose = record {
  elapses = elapses_same history arming arming may_fail faults now refl more;
  unchanged = unchanged history arming may_fail faults now;
  so = record { cause = cause; faults = rose };
}
