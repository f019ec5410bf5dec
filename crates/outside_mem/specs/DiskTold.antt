-- What a disk in memory tells, and that it is told soundly.
use Rattle.std.specs.Prelude.{◌≡◌, ◌⊎◌, ◌≤◌, ℕ, Bool, true, false, List, [], ◌∷◌, ◌++◌, length, drop, map, fold}
use Rattle.std.proofs.Common.{inl, inr, sym, subst, append_assoc}
use Rattle.std.proofs.lemmas.List.{append-nil}
use Rattle.outside.specs.DiskMeaning.{DiskMeaning, MayLeave, IsSound}
use Rattle.outside.specs.Images.{Write, IsImage}
use Rattle.outside.specs.Plan.{Arming}
use Rattle.outside.proofs.MadeImages.{image_more, image_overwritten, image_itself}
use Rattle.outside_mem.specs.DiskHistory.{Tried, DiskState, DiskHistory, content_after, seen_of, writes_of, IsImageOf, IsImageOfAny}

abbrev pub disk_meaning : DiskHistory → Arming → Bool → ℕ → DiskMeaning
disk_meaning history arming may_fail faults = record {
  told = Unit {0};
  seen = seen_of history.present;
  synced = history.present.synced;
  writes = writes_of history.present;
  moment = length history.past;
  since = λ t image. IsImageOf history.present image ⊎ IsImageOfAny (drop t history.past) image;
  calls = arming.calls;
  plan = record { stop = arming.stop; may_fail = may_fail };
  faults = faults;
}

none_past : (past : List DiskState) (image : List ℕ) → IsImageOfAny (drop (length past) past) image → ⊥
none_past [] image had = had
none_past (state ∷ past) image had = none_past past image had

-- the content after one write more, made or failed, is an image
seen_on : (synced : List ℕ) (before : List Write) (tried : List Tried) (image : List ℕ) → IsImage synced before image → IsImage synced (before ++ map (λ (t : Tried). t.write) tried) (fold content_after image tried)
seen_on synced before [] image is = subst (λ ws. IsImage synced ws image) (sym (append-nil before)) is
seen_on synced before (one ∷ more) image is =
    let after_one : IsImage synced (before ++ one.write ∷ []) (content_after image one) =
    elim one.made as (λ made. IsImage synced (before ++ one.write ∷ []) (content_after image (record { write = one.write; made = made }))) [
      | true ↦ image_overwritten synced before image one.write is
      | false ↦ image_more synced before image one.write is
    ] in
    subst (λ ws. IsImage synced ws (fold content_after (content_after image one) more)) (append_assoc before (one.write ∷ []) (map (λ (t : Tried). t.write) more))
    (seen_on synced (before ++ one.write ∷ []) more (content_after image one) after_one)

pub disk_is_sound : (history : DiskHistory) (arming : Arming) (may_fail : Bool) (faults : ℕ) → IsSound (disk_meaning history arming may_fail faults)
disk_is_sound history arming may_fail faults = record {
  counts_now = λ t image early left. inl left.image;
  only_now = λ image left. elim left [
    | inl now ↦ record { told = tt; image = now }
    | inr had ↦ absurd (none_past history.past image had)
  ];
  reads_an_image = λ told. seen_on history.present.synced [] history.present.tried history.present.synced (image_itself history.present.synced);
}
