use Rattle.std.proofs.Common.{◌≡◌, List, take, subst}
use Rattle.std.proofs.lemmas.List.{take_all}
use Rattle.journal_format.specs.declared.records.Record.{Record}
use Rattle.replica_views.specs.Views.{beginning}
use Rattle.replica_store.specs.Records.{no_notes, history_from, notes_from, AreTaken}
use Rattle.replica_disk.specs.Loading.{StopsAt}
use Rattle.replica_disk.specs.declared.loading.Refusal.{Refusal}
use Rattle.replica_disk.proofs.Loads.{history_more, notes_more, taken_more, encoding_here, refused_here}
use Rattle.replica_disk.proofs.loading.load.Goals as goal

pub loop-place-preserved : goal.loop-place-preserved
loop-place-preserved c =
    let rs = c.args.records.now in
    let i = c.loop-place.place in
    let x = c.index-records-place.result in
    let old = c.loop-place.loaded in
    let new = c.load_record.new.loaded in
    let so = c.loop-place.invariant in
    let inside = c.loop-place-test.true in
    let is = c.index-records-place.is in
    record {
      live = c.in-Ok.ensures.live;
      history_is = history_more rs i x inside is old.replica.history new.replica.history so.history_is c.in-Ok.ensures.history;
      notes_are = notes_more rs i x inside is old.notes.entries new.notes.entries so.notes_are c.in-Ok.ensures.notes;
      taken = taken_more rs i x inside is old.replica.history so.history_is so.taken c.in-Ok.ensures.taken;
    }

pub returns-in-Err-Refused : goal.returns-in-Err-Refused
returns-in-Err-Refused c =
    let rs = c.args.records.now in
    let i = c.loop-place.place in
    let x = c.index-records-place.result in
    let old = c.loop-place.loaded in
    let so = c.loop-place.invariant in
    record {
      live = tt;
      history = tt;
      notes = tt;
      taken = tt;
      inside = c.loop-place-test.true;
      first = λ each.
          refused_here rs i x c.loop-place-test.true c.index-records-place.is old.replica.history so.history_is so.taken
          (subst (λ (r : Refusal). StopsAt old.replica.history x r) c.in-Err-Refused.field-0-is
          (c.in-Err-Refused.ensures.refused (encoding_here rs i x c.loop-place-test.true c.index-records-place.is each)));
    }

pub returns : goal.returns
returns c =
    let rs = c.args.records.now in
    let so = c.loop-place.invariant in
    let whole : take c.loop-place.place rs ≡ rs = take_all c.loop-place.place rs c.loop-place-test.false in
    record {
      live = so.live;
      history = subst (λ (l : List Record). c.loop-place.loaded.replica.history ≡ history_from beginning l) whole so.history_is;
      notes = subst (λ (l : List Record). c.loop-place.loaded.notes.entries ≡ notes_from no_notes l) whole so.notes_are;
      taken = subst (AreTaken beginning) whole so.taken;
      inside = tt;
      first = λ each. tt;
    }
