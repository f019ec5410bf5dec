use Rattle.std.proofs.Common.{◌||◌, ◌∙◌, ap, sym, subst, cond, List, Some, None}
use Rattle.std.specs.List.{list_any}
use Rattle.tt_base.specs.declared.ids.ElemId.{ElemId}
use Rattle.replica_dir.specs.Ids.{is_id, has_id}
use Rattle.replica_dir.specs.DirectoryView.{is_made, is_removed}
use Rattle.replica_views.specs.Effects.{PathEffect, AreEffects}
use Rattle.replica_history.specs.declared.deeds.Made.{Made}
use Rattle.replica_history.specs.Deeds.{has_make}
use Rattle.replica_history.specs.Texts.{kept_at, begun, is_touched}
use Rattle.replica_history.specs.Standings.{standing_at}
use Rattle.replica_history.proofs.FollowLemmas.{IsBegunWith, IsEndedWith, grown_now, refs_now, may_join_now, readings_now, effects_now}
use Rattle.replica_history.proofs.following.follow.Goals as goal

pub deeds_of-requires-clause-grown : goal.deeds_of-requires-clause-grown
deeds_of-requires-clause-grown c =
    let n = c.requires.next in
    grown_now n.history n.change c.args.graph.now c.args.own.now.name c.args.ops.now c.args.directory.now c.args.texts.now n.is

pub deeds_of-requires-clause-refs : goal.deeds_of-requires-clause-refs
deeds_of-requires-clause-refs c =
    let n = c.requires.next in
    refs_now n.history n.change c.args.graph.now c.args.own.now.name c.args.ops.now c.args.directory.now c.args.texts.now n.is

pub join_all-requires : goal.join_all-requires
join_all-requires c =
    let n = c.requires.next in
    let deeds = c.in_ok-deeds.deeds in
    let b : IsBegunWith c.args.graph.now c.args.own.now.name c.args.ops.now c.args.texts.now c.begin_all.new.self deeds.makes deeds.objects deeds.removes deeds.groups =
    record {
      makes_are = c.in_ok-deeds.ensures.makes;
      objects_are = c.in_ok-deeds.ensures.objects;
      gone_are = c.in_ok-deeds.ensures.removes;
      groups_are = c.in_ok-deeds.ensures.groups;
      begun_are = λ q. c.in_ok-begin_all.ensures q ∙ ap (λ (ms : List Made). begun ms q (kept_at c.args.texts.now q)) c.as_slice.ensures;
    } in
    may_join_now n.history n.change c.args.graph.now c.args.own.now.name c.args.ops.now c.args.directory.now c.args.texts.now n.is c.begin_all.new.self deeds.makes
    deeds.objects deeds.removes deeds.groups b

pub returns-clause-readings : goal.returns-clause-readings
returns-clause-readings c =
    let n = c.requires.next in
    let deeds = c.in_ok-deeds.deeds in
    let b : IsBegunWith c.args.graph.now c.args.own.now.name c.args.ops.now c.args.texts.now c.begin_all.new.self deeds.makes deeds.objects deeds.removes deeds.groups =
    record {
      makes_are = c.in_ok-deeds.ensures.makes;
      objects_are = c.in_ok-deeds.ensures.objects;
      gone_are = c.in_ok-deeds.ensures.removes;
      groups_are = c.in_ok-deeds.ensures.groups;
      begun_are = λ q. c.in_ok-begin_all.ensures q ∙ ap (λ (ms : List Made). begun ms q (kept_at c.args.texts.now q)) c.as_slice.ensures;
    } in
    let e : IsEndedWith c.args.directory.now c.tell_makes.new.directory c.tell_removes.new.directory c.begin_all.new.self c.join_all.new.texts deeds.makes deeds.objects
    deeds.removes deeds.groups c.in_ok-deltas.deltas.entries =
    record {
      told_makes = λ path q.
          c.in_ok-tell_makes.ensures.makes path q
          ∙ ap (λ (ms : List Made). has_make ms path q || is_made c.args.directory.now path q) c.as_slice-3.ensures;
      removes_stay = c.tell_makes.ensures.removes;
      makes_stay = c.tell_removes.ensures.makes;
      told_removes = λ q.
          c.in_ok-tell_removes.ensures.removes q
          ∙ ap (λ (ids : List ElemId). list_any (λ id. is_id id q) ids || is_removed c.tell_makes.new.directory q) c.as_slice-4.ensures;
      joined = c.in_ok-deltas.ensures.joined;
      told = λ q none has. c.in_ok-deltas.ensures.told q none (ap (λ (ids : List ElemId). has_id ids q) c.as_slice-5.ensures ∙ has);
    } in
    readings_now n.history n.change c.args.graph.now c.args.own.now.name c.args.ops.now c.args.directory.now c.args.texts.now n.is c.begin_all.new.self deeds.makes
    deeds.objects deeds.removes deeds.groups b c.join_all.new.texts c.in_ok-deltas.deltas.entries c.tell_makes.new.directory c.tell_removes.new.directory e

pub returns-clause-effects : goal.returns-clause-effects
returns-clause-effects c = λ history change is.
    let deeds = c.in_ok-deeds.deeds in
    let b : IsBegunWith c.args.graph.now c.args.own.now.name c.args.ops.now c.args.texts.now c.begin_all.new.self deeds.makes deeds.objects deeds.removes deeds.groups =
    record {
      makes_are = c.in_ok-deeds.ensures.makes;
      objects_are = c.in_ok-deeds.ensures.objects;
      gone_are = c.in_ok-deeds.ensures.removes;
      groups_are = c.in_ok-deeds.ensures.groups;
      begun_are = λ q. c.in_ok-begin_all.ensures q ∙ ap (λ (ms : List Made). begun ms q (kept_at c.args.texts.now q)) c.as_slice.ensures;
    } in
    let e : IsEndedWith c.args.directory.now c.tell_makes.new.directory c.tell_removes.new.directory c.begin_all.new.self c.join_all.new.texts deeds.makes deeds.objects
    deeds.removes deeds.groups c.in_ok-deltas.deltas.entries =
    record {
      told_makes = λ path q.
          c.in_ok-tell_makes.ensures.makes path q
          ∙ ap (λ (ms : List Made). has_make ms path q || is_made c.args.directory.now path q) c.as_slice-3.ensures;
      removes_stay = c.tell_makes.ensures.removes;
      makes_stay = c.tell_removes.ensures.makes;
      told_removes = λ q.
          c.in_ok-tell_removes.ensures.removes q
          ∙ ap (λ (ids : List ElemId). list_any (λ id. is_id id q) ids || is_removed c.tell_makes.new.directory q) c.as_slice-4.ensures;
      joined = c.in_ok-deltas.ensures.joined;
      told = λ q none has. c.in_ok-deltas.ensures.told q none (ap (λ (ids : List ElemId). has_id ids q) c.as_slice-5.ensures ∙ has);
    } in
    subst (AreEffects history c.args.graph.now) (sym {A = List PathEffect} c.in_ok-effects.ensures.effects)
    (effects_now history change c.args.graph.now c.args.own.now.name c.args.ops.now c.args.directory.now c.args.texts.now is c.begin_all.new.self deeds.makes
    deeds.objects deeds.removes deeds.groups b c.join_all.new.texts c.in_ok-deltas.deltas.entries c.tell_makes.new.directory c.tell_removes.new.directory e
    c.in_ok-standings.standings.entries c.in_ok-effects.ensures.rising
    (λ path.
    c.in_ok-standings.ensures path
    ∙ ap (λ (ids : List ElemId). cond (is_touched c.begin_all.new.self ids path) (Some (standing_at c.begin_all.new.self c.args.directory.now path)) None)
    c.as_slice-2.ensures))
