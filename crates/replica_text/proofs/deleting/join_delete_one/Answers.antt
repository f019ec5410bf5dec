use Rattle.std.proofs.Common.{◌≡◌, ◌+◌, ◌-◌, ◌<◌, true, false, List, ◌∷◌, ◌++◌, length, rules, subst, sym, ap, ap₂, ◌∙◌, arith}
use Rattle.std.specs.List.{count_by}
use Rattle.delta.specs.Cells.{covers, nothing, normal}
use Rattle.tt_base.specs.Elements.{is_alive, dead}
use Rattle.tt_base.specs.declared.elements.Element.{Element}
use Rattle.replica_text.specs.Tree.{without}
use Rattle.replica_text.specs.Joined.{Joins}
use Rattle.replica_text.proofs.MemberLemmas.{new_has, known_has}
use Rattle.replica_text.proofs.RunLemmas.{IsCut, cut_at}
use Rattle.replica_text.proofs.PlaceLemmas.{id_within}
use Rattle.replica_text.proofs.JoinLemmas.{joins_tombstone, joins_tombstone_again}
use Rattle.replica_text.proofs.CutLemmas.{if_ok, cut_front, cut_count, cut_killed, cut_is}
use Rattle.replica_text.proofs.deleting.join_delete_one.Goals as goal

pub unreachable-requires : goal.unreachable-requires
unreachable-requires g c =
    let old : List Element = g.E.Elements.elements c.args.elements.now in
    new_has c.args.id.now old c.in_default.ensures (known_has c.args.id.now old c.requires)

pub at-requires : goal.at-requires
at-requires g c = id_within (g.E.Elements.elements c.args.elements.now) c.in-Some.place c.args.id.now c.in-Some.ensures

pub alive_before-before-requires : goal.alive_before-before-requires
alive_before-before-requires g c =
    let within : c.in-Some.place < length (g.E.Elements.elements c.args.elements.now) =
    id_within (g.E.Elements.elements c.args.elements.now) c.in-Some.place c.args.id.now c.in-Some.ensures in
    omega (arith, within)

pub kill-requires : goal.kill-requires
kill-requires g c = id_within (g.E.Elements.elements c.args.elements.now) c.in-Some.place c.args.id.now c.in-Some.ensures

pub returns-then-not-at : goal.returns-then-not-at
returns-then-not-at g c =
    let old : List Element = g.E.Elements.elements c.args.elements.now in
    let cut : IsCut old c.in-Some.place c.args.id.now = cut_at old c.in-Some.place c.args.id.now c.in-Some.ensures in
    let answer : c.at.result.alive ≡ false = search rules in
    let gone : cut.element.alive ≡ false = ap (λ (e : Element). e.alive) (cut_is cut c.at.result c.at.ensures) ∙ answer in
    if_ok _ (Joins (without c.args.id.now) (λ known. known) old old) c.unchanged.result
    (λ d is. subst (Joins (without c.args.id.now) (λ known. known) old old)
    (sym (is ∙ ap (λ n. normal (covers true n nothing)) c.alive-count.ensures))
    (joins_tombstone_again c.args.id.now old cut.before cut.behind cut.element (g.met.E.Elements.distinct c.args.elements.now) cut.whole cut.id_is gone))
    c.unchanged.ensures

-- how many are visible before the element and in all
pub overflow_sub-count-2 : goal.overflow_sub-count-2
overflow_sub-count-2 g c =
    let old : List Element = g.E.Elements.elements c.args.elements.now in
    let cut : IsCut old c.in-Some.place c.args.id.now = cut_at old c.in-Some.place c.args.id.now c.in-Some.ensures in
    let answer : c.at.result.alive ≡ true = search rules in
    let alive : cut.element.alive ≡ true = ap (λ (e : Element). e.alive) (cut_is cut c.at.result c.at.ensures) ∙ answer in
    let all : c.alive-count.result ≡ count_by is_alive cut.before + (1 + count_by is_alive cut.behind) = c.alive-count.ensures ∙ cut_count cut alive in
    let front : c.alive_before-before.result ≡ count_by is_alive cut.before = c.alive_before-before.ensures ∙ ap (count_by is_alive) (cut_front cut) in
    omega (arith, all, front)

pub deleted-requires : goal.deleted-requires
deleted-requires g c =
    let old : List Element = g.E.Elements.elements c.args.elements.now in
    let cut : IsCut old c.in-Some.place c.args.id.now = cut_at old c.in-Some.place c.args.id.now c.in-Some.ensures in
    let answer : c.at.result.alive ≡ true = search rules in
    let alive : cut.element.alive ≡ true = ap (λ (e : Element). e.alive) (cut_is cut c.at.result c.at.ensures) ∙ answer in
    let all : c.alive-count.result ≡ count_by is_alive cut.before + (1 + count_by is_alive cut.behind) = c.alive-count.ensures ∙ cut_count cut alive in
    let front : c.alive_before-before.result ≡ count_by is_alive cut.before = c.alive_before-before.ensures ∙ ap (count_by is_alive) (cut_front cut) in
    omega (arith, all, front, c.alive-count.type_inv)

pub returns : goal.returns
returns g c =
    let old : List Element = g.E.Elements.elements c.args.elements.now in
    let cut : IsCut old c.in-Some.place c.args.id.now = cut_at old c.in-Some.place c.args.id.now c.in-Some.ensures in
    let answer : c.at.result.alive ≡ true = search rules in
    let alive : cut.element.alive ≡ true = ap (λ (e : Element). e.alive) (cut_is cut c.at.result c.at.ensures) ∙ answer in
    let all : c.alive-count.result ≡ count_by is_alive cut.before + (1 + count_by is_alive cut.behind) = c.alive-count.ensures ∙ cut_count cut alive in
    let front : c.alive_before-before.result ≡ count_by is_alive cut.before = c.alive_before-before.ensures ∙ ap (count_by is_alive) (cut_front cut) in
    let back : c.alive-count.result - c.alive_before-before.result - 1 ≡ count_by is_alive cut.behind = omega (arith, all, front) in
    let later : g.E.Elements.elements c.kill.new.self ≡ cut.before ++ dead cut.element ∷ cut.behind = c.kill.ensures ∙ cut_killed cut in
    if_ok _ (Joins (without c.args.id.now) (λ known. known) old (g.E.Elements.elements c.kill.new.self)) c.deleted.result
    (λ d is. subst (λ (l : List Element). Joins (without c.args.id.now) (λ known. known) old l d) (sym later)
    (subst (Joins (without c.args.id.now) (λ known. known) old (cut.before ++ dead cut.element ∷ cut.behind))
    (sym (is ∙ ap₂ (λ m n. normal (covers true m (covers false 1 (covers true n nothing)))) front back))
    (joins_tombstone c.args.id.now old cut.before cut.behind cut.element (g.met.E.Elements.distinct c.args.elements.now) cut.whole cut.id_is alive)))
    c.deleted.ensures
