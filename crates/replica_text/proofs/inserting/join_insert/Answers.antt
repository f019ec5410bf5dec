use Rattle.std.proofs.Common.{◌≡◌, ℕ, ◌+◌, ◌-◌, ◌||◌, true, List, ◌++◌, length, take, drop, Bool, subst, sym, ap, ap₂, ◌∙◌, arith}
use Rattle.std.specs.List.{count_by}
use Rattle.std.proofs.lemmas.List.{take-append-drop}
use Rattle.delta.specs.Cells.{covers, inserts, nothing, normal}
use Rattle.tt_base.specs.Elements.{is_alive}
use Rattle.tt_base.specs.declared.ids.ElemId.{ElemId}
use Rattle.tt_base.specs.declared.elements.Element.{Element}
use Rattle.replica_text.specs.Ids.{is_in_run}
use Rattle.replica_text.specs.Ops.{with_run}
use Rattle.replica_text.specs.Placed.{run_of}
use Rattle.replica_text.specs.Joined.{Joins}
use Rattle.replica_text.proofs.RunLemmas.{run_unknown, parent_known}
use Rattle.replica_text.proofs.JoinLemmas.{joins_run}
use Rattle.replica_text.proofs.CutLemmas.{if_ok, count-append}
use Rattle.replica_text.proofs.inserting.join_insert.Goals as goal

pub returns : goal.returns
returns g c =
    let old : List Element = g.E.Elements.elements c.args.elements.now in
    let first : ElemId = c.args.first.now in
    let text : List ℕ = c.args.text.now in
    let front : List Element = take c.new_place-place.result old in
    let behind : List Element = drop c.new_place-place.result old in
    let know : (ElemId → Bool) → ElemId → Bool = λ known id. is_in_run first (length text) id || known id in
    let said : c.as_slice.result.now ≡ text =
    c.as_slice.ensures.value ∙ c.in_ok-append_to.ensures.ok ∙ ap (λ l. l ++ text) c.new-chars.ensures.items in
    let later : g.E.Elements.elements c.insert_run.new.elements ≡ front ++ (run_of first text ++ behind) =
    c.in_ok-insert_run.ensures ∙ ap (λ t. front ++ (run_of first t ++ behind)) said in
    let all : count_by is_alive old ≡ count_by is_alive front + count_by is_alive behind =
    ap (count_by is_alive) (sym (take-append-drop c.new_place-place.result old)) ∙ count-append front behind in
    let rest : c.alive.result - c.alive_before-before.result ≡ count_by is_alive behind =
    omega (arith, all, c.alive.ensures, c.alive_before-before.ensures) in
    if_ok _ (Joins (with_run first c.args.parent.now text) know old (g.E.Elements.elements c.insert_run.new.elements)) c.inserted.result
    (λ d is. subst (λ (l : List Element). Joins (with_run first c.args.parent.now text) know old l d) (sym later)
    (subst (Joins (with_run first c.args.parent.now text) know old (front ++ (run_of first text ++ behind)))
    (sym (is ∙ ap₂ (λ m n. normal (covers true m (inserts text (covers true n nothing)))) c.alive_before-before.ensures rest))
    (joins_run first c.args.parent.now text old front behind (g.met.E.Elements.distinct c.args.elements.now)
    (parent_known c.args.parent.now first old c.requires.below) (run_unknown first (length text) old c.requires.fresh)
    (sym (take-append-drop c.new_place-place.result old)) c.new_place-place.ensures.placed c.new_place-place.ensures.stops)))
    c.inserted.ensures
