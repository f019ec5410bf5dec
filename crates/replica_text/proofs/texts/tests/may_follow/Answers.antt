use Rattle.std.proofs.Common.{◌≡◌, ℕ, Bool, true, false, sym, subst, rules}
use Rattle.tt_base.specs.declared.ids.ElemId.{ElemId}
use Rattle.tt_base.specs.declared.text_ops.TextOp.{TextOp}
use Rattle.replica_text.specs.Ids.{is_known}
use Rattle.replica_text.specs.Ops.{IsRunKnown, MayFollow}
use Rattle.replica_text.proofs.texts.tests.may_follow.Goals as goal

pub returns-else-not-fits : goal.returns-else-not-fits
returns-else-not-fits g c =
    let known : ElemId → Bool = is_known (g.E.Elements.elements c.args.elements.now) in
    let may : c.may_be_parent.result ≡ true = search rules in
    let fits : c.fits.result ≡ true = search rules in
    λ h. subst (λ (o : TextOp). MayFollow o known) (sym c.in-Insert.is) (record {
      below = c.may_be_parent.ensures may;
      fresh = subst (λ (n : ℕ). IsRunKnown false c.in-Insert.first n known) c.len-count.ensures (c.is_run_known.ensures h);
      fits = rw (sym c.len-count.ensures) (c.fits.ensures fits);
    })

pub returns-else-not-fits-2 : goal.returns-else-not-fits-2
returns-else-not-fits-2 g c =
    let known : ElemId → Bool = is_known (g.E.Elements.elements c.args.elements.now) in
    let fits : c.fits-in-Delete.result ≡ true = search rules in
    λ h. subst (λ (o : TextOp). MayFollow o known) (sym c.in-Delete.is) (record {
      there = c.is_run_known-in-Delete.ensures h;
      fits = c.fits-in-Delete.ensures fits;
    })
