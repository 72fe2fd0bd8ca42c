use Rattle.std.proofs.Common.{◌≡◌, ◌∙◌, Err, List, None, Some, false, ap, subst, sym}
use Rattle.std.proofs.lemmas.Result.{err_from_is_err_and}
use Rattle.std.specs.Result.{result_err}
use Rattle.bb_copies.specs.Buckets.{AllAgree, kinds_of}
use Rattle.bb_copies.specs.Saving.{IsSave}
use Rattle.bb_copies.specs.declared.answers.CopyFault.TheVariants.{Unsure}
use Rattle.bb_state.specs.Backed.{Backed, form_in, kinds_in}
use Rattle.bb_state.specs.Kinds.{any_form, any_holding, laid_form, laid_kinds}
use Rattle.bb_state.specs.declared.any_bucket.AnyBucket.{AnyBucket}
use Rattle.bb_state.proofs.Handed.{save_of}
use Rattle.bb_state.proofs.backing.Backing.save.Goals as goal

pub save-requires-clause-agreed : goal.save-requires-clause-agreed
save-requires-clause-agreed g c =
    let buckets : c.self.inside.copies.buckets ≡ c.args.self.now.buckets = ap (λ (b : Backed). b.buckets) c.self.view_is in
    subst (λ (buckets : List AnyBucket). AllAgree any_holding (g.F.Flash.device c.args.flash.now) buckets) (sym buckets) c.requires.agreed

pub returns-in_err-save-clause-save : goal.returns-in_err-save-clause-save
returns-in_err-save-clause-save g c =
    let kinds : kinds_of any_holding c.self.inside.copies.buckets ≡ laid_kinds c.args.self.now.keyed.layout = c.self.invariant.kinds ∙ ap (λ (b : Backed). laid_kinds b.keyed.layout) c.self.view_is in
    let form : any_form c.self.inside.copies.format ≡ laid_form c.args.self.now.keyed = ap any_form c.self.invariant.format_is ∙ ap (λ (b : Backed). laid_form b.keyed) c.self.view_is in
    let used = ap (λ (b : Backed). b.used) c.self.view_is in
    let sure = ap (λ (b : Backed). b.sure) c.self.view_is in
    let seen = c.args.self.now in
    let p = err_from_is_err_and c.from_residual.result c.from_residual.ensures.1 in
    subst (λ r. IsSave (form_in seen) (kinds_in seen) seen.sure seen.used c.save.new.self.used c.args.table.now (g.F.Flash.device c.args.flash.now) (g.F.Flash.device c.save.new.flash) (result_err r))
    (sym (p.1 ∙ ap (λ e. Err e) p.2))
    (save_of _ _ _ _ seen c.save.new.self.used c.args.table.now (g.F.Flash.device c.args.flash.now) (g.F.Flash.device c.save.new.flash) (Some c.in_err-save.field-0.0) form kinds sure used c.in_err-save.ensures.save)

pub returns-clause-save : goal.returns-clause-save
returns-clause-save g c =
    let kinds : kinds_of any_holding c.self.inside.copies.buckets ≡ laid_kinds c.args.self.now.keyed.layout = c.self.invariant.kinds ∙ ap (λ (b : Backed). laid_kinds b.keyed.layout) c.self.view_is in
    let form : any_form c.self.inside.copies.format ≡ laid_form c.args.self.now.keyed = ap any_form c.self.invariant.format_is ∙ ap (λ (b : Backed). laid_form b.keyed) c.self.view_is in
    let used = ap (λ (b : Backed). b.used) c.self.view_is in
    let sure = ap (λ (b : Backed). b.sure) c.self.view_is in
    save_of _ _ _ _ c.args.self.now c.save.new.self.used c.args.table.now (g.F.Flash.device c.args.flash.now) (g.F.Flash.device c.save.new.flash) None form kinds sure used c.in_ok-save.ensures.save

-- copies that aren't sure refuse a save
pub returns-clause-unchanged : goal.returns-clause-unchanged
returns-clause-unchanged g c = λ off.
    let was : c.self.inside.copies.sure ≡ false = ap (λ (b : Backed). b.sure) c.self.view_is ∙ off in
    let none : None ≡ Some Unsure = c.in_ok-save.ensures.save.unsure.1 was in
    absurd cc

pub save-requires-clause-sized : goal.save-requires-clause-sized
save-requires-clause-sized g c =
    c.requires.sized ∙ sym (c.self.invariant.most_is ∙ ap (λ (b : Backed). b.keyed.layout.area_len) c.self.view_is)
