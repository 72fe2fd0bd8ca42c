use Rattle.std.proofs.Common.{◌≡◌, true, false, refl, sym, ap, ◌∙◌, rules}
use Rattle.bb_dtbrec.specs.Dtb.{Pattern, is_pattern}
use Rattle.bb_dtbrec.proofs.Fed.{dtb_ends, whole_by}
use Rattle.bb_dtbrec.proofs.dtb.DtbFormat.end.Goals as goal

pub returns-then-is_whole : goal.returns-then-is_whole
returns-then-is_whole c =
    λ fed h.
    let pattern : Pattern = c.args.self.now in
    let made : is_pattern pattern ≡ true = ap is_pattern (sym c.self.view_is) ∙ c.self.invariant in
    let front : pattern.front ≡ c.as_slice.result.now =
    sym (c.as_slice.ensures ∙ ap (λ (p : Pattern). p.front) c.self.view_is) in
    dtb_ends pattern c.args.feed fed c.args.area.now true _ made (search rules)
    (whole_by pattern c.args.feed c.as_slice.result.now true front
    (λ pieces came. sym c.if-is_whole.true ∙ c.is_whole.ensures pieces came))
    refl h

pub returns-else-is_whole : goal.returns-else-is_whole
returns-else-is_whole c =
    λ fed h.
    let pattern : Pattern = c.args.self.now in
    let made : is_pattern pattern ≡ true = ap is_pattern (sym c.self.view_is) ∙ c.self.invariant in
    let front : pattern.front ≡ c.as_slice.result.now =
    sym (c.as_slice.ensures ∙ ap (λ (p : Pattern). p.front) c.self.view_is) in
    dtb_ends pattern c.args.feed fed c.args.area.now false _ made (search rules)
    (whole_by pattern c.args.feed c.as_slice.result.now false front
    (λ pieces came. sym c.if-is_whole.false ∙ c.is_whole.ensures pieces came))
    refl h
