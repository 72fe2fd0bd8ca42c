use Rattle.std.proofs.Common.{◌++◌, ◌∙◌, ap, subst, sym}
use Rattle.bb_history.specs.History.{AddsFront}
use Rattle.bb_history.specs.Lines.{count_line}
use Rattle.bb_history.specs.Reading.{passing_text}
use Rattle.bb_history.proofs.Joining.{adds_as, adds_behind, adds_none, refused_adds}
use Rattle.bb_history.proofs.Singles.{single_text}
use Rattle.bb_layout.specs.Layout.{Laid, fields_of}
use Rattle.bb_history.proofs.lines.add_single.Goals as goal

pub returns-in_err-add_count : goal.returns-in_err-add_count
returns-in_err-add_count c =
    refused_adds _ c.args.out.now _ c.from_residual.result _ c.from_residual.ensures.1
    (subst (AddsFront _ c.args.out.now) (sym c.in_err-add_count.ensures.unchanged) (adds_none _ c.args.out.now))

pub returns : goal.returns
returns c =
    let layout : Laid = fields_of c.args.layout.now in
    let added = c.add_passing.ensures in
    adds_behind (count_line c.args.copy c.count_of.result) (passing_text layout 1 c.args.left.now c.args.passed) _
    c.args.out.now c.add_count.new.out c.add_passing.new.out c.add_passing.result
    (single_text layout c.args.copy c.args.left.now c.args.passed
    ∙ ap (λ n. count_line c.args.copy n ++ passing_text layout 1 c.args.left.now c.args.passed) (sym c.count_of.ensures))
    c.in_ok-add_count.ensures.added
    (adds_as _ c.add_count.new.out c.add_passing.new.out c.add_passing.result added.added added.unchanged)
