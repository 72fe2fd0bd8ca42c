use Rattle.std.proofs.Common.{◌∙◌, ap}
use Rattle.bb_layout.specs.Convert.{convert_of}
use Rattle.bb_layout.proofs.Converting.{convert_same, empty_converted}
use Rattle.bb_layout.proofs.layout.Layout.convert.Goals as goal

pub returns-clause-same : goal.returns-clause-same
returns-clause-same c = λ same.
    let layout = c.args.self.now in
    let stored = c.args.stored.now in
    c.convert_area.ensures ∙ ap (λ n. convert_of n layout.vars stored) c.requires
    ∙ convert_same layout.area_len layout.vars stored layout.facts.vars_are same

pub returns-clause-empty : goal.returns-clause-empty
returns-clause-empty c = λ none.
    let layout = c.args.self.now in
    let stored = c.args.stored.now in
    c.convert_area.ensures ∙ ap (λ n. convert_of n layout.vars stored) c.requires
    ∙ empty_converted layout.area_len layout.vars stored layout.facts.vars_are none
