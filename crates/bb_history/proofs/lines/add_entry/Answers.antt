use Rattle.std.proofs.Common.{◌≡◌, ◌++◌, ◌∙◌, List, ℕ, OnOk, ap, subst}
use Rattle.std.specs.List.{flat_map}
use Rattle.bb_layout.specs.Convert.{convert}
use Rattle.bb_layout.specs.Layout.{Laid, fields_of}
use Rattle.bb_state.specs.Lines.{dump_line}
use Rattle.bb_history.specs.Reading.{entry_lines}
use Rattle.bb_history.proofs.lines.add_entry.Goals as goal

pub returns-clause-added : goal.returns-clause-added
returns-clause-added c =
    let layout : Laid = fields_of c.args.layout.now in
    let area : List ℕ = convert layout c.args.area.now in
    let all : c.add_converted.new.out ≡ entry_lines layout c.args.number c.args.area.now =
    c.in_ok-add_converted.ensures ∙ ap (λ (text : List ℕ). text ++ flat_map (dump_line area) layout.vars) c.in_ok-text.ensures in
    subst (λ (text : List ℕ). OnOk c.add.result (c.add.new.self ≡ c.args.out.now ++ text)) (c.as_slice.ensures ∙ all) c.add.ensures.ok
