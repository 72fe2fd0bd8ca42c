use Rattle.std.proofs.Common.{◌≡◌, ◌++◌, codes, ap, sym, ◌∙◌, append_assoc}
use Rattle.std.proofs.lemmas.List.{append-nil}
use Rattle.std.proofs.lemmas.Result.{on_ok_weaker}
use Rattle.bb_state.specs.Lines.{printed_value}
use Rattle.bb_state.proofs.NamedVars.{line_of_none, line_of_some}
use Rattle.bb_state.proofs.lines.add_value_line.Goals as goal

pub returns-in_default : goal.returns-in_default
returns-in_default c =
    let nothing = line_of_none c.args.area.now c.args.name.now c.args.layout.now.vars (sym c.in_default.ensures) in
    sym (ap (λ text. c.args.out.now ++ text) nothing ∙ append-nil c.args.out.now)

pub returns : goal.returns
returns c =
    let value = printed_value c.args.area.now c.var_at.result.now in
    let line = line_of_some c.args.area.now c.args.name.now c.args.layout.now.vars c.in-Some.place c.var_at.result.now (sym c.in-Some.ensures) c.var_at.ensures.var in
    on_ok_weaker c.add.result (λ (ended : c.add.new.self ≡ c.add_value.new.out ++ codes "\n").
    ended
    ∙ ap (λ text. text ++ codes "\n") c.in_ok-add_value.ensures.printed
    ∙ append_assoc c.args.out.now value (codes "\n")
    ∙ ap (λ text. c.args.out.now ++ text) (sym line)) c.add.ensures.ok
