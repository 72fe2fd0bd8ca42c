use Rattle.std.proofs.Common.{◌≡◌, ◌≢◌, Ok, Err, IfOk, IfErr, map, sym, ap, subst, ◌∙◌}
use Rattle.bb_chooser.proofs.Texts.{names_bad, names_kept, now}
use Rattle.bb_chooser.specs.Values.{differing_names, names_value, names_by_texts, split_at_spaces}
use Rattle.bb_chooser.specs.declared.fault.Fault.TheVariants.{NoMemory}
use Rattle.bb_chooser.proofs.value.names.Goals as goal

pub returns-then-not-are_target_names-clause-refused : goal.returns-then-not-are_target_names-clause-refused
returns-then-not-are_target_names-clause-refused c = λ told.
    let split : map now c.as_slice-words.result.now ≡ split_at_spaces c.args.value.now = ap (map now) c.as_slice-words.ensures.value ∙ c.in_ok-words.ensures in
    ap names_by_texts (sym split) ∙ names_bad c.as_slice-words.result.now (sym c.are_target_names.ensures ∙ c.if-not-are_target_names.true)

pub returns-clause-ok : goal.returns-clause-ok
returns-clause-ok c =
    let split : map now c.as_slice-words.result.now ≡ split_at_spaces c.args.value.now = ap (map now) c.as_slice-words.ensures.value ∙ c.in_ok-words.ensures in
    let is : names_value c.args.value.now ≡ differing_names (map now c.as_slice-words.result.now) =
    ap names_by_texts (sym split) ∙ names_kept c.as_slice-words.result.now (sym c.are_target_names.ensures ∙ c.if-not-are_target_names.false) in
    subst (λ r. IfOk c.differing_names.result (λ names. r ≡ Ok names)) (sym is) c.differing_names.ensures.ok

pub returns-clause-refused : goal.returns-clause-refused
returns-clause-refused c =
    let split : map now c.as_slice-words.result.now ≡ split_at_spaces c.args.value.now = ap (map now) c.as_slice-words.ensures.value ∙ c.in_ok-words.ensures in
    let is : names_value c.args.value.now ≡ differing_names (map now c.as_slice-words.result.now) =
    ap names_by_texts (sym split) ∙ names_kept c.as_slice-words.result.now (sym c.are_target_names.ensures ∙ c.if-not-are_target_names.false) in
    subst (λ r. IfErr c.differing_names.result (λ e. e ≢ NoMemory → r ≡ Err e)) (sym is) c.differing_names.ensures.refused
