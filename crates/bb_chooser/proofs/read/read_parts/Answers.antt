use Rattle.std.proofs.Common.{◌≡◌, ◌+◌, ◌<◌, ◌++◌, [], List, ℕ, suc, Ok, Err, append-nil, arith, drop, length, map, sym, ap, ◌∙◌}
use Rattle.std.proofs.lemmas.List.{drop_all, length-map}
use Rattle.std.specs.Option.{option_to_list}
use Rattle.bb_chooser.proofs.Following.{after, after_after, after_none, onto_line, said_next, said_none}
use Rattle.bb_chooser.proofs.GivenSteps.{given_push}
use Rattle.bb_chooser.proofs.Reading.{handed_on}
use Rattle.bb_chooser.proofs.Texts.{now}
use Rattle.bb_chooser.specs.Lines.{setting_in_line}
use Rattle.bb_chooser.specs.Reading.{line_in, settings_in_parts, with_setting}
use Rattle.bb_chooser.specs.Settings.{at_line}
use Rattle.bb_chooser.specs.declared.settings_error.SettingsError.TheVariants.{NoMemory}
use Rattle.bb_chooser.proofs.read.read_parts.Goals as goal

pub loop-i-init : goal.loop-i-init
loop-i-init c = record {
  so_far = [];
  taken = c.none-given.ensures;
  rest = sym (after_none (settings_in_parts 1 (map now c.args.parts.now)));
}

pub loop-i-preserved : goal.loop-i-preserved
loop-i-preserved c =
    let parts = map now c.args.parts.now in
    let i = c.loop-i.i in
    let kept = c.loop-i.invariant in
    let took = c.in_ok-take_line.ensures.ok in
    let inside : i < length parts = omega (arith, length-map c.args.parts.now now, c.loop-i-test.true) in
    let e : suc i ≡ i + 1 = omega arith in
    let is : at_line (i + 1) (setting_in_line (line_in parts i)) ≡ Ok took.0 = ap (λ (l : List ℕ). at_line (i + 1) (setting_in_line l)) (sym c.line_at.ensures) ∙ took.1 in
    record {
      so_far = kept.so_far ++ option_to_list took.0;
      taken = took.2 ∙ ap (with_setting took.0) kept.taken ∙ given_push kept.so_far took.0;
      rest = kept.rest ∙ ap (after kept.so_far) (said_next parts (i + 1) i inside ∙ ap (λ r. onto_line r (settings_in_parts (i + 1 + 1) (drop (suc i) parts))) is)
          ∙ after_after kept.so_far (option_to_list took.0) (settings_in_parts (i + 1 + 1) (drop (suc i) parts))
          ∙ ap (λ n. after (kept.so_far ++ option_to_list took.0) (settings_in_parts (i + 1 + 1) (drop n parts))) e;
    }

pub returns-in_err-take_line-clause-refused : goal.returns-in_err-take_line-clause-refused
returns-in_err-take_line-clause-refused c =
    let parts = map now c.args.parts.now in
    let i = c.loop-i.i in
    let kept = c.loop-i.invariant in
    let inside : i < length parts = omega (arith, length-map c.args.parts.now now, c.loop-i-test.true) in
    handed_on NoMemory (λ e. settings_in_parts 1 parts ≡ Err e) c.from_residual.result c.in_err-take_line.field-0.0 c.from_residual.ensures.1
    (λ told. kept.rest ∙ ap (after kept.so_far) (said_next parts (i + 1) i inside
    ∙ ap (λ r. onto_line r (settings_in_parts (i + 1 + 1) (drop (suc i) parts)))
    (ap (λ (l : List ℕ). at_line (i + 1) (setting_in_line l)) (sym c.line_at.ensures) ∙ c.in_err-take_line.ensures.refused told)))

pub returns-clause-ok : goal.returns-clause-ok
returns-clause-ok c =
    let parts = map now c.args.parts.now in
    let i = c.loop-i.i in
    let kept = c.loop-i.invariant in
    let none : drop i parts ≡ [] = drop_all i parts (omega (arith, length-map c.args.parts.now now, c.loop-i-test.false)) in
    (kept.so_far, kept.rest ∙ ap (λ (l : List (List ℕ)). after kept.so_far (settings_in_parts (i + 1) l)) none ∙ ap (after kept.so_far) (said_none (i + 1)) ∙ ap Ok (append-nil kept.so_far), kept.taken)
