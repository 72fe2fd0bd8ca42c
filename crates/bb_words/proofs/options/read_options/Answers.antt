use Rattle.std.proofs.Common.{◌≡◌, [], None, drop, arith, ◌∙◌, sym, ap}
use Rattle.std.proofs.lemmas.Option.{slice_get-get_or}
use Rattle.bb_words.specs.Words.{Options, words_from}
use Rattle.bb_words.proofs.Steps.{raised, moved, step_on, step_lost, options_made, options_lost}
use Rattle.bb_words.proofs.options.read_options.Goals as goal

pub loop-place-init : goal.loop-place-init
loop-place-init c = ap (λ given. words_from 1 (Options c.args.row None given) (drop 1 c.args.words.now)) (sym c.none-given.ensures)

pub returns-in_err-word_at-clause-refused : goal.returns-in_err-word_at-clause-refused
returns-in_err-word_at-clause-refused c =
    let there = slice_get-get_or c.args.words.now c.loop-place.place [] (omega arith) in
    let none = c.in_err-word_at.ensures.refused.1 in
    absurd (cc)

pub returns-in_err-due-clause-refused : goal.returns-in_err-due-clause-refused
returns-in_err-due-clause-refused c =
    raised _ c.from_residual-in_err-due.result c.in_err-due.field-0.0 c.from_residual-in_err-due.ensures.1
    (moved _ _ _ c.loop-place.invariant (step_lost c.loop-place.place (Options c.args.row c.loop-place.due c.loop-place.given) c.args.words.now _ _ c.in_ok-word_at.ensures.ok c.in_err-due.ensures.refused))

pub loop-place-preserved : goal.loop-place-preserved
loop-place-preserved c =
    c.loop-place.invariant ∙ step_on c.loop-place.place (Options c.args.row c.loop-place.due c.loop-place.given) _ c.args.words.now _ c.in_ok-word_at.ensures.ok c.in_ok-due.ensures.ok

pub returns-clause-ok : goal.returns-clause-ok
returns-clause-ok c =
    let end : c.loop-place.place ≡ c.len.result = omega arith in
    options_made _ c.args.words.now c.args.row c.loop-place.due c.loop-place.given c.len.result c.command.result (omega arith)
    (c.loop-place.invariant ∙ ap (λ place. words_from place (Options c.args.row c.loop-place.due c.loop-place.given) (drop place c.args.words.now)) end) c.command.ensures.ok

pub returns-clause-refused : goal.returns-clause-refused
returns-clause-refused c =
    let end : c.loop-place.place ≡ c.len.result = omega arith in
    options_lost _ c.args.words.now c.args.row c.loop-place.due c.loop-place.given c.len.result c.command.result (omega arith)
    (c.loop-place.invariant ∙ ap (λ place. words_from place (Options c.args.row c.loop-place.due c.loop-place.given) (drop place c.args.words.now)) end) c.command.ensures.refused
