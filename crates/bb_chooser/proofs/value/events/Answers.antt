use Rattle.std.proofs.Common.{◌≡◌, map, Ok, sym, ap, ◌∙◌}
use Rattle.bb_chooser.proofs.Texts.{events_bad, events_kept, now}
use Rattle.bb_chooser.specs.Values.{events_of, split_at_spaces}
use Rattle.bb_chooser.proofs.value.events.Goals as goal

pub returns-then-not-are_events-clause-refused : goal.returns-then-not-are_events-clause-refused
returns-then-not-are_events-clause-refused c = λ told.
    let split : map now c.as_slice-words.result.now ≡ split_at_spaces c.args.value.now = ap (map now) c.as_slice-words.ensures.value ∙ c.in_ok-words.ensures in
    ap events_of (sym split) ∙ events_bad c.as_slice-words.result.now (sym c.are_events.ensures ∙ c.if-not-are_events.true)

pub returns-clause-ok : goal.returns-clause-ok
returns-clause-ok c =
    let split : map now c.as_slice-words.result.now ≡ split_at_spaces c.args.value.now = ap (map now) c.as_slice-words.ensures.value ∙ c.in_ok-words.ensures in
    ap events_of (sym split) ∙ events_kept c.as_slice-words.result.now (sym c.are_events.ensures ∙ c.if-not-are_events.false)
    ∙ (λ j. Ok (record { power_on = sym c.has_word.ensures j; reset = sym c.has_word-2.ensures j; all_zero = sym c.has_word-3.ensures j }))
