use Rattle.std.proofs.Common.{◌≡◌, [], get_or, true, Ok, map, take, sym, ap, ◌∙◌, arith}
use Rattle.std.proofs.lemmas.Bool.{not-false}
use Rattle.std.specs.List.{list_any}
use Rattle.std.specs.Str.{bytes_eq}
use Rattle.std.proofs.lemmas.List.{take_all}
use Rattle.std.proofs.lemmas.Grind.{common_steps}
use Rattle.bb_layout.specs.Ranges.{some_pair}
use Rattle.bb_chooser.proofs.Texts.{differing_good, differing_twice, get_or_same, now, twice_at}
use Rattle.bb_chooser.proofs.value.differing_names.Goals as goal

pub returns-then-not-branch-clause-refused : goal.returns-then-not-branch-clause-refused
returns-then-not-branch-clause-refused c = λ told.
    let words = c.args.words.now in
    let i = c.loop-word.word-index in
    let word = get_or words i (record { ref_ptr = (0, 0); now = [] }) in
    let found : list_any (bytes_eq word.now) c.loop-word.names ≡ true = not-false _ (sym c.in_ok-add.ensures.added ∙ c.if-not-branch.true) in
    differing_twice (map now words)
    (twice_at words i word c.loop-word-test.true (get_or_same words i _ word c.loop-word-test.true) (ap (list_any (bytes_eq word.now)) (sym c.loop-word.invariant.taken) ∙ found))

pub returns-clause-ok : goal.returns-clause-ok
returns-clause-ok c =
    let words = c.args.words.now in
    let n = c.loop-word.word-index in
    let whole : take n words ≡ words = take_all n words c.loop-word-test.false in
    let is : c.loop-word.names ≡ map now words = c.loop-word.invariant.taken ∙ ap (map now) whole in
    differing_good (map now words) (ap (some_pair bytes_eq) (sym is) ∙ c.loop-word.invariant.differ) ∙ ap Ok (sym is)

pub loop-word-preserved : goal.loop-word-preserved
loop-word-preserved c = grind (arith, common_steps)
