use Rattle.std.proofs.Common.{rules, tests, ◌==◌, length, lit<, not, Ok}
use Rattle.std.proofs.lemmas.Iterator.Consumers.{YieldsList-at, YieldsList-from_filter, map_from_collect}
use Rattle.std.proofs.lemmas.Iterator.Splits.{YieldsList-from_str_split}
use Rattle.bb_chooser.proofs.value.words.Goals as goal

pub returns : goal.returns
returns c =
    map_from_collect {E = Unit {0}} (Ok c.in_ok-words.words) c.in_ok-words.ensures.ran
    (YieldsList-from_filter _ (λ w. not (length w == 0))
    (YieldsList-at c.filter.ensures.source (YieldsList-from_str_split 32 c.args.value.now (lit< tt) c.split.ensures.text c.split.ensures.has_more c.split.ensures.pattern))
    c.filter.ensures.closure (λ x b q k. search (rules, tests)))
