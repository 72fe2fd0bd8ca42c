use Rattle.std.proofs.Common.{rules, tests, ◌==◌, length, lit<, not}
use Rattle.std.proofs.lemmas.Iterator.Search.{all_from_yields_List}
use Rattle.std.proofs.lemmas.Iterator.Splits.{YieldsList-from_str_split}
use Rattle.bb_chooser.proofs.value.has_parts.Goals as goal

pub returns : goal.returns
returns c =
    all_from_yields_List (λ part. not (length part == 0)) _ _ _ c.all.ensures.ran
    (YieldsList-from_str_split 46 c.args.value.now (lit< tt) c.split.ensures.text c.split.ensures.has_more c.split.ensures.pattern)
    (λ x b q k. search (rules, tests))
