use Rattle.bb_words.proofs.FirstBadLemmas.{bad_inside, bad_begun, bad_behind}
use Rattle.bb_words.proofs.law.law_first_bad_word.Goals as goal

pub returns : goal.returns
returns c = record { inside = bad_inside; begun = bad_begun; bad = bad_behind }
