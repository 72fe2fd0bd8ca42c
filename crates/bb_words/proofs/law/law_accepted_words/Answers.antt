use Rattle.bb_words.proofs.GrammarLemmas.{spelt, accepted}
use Rattle.bb_words.proofs.law.law_accepted_words.Goals as goal

pub returns : goal.returns
returns c = record { spelt = spelt; accepted = accepted }
