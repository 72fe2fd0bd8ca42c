use Rattle.bb_script.specs.Descent.{ahead_seen}
use Rattle.bb_script.specs.Tokens.{tokens_of}
use Rattle.bb_script.proofs.TokenLemmas.{ahead-shorter, ahead-within}
use Rattle.bb_script.proofs.next_token.next_token.Goals as goal

pub returns-clause-shorter : goal.returns-clause-shorter
returns-clause-shorter c =
    ahead-shorter c.args.input.total (tokens_of c.args.input.total c.args.text.now) (ahead_seen c.args.input.total c.in_ok-token.token c.in_ok-token.word) c.in_ok-token.ensures.found

pub returns-clause-within : goal.returns-clause-within
returns-clause-within c =
    ahead-within c.args.input.total (tokens_of c.args.input.total c.args.text.now) (ahead_seen c.args.input.total c.in_ok-token.token c.in_ok-token.word) c.in_ok-token.ensures.found
