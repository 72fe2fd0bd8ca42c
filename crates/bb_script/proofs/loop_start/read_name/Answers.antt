use Rattle.std.proofs.Common.{ap, sym, ◌∙◌}
use Rattle.bb_script.specs.Descent.{ahead_seen, refusal_walk, unless_memory}
use Rattle.bb_script.specs.Tokens.{tokens_of}
use Rattle.bb_script.proofs.WalkLemmas.{name_refused}
use Rattle.bb_script.proofs.loop_start.read_name.Goals as goal

pub returns-in_default-clause-refused : goal.returns-in_default-clause-refused
returns-in_default-clause-refused c =
    ap (unless_memory c.misplaced.result)
    (name_refused c.args.input.total c.args.outside c.args.inner (tokens_of c.args.input.total c.args.text.now) (ahead_seen c.args.input.total c.in_ok-token.token c.in_ok-token.word) c.in_ok-token.ensures.found c.in_default.ensures.none
    ∙ ap refusal_walk (sym c.misplaced.ensures))
