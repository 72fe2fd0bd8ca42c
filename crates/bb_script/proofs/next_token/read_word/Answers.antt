use Rattle.std.proofs.Common.{◌∙◌}
use Rattle.bb_script.specs.Reading.{open_seen}
use Rattle.bb_script.specs.Tokens.{Within}
use Rattle.bb_script.proofs.TokenLemmas.{bad-seen, ended-seen, tokens-none, tokens-nothing}
use Rattle.bb_script.proofs.next_token.read_word.Goals as goal

pub returns-in-HasEnded-clause-found : goal.returns-in-HasEnded-clause-found
returns-in-HasEnded-clause-found c =
    c.loop-c.invariant
    ∙ ended-seen c.args.input.total c.in-Some.c.now c.saturating_sub-here.result c.in-Some.after.now c.loop-c.rest.now (open_seen c.loop-c.so_far) (open_seen c.take.new.self) c.word_piece-piece.result c.in_ok-more.field-0 c.token.result.0 c.token.result.1
    c.in-Some.ensures.cases.0 c.saturating_sub-here.ensures c.word_piece-piece.ensures c.in_ok-more.ensures.stepped c.in_ok-more.ensures.still c.in-HasEnded.is c.token.ensures.seen c.token.ensures.rest

pub returns-in-IsBad-clause-found : goal.returns-in-IsBad-clause-found
returns-in-IsBad-clause-found c =
    c.loop-c.invariant
    ∙ bad-seen c.args.input.total c.in-Some.c.now c.saturating_sub-here.result c.in-Some.after.now c.loop-c.rest.now (open_seen c.loop-c.so_far) (open_seen c.take.new.self) c.word_piece-piece.result c.in_ok-more.field-0 c.bad_token.result.0 c.bad_token.result.1
    c.in-Some.ensures.cases.0 c.saturating_sub-here.ensures c.word_piece-piece.ensures c.in_ok-more.ensures.stepped c.in_ok-more.ensures.still c.in-IsBad.is c.bad_token.ensures.seen c.bad_token.ensures.rest

pub returns-clause-found : goal.returns-clause-found
returns-clause-found c =
    let none = tokens-none c.args.input.total c.loop-c.rest.now (Within (open_seen c.loop-c.so_far)) c.in_default.ensures.cases in
    let nothing = tokens-nothing c.args.input.total in
    cc
