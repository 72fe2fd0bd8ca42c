use Rattle.std.proofs.Common.{◌≡◌, ◌∷◌, Some, None, rules, ap, ap₂, subst, sym, take, drop, ◌∙◌}
use Rattle.bb_menu.specs.Ranks.{IsRun, more_tokens, rank_begun, token_of}
use Rattle.bb_menu.proofs.Tokens.{run_found, token_end, token_found, token_none}
use Rattle.bb_menu.proofs.token.first_token.Goals as goal

pub returns-in-Some-rank_begun-clause-token : goal.returns-in-Some-rank_begun-clause-token
returns-in-Some-rank_begun-clause-token c =
    let text = c.loop-first.rest.now in
    let rank = c.in-Some-rank_begun.rank in
    let is : text ≡ c.in-Some.first.now ∷ c.in-Some.after.now = search rules in
    let begins : rank_begun c.in-Some.first.now ≡ Some rank = search rules in
    c.loop-first.invariant.same ∙ token_found text c.in-Some.after.now c.in-Some.first.now rank is begins
    ∙ ap₂ (λ run rest. token_of rank run ∷ more_tokens rank rest)
    (sym (c.split_at.ensures.front ∙ ap (λ n. take n text) c.run_length.ensures.value))
    (sym (c.split_at.ensures.back ∙ ap (λ n. drop n text) c.run_length.ensures.value))

pub returns-in-Some-rank_begun-clause-run : goal.returns-in-Some-rank_begun-clause-run
returns-in-Some-rank_begun-clause-run c =
    let text = c.loop-first.rest.now in
    let rank = c.in-Some-rank_begun.rank in
    subst (IsRun rank) (sym (c.split_at.ensures.front ∙ ap (λ n. take n text) c.run_length.ensures.value)) (run_found rank text)

pub loop-first-preserved : goal.loop-first-preserved
loop-first-preserved c =
    let text = c.loop-first.rest.now in
    let is : text ≡ c.in-Some.first.now ∷ c.in-Some.after.now = search rules in
    let none : rank_begun c.in-Some.first.now ≡ None = search rules in
    record {
      same = c.loop-first.invariant.same ∙ token_none text c.in-Some.after.now c.in-Some.first.now is none;
      shorter = search rules;
    }

pub returns-clause-token : goal.returns-clause-token
returns-clause-token c = c.loop-first.invariant.same ∙ token_end c.loop-first.rest.now (search rules)
