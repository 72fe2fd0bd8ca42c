use Rattle.std.proofs.Common.{Bor, List, ℕ, bytes_eq, rules, tests, ◌∙◌}
use Rattle.std.proofs.lemmas.Iterator.{YieldsList-from_slice}
use Rattle.std.proofs.lemmas.Iterator.Search.{any_from_yields_List}
use Rattle.bb_bls.proofs.ValueSteps.{any_values}
use Rattle.bb_bls.proofs.pairs.has_key.Goals as goal

pub returns : goal.returns
returns c =
    any_from_yields_List (λ (p : Bor (List ℕ) × Bor (List ℕ)). bytes_eq p.0.now c.args.key.now) _ _ c.any.result c.any.ensures.ran (YieldsList-from_slice c.args.pairs.now cc) (λ x b q k. search (rules, tests))
    ∙ any_values c.args.key.now c.args.pairs.now
