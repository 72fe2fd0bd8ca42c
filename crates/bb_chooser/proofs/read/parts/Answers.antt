use Rattle.std.proofs.Common.{rules, ◌==◌, ℕ, Ok}
use Rattle.std.proofs.lemmas.Iterator.Consumers.{map_from_collect}
use Rattle.std.proofs.lemmas.Iterator.Splits.{YieldsList-from_slice_split}
use Rattle.bb_chooser.proofs.read.parts.Goals as goal

pub returns : goal.returns
returns c =
    map_from_collect {E = Unit {0}} (Ok c.in_ok-parts.parts) c.in_ok-parts.ensures.ran
    (YieldsList-from_slice_split _ (λ (b : ℕ). b == 10) c.args.text.now (cc) (cc) (cc) (λ x b q k. search rules))
