use Rattle.std.proofs.Common.{arith}
use Rattle.std.proofs.lemmas.Grind.{common_steps}
use Rattle.bb_tree.specs.DraftViews.{draft_of}
use Rattle.bb_tree.specs.Paths.{found}
use Rattle.bb_dts.proofs.OuterLemmas.{merged_missing, none_found}
use Rattle.bb_dts.proofs.outermost.with_body.Goals as goal

pub returns-then-not-has-clause-ok : goal.returns-then-not-has-clause-ok
returns-then-not-has-clause-ok c =
    let missing =
    none_found (found c.args.path.now c.args.draft.tree) (grind (arith, common_steps)) in
    let same = merged_missing c.args.draft.tree c.args.path.now (draft_of c.args.node) missing in
    grind (arith, common_steps)
