use Rattle.std.proofs.Common.{refl, sym, arith}
use Rattle.std.proofs.lemmas.Grind.{common_steps}
use Rattle.bb_raw.proofs.Overlay.{laid_is, laid_past}
use Rattle.bb_raw.proofs.feed.lay.Goals as goal

pub returns-then-from-part : goal.returns-then-from-part
returns-then-from-part c = let e = laid_is c.args.from _ _ c.args.piece.now c.args.part.now refl refl in grind (arith, common_steps)

pub returns-else-from-part : goal.returns-else-from-part
returns-else-from-part c = sym (laid_past c.args.from c.args.piece.now c.args.part.now (omega arith))
