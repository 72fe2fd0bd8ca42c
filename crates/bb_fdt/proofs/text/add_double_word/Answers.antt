use Rattle.std.proofs.Common.{arith}
use Rattle.std.proofs.lemmas.Grind.{common_steps}
use Rattle.bb_tree.specs.Blob.{double_word}
use Rattle.bb_fdt.proofs.text.add_double_word.Goals as goal

pub returns : goal.returns
unfolding double_word
returns c = grind (arith, common_steps)
