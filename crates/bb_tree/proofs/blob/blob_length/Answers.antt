use Rattle.std.proofs.Common.{arith}
use Rattle.bb_tree.specs.NodeViews.{branch_of}
use Rattle.bb_tree.specs.Blob.{devicetree_of}
use Rattle.bb_tree.proofs.Lengths.{length-blob, few_under}
use Rattle.bb_tree.proofs.blob.blob_length.Goals as goal

pub returns-then-structure : goal.returns-then-structure
returns-then-structure c = omega (arith, length-blob (devicetree_of c.args.tree.now), c.node_length-structure.ensures, c.if-structure.true)

pub strings_length-strings-requires-clause-fits : goal.strings_length-strings-requires-clause-fits
strings_length-strings-requires-clause-fits c = omega (arith, few_under (branch_of c.args.tree.now.root), c.node_length-structure.ensures, c.if-structure.false)

pub returns : goal.returns
returns c =
    omega (arith, length-blob (devicetree_of c.args.tree.now), c.node_length-structure.ensures, c.strings_length-strings.ensures.sum, c.len.ensures, c.saturating_mul.ensures, c.saturating_add.ensures, c.saturating_add-2.ensures, c.saturating_add-3.ensures)
