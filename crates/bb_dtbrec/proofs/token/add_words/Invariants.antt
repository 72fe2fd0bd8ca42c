use Rattle.std.proofs.Common.{◌≡◌, ◌++◌, take}
use Rattle.std.specs.List.{flat_map}
use Rattle.bb_tree.specs.Blob.{word}
use Rattle.bb_dtbrec.proofs.token.add_words.Given as goal

-- the words so far are written
abbrev pub invariant-loop-n : goal.invariant-loop-n
invariant-loop-n l = l.bytes ≡ l.fn.bytes ++ flat_map word (take l.n-index l.words)
