use Rattle.std.proofs.Common.{◌≡◌, false, map, take}
use Rattle.std.specs.Str.{bytes_eq}
use Rattle.bb_layout.specs.Ranges.{some_pair}
use Rattle.bb_chooser.proofs.Texts.{now}
use Rattle.bb_chooser.proofs.value.differing_names.Given as goal

-- the words so far are taken, and differ
abbrev pub invariant-loop-word : goal.invariant-loop-word
invariant-loop-word l = record {
  taken : l.names ≡ map now (take l.word-index l.words);
  differ : some_pair bytes_eq l.names ≡ false;
}
