use Rattle.std.proofs.Common.{◌≡◌, ◌+◌, ◌≤◌, IsCharBoundary, length, take}
use Rattle.std.specs.List.{suffix_len}
use Rattle.bb_bls.specs.Entry.{is_blank}
use Rattle.bb_bls.proofs.line.trim_blanks_end.Given as goal

-- what stands after the end is blank, and the text can be cut there
abbrev pub invariant-loop-end : goal.invariant-loop-end
invariant-loop-end l = record {
  within : l.end ≤ length l.text;
  blanks : l.end + suffix_len is_blank l.text ≡ length l.text + suffix_len is_blank (take l.end l.text);
  boundary : IsCharBoundary l.text l.end;
}

abbrev pub decreases-loop-end : goal.decreases-loop-end
decreases-loop-end l = l.end
