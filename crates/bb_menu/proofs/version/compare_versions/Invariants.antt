use Rattle.std.proofs.Common.{◌≡◌, length}
use Rattle.bb_menu.specs.Version.{version_cmp}
use Rattle.bb_menu.proofs.version.compare_versions.Given as goal

-- the tokens so far are the same
abbrev pub invariant-loop-left_rest : goal.invariant-loop-left_rest
invariant-loop-left_rest l = version_cmp l.fn.a l.fn.b ≡ version_cmp l.left l.right

abbrev pub decreases-loop-left_rest : goal.decreases-loop-left_rest
decreases-loop-left_rest l = length l.left
