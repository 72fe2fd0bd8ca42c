use Rattle.std.proofs.Common.{◌≡◌, take, length}
use Rattle.bb_layout.specs.Defaults.{defaults_of}
use Rattle.bb_layout.proofs.defaults.fill_defaults.Given as goal

-- the defaults of the variables so far are put
abbrev pub invariant-loop-var : goal.invariant-loop-var
invariant-loop-var l = (l.out ≡ defaults_of (length l.fn.out) (take l.var-index l.var-items)) × (length l.out ≡ length l.fn.out)
