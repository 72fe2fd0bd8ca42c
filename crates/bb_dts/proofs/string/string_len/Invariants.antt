use Rattle.std.proofs.Common.{◌≡◌, ◌+◌, false, drop}
use Rattle.std.specs.Option.{option_map}
use Rattle.bb_dts.specs.Strings.{string_len}
use Rattle.bb_dts.proofs.string.string_len.Given as goal

-- what is counted and what is left to count make the whole
abbrev pub invariant-loop-i : goal.invariant-loop-i
invariant-loop-i l = string_len false l.text ≡ option_map (λ n. n + l.i) (string_len l.escaped (drop l.i l.text))
