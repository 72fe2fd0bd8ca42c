use Rattle.std.proofs.Common.{◌≡◌, ◌+◌, drop}
use Rattle.std.specs.Option.{option_map}
use Rattle.bb_dts.specs.Tokens.{comment_len}
use Rattle.bb_dts.proofs.token.comment_len.Given as goal

-- what is counted and what is left to count make the whole
abbrev pub invariant-loop-i : goal.invariant-loop-i
invariant-loop-i l = comment_len l.text ≡ option_map (λ n. n + l.i) (comment_len (drop l.i l.text))
