use Rattle.std.proofs.Common.{◌≡◌, ◌≤◌, length}
use Rattle.bb_menu.specs.Version.{version_tokens}
use Rattle.bb_menu.proofs.token.first_token.Given as goal

-- what was passed over only separates
abbrev pub invariant-loop-first : goal.invariant-loop-first
invariant-loop-first l = record {
  same : version_tokens l.fn.text ≡ version_tokens l.rest;
  shorter : length l.rest ≤ length l.fn.text;
}

abbrev pub decreases-loop-first : goal.decreases-loop-first
decreases-loop-first l = length l.rest
