-- Ranges as the place of their first byte and their end.
use Rattle.std.specs.Prelude.{ℕ, Bool, false, ◌||◌, List, [], ◌∷◌, nat_lt}
use Rattle.bb_layout.specs.Ranges.{end_of}
use Rattle.bb_layout.specs.declared.var.Var.{Var}

abbrev pub span_of : Var → ℕ × ℕ
span_of v = (v.at, end_of v)

-- whether one of the spans begins before the one in front of it ends
abbrev pub begins_early : ℕ → List (ℕ × ℕ) → Bool
begins_early end [] = false
begins_early end (q ∷ qs) = nat_lt q.0 end || begins_early q.1 qs

abbrev pub has_meeting_spans : List (ℕ × ℕ) → Bool
has_meeting_spans [] = false
has_meeting_spans (p ∷ ps) = begins_early p.1 ps
