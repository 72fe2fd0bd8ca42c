use Rattle.std.proofs.Common.{◌≡◌, true, take}
use Rattle.std.specs.Char.{is_digit}
use Rattle.std.specs.List.{list_all}
use Rattle.std.specs.Str.Parse.{digits_value}
use Rattle.bb_dts.specs.Numbers.{fits_64}
use Rattle.bb_dts.proofs.number.read_digits.Given as goal

-- the bytes so far are digits, and their value is kept where it has 64 bits
abbrev pub invariant-loop-c : goal.invariant-loop-c
invariant-loop-c l =
    (list_all (λ c. is_digit c l.radix) (take l.c-index l.digits) ≡ true) × (l.value ≡ fits_64 (digits_value l.radix (take l.c-index l.digits)))
