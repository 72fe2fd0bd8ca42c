-- Names are ASCII.
use Rattle.std.proofs.Common.{◌≡◌, ℕ, ◌<◌, ◌≤◌, true, List, [], ◌∷◌, length, None, refl, arith}
use Rattle.std.specs.List.{list_all}
use Rattle.std.specs.Str.{IsAscii}
use Rattle.std.proofs.lemmas.Bool.{and_parts}
use Rattle.std.proofs.lemmas.List.{drop_all}
use Rattle.std.proofs.lemmas.Bool.Decides.{nat_tests}
use Rattle.std.proofs.lemmas.Str.Ascii.{IsAscii-nil, IsAscii-cons}
use Rattle.bb_fdt.specs.Tokens.{is_name, is_name_byte, up_to_zero, string_at}

small : (c : ℕ) → is_name_byte c ≡ true → c < 128
small c is = grind (arith, nat_tests)

all_small : (name : List ℕ) → list_all is_name_byte name ≡ true → IsAscii name
all_small [] is = IsAscii-nil
all_small (c ∷ cs) is = let parts = and_parts _ _ is in
    IsAscii-cons c cs (small c parts.0) (all_small cs parts.1)

pub IsAscii-name : (name : List ℕ) → is_name name ≡ true → IsAscii name
IsAscii-name name is = all_small name (and_parts _ _ is).1

-- no name begins at the end of the strings block or after it
pub name_in-past : (strings : List ℕ) (at : ℕ) → length strings ≤ at → string_at strings at ≡ None
unfolding string_at up_to_zero
name_in-past strings at past = rw (drop_all at strings past) refl
