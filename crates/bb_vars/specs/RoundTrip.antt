-- Which values read back as they were printed, and what a value that was read prints.
use Rattle.std.specs.Prelude.{◌≡◌, ◌≢◌, ℕ, ◌<◌, ◌==◌, ⊤, List, length, All, AllPairs, decimal}
use Rattle.std.specs.Int.{w32, from_le_bytes}
use Rattle.std.specs.List.{after_first}
use Rattle.std.specs.Result.{result_unwrap_or}
use Rattle.std.specs.Str.{str_to_ascii_lowercase}
use Rattle.bb_base.specs.Number.{number_of}
use Rattle.bb_vars.specs.Kind.{size_of}
use Rattle.bb_vars.specs.declared.kind.Kind.{Kind}
use Rattle.bb_vars.specs.declared.kind.Kind.TheVariants.{Uint8, Uint32, Enum32, Mac, Chars}

-- bytes, as many as the kind has
pub record IsValue (kind : Kind) (value : List ℕ) : Type 0 where
  pub sized : length value ≡ size_of kind
  pub bytes : All (λ b. b < 256) value

-- the value has a text of its own: every number and MAC address, an index of one of an enum's
-- names, which all differ, and a string with only zero bytes after its first zero byte
abbrev pub ReadsBack : Kind → List ℕ → Type 0
ReadsBack Uint8 value = ⊤
ReadsBack Uint32 value = ⊤
ReadsBack (Enum32 names) value =
    AllPairs (λ a b. a ≢ b) names × (from_le_bytes w32 value < length names)
ReadsBack Mac value = ⊤
ReadsBack (Chars size) value = All (λ c. c ≡ 0) (after_first (λ c. c == 0) value)

-- the one form of the texts that stand for a value: a number in decimal, a MAC address in lower
-- case
abbrev pub plain_text : Kind → List ℕ → List ℕ
plain_text Uint8 text = decimal (result_unwrap_or (number_of text) 0)
plain_text Uint32 text = decimal (result_unwrap_or (number_of text) 0)
plain_text (Enum32 names) text = text
plain_text Mac text = str_to_ascii_lowercase text
plain_text (Chars size) text = text
