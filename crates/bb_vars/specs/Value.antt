-- Values as text and as the bytes of an area (barebox User Manual, State Framework).
use Rattle.std.specs.Prelude.{ℕ, ◌-◌, ◌^◌, ◌==◌, ◌++◌, List, Option, Some, None, Result, Ok, Err, if◌then◌else◌, length, nat_lt, slice_get, unwrap_or, replicate, decimal}
use Rattle.std.specs.Int.{Width, w8, w32, byte_len, to_le_bytes, from_le_bytes}
use Rattle.std.specs.List.{list_any, before_first}
use Rattle.std.specs.Option.{ok_or}
use Rattle.bb_base.specs.Number.{number_of}
use Rattle.bb_base.specs.declared.number.NumberError.{NumberError}
use Rattle.bb_base.specs.declared.number.NumberError.TheVariants as number
use Rattle.bb_vars.specs.Mac.{mac_of, mac_text}
use Rattle.bb_vars.specs.Names.{place_of_name}
use Rattle.bb_vars.specs.declared.kind.Kind.{Kind}
use Rattle.bb_vars.specs.declared.kind.Kind.TheVariants.{Uint8, Uint32, Enum32, Mac, Chars}
use Rattle.bb_vars.specs.declared.value_error.ValueError.{ValueError}
use Rattle.bb_vars.specs.declared.value_error.ValueError.TheVariants.{NotNumber, TooLarge, NoSuchName, NotMac, TooLong, HasZeroByte}

-- ---- from text to bytes

-- why a text is no number
abbrev pub number_refusal : NumberError → ValueError
number_refusal number.NotNumber = NotNumber
number_refusal number.TooLarge = TooLarge

-- a number that fits the type, little endian
abbrev pub number_bytes : Width → Result ℕ NumberError → Result (List ℕ) ValueError
number_bytes width (Ok n) =
    if nat_lt n (256 ^ byte_len width) then Ok (to_le_bytes width n) else Err TooLarge
number_bytes width (Err cause) = Err (number_refusal cause)

-- the index of a name, little endian
abbrev pub index_bytes : Option ℕ → Result (List ℕ) ValueError
index_bytes (Some index) = Ok (to_le_bytes w32 index)
index_bytes None = Err NoSuchName

-- a text and as many zero bytes as it lacks for a size
abbrev pub with_filling : ℕ → List ℕ → List ℕ
with_filling size text = text ++ replicate (size - length text) 0

-- a string, filled up with zero bytes
abbrev pub chars_bytes : ℕ → List ℕ → Result (List ℕ) ValueError
chars_bytes size text =
    if nat_lt size (length text) then Err TooLong
    else if list_any (λ c. c == 0) text then Err HasZeroByte
    else Ok (with_filling size text)

-- the bytes that a text stands for, or the first cause for which it stands for none.
-- Of an enum's names the first that is the text counts.
abbrev pub bytes_of : Kind → List ℕ → Result (List ℕ) ValueError
bytes_of Uint8 text = number_bytes w8 (number_of text)
bytes_of Uint32 text = number_bytes w32 (number_of text)
bytes_of (Enum32 names) text = index_bytes (place_of_name names text)
bytes_of Mac text = ok_or (mac_of text) NotMac
bytes_of (Chars size) text = chars_bytes size text

-- ---- from bytes to text

-- the name at a place, or the place's number in decimal where there is none
abbrev pub name_or_number : List (List ℕ) → ℕ → List ℕ
name_or_number names place = unwrap_or (slice_get names place) (decimal place)

-- the text of a value: a number in decimal, an enum's name, or its number where that is none of a
-- name, a MAC address in lower case, a string before its first zero byte
abbrev pub text_of : Kind → List ℕ → List ℕ
text_of Uint8 bytes = decimal (from_le_bytes w8 bytes)
text_of Uint32 bytes = decimal (from_le_bytes w32 bytes)
text_of (Enum32 names) bytes = name_or_number names (from_le_bytes w32 bytes)
text_of Mac bytes = mac_text bytes
text_of (Chars size) bytes = before_first (λ c. c == 0) bytes
