-- The round trips, kind by kind.
use Rattle.std.proofs.Common.{◌≡◌, ◌≢◌, ℕ, ◌<◌, ◌^◌, List, [], Option, Some, None, Ok, length, arith, refl, ap, ◌∙◌, AllPairs, decimal, unwrap_or}
use Rattle.std.proofs.lemmas.Nat.{from_le_bytes-to_le_bytes_4}
use Rattle.std.proofs.lemmas.Option.{slice_get-get_or, slice_get_within}
use Rattle.std.specs.Int.{w8, w32, to_le_bytes, from_le_bytes}
use Rattle.std.specs.List.{position, slice_get}
use Rattle.std.specs.Option.{ok_or}
use Rattle.std.specs.Str.{bytes_eq}
use Rattle.bb_base.specs.Number.{number_of}
use Rattle.bb_vars.specs.Kind.{size_of, HasFewNames}
use Rattle.bb_vars.specs.Mac.{mac_of}
use Rattle.bb_vars.specs.RoundTrip.{IsValue, ReadsBack, plain_text}
use Rattle.bb_vars.specs.Value.{index_bytes, bytes_of, text_of}
use Rattle.bb_vars.specs.declared.kind.Kind.{Kind}
use Rattle.bb_vars.specs.declared.kind.Kind.TheVariants.{Uint8, Uint32, Enum32, Mac, Chars}
use Rattle.bb_vars.specs.declared.value_error.ValueError.TheVariants.{NotMac}
use Rattle.bb_vars.proofs.ByteWidths.{to_le_bytes-from, uint8_reads_back, uint32_reads_back, uint8_prints, uint32_prints, number_sized}
use Rattle.bb_vars.proofs.MacRead.{mac_of-mac_text, mac_text-of, mac_sized}
use Rattle.bb_vars.proofs.Names.{position-of_name, slice_get-position}
use Rattle.bb_vars.proofs.Strings.{chars_bytes-before_first, chars_print, chars_sized}

-- ---- printed, then read

index_reads_back : (names : List (List ℕ)) (value : List ℕ) (index : ℕ) → to_le_bytes w32 index ≡ value → AllPairs (λ a b. a ≢ b) names
    → index < length names
    → index_bytes (position (λ name. bytes_eq name (unwrap_or (slice_get names index) (decimal index))) names) ≡ Ok value
index_reads_back names value index bytes differ inside =
    let named = slice_get-get_or names index [] inside in
    ap (λ found. index_bytes (position (λ name. bytes_eq name (unwrap_or found (decimal index))) names)) named
    ∙ ap index_bytes (position-of_name names index inside differ)
    ∙ ap (λ v. Ok v) bytes

pub reads_back : (kind : Kind) (value : List ℕ) → IsValue kind value → ReadsBack kind value → bytes_of kind (text_of kind value) ≡ Ok value
reads_back Uint8 value is plain = uint8_reads_back value is.sized is.bytes
reads_back Uint32 value is plain = uint32_reads_back value is.sized is.bytes
reads_back (Enum32 names) value is plain =
    index_reads_back names value (from_le_bytes w32 value) (to_le_bytes-from value is.sized is.bytes) plain.0 plain.1
reads_back Mac value is plain = ap (λ found. ok_or found NotMac) (mac_of-mac_text value is.sized is.bytes)
reads_back (Chars size) value is plain = chars_bytes-before_first size value is.sized plain

-- ---- read, then printed

record IsIndex (found : Option ℕ) (value : List ℕ) : Type 0 where
  index : ℕ
  found_is : found ≡ Some index
  value_is : value ≡ to_le_bytes w32 index

index_read : (found : Option ℕ) (value : List ℕ) → index_bytes found ≡ Ok value → IsIndex found value
index_read (Some index) value h = record { index = index; found_is = refl; value_is = cc }
index_read None value h = absurd (cc)

mac_read : (found : Option (List ℕ)) (value : List ℕ) → ok_or found NotMac ≡ Ok value → found ≡ Some value
mac_read (Some bytes) value h = cc
mac_read None value h = absurd (cc)

index_prints : (names : List (List ℕ)) (text value : List ℕ) → length names < 2 ^ 32 → index_bytes (position (λ name. bytes_eq name text) names) ≡ Ok value
    → text_of (Enum32 names) value ≡ text
index_prints names text value few h =
    let read = index_read (position (λ name. bytes_eq name text) names) value h in
    let named = slice_get-position names text read.index read.found_is in
    let inside = slice_get_within names read.index text named in
    let number : from_le_bytes w32 value ≡ read.index =
    ap (from_le_bytes w32) read.value_is ∙ from_le_bytes-to_le_bytes_4 read.index (omega arith) in
    ap (λ i. unwrap_or (slice_get names i) (decimal i)) number ∙ ap (λ found. unwrap_or found (decimal read.index)) named

pub prints_plain : (kind : Kind) (text value : List ℕ) → HasFewNames kind → bytes_of kind text ≡ Ok value → text_of kind value ≡ plain_text kind text
prints_plain Uint8 text value few h = uint8_prints (number_of text) value h
prints_plain Uint32 text value few h = uint32_prints (number_of text) value h
prints_plain (Enum32 names) text value few h = index_prints names text value few h
prints_plain Mac text value few h = mac_text-of text value (mac_read (mac_of text) value h)
prints_plain (Chars size) text value few h = chars_print size text value h

pub read_sized : (kind : Kind) (text value : List ℕ) → bytes_of kind text ≡ Ok value → length value ≡ size_of kind
read_sized Uint8 text value h = number_sized w8 (number_of text) value h
read_sized Uint32 text value h = number_sized w32 (number_of text) value h
read_sized (Enum32 names) text value h =
    ap length (index_read (position (λ name. bytes_eq name text) names) value h).value_is
read_sized Mac text value h = mac_sized text value (mac_read (mac_of text) value h)
read_sized (Chars size) text value h = chars_sized size text value h
