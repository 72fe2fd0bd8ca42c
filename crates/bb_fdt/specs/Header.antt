-- A blob's header: ten words, the highest byte first (Devicetree Specification v0.4, section 5.2).
--
--   0   magic              0xD00DFEED
--   4   totalsize          the blob's length
--   8   off_dt_struct      where the structure block begins
--   12  off_dt_strings     where the strings block begins
--   16  off_mem_rsvmap     where the reservation list begins
--   20  version
--   24  last_comp_version  the lowest version that the blob is compatible with
--   28  boot_cpuid_phys    not looked at
--   32  size_dt_strings    the strings block's length
--   36  size_dt_struct     the structure block's length
use Rattle.std.specs.Prelude.{ℕ, ◌+◌, ◌%◌, ◌==◌, Bool, ◌||◌, not, List, length, drop, nat_lt, Result, Ok, Err, if◌then◌else◌}
use Rattle.byteorder.specs.Endian.{big_number}
use Rattle.bb_fdt.specs.declared.error.FdtError.{FdtError}
use Rattle.bb_fdt.specs.declared.error.FdtError.TheVariants.{NotBlob, Version, OutOfBounds}
use Rattle.bb_fdt.specs.declared.error.Field.TheVariants.{Total, Struct, Strings, Reserve}
use Rattle.bb_fdt.specs.declared.header.Header.{Header}

-- the word at a place
unfoldable pub header_word_at : ℕ → List ℕ → ℕ
header_word_at at bytes = big_number 4 (drop at bytes)

-- the words that are looked at
abbrev pub header_fields : List ℕ → Header
header_fields bytes = record {
  total = header_word_at 4 bytes;
  struct_at = header_word_at 8 bytes;
  strings_at = header_word_at 12 bytes;
  reserve_at = header_word_at 16 bytes;
  version = header_word_at 20 bytes;
  last_version = header_word_at 24 bytes;
  strings_len = header_word_at 32 bytes;
  struct_len = header_word_at 36 bytes;
}

-- whether a part of the blob ends after the blob's end
abbrev pub is_outside : ℕ → ℕ → ℕ → Bool
is_outside total at len = nat_lt total (at + len)

-- the header of a blob among so many bytes, or the first of its faults
abbrev pub header_or_fault : ℕ → Header → Result Header FdtError
header_or_fault len h =
    if nat_lt h.version 17 || nat_lt 17 h.last_version then Err Version else (
    if nat_lt h.total 40 || nat_lt len h.total then Err (OutOfBounds Total) else (
    if not (h.struct_at % 4 == 0) || is_outside h.total h.struct_at h.struct_len
    then Err (OutOfBounds Struct)
    else (
    if is_outside h.total h.strings_at h.strings_len then Err (OutOfBounds Strings) else (
    if not (h.reserve_at % 8 == 0) then Err (OutOfBounds Reserve) else Ok h))))

-- the header that bytes begin with, or the first of its faults
abbrev pub header_of : List ℕ → Result Header FdtError
header_of bytes =
    if nat_lt (length bytes) 40 || not (header_word_at 0 bytes == 0xD00DFEED)
    then Err NotBlob
    else header_or_fault (length bytes) (header_fields bytes)
