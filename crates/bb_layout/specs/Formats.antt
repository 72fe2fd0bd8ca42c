-- What a record is, by the format of a layout (barebox User Manual, State Framework).
use Rattle.std.specs.Prelude.{ℕ, ◌+◌, Bool, true, false, [], length, replicate}
use Rattle.bb_raw.specs.Raw.{header_len}
use Rattle.bb_tree.specs.Blob.{blob_text}
use Rattle.bb_layout.specs.Record.{Recorded, record_tree_of}
use Rattle.bb_layout.specs.declared.format_kind.FormatKind.{FormatKind}
use Rattle.bb_layout.specs.declared.format_kind.FormatKind.TheVariants.{Dtb, Raw, RawHmac}

-- whether an HMAC ends it, for which a key is needed
abbrev pub takes_key : FormatKind → Bool
takes_key Raw = false
takes_key RawHmac = true
takes_key Dtb = false

-- a raw record is its header and the area
abbrev pub raw_len : ℕ → ℕ
raw_len area_len = header_len + area_len

-- A record that is a blob is as long over each area of that length as over zero bytes.
abbrev pub blob_len : Recorded → ℕ → ℕ
blob_len recorded area_len =
    length (blob_text (record {
      root = record_tree_of recorded (replicate area_len 0);
      reserved = [];
    }))

-- how many bytes it has: an HMAC has 32
abbrev pub record_len : FormatKind → Recorded → ℕ → ℕ
record_len Raw recorded area_len = raw_len area_len
record_len RawHmac recorded area_len = raw_len area_len + 32
record_len Dtb recorded area_len = blob_len recorded area_len
