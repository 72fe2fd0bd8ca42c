-- Layouts of one family: each reads what was stored under another.
use Rattle.std.specs.Prelude.{◌≡◌}
use Rattle.bb_layout.specs.Layout.{Laid}
use Rattle.bb_layout.specs.declared.format_kind.FormatKind.TheVariants.{Dtb}

-- They keep records of one kind at the same places. Where the records are blobs they are the same
-- layout.
pub record SameFamily (one other : Laid) : Type 0 where
  pub magic : one.magic ≡ other.magic
  pub format : one.format ≡ other.format
  pub storage : one.storage ≡ other.storage
  pub geometry : one.geometry ≡ other.geometry
  pub region : one.region ≡ other.region
  pub copies : one.copies ≡ other.copies
  pub blobs : one.format ≡ Dtb → one ≡ other
