-- A slot beside the copies of a layout.
use Rattle.std.specs.Prelude.{◌≡◌, ◌⊎◌, List}
use Rattle.bb_bucket.specs.Kind.{BucketKind}
use Rattle.bb_copies.specs.Buckets.{IsOutside}
use Rattle.bb_flash.specs.declared.region.Region.{Region}
use Rattle.bb_layout.specs.Layout.{Laid}
use Rattle.bb_install.specs.Slot.{HasPlace, SharesByte}

-- it has a place on the layout's device, and shares no byte with the partition of its copies
pub record IsBeside (layout : Laid) (slot : Region) : Type 0 where
  pub place : HasPlace layout.geometry slot
  pub apart : SharesByte slot layout.region → ⊥

-- it shares no byte with any copy, or has no byte at all
abbrev pub IsBesideCopies : List BucketKind → Region → Type 0
IsBesideCopies kinds slot = IsOutside kinds slot ⊎ (slot.size ≡ 0)
