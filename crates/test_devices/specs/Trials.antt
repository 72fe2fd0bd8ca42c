-- The block that is tried, and the device on which it stands: the second of three blocks, of four
-- pages of 16 bytes. And the stride that is tried, the second of three on a device without blocks.
use Rattle.bb_flash.specs.declared.geometry.Geometry.{Geometry}
use Rattle.bb_flash.specs.declared.region.Region.{Region}
use Rattle.bb_bucket.specs.declared.block.Block.{Block}

abbrev pub tried_block : Block
tried_block = record { region = record { at = 64; size = 64 }; page = 16 }

abbrev pub tried_device : Geometry
tried_device = record { page = 16; block = 64; size = 192 }

abbrev pub tried_stride : Region
tried_stride = record { at = 64; size = 64 }
