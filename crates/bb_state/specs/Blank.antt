-- A device as it comes from its maker.
use Rattle.std.specs.Prelude.{◌≡◌, ℕ, replicate}
use Rattle.bb_flash.specs.Image.{Image}

-- each of its bytes is 0xFF, and its pages may have any health
pub record IsErased (image : Image) : Type 0 where
  pub size : ℕ
  pub bytes : image.bytes ≡ replicate size 255
