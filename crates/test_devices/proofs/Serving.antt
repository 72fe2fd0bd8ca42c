-- The buckets that are tried are made for the board that they are tried on.
use Rattle.std.proofs.Common.{◌≡◌, ℕ, List, length, Result, Ok, Err, OnOk, refl, sym, subst, IsTrue}
use Rattle.bb_flash.specs.declared.geometry.Geometry.{Geometry}
use Rattle.bb_flash.specs.Cuts.{IsLater}
use Rattle.bb_flash.specs.Device.{Device}
use Rattle.bb_bucket.specs.Blocks.{is_block_of}
use Rattle.bb_bucket.specs.Calls.{ErasesWhere, Leaves}
use Rattle.bb_bucket.specs.Kind.{BucketKind}
use Rattle.bb_bucket.specs.OneBlock.{one_block_kind}
use Rattle.bb_bucket.specs.Stride.{lies_on, stride_kind}
use Rattle.bb_circular.specs.Circular.{circular_kind}
use Rattle.bb_circular.specs.Wear.{IsWritten}
use Rattle.bb_circular.proofs.Wearing.{was_written}
use Rattle.test_devices.specs.Trials.{tried_block, tried_device, tried_stride}

tried_serves : (geometry : Geometry) → geometry ≡ tried_device → IsTrue (is_block_of tried_block geometry)
tried_serves geometry is = subst (λ (g : Geometry). IsTrue (is_block_of tried_block g)) (sym is) refl

pub circular_serves : (kind : BucketKind) (geometry : Geometry) → kind ≡ circular_kind tried_block → geometry ≡ tried_device → IsTrue (kind.serves geometry)
circular_serves kind geometry is on = subst (λ (k : BucketKind). IsTrue (k.serves geometry)) (sym is) (tried_serves geometry on)

pub one_block_serves : (kind : BucketKind) (geometry : Geometry) → kind ≡ one_block_kind tried_block → geometry ≡ tried_device → IsTrue (kind.serves geometry)
one_block_serves kind geometry is on = subst (λ (k : BucketKind). IsTrue (k.serves geometry)) (sym is) (tried_serves geometry on)

pub stride_serves : (kind : BucketKind) (geometry : Geometry) → kind ≡ stride_kind tried_stride → IsTrue (lies_on tried_stride geometry) → IsTrue (kind.serves geometry)
stride_serves kind geometry is held = subst (λ (k : BucketKind). IsTrue (k.serves geometry)) (sym is) held

pub ok_written :
    {T E : Type 0} (result : Result T E) (kind : BucketKind) (rec : List ℕ) (from to : Device) →
    kind ≡ circular_kind tried_block →
    OnOk result (Leaves kind.region (kind.after_write rec) from to) →
    OnOk result (ErasesWhere kind.region (kind.write_erases rec) from to) →
    IsLater from to → OnOk result (IsWritten tried_block (length rec) rec from to)
ok_written (Ok x) kind rec from to is done erases later = was_written kind tried_block rec from to is done erases later
ok_written (Err e) kind rec from to is done erases later = done
