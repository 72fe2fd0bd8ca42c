-- How many flash calls a write of a log makes that change the device.
use Rattle.std.proofs.Common.{◌≡◌, ℕ, ◌+◌, ◌≤◌, not, true, false, List, length, Result, sym, ap, subst}
use Rattle.std.specs.Prelude.{if◌then◌else◌}
use Rattle.std.specs.Option.{ForSome}
use Rattle.bb_flash.specs.Device.{Device, content}
use Rattle.bb_bucket.specs.declared.block.Block.{Block}
use Rattle.bb_bucket.specs.BlockLaws.{HasBlock}
use Rattle.bb_bucket.specs.Calls.{MakesCalls, calls_of_write}
use Rattle.bb_bucket.specs.Kind.{part_of}
use Rattle.bb_bucket.proofs.Making.{made_as}
use Rattle.bb_circular.specs.Circular.{circular_kind, fits_after, next_place}
use Rattle.bb_circular.specs.Entries.{entry_len}
use Rattle.bb_circular.proofs.LogCalls.{fits_there}

module _ {T E : Type 0} (result : Result T E) (block : Block) (rec : List ℕ) (from to : Device) (held : HasBlock block from.geometry) where
  -- one call where the entry fits after what stands there
  pub append_made :
      (next : ℕ) → next + entry_len block.page (length rec) ≤ block.region.size →
      ForSome (content from) (λ image. next ≡ next_place block.page (part_of block.page block.region image)) →
      MakesCalls result block.region (λ part. 1) from to →
      MakesCalls result block.region (calls_of_write (circular_kind block) rec) from to
  append_made next inside placed made =
      made_as result block.region (λ part. 1) (calls_of_write (circular_kind block) rec) from to
      (λ image e.
      let fits = subst (λ p. not (fits_after block rec (part_of p block.region image)) ≡ false) (sym held.page) (ap not (fits_there block rec next image (placed image e) inside)) in
      sym (ap (λ erased. if erased then 2 else 1) fits))
      made

  -- and two where it doesn't
  pub anew_made :
      ForSome (content from) (λ image. fits_after block rec (part_of block.page block.region image) ≡ false) →
      MakesCalls result block.region (λ part. 2) from to →
      MakesCalls result block.region (calls_of_write (circular_kind block) rec) from to
  anew_made full made =
      made_as result block.region (λ part. 2) (calls_of_write (circular_kind block) rec) from to
      (λ image e.
      let none = subst (λ p. not (fits_after block rec (part_of p block.region image)) ≡ true) (sym held.page) (ap not (full image e)) in
      sym (ap (λ erased. if erased then 2 else 1) none))
      made
