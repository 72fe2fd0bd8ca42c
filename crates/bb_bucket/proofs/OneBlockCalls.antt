-- The flash calls of a write to a block that holds one record, and what they leave.
use Rattle.std.proofs.Common.{◌≡◌, ℕ, ◌+◌, ◌-◌, ◌≤◌, List, length, replicate, refl, sym, ap, ◌∙◌, arith, subst}
use Rattle.bb_flash.specs.declared.geometry.Geometry.{Geometry}
use Rattle.bb_flash.specs.Calls.{ChangesOnly}
use Rattle.bb_flash.specs.Cuts.{IsLater}
use Rattle.bb_flash.specs.Device.{Device, IsDevice}
use Rattle.bb_flash.specs.Image.{Image}
use Rattle.bb_bucket.specs.declared.block.Block.{Block}
use Rattle.bb_bucket.specs.Blocks.{erased_block, blank_of}
use Rattle.bb_bucket.specs.BlockLaws.{HasBlock}
use Rattle.bb_bucket.specs.Calls.{EachCall, IsWriteCall, Leaves}
use Rattle.bb_bucket.specs.Front.{with_header, first_bytes, put_at}
use Rattle.bb_bucket.specs.FrontLaws.{blank_holds_none, written_begins}
use Rattle.bb_bucket.specs.OneBlock.{block_entry, block_entry_len, one_block_kind}
use Rattle.bb_bucket.proofs.BlockCalls.{NamesBoth, erase_calls, erase_then_program}
use Rattle.bb_bucket.proofs.Runs.{leaves_joined}

module _ (block : Block) (rec : List ℕ) where
  names_both : (page len : ℕ) (image : Image) → len ≡ block_entry_len block.page (length rec) → NamesBoth (one_block_kind block) page rec len image
  names_both page len image is = record {
    whole = (0, omega arith, refl);
    first = (1, omega arith, ap (first_bytes block.region) (sym is));
  }

  -- the erase that a write begins with
  pub one_block_erase :
      (from to : Device) → HasBlock block from.geometry → IsLater from to → IsDevice to →
      ChangesOnly block.region.at (replicate block.region.size 255) from to →
      EachCall (IsWriteCall (one_block_kind block) from.geometry.page rec) from to
  one_block_erase from to held later whole changes =
      erase_calls (one_block_kind block) block.page (blank_holds_none block.page block.page block.region.size) from to rec
      (block_entry_len block.page (length rec)) held
      (λ image told. names_both from.geometry.page (block_entry_len block.page (length rec)) image refl) later whole changes

  -- the erase and the program after it
  pub one_block_calls :
      (bytes : List ℕ) (one two three : Device) →
      HasBlock block one.geometry → 8 + length rec ≤ block.region.size →
      bytes ≡ block_entry block.page rec → length bytes ≡ block_entry_len block.page (length rec) →
      length bytes ≤ block.region.size →
      IsLater one two → IsLater two three → IsDevice two → IsDevice three →
      ChangesOnly block.region.at (replicate block.region.size 255) one two →
      Leaves block.region (λ part. erased_block one.geometry.page block.region.size) one two →
      ChangesOnly (block.region.at + 0) bytes two three →
      EachCall (IsWriteCall (one_block_kind block) one.geometry.page rec) one three
  one_block_calls bytes one two three held room is len fits early late mid_whole last_whole erased blank programmed =
      let start : block.region.at + 0 ≡ block.region.at = omega arith in
      let filling : List ℕ = replicate (block_entry_len block.page (length rec) - length (with_header rec)) 255 in
      let begun =
      written_begins block.page rec filling bytes (blank_of block) (omega (arith, held.page_least))
      (omega (arith, room, held.inside, held.small)) is in
      erase_then_program (one_block_kind block) block.page (blank_holds_none block.page block.page block.region.size) one two three rec bytes held
      fits begun
      (λ image told. names_both one.geometry.page (length bytes) image len) early late mid_whole last_whole erased blank
      (subst (λ at. ChangesOnly at bytes two three) start programmed)

  -- what they leave
  pub one_block_leaves :
      (bytes : List ℕ) (one two three : Device) →
      HasBlock block one.geometry → bytes ≡ block_entry block.page rec → IsLater one two →
      Leaves block.region (λ part. erased_block one.geometry.page block.region.size) one two →
      Leaves block.region (put_at two.geometry.page 0 bytes) two three →
      Leaves block.region ((one_block_kind block).after_write rec) one three
  one_block_leaves bytes one two three held is early blank programmed =
      let page : two.geometry.page ≡ block.page = ap (λ (geometry : Geometry). geometry.page) early.geometry ∙ held.page in
      let joined = leaves_joined block.region (λ part. erased_block one.geometry.page block.region.size) (put_at two.geometry.page 0 bytes) one two three early blank programmed in
      subst (λ (entry : List ℕ). Leaves block.region (λ part. put_at block.page 0 entry (blank_of block)) one three) is
      (subst (λ p. Leaves block.region (λ part. put_at p 0 bytes (blank_of block)) one three) page
      (subst (λ p. Leaves block.region (λ part. put_at two.geometry.page 0 bytes (erased_block p block.region.size)) one three) held.page joined))
