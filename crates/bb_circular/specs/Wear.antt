-- How often a block is erased by records of one length that are written to it one after the other.
use Rattle.std.specs.Prelude.{◌≡◌, ℕ, ◌+◌, ◌/◌, ◌≤◌, List, [], ◌∷◌, length, IsTrue, is_some, slice_index, ⊤}
use Rattle.std.specs.Int.{div_ceil}
use Rattle.std.specs.Option.{ForSome}
use Rattle.bb_flash.specs.Cuts.{IsLater}
use Rattle.bb_flash.specs.Device.{Device, IsDevice, erases}
use Rattle.bb_bucket.specs.declared.block.Block.{Block}
use Rattle.bb_bucket.specs.Blocks.{is_block_of}
use Rattle.bb_bucket.specs.Calls.{ErasesWhere, Leaves}
use Rattle.bb_circular.specs.Circular.{circular_kind}
use Rattle.bb_circular.specs.Entries.{closing_len, entry_len}

-- how many entries of records of this length the block holds
abbrev pub entries_in : Block → ℕ → ℕ
entries_in block len = block.region.size / entry_len block.page len

-- how often the block was erased, of the numbers of all blocks
abbrev pub erases_of_block : Block → Device → List ℕ → ℕ
erases_of_block block device numbers = slice_index numbers (block.region.at / device.geometry.block)

-- a record of this length was written and the write answered Ok: what its clauses say of the block
pub record IsWritten (block : Block) (len : ℕ) (rec : List ℕ) (from to : Device) : Type 0 where
  pub sized : length rec ≡ len
  pub done : Leaves block.region ((circular_kind block).after_write rec) from to
  pub erases : ErasesWhere block.region ((circular_kind block).write_erases rec) from to
  pub later : IsLater from to

-- nothing was done to the block: reads, restarts and calls on other blocks may have been made
pub record IsIdle (block : Block) (from to : Device) : Type 0 where
  pub geometry : to.geometry ≡ from.geometry
  pub told : is_some to.told ≡ is_some from.told
  pub leaves : Leaves block.region (λ old. old) from to
  pub erased :
      ForSome (erases from)
      (λ before.
      ForSome (erases to) (λ after. erases_of_block block from after ≡ erases_of_block block from before))

-- what may be done to a block
pub data Deed : Type 0 where
  Idle : Deed
  Write : List ℕ → Deed

-- what was done, and the device that it left
pub record BlockEvent : Type 0 where
  pub deed : Deed
  pub device : Device

-- a deed brings one device from another
abbrev pub FollowsOnBlock : Block → ℕ → Device → Deed → Device → Type 0
FollowsOnBlock block len from Idle to = IsIdle block from to
FollowsOnBlock block len from (Write rec) to = IsWritten block len rec from to

-- what was done to a block, one after the other: records of this length were written, all calls
-- answered Ok, and there was no cut, no decay and no voiding
abbrev pub History : Block → ℕ → Device → List BlockEvent → Type 0
History block len from [] = ⊤
History block len from (event ∷ later) =
    FollowsOnBlock block len from event.deed event.device × History block len event.device later

-- the records that were written
abbrev pub written_by : Deed → List (List ℕ) → List (List ℕ)
written_by Idle later = later
written_by (Write rec) later = rec ∷ later

-- the same of a list of events
abbrev pub records_in : List BlockEvent → List (List ℕ)
records_in [] = []
records_in (event ∷ later) = written_by event.deed (records_in later)

-- the device at the end
abbrev pub last_device : Device → List BlockEvent → Device
last_device from [] = from
last_device from (event ∷ later) = last_device event.device later

-- Whatever a block held, n records of one length erase it at most n divided by e times, rounded up,
-- where it holds e of their entries.
abbrev pub WearLaw : Type 0
WearLaw =
    (block : Block) (len : ℕ) (from : Device) (events : List BlockEvent) →
    IsTrue (is_block_of block from.geometry) → IsDevice from →
    len + closing_len ≤ block.region.size →
    History block len from events →
    ForSome (erases from)
    (λ before.
    ForSome (erases (last_device from events))
    (λ after.
    erases_of_block block from after
    ≤ erases_of_block block from before
    + div_ceil (length (records_in events)) (entries_in block len)))
