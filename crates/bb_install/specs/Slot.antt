-- The slot of a label: a region of a device for the image of a system (devicetree binding
-- `fixed-partitions`, property `label`; Devicetree Specification v0.4, section 2.3.6 on `reg`).
use Rattle.std.specs.Prelude.{◌≡◌, ℕ, ◌+◌, ◌<◌, ◌≤◌, Bool, false, codes, find, min, max, nat_lt, if◌then◌else◌, List, Option, Some, None, Result, Ok, Err, ok_or, option_and_then}
use Rattle.std.specs.Option.{option_map_or}
use Rattle.std.specs.Result.{result_map_both}
use Rattle.std.specs.Str.{bytes_eq}
use Rattle.bb_flash.specs.declared.geometry.Geometry.{Geometry}
use Rattle.bb_flash.specs.declared.region.Region.{Region}
use Rattle.bb_tree.specs.Node.{Branch, preorder}
use Rattle.bb_tree.specs.NodeViews.{branch_of}
use Rattle.bb_tree.specs.Paths.{prop_of}
use Rattle.bb_tree.specs.declared.tree.Tree.{Tree}
use Rattle.bb_layout.specs.Backend.{partition_of}
use Rattle.bb_layout.specs.Facts.{IsAligned}
use Rattle.bb_layout.specs.Fields.{string_of}
use Rattle.bb_layout.specs.Results.{result_and_then}
use Rattle.bb_layout.specs.Storage.{check_place}
use Rattle.bb_layout.specs.declared.layout.Layout.{Layout}
use Rattle.bb_layout.specs.declared.layout_error.LayoutError.{LayoutError}
use Rattle.bb_layout.specs.declared.layout_error.LayoutError.TheVariants.{Unaligned as UnalignedPlace}
use Rattle.bb_install.specs.declared.slot_error.SlotError.{SlotError}
use Rattle.bb_install.specs.declared.slot_error.SlotError.TheVariants.{BadReg, NoSlot, OutOfDevice, Overlap, Unaligned}

-- what is asked of a devicetree: the slot of a label on a device of this geometry, beside the
-- partition in which the copies stand
pub record SlotQuestion : Type 0 where
  pub tree : Branch (List ℕ)
  pub label : List ℕ
  pub geometry : Geometry
  pub copies : Region

abbrev pub slot_question : Tree → List ℕ → Geometry → Layout → SlotQuestion
slot_question tree label geometry layout = record {
  tree = branch_of tree.root;
  label = label;
  geometry = geometry;
  copies = layout.region;
}

-- a value is a string, and that string is the label
abbrev pub is_slot_label : List ℕ → List ℕ → Bool
is_slot_label label value = option_map_or (λ s. bytes_eq s label) (string_of value) false

-- a node has the label as its property `label`
abbrev pub has_label : List ℕ → Branch (List ℕ) → Bool
has_label label b = option_map_or (is_slot_label label) (prop_of (codes "label") b) false

-- the first node in preorder that has the label
abbrev pub slot_node : SlotQuestion → Option (Branch (List ℕ))
slot_node question = find (has_label question.label) (preorder question.tree)

-- the region that its `reg` gives, in the form of a backend's
abbrev pub slot_region : SlotQuestion → Option Region
slot_region question = option_and_then partition_of (slot_node question)

-- it has a place on a device where a partition of copies would have one, and is refused as that is
abbrev pub place_refusal : LayoutError → SlotError
place_refusal UnalignedPlace = Unaligned
place_refusal other = OutOfDevice

abbrev pub slot_place : Geometry → Region → Result (Unit {0}) SlotError
slot_place geometry slot = result_map_both (λ u. u) place_refusal (check_place geometry slot)

-- a byte of the device is in both regions: the later start is before the earlier end
abbrev pub regions_meet : Region → Region → Bool
regions_meet one other =
    nat_lt (max one.at other.at) (min (one.at + one.size) (other.at + other.size))

abbrev pub slot_then : {A B : Type 0} → Result A SlotError → (A → Result B SlotError) → Result B SlotError
slot_then result next = result_and_then next result

-- the slot, or the first refusal
abbrev pub slot_from : SlotQuestion → Result Region SlotError
slot_from question =
    slot_then (ok_or (slot_node question) NoSlot) (λ node.
    slot_then (ok_or (partition_of node) BadReg) (λ slot.
    slot_then (slot_place question.geometry slot) (λ _.
    if regions_meet slot question.copies then Err Overlap else Ok slot)))

-- ---- what holds of a slot

-- a region lies on a device, in whole blocks where it has any
pub record HasPlace (geometry : Geometry) (slot : Region) : Type 0 where
  pub aligned : IsAligned geometry slot
  pub inside : slot.at + slot.size ≤ geometry.size

-- this byte of the device is in both regions
pub record SharesByte (one other : Region) : Type 0 where
  pub byte : ℕ
  pub from_one : one.at ≤ byte
  pub to_one : byte < one.at + one.size
  pub from_other : other.at ≤ byte
  pub to_other : byte < other.at + other.size

-- ---- where each refusal comes

abbrev pub HasNoSlot : SlotQuestion → Type 0
HasNoSlot question = slot_node question ≡ None

-- a node has the label, and gives no region
pub record HasBadReg (question : SlotQuestion) : Type 0 where
  pub node : Branch (List ℕ)
  pub labelled : slot_node question ≡ Some node
  pub bad : partition_of node ≡ None

-- its region has no place on the device, for this reason
pub record IsMisplaced (refusal : SlotError) (question : SlotQuestion) : Type 0 where
  pub slot : Region
  pub given : slot_region question ≡ Some slot
  pub refused : slot_place question.geometry slot ≡ Err refusal

-- it has a place there, but not beside the copies
pub record Overlaps (question : SlotQuestion) : Type 0 where
  pub slot : Region
  pub given : slot_region question ≡ Some slot
  pub placed : slot_place question.geometry slot ≡ Ok tt
  pub shares : SharesByte slot question.copies
