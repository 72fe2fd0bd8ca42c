-- What the calls of a board in memory mean for it as a flash device.
use Rattle.std.proofs.Common.{◌≡◌, ℕ, ◌+◌, ◌*◌, ◌/◌, ◌≤◌, ◌∙◌, Bool, true, false, List, [], ◌∷◌, ◌++◌, length, take, Option, Some, None, cond, ap, sym, subst, arith, refl, inl, inr, ◌⊎◌}
use Rattle.std.specs.Prelude.{slice_get, slice_index, unwrap_or}
use Rattle.std.specs.Option.{ForSome, option_map}
use Rattle.std.proofs.lemmas.Grind.{common_steps}
use Rattle.std.proofs.lemmas.List.{take_at, take_all, length-replicate}
use Rattle.std.proofs.Math.Nat.{div-mul-le_self, mul-le-mul_right}
use Rattle.std.proofs.Math.ListN.{length-set}
use Rattle.bb_base.specs.Faults.{one_more}
use Rattle.bb_flash.specs.declared.fault.Fault.{Fault}
use Rattle.bb_flash.specs.declared.geometry.Geometry.{Geometry}
use Rattle.bb_flash.specs.Geometry.{IsGeometry}
use Rattle.bb_flash.specs.Calls.{CanErase, CanProgram, ChangesOnly, IsTornBy, HasNoChange, erased_bytes}
use Rattle.bb_flash.specs.Cuts.{IsContinued, IsLater}
use Rattle.bb_flash.specs.Device.{Change, IsDevice, Start, Told, change_of, moment}
use Rattle.bb_flash.specs.declared.plan.Plan.{Plan}
use Rattle.bb_flash.specs.Image.{Image, IsImageOf, IsInside}
use Rattle.bb_flash.specs.Memory.{Memory, after_erase, after_failed_start, after_program, after_read, after_start, with_blanks, device_of, erase_by, with_fault, fault_of, is_erase_refused, is_program_refused, is_read_refused, program_by, read_by, with_read_fault, with_write}
use Rattle.bb_flash.proofs.Moments.{image_at-now}
use Rattle.bb_flash.proofs.Tearing.{Torn-left_by}

for_some : {T : Type 0} (P : T → Type 0) (x : T) → P x → ForSome (Some x) P
for_some P x p y e = let same : x ≡ y = cc in subst P same p

same_number : (n : ℕ) → n ≤ n
same_number n = omega arith

more_is_more : (count : ℕ) → count ≤ one_more count
more_is_more count = grind (arith, common_steps)

-- the device goes on
later_of : (m n : Memory) → n.geometry ≡ m.geometry → m.faults ≤ n.faults → m.read_faults ≤ n.read_faults → IsContinued m.told n.told → IsLater (device_of m) (device_of n)
later_of m n geometry faults read_faults continued = record {
  geometry = geometry;
  told = refl;
  faults = faults;
  read_faults = read_faults;
  continued = for_some (λ first. ForSome (Some n.told) (IsContinued first)) m.told (for_some (IsContinued m.told) n.told continued);
}

-- the device stays whole
whole_of : (m n : Memory) → IsDevice (device_of m) → n.geometry ≡ m.geometry → length n.told.image.bytes ≡ length m.told.image.bytes → length n.told.image.health ≡ length m.told.image.health → length n.told.erases ≡ length m.told.erases → IsDevice (device_of n)
whole_of m n whole geometry bytes health erases =
    let image = whole.image m.told.image refl in
    let blocks = whole.erases m.told.erases refl in
    record {
      geometry = subst IsGeometry (sym geometry) whole.geometry;
      image =
          for_some (IsImageOf n.geometry) n.told.image
          (record {
            bytes = bytes ∙ image.bytes ∙ ap (λ g. g.size) (sym geometry);
            pages = subst (λ (g : Geometry). length n.told.image.health * g.page ≡ g.size) (sym geometry) (ap (λ k. k * m.geometry.page) health ∙ image.pages);
          });
      erases = for_some (λ numbers. length numbers ≡ n.geometry.size / n.geometry.block) n.told.erases (erases ∙ blocks ∙ ap (λ g. g.size / g.block) (sym geometry));
    }

pub inside_program : (m : Memory) (at len : ℕ) → IsDevice (device_of m) → CanProgram (device_of m) at len → IsInside m.geometry.page m.told.image at len
inside_program m at len whole can =
    let image = whole.image m.told.image refl in
    record {
      page_some = whole.geometry.page_some;
      pages = image.bytes ∙ sym image.pages;
      inside = omega (arith, image.bytes, can.inside);
      small = omega (arith, image.bytes, whole.geometry.size_most);
    }

pub inside_erase : (m : Memory) (block len : ℕ) → IsDevice (device_of m) → CanErase m.geometry block → len ≡ m.geometry.block → IsInside m.geometry.page m.told.image (block * m.geometry.block) len
inside_erase m block len whole can size =
    let image = whole.image m.told.image refl in
    let below : (block + 1) * m.geometry.block ≤ m.geometry.size / m.geometry.block * m.geometry.block = mul-le-mul_right m.geometry.block (omega (arith, can.inside)) in
    let blocks = div-mul-le_self m.geometry.size m.geometry.block in
    record {
      page_some = whole.geometry.page_some;
      pages = image.bytes ∙ sym image.pages;
      inside = omega (arith, image.bytes, below, blocks, size);
      small = omega (arith, image.bytes, whole.geometry.size_most);
    }

-- what a call leaves that made no change, a read or one that was refused
continued_same : (told : Told) (reads : ℕ) → IsContinued told (record told { reads = reads })
continued_same told reads = record { changes = take_all (moment told) told.changes (same_number (moment told)); held = image_at-now told }

continued_started : (told : Told) (starts : List Start) → IsContinued told (record told { starts = starts })
continued_started told starts = record { changes = take_all (moment told) told.changes (same_number (moment told)); held = image_at-now told }

get_last : {X : Type 0} → (xs : List X) (x : X) → slice_get (xs ++ x ∷ []) (length xs) ≡ Some x
get_last [] x = refl
get_last (y ∷ xs) x = get_last xs x

-- one change more, from what was held
continued_more : (first last : Told) (change : Change) → change.before ≡ first.image → last.changes ≡ first.changes ++ change ∷ [] → IsContinued first last
continued_more first last change before more =
    let held : Option Change → Image = λ o. unwrap_or (option_map (λ (c : Change). c.before) o) last.image in
    record {
      changes = ap (take (moment first)) more ∙ take_at first.changes (change ∷ []) (moment first) refl;
      held = ap (λ changes. held (slice_get changes (moment first))) more ∙ ap held (get_last first.changes change) ∙ before;
    }

-- reads
read_whole_by : (m : Memory) (len : ℕ) (refused : Bool) (fault : Option Fault) → IsDevice (device_of m) → IsDevice (device_of (cond refused (with_read_fault m) (read_by fault len m)))
read_whole_by m len true fault whole = whole_of m (with_read_fault m) whole refl refl refl refl
read_whole_by m len false None whole = whole_of m (read_by None len m) whole refl refl refl refl
read_whole_by m len false (Some fault) whole = whole_of m (read_by (Some fault) len m) whole refl refl refl refl

pub read_whole : (m : Memory) (len : ℕ) → IsDevice (device_of m) → IsDevice (device_of (after_read len m))
read_whole m len whole = read_whole_by m len (is_read_refused m) (fault_of m) whole

read_later_by : (m : Memory) (len : ℕ) (refused : Bool) (fault : Option Fault) → IsLater (device_of m) (device_of (cond refused (with_read_fault m) (read_by fault len m)))
read_later_by m len true fault = later_of m (with_read_fault m) refl (more_is_more m.faults) (more_is_more m.read_faults) (continued_same m.told m.told.reads)
read_later_by m len false None = later_of m (read_by None len m) refl (same_number m.faults) (same_number m.read_faults) (continued_same m.told (m.told.reads + 1))
read_later_by m len false (Some fault) = later_of m (read_by (Some fault) len m) refl (more_is_more m.faults) (more_is_more m.read_faults) (continued_same m.told m.told.reads)

pub read_later : (m : Memory) (len : ℕ) → IsLater (device_of m) (device_of (after_read len m))
read_later m len = read_later_by m len (is_read_refused m) (fault_of m)

-- programs and erases
written_later : (m : Memory) (fault : Option Fault) (at : ℕ) (bytes : List ℕ) (faults : ℕ) → m.faults ≤ faults → IsLater (device_of m) (device_of (record (with_write fault at bytes m) { faults = faults }))
written_later m fault at bytes faults more =
    later_of m (record (with_write fault at bytes m) { faults = faults }) refl more (same_number m.read_faults)
    (continued_more m.told _ (change_of m.geometry.page at bytes m.told.image) refl refl)

program_later_by : (m : Memory) (refused : Bool) (fault : Option Fault) (at : ℕ) (bytes : List ℕ) → IsLater (device_of m) (device_of (cond refused (with_fault m) (program_by fault at bytes m)))
program_later_by m true fault at bytes = later_of m (with_fault m) refl (more_is_more m.faults) (same_number m.read_faults) (continued_same m.told m.told.reads)
program_later_by m false None at bytes = written_later m None at bytes m.faults (same_number m.faults)
program_later_by m false (Some fault) at bytes = written_later m (Some fault) at bytes (one_more m.faults) (more_is_more m.faults)

pub program_later : (m : Memory) (at : ℕ) (bytes : List ℕ) → IsLater (device_of m) (device_of (after_program at bytes m))
program_later m at bytes = program_later_by m (is_program_refused m (length bytes)) (fault_of m) at bytes

torn_told : (m : Memory) (fault : Option Fault) (at : ℕ) (bytes : List ℕ) → IsInside m.geometry.page m.told.image at (length bytes) → IsTornBy m.geometry.page at bytes m.told (with_write fault at bytes m).told
torn_told m fault at bytes inside = record { torn = Torn-left_by fault m.geometry.page m.told.image at bytes inside; change = refl }

touched_by : (m n : Memory) (at : ℕ) (bytes : List ℕ) → HasNoChange m.told n.told ⊎ IsTornBy m.geometry.page at bytes m.told n.told → ChangesOnly at bytes (device_of m) (device_of n)
touched_by m n at bytes how = record {
  told =
      for_some (λ before. ForSome (Some n.told) (λ after. HasNoChange before after ⊎ IsTornBy m.geometry.page at bytes before after)) m.told
      (for_some (λ after. HasNoChange m.told after ⊎ IsTornBy m.geometry.page at bytes m.told after) n.told how);
}

program_changes_by : (m : Memory) (refused : Bool) (fault : Option Fault) (at : ℕ) (bytes : List ℕ) → IsInside m.geometry.page m.told.image at (length bytes) → ChangesOnly at bytes (device_of m) (device_of (cond refused (with_fault m) (program_by fault at bytes m)))
program_changes_by m true fault at bytes inside = touched_by m (with_fault m) at bytes (inl (record { image = refl; changes = refl }))
program_changes_by m false None at bytes inside = touched_by m (program_by None at bytes m) at bytes (inr (torn_told m None at bytes inside))
program_changes_by m false (Some fault) at bytes inside = touched_by m (program_by (Some fault) at bytes m) at bytes (inr (torn_told m (Some fault) at bytes inside))

pub program_changes : (m : Memory) (at : ℕ) (bytes : List ℕ) → IsDevice (device_of m) → CanProgram (device_of m) at (length bytes) → ChangesOnly at bytes (device_of m) (device_of (after_program at bytes m))
program_changes m at bytes whole can = program_changes_by m (is_program_refused m (length bytes)) (fault_of m) at bytes (inside_program m at (length bytes) whole can)

program_whole_by : (m : Memory) (refused : Bool) (fault : Option Fault) (at : ℕ) (bytes : List ℕ) → IsInside m.geometry.page m.told.image at (length bytes) → IsDevice (device_of m) → IsDevice (device_of (cond refused (with_fault m) (program_by fault at bytes m)))
program_whole_by m true fault at bytes inside whole = whole_of m (with_fault m) whole refl refl refl refl
program_whole_by m false None at bytes inside whole =
    let torn = Torn-left_by None m.geometry.page m.told.image at bytes inside in
    whole_of m (program_by None at bytes m) whole refl torn.bytes.lengths torn.health.lengths refl
program_whole_by m false (Some fault) at bytes inside whole =
    let torn = Torn-left_by (Some fault) m.geometry.page m.told.image at bytes inside in
    whole_of m (program_by (Some fault) at bytes m) whole refl torn.bytes.lengths torn.health.lengths refl

pub program_whole : (m : Memory) (at : ℕ) (bytes : List ℕ) → IsDevice (device_of m) → CanProgram (device_of m) at (length bytes) → IsDevice (device_of (after_program at bytes m))
program_whole m at bytes whole can = program_whole_by m (is_program_refused m (length bytes)) (fault_of m) at bytes (inside_program m at (length bytes) whole can) whole

-- erases
abbrev erase_change : Memory → ℕ → Change
erase_change m block = change_of m.geometry.page (block * m.geometry.block) (erased_bytes m.geometry) m.told.image

erase_later_by : (m : Memory) (refused : Bool) (fault : Option Fault) (block : ℕ) → IsLater (device_of m) (device_of (cond refused (with_fault m) (erase_by fault block m)))
erase_later_by m true fault block = later_of m (with_fault m) refl (more_is_more m.faults) (same_number m.read_faults) (continued_same m.told m.told.reads)
erase_later_by m false None block = later_of m (erase_by None block m) refl (same_number m.faults) (same_number m.read_faults) (continued_more m.told _ (erase_change m block) refl refl)
erase_later_by m false (Some fault) block = later_of m (erase_by (Some fault) block m) refl (more_is_more m.faults) (same_number m.read_faults) (continued_more m.told _ (erase_change m block) refl refl)

pub erase_later : (m : Memory) (block : ℕ) → IsLater (device_of m) (device_of (after_erase block m))
erase_later m block = erase_later_by m (is_erase_refused m block) (fault_of m) block

torn_block : (m : Memory) (fault : Option Fault) (block : ℕ) → IsDevice (device_of m) → CanErase m.geometry block → IsTornBy m.geometry.page (block * m.geometry.block) (erased_bytes m.geometry) m.told (with_blanks fault block m).told
torn_block m fault block whole can =
    let bytes : List ℕ = erased_bytes m.geometry in
    torn_told m fault (block * m.geometry.block) bytes (inside_erase m block (length bytes) whole can (length-replicate {A = ℕ} m.geometry.block 255))

erase_torn_by : (m : Memory) (refused : Bool) (fault : Option Fault) (block : ℕ) → IsDevice (device_of m) → CanErase m.geometry block → HasNoChange m.told (cond refused (with_fault m) (erase_by fault block m)).told ⊎ IsTornBy m.geometry.page (block * m.geometry.block) (erased_bytes m.geometry) m.told (cond refused (with_fault m) (erase_by fault block m)).told
erase_torn_by m true fault block whole can = inl (record { image = refl; changes = refl })
erase_torn_by m false None block whole can = let torn = torn_block m None block whole can in inr (record { torn = torn.torn; change = torn.change })
erase_torn_by m false (Some fault) block whole can = let torn = torn_block m (Some fault) block whole can in inr (record { torn = torn.torn; change = torn.change })

pub erase_changes : (m : Memory) (block : ℕ) → IsDevice (device_of m) → CanErase m.geometry block → ChangesOnly (block * m.geometry.block) (erased_bytes m.geometry) (device_of m) (device_of (after_erase block m))
erase_changes m block whole can =
    touched_by m (after_erase block m) (block * m.geometry.block) (erased_bytes m.geometry) (erase_torn_by m (is_erase_refused m block) (fault_of m) block whole can)

erase_whole_by : (m : Memory) (refused : Bool) (fault : Option Fault) (block : ℕ) → IsDevice (device_of m) → CanErase m.geometry block → IsDevice (device_of (cond refused (with_fault m) (erase_by fault block m)))
erase_whole_by m true fault block whole can = whole_of m (with_fault m) whole refl refl refl refl
erase_whole_by m false None block whole can =
    let torn = (torn_block m None block whole can).torn in
    whole_of m (erase_by None block m) whole refl torn.bytes.lengths torn.health.lengths (length-set m.told.erases block (slice_index m.told.erases block + 1))
erase_whole_by m false (Some fault) block whole can =
    let torn = (torn_block m (Some fault) block whole can).torn in
    whole_of m (erase_by (Some fault) block m) whole refl torn.bytes.lengths torn.health.lengths refl

pub erase_whole : (m : Memory) (block : ℕ) → IsDevice (device_of m) → CanErase m.geometry block → IsDevice (device_of (after_erase block m))
erase_whole m block whole can = erase_whole_by m (is_erase_refused m block) (fault_of m) block whole can

-- starts
pub start_later : (m : Memory) (plan : Plan) → IsLater (device_of m) (device_of (after_start plan m))
start_later m plan = later_of m (after_start plan m) refl (same_number m.faults) (same_number m.read_faults) (continued_started m.told _)

pub failed_start_later : (m : Memory) → IsLater (device_of m) (device_of (after_failed_start m))
failed_start_later m = later_of m (after_failed_start m) refl (same_number m.faults) (same_number m.read_faults) (continued_same m.told m.told.reads)
