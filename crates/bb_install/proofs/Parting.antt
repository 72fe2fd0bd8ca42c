-- One flash call on a slot.
use Rattle.std.proofs.Common.{◌≡◌, ℕ, ◌+◌, ◌*◌, ◌/◌, ◌%◌, ◌<◌, ◌≤◌, ◌∙◌, List, [], ◌∷◌, length, Option, Some, None, Result, ap, sym, subst, refl, arith, option_map, is_err}
use Rattle.std.proofs.lemmas.List.{length-replicate}
use Rattle.bb_base.specs.Faults.{counted}
use Rattle.bb_flash.specs.declared.geometry.Geometry.{Geometry}
use Rattle.bb_flash.specs.declared.health.Health.TheVariants.{Fine}
use Rattle.bb_flash.specs.declared.region.Region.{Region}
use Rattle.bb_flash.specs.Calls.{ChangesOnly, IsChangeCall, erased_bytes, told_after_erase, told_after_program}
use Rattle.bb_flash.specs.Device.{Device, IsDevice, Told, change_of, erases}
use Rattle.bb_flash.specs.Image.{IsImageOf, with_bytes}
use Rattle.bb_flash.proofs.Geometries.{whole_times}
use Rattle.bb_bucket.specs.Calls.{Leaves, range_of}
use Rattle.bb_bucket.specs.Front.{put_at}
use Rattle.bb_bucket.specs.Kind.{LiesOn, part_of}
use Rattle.bb_bucket.proofs.OneCall.{ends_torn}
use Rattle.bb_bucket.proofs.Pages.{sum_aligned}
use Rattle.bb_bucket.proofs.Programs.{after_is, image_before, leaves_program, part_programmed, torn_in_region}
use Rattle.bb_install.specs.Slot.{HasPlace}
use Rattle.bb_install.specs.Writing.{SlotCalls, SlotWrites, counted_once}
use Rattle.bb_install.proofs.Counting.{set_counted}
use Rattle.bb_install.proofs.Making.{made_step}

-- what a call on a slot leaves, whatever it answers
pub calls_of_change : {T E U D : Type 0} (result : Result T E) (answer : Result U D) (slot : Region) (at : ℕ) (bytes : List ℕ) (from to : Device) → LiesOn from.geometry slot → at + length bytes ≤ slot.size → is_err answer ≡ is_err result → IsChangeCall result (slot.at + at) bytes from to → SlotCalls answer slot from to
calls_of_change result answer slot at bytes from to lies fits same call =
    let page = ap (λ (geometry : Geometry). geometry.page) call.later.geometry in
    record {
      within = record {
        ends = ends_torn (slot.at + at) bytes from to call.changes;
        images = torn_in_region slot at (length bytes) from to (omega (arith, call.whole.geometry.page_some, page)) fits call.images;
        later = call.later;
        starts = call.starts;
        whole = call.whole;
      };
      faults = call.faults ∙ ap (λ fails. counted fails from.faults) (sym same);
      read_faults = call.read_faults;
      reads = call.reads;
    }

-- ---- a program

pub program_writes : (slot : Region) (at : ℕ) (bytes : List ℕ) (from to : Device) → LiesOn from.geometry slot → at + length bytes ≤ slot.size → IsDevice to → to.geometry ≡ from.geometry → ChangesOnly (slot.at + at) bytes from to → to.told ≡ option_map (told_after_program from.geometry.page (slot.at + at) bytes) from.told → SlotWrites (record { at = slot.at + at; size = length bytes } ∷ []) slot (put_at from.geometry.page at bytes) from to
program_writes slot at bytes from to lies fits whole same changes told = record {
  made = made_step (told_after_program from.geometry.page (slot.at + at) bytes) _ from.told to.told
      (λ (t : Told). (change_of from.geometry.page (slot.at + at) bytes t.image, refl, refl)) told;
  leaves = leaves_program slot at bytes from to lies fits whole same changes told;
}

-- ---- an erase

module _ (slot : Region) (at number : ℕ) (geometry : Geometry) (place : number * geometry.block ≡ slot.at + at) where
  pub blank_len : length (erased_bytes geometry) ≡ geometry.block
  blank_len = length-replicate {A = ℕ} geometry.block 255

  pub erase_call : {T E : Type 0} (result : Result T E) (from to : Device) → IsChangeCall result (number * geometry.block) (erased_bytes geometry) from to → IsChangeCall result (slot.at + at) (erased_bytes geometry) from to
  erase_call result from to call = subst (λ (a : ℕ). IsChangeCall result a (erased_bytes geometry) from to) place call

  erased_range : (told : Told) → range_of (change_of geometry.page (number * geometry.block) (erased_bytes geometry) told.image) ≡ record { at = slot.at + at; size = geometry.block }
  erased_range told =
      ap (λ (a : ℕ). (let r : Region = record { at = a; size = length (erased_bytes geometry) } in r)) place
      ∙ ap (λ (n : ℕ). (let r : Region = record { at = slot.at + at; size = n } in r)) blank_len

  erase_leaves : (from to : Device) → from.geometry ≡ geometry → LiesOn geometry slot → at + geometry.block ≤ slot.size → IsDevice to → to.geometry ≡ from.geometry → ChangesOnly (slot.at + at) (erased_bytes geometry) from to → to.told ≡ option_map (told_after_erase geometry number) from.told → Leaves slot (put_at from.geometry.page at (erased_bytes geometry)) from to
  erase_leaves from to is lies fits whole same changes told = record {
    there = λ before e after f.
        let bytes : List ℕ = erased_bytes geometry in
        let page : ℕ = geometry.page in
        let page_is : from.geometry.page ≡ page = ap (λ (g : Geometry). g.page) is in
        let some : 0 < page = omega (arith, whole.geometry.page_some, ap (λ (g : Geometry). g.page) same) in
        let image = image_before (slot.at + at) bytes from to before after same whole changes e f in
        let left = after_is (told_after_erase geometry number) (λ i. with_bytes page (number * geometry.block) bytes Fine i) from.told to.told before after (λ told. refl) told e f in
        let here = ap (λ (a : ℕ). with_bytes page a bytes Fine before) place in
        subst (λ (p : ℕ). part_of p slot after ≡ put_at p at bytes (part_of p slot before)) (sym page_is)
        (ap (part_of page slot) (left ∙ here)
        ∙ part_programmed slot geometry at bytes before some lies (omega (arith, blank_len)) (subst (λ (g : Geometry). IsImageOf g before) is image));
  }

  pub erase_writes : (from to : Device) → from.geometry ≡ geometry → LiesOn geometry slot → at + geometry.block ≤ slot.size → IsDevice to → to.geometry ≡ from.geometry → ChangesOnly (slot.at + at) (erased_bytes geometry) from to → to.told ≡ option_map (told_after_erase geometry number) from.told → SlotWrites (record { at = slot.at + at; size = geometry.block } ∷ []) slot (put_at from.geometry.page at (erased_bytes geometry)) from to
  erase_writes from to is lies fits whole same changes told = record {
    made = made_step (told_after_erase geometry number) _ from.told to.told
        (λ (t : Told). (change_of geometry.page (number * geometry.block) (erased_bytes geometry) t.image, refl, erased_range t)) told;
    leaves = erase_leaves from to is lies fits whole same changes told;
  }

-- the number of a block gives its place
pub block_place : (geometry : Geometry) (slot : Region) (at block : ℕ) → block ≡ geometry.block → HasPlace geometry slot → 0 < geometry.block → at % geometry.block ≡ 0 → (slot.at + at) / block * geometry.block ≡ slot.at + at
block_place geometry slot at block is has some aligned =
    ap (λ b. (slot.at + at) / b * geometry.block) is
    ∙ whole_times (slot.at + at) geometry.block (sum_aligned geometry.block slot.at at (has.aligned.at some) aligned)

told_erases : (geometry : Geometry) (number : ℕ) (from : Option Told) → option_map (λ (t : Told). t.erases) (option_map (told_after_erase geometry number) from) ≡ option_map (counted_once number 1) (option_map (λ (t : Told). t.erases) from)
told_erases geometry number None = refl
told_erases geometry number (Some t) = ap Some (set_counted number t.erases)

pub erase_counted : (geometry : Geometry) (number place : ℕ) (from to : Device) → number ≡ place → to.told ≡ option_map (told_after_erase geometry number) from.told → erases to ≡ option_map (counted_once place 1) (erases from)
erase_counted geometry number place from to is told =
    ap (λ (o : Option Told). option_map (λ (t : Told). t.erases) o) told ∙ told_erases geometry number from.told
    ∙ ap (λ (n : ℕ). option_map (counted_once n 1) (erases from)) is
