-- What a device tells of the calls on a slot, beside the writes of the copies.
use Rattle.std.proofs.Common.{◌≡◌, ◌⊎◌, ℕ, zero, suc, ◌+◌, ◌/◌, ◌<◌, ◌≤◌, ◌++◌, ◌&&◌, Bool, true, false, List, [], ◌∷◌, length, map, Option, Some, None, add-zero, ap, arith, inl, inr, length-append, sym, ◌∙◌, if◌then◌else◌}
use Rattle.std.specs.Option.{option_map}
use Rattle.std.specs.Prelude.{nat_le, nat_lt, slice_get}
use Rattle.std.proofs.lemmas.Bool.{cases_lt}
use Rattle.std.proofs.lemmas.Bool.Decides.{nat_tests}
use Rattle.std.proofs.lemmas.List.{length-map}
use Rattle.bb_base.specs.Form.{Form}
use Rattle.bb_bucket.specs.Calls.{range_of}
use Rattle.bb_bucket.specs.Kind.{BucketKind}
use Rattle.bb_flash.specs.Device.{Device, Told}
use Rattle.bb_flash.specs.Image.{Image}
use Rattle.bb_flash.specs.declared.geometry.Geometry.{Geometry}
use Rattle.bb_install.specs.Ranges.{slot_ranges}
use Rattle.bb_install.specs.Writing.{IsInstalled, counted_once, erases_of_slot}
use Rattle.bb_plan.specs.declared.plan.SlotImage.{SlotImage}
use Rattle.bb_shell.proofs.Joins.{some_is}
use Rattle.bb_session.proofs.Accounts.{Account, Makes, Writes, account_of, sum_joined, sum_none}
use Rattle.bb_session.specs.Exactly.{CopyWrite, LeavesRegions, calls_in, erases_in, slot_calls, slot_erases, sum_of_writes}

-- ---- numbers of erases of which some are one more

once_in : (first count : ℕ) (numbers : List ℕ) (block n : ℕ) → slice_get numbers block ≡ Some n → first ≤ block → block < first + count →
    slice_get (counted_once first count numbers) block ≡ Some (n + 1)
once_in first count [] block n h low high = absurd cc
once_in (suc first) count (m ∷ numbers) zero n h low high = absurd (omega (arith, low))
once_in (suc first) count (m ∷ numbers) (suc block) n h low high =
    once_in first count numbers block n h (omega (arith, low)) (omega (arith, high))
once_in zero (suc count) (m ∷ numbers) zero n h low high = let same : m ≡ n = cc in ap (λ k. Some (k + 1)) same
once_in zero (suc count) (m ∷ numbers) (suc block) n h low high = once_in zero count numbers block n h (omega arith) (omega (arith, high))
once_in zero zero (m ∷ numbers) block n h low high = absurd (omega (arith, high))

abbrev IsBeyond : ℕ → ℕ → ℕ → Type 0
IsBeyond first count block = (block < first) ⊎ (first + count ≤ block)

once_out : (first count : ℕ) (numbers : List ℕ) (block n : ℕ) → slice_get numbers block ≡ Some n → IsBeyond first count block →
    slice_get (counted_once first count numbers) block ≡ Some n
once_out first count [] block n h out = absurd cc
once_out (suc first) count (m ∷ numbers) zero n h out = h
once_out (suc first) count (m ∷ numbers) (suc block) n h (inl before) = once_out first count numbers block n h (inl (omega (arith, before)))
once_out (suc first) count (m ∷ numbers) (suc block) n h (inr behind) = once_out first count numbers block n h (inr (omega (arith, behind)))
once_out zero (suc count) (m ∷ numbers) zero n h (inl before) = absurd (omega (arith, before))
once_out zero (suc count) (m ∷ numbers) zero n h (inr behind) = absurd (omega (arith, behind))
once_out zero (suc count) (m ∷ numbers) (suc block) n h (inl before) = absurd (omega (arith, before))
once_out zero (suc count) (m ∷ numbers) (suc block) n h (inr behind) = once_out zero count numbers block n h (inr (omega (arith, behind)))
once_out zero zero (m ∷ numbers) block n h out = h

abbrev is_inside : ℕ → ℕ → ℕ → Bool
is_inside first count block = nat_le first block && nat_lt block (first + count)

inside_true : (first count block : ℕ) → first ≤ block → block < first + count → is_inside first count block ≡ true
inside_true first count block low high = grind (arith, nat_tests)

inside_before : (first count block : ℕ) → block < first → is_inside first count block ≡ false
inside_before first count block before = grind (arith, nat_tests)

inside_behind : (first count block : ℕ) → first + count ≤ block → is_inside first count block ≡ false
inside_behind first count block behind = grind (arith, nat_tests)

more_if : (n : ℕ) (b c : Bool) → b ≡ c → Some (n + (if c then 1 else 0)) ≡ Some (n + (if b then 1 else 0))
more_if n b c same = ap (λ t. Some (n + (if t then 1 else 0))) (sym same)

once_block : (first count : ℕ) (numbers : List ℕ) (block n : ℕ) → slice_get numbers block ≡ Some n →
    slice_get (counted_once first count numbers) block ≡ Some (n + (if is_inside first count block then 1 else 0))
once_block first count numbers block n h = elim (cases_lt block first) [
  | inl before ↦
      once_out first count numbers block n h (inl before) ∙ ap (λ k. Some k) (sym (add-zero n))
      ∙ more_if n (is_inside first count block) false (inside_before first count block before)
  | inr low ↦
      elim (cases_lt block (first + count)) [
        | inl high ↦
            once_in first count numbers block n h low high
            ∙ more_if n (is_inside first count block) true (inside_true first count block low high)
        | inr behind ↦
            once_out first count numbers block n h (inr behind) ∙ ap (λ k. Some k) (sym (add-zero n))
            ∙ more_if n (is_inside first count block) false (inside_behind first count block behind)
      ]
]

-- ---- the calls that wrote a slot

-- so often each block was erased, and so many calls changed the device
pub record WroteSlot (geometry : Geometry) (place : SlotImage) (x y : Account) : Type 0 where
  pub erased :
      (block n : ℕ) → slice_get x.erases block ≡ Some n →
      slice_get y.erases block ≡ Some (n + slot_erases geometry (Some place) block)
  pub called : y.moment ≡ x.moment + slot_calls geometry (Some place)

pub wrote_slot : (place : SlotImage) (from to : Device) (first last : Told) → from.told ≡ Some first → to.told ≡ Some last →
    IsInstalled place.slot place.image from to → WroteSlot from.geometry place (account_of first) (account_of last)
wrote_slot place from to first last e f installed =
    let geometry = from.geometry in
    let slot = place.slot in
    let count = slot.size / geometry.block in
    let ranges = slot_ranges geometry slot (length place.image) in
    let numbers : Told → List ℕ = λ t. t.erases in
    let erases : last.erases ≡ erases_of_slot geometry slot count first.erases =
    some_is last.erases (erases_of_slot geometry slot count first.erases)
    (sym (ap (option_map numbers) f) ∙ installed.erases
    ∙ ap (λ (o : Option Told). option_map (erases_of_slot geometry slot count) (option_map numbers o)) e) in
    let made : length (map range_of last.changes) ≡ length (map range_of first.changes ++ ranges) =
    ap length (installed.writes.made first e last f) in
    let many = length-map last.changes range_of in
    let before = length-map first.changes range_of in
    let sum = length-append (map range_of first.changes) ranges in
    let called : length last.changes ≡ length first.changes + length ranges = omega (arith, made, many, before, sum) in
    record {
      erased = λ block n there.
          ap (λ (l : List ℕ). slice_get l block) erases ∙ once_block (slot.at / geometry.block) count first.erases block n there;
      called = called;
    }

-- ---- and the writes of copies

module _ (form : Form) (kinds : List BucketKind) (geometry : Geometry) where
  -- as `Makes` has it, with the calls on a slot, if there is one
  pub record MakesAround (place : Option SlotImage) (writes : Writes) (x z : Account) : Type 0 where
    pub erased :
        (block n : ℕ) → slice_get x.erases block ≡ Some n →
        slice_get z.erases block
        ≡ Some (n + (sum_of_writes (erases_in form geometry block) writes kinds geometry.page x.image + slot_erases geometry place block))
    pub called :
        z.moment ≡ x.moment + (sum_of_writes (calls_in form) writes kinds geometry.page x.image + slot_calls geometry place)

  pub makes_without : (writes : Writes) (x z : Account) → Makes form kinds geometry writes x z → MakesAround None writes x z
  makes_without writes x z makes = record {
    erased = λ block n there.
        let sum = sum_of_writes (erases_in form geometry block) writes kinds geometry.page x.image in
        let more : n + sum ≡ n + (sum + 0) = omega arith in
        makes.erased block n there ∙ ap (λ k. Some k) more;
    called =
        let sum = sum_of_writes (calls_in form) writes kinds geometry.page x.image in
        let more : x.moment + sum ≡ x.moment + (sum + 0) = omega arith in
        makes.called ∙ more;
  }

  -- the writes before it
  pub makes_before : (place : Option SlotImage) (one two : Writes) (f : BucketKind → Image → Image) (x y z : Account) →
      LeavesRegions kinds geometry.page f x.image y.image → Makes form kinds geometry one x y → MakesAround place two y z →
      MakesAround place (λ kind region. one kind region ++ two kind (f kind region)) x z
  makes_before place one two f x y z left early late = record {
    erased = λ block n there.
        let count = erases_in form geometry block in
        let a = sum_of_writes count one kinds geometry.page x.image in
        let b = sum_of_writes count two kinds geometry.page y.image in
        let s = slot_erases geometry place block in
        let added :
        n + a + (b + s)
        ≡ n + (sum_of_writes count (λ kind region. one kind region ++ two kind (f kind region)) kinds geometry.page x.image + s) =
        let sum = sum_joined count one two f geometry.page x.image y.image kinds left in omega (arith, sum) in
        late.erased block (n + a) (early.erased block n there) ∙ ap (λ k. Some k) added;
    called =
        let sum = sum_joined (calls_in form) one two f geometry.page x.image y.image kinds left in
        omega (arith, sum, early.called, late.called);
  }

  -- the slot's calls leave the regions of the copies, so that the writes after them are the same
  sum_same_parts : (count : BucketKind → CopyWrite → ℕ) (writes : Writes) (x y : Image) →
      LeavesRegions kinds geometry.page (λ kind region. region) x y →
      sum_of_writes count writes kinds geometry.page x ≡ sum_of_writes count writes kinds geometry.page y
  sum_same_parts count writes x y left =
      let rest = sum_of_writes count writes kinds geometry.page y in
      let alone : 0 + rest ≡ rest = omega arith in
      sum_joined count (λ kind region. []) writes (λ kind region. region) geometry.page x y kinds left
      ∙ ap (λ n. n + rest) (sum_none kinds) ∙ alone

  pub makes_behind : (place : SlotImage) (writes : Writes) (x y z : Account) →
      LeavesRegions kinds geometry.page (λ kind region. region) x.image y.image → WroteSlot geometry place x y →
      MakesAround None writes y z → MakesAround (Some place) writes x z
  makes_behind place writes x y z left slot makes = record {
    erased = λ block n there.
        let count = erases_in form geometry block in
        let s = slot_erases geometry (Some place) block in
        let same = sum_same_parts count writes x.image y.image left in
        let added :
        n + s + (sum_of_writes count writes kinds geometry.page y.image + 0)
        ≡ n + (sum_of_writes count writes kinds geometry.page x.image + s) =
        omega (arith, same) in
        makes.erased block (n + s) (slot.erased block n there) ∙ ap (λ k. Some k) added;
    called =
        let same = sum_same_parts (calls_in form) writes x.image y.image left in
        let called : z.moment ≡ y.moment + (sum_of_writes (calls_in form) writes kinds geometry.page y.image + 0) = makes.called in
        let wrote = slot.called in
        omega (arith, same, called, wrote);
  }
