-- A read that gives the bytes of an image exactly, and what it keeps.
use Rattle.std.proofs.Common.{◌≡◌, ◌≢◌, ℕ, ◌+◌, ◌-◌, ◌≤◌, ◌∙◌, Bool, List, Option, Some, None, Result, length, take, drop, take_all, ap, sym, refl, arith, is_ok, option_map}
use Rattle.std.proofs.lemmas.List.{drop-take, take-take, drop-drop}
use Rattle.bb_flash.specs.declared.health.Health.{Health}
use Rattle.bb_flash.specs.declared.health.Health.TheVariants.{Lost}
use Rattle.bb_flash.specs.Image.{Image, health_of}
use Rattle.bb_flash.specs.Calls.{IsReadCall, told_after_read}
use Rattle.bb_flash.specs.Device.{Device, IsReading, ReadKeeps, Told}

-- a part of a slice
take-drop-slice : (bytes : List ℕ) (at size k len : ℕ) → k + len ≤ size →
    take len (drop k (take size (drop at bytes))) ≡ take len (drop (at + k) bytes)
take-drop-slice bytes at size k len inside =
    let split : size ≡ k + (size - k) = omega arith in
    let fits : len ≤ size - k = omega arith in
    ap (λ n. take len (drop k (take n (drop at bytes)))) split
    ∙ ap (take len) (drop-take k (size - k) (drop at bytes))
    ∙ take-take len (size - k) (drop k (drop at bytes)) fits ∙ ap (take len) (drop-drop k at bytes)

pub is_reading : (page at : ℕ) (image : Image) (out : List ℕ) (health : Health) →
    out ≡ take (length out) (drop at image.bytes) → health ≡ health_of page image at (length out) →
    IsReading page image at out health
is_reading page at image out health e h = record {
  worst = h;
  exact = λ k len inside _. ap (λ l. take len (drop k l)) e
      ∙ take-drop-slice image.bytes at (length out) k len inside;
}

-- where no page that was touched is Lost, the bytes are those of the image
pub exact_reading : (page at : ℕ) (image : Image) (out : List ℕ) (health : Health) →
    IsReading page image at out health → health ≢ Lost →
    out ≡ take (length out) (drop at image.bytes)
exact_reading page at image out health reading alive =
    let here : at + 0 ≡ at = omega arith in
    let worst : health_of page image (at + 0) (length out) ≡ health =
    ap (λ place. health_of page image place (length out)) here ∙ sym reading.worst in
    sym (take_all (length out) out (omega arith))
    ∙ reading.exact 0 (length out) (omega arith) (λ lost. alive (sym worst ∙ lost))
    ∙ ap (λ place. take (length out) (drop place image.bytes)) here

-- a part of what a device tells that no read changes
part_kept : {X : Type 0} (part : Told → X) (done : Bool) (told : Option Told) →
    ((t : Told) → part (told_after_read done t) ≡ part t) →
    option_map part (option_map (told_after_read done) told) ≡ option_map part told
part_kept part done None same = refl
part_kept part done (Some t) same = ap Some (same t)

-- what no read changes follows from what a read is
pub keeps_of_read : {T E : Type 0} (result : Result T E) (from to : Device) →
    IsReadCall result from to → ReadKeeps from to
keeps_of_read result from to call = record {
  geometry = call.later.geometry;
  content = ap (λ (told : Option Told). option_map (λ (t : Told). t.image) told) call.told
      ∙ part_kept (λ t. t.image) (is_ok result) from.told (λ t. refl);
  starts = ap (λ (told : Option Told). option_map (λ (t : Told). t.starts) told) call.told
      ∙ part_kept (λ t. t.starts) (is_ok result) from.told (λ t. refl);
  start_faults = call.start_faults;
}
