-- What one step after another makes of a device.
use Rattle.std.proofs.Common.{◌≡◌, ℕ, Bool, true, false, List, Option, Some, None, ap, refl, sym, subst, ◌∙◌}
use Rattle.std.proofs.lemmas.Bool.{false≢true}
use Rattle.std.specs.Option.{ForSome, option_map}
use Rattle.std.specs.Prelude.{is_some}
use Rattle.bb_bucket.specs.Kind.{BucketKind}
use Rattle.bb_copies.specs.Loading.{KeepsOutside}
use Rattle.bb_copies.proofs.Runs.{same_images}
use Rattle.bb_flash.proofs.Counting.{images_untouched}
use Rattle.bb_flash.proofs.Moments.{images_same_joined, images_weaker}
use Rattle.bb_flash.specs.Calls.{HasNoChange}
use Rattle.bb_flash.specs.Cuts.{EachImage, IsLater, IsSameRegion}
use Rattle.bb_flash.specs.Device.{Device, Told, changes, content}
use Rattle.bb_state.specs.Keyed.{Keyed}
use Rattle.bb_state.specs.Kinds.{laid_passings}
use Rattle.bb_shell.specs.Ends.{HoldsKept, StaysStored}

-- ---- what is told stays told

-- what is told of the first is told of the second
pub there : {X Y : Type 0} (f : X → Y) (o p : Option X) (y : Y) → is_some p ≡ is_some o → option_map f o ≡ Some y → (z : Y) × (option_map f p ≡ Some z)
there f None p y same h = let none : None ≡ Some y = h in absurd (false≢true (ap is_some none))
there f (Some x) None y same h = absurd (false≢true same)
there f (Some x) (Some z) y same h = (f z, refl)

pub some_is : {X : Type 0} (x y : X) → Some x ≡ Some y → x ≡ y
some_is x y h = cc

-- ---- regions outside the copies

same_outside : (kinds : List BucketKind) (from to : Device) → EachImage (λ before image. image ≡ before) from to → KeepsOutside kinds from to
same_outside kinds from to same region apart =
    images_weaker (λ before image. image ≡ before) (IsSameRegion from.geometry.page region.at region.size) from to
    (λ x y e. subst (IsSameRegion from.geometry.page region.at region.size x) (sym e) (record { bytes = refl; health = refl })) same

pub outside_refl : (kinds : List BucketKind) (device : Device) → KeepsOutside kinds device device
outside_refl kinds device = same_outside kinds device device (same_images device)

pub outside_joined : (kinds : List BucketKind) (one two three : Device) → IsLater one two → IsLater two three →
    KeepsOutside kinds one two → KeepsOutside kinds two three → KeepsOutside kinds one three
outside_joined kinds one two three first second before behind region apart =
    let page = one.geometry.page in
    let again : EachImage (IsSameRegion page region.at region.size) two three =
    subst (λ g. EachImage (IsSameRegion g.page region.at region.size) two three) first.geometry (behind region apart) in
    images_same_joined page region.at region.size one two three first second (before region apart) again

pub untouched : (from to : Device) → content to ≡ content from → changes to ≡ changes from → ForSome from.told (λ first. ForSome to.told (HasNoChange first))
untouched from to same history first h last k = record {
  image = some_is _ _ (ap (option_map (λ (told : Told). told.image)) (sym k) ∙ same ∙ ap (option_map (λ (told : Told). told.image)) h);
  changes = some_is _ _ (ap (option_map (λ (told : Told). told.changes)) (sym k) ∙ history ∙ ap (option_map (λ (told : Told). told.changes)) h);
}

-- a step that changes neither the content nor the list of changes
pub still_outside : (kinds : List BucketKind) (from to : Device) → content to ≡ content from → changes to ≡ changes from → KeepsOutside kinds from to
still_outside kinds from to same history = same_outside kinds from to (images_untouched from to (untouched from to same history))

-- ---- what the copies hold

pub stored_refl : (keyed : Keyed) (kept : Option (List ℕ)) (from to : Device) → content to ≡ content from → StaysStored keyed kept kept from to
stored_refl keyed kept from to same before h after k held =
    subst (λ image. HoldsKept keyed.layout kept (laid_passings keyed image)) (some_is before after (sym h ∙ sym same ∙ k)) held

pub stored_joined : (keyed : Keyed) (a b c : Option (List ℕ)) (one two three : Device) → IsLater one two →
    StaysStored keyed a b one two → StaysStored keyed b c two three → StaysStored keyed a c one three
stored_joined keyed a b c one two three later first second before h after k held =
    let middle = there (λ (told : Told). told.image) one.told two.told before later.told h in
    second middle.0 middle.1 after k (first before h middle.0 middle.1 held)

-- a step that makes no call where nothing changed
pub changed_outside : (kinds : List BucketKind) (changed : Bool) (from to : Device) → (changed ≡ false → to ≡ from) →
    (changed ≡ true → KeepsOutside kinds from to) → KeepsOutside kinds from to
changed_outside kinds false from to idle runs = subst (KeepsOutside kinds from) (sym (idle refl)) (outside_refl kinds from)
changed_outside kinds true from to idle runs = runs refl
