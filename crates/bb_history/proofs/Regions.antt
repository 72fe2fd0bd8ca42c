-- The regions of a layout's copies are regions of its storage.
use Rattle.std.proofs.Common.{◌≡◌, ℕ, ◌<◌, ◌≤◌, Some, length, map, slice_get, arith, refl, sym, ap, subst, ◌∙◌}
use Rattle.std.specs.List.{range_with_len}
use Rattle.std.proofs.lemmas.Bool.{eqb-true}
use Rattle.std.proofs.lemmas.Bool.Decides.{nat_tests}
use Rattle.std.proofs.lemmas.List.FromFn.{get_or-map-range_with_len, length-map-range_with_len}
use Rattle.std.proofs.lemmas.Option.{get_or_from_slice_get, slice_get-get_or, slice_get_within}
use Rattle.bb_flash.specs.Geometry.{IsGeometry}
use Rattle.bb_flash.specs.declared.geometry.Geometry.{Geometry}
use Rattle.bb_flash.specs.declared.region.Region.{Region}
use Rattle.bb_layout.specs.Copies.{region_of}
use Rattle.bb_layout.specs.Facts.{HasCopies}
use Rattle.bb_layout.specs.Kept.{IsLaid}
use Rattle.bb_layout.specs.Layout.{Laid, laid_len}
use Rattle.bb_layout.specs.declared.storage.Storage.{Storage}
use Rattle.bb_layout.specs.declared.storage.Storage.TheVariants.{Circular, OneBlock, Stride}
use Rattle.bb_state.specs.Kinds.{laid_regions}
use Rattle.bb_state.proofs.Mounting.{block_at_copy, laid_some, serves_block}
use Rattle.bb_history.specs.History.{AreRegionsOf, IsRegionOf}

-- of items that are made by their numbers from 0 on, that at a place is the one of this number
pub made_at : {A : Type 0} (make : ℕ → A) (count place : ℕ) (item : A) →
    slice_get (map make (range_with_len 0 count)) place ≡ Some item → (place < count) × (make place ≡ item)
made_at make count place item there =
    let items = map make (range_with_len 0 count) in
    let within = slice_get_within items place item there in
    let len = length-map-range_with_len make 0 count in
    let inside : place < count = omega (arith, within, len) in (
      inside,
      sym (get_or-map-range_with_len make 0 count place place item inside (omega arith))
          ∙ get_or_from_slice_get items place item item there,
    )

-- and there is one
pub made_there : {A : Type 0} (make : ℕ → A) (count place : ℕ) → place < count →
    slice_get (map make (range_with_len 0 count)) place ≡ Some (make place)
made_there make count place inside =
    let items = map make (range_with_len 0 count) in
    let len = length-map-range_with_len make 0 count in
    let within : place < length items = omega (arith, inside, len) in
    slice_get-get_or items place (make place) within
    ∙ ap Some (get_or-map-range_with_len make 0 count place place (make place) inside (omega arith))

region_is : (storage : Storage) (geometry : Geometry) (partition : Region) (copies len copy : ℕ) → 1 ≤ len →
    IsGeometry geometry → HasCopies geometry partition storage copies len → copy < copies →
    IsRegionOf geometry storage (region_of geometry storage partition copy)
region_is (Stride stride) geometry partition copies len copy some is has below =
    let within = has.inside copy below in
    let room = has.room in
    let none : geometry.block ≡ 0 = eqb-true geometry.block 0 (sym has.strides) in
    let page = is.in_place none in
    let on_device = has.on_device in
    let small = is.size_most in
    let to = within.to in
    record { serves = grind (arith, nat_tests); room = omega arith }
region_is OneBlock geometry partition copies len copy some is has below =
    let at = block_at_copy OneBlock geometry partition copies len copy is has refl refl in
    record {
      serves = serves_block OneBlock geometry partition copies len copy is has below refl refl;
      room = omega (arith, at.page_least, at.page_most);
    }
region_is Circular geometry partition copies len copy some is has below =
    let at = block_at_copy Circular geometry partition copies len copy is has refl refl in
    record {
      serves = serves_block Circular geometry partition copies len copy is has below refl refl;
      room = omega (arith, at.page_least, at.page_most);
    }

pub regions_are : (layout : Laid) → IsLaid layout →
    AreRegionsOf layout.geometry layout.storage (laid_regions layout)
regions_are layout facts copy region there =
    let at = made_at (region_of layout.geometry layout.storage layout.region) layout.copies copy region there in
    subst (IsRegionOf layout.geometry layout.storage) at.1
    (region_is layout.storage layout.geometry layout.region layout.copies (laid_len layout) copy
    (laid_some layout facts) facts.geometry_is facts.copied at.0)
