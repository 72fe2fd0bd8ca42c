-- A call of a bucket that makes one flash call.
use Rattle.std.proofs.Common.{◌≡◌, ℕ, zero, suc, ◌*◌, ◌<◌, ◌≤◌, List, [], ◌∷◌, ◌++◌, length, Some, sym, ap, ◌∙◌, subst, arith, inl, inr, ◌⊎◌, option_map}
use Rattle.std.specs.Prelude.{slice_get}
use Rattle.std.proofs.lemmas.Option.{slice_get_within}
use Rattle.bb_flash.specs.declared.geometry.Geometry.{Geometry}
use Rattle.bb_flash.specs.Calls.{ChangesOnly, IsTornBy, HasNoChange}
use Rattle.bb_flash.specs.Cuts.{IsLater}
use Rattle.bb_flash.specs.Device.{Change, Device, IsDevice, Told, change_of, moment}
use Rattle.bb_flash.specs.Image.{Image, IsImageOf, Torn}
use Rattle.bb_bucket.specs.Calls.{EachCall, EndsTorn, IsTornLast}

-- an item past all others is the last
pub last_item :
    {X : Type 0} (xs : List X) (y x : X) (k : ℕ) →
    length xs ≤ k → slice_get (xs ++ y ∷ []) k ≡ Some x → y ≡ x
last_item [] y x zero past e = cc
last_item [] y x (suc k) past e = absurd cc
last_item (z ∷ xs) y x zero past e = absurd (omega arith)
last_item (z ∷ xs) y x (suc k) past e = last_item xs y x k (omega arith) e

-- what an image of a device is torn from is one of the same device
pub untorn :
    (geometry : Geometry) (page at len : ℕ) (before image : Image) →
    Torn page at len before image → IsImageOf geometry image → IsImageOf geometry before
untorn geometry page at len before image torn whole = record {
  bytes = sym torn.bytes.lengths ∙ whole.bytes;
  pages = ap (λ n. n * geometry.page) (sym torn.health.lengths) ∙ whole.pages;
}

one_change :
    (P : Image → Change → Type 0) (geometry : Geometry) (at : ℕ) (bytes : List ℕ) (first last : Told) (call : ℕ)
    (change : Change) →
    ((image : Image) → IsImageOf geometry image → P image (change_of geometry.page at bytes image)) →
    IsImageOf geometry last.image →
    HasNoChange first last ⊎ IsTornBy geometry.page at bytes first last →
    moment first ≤ call →
    slice_get last.changes call ≡ Some change →
    P first.image change
one_change P geometry at bytes first last call change holds whole (inl same) late made =
    let within : call < length first.changes = slice_get_within first.changes call change (ap (λ changes. slice_get changes call) (sym same.changes) ∙ made) in
    absurd (omega arith)
one_change P geometry at bytes first last call change holds whole (inr torn) late made =
    let before = untorn geometry geometry.page at (length bytes) first.image last.image torn.torn whole in
    let is = last_item first.changes _ change call late (ap (λ changes. slice_get changes call) (sym torn.change) ∙ made) in
    subst (λ (c : Change). P first.image c) is (holds first.image before)

-- one flash call was made, which was to write these bytes
pub one_call :
    (P : Image → Change → Type 0) (at : ℕ) (bytes : List ℕ) (from to : Device) →
    ((image : Image) →
    IsImageOf from.geometry image →
    P image (change_of from.geometry.page at bytes image)) →
    IsLater from to →
    IsDevice to →
    ChangesOnly at bytes from to →
    EachCall P from to
one_call P at bytes from to holds later whole changes = record {
  each = λ first e last f call change late made.
      let image = whole.image last.image (ap (λ told. option_map (λ (t : Told). t.image) told) f) in
      let same = subst (λ (geometry : Geometry). IsImageOf geometry last.image) later.geometry image in
      one_change P from.geometry at bytes first last call change holds same (changes.told first e last f) late made;
}

ends_so :
    (page at : ℕ) (bytes : List ℕ) (first last : Told) →
    HasNoChange first last ⊎ IsTornBy page at bytes first last →
    HasNoChange first last ⊎ IsTornLast page first last
ends_so page at bytes first last (inl same) = inl same
ends_so page at bytes first last (inr torn) =
    inr (record { earlier = []; change = change_of page at bytes first.image; made = torn.change; torn = torn.torn })

pub ends_torn :
    (at : ℕ) (bytes : List ℕ) (from to : Device) →
    ChangesOnly at bytes from to → EndsTorn from to
ends_torn at bytes from to changes = record {
  ends = λ first e last f. ends_so from.geometry.page at bytes first last (changes.told first e last f);
}
