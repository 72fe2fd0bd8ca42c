-- Room for records: of areas that are saved, and of those that were found.
use Rattle.std.proofs.Common.{◌≡◌, ◌∙◌, ℕ, ◌<◌, ◌≤◌, IsTrue, List, None, Option, Some, ap, arith, length, refl, slice_get, subst, sym, take}
use Rattle.std.proofs.lemmas.List.{length-map, length-take-le}
use Rattle.bb_base.specs.Form.{Form, IsForm}
use Rattle.bb_bucket.specs.Kind.{BucketKind, Holding}
use Rattle.bb_copies.specs.Buckets.{EachCopy, FindsAtMost, HaveRoom, IsFoundWithin, TakeEachOther, kinds_of}
use Rattle.bb_copies.specs.Passing.{FitsFront}
use Rattle.bb_copies.specs.Store.{HoldsRecords}
use Rattle.bb_copies.proofs.Below.{kind_inside}

-- the record of an area that fits has the room of its length
pub packed_room : (form : Form) (kinds : List BucketKind) (area rec : List ℕ) → IsForm form →
    IsTrue (form.fits area) → rec ≡ form.text area →
    HaveRoom (form.length_of (length area)) kinds → HaveRoom (length rec) kinds
packed_room form kinds area rec laws fits e room =
    subst (λ (n : ℕ). HaveRoom n kinds) (sym (ap length e ∙ laws.whole area fits)) room

-- memory for each record that is found is enough for this one
pub found_memory : (form : Form) (kinds : List BucketKind) (len : ℕ) (out : List ℕ) (bound : ℕ) →
    FitsFront form len out → IsFoundWithin form kinds len → FindsAtMost form bound kinds →
    form.length_of (length (take len out)) ≤ bound
found_memory form kinds len out bound fits within all =
    let same = ap form.length_of (length-take-le len out fits.inside) in
    let enough = within bound all in
    omega (arith, same, enough)

-- and each copy has room for it
pub found_room : (form : Form) (kinds : List BucketKind) (len : ℕ) (out rec : List ℕ) →
    IsForm form → FitsFront form len out → IsFoundWithin form kinds len →
    rec ≡ form.text (take len out) → TakeEachOther form kinds → HaveRoom (length rec) kinds
found_room form kinds len out rec laws fits within e exchange =
    packed_room form kinds (take len out) rec laws fits.fits e
    (record {
      room = λ copy kind there.
          found_memory form kinds len out kind.most fits within
          (λ other beside f. exchange.each other beside f copy kind there);
      apart = exchange.apart;
    })

-- what the first copy takes is enough for all
first_holds : (form : Form) (kinds : List BucketKind) (most len : ℕ) → 0 < length kinds →
    EachCopy kinds (λ copy kind. copy ≡ 0 → len ≡ kind.most) →
    HaveRoom (form.length_of most) kinds → TakeEachOther form kinds →
    HoldsRecords form kinds most len
first_holds form kinds most len some first room exchange =
    let here = kind_inside kinds 0 some in
    let is : len ≡ here.0.most = first 0 here.0 here.1 refl in
    record {
      saved = let enough = room.room 0 here.0 here.1 in omega (arith, is, enough);
      found = λ copy kind there.
          let enough = exchange.each copy kind there 0 here.0 here.1 in omega (arith, is, enough);
    }

pub mounted_holds : {B : Type 0} (holding : B → Holding) (buckets : List B) (form : Form)
    (most len rec : ℕ) → 0 < length buckets →
    EachCopy (kinds_of holding buckets) (λ copy kind. copy ≡ 0 → len ≡ kind.most) → rec ≡ len →
    HaveRoom (form.length_of most) (kinds_of holding buckets) →
    TakeEachOther form (kinds_of holding buckets) →
    HoldsRecords form (kinds_of holding buckets) most rec
mounted_holds holding buckets form most len rec some first same room exchange =
    let size = length-map buckets (λ bucket. (holding bucket).kind) in
    subst (HoldsRecords form (kinds_of holding buckets) most) (sym same)
    (first_holds form (kinds_of holding buckets) most len (omega (arith, some, size)) first room exchange)

most_of : Option BucketKind → ℕ
most_of None = 0
most_of (Some kind) = kind.most

-- two kinds at one place take as much
pub same_most : (kinds : List BucketKind) (copy : ℕ) (kind here : BucketKind) → copy ≡ 0 →
    slice_get kinds copy ≡ Some kind → slice_get kinds 0 ≡ Some here → here.most ≡ kind.most
unfolding most_of
same_most kinds copy kind here zero e f =
    ap most_of (sym f ∙ sym (ap (slice_get kinds) zero) ∙ e)
