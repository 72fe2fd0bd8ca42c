-- What a device tells of the writes to it, and what the writes of copies make of that: sums over
-- all copies.
use Rattle.std.proofs.Common.{◌≡◌, ℕ, ◌+◌, ◌++◌, Bool, List, [], length, Option, Some, None, refl, sym, ap, ◌∙◌, arith, add-zero, suc, ◌/◌, ◌==◌, ◌&&◌, true, false, cond, ◌∷◌, count_by, sum_by, if◌then◌else◌}
use Rattle.std.specs.Option.{option_map}
use Rattle.std.specs.Prelude.{slice_get}
use Rattle.bb_base.specs.Form.{Form}
use Rattle.bb_bucket.specs.Calls.{IsQuiet}
use Rattle.bb_bucket.specs.Kind.{BucketKind, part_of}
use Rattle.bb_bucket.proofs.Quiet.{keeps_of_quiet}
use Rattle.bb_bucket.proofs.Runs.{quiet_erases}
use Rattle.bb_copies.proofs.Erased.{read_changes}
use Rattle.bb_copies.specs.Buckets.{EachCopy}
use Rattle.bb_copies.specs.Erasing.{ErasesBy, unmarked_kinds, erases_block, erases_first}
use Rattle.bb_copies.specs.Refreshing.{is_marked}
use Rattle.bb_flash.specs.Device.{Device, Told, changes, content, erases}
use Rattle.bb_flash.specs.Image.{Image}
use Rattle.bb_flash.specs.declared.geometry.Geometry.{Geometry}
use Rattle.bb_session.specs.Exactly.{LeavesRegions, calls_in, erases_in, sum_of_writes, CopyWrite}
use Rattle.bb_session.proofs.Turns.{told_content}
use Rattle.std.proofs.lemmas.List.Sums.{sum_by-append, sum_by-cons}

-- ---- sums

sum_same : {X : Type 0} → (f g : X → ℕ) (xs : List X) → ((x : X) → f x ≡ g x) → sum_by f xs ≡ sum_by g xs
sum_same f g [] same = refl
sum_same f g (x ∷ xs) same = omega (arith, sum_by-cons f x xs, sum_by-cons g x xs, same x, sum_same f g xs same)

pub sum_none : {X : Type 0} → (xs : List X) → sum_by (λ (x : X). 0) xs ≡ 0
sum_none {X} [] = refl
sum_none {X} (x ∷ xs) = omega (arith, sum_by-cons (λ (y : X). 0) x xs, sum_none xs)

abbrev pub Writes : Type 0
Writes = BucketKind → Image → List CopyWrite

-- the writes that follow meet what the earlier ones left
pub sum_joined : (count : BucketKind → CopyWrite → ℕ) (one two : Writes) (f : BucketKind → Image → Image)
    (page : ℕ) (x y : Image) (kinds : List BucketKind) → LeavesRegions kinds page f x y →
    sum_of_writes count (λ kind region. one kind region ++ two kind (f kind region)) kinds page x
    ≡ sum_of_writes count one kinds page x + sum_of_writes count two kinds page y
sum_joined count one two f page x y [] left = refl
sum_joined count one two f page x y (kind ∷ kinds) left =
    let both : BucketKind → ℕ = λ k.
    sum_by (count k) (one k (part_of page k.region x) ++ two k (f k (part_of page k.region x))) in
    let early : BucketKind → ℕ = λ k. sum_by (count k) (one k (part_of page k.region x)) in
    let late : BucketKind → ℕ = λ k. sum_by (count k) (two k (part_of page k.region y)) in
    let split : both kind ≡ early kind + late kind =
    sum_by-append (count kind) (one kind (part_of page kind.region x)) (two kind (f kind (part_of page kind.region x)))
    ∙ ap (λ r. early kind + sum_by (count kind) (two kind r)) (sym (left 0 kind refl)) in
    let rest = sum_joined count one two f page x y kinds (λ copy other there. left (suc copy) other there) in
    omega (arith, split, rest, sum_by-cons both kind kinds, sum_by-cons early kind kinds, sum_by-cons late kind kinds)

in_block : (erases here : Bool) →
    ◌≡◌ {A = ℕ} (if here then (if erases then 1 else 0) else 0) (cond (erases && here) 1 0)
in_block true here = refl
in_block false true = refl
in_block false false = refl

-- ---- one write of each copy that isn't fresh

abbrev pub OnceEach : (BucketKind → Image → Bool) → List ℕ → Writes
OnceEach fresh area kind region =
    if fresh kind region then [] else (record { area = area; region = region }) ∷ []

abbrev pub Met : ℕ → Image → List ℕ → BucketKind → CopyWrite
Met page image area kind = record { area = area; region = part_of page kind.region image }

-- of one copy
once_one : (count : CopyWrite → ℕ) (fresh mark : Bool) (write : CopyWrite) → mark ≡ fresh →
    sum_by count (if fresh then [] else write ∷ []) ≡ (if mark then 0 else count write)
once_one count true true write are = refl
once_one count false false write are = sum_by-cons count write [] ∙ add-zero (count write)
once_one count _ _ write are = absurd cc

-- the copies that are written are those that aren't marked
module _ (count : BucketKind → CopyWrite → ℕ) (fresh : BucketKind → Image → Bool) (area : List ℕ) (page : ℕ) (image : Image) where
  abbrev Written : BucketKind → ℕ
  Written kind = sum_by (count kind) (OnceEach fresh area kind (part_of page kind.region image))

  abbrev Counted : BucketKind → ℕ
  Counted kind = count kind (Met page image area kind)

  abbrev AreMarked : List Bool → List BucketKind → Type 0
  AreMarked marks kinds = EachCopy kinds (λ copy kind. is_marked marks copy ≡ fresh kind (part_of page kind.region image))

  first_one : (marks : List Bool) (kind : BucketKind) (kinds : List BucketKind) → AreMarked marks (kind ∷ kinds) →
      Written kind ≡ (if is_marked marks 0 then 0 else Counted kind)
  first_one marks kind kinds are =
      once_one (count kind) (fresh kind (part_of page kind.region image)) (is_marked marks 0) (Met page image area kind)
      (are 0 kind refl)

  pub once_sum : (marks : List Bool) (kinds : List BucketKind) → AreMarked marks kinds →
      sum_of_writes count (OnceEach fresh area) kinds page image ≡ sum_by Counted (unmarked_kinds marks kinds)
  once_sum [] [] are = refl
  once_sum (mark ∷ marks) [] are = refl
  once_sum [] (kind ∷ kinds) are =
      let rest = once_sum [] kinds (λ copy other there. are (suc copy) other there) in
      let here = first_one [] kind kinds are in
      omega (arith, here, rest, sum_by-cons Written kind kinds, sum_by-cons Counted kind kinds)
  once_sum (true ∷ marks) (kind ∷ kinds) are =
      let rest = once_sum marks kinds (λ copy other there. are (suc copy) other there) in
      omega (arith, first_one (true ∷ marks) kind kinds are, rest, sum_by-cons Written kind kinds)
  once_sum (false ∷ marks) (kind ∷ kinds) are =
      let rest = once_sum marks kinds (λ copy other there. are (suc copy) other there) in
      let two = sum_by-cons Counted kind (unmarked_kinds marks kinds) in
      omega (arith, first_one (false ∷ marks) kind kinds are, rest, sum_by-cons Written kind kinds, two)

pub erased_count : (form : Form) (geometry : Geometry) (block : ℕ) (area : List ℕ) (image : Image) (kinds : List BucketKind) →
    sum_by (λ kind. erases_in form geometry block kind (Met geometry.page image area kind)) kinds
    ≡ count_by (erases_block geometry image (form.text area) block) kinds
erased_count form geometry block area image kinds =
    sum_same (λ kind. erases_in form geometry block kind (Met geometry.page image area kind))
    (λ kind. cond (erases_block geometry image (form.text area) block kind) 1 0) kinds
    (λ kind.
    in_block (kind.write_erases (form.text area) (part_of geometry.page kind.region image))
    (kind.region.at / geometry.block == block))

pub calls_count : (form : Form) (page : ℕ) (area : List ℕ) (image : Image) (kinds : List BucketKind) →
    sum_by (λ kind. calls_in form kind (Met page image area kind)) kinds
    ≡ length kinds + count_by (erases_first page image (form.text area)) kinds
calls_count form page area image [] = refl
calls_count form page area image (kind ∷ kinds) =
    let f : BucketKind → ℕ = λ k. calls_in form k (Met page image area k) in
    let g : BucketKind → ℕ = λ k. cond (erases_first page image (form.text area) k) 1 0 in
    let here : f kind ≡ 1 + g kind = refl in
    let rest = calls_count form page area image kinds in
    let size : length (kind ∷ kinds) ≡ length kinds + 1 = omega arith in
    omega (arith, here, rest, sum_by-cons f kind kinds, sum_by-cons g kind kinds, size)

-- ---- what a device tells of writes

-- its content, how often each block was erased, and how many calls changed it
pub record Account : Type 0 where
  pub image : Image
  pub erases : List ℕ
  pub moment : ℕ

abbrev pub account_of : Told → Account
account_of told = record { image = told.image; erases = told.erases; moment = length told.changes }

abbrev pub account : Device → Option Account
account device = option_map account_of device.told

pub same_account : (from to : Device) → content to ≡ content from → changes to ≡ changes from → erases to ≡ erases from →
    account to ≡ account from
same_account from to = by to.told from.told
  where
    by : (a b : Option Told) → option_map (λ (t : Told). t.image) a ≡ option_map (λ (t : Told). t.image) b →
        option_map (λ (t : Told). t.changes) a ≡ option_map (λ (t : Told). t.changes) b →
        option_map (λ (t : Told). t.erases) a ≡ option_map (λ (t : Told). t.erases) b → option_map account_of a ≡ option_map account_of b
    by None None image changes erases = refl
    by (Some a) (Some b) image changes erases =
        let one : a.image ≡ b.image = cc in
        let two : a.changes ≡ b.changes = cc in
        let three : a.erases ≡ b.erases = cc in
        cc
    by _ _ image changes erases = absurd cc

pub quiet_account : (from to : Device) → IsQuiet from to → account to ≡ account from
quiet_account from to quiet =
    same_account from to (keeps_of_quiet from to quiet).content (read_changes from to quiet.told) (quiet_erases from to quiet.told)

pub told_same : {X : Type 0} → (f : Told → X) (from to : Device) (first last : Told) → option_map f to.told ≡ option_map f from.told →
    from.told ≡ Some first → to.told ≡ Some last → f last ≡ f first
told_same f from to first last same e at =
    let both : Some (f last) ≡ Some (f first) = sym (ap (option_map f) at) ∙ same ∙ ap (option_map f) e in cc

-- ---- writes

module _ (form : Form) (kinds : List BucketKind) (geometry : Geometry) where
  -- so often each block was erased, and so many calls changed the device
  pub record Makes (writes : Writes) (x z : Account) : Type 0 where
    pub erased :
        (block n : ℕ) → slice_get x.erases block ≡ Some n →
        slice_get z.erases block ≡ Some (n + sum_of_writes (erases_in form geometry block) writes kinds geometry.page x.image)
    pub called : z.moment ≡ x.moment + sum_of_writes (calls_in form) writes kinds geometry.page x.image

  pub makes_none : (x : Account) → Makes (λ kind region. []) x x
  makes_none x = record {
    erased = λ block n there.
        there ∙ ap (λ k. Some k) (sym (add-zero n) ∙ ap (λ k. n + k) (sym (sum_none kinds)));
    called = sym (add-zero x.moment) ∙ ap (λ k. x.moment + k) (sym (sum_none kinds));
  }

  pub makes_joined : (one two : Writes) (f : BucketKind → Image → Image) (x y z : Account) → LeavesRegions kinds geometry.page f x.image y.image →
      Makes one x y → Makes two y z → Makes (λ kind region. one kind region ++ two kind (f kind region)) x z
  makes_joined one two f x y z left early late = record {
    erased = λ block n there.
        let count = erases_in form geometry block in
        let a = sum_of_writes count one kinds geometry.page x.image in
        let b = sum_of_writes count two kinds geometry.page y.image in
        let added : n + a + b ≡ n + sum_of_writes count (λ kind region. one kind region ++ two kind (f kind region)) kinds geometry.page x.image =
        let sum = sum_joined count one two f geometry.page x.image y.image kinds left in omega (arith, sum) in
        late.erased block (n + a) (early.erased block n there) ∙ ap (λ k. Some k) added;
    called =
        let sum = sum_joined (calls_in form) one two f geometry.page x.image y.image kinds left in
        omega (arith, sum, early.called, late.called);
  }

-- one write of each copy that isn't marked
pub makes_by : (form : Form) (kinds : List BucketKind) (fresh : BucketKind → Image → Bool) (area : List ℕ) (marks : List Bool)
    (from to : Device) (first last : Told) → from.told ≡ Some first → to.told ≡ Some last →
    EachCopy kinds (λ copy kind. is_marked marks copy ≡ fresh kind (part_of from.geometry.page kind.region first.image)) →
    ErasesBy (unmarked_kinds marks kinds) (form.text area) from to →
    Makes form kinds from.geometry (OnceEach fresh area) (account_of first) (account_of last)
makes_by form kinds fresh area marks from to first last e f are by = record {
  erased = λ block n there.
      let numbers : Told → List ℕ = λ t. t.erases in
      by.counted first.image (told_content from first e) first.erases (ap (option_map numbers) e)
      last.erases (ap (option_map numbers) f) block n there
      ∙ ap (λ k. Some (n + k))
      (sym
      (once_sum (erases_in form from.geometry block) fresh area from.geometry.page first.image marks kinds are
      ∙ erased_count form from.geometry block area first.image (unmarked_kinds marks kinds)));
  called =
      by.made first e last f
      ∙ ap (λ k. length first.changes + k)
      (sym
      (once_sum (calls_in form) fresh area from.geometry.page first.image marks kinds are
      ∙ calls_count form from.geometry.page area first.image (unmarked_kinds marks kinds)));
}
