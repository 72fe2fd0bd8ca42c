-- What a state keeps beside its table.
use Rattle.std.specs.Prelude.{◌≡◌, ◌≤◌, ℕ, Bool, List, Option, length}
use Rattle.bb_base.specs.Form.{Form}
use Rattle.bb_bucket.specs.Kind.{BucketKind}
use Rattle.bb_copies.specs.Buckets.{AllServe, kinds_of}
use Rattle.bb_state.specs.Keyed.{Keyed}
use Rattle.bb_state.specs.Kinds.{any_form, any_holding, format_of, laid_form, laid_kinds}
use Rattle.bb_state.specs.declared.any_bucket.AnyBucket.{AnyBucket}
use Rattle.bb_state.specs.declared.any_format.AnyFormat.{AnyFormat}

pub record Backed : Type 0 where
  pub keyed : Keyed
  -- one bucket a copy
  pub buckets : List AnyBucket
  -- the first copy that passed the table that was last loaded or saved, if any did
  pub used : Option ℕ
  -- whether the last load or save answered Ok, and no look failed since
  pub sure : Bool
  -- the area that was last loaded or looked at, as long as it is stored, or the empty one
  pub stored : List ℕ
  -- the table that was last loaded or saved
  pub kept : List ℕ

-- the format of its copies, and their kinds
abbrev pub form_in : Backed → Form
form_in backed = laid_form backed.keyed

abbrev pub kinds_in : Backed → List BucketKind
kinds_in backed = laid_kinds backed.keyed.layout

-- its buckets are those of its layout
abbrev pub HasItsKinds : Backed → Type 0
HasItsKinds backed = kinds_of any_holding backed.buckets ≡ kinds_in backed

-- The buckets and the format are those of the layout and its key, areas of the layout's length are
-- saved, and a table of it is at hand. There is memory for the longest area, in front of which the
-- stored one stands.
pub record IsBacked
    (keyed : Keyed) (buckets : List AnyBucket) (format : AnyFormat) (most : ℕ)
    (memory : List ℕ) (stored_len : ℕ) (kept : List ℕ) : Type 0 where
  pub kinds : kinds_of any_holding buckets ≡ laid_kinds keyed.layout
  pub format_is : format ≡ format_of keyed
  pub serves : AllServe (laid_kinds keyed.layout) keyed.layout.geometry
  pub most_is : most ≡ keyed.layout.area_len
  pub memory_is : length memory ≡ (any_form format).area_len
  pub inside : stored_len ≤ length memory
  pub sized : length kept ≡ keyed.layout.area_len
