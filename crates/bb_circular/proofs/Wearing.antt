-- A block that is written as a log is erased once for as many records as it holds.
use Rattle.std.proofs.Common.{◌≡◌, ℕ, zero, suc, ◌+◌, ◌-◌, ◌*◌, ◌/◌, ◌%◌, ◌<◌, ◌≤◌, Bool, true, false, not, List, [], ◌∷◌, length, Some, option_map, refl, sym, ap, ◌∙◌, subst, arith, inl, inr, ◌⊎◌, cond}
use Rattle.std.specs.Prelude.{slice_index, slice_set}
use Rattle.std.specs.Int.{div_ceil}
use Rattle.std.proofs.Math.Nat.{add-div_right, add-mul, div-eq_of_lt, lt_of_mul-lt-mul_right, mul-mod_left, zero-mod}
use Rattle.std.proofs.lemmas.Bool.{cases_Bool, leb-false, leb-true}
use Rattle.std.proofs.lemmas.Grind.{div_ceil_times}
use Rattle.std.specs.List.{AllByRecursion}
use Rattle.std.proofs.lemmas.Option.{same_Some}
use Rattle.bb_bucket.specs.Calls.{ErasesWhere, Leaves, erases_after}
use Rattle.bb_flash.specs.declared.geometry.Geometry.{Geometry}
use Rattle.bb_flash.specs.Geometry.{size_limit}
use Rattle.bb_flash.specs.Cuts.{IsLater}
use Rattle.bb_flash.specs.Device.{Device, content, erases}
use Rattle.bb_flash.specs.Image.{Image}
use Rattle.bb_bucket.specs.declared.block.Block.{Block}
use Rattle.bb_bucket.specs.Blocks.{blank_of}
use Rattle.bb_bucket.specs.BlockLaws.{block_of}
use Rattle.bb_bucket.specs.Front.{put_at}
use Rattle.bb_bucket.specs.Kind.{BucketKind, part_of}
use Rattle.bb_circular.specs.declared.kept.Kept.{Kept}
use Rattle.bb_circular.specs.Circular.{after_write, circular_kind, fits_after, next_place}
use Rattle.bb_circular.specs.CircularLaws.{behind_next, block_paged, entry_fits, kept_put}
use Rattle.bb_circular.specs.PutLaws.{blank_paged, blank_pages, put_paged}
use Rattle.bb_circular.specs.Entries.{entry_len, log_entry}
use Rattle.bb_circular.specs.EntryLaws.{entry_len_is, entry_size}
use Rattle.bb_circular.specs.PagesLaws.{IsPaged}
use Rattle.bb_circular.proofs.LogDevices.{numbers_told, told_image, told_of_numbers}
use Rattle.bb_circular.specs.Wear.{Deed, BlockEvent, FollowsOnBlock, History, Idle, IsIdle, IsWritten, WearLaw, Write, entries_in, last_device, records_in, written_by}

-- how often the writes of these records erase a block that held this before
wear : Block → List (List ℕ) → Image → ℕ
wear block [] old = 0
wear block (rec ∷ recs) old = cond (fits_after block rec old) 0 1 + wear block recs (after_write block rec old)

-- ---- counting the places that are left

-- how many entries of this length still have room
spare : Block → ℕ → Image → ℕ
spare block entry old = (block.region.size - next_place block.page old) / entry

-- an entry less has room once one was written
one_less : (room entry : ℕ) → 0 < entry → entry ≤ room → room / entry ≡ (room - entry) / entry + 1
one_less room entry some fits =
    let sum : room ≡ room - entry + entry = omega arith in
    ap (λ n. n / entry) sum ∙ add-div_right (room - entry) some

module _ (block : Block) (len : ℕ) (least : 16 ≤ block.page) (whole : block.region.size % block.page ≡ 0)
    (small : block.region.size ≤ size_limit) (room : len + 8 ≤ block.region.size) where
  entry_least : 0 < entry_len block.page len
  entry_least = let is = entry_len_is block.page len (omega (arith, least)) in omega (arith, is.least, least)

  -- what a write leaves, and where the next entry then goes
  written_behind :
      (rec : List ℕ) (old : Image) → IsPaged block.page block.region.size old → length rec ≡ len →
      fits_after block rec old ≡ true →
      IsPaged block.page block.region.size (after_write block rec old)
      × (next_place block.page (after_write block rec old) ≡ next_place block.page old + entry_len block.page len)
  written_behind rec old paged same fits =
      let page : ℕ = block.page in
      let size : ℕ = block.region.size in
      let next : ℕ = next_place page old in
      let inside : next + entry_len page (length rec) ≤ size = leb-true (next + entry_len page (length rec)) size fits in
      let some : 0 < page = omega (arith, least) in
      let is = entry_len_is page (length rec) some in
      let long = entry_size page rec some in
      let aligned : next % page ≡ 0 = mul-mod_left _ page in
      let entry_whole : length (log_entry page rec) % page ≡ 0 = ap (λ n. n % page) long ∙ is.whole in
      let put : Image = put_at page next (log_entry page rec) old in
      let after : after_write block rec old ≡ put = ap (λ b. cond b put (put_at page 0 (log_entry page rec) (blank_of block))) fits in
      let kept = ap (λ (k : Kept). k.next) (kept_put page size next rec old paged aligned inside (behind_next page size old paged)) in (
        subst (IsPaged page size) (sym after) (put_paged page size next (log_entry page rec) old paged aligned entry_whole (omega (arith, long, inside))),
        ap (next_place page) after ∙ kept ∙ ap (λ n. next + entry_len page n) same,
      )

  written_anew :
      (rec : List ℕ) (old : Image) → length rec ≡ len → fits_after block rec old ≡ false →
      IsPaged block.page block.region.size (after_write block rec old)
      × (next_place block.page (after_write block rec old) ≡ entry_len block.page len)
  written_anew rec old same full =
      let page : ℕ = block.page in
      let size : ℕ = block.region.size in
      let some : 0 < page = omega (arith, least) in
      let is = entry_len_is page (length rec) some in
      let long = entry_size page rec some in
      let fits : length rec + 8 ≤ size = omega arith in
      let inside : 0 + entry_len page (length rec) ≤ size = omega (arith, entry_fits page size (length rec) least whole fits) in
      let entry_whole : length (log_entry page rec) % page ≡ 0 = ap (λ n. n % page) long ∙ is.whole in
      let paged = blank_paged page size least whole small in
      let put : Image = put_at page 0 (log_entry page rec) (blank_of block) in
      let after : after_write block rec old ≡ put = ap (λ b. cond b (put_at page (next_place page old) (log_entry page rec) old) put) full in
      let kept = ap (λ (k : Kept). k.next) (kept_put page size 0 rec (blank_of block) paged (zero-mod page) inside (λ k from below. blank_pages page size k least whole below)) in
      let start : 0 + entry_len page (length rec) ≡ entry_len page (length rec) = omega arith in (
        subst (IsPaged page size) (sym after) (put_paged page size 0 (log_entry page rec) (blank_of block) paged (zero-mod page) entry_whole (omega (arith, long, inside))),
        ap (next_place page) after ∙ kept ∙ start ∙ ap (entry_len page) same,
      )

  -- none was erased, or the records that were written before the last erase fill the block
  bounded :
      (recs : List (List ℕ)) (old : Image) → IsPaged block.page block.region.size old →
      AllByRecursion (λ rec. length rec ≡ len) recs →
      (wear block recs old ≡ 0)
      ⊎ (wear block recs old * entries_in block len + spare block (entry_len block.page len) old + 1
      ≤ length recs + entries_in block len)
  unfolding wear spare
  bounded [] old paged all = inl refl
  bounded (rec ∷ recs) old paged all =
      let same : length rec ≡ len = all.0 in
      let others = all.1 in
      let entry : ℕ = entry_len block.page len in
      let e : ℕ = entries_in block len in
      let some = entry_least in
      let next : ℕ = next_place block.page old in
      let after : Image = after_write block rec old in
      elim (cases_Bool (fits_after block rec old)) [
        | inl fits ↦
            let left = written_behind rec old paged same fits in
            let inside : next + entry_len block.page (length rec) ≤ block.region.size = leb-true (next + entry_len block.page (length rec)) block.region.size fits in
            let long = ap (entry_len block.page) same in
            let less = one_less (block.region.size - next) entry some (omega (arith, inside, long)) in
            let there : block.region.size - next_place block.page after ≡ block.region.size - next - entry = omega (arith, left.1) in
            let room_after = ap (λ n. n / entry) there in
            let count : ◌≡◌ {A = ℕ} (cond (fits_after block rec old) 0 1) 0 = ap (λ b. cond b 0 1) fits in
            elim (bounded recs after left.0 others) [
              | inl none ↦ inl (omega (arith, none, count))
              | inr few ↦
                  let total : cond (fits_after block rec old) 0 1 + wear block recs after ≡ wear block recs after = omega (arith, count) in
                  let product = ap (λ n. n * e) total in
                  inr (omega (arith, few, product, less, room_after))
            ]
        | inr full ↦
            let left = written_anew rec old same full in
            let outside : block.region.size < next + entry_len block.page (length rec) = leb-false (next + entry_len block.page (length rec)) block.region.size full in
            let long = ap (entry_len block.page) same in
            let none_left : (block.region.size - next) / entry ≡ 0 = div-eq_of_lt (omega (arith, outside, long, some)) in
            let all_fit = entry_fits block.page block.region.size len least whole room in
            let less = one_less block.region.size entry some all_fit in
            let there : block.region.size - next_place block.page after ≡ block.region.size - entry = omega (arith, left.1) in
            let room_after = ap (λ n. n / entry) there in
            let count : ◌≡◌ {A = ℕ} (cond (fits_after block rec old) 0 1) 1 = ap (λ b. cond b 0 1) full in
            let total : cond (fits_after block rec old) 0 1 + wear block recs after ≡ wear block recs after + 1 = omega (arith, count) in
            let product = ap (λ n. n * e) total ∙ add-mul (wear block recs after) 1 e in
            elim (bounded recs after left.0 others) [
              | inl none ↦
                  let times : wear block recs after * e ≡ 0 * e = ap (λ n. n * e) none in
                  inr (omega (arith, none, product, times, none_left))
              | inr few ↦ inr (omega (arith, few, product, none_left, less, room_after))
            ]
      ]

  worn_at_most :
      (recs : List (List ℕ)) (old : Image) → IsPaged block.page block.region.size old →
      AllByRecursion (λ rec. length rec ≡ len) recs →
      wear block recs old ≤ div_ceil (length recs) (entries_in block len)
  worn_at_most recs old paged all =
      let e : ℕ = entries_in block len in
      let all_fit = entry_fits block.page block.region.size len least whole room in
      let less = one_less block.region.size (entry_len block.page len) entry_least all_fit in
      let some : 0 < e = omega arith in
      let ceil = div_ceil_times (length recs) e some in
      let next = add-mul (div_ceil (length recs) e) 1 e in
      elim (bounded recs old paged all) [
        | inl none ↦ omega (arith, none)
        | inr few ↦
            let below : wear block recs old < div_ceil (length recs) e + 1 = lt_of_mul-lt-mul_right e (omega (arith, few, ceil.0, next)) in
            omega arith
      ]

-- ---- over devices

-- a number that was counted up is at most one more
set_index : (numbers : List ℕ) (k n : ℕ) → slice_index (slice_set numbers k n) k ≤ n
set_index [] k n = omega arith
set_index (x ∷ numbers) zero n = omega arith
set_index (x ∷ numbers) (suc k) n = set_index numbers k n

counted_at : (erased : Bool) (numbers : List ℕ) (k : ℕ) → slice_index (cond erased (slice_set numbers k (slice_index numbers k + 1)) numbers) k ≤ slice_index numbers k + cond erased 1 0
counted_at true numbers k = set_index numbers k (slice_index numbers k + 1)
counted_at false numbers k = omega arith

deed_written :
    (deed : Deed) (recs : List (List ℕ)) (block : Block) (len : ℕ) (from to : Device) →
    FollowsOnBlock block len from deed to → AllByRecursion (λ rec. length rec ≡ len) recs →
    AllByRecursion (λ rec. length rec ≡ len) (written_by deed recs)
deed_written Idle recs block len from to follows all = all
deed_written (Write rec) recs block len from to follows all = (follows.sized, all)

all_sized :
    (block : Block) (len : ℕ) (from : Device) (events : List BlockEvent) → History block len from events →
    AllByRecursion (λ rec. length rec ≡ len) (records_in events)
all_sized block len from [] history = tt
all_sized block len from (event ∷ later) history =
    deed_written event.deed (records_in later) block len from event.device history.0
    (all_sized block len event.device later history.1)

-- what a deed leaves of the block, and of its number
record IsAfter (block : Block) (geometry : Geometry) (deed : Deed) (image : Image) (before : List ℕ) (to : Device) : Type 0 where
  mid : Image
  numbers : List ℕ
  geometry_is : to.geometry ≡ geometry
  holds : content to ≡ Some mid
  counts : erases to ≡ Some numbers
  rest : (recs : List (List ℕ)) →
      slice_index numbers (block.region.at / geometry.block) + wear block recs (part_of geometry.page block.region mid)
      ≤ slice_index before (block.region.at / geometry.block) + wear block (written_by deed recs) (part_of geometry.page block.region image)

after_idle :
    (block : Block) (geometry : Geometry) (from to : Device) (image : Image) (before : List ℕ) →
    from.geometry ≡ geometry → content from ≡ Some image → erases from ≡ Some before →
    IsIdle block from to → IsAfter block geometry Idle image before to
after_idle block geometry from to image before same holds counts idle =
    let there = numbers_told to.told (idle.told ∙ told_image from.told image holds) in
    let number = subst (λ (g : Geometry). slice_index there.1 (block.region.at / g.block) ≡ slice_index before (block.region.at / g.block)) same (idle.erased before counts there.1 there.3) in
    let left = subst (λ (g : Geometry). part_of g.page block.region there.0 ≡ part_of g.page block.region image) same (idle.leaves.there image holds there.0 there.2) in
    record {
      mid = there.0;
      numbers = there.1;
      geometry_is = idle.geometry ∙ same;
      holds = there.2;
      counts = there.3;
      rest = λ recs. (let count = ap (wear block recs) left in omega (arith, number, count));
    }

erased_count : (fits : Bool) → ◌≡◌ {A = ℕ} (cond (not fits) 1 0) (cond fits 0 1)
erased_count true = refl
erased_count false = refl

after_written :
    (block : Block) (geometry : Geometry) (len : ℕ) (rec : List ℕ) (from to : Device) (image : Image) (before : List ℕ) →
    from.geometry ≡ geometry → content from ≡ Some image → erases from ≡ Some before →
    IsWritten block len rec from to → IsAfter block geometry (Write rec) image before to
unfolding wear
after_written block geometry len rec from to image before same holds counts written =
    let there = numbers_told to.told (written.later.told ∙ told_image from.told image holds) in
    let old : Image = part_of geometry.page block.region image in
    let place : ℕ = block.region.at / geometry.block in
    let fits : Bool = fits_after block rec old in
    let left = subst (λ (g : Geometry). part_of g.page block.region there.0 ≡ after_write block rec (part_of g.page block.region image)) same (written.done.there image holds there.0 there.2) in
    let erased = subst (λ (g : Geometry). erases to ≡ option_map (erases_after g block.region (not (fits_after block rec (part_of g.page block.region image)))) (erases from)) same (written.erases.counted image holds) in
    let is : Some there.1 ≡ Some (erases_after geometry block.region (not fits) before) = sym there.3 ∙ erased ∙ ap (option_map (erases_after geometry block.region (not fits))) counts in
    let numbers : there.1 ≡ erases_after geometry block.region (not fits) before = same_Some _ _ is in
    let number = ap (λ (ns : List ℕ). slice_index ns place) numbers in
    let most = counted_at (not fits) before place in
    let once = erased_count fits in
    record {
      mid = there.0;
      numbers = there.1;
      geometry_is = written.later.geometry ∙ same;
      holds = there.2;
      counts = there.3;
      rest = λ recs. (let count = ap (wear block recs) left in omega (arith, number, most, once, count));
    }

after_deed :
    (deed : Deed) (block : Block) (geometry : Geometry) (len : ℕ) (from to : Device) (image : Image) (before : List ℕ) →
    from.geometry ≡ geometry → content from ≡ Some image → erases from ≡ Some before →
    FollowsOnBlock block len from deed to → IsAfter block geometry deed image before to
after_deed Idle block geometry len from to image before same holds counts follows = after_idle block geometry from to image before same holds counts follows
after_deed (Write rec) block geometry len from to image before same holds counts follows = after_written block geometry len rec from to image before same holds counts follows

rises :
    (block : Block) (geometry : Geometry) (len : ℕ) (events : List BlockEvent) (from : Device) (image : Image) (before after : List ℕ) →
    from.geometry ≡ geometry → content from ≡ Some image → erases from ≡ Some before →
    erases (last_device from events) ≡ Some after → History block len from events →
    slice_index after (block.region.at / geometry.block)
    ≤ slice_index before (block.region.at / geometry.block) + wear block (records_in events) (part_of geometry.page block.region image)
unfolding wear
rises block geometry len [] from image before after same holds counts end history =
    let is : before ≡ after = same_Some before after (sym counts ∙ end) in
    let number = ap (λ (ns : List ℕ). slice_index ns (block.region.at / geometry.block)) is in
    omega (arith, number)
rises block geometry len (event ∷ later) from image before after same holds counts end history =
    let step = after_deed event.deed block geometry len from event.device image before same holds counts history.0 in
    let others = rises block geometry len later event.device step.mid step.numbers after step.geometry_is step.holds step.counts end history.1 in
    omega (arith, others, step.rest (records_in later))

pub wears_little : WearLaw
wears_little block len from events serves whole room history before counts after end =
    let held = block_of block from.geometry serves in
    let told = told_of_numbers from.told before counts in
    let paged = block_paged block from.geometry told.0 held (whole.image told.0 told.1) in
    let small : block.region.size ≤ size_limit = omega (arith, held.inside, held.small) in
    let count = rises block from.geometry len events from told.0 before after refl told.1 counts end history in
    let most = worn_at_most block len held.page_least held.pages small room (records_in events) (part_of from.geometry.page block.region told.0) paged (all_sized block len from events history) in
    omega (arith, count, most)

-- what a write's clauses say of a bucket of this kind is all that the law asks of a write
pub was_written :
    (kind : BucketKind) (block : Block) (rec : List ℕ) (from to : Device) → kind ≡ circular_kind block →
    Leaves kind.region (kind.after_write rec) from to →
    ErasesWhere kind.region (kind.write_erases rec) from to →
    IsLater from to → IsWritten block (length rec) rec from to
was_written kind block rec from to is done erases later = record {
  sized = refl;
  done = subst (λ (k : BucketKind). Leaves k.region (k.after_write rec) from to) is done;
  erases = subst (λ (k : BucketKind). ErasesWhere k.region (k.write_erases rec) from to) is erases;
  later = later;
}
