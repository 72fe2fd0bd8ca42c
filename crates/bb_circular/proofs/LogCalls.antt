-- The flash calls of a write to a log, and what they leave: a program after the last page that
-- isn't blank, or an erase and a program of the first bytes.
use Rattle.std.proofs.Common.{◌≡◌, ℕ, ◌+◌, ◌*◌, ◌/◌, ◌%◌, ◌<◌, ◌≤◌, true, false, not, List, [], ◌∷◌, length, replicate, Some, refl, sym, ap, ◌∙◌, subst, arith, inl, inr, cond, Contains, leb}
use Rattle.std.specs.Option.{ForSome}
use Rattle.std.proofs.Math.Nat.{zero-mod}
use Rattle.std.proofs.lemmas.Bool.{le-leb}
use Rattle.bb_flash.specs.declared.geometry.Geometry.{Geometry}
use Rattle.bb_flash.specs.declared.health.Health.TheVariants.{Fine}
use Rattle.bb_flash.specs.declared.region.Region.{Region}
use Rattle.bb_flash.specs.Calls.{ChangesOnly}
use Rattle.bb_flash.specs.Cuts.{IsLater}
use Rattle.bb_flash.specs.Device.{Change, Device, IsDevice, change_of, content, erases}
use Rattle.bb_flash.specs.Image.{Image, IsImageOf, with_bytes}
use Rattle.bb_flash.proofs.Moments.{later_joined}
use Rattle.bb_bucket.specs.declared.block.Block.{Block}
use Rattle.bb_bucket.specs.Blocks.{erased_block, blank_of}
use Rattle.bb_bucket.specs.BlockLaws.{HasBlock, block_lies_on}
use Rattle.bb_bucket.specs.Calls.{EachCall, ErasesWhere, IsWriteCall, Leaves}
use Rattle.bb_bucket.specs.Front.{first_bytes, put_at}
use Rattle.bb_bucket.specs.Kind.{BeginsWithRecord, part_of}
use Rattle.bb_bucket.proofs.BlockCalls.{NamesBoth, calls_given, erase_calls, erase_then_program}
use Rattle.bb_bucket.proofs.OneCall.{one_call}
use Rattle.bb_bucket.proofs.Programs.{image_before, part_programmed}
use Rattle.bb_bucket.proofs.Runs.{leaves_joined, part_after}
use Rattle.bb_bucket.proofs.StrideCalls.{only_one}
use Rattle.bb_circular.specs.Circular.{after_write, range_after_last, circular_candidate, circular_kind, fits_after, kept_of, next_place}
use Rattle.bb_circular.specs.CircularLaws.{begun_put, behind_next, entry_fits, kept_put}
use Rattle.bb_circular.specs.PutLaws.{blank_candidate, blank_paged, blank_pages}
use Rattle.bb_circular.specs.Entries.{entry_len, log_entry}
use Rattle.bb_circular.specs.EntryLaws.{entry_size}
use Rattle.bb_circular.specs.Looking.{kept_at}
use Rattle.bb_circular.specs.Pages.{is_erased, page_at}
use Rattle.bb_circular.specs.PagesLaws.{IsPaged}
use Rattle.bb_circular.proofs.LogDevices.{erases_none, erases_once, part_paged}

same_region : (a b m n : ℕ) → a ≡ b → m ≡ n → (let r : Region = record { at = a; size = m } in r) ≡ record { at = b; size = n }
same_region a b m n p q = ap (λ at. (let r : Region = record { at = at; size = m } in r)) p ∙ ap (λ size. (let r : Region = record { at = b; size = size } in r)) q

module _ (block : Block) (rec : List ℕ) where
  -- the next entry goes to a place
  abbrev pub IsPlaced : ℕ → Image → Type 0
  IsPlaced next image = next ≡ next_place block.page (part_of block.page block.region image)

  pub fits_there :
      (next : ℕ) (image : Image) → IsPlaced next image →
      next + entry_len block.page (length rec) ≤ block.region.size →
      fits_after block rec (part_of block.page block.region image) ≡ true
  fits_there next image placed inside =
      ap (λ place. leb (place + entry_len block.page (length rec)) block.region.size) (sym placed)
      ∙ le-leb (next + entry_len block.page (length rec)) block.region.size inside

  blank_from :
      (next : ℕ) (image : Image) → IsPaged block.page block.region.size (part_of block.page block.region image) →
      IsPlaced next image → (k : ℕ) → next ≤ k * block.page → k < block.region.size / block.page →
      is_erased (page_at block.page (part_of block.page block.region image) k) ≡ true
  blank_from next image paged placed k from below =
      behind_next block.page block.region.size (part_of block.page block.region image) paged k
      (subst (λ place. place ≤ k * block.page) placed from) below

  -- ---- after the last page that isn't blank

  append_call :
      (next : ℕ) (geometry : Geometry) (image : Image) →
      HasBlock block geometry → IsImageOf geometry image → next % block.page ≡ 0 →
      next + entry_len block.page (length rec) ≤ block.region.size → IsPlaced next image →
      IsWriteCall (circular_kind block) block.page rec image
      (change_of block.page (block.region.at + next) (log_entry block.page rec) image)
  append_call next geometry image held whole aligned inside placed =
      let page : ℕ = block.page in
      let size : ℕ = block.region.size in
      let entry : List ℕ = log_entry page rec in
      let old : Image = part_of page block.region image in
      let paged = part_paged block geometry image held whole in
      let len = entry_size page rec (omega (arith, held.page_least)) in
      let there = same_region (block.region.at + next_place page old) (block.region.at + next) (entry_len page (length rec)) (length entry) (ap (λ n. block.region.at + n) (sym placed)) (sym len) in
      let after =
      subst (λ p. part_of p block.region (with_bytes p (block.region.at + next) entry Fine image) ≡ put_at p next entry (part_of p block.region image)) held.page
      (part_programmed block.region geometry next entry image (omega (arith, held.page, held.page_least)) (block_lies_on block geometry held) (omega (arith, len, inside)) whole) in
      record {
        within = record { low = omega arith; high = omega (arith, len, inside) };
        range =
            subst (λ b. Contains (cond b (range_after_last block rec old ∷ []) (block.region ∷ first_bytes block.region (entry_len page (length rec)) ∷ [])) (record { at = block.region.at + next; size = length entry }))
            (sym (fits_there next image placed inside)) (only_one (range_after_last block rec old) _ there);
        begins = inl (inl refl);
        leaves =
            inr
            (subst (λ (part : Image). BeginsWithRecord rec (circular_candidate page part)) (sym after)
            (begun_put page size next rec old paged aligned inside (blank_from next image paged placed)));
      }

  pub append_calls :
      (next : ℕ) (bytes : List ℕ) (from to : Device) →
      HasBlock block from.geometry → next % block.page ≡ 0 →
      next + entry_len block.page (length rec) ≤ block.region.size →
      bytes ≡ log_entry block.page rec →
      ForSome (content from) (IsPlaced next) → IsLater from to → IsDevice to →
      ChangesOnly (block.region.at + next) bytes from to →
      EachCall (IsWriteCall (circular_kind block) from.geometry.page rec) from to
  append_calls next bytes from to held aligned inside is placed later whole changes =
      let entry : List ℕ = log_entry block.page rec in
      let page : ℕ = from.geometry.page in
      let write : Image → Change → Type 0 = IsWriteCall (circular_kind block) page rec in
      calls_given (IsPlaced next) write from to placed
      (one_call (λ image change. IsPlaced next image → write image change) (block.region.at + next) entry from to
      (λ image fits here.
      subst (λ p. IsWriteCall (circular_kind block) p rec image (change_of p (block.region.at + next) entry image)) (sym held.page)
      (append_call next from.geometry image held fits aligned inside here))
      later whole (subst (λ (b : List ℕ). ChangesOnly (block.region.at + next) b from to) is changes))

  written_behind :
      (next : ℕ) (image : Image) → IsPlaced next image →
      next + entry_len block.page (length rec) ≤ block.region.size →
      after_write block rec (part_of block.page block.region image)
      ≡ put_at block.page next (log_entry block.page rec) (part_of block.page block.region image)
  written_behind next image placed inside =
      let page : ℕ = block.page in
      let entry : List ℕ = log_entry page rec in
      let old : Image = part_of page block.region image in
      ap (λ b. cond b (put_at page (next_place page old) entry old) (put_at page 0 entry (blank_of block))) (fits_there next image placed inside)
      ∙ ap (λ place. put_at page place entry old) (sym placed)

  -- what a program left, by the page and the bytes of the block
  put_behind :
      (next : ℕ) (bytes : List ℕ) (from to : Device) (before after : Image) →
      HasBlock block from.geometry → bytes ≡ log_entry block.page rec →
      part_of from.geometry.page block.region after ≡ put_at from.geometry.page next bytes (part_of from.geometry.page block.region before) →
      part_of block.page block.region after ≡ put_at block.page next (log_entry block.page rec) (part_of block.page block.region before)
  put_behind next bytes from to before after held is left =
      subst (λ p. part_of p block.region after ≡ put_at p next (log_entry block.page rec) (part_of p block.region before)) held.page
      (subst (λ (b : List ℕ). part_of from.geometry.page block.region after ≡ put_at from.geometry.page next b (part_of from.geometry.page block.region before)) is left)

  pub append_leaves :
      (next : ℕ) (bytes : List ℕ) (from to : Device) →
      HasBlock block from.geometry → next + entry_len block.page (length rec) ≤ block.region.size →
      bytes ≡ log_entry block.page rec → ForSome (content from) (IsPlaced next) →
      Leaves block.region (put_at from.geometry.page next bytes) from to →
      Leaves block.region (after_write block rec) from to
  append_leaves next bytes from to held inside is placed left = record {
    there = λ before e after f.
        subst (λ p. part_of p block.region after ≡ after_write block rec (part_of p block.region before)) (sym held.page)
        (put_behind next bytes from to before after held is (left.there before e after f)
        ∙ sym (written_behind next before (placed before e) inside));
  }

  pub append_keeps :
      (next : ℕ) (bytes : List ℕ) (from to : Device) (image : Image) →
      HasBlock block from.geometry → next % block.page ≡ 0 →
      next + entry_len block.page (length rec) ≤ block.region.size →
      bytes ≡ log_entry block.page rec → ForSome (content from) (IsPlaced next) →
      IsLater from to → IsDevice to → ChangesOnly (block.region.at + next) bytes from to →
      Leaves block.region (put_at from.geometry.page next bytes) from to →
      content to ≡ Some image →
      kept_at next (entry_len block.page (length rec)) ≡ kept_of block.page (part_of block.page block.region image)
  append_keeps next bytes from to image held aligned inside is placed later whole changes left told =
      let page : ℕ = block.page in
      let run = part_after block.region (put_at from.geometry.page next bytes) from to image later left told in
      let before : Image = run.0 in
      let old : Image = part_of page block.region before in
      let paged = part_paged block from.geometry before held (image_before (block.region.at + next) bytes from to before image later.geometry whole changes run.1 told) in
      sym
      (ap (kept_of page) (put_behind next bytes from to before image held is run.2)
      ∙ kept_put page block.region.size next rec old paged aligned inside (blank_from next before paged (placed before run.1)))

  pub append_erases :
      (next : ℕ) (from to : Device) →
      HasBlock block from.geometry → next + entry_len block.page (length rec) ≤ block.region.size →
      ForSome (content from) (IsPlaced next) → erases to ≡ erases from →
      ErasesWhere block.region (λ old. not (fits_after block rec old)) from to
  append_erases next from to held inside placed same =
      erases_none block.region (λ old. not (fits_after block rec old)) from to
      (λ before e.
      subst (λ p. not (fits_after block rec (part_of p block.region before)) ≡ false) (sym held.page)
      (ap not (fits_there next before (placed before e) inside)))
      same

  -- ---- from the start of the erased block

  -- the entry doesn't fit after what stands there
  abbrev pub IsFull : Image → Type 0
  IsFull image = fits_after block rec (part_of block.page block.region image) ≡ false

  names_both : (geometry : Geometry) (image : Image) (len : ℕ) → HasBlock block geometry → len ≡ entry_len block.page (length rec) → IsFull image → NamesBoth (circular_kind block) geometry.page rec len image
  names_both geometry image len held is full =
      let page : ℕ = block.page in
      let old : Image = part_of page block.region image in
      let two : List Region = block.region ∷ first_bytes block.region (entry_len page (length rec)) ∷ [] in
      subst (λ p. NamesBoth (circular_kind block) p rec len image) (sym held.page)
      (record {
        whole = subst (λ b. Contains (cond b (range_after_last block rec old ∷ []) two) block.region) (sym full) (0, omega arith, refl);
        first =
            subst (λ b. Contains (cond b (range_after_last block rec old ∷ []) two) (first_bytes block.region len)) (sym full)
            (1, omega arith, ap (first_bytes block.region) (sym is));
      })

  pub anew_erase :
      (from to : Device) → HasBlock block from.geometry → ForSome (content from) IsFull →
      IsLater from to → IsDevice to →
      ChangesOnly block.region.at (replicate block.region.size 255) from to →
      EachCall (IsWriteCall (circular_kind block) from.geometry.page rec) from to
  anew_erase from to held full later whole changes =
      erase_calls (circular_kind block) block.page (blank_candidate block.page block.page block.region.size) from to rec
      (entry_len block.page (length rec)) held
      (λ image told. names_both from.geometry image (entry_len block.page (length rec)) held refl (full image told)) later whole changes

  module _ (geometry : Geometry) (held : HasBlock block geometry) (room : length rec + 8 ≤ block.region.size) where
    blank_is_paged : IsPaged block.page block.region.size (blank_of block)
    blank_is_paged = blank_paged block.page block.region.size held.page_least held.pages (omega (arith, held.inside, held.small))

    anew_inside : 0 + entry_len block.page (length rec) ≤ block.region.size
    anew_inside = omega (arith, entry_fits block.page block.region.size (length rec) held.page_least held.pages room)

    anew_begun : BeginsWithRecord rec (circular_candidate block.page (put_at block.page 0 (log_entry block.page rec) (blank_of block)))
    anew_begun =
        begun_put block.page block.region.size 0 rec (blank_of block) blank_is_paged (zero-mod block.page) anew_inside
        (λ k from below. blank_pages block.page block.region.size k held.page_least held.pages below)

    anew_kept : kept_of block.page (put_at block.page 0 (log_entry block.page rec) (blank_of block)) ≡ kept_at 0 (entry_len block.page (length rec))
    anew_kept =
        kept_put block.page block.region.size 0 rec (blank_of block) blank_is_paged (zero-mod block.page) anew_inside
        (λ k from below. blank_pages block.page block.region.size k held.page_least held.pages below)

  pub anew_calls :
      (bytes : List ℕ) (one two three : Device) →
      HasBlock block one.geometry → length rec + 8 ≤ block.region.size →
      bytes ≡ log_entry block.page rec → ForSome (content one) IsFull →
      IsLater one two → IsLater two three → IsDevice two → IsDevice three →
      ChangesOnly block.region.at (replicate block.region.size 255) one two →
      Leaves block.region (λ part. erased_block one.geometry.page block.region.size) one two →
      ChangesOnly (block.region.at + 0) bytes two three →
      EachCall (IsWriteCall (circular_kind block) one.geometry.page rec) one three
  anew_calls bytes one two three held room is full early late mid_whole last_whole erased blank programmed =
      let entry : List ℕ = log_entry block.page rec in
      let len = entry_size block.page rec (omega (arith, held.page_least)) in
      let start : block.region.at + 0 ≡ block.region.at = omega arith in
      erase_then_program (circular_kind block) block.page (blank_candidate block.page block.page block.region.size) one two three rec entry held
      (omega (arith, len, anew_inside one.geometry held room)) (anew_begun one.geometry held room)
      (λ image told. names_both one.geometry image (length entry) held len (full image told)) early late mid_whole last_whole erased blank
      (subst (λ at. ChangesOnly at entry two three) start
      (subst (λ (b : List ℕ). ChangesOnly (block.region.at + 0) b two three) is programmed))

  -- an erase and a program, by the page and the bytes of the block
  anew_left :
      (bytes : List ℕ) (one two three : Device) →
      HasBlock block one.geometry → bytes ≡ log_entry block.page rec → IsLater one two →
      Leaves block.region (λ part. erased_block one.geometry.page block.region.size) one two →
      Leaves block.region (put_at two.geometry.page 0 bytes) two three →
      Leaves block.region (λ part. put_at block.page 0 (log_entry block.page rec) (blank_of block)) one three
  anew_left bytes one two three held is early blank programmed =
      let page : two.geometry.page ≡ block.page = ap (λ (geometry : Geometry). geometry.page) early.geometry ∙ held.page in
      let joined = leaves_joined block.region (λ part. erased_block one.geometry.page block.region.size) (put_at two.geometry.page 0 bytes) one two three early blank programmed in
      subst (λ (entry : List ℕ). Leaves block.region (λ part. put_at block.page 0 entry (blank_of block)) one three) is
      (subst (λ p. Leaves block.region (λ part. put_at p 0 bytes (blank_of block)) one three) page
      (subst (λ p. Leaves block.region (λ part. put_at two.geometry.page 0 bytes (erased_block p block.region.size)) one three) held.page joined))

  pub anew_leaves :
      (bytes : List ℕ) (one two three : Device) →
      HasBlock block one.geometry → bytes ≡ log_entry block.page rec →
      ForSome (content one) IsFull → IsLater one two →
      Leaves block.region (λ part. erased_block one.geometry.page block.region.size) one two →
      Leaves block.region (put_at two.geometry.page 0 bytes) two three →
      Leaves block.region (after_write block rec) one three
  anew_leaves bytes one two three held is full early blank programmed =
      let left = anew_left bytes one two three held is early blank programmed in
      let entry : List ℕ = log_entry block.page rec in
      record {
        there = λ before e after f.
            let old : Image = part_of one.geometry.page block.region before in
            let none : fits_after block rec old ≡ false = subst (λ p. fits_after block rec (part_of p block.region before) ≡ false) (sym held.page) (full before e) in
            left.there before e after f
            ∙ ap (λ b. cond b (put_at block.page (next_place block.page old) entry old) (put_at block.page 0 entry (blank_of block))) (sym none);
      }

  pub anew_keeps :
      (bytes : List ℕ) (one two three : Device) (image : Image) →
      HasBlock block one.geometry → length rec + 8 ≤ block.region.size → bytes ≡ log_entry block.page rec →
      IsLater one two → IsLater two three →
      Leaves block.region (λ part. erased_block one.geometry.page block.region.size) one two →
      Leaves block.region (put_at two.geometry.page 0 bytes) two three → content three ≡ Some image →
      kept_at 0 (entry_len block.page (length rec)) ≡ kept_of block.page (part_of block.page block.region image)
  anew_keeps bytes one two three image held room is early late blank programmed told =
      let left = anew_left bytes one two three held is early blank programmed in
      let written : Image = put_at block.page 0 (log_entry block.page rec) (blank_of block) in
      let run = part_after block.region (λ part. written) one three image (later_joined one two three early late) left told in
      sym
      (ap (kept_of block.page) (subst (λ p. part_of p block.region image ≡ written) held.page run.2)
      ∙ anew_kept one.geometry held room)

  pub anew_erases :
      (one two three : Device) →
      HasBlock block one.geometry → ForSome (content one) IsFull →
      ErasesWhere block.region (λ part. true) one two → erases three ≡ erases two →
      ErasesWhere block.region (λ old. not (fits_after block rec old)) one three
  anew_erases one two three held full run same =
      erases_once block.region (λ old. not (fits_after block rec old)) one two three
      (λ before e.
      subst (λ p. not (fits_after block rec (part_of p block.region before)) ≡ true) (sym held.page) (ap not (full before e)))
      run same
