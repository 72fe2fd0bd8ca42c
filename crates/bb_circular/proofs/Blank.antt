-- Where each byte of a block is 0xFF no entry stands, whatever its pages' health.
use Rattle.std.proofs.Common.{◌≡◌, ◌==◌, ◌&&◌, ◌*◌, ◌%◌, ◌-◌, ℕ, zero, suc, Bool, true, false, not, List, Option, Some, None, drop, replicate, nat_le, ap, refl, sym, subst, option_map, if◌then◌else◌}
use Rattle.std.specs.Option.{option_and_then}
use Rattle.byteorder.specs.Endian.{little_number}
use Rattle.bb_flash.specs.Image.{Image}
use Rattle.bb_bucket.proofs.Blank.{IsErased, drop_erased, take_erased}
use Rattle.bb_bucket.specs.Front.{is_lost}
use Rattle.bb_circular.specs.Circular.{circular_candidate, readable, record_of}
use Rattle.bb_circular.specs.Entries.{closed_entry, closing_len, closes, last_words, closing_len_of}
use Rattle.bb_circular.specs.Pages.{Page, page_at, written_pages}

-- a word of such bytes is no magic word
no_closing_word : (n : ℕ) → (little_number 4 (replicate n 255) == 0x14fa2d02) ≡ false
no_closing_word zero = refl
no_closing_word (suc zero) = refl
no_closing_word (suc (suc zero)) = refl
no_closing_word (suc (suc (suc zero))) = refl
no_closing_word (suc (suc (suc (suc n)))) = refl

none_closes : (page end : ℕ) (words : List ℕ) → IsErased words → closes page end words ≡ false
none_closes page end words (n, e) =
    subst (λ l. closes page end l ≡ false) (sym e)
    (ap
    (λ b. b && (closing_len_of (replicate n 255) % page == 0
    && (nat_le 1 (closing_len_of (replicate n 255)) && nat_le (closing_len_of (replicate n 255)) end)))
    (no_closing_word n))

none_after : {X : Type 0} (x y z : Bool) (o : Option X) → z ≡ false →
    (if x && (y && z) then o else None) ≡ None
none_after true true z o e = ap (λ b. if b then o else None) e
none_after true false z o e = refl
none_after false y z o e = refl

pub no_entry : (page pages : ℕ) (last : Page) → IsErased last.bytes → closed_entry page pages last ≡ None
no_entry page pages last erased =
    none_after (nat_le 1 pages) (not (is_lost last.health))
    (closes page (pages * page) (last_words page last))
    (Some (record {
      at = pages * page - closing_len_of (last_words page last);
      len = closing_len_of (last_words page last);
    }))
    (none_closes page (pages * page) (last_words page last)
    (drop_erased (page - closing_len) last.bytes erased))

pub log_of_erased : (page : ℕ) (block : Image) → IsErased block.bytes →
    circular_candidate page block ≡ None
log_of_erased page block erased =
    let number = written_pages page block - 1 in
    let none = no_entry page (written_pages page block) (page_at page block number)
    (take_erased page (drop (number * page) block.bytes)
    (drop_erased (number * page) block.bytes erased)) in
    ap (λ o. option_map (record_of block) (option_and_then (readable page block) o)) none
