-- What an entry holds: its length, its record in front, and its closing words after.
use Rattle.std.proofs.Common.{◌≡◌, ℕ, zero, suc, ◌+◌, ◌-◌, ◌*◌, ◌%◌, ◌^◌, ◌<◌, ◌≤◌, Bool, true, false, ◌&&◌, List, [], eqb, leb, nat_le, length, take, drop, replicate, refl, sym, ap, ◌∙◌, arith, length-append}
use Rattle.std.specs.List.{list_all}
use Rattle.std.proofs.Math.Nat.{add-mul, mul-mod_left}
use Rattle.std.proofs.Math.Seq.{drop-append_seam, take-append_seam}
use Rattle.std.proofs.lemmas.Bool.{and_parts, and_right, eq-eqb, le-leb, leb-true}
use Rattle.std.proofs.lemmas.Grind.{div_ceil_times}
use Rattle.std.proofs.lemmas.List.{drop-append-le, length-replicate}
use Rattle.std.proofs.lemmas.List.Folds.{list_all-append}
use Rattle.std.specs.Int.{div_ceil}
use Rattle.byteorder.specs.Endian.{little_number}
use Rattle.byteorder.specs.Numbers.{little_number-reads_back}
use Rattle.bb_bucket.specs.Blocks.{filled_to}
use Rattle.bb_circular.specs.Entries.{closes, closing_words, entry_len, closing_len_of, log_entry}

-- an entry has whole pages, one at least, and room for its record and the closing words
pub record IsEntryLen (page len entry : ℕ) : Type 0 where
  pub room : len + 8 ≤ entry
  pub whole : entry % page ≡ 0
  pub least : page ≤ entry

pub one_at_least : (count page : ℕ) → 0 < count * page → page ≤ count * page
one_at_least zero page more = absurd (omega arith)
one_at_least (suc count) page more = omega (arith, add-mul count 1 page)

pub entry_len_is : (page len : ℕ) → 0 < page → IsEntryLen page len (entry_len page len)
entry_len_is page len some =
    let ceil = div_ceil_times (len + 8) page some in
    let count : ℕ = div_ceil (len + 8) page in
    record {
      room = ceil.0;
      whole = mul-mod_left count page;
      least = one_at_least count page (omega (arith, ceil.0));
    }

module _ (page : ℕ) (rec : List ℕ) (some : 0 < page) where
  filled_size : length (filled_to (entry_len page (length rec) - 8) rec)
      ≡ entry_len page (length rec) - 8
  filled_size =
      let is = entry_len_is page (length rec) some in
      let filling = length-replicate {A = ℕ} (entry_len page (length rec) - 8 - length rec) 255 in
      let sum = length-append rec (replicate (entry_len page (length rec) - 8 - length rec) 255) in
      omega (arith, is.room)

  pub entry_size : length (log_entry page rec) ≡ entry_len page (length rec)
  entry_size =
      let is = entry_len_is page (length rec) some in
      let front = filled_size in
      let sum = length-append (filled_to (entry_len page (length rec) - 8) rec)
      (closing_words (entry_len page (length rec))) in
      omega (arith, is.room)

  -- the record and its filling stand in front
  pub entry_front : take (entry_len page (length rec) - 8) (log_entry page rec)
      ≡ filled_to (entry_len page (length rec) - 8) rec
  entry_front =
      let front : List ℕ = filled_to (entry_len page (length rec) - 8) rec in
      ap (λ n. take n (log_entry page rec)) (sym filled_size)
      ∙ take-append_seam front (closing_words (entry_len page (length rec)))

  -- the closing words stand after
  pub entry_words : drop (entry_len page (length rec) - 8) (log_entry page rec)
      ≡ closing_words (entry_len page (length rec))
  entry_words =
      let front : List ℕ = filled_to (entry_len page (length rec) - 8) rec in
      ap (λ n. drop n (log_entry page rec)) (sym filled_size)
      ∙ drop-append_seam front (closing_words (entry_len page (length rec)))

  -- its last page isn't blank
  pub last_page_written :
      16 ≤ page →
      list_all (λ (byte : ℕ). eqb byte 255)
      (drop (entry_len page (length rec) - page) (log_entry page rec)) ≡ false
  last_page_written least =
      let is = entry_len_is page (length rec) some in
      let front : List ℕ = filled_to (entry_len page (length rec) - 8) rec in
      let words : List ℕ = closing_words (entry_len page (length rec)) in
      ap (list_all (λ (byte : ℕ). eqb byte 255))
      (drop-append-le (entry_len page (length rec) - page) front words
      (omega (arith, filled_size, is.least, least)))
      ∙ list_all-append (λ (byte : ℕ). eqb byte 255)
      (drop (entry_len page (length rec) - page) front) words
      ∙ and_right _ _ refl

-- the length reads back from the words
pub words_length : (len : ℕ) → len < 2 ^ 32 → closing_len_of (closing_words len) ≡ len
words_length len small = little_number-reads_back 4 len [] small

all_hold : (a b c : Bool) → a ≡ true → b ≡ true → c ≡ true → (a && (b && c)) ≡ true
all_hold a b c p q r = rw (p, q, r) refl

-- the words close an entry that lies in its block
pub words_close :
    (page len end : ℕ) →
    len < 2 ^ 32 → len % page ≡ 0 → 1 ≤ len → len ≤ end →
    closes page end (closing_words len) ≡ true
words_close page len end small whole some inside =
    ap (λ n. eqb (n % page) 0 && (leb 1 n && leb n end)) (words_length len small)
    ∙ all_hold (eqb (len % page) 0) (leb 1 len) (leb len end) (eq-eqb (len % page) 0 whole)
    (le-leb 1 len some) (le-leb len end inside)

-- an entry that words close doesn't reach before its block's start
pub closes_fits : (page end : ℕ) (words : List ℕ) → closes page end words ≡ true → closing_len_of words ≤ end
closes_fits page end words ends =
    let magic : Bool = eqb (little_number 4 words) 0x14fa2d02 in
    let whole : Bool = eqb (closing_len_of words % page) 0 in
    let some : Bool = nat_le 1 (closing_len_of words) in
    let inside : Bool = nat_le (closing_len_of words) end in
    leb-true (closing_len_of words) end
    (and_parts some inside (and_parts whole (some && inside) (and_parts magic (whole && (some && inside)) ends).1).1).1
