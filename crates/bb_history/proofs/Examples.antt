-- Worked histories, by computation; a lemma writes out the numbers in their texts.
use Rattle.std.proofs.Common.{◌≡◌, ℕ, List, [], ◌∷◌, ◌++◌, arith, codes, decimal, replicate, take, refl}
use Rattle.std.proofs.lemmas.Fmt.{decimal_digit}
use Rattle.bb_bucket.specs.declared.block.Block.{Block}
use Rattle.bb_bucket.specs.Blocks.{blank_of}
use Rattle.bb_circular.specs.Circular.{after_write}
use Rattle.bb_circular.specs.Entries.{closing_words, log_entry}
use Rattle.bb_circular.specs.Pages.{written_pages}
use Rattle.bb_circular.specs.declared.kept.Entry.{Entry}
use Rattle.bb_flash.specs.Image.{Image}
use Rattle.bb_flash.specs.declared.health.Health.{Health}
use Rattle.bb_flash.specs.declared.health.Health.TheVariants.{Fine, Worn, Lost}
use Rattle.bb_history.specs.Entries.{entries_within, held_entries}
use Rattle.bb_history.specs.Lines.{copy_text}

block : Block
block = record { region = record { at = 128; size = 64 }; page = 16 }

entry : ℕ → ℕ → Entry
entry at len = record { at = at; len = len }

blank : Image
unfolding block
blank = blank_of block

one : Image
unfolding block blank
one = after_write block (codes "1") blank

two : Image
unfolding block
two = after_write block (codes "12345678") one

-- the third entry takes two pages
three : Image
unfolding block
three = after_write block (codes "123456789") two

-- the fourth doesn't fit after it, so that the block is erased
four : Image
unfolding block
four = after_write block (codes "4") three

nothing_in_a_blank_block : held_entries 16 blank ≡ []
unfolding blank block entries_within
nothing_in_a_blank_block = refl

one_entry : held_entries 16 one ≡ entry 0 16 ∷ []
unfolding one blank block entries_within written_pages entry
one_entry = refl

oldest_first : held_entries 16 three ≡ entry 0 16 ∷ entry 16 16 ∷ entry 32 32 ∷ []
unfolding three two one blank block entries_within written_pages entry
oldest_first = refl

none_older_than_the_erase : held_entries 16 four ≡ entry 0 16 ∷ []
unfolding four three two one blank block entries_within written_pages entry
none_older_than_the_erase = refl

-- ---- pages in these healths

pages : List ℕ → List Health → Image
pages bytes health = record { bytes = bytes; health = health }

filled : List ℕ → List ℕ
filled words = replicate 8 0x41 ++ words

-- a torn page, and one whose length word reaches past the block's start, are passed over alone
torn_page_goes_alone :
    held_entries 16 (pages (filled (closing_words 16) ++ (0 ∷ replicate 15 255) ++ filled (closing_words 16) ++ replicate 16 255) (Fine ∷ Fine ∷ Fine ∷ Fine ∷ []))
    ≡ entry 0 16 ∷ entry 32 16 ∷ []
unfolding pages filled entry entries_within
torn_page_goes_alone = refl

length_past_the_start_goes_alone :
    held_entries 16 (pages (filled (closing_words 16) ++ filled (closing_words 48) ++ replicate 32 255) (Fine ∷ Fine ∷ Fine ∷ Fine ∷ []))
    ≡ entry 0 16 ∷ []
unfolding pages filled entry entries_within
length_past_the_start_goes_alone = refl

length_of_half_a_page_goes_alone :
    held_entries 16 (pages (filled (closing_words 16) ++ filled (closing_words 24) ++ replicate 32 255) (Fine ∷ Fine ∷ Fine ∷ Fine ∷ []))
    ≡ entry 0 16 ∷ []
unfolding pages filled entry entries_within
length_of_half_a_page_goes_alone = refl

length_of_zero_goes_alone :
    held_entries 16 (pages (filled (closing_words 16) ++ filled (closing_words 0) ++ replicate 32 255) (Fine ∷ Fine ∷ Fine ∷ Fine ∷ []))
    ≡ entry 0 16 ∷ []
unfolding pages filled entry entries_within
length_of_zero_goes_alone = refl

-- closing words inside an entry aren't looked at
closing_words_inside :
    held_entries 16 (pages (filled (closing_words 16) ++ filled (closing_words 32) ++ replicate 32 255) (Fine ∷ Fine ∷ Fine ∷ Fine ∷ []))
    ≡ entry 0 32 ∷ []
unfolding pages filled entry entries_within
closing_words_inside = refl

-- but they are, where another page of that entry is Lost
lost_page_frees_what_stands_before :
    held_entries 16 (pages (filled (closing_words 16) ++ filled (closing_words 32) ++ filled (closing_words 48) ++ replicate 16 255) (Fine ∷ Lost ∷ Fine ∷ Fine ∷ []))
    ≡ entry 0 16 ∷ []
unfolding pages filled entry entries_within
lost_page_frees_what_stands_before = refl

worn_pages_count :
    held_entries 16 (pages (filled (closing_words 16) ++ replicate 48 255) (Worn ∷ Worn ∷ Fine ∷ Fine ∷ []))
    ≡ entry 0 16 ∷ []
unfolding pages filled entry entries_within
worn_pages_count = refl

all_pages_lost :
    held_entries 16 (pages (filled (closing_words 16) ++ filled (closing_words 16) ++ replicate 32 255) (Lost ∷ Lost ∷ Lost ∷ Lost ∷ []))
    ≡ []
unfolding pages filled entries_within
all_pages_lost = refl

one_page : held_entries 16 (pages (filled (closing_words 16)) (Fine ∷ [])) ≡ entry 0 16 ∷ []
unfolding pages filled entry entries_within
one_page = refl

-- ---- a save of two pages that was cut in its first half, in pages of 32: the old entry stays

large : Block
large = record { region = record { at = 256; size = 256 }; page = 32 }

record_of_36 : List ℕ
record_of_36 = replicate 36 0x41

saved : Image
unfolding large record_of_36
saved = after_write large record_of_36 (blank_of large)

cut : Image
unfolding saved large record_of_36
cut = record {
  bytes = take 64 saved.bytes ++ take 32 (log_entry 32 record_of_36) ++ replicate 160 255;
  health = saved.health;
}

half_an_entry_is_none : held_entries 32 cut ≡ entry 0 64 ∷ []
unfolding cut saved large record_of_36 entries_within written_pages entry
half_an_entry_is_none = refl

-- ---- its text, of a layout without variables

two_entries : copy_text [] 1 (codes "a" ∷ codes "b" ∷ []) ≡ codes "copy 1 entries 2\nentry 1\nentry 2\n"
two_entries =
    let one : decimal 1 ≡ codes "1" = decimal_digit 1 (omega arith) in
    let two : decimal 2 ≡ codes "2" = decimal_digit 2 (omega arith) in
    rw one (rw two refl)

no_entry : copy_text [] 0 [] ≡ codes "copy 0 entries 0\n"
no_entry =
    let none : decimal 0 ≡ codes "0" = decimal_digit 0 (omega arith) in
    rw none refl
