-- What came of a record grows, and what it is in the end.
use Rattle.std.proofs.Common.{◌≡◌, ℕ, zero, suc, ◌+◌, ◌-◌, ◌<◌, ◌==◌, Bool, true, false, ◌&&◌, List, [], ◌∷◌, ◌++◌, length, take, take_all, drop, replicate, min, Option, Some, None, option_and_then, refl, sym, ap, ◌∙◌, subst, append_assoc, arith, cond, length-append, length-drop, length-take, inl, inr}
use Rattle.std.proofs.lemmas.Bool.{and_parts, cases_lt, eq-eqb}
use Rattle.std.proofs.lemmas.Bool.Decides.{nat_tests}
use Rattle.std.proofs.lemmas.List.{drop-drop, length-replicate, nil_from_length, take_at}
use Rattle.std.proofs.Math.Seq.{take-nil}
use Rattle.bb_base.proofs.Checks.{passed_by_test}
use Rattle.bb_base.specs.Checked.{IsPassed}
use Rattle.bb_base.specs.Crc.{HasFed}
use Rattle.bb_base.specs.declared.format.Passed.{Passed}
use Rattle.bb_dtbrec.specs.declared.piece.Piece.{Piece}
use Rattle.bb_dtbrec.specs.declared.feed.DtbFeed.{DtbFeed}
use Rattle.bb_dtbrec.specs.Checking.{fields_agree, head_agrees, passes_by_fields}
use Rattle.bb_dtbrec.specs.Dtb.{Pattern, area_in, crc_text, dtb_form, dtb_length, dtb_passes, is_pattern, pieces_len, with_fields}
use Rattle.bb_dtbrec.specs.Feeding.{HasCome, ByteSlot, area_where, cleared, dtb_holds, read_slots, slots_from, slots_of, slots_within}
use Rattle.bb_dtbrec.specs.Laws.{fewer_fail, first_count, pieces_fit}
use Rattle.bb_dtbrec.proofs.Slots.{both_if, drop_both, fields_read, more_read, then_if}
use Rattle.bb_dtbrec.proofs.Walking.{slots_start}

-- ---- nothing came

pub started : (front : List ℕ) (pieces : List Piece) (size : ℕ) (feed : DtbFeed) →
    feed.len ≡ 80 + pieces_len pieces → feed.count ≡ 0 → feed.sound ≡ true →
    feed.cursor.piece ≡ 0 → feed.cursor.offset ≡ 0 → HasFed feed.crc (crc_text front []) →
    HasCome front pieces size feed [] (replicate size 0)
unfolding read_slots
started front pieces size feed long none sound first at crc = record {
  long = long;
  counted = none;
  head = refl;
  crc = crc;
  next =
      ap (λ i. slots_within (drop i pieces) feed.cursor.offset) first ∙ ap (slots_within pieces) at
      ∙ slots_start pieces;
  read = sym (ap (λ b. area_where b (replicate size 0)) sound);
}

-- ---- more comes

pub take_both : (n k : ℕ) (one other : List ℕ) → k ≡ n - length one →
    take n (one ++ other) ≡ take n one ++ take k other
take_both n k [] other e =
    let same : k ≡ n = omega arith in
    sym (ap (λ l. l ++ take k other) (take-nil {A = ℕ} n) ∙ ap (λ i. take i other) same)
take_both zero k (x ∷ one) other e =
    let none : k ≡ 0 = omega arith in sym (ap (λ i. take i other) none)
take_both (suc n) k (x ∷ one) other e = ap (λ l. x ∷ l) (take_both n k one other (omega arith))

-- what came of a record, and the next bytes of it
pub taken :
    (front : List ℕ) (pieces : List Piece) (size at : ℕ) (old new : DtbFeed)
    (bytes text first rest area area2 : List ℕ) (agrees : Bool) →
    at ≡ min old.count 80 → first ≡ take (80 - at) text → rest ≡ drop (80 - at) text →
    new.head ≡ take at old.head ++ (first ++ drop (at + length first) old.head) →
    ((fed : List ℕ) → HasFed old.crc fed → HasFed new.crc (fed ++ rest)) →
    read_slots (slots_from pieces old.cursor) rest area ≡ area_where agrees area2 →
    slots_from pieces new.cursor ≡ drop (length rest) (slots_from pieces old.cursor) →
    new.sound ≡ (old.sound && agrees) → new.count ≡ old.count + length text → new.len ≡ old.len →
    HasCome front pieces size old bytes area →
    HasCome front pieces size new (bytes ++ text) area2
taken front pieces size at old new bytes text first rest area area2 agrees here is_first is_rest head
    crc read next sound count len h =
    let counted = h.counted in
    let start : List ℕ = take 80 bytes in
    let body : List ℕ = drop 80 bytes in
    let slots : List ByteSlot = slots_of pieces in
    let start_len : length start ≡ min 80 (length bytes) = length-take 80 bytes in
    let place : at ≡ length start = omega arith in
    let tail : List ℕ = drop (at + length first) old.head in
    let heads : take 80 (bytes ++ text) ≡ start ++ first =
    take_both 80 (80 - at) bytes text (omega arith) ∙ ap (λ l. start ++ l) (sym is_first) in
    let bodies : drop 80 (bytes ++ text) ≡ body ++ rest =
    drop_both {A = ℕ} 80 (80 - at) bytes text (omega arith) ∙ ap (λ l. body ++ l) (sym is_rest) in
    let kept : new.head ≡ (start ++ first) ++ tail =
    head ∙ ap (λ n. take n old.head ++ (first ++ tail)) place
    ∙ ap (λ l. l ++ (first ++ tail)) h.head ∙ sym (append_assoc start first tail) in
    record {
      long = len ∙ h.long;
      counted = omega (arith, length-append bytes text);
      head =
          ap (λ l. take (length l) new.head) heads ∙ ap (take (length (start ++ first))) kept
          ∙ take_at (start ++ first) tail (length (start ++ first)) refl ∙ sym heads;
      crc =
          subst (HasFed new.crc)
          (append_assoc front ((0 ∷ 0 ∷ 0 ∷ 0 ∷ []) ++ body) rest
          ∙ ap (crc_text front) (sym bodies))
          (crc (crc_text front body) h.crc);
      next =
          next ∙ ap (drop (length rest)) h.next ∙ drop-drop (length rest) (length body) slots
          ∙ ap (λ n. drop n slots) (sym (ap length bodies ∙ length-append body rest));
      read =
          ap (λ l. read_slots slots l (replicate size 0)) bodies
          ∙ more_read slots body rest (replicate size 0)
          ∙ ap (option_and_then (read_slots (drop (length body) slots) rest)) h.read
          ∙ ap (λ s. option_and_then (read_slots s rest) (area_where old.sound area)) (sym h.next)
          ∙ then_if old.sound area (read_slots (slots_from pieces old.cursor) rest)
          ∙ ap (λ o. cond old.sound o None) read ∙ both_if old.sound agrees area2
          ∙ ap (λ b. area_where b area2) (sym sound);
    }

-- ---- the area is cleared before the first byte

some : (count : ℕ) → (suc count == 0) ≡ false
some count = grind (arith, nat_tests)

cleared_is : (count : ℕ) (area : List ℕ) → (count ≡ 0 → replicate (length area) 0 ≡ area) →
    cleared count area ≡ area
cleared_is zero area h = h refl
cleared_is (suc count) area h =
    ap (λ b. cond b (replicate (length area) 0) area) (some count)

read_nothing : (slots : List ByteSlot) (sound : Bool) (bytes zeros area : List ℕ) → bytes ≡ [] →
    read_slots slots (drop 80 bytes) zeros ≡ area_where sound area → zeros ≡ area
unfolding read_slots
read_nothing slots true bytes zeros area e h =
    let read : Some zeros ≡ Some area =
    sym (ap (λ l. read_slots slots (drop 80 l) zeros) e) ∙ h in cc
read_nothing slots false bytes zeros area e h =
    let read : Some zeros ≡ None =
    sym (ap (λ l. read_slots slots (drop 80 l) zeros) e) ∙ h in absurd cc

pub still : (front : List ℕ) (pieces : List Piece) (size : ℕ) (feed : DtbFeed)
    (bytes area : List ℕ) → length area ≡ size → HasCome front pieces size feed bytes area →
    HasCome front pieces size feed bytes (cleared feed.count area)
still front pieces size feed bytes area e h =
    subst (HasCome front pieces size feed bytes)
    (sym
    (cleared_is feed.count area
    (λ none.
    let nothing : bytes ≡ [] = nil_from_length bytes (sym h.counted ∙ none) in
    ap (λ n. replicate n 0) e
    ∙ read_nothing (slots_of pieces) feed.sound bytes (replicate size 0) area nothing h.read)))
    h

-- ---- the format's calls

pub begun : (front : List ℕ) (pieces : List Piece) (size total : ℕ) (feed : DtbFeed)
    (area : List ℕ) → length area ≡ size →
    HasCome front pieces size feed [] (replicate size 0) →
    HasCome front pieces size feed (take total []) (cleared feed.count area)
begun front pieces size total feed area e h =
    let none : take total [] ≡ [] = take-nil {A = ℕ} total in
    subst (λ (l : List ℕ). HasCome front pieces size feed l (cleared feed.count area)) (sym none)
    (subst (HasCome front pieces size feed [])
    (sym (ap (λ n. cleared n area) h.counted ∙ ap (λ n. replicate n 0) e)) h)

pub fed_more : (front : List ℕ) (pieces : List Piece) (size total k : ℕ) (old new : DtbFeed)
    (fed text area area2 : List ℕ) → length area2 ≡ size → total ≡ 80 + pieces_len pieces →
    k ≡ old.len - old.count →
    (HasCome front pieces size old (take total fed) area →
    HasCome front pieces size new (take total fed ++ take k text) area2) →
    HasCome front pieces size old (take total fed) area →
    HasCome front pieces size new (take total (fed ++ text)) (cleared new.count area2)
fed_more front pieces size total k old new fed text area area2 e is part step h =
    let counted = h.counted in
    let long = h.long in
    let len : length (take total fed) ≡ min total (length fed) = length-take total fed in
    subst (λ (l : List ℕ). HasCome front pieces size new l (cleared new.count area2))
    (sym (take_both total k fed text (omega arith)))
    (still front pieces size new (take total fed ++ take k text) area2 e (step h))

pub fed_on : (pattern : Pattern) (pieces : List Piece) (size : ℕ) (old new : DtbFeed)
    (fed text area area2 : List ℕ) → pieces ≡ pattern.pieces → size ≡ pattern.area_len →
    (HasCome pattern.front pieces size old (take (80 + pieces_len pieces) fed)
    (cleared old.count area) →
    HasCome pattern.front pieces size new (take (80 + pieces_len pieces) (fed ++ text))
    (cleared new.count area2)) →
    dtb_holds pattern old fed area → dtb_holds pattern new (fed ++ text) area2
fed_on pattern pieces size old new fed text area area2 e f step h =
    let by_pieces = subst
    (λ (ps : List Piece).
    HasCome pattern.front ps size old (take (80 + pieces_len ps) fed) (cleared old.count area) →
    HasCome pattern.front ps size new (take (80 + pieces_len ps) (fed ++ text))
    (cleared new.count area2)) e step in
    subst
    (λ (n : ℕ).
    HasCome pattern.front pattern.pieces n old (take (dtb_length pattern) fed)
    (cleared old.count area) →
    HasCome pattern.front pattern.pieces n new (take (dtb_length pattern) (fed ++ text))
    (cleared new.count area2)) f by_pieces h

-- ---- the end

differ : (a b : ℕ) → a < b → (a == b) ≡ false
differ a b h = grind (arith, nat_tests)

-- what is read is the same, and so is the area where all agrees
same_read : (a b : Bool) (one other : List ℕ) → area_where a one ≡ area_where b other →
    (a ≡ b) × (a ≡ true → one ≡ other)
same_read true true one other e = (refl, λ _. cc)
same_read true false one other e = absurd cc
same_read false true one other e = absurd cc
same_read false false one other e = (refl, λ h. absurd cc)

record IsEnd (pattern : Pattern) (feed : DtbFeed) (bytes area : List ℕ) (passes : Bool) : Type 0 where
  pub passed : dtb_passes pattern bytes ≡ cond passes (Some (area_in pattern bytes)) None
  pub kept : passes ≡ true → area ≡ area_in pattern bytes

too_few : (pattern : Pattern) (feed : DtbFeed) (bytes area : List ℕ) (passes head : Bool) →
    length bytes < dtb_length pattern →
    passes ≡ (((feed.count == feed.len) && head) && feed.sound) →
    HasCome pattern.front pattern.pieces pattern.area_len feed bytes (cleared feed.count area) →
    IsEnd pattern feed bytes area passes
too_few pattern feed bytes area passes head few is h =
    let counted = h.counted in
    let long = h.long in
    let fails : passes ≡ false =
    is ∙ ap (λ b. (b && head) && feed.sound) (differ feed.count feed.len (omega arith)) in
    record {
      passed =
          fewer_fail pattern bytes few
          ∙ sym (ap (λ b. cond b (Some (area_in pattern bytes)) None) fails);
      kept = λ yes. absurd cc;
    }

all_came : (pattern : Pattern) (feed : DtbFeed) (bytes area : List ℕ) (passes : Bool) →
    is_pattern pattern ≡ true → length feed.head ≡ 80 → length bytes ≡ dtb_length pattern →
    passes ≡ (((feed.count == feed.len) && head_agrees pattern.front (drop 80 bytes) feed.head)
    && feed.sound) →
    HasCome pattern.front pattern.pieces pattern.area_len feed bytes (cleared feed.count area) →
    IsEnd pattern feed bytes area passes
all_came pattern feed bytes area passes made whole all is h =
    let counted = h.counted in
    let long = h.long in
    let body : List ℕ = drop 80 bytes in
    let zeros : List ℕ = replicate pattern.area_len 0 in
    let size : length zeros ≡ pattern.area_len = length-replicate pattern.area_len 0 in
    let agrees : Bool = fields_agree pattern.pieces body in
    let head_len : length (take 80 bytes) ≡ 80 = omega (arith, length-take 80 bytes) in
    let head : feed.head ≡ take 80 bytes =
    sym (take_all (length (take 80 bytes)) feed.head (omega arith)) ∙ h.head in
    let read = same_read feed.sound agrees (cleared feed.count area) (with_fields pattern.pieces body zeros)
    (sym h.read
    ∙ fields_read pattern.pieces body zeros (pieces_fit pattern zeros made size)
    (omega (arith, length-drop 80 bytes))) in
    let found : passes ≡ (head_agrees pattern.front body (take 80 bytes) && agrees) =
    is
    ∙ ap (λ b. (b && head_agrees pattern.front body feed.head) && feed.sound)
    (eq-eqb feed.count feed.len (omega arith))
    ∙ ap (λ l. head_agrees pattern.front body l && feed.sound) head
    ∙ ap (λ b. head_agrees pattern.front body (take 80 bytes) && b) read.0 in
    record {
      passed =
          passes_by_fields pattern bytes made all
          ∙ sym (ap (λ b. cond b (Some (area_in pattern bytes)) None) found);
      kept = λ yes.
          sym (cleared_is feed.count area (λ none. absurd (omega arith)))
          ∙ read.1 (and_parts _ _ (sym is ∙ yes)).1;
    }

pub dtb_ends : (pattern : Pattern) (feed : DtbFeed) (fed area : List ℕ) (passes : Bool)
    (answer : Option Passed) → is_pattern pattern ≡ true → length feed.head ≡ 80 →
    ((pieces : List ℕ) → HasFed feed.crc (crc_text pattern.front pieces) → passes
    ≡ (((feed.count == feed.len) && head_agrees pattern.front pieces feed.head) && feed.sound)) →
    answer ≡ cond passes (Some (record { len = length area; old = false })) None →
    dtb_holds pattern feed fed area →
    IsPassed (dtb_form pattern) fed area answer
dtb_ends pattern feed fed area passes answer made whole tests e h =
    let total : ℕ = dtb_length pattern in
    let bytes : List ℕ = take total fed in
    let counted = h.counted in
    let is = tests (drop 80 bytes) h.crc in
    let most : length bytes ≡ min total (length fed) = length-take total fed in
    let end : IsEnd pattern feed bytes area passes =
    elim (cases_lt (length bytes) total) [
      | inl few ↦ too_few pattern feed bytes area passes _ few is h
      | inr enough ↦ all_came pattern feed bytes area passes made whole (omega arith) is h
    ] in
    passed_by_test passes (dtb_form pattern) fed area (area_in pattern bytes) answer
    (sym (first_count pattern fed) ∙ end.passed) end.kept e

-- the same by the front that the code has
pub whole_by : (pattern : Pattern) (feed : DtbFeed) (front : List ℕ) (passes : Bool) →
    pattern.front ≡ front →
    ((pieces : List ℕ) → HasFed feed.crc (crc_text front pieces) → passes
    ≡ (((feed.count == feed.len) && head_agrees front pieces feed.head) && feed.sound)) →
    (pieces : List ℕ) → HasFed feed.crc (crc_text pattern.front pieces) → passes
    ≡ (((feed.count == feed.len) && head_agrees pattern.front pieces feed.head) && feed.sound)
whole_by pattern feed front passes e tests =
    subst
    (λ (l : List ℕ). (pieces : List ℕ) → HasFed feed.crc (crc_text l pieces) → passes
    ≡ (((feed.count == feed.len) && head_agrees l pieces feed.head) && feed.sound))
    (sym e) tests
