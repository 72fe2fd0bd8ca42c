-- This record is a format.
use Rattle.std.proofs.Common.{◌≡◌, ℕ, ◌<◌, ◌≤◌, Bool, true, false, ◌&&◌, List, ◌++◌, length, take, drop, replicate, Some, None, refl, sym, ap, ◌∙◌, append_assoc, arith, cond, length-append, take_all, length-drop, inl, inr}
use Rattle.std.specs.Prelude.{nat_eq}
use Rattle.std.specs.Int.{w32, to_be_bytes}
use Rattle.std.specs.List.{starts_with}
use Rattle.std.specs.Str.{bytes_eq}
use Rattle.std.proofs.lemmas.Bool.{and_from, and_parts, cases_lt, eq-eqb, eqb-true, leb-true}
use Rattle.std.proofs.lemmas.List.{drop-append-le, drop_at, length-replicate, length-take-le, take-append-drop, take-take, take_at}
use Rattle.std.proofs.lemmas.Slice.Eq.{bytes_eq-Decides}
use Rattle.bb_base.specs.Form.{IsForm}
use Rattle.bb_dtbrec.specs.Dtb.{Pattern, are_pieces, area_in, area_of_fields, dtb_fits, dtb_form, dtb_length, dtb_passes, dtb_text, is_pattern, pieces_len, pieces_text, record_crc}
use Rattle.bb_dtbrec.specs.Pieces.{fields_again, fields_first, length_pieces_text, length_with_fields}

-- ---- patterns

pub record IsSoundPattern (pattern : Pattern) : Type 0 where
  pub front : length pattern.front ≡ 76
  pub area : pattern.area_len ≤ 65535
  pub small : dtb_length pattern ≤ 0xffffffff
  pub pieces : are_pieces pattern.pieces pattern.area_len ≡ true

pub sound : (pattern : Pattern) → is_pattern pattern ≡ true → IsSoundPattern pattern
sound pattern h =
    let parts = and_parts _ _ h in
    record {
      front = eqb-true _ _ (and_parts _ _ parts.0).0;
      area = leb-true _ _ (and_parts _ _ parts.0).1;
      small = leb-true _ _ (and_parts _ _ parts.1).0;
      pieces = (and_parts _ _ parts.1).1;
    }

pub record IsFit (pattern : Pattern) (area : List ℕ) : Type 0 where
  pub made : is_pattern pattern ≡ true
  pub whole : length area ≡ pattern.area_len
  pub again : area_of_fields pattern (pieces_text pattern.pieces area) ≡ area

pub same_bytes : (bytes : List ℕ) → bytes_eq bytes bytes ≡ true
same_bytes bytes = (bytes_eq-Decides bytes bytes).1 refl

pub fit : (pattern : Pattern) (area : List ℕ) → dtb_fits pattern area ≡ true → IsFit pattern area
fit pattern area h =
    let parts = and_parts _ _ h in
    record {
      made = parts.0;
      whole = eqb-true _ _ (and_parts _ _ parts.1).0;
      again = (bytes_eq-Decides _ _).0 (and_parts _ _ parts.1).1;
    }

pub pieces_fit : (pattern : Pattern) (area : List ℕ) → is_pattern pattern ≡ true →
    length area ≡ pattern.area_len → are_pieces pattern.pieces (length area) ≡ true
pieces_fit pattern area h e = ap (are_pieces pattern.pieces) e ∙ (sound pattern h).pieces

pub pieces_whole : (pattern : Pattern) (area : List ℕ) → is_pattern pattern ≡ true →
    length area ≡ pattern.area_len →
    length (pieces_text pattern.pieces area) ≡ pieces_len pattern.pieces
pieces_whole pattern area h e = length_pieces_text pattern.pieces area (pieces_fit pattern area h e)

text_whole : (pattern : Pattern) (area : List ℕ) → dtb_fits pattern area ≡ true →
    length (dtb_text pattern area) ≡ dtb_length pattern
text_whole pattern area h =
    let known = fit pattern area h in
    let pieces : List ℕ = pieces_text pattern.pieces area in
    let crc : List ℕ = to_be_bytes w32 (record_crc pattern.front pieces) in
    let four : length crc ≡ 4 = refl in
    let whole : length pieces ≡ pieces_len pattern.pieces =
    pieces_whole pattern area known.made known.whole in
    let front : length pattern.front ≡ 76 = (sound pattern known.made).front in
    omega (arith, length-append pattern.front (crc ++ pieces), length-append crc pieces)

-- the area that the fields of enough bytes stand for fits
pub read_whole : (pattern : Pattern) (text : List ℕ) → is_pattern pattern ≡ true →
    pieces_len pattern.pieces ≤ length text →
    length (area_of_fields pattern text) ≡ pattern.area_len
read_whole pattern text h enough =
    length_with_fields pattern.pieces text (replicate pattern.area_len 0)
    (pieces_fit pattern (replicate pattern.area_len 0) h (length-replicate pattern.area_len 0))
    enough
    ∙ length-replicate pattern.area_len 0

pub read_fits : (pattern : Pattern) (text : List ℕ) → is_pattern pattern ≡ true →
    pieces_len pattern.pieces ≤ length text → dtb_fits pattern (area_of_fields pattern text) ≡ true
read_fits pattern text h enough =
    let area : List ℕ = area_of_fields pattern text in
    and_from _ _ h
    (and_from _ _ (eq-eqb _ _ (read_whole pattern text h enough))
    (ap (λ l. bytes_eq l area)
    (fields_again pattern.pieces text (replicate pattern.area_len 0)
    (pieces_fit pattern (replicate pattern.area_len 0) h (length-replicate pattern.area_len 0))
    enough)
    ∙ same_bytes area))

-- ---- the laws

text_read : (pattern : Pattern) (area rest : List ℕ) → dtb_fits pattern area ≡ true →
    area_in pattern (dtb_text pattern area ++ rest) ≡ area
text_read pattern area rest h =
    let known = fit pattern area h in
    let pieces : List ℕ = pieces_text pattern.pieces area in
    let crc : List ℕ = to_be_bytes w32 (record_crc pattern.front pieces) in
    let head : List ℕ = pattern.front ++ crc in
    let four : length crc ≡ 4 = refl in
    let front : length pattern.front ≡ 76 = (sound pattern known.made).front in
    let whole : length head ≡ 80 = omega (arith, length-append pattern.front crc) in
    let split : dtb_text pattern area ++ rest ≡ head ++ (pieces ++ rest) =
    ap (λ l. l ++ rest) (sym (append_assoc pattern.front crc pieces))
    ∙ append_assoc head pieces rest
    in
    ap (area_in pattern) split
    ∙ ap (area_of_fields pattern) (drop_at head (pieces ++ rest) 80 whole)
    ∙ fields_first pattern.pieces pieces rest (replicate pattern.area_len 0)
    (omega (arith, pieces_whole pattern area known.made known.whole))
    ∙ known.again

text_begins : (text rest : List ℕ) → starts_with nat_eq (text ++ rest) text ≡ true
text_begins text rest =
    ap (bytes_eq text) (take_at text rest (length text) refl) ∙ same_bytes text

text_passes : (pattern : Pattern) (area rest : List ℕ) → dtb_fits pattern area ≡ true →
    dtb_passes pattern (dtb_text pattern area ++ rest) ≡ Some area
text_passes pattern area rest h =
    let all : List ℕ = dtb_text pattern area ++ rest in
    ap
    (λ a. cond (dtb_fits pattern a && starts_with nat_eq all (dtb_text pattern a)) (Some a) None)
    (text_read pattern area rest h)
    ∙ ap (λ b. cond b (Some area) None)
    (and_from _ _ h (text_begins (dtb_text pattern area) rest))

-- a choice that gave something was made so
some_of_cond : (b : Bool) (x y : List ℕ) → cond b (Some x) None ≡ Some y → (b ≡ true) × (x ≡ y)
some_of_cond true x y e = (refl, cc)
some_of_cond false x y e = absurd cc

passed_fits : (pattern : Pattern) (bytes area : List ℕ) → dtb_passes pattern bytes ≡ Some area →
    dtb_fits pattern area ≡ true
passed_fits pattern bytes area e =
    let choice = some_of_cond _ (area_in pattern bytes) area e in
    ap (dtb_fits pattern) (sym choice.1) ∙ (and_parts _ _ choice.0).0

none_unless : (b : Bool) (x : List ℕ) → (b ≡ true → ⊥) → cond b (Some x) None ≡ None
none_unless true x h = absurd (h refl)
none_unless false x h = refl

too_long : (text bytes : List ℕ) → length bytes < length text →
    starts_with nat_eq bytes text ≡ true → ⊥
too_long text bytes few h =
    let same : text ≡ take (length text) bytes = (bytes_eq-Decides _ _).0 h in
    let all : take (length text) bytes ≡ bytes = take_all (length text) bytes (omega arith) in
    let equal : length text ≡ length bytes = ap length (same ∙ all) in
    omega arith

pub fewer_fail : (pattern : Pattern) (bytes : List ℕ) → length bytes < dtb_length pattern →
    dtb_passes pattern bytes ≡ None
fewer_fail pattern bytes few =
    none_unless _ (area_in pattern bytes)
    (λ h. let parts = and_parts _ _ h in
    let whole : length (dtb_text pattern (area_in pattern bytes)) ≡ dtb_length pattern =
    text_whole pattern (area_in pattern bytes) parts.0 in
    too_long (dtb_text pattern (area_in pattern bytes)) bytes (omega arith) parts.1)

fields_within : (pattern : Pattern) (bytes : List ℕ) → dtb_length pattern ≤ length bytes →
    area_in pattern (take (dtb_length pattern) bytes) ≡ area_in pattern bytes
fields_within pattern bytes enough =
    let m : ℕ = dtb_length pattern in
    let kept : List ℕ = take m bytes in
    let whole : length kept ≡ m = length-take-le m bytes enough in
    sym
    (ap (area_in pattern) (sym (take-append-drop m bytes))
    ∙ ap (area_of_fields pattern) (drop-append-le 80 kept (drop m bytes) (omega arith))
    ∙ fields_first pattern.pieces (drop 80 kept) (drop m bytes) (replicate pattern.area_len 0)
    (omega (arith, length-drop 80 kept)))

pub enough_fields : (pattern : Pattern) (bytes : List ℕ) → dtb_length pattern ≤ length bytes →
    pieces_len pattern.pieces ≤ length (drop 80 bytes)
enough_fields pattern bytes enough = omega (arith, length-drop 80 bytes)

begins_within : (pattern : Pattern) (bytes : List ℕ) → is_pattern pattern ≡ true →
    dtb_length pattern ≤ length bytes →
    starts_with nat_eq (take (dtb_length pattern) bytes) (dtb_text pattern (area_in pattern bytes))
    ≡ starts_with nat_eq bytes (dtb_text pattern (area_in pattern bytes))
begins_within pattern bytes h enough =
    let text : List ℕ = dtb_text pattern (area_in pattern bytes) in
    let whole : length text ≡ dtb_length pattern =
    text_whole pattern (area_in pattern bytes)
    (read_fits pattern (drop 80 bytes) h (enough_fields pattern bytes enough)) in
    ap (bytes_eq text) (take-take (length text) (dtb_length pattern) bytes (omega arith))

no_pattern : (pattern : Pattern) (bytes : List ℕ) → is_pattern pattern ≡ false →
    dtb_passes pattern bytes ≡ None
no_pattern pattern bytes h =
    none_unless _ (area_in pattern bytes)
    (λ e. let known = fit pattern (area_in pattern bytes) (and_parts _ _ e).0 in
    let yes : is_pattern pattern ≡ true = known.made in absurd cc)

count_of_pattern : (pattern : Pattern) (bytes : List ℕ) → dtb_length pattern ≤ length bytes →
    (b : Bool) → is_pattern pattern ≡ b →
    dtb_passes pattern (take (dtb_length pattern) bytes) ≡ dtb_passes pattern bytes
count_of_pattern pattern bytes enough true h =
    let kept : List ℕ = take (dtb_length pattern) bytes in
    let area : List ℕ = area_in pattern bytes in
    ap
    (λ a. cond (dtb_fits pattern a && starts_with nat_eq kept (dtb_text pattern a)) (Some a) None)
    (fields_within pattern bytes enough)
    ∙ ap (λ b. cond (dtb_fits pattern area && b) (Some area) None)
    (begins_within pattern bytes h enough)
count_of_pattern pattern bytes enough false h =
    no_pattern pattern (take (dtb_length pattern) bytes) h ∙ sym (no_pattern pattern bytes h)

pub first_count : (pattern : Pattern) (bytes : List ℕ) →
    dtb_passes pattern (take (dtb_length pattern) bytes) ≡ dtb_passes pattern bytes
first_count pattern bytes = elim (cases_lt (length bytes) (dtb_length pattern)) [
  | inl few ↦ ap (dtb_passes pattern) (take_all (dtb_length pattern) bytes (omega arith))
  | inr enough ↦ count_of_pattern pattern bytes enough (is_pattern pattern) refl
]

passed_whole : (pattern : Pattern) (bytes area : List ℕ) → dtb_passes pattern bytes ≡ Some area →
    dtb_length pattern ≤ length bytes
passed_whole pattern bytes area e = elim (cases_lt (length bytes) (dtb_length pattern)) [
  | inl few ↦ let none = fewer_fail pattern bytes few in absurd cc
  | inr enough ↦ enough
]

pub dtb_laws : (pattern : Pattern) → IsForm (dtb_form pattern)
dtb_laws pattern = record {
  most = λ area fits. let same = (fit pattern area fits).whole in omega arith;
  limit = λ area fits.
      let known = fit pattern area fits in
      let same = known.whole in
      let small = (sound pattern known.made).area in
      omega arith;
  whole = text_whole pattern;
  text_passes = text_passes pattern;
  text_fresh = λ area rest fits. refl;
  passed_fits = passed_fits pattern;
  passed_whole = passed_whole pattern;
  first_count = first_count pattern;
  first_aged = λ bytes. refl;
}
