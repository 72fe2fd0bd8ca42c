-- Bytes that are laid over others.
use Rattle.std.proofs.Common.{◌≡◌, ℕ, zero, suc, ◌+◌, ◌-◌, ◌≤◌, List, [], ◌∷◌, ◌++◌, length, take, drop, min, refl, sym, ap, ◌∙◌, arith, length-append, inl, inr, subst}
use Rattle.std.proofs.lemmas.Bool.{cases_lt}
use Rattle.std.proofs.lemmas.List.{drop-drop, length-take-le, take-append-le, take-take, take_all, take_at}
use Rattle.std.proofs.Math.Seq.{drop-nil, take-nil}
use Rattle.bb_raw.specs.Feeding.{KeepsFed, laid_over}

pub laid_is : (at n m : ℕ) (piece part : List ℕ) → n ≡ length part - at → m ≡ at + length piece →
    laid_over at piece part ≡ take at part ++ (take n piece ++ drop m part)
unfolding laid_over
laid_is zero n m piece [] e f =
    let none : n ≡ 0 = omega arith in
    sym (ap (λ k. take k piece ++ drop m []) none ∙ drop-nil m)
laid_is (suc at) n m piece [] e f =
    let none : n ≡ 0 = omega arith in
    sym (ap (λ k. take k piece ++ drop m []) none ∙ drop-nil m)
laid_is zero n m [] (x ∷ part) e f =
    let none : m ≡ 0 = omega arith in
    sym (ap (λ l. l ++ drop m (x ∷ part)) (take-nil n) ∙ ap (λ k. drop k (x ∷ part)) none)
laid_is zero zero m (byte ∷ piece) (x ∷ part) e f = absurd (omega arith)
laid_is zero (suc n) zero (byte ∷ piece) (x ∷ part) e f = absurd (omega arith)
laid_is zero (suc n) (suc m) (byte ∷ piece) (x ∷ part) e f =
    ap (λ l. byte ∷ l) (laid_is zero n m piece part (omega arith) (omega arith))
laid_is (suc at) n zero piece (x ∷ part) e f = absurd (omega arith)
laid_is (suc at) n (suc m) piece (x ∷ part) e f =
    ap (λ l. x ∷ l) (laid_is at n m piece part (omega arith) (omega arith))

-- where they begin after its end nothing of a part is laid over
pub laid_past : (at : ℕ) (piece part : List ℕ) → length part ≤ at → laid_over at piece part ≡ part
unfolding laid_over
laid_past at piece [] h = refl
laid_past zero piece (x ∷ part) h = absurd (omega arith)
laid_past (suc at) piece (x ∷ part) h = ap (λ l. x ∷ l) (laid_past at piece part (omega arith))

pub laid_len : (at : ℕ) (piece part : List ℕ) → length (laid_over at piece part) ≡ length part
unfolding laid_over
laid_len at piece [] = refl
laid_len zero [] (x ∷ part) = refl
laid_len zero (byte ∷ piece) (x ∷ part) = ap suc (laid_len zero piece part)
laid_len (suc at) piece (x ∷ part) = ap suc (laid_len at piece part)

laid_nothing : (at : ℕ) (part : List ℕ) → laid_over at [] part ≡ part
unfolding laid_over
laid_nothing at [] = refl
laid_nothing zero (x ∷ part) = refl
laid_nothing (suc at) (x ∷ part) = ap (λ l. x ∷ l) (laid_nothing at part)

-- over one list and then another
pub laid_append : (at i j : ℕ) (piece one two : List ℕ) →
    i ≡ at - length one → j ≡ length one - at →
    laid_over at piece (one ++ two) ≡ laid_over at piece one ++ laid_over i (drop j piece) two
unfolding laid_over
laid_append at i j piece [] two e f =
    let same : i ≡ at = omega arith in
    let none : j ≡ 0 = omega arith in
    sym (ap (λ n. laid_over n (drop j piece) two) same
    ∙ ap (λ n. laid_over at (drop n piece) two) none)
laid_append zero i j [] (x ∷ one) two e f =
    ap (λ l. x ∷ (one ++ l))
    (sym (laid_nothing i two) ∙ ap (λ l. laid_over i l two) (sym (drop-nil j)))
laid_append zero i zero (byte ∷ piece) (x ∷ one) two e f = absurd (omega arith)
laid_append zero i (suc j) (byte ∷ piece) (x ∷ one) two e f =
    ap (λ l. byte ∷ l) (laid_append zero i j piece one two (omega arith) (omega arith))
laid_append (suc at) i j piece (x ∷ one) two e f =
    ap (λ l. x ∷ l) (laid_append at i j piece one two (omega arith) (omega arith))

-- what is laid over bytes comes after the first of them
pub laid_take : (n at k : ℕ) (piece part : List ℕ) → k ≡ length part - at → n ≤ at + length piece →
    take n (laid_over at piece part) ≡ take n (take at part ++ take k piece)
unfolding laid_over
laid_take zero at k piece part e h = refl
laid_take (suc n) zero k piece [] e h =
    let none : k ≡ 0 = omega arith in sym (ap (λ j. take (suc n) (take j piece)) none)
laid_take (suc n) (suc at) k piece [] e h =
    let none : k ≡ 0 = omega arith in sym (ap (λ j. take (suc n) (take j piece)) none)
laid_take (suc n) zero k [] (x ∷ part) e h = absurd (omega arith)
laid_take (suc n) zero zero (byte ∷ piece) (x ∷ part) e h = absurd (omega arith)
laid_take (suc n) zero (suc k) (byte ∷ piece) (x ∷ part) e h =
    ap (λ l. byte ∷ l) (laid_take n zero k piece part (omega arith) (omega arith))
laid_take (suc n) (suc at) k piece (x ∷ part) e h =
    ap (λ l. x ∷ l) (laid_take n at k piece part (omega arith) (omega arith))

front_kept : (n j : ℕ) (fed piece : List ℕ) → n ≤ length fed + j →
    take n (fed ++ take j piece) ≡ take n (fed ++ piece)
front_kept zero j fed piece h = refl
front_kept (suc n) zero [] piece h = absurd (omega arith)
front_kept (suc n) (suc j) [] [] h = refl
front_kept (suc n) (suc j) [] (byte ∷ piece) h =
    ap (λ l. byte ∷ l) (front_kept n j [] piece (omega arith))
front_kept (suc n) j (x ∷ fed) piece h = ap (λ l. x ∷ l) (front_kept n j fed piece (omega arith))

-- the same of three lists, the first of which has 16 bytes
pub laid_parts : (at i j k l : ℕ) (piece header area code : List ℕ) → length header ≡ 16 →
    i ≡ at - 16 → j ≡ 16 - at → k ≡ at - (16 + length area) → l ≡ (16 + length area) - at →
    laid_over at piece (header ++ (area ++ code))
    ≡ laid_over at piece header
    ++ (laid_over i (drop j piece) area ++ laid_over k (drop l piece) code)
laid_parts at i j k l piece header area code whole ei ej ek el =
    let m : ℕ = length area - i in
    let behind : j + m ≡ l = omega arith in
    laid_append at i j piece header (area ++ code) (omega arith) (omega arith)
    ∙ ap (λ more. laid_over at piece header ++ more)
    (laid_append i k m (drop j piece) area code (omega arith) refl
    ∙ ap (λ more. laid_over i (drop j piece) area ++ laid_over k more code)
    (drop-drop m j piece ∙ ap (λ n. drop n piece) behind))

taken : (n count most : ℕ) (fed piece : List ℕ) → count ≡ min (length fed) most →
    n ≡ min (count + length piece) most →
    take n (take count fed ++ take (most - count) piece) ≡ take n (fed ++ piece)
taken n count most fed piece e f = elim (cases_lt most (length fed)) [
  | inl more ↦
      let whole = length-take-le count fed (omega arith) in
      take-append-le n (take count fed) (take (most - count) piece) (omega arith)
      ∙ take-take n count fed (omega arith)
      ∙ sym (take-append-le n fed piece (omega arith))
  | inr less ↦
      ap (λ l. take n (l ++ take (most - count) piece)) (take_all count fed (omega arith))
      ∙ front_kept n (most - count) fed piece (omega arith)
]

-- what comes next is laid over the parts after what came
pub fed_more : (kept fed piece : List ℕ) (count : ℕ) → KeepsFed kept count fed →
    KeepsFed (laid_over count piece kept) (min (count + length piece) (length kept)) (fed ++ piece)
fed_more kept fed piece count h =
    let n : ℕ = min (count + length piece) (length kept) in
    let is = h.counted in
    let len = laid_len count piece kept in
    let all = length-append fed piece in
    record {
      counted = omega arith;
      same =
          laid_take n count (length kept - count) piece kept refl (omega arith)
          ∙ ap (λ l. take n (l ++ take (length kept - count) piece)) h.same
          ∙ taken n count (length kept) fed piece is refl;
    }

-- the same, as the code lays it over each part
pub fed_in :
    (at count n : ℕ) (piece header area code header2 area2 code2 behind fed : List ℕ) →
    length header ≡ 16 → length code ≡ n →
    header2 ≡ laid_over (at - 0) (drop (0 - at) piece) header →
    area2 ≡ laid_over (at - 16) (drop (16 - at) piece) area →
    code2 ≡ laid_over (at - (16 + length area)) (drop ((16 + length area) - at) piece) code →
    count ≡ min (at + length piece) (16 + length area + n) →
    KeepsFed (header ++ (area ++ code)) at fed →
    KeepsFed (header2 ++ (area2 ++ take n (code2 ++ behind))) count (fed ++ piece)
fed_in at count n piece header area code header2 area2 code2 behind fed h c e f g counted fedded =
    let kept : List ℕ = header ++ (area ++ code) in
    let start : at - 0 ≡ at = omega arith in
    let all : 0 - at ≡ 0 = omega arith in
    let front : header2 ≡ laid_over at piece header =
    e ∙ ap (λ n. laid_over n (drop (0 - at) piece) header) start
    ∙ ap (λ n. laid_over at (drop n piece) header) all in
    let len : length code2 ≡ n = ap length g ∙ laid_len _ _ code ∙ c in
    let whole : count ≡ min (at + length piece) (length kept) =
    omega (arith, length-append header (area ++ code), length-append area code) in
    let parts = laid_parts at _ _ _ _ piece header area code h refl refl refl refl in
    let is : laid_over at piece kept ≡ header2 ++ (area2 ++ take n (code2 ++ behind)) =
    parts ∙ sym (ap (λ l. l ++ (area2 ++ take n (code2 ++ behind))) front
    ∙ ap (λ l. laid_over at piece header ++ (l ++ take n (code2 ++ behind))) f
    ∙ ap (λ l. laid_over at piece header
    ++ (laid_over (at - 16) (drop (16 - at) piece) area ++ l)) (take_at code2 behind n len ∙ g)) in
    subst (λ (l : List ℕ). KeepsFed l count (fed ++ piece)) is
    (subst (λ (k : ℕ). KeepsFed (laid_over at piece kept) k (fed ++ piece)) (sym whole)
    (fed_more kept fed piece at fedded))
