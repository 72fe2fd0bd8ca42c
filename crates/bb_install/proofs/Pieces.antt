-- A text that is cut into pieces of a length.
use Rattle.std.proofs.Common.{◌≡◌, ℕ, ◌+◌, ◌-◌, ◌*◌, ◌%◌, ◌<◌, ◌≤◌, ◌∙◌, min, List, ◌++◌, length, take, drop, ap, sym, arith, inl, inr, take-add, length-drop}
use Rattle.std.proofs.Math.Nat.{add-mul, mul-le-mul_right, mul-mod_left}
use Rattle.std.proofs.lemmas.Grind.{div_ceil_times}
use Rattle.std.proofs.lemmas.Bool.{cases_lt}
use Rattle.std.proofs.lemmas.List.{length-take, take_min}
use Rattle.std.specs.Int.{div_ceil}
use Rattle.bb_flash.proofs.Geometries.{multiple_twice}
use Rattle.bb_bucket.proofs.Pages.{mod_moved}

-- the first so many pieces end where the next begins
pub next_piece : (k len : ℕ) → (k + 1) * len ≡ k * len + len
next_piece k len = omega (arith, add-mul k 1 len)

-- each piece begins before the end
pub piece_begins : (n len k : ℕ) → 0 < len → k < div_ceil n len → k * len < n
piece_begins n len k some inside =
    let times = div_ceil_times n len some in
    let order = mul-le-mul_right {m = k + 1} {n = div_ceil n len} len (omega arith) in
    omega (arith, next_piece k len, times.1)

-- and all of them reach it
pub pieces_end : (n len : ℕ) → 0 < len → n ≤ div_ceil n len * len
pieces_end n len some = (div_ceil_times n len some).0

-- a place of whole pages
pub times_whole : (k len page : ℕ) → len % page ≡ 0 → k * len % page ≡ 0
times_whole k len page whole = multiple_twice (k * len) len page (mul-mod_left k len) whole

-- the bytes of a piece
pub piece_is : (bytes : List ℕ) (first len : ℕ) → take (min (length bytes) (first + len) - first) (drop first bytes) ≡ take len (drop first bytes)
piece_is bytes first len =
    let rest = drop first bytes in
    let size = length-drop first bytes in
    let few : min (length bytes) (first + len) - first ≡ min len (length rest) = omega arith in
    ap (λ n. take n rest) few ∙ take_min len rest

-- the pieces so far, and one more
pub pieces_more : (bytes : List ℕ) (k len : ℕ) → take (k * len) bytes ++ take len (drop (k * len) bytes) ≡ take ((k + 1) * len) bytes
pieces_more bytes k len = sym (take-add (k * len) len bytes) ∙ ap (λ n. take n bytes) (sym (next_piece k len))

-- ---- whole pages

rest_whole : (page all first : ℕ) → all % page ≡ 0 → first % page ≡ 0 → first ≤ all → (all - first) % page ≡ 0
rest_whole page all first every whole order =
    let sum : first + (all - first) ≡ all = omega arith in
    sym (mod_moved page first (all - first) whole) ∙ ap (λ n. n % page) sum ∙ every

-- each piece of whole pages is made of them
pub piece_whole : (bytes : List ℕ) (first len page : ℕ) → len % page ≡ 0 → length bytes % page ≡ 0 → first % page ≡ 0 → first ≤ length bytes → length (take len (drop first bytes)) % page ≡ 0
piece_whole bytes first len page paged every whole order =
    let size : length (take len (drop first bytes)) ≡ min len (length bytes - first) = length-take len (drop first bytes) ∙ ap (min len) (length-drop first bytes) in
    ap (λ n. n % page) size
    ∙ elim (cases_lt len (length bytes - first)) [
      | inl less ↦ ap (λ n. n % page) (let all : min len (length bytes - first) ≡ len = omega arith in all) ∙ paged
      | inr more ↦ ap (λ n. n % page) (let all : min len (length bytes - first) ≡ length bytes - first = omega arith in all) ∙ rest_whole page (length bytes) first every whole order
    ]
