-- What is kept of a record that was found is of the candidate, and gives bytes of it.
use Rattle.std.proofs.Common.{◌≡◌, ◌≢◌, ℕ, ◌+◌, ◌-◌, ◌<◌, ◌≤◌, Bool, true, false, not, List, ◌++◌, length, take, drop, Option, Some, None, Result, Ok, Err, OnOk, IfSome, IsTrue, refl, sym, ap, ◌∙◌, arith, cond, option_map, subst, length-drop}
use Rattle.std.proofs.lemmas.Bool.{and_from, and_parts, eq-eqb, eqb-true, leb-true}
use Rattle.std.proofs.lemmas.List.{drop-drop, drop-take, length-take-le, take-take, take_all, take_at}
use Rattle.std.proofs.lemmas.Slice.Eq.{bytes_eq-Decides}
use Rattle.bb_flash.specs.declared.health.Health.{Health}
use Rattle.bb_flash.specs.declared.health.Health.TheVariants.{Fine, Worn, Lost}
use Rattle.bb_flash.specs.Image.{Image, health_of}
use Rattle.bb_bucket.specs.declared.bucket.Found.{Found}
use Rattle.bb_bucket.specs.declared.seen.Seen.{Seen}
use Rattle.bb_bucket.specs.Calls.{HasFound, IsFoundAs, IsFoundOf, IsPieceOf}
use Rattle.bb_bucket.specs.Front.{front_candidate, header_len_of, is_lost, record_health}
use Rattle.bb_bucket.specs.Seen.{IsReadable, IsSeenIn, Sight, is_sight_of, sight_in, sight_len}
use Rattle.bb_bucket.proofs.Healths.{alive_both, health_joined}

pub on_ok : {T E : Type 0} (r : Result T E) (P Q : Type 0) → (P → Q) → OnOk r P → OnOk r Q
on_ok (Ok x) P Q weaker p = weaker p
on_ok (Err e) P Q weaker p = tt

-- ---- bytes of a part

-- bytes inside the first bytes of a list
within_first : (from n len : ℕ) (l : List ℕ) → from + n ≤ len →
    take n (drop from (take len l)) ≡ take n (drop from l)
within_first from n len l h =
    let split : len ≡ from + (len - from) = omega arith in
    ap (λ k. take n (drop from (take k l))) split
    ∙ ap (take n) (drop-take from (len - from) l)
    ∙ take-take n (len - from) (drop from l) (omega arith)

-- the same of those from a place on
pub within_part : (at from n len : ℕ) (l : List ℕ) → from + n ≤ len →
    take n (drop from (take len (drop at l))) ≡ take n (drop (at + from) l)
within_part at from n len l h =
    within_first from n len (drop at l) h ∙ ap (take n) (drop-drop from at l)

-- bytes of the piece that is kept
pub copied :
    (at from n : ℕ) (memory bytes out : List ℕ) (seen : Seen) →
    seen.from ≤ from → from + n ≤ seen.from + seen.count →
    take seen.count memory ≡ take seen.count (drop (at + seen.from) bytes) →
    out ≡ take n (drop (from - seen.from) memory) →
    out ≡ take n (drop (at + from) bytes)
copied at from n memory bytes out seen low high piece e =
    let skip : ℕ = from - seen.from in
    let place : at + seen.from + skip ≡ at + from = omega arith in
    e ∙ sym (within_first skip n seen.count memory (omega arith))
    ∙ ap (λ l. take n (drop skip l)) piece
    ∙ within_part (at + seen.from) skip n seen.count bytes (omega arith)
    ∙ ap (λ k. take n (drop k bytes)) place

-- none of the pages of a record is Lost, so none of a part of it
pub alive_within :
    (page : ℕ) (region : Image) (at from n len : ℕ) → 0 < page → from + n ≤ len →
    health_of page region at len ≢ Lost → health_of page region (at + from) n ≢ Lost
alive_within page region at from n len some inside lives =
    let rest : ℕ = len - (from + n) in
    let split : len ≡ from + (n + rest) = omega arith in
    let whole = ap (health_of page region at) split ∙ health_joined page region at from (n + rest) some in
    let behind = (alive_both _ _ (λ lost. lives (whole ∙ lost))).1 in
    (alive_both _ _ (λ lost. behind (health_joined page region (at + from) n rest some ∙ lost))).0

-- ---- what is kept

pub sight_seen :
    (candidate : Option (List ℕ)) (bytes memory : List ℕ) (seen : Seen) →
    candidate ≡ Some bytes → seen.len ≡ length bytes → seen.count ≤ length memory →
    take seen.count memory ≡ take seen.count (drop seen.from bytes) →
    IsTrue (is_sight_of (sight_in memory (Some seen)) candidate)
sight_seen candidate bytes memory seen is len held same =
    let piece : List ℕ = take seen.count memory in
    let long : length piece ≡ seen.count = length-take-le seen.count memory held in
    subst (λ (c : Option (List ℕ)). IsTrue (is_sight_of (sight_in memory (Some seen)) c)) (sym is)
    (and_from _ _ (eq-eqb _ _ len)
    ((bytes_eq-Decides piece (take (length piece) (drop seen.from bytes))).1
    (same ∙ ap (λ n. take n (drop seen.from bytes)) (sym long))))

-- what is kept says so
pub record IsTold (bytes memory : List ℕ) (seen : Seen) : Type 0 where
  pub len : seen.len ≡ length bytes
  pub piece : take seen.count memory ≡ take seen.count (drop seen.from bytes)

pub sight_told :
    (candidate : Option (List ℕ)) (bytes memory : List ℕ) (seen : Seen) →
    candidate ≡ Some bytes → seen.count ≤ length memory →
    IsTrue (is_sight_of (sight_in memory (Some seen)) candidate) → IsTold bytes memory seen
sight_told candidate bytes memory seen is held h =
    let piece : List ℕ = take seen.count memory in
    let long : length piece ≡ seen.count = length-take-le seen.count memory held in
    let both = and_parts _ _
    (subst (λ (c : Option (List ℕ)). IsTrue (is_sight_of (sight_in memory (Some seen)) c)) is h) in
    record {
      len = eqb-true _ _ both.0;
      piece =
          (bytes_eq-Decides piece (take (length piece) (drop seen.from bytes))).0 both.1
          ∙ ap (λ n. take n (drop seen.from bytes)) long;
    }

-- its length is that of the candidate
pub has_len :
    (sight : Option Sight) (candidate : Option (List ℕ)) →
    IsTrue (is_sight_of sight candidate) → HasFound (sight_len sight) candidate
has_len None candidate h = tt
has_len (Some sight) None h = absurd cc
has_len (Some sight) (Some bytes) h =
    ap (λ n. Some n) (sym (eqb-true _ _ (and_parts _ _ h).0))

pub len_in : (memory : List ℕ) (seen : Option Seen) →
    sight_len (sight_in memory seen) ≡ option_map (λ s. s.len) seen
len_in memory None = refl
len_in memory (Some seen) = refl

pub fits_of :
    (found : Option ℕ) (seen : Option Seen) (at most room : ℕ) →
    found ≡ option_map (λ s. s.len) seen → IfSome seen (IsSeenIn at most room) →
    IfSome found (λ len. len ≤ most)
fits_of None seen at most room e h = tt
fits_of (Some len) None at most room e h = absurd cc
fits_of (Some len) (Some seen) at most room e h =
    subst (λ (n : ℕ). n ≤ most) (sym (let same : len ≡ seen.len = cc in same)) h.fits

-- something is found where something is kept
pub some_seen :
    (candidate : Option (List ℕ)) (memory : List ℕ) (seen : Seen) →
    IsTrue (is_sight_of (sight_in memory (Some seen)) candidate) →
    (bytes : List ℕ) × (candidate ≡ Some bytes)
some_seen None memory seen h = absurd cc
some_seen (Some bytes) memory seen h = (bytes, refl)

-- a record that was found, and then read from its first byte on
pub found_read :
    (candidate : Option (List ℕ)) (worn : Bool) (found : Found) (len : ℕ) (piece others : List ℕ) →
    IsFoundOf candidate worn found → found.len ≡ Some len → length piece ≡ len →
    IsPieceOf candidate 0 piece → IsFoundAs candidate worn (piece ++ others) found
found_read None worn found len piece others h e whole is = absurd (cc (h.len))
found_read (Some bytes) worn found len piece others h e whole is =
    let long : length bytes ≡ len = cc (h.len) in
    let same : piece ≡ bytes = is bytes refl ∙ take_all (length piece) bytes (omega arith) in
    record {
      len = h.len;
      bytes =
          ap (option_map (λ n. take n (piece ++ others))) e
          ∙ ap (λ l. Some l) (take_at piece others len whole ∙ same);
      worn = h.worn;
    }

-- ---- of the record after a front

some_of_cond : (b : Bool) (x y : List ℕ) → cond b (Some x) None ≡ Some y → (b ≡ true) × (x ≡ y)
some_of_cond true x y e = (refl, cc)
some_of_cond false x y e = absurd cc

kept_alive : (health : Health) → not (is_lost health) ≡ true → health ≢ Lost
kept_alive Fine h = λ e. cc
kept_alive Worn h = λ e. cc
kept_alive Lost h = λ e. cc

-- what stands after a front as its record
record IsAfterFront (page : ℕ) (region : Image) (bytes : List ℕ) : Type 0 where
  pub alive : health_of page region 8 (length bytes) ≢ Lost
  pub same : bytes ≡ take (length bytes) (drop 8 region.bytes)

after_front :
    (page : ℕ) (region : Image) (bytes : List ℕ) →
    front_candidate page region ≡ Some bytes → IsAfterFront page region bytes
after_front page region bytes e =
    let front : List ℕ = take 8 region.bytes in
    let len : ℕ = header_len_of front in
    let choice = some_of_cond _ (take len (drop 8 region.bytes)) bytes e in
    let tests = and_parts _ _ choice.0 in
    let fits : 8 + len ≤ length region.bytes =
    leb-true _ _ (and_parts _ _ (and_parts _ _ tests.0).1).1 in
    let long : length bytes ≡ len =
    ap length (sym choice.1)
    ∙ length-take-le len (drop 8 region.bytes) (omega (arith, length-drop 8 region.bytes)) in
    record {
      alive = λ lost.
          kept_alive (record_health page region) tests.1
          (ap (health_of page region 8) (sym long) ∙ lost);
      same = sym choice.1 ∙ ap (λ n. take n (drop 8 region.bytes)) (sym long);
    }

pub front_readable :
    (page most : ℕ) (region : Image) (memory : List ℕ) (seen : Seen) →
    IsSeenIn 8 most (length memory) seen →
    IsTrue (is_sight_of (sight_in memory (Some seen)) (front_candidate page region)) →
    IsReadable page region memory seen
front_readable page most region memory seen inside h =
    let some = some_seen (front_candidate page region) memory seen h in
    let told = sight_told (front_candidate page region) some.0 memory seen some.1 inside.held h in
    let after = after_front page region some.0 some.1 in
    record {
      alive = λ lost.
          after.alive
          (ap (λ n. health_of page region n (length some.0)) (sym inside.placed)
          ∙ ap (health_of page region seen.at) (sym told.len) ∙ lost);
      piece =
          told.piece ∙ ap (λ l. take seen.count (drop seen.from l)) after.same
          ∙ within_part 8 seen.from seen.count (length some.0) region.bytes
          (omega (arith, inside.inside, told.len))
          ∙ ap (λ n. take seen.count (drop (n + seen.from) region.bytes)) (sym inside.placed);
    }

pub front_piece :
    (page most : ℕ) (region : Image) (memory out : List ℕ) (seen : Seen) (from : ℕ) →
    IsSeenIn 8 most (length memory) seen →
    IsTrue (is_sight_of (sight_in memory (Some seen)) (front_candidate page region)) →
    from + length out ≤ seen.len →
    out ≡ take (length out) (drop (seen.at + from) region.bytes) →
    IsPieceOf (front_candidate page region) from out
front_piece page most region memory out seen from inside h reaches e = λ bytes is.
    let told = sight_told (front_candidate page region) bytes memory seen is inside.held h in
    let after = after_front page region bytes is in
    e ∙ ap (λ n. take (length out) (drop (n + from) region.bytes)) inside.placed
    ∙ sym
    (ap (λ l. take (length out) (drop from l)) after.same
    ∙ within_part 8 from (length out) (length bytes) region.bytes (omega (arith, told.len)))
