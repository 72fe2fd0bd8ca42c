-- What a look over a region with a front finds, from what its reads gave.
use Rattle.std.proofs.Common.{◌≡◌, ◌≢◌, ℕ, ◌+◌, ◌≤◌, Bool, true, false, ◌&&◌, not, List, length, take, drop, Option, Some, None, IsTrue, refl, sym, ap, ◌∙◌, arith, cond, option_map, is_some, subst, length-drop}
use Rattle.std.proofs.lemmas.Bool.{leb-true}
use Rattle.std.proofs.lemmas.List.{length-take-le}
use Rattle.bb_flash.specs.declared.health.Health.{Health}
use Rattle.bb_flash.specs.declared.health.Health.TheVariants.{Fine, Worn, Lost}
use Rattle.bb_flash.specs.Image.{Image, health_of}
use Rattle.bb_bucket.specs.declared.pieces.Pieces.{Pieces}
use Rattle.bb_bucket.specs.declared.seen.Look.{Look}
use Rattle.bb_bucket.specs.declared.seen.Seen.{Seen}
use Rattle.bb_bucket.specs.Front.{IsPart, front_candidate, front_is_worn, has_front, is_lost, is_worn, header_len_of, record_health}
use Rattle.bb_bucket.specs.FrontLaws.{first_fails, second_fails}
use Rattle.bb_bucket.specs.Seen.{IsLookOf, IsReadThrough, IsSeenIn, is_sight_of, look_with, sight_in}
use Rattle.bb_bucket.proofs.Sights.{sight_seen, within_part}

third_decides : {X : Type 0} (a b c : Bool) (x y : X) → a ≡ true → b ≡ true → cond (a && b && c) x y ≡ cond c x y
third_decides a b c x y p q = rw (p, q) refl

alive : (health : Health) → is_lost health ≡ false → health ≢ Lost
alive Fine e = λ f. cc
alive Worn e = λ f. cc
alive Lost e = absurd cc

-- a look found the candidate of a region
abbrev pub IsLookIn : ℕ → Image → List ℕ → Look → Type 0
IsLookIn page region memory look =
    IsLookOf (front_candidate page region) (front_is_worn page region) memory look

module _ (page : ℕ) (region : Image) (size : ℕ) where
  front_health : (front : List ℕ) (health : Health) → length front ≡ 8 → IsPart page region size 0 front health → is_lost (health_of page region 0 8) ≡ is_lost health
  front_health front health whole part = ap is_lost (ap (health_of page region 0) (sym whole) ∙ sym part.health_is)

  front_is : (front : List ℕ) (health : Health) → length front ≡ 8 → IsPart page region size 0 front health → is_lost health ≡ false → front ≡ take 8 region.bytes
  front_is front health whole part kept = part.exact (alive health kept) ∙ ap (λ n. take n region.bytes) whole

  same_front : (front : List ℕ) (health : Health) → length front ≡ 8 → IsPart page region size 0 front health → is_lost health ≡ false → has_front (length region.bytes) (take 8 region.bytes) ≡ has_front size front
  same_front front health whole part kept = ap (λ n. has_front n (take 8 region.bytes)) part.size_is ∙ ap (has_front size) (sym (front_is front health whole part kept))

  nothing : (memory : List ℕ) → front_candidate page region ≡ None → IsLookIn page region memory (record { found = record { len = None; worn = false }; seen = None })
  nothing memory e = record {
    is_found = record {
      len = sym (ap (option_map (λ bytes. length bytes)) e);
      worn = sym (ap (λ found. is_some found && is_worn (record_health page region)) e);
    };
    is_seen = refl;
  }

  -- the front is in a Lost page
  pub found_lost : (front memory : List ℕ) (health : Health) → length front ≡ 8 → IsPart page region size 0 front health → is_lost health ≡ true → IsLookIn page region memory (record { found = record { len = None; worn = false }; seen = None })
  found_lost front memory health whole part lost =
      nothing memory
      (first_fails (not (is_lost (health_of page region 0 8))) _ _ _ None (ap not (front_health front health whole part ∙ lost)))

  -- the front is none, or gives too great a length
  pub found_no_front : (front memory : List ℕ) (health : Health) → length front ≡ 8 → IsPart page region size 0 front health → is_lost health ≡ false → has_front size front ≡ false → IsLookIn page region memory (record { found = record { len = None; worn = false }; seen = None })
  found_no_front front memory health whole part kept none =
      nothing memory
      (second_fails _ (has_front (length region.bytes) (take 8 region.bytes)) _ _ None (same_front front health whole part kept ∙ none))

  -- the record was read, and its pages are in this health
  found_with : (memory bytes : List ℕ) (seen : Seen) (health : Health) → record_health page region ≡ health → seen.len ≡ length bytes → (is_lost health ≡ false → IsTrue (is_sight_of (sight_in memory (Some seen)) (Some bytes))) → front_candidate page region ≡ cond (not (is_lost health)) (Some bytes) None → IsLookIn page region memory (look_with seen health)
  found_with memory bytes seen Lost h len sight e = nothing memory e
  found_with memory bytes seen Fine h len sight e = record {
    is_found = record {
      len = ap (λ n. Some n) len ∙ sym (ap (option_map (λ bytes. length bytes)) e);
      worn = sym (ap (λ found. is_some found && is_worn (record_health page region)) e ∙ ap is_worn h);
    };
    is_seen =
        subst (λ (c : Option (List ℕ)). IsTrue (is_sight_of (sight_in memory (Some seen)) c)) (sym e) (sight refl);
  }
  found_with memory bytes seen Worn h len sight e = record {
    is_found = record {
      len = ap (λ n. Some n) len ∙ sym (ap (option_map (λ bytes. length bytes)) e);
      worn = sym (ap (λ found. is_some found && is_worn (record_health page region)) e ∙ ap is_worn h);
    };
    is_seen =
        subst (λ (c : Option (List ℕ)). IsTrue (is_sight_of (sight_in memory (Some seen)) c)) (sym e) (sight refl);
  }

  pub found_record : (len : ℕ) (front memory : List ℕ) (first : Health) (pieces : Pieces) → length front ≡ 8 → IsPart page region size 0 front first → is_lost first ≡ false → has_front size front ≡ true → len ≡ header_len_of front → 8 + len ≤ size → pieces.seen.len ≡ len → IsSeenIn 8 len (length memory) pieces.seen → IsReadThrough page region size 8 len memory pieces → IsLookIn page region memory (look_with pieces.seen pieces.health)
  found_record len front memory first pieces whole part kept fronted is fits long inside read =
      let bytes : List ℕ = take len (drop 8 region.bytes) in
      let size_is = read.size_is in
      let all : length bytes ≡ len = length-take-le len (drop 8 region.bytes) (omega (arith, length-drop 8 region.bytes)) in
      let given : header_len_of (take 8 region.bytes) ≡ len = ap header_len_of (sym (front_is front first whole part kept)) ∙ sym is in
      let same : record_health page region ≡ pieces.health = ap (health_of page region 8) given ∙ sym read.health_is in
      let candidate =
      third_decides (not (is_lost (health_of page region 0 8))) (has_front (length region.bytes) (take 8 region.bytes)) (not (is_lost (record_health page region))) (Some (take (header_len_of (take 8 region.bytes)) (drop 8 region.bytes))) None (ap not (front_health front first whole part ∙ kept)) (same_front front first whole part kept ∙ fronted)
      ∙ ap (λ n. cond (not (is_lost (record_health page region))) (Some (take n (drop 8 region.bytes))) None) given
      ∙ ap (λ h. cond (not (is_lost h)) (Some bytes) None) same in
      found_with memory bytes pieces.seen pieces.health same (long ∙ sym all)
      (λ lives.
      sight_seen (Some bytes) bytes memory pieces.seen refl (long ∙ sym all) inside.held
      (read.exact (alive pieces.health lives)
      ∙ sym (within_part 8 pieces.seen.from pieces.seen.count len region.bytes (omega (arith, inside.inside)))))
      candidate

second_of_both : (a b : Bool) → (a && b) ≡ true → b ≡ true
second_of_both true b e = e
second_of_both false b e = absurd cc

-- the length that the front gives is one that the stride holds
pub front_fits : (size : ℕ) (front : List ℕ) → has_front size front ≡ true → 8 + header_len_of front ≤ size
front_fits size front e = leb-true _ _ (second_of_both _ _ e)

-- a length was found in the front
pub front_found : (b : Bool) (found len : ℕ) → Some found ≡ cond b (Some len) None → (b ≡ true) × (found ≡ len)
front_found true found len e = (refl, cc)
front_found false found len e = absurd cc

pub front_not_found : (b : Bool) (len : ℕ) → None ≡ cond b (Some len) None → b ≡ false
front_not_found true len e = absurd cc
front_not_found false len e = refl
