-- Where each byte of a region is 0xFF no record stands, whatever its pages' health.
use Rattle.std.proofs.Common.{◌≡◌, ◌==◌, ◌&&◌, ◌⊎◌, ◌<◌, ◌≤◌, ◌+◌, ◌-◌, ◌∙◌, ℕ, zero, suc, Bool, true, false, not, List, Option, Some, None, inl, inr, length, take, drop, take_all, replicate, nat_le, ap, refl, sym, subst, arith, if◌then◌else◌}
use Rattle.std.proofs.lemmas.Bool.{cases_lt}
use Rattle.std.proofs.lemmas.List.{drop-replicate, length-replicate, take-replicate}
use Rattle.byteorder.specs.Endian.{little_number}
use Rattle.bb_flash.specs.Image.{Image, health_of}
use Rattle.bb_bucket.specs.Front.{front_candidate, stride_header_len, has_front, is_lost, header_len_of, record_health}

-- bytes that are all 0xFF
abbrev pub IsErased : List ℕ → Type 0
IsErased bytes = (n : ℕ) × (bytes ≡ replicate n 255)

taken : (m n : ℕ) → (n < m) ⊎ (m ≤ n) → IsErased (take m (replicate n 255))
taken m n (inl past) = (
  n,
  take_all m (replicate n 255)
      (let byte : ℕ = 255 in let len = length-replicate n byte in omega (arith, len)),
)
taken m n (inr fits) = (m, take-replicate m n 255 fits)

pub take_erased : (m : ℕ) (bytes : List ℕ) → IsErased bytes → IsErased (take m bytes)
take_erased m bytes (n, e) = subst (λ l. IsErased (take m l)) (sym e) (taken m n (cases_lt n m))

pub drop_erased : (m : ℕ) (bytes : List ℕ) → IsErased bytes → IsErased (drop m bytes)
drop_erased m bytes (n, e) = (n - m, ap (drop m) e ∙ drop-replicate m n 255)

-- a word of such bytes is no magic word
pub no_front_word : (n : ℕ) → (little_number 4 (replicate n 255) == 0x2354fdf3) ≡ false
no_front_word zero = refl
no_front_word (suc zero) = refl
no_front_word (suc (suc zero)) = refl
no_front_word (suc (suc (suc zero))) = refl
no_front_word (suc (suc (suc (suc n)))) = refl

no_front : (size : ℕ) (front : List ℕ) → IsErased front → has_front size front ≡ false
no_front size front (n, e) =
    subst (λ l. has_front size l ≡ false) (sym e)
    (ap (λ b. b && nat_le (stride_header_len + little_number 4 (drop 4 (replicate n 255))) size)
    (no_front_word n))

none_between : {X : Type 0} (x y z : Bool) (o : Option X) → y ≡ false →
    (if x && y && z then o else None) ≡ None
none_between true y z o e = ap (λ b. if b && z then o else None) e
none_between false y z o e = refl

pub front_of_erased : (page : ℕ) (region : Image) → IsErased region.bytes →
    front_candidate page region ≡ None
front_of_erased page region erased =
    none_between
    (not (is_lost (health_of page region 0 stride_header_len)))
    (has_front (length region.bytes) (take stride_header_len region.bytes))
    (not (is_lost (record_health page region)))
    (Some (take (header_len_of (take stride_header_len region.bytes)) (drop stride_header_len region.bytes)))
    (no_front (length region.bytes) (take stride_header_len region.bytes)
    (take_erased stride_header_len region.bytes erased))
