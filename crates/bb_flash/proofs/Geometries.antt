-- What follows from the bounds of a geometry.
use Rattle.std.proofs.Common.{◌≡◌, ℕ, zero, suc, ◌<◌, ◌*◌, ◌/◌, ◌%◌, ◌∙◌, ◌⊎◌, ap, sym, arith, inl, inr, refl}
use Rattle.std.proofs.Math.Nat.{mod-mod_of_dvd, zero-mod, mod-one, div-add-mod'}
use Rattle.std.proofs.lemmas.Nat.Gcd.{dvd_of_mod-eq-zero}
use Rattle.bb_flash.specs.declared.geometry.Geometry.{Geometry}
use Rattle.bb_flash.specs.Geometry.{IsGeometry}

-- a multiple of a multiple
pub multiple_twice : (a b c : ℕ) → a % b ≡ 0 → b % c ≡ 0 → a % c ≡ 0
multiple_twice a b c h k = sym (mod-mod_of_dvd c a (dvd_of_mod-eq-zero c k)) ∙ ap (λ n. n % c) h ∙ zero-mod c

pub whole_times : (a b : ℕ) → a % b ≡ 0 → a / b * b ≡ a
whole_times a b h = let e = div-add-mod' a b in omega arith

none_or_some : (n : ℕ) → (n ≡ 0) ⊎ (0 < n)
none_or_some zero = inl refl
none_or_some (suc n) = inr (omega arith)

-- a device holds whole pages
pub whole_pages : (geometry : Geometry) → IsGeometry geometry → geometry.size / geometry.page * geometry.page ≡ geometry.size
whole_pages geometry within =
    whole_times geometry.size geometry.page
    (elim (none_or_some geometry.block) [
      | inl none ↦ ap (λ n. geometry.size % n) (within.in_place none) ∙ mod-one geometry.size
      | inr some ↦ multiple_twice geometry.size geometry.block geometry.page (within.blocks some).size_blocks (within.blocks some).block_pages
    ])
