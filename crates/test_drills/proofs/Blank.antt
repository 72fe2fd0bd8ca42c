-- A page that was read as blank is blank.
use Rattle.std.proofs.Common.{◌≡◌, ◌≢◌, ℕ, ◌+◌, ◌==◌, ◌&&◌, Bool, true, false, List, [], ◌∷◌, length, replicate, take, drop, ap, ap₂, refl, sym, ◌∙◌, arith, rules}
use Rattle.std.specs.List.{list_all}
use Rattle.std.proofs.lemmas.Bool.Decides.{Decides-eqb}
use Rattle.bb_flash.specs.declared.health.Health.{Health}
use Rattle.bb_flash.specs.declared.health.Health.TheVariants.{Lost}
use Rattle.bb_flash.specs.Device.{IsReading}
use Rattle.bb_flash.specs.Image.{Image, IsBlank, health_of}

both_true : (x y : Bool) → (x && y) ≡ true → (x ≡ true) × (y ≡ true)
both_true true y h = (refl, h)
both_true false y h = absurd (search (rules, h))

are_same : (n : ℕ) (xs : List ℕ) → list_all (λ x. x == n) xs ≡ true → xs ≡ replicate (length xs) n
are_same n [] h = refl
are_same n (x ∷ xs) h =
    let both = both_true (x == n) (list_all (λ y. y == n) xs) h in
    ap₂ (λ (first : ℕ) (more : List ℕ). first ∷ more) ((Decides-eqb x n).0 both.0) (are_same n xs both.1)

pub blank_read : (image : Image) (at : ℕ) (out : List ℕ) (health : Health) → length out ≡ 64 → IsReading 64 image at out health → health ≢ Lost → list_all (λ byte. byte == 255) out ≡ true → IsBlank 64 image at 64
blank_read image at out health long is alive same =
    let here : at + 0 ≡ at = omega arith in
    let worst : health ≡ health_of 64 image at 64 = is.worst ∙ ap (λ (n : ℕ). health_of 64 image at n) long in
    let bytes : out ≡ replicate 64 255 = are_same 255 out same ∙ ap (λ (n : ℕ). replicate n 255) long in
    record {
      clean =
          ap (λ (place : ℕ). take 64 (drop place image.bytes)) (sym here)
          ∙ sym (is.exact 0 64 (omega (arith, long)) (λ lost. alive (worst ∙ ap (λ (place : ℕ). health_of 64 image place 64) (sym here) ∙ lost)))
          ∙ ap (λ (read : List ℕ). take 64 read) bytes;
      alive = λ lost. alive (worst ∙ lost);
    }
