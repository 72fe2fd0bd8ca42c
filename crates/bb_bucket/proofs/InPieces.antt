-- A record that is read in pieces: how its pages are, and that the last piece is exact.
use Rattle.std.proofs.Common.{◌≡◌, ◌≢◌, ℕ, ◌+◌, ◌-◌, ◌<◌, ◌≤◌, List, ◌++◌, length, take, drop, refl, sym, ap, ◌∙◌, arith}
use Rattle.std.proofs.lemmas.List.{take_at}
use Rattle.bb_flash.specs.declared.health.Health.{Health}
use Rattle.bb_flash.specs.declared.health.Health.TheVariants.{Fine, Lost}
use Rattle.bb_flash.specs.Image.{Image, health_of, worse_of}
use Rattle.bb_bucket.specs.Front.{IsPart}
use Rattle.bb_bucket.specs.Seen.{IsReadThrough}
use Rattle.bb_bucket.proofs.Healths.{alive_both, health_joined}

-- `end` bytes at a place were read, the last of them from `from` on into the memory
pub record IsReadTo
    (page : ℕ) (region : Image) (size at from end : ℕ) (memory : List ℕ) (health : Health)
    : Type 0 where
  pub size_is : length region.bytes ≡ size
  pub health_is : health ≡ health_of page region at end
  pub exact :
      health_of page region (at + from) (end - from) ≢ Lost →
      take (end - from) memory ≡ take (end - from) (drop (at + from) region.bytes)

pub none_read :
    (page : ℕ) (region : Image) (size at : ℕ) (memory : List ℕ) → length region.bytes ≡ size →
    IsReadTo page region size at 0 0 memory Fine
none_read page region size at memory e =
    record { size_is = e; health_is = refl; exact = λ h. refl }

pub more_read :
    (page : ℕ) (region : Image) (size at from end more count : ℕ) (memory piece others : List ℕ)
    (health next : Health) →
    0 < page → length piece ≡ count → more ≡ end + count →
    IsReadTo page region size at from end memory health →
    IsPart page region size (at + end) piece next →
    IsReadTo page region size at end more (piece ++ others) (worse_of health next)
more_read page region size at from end more count memory piece others health next some len sum h k =
    let left : more - end ≡ count = omega arith in
    record {
      size_is = h.size_is;
      health_is =
          ap (λ a. worse_of a next) h.health_is
          ∙ ap (worse_of (health_of page region at end))
          (k.health_is ∙ ap (health_of page region (at + end)) len)
          ∙ sym (ap (health_of page region at) sum ∙ health_joined page region at end count some);
      exact = λ lives.
          ap (λ n. take n (piece ++ others)) left ∙ take_at piece others count len
          ∙ k.exact
          (λ lost. lives
          (ap (health_of page region (at + end)) (left ∙ sym len) ∙ sym k.health_is ∙ lost))
          ∙ ap (λ n. take n (drop (at + end) region.bytes)) (len ∙ sym left);
    }

pub all_read :
    (page : ℕ) (region : Image) (size at len from end : ℕ) (memory : List ℕ) (health : Health) →
    0 < page → from ≤ end → end ≡ len →
    IsReadTo page region size at from end memory health →
    IsReadThrough page region size at len memory
    (record { health = health; seen = record { at = at; len = len; from = from; count = end - from } })
all_read page region size at len from end memory health some ordered e h =
    let parts : end ≡ from + (end - from) = omega arith in
    let joined =
    h.health_is ∙ ap (health_of page region at) parts
    ∙ health_joined page region at from (end - from) some in
    record {
      size_is = h.size_is;
      health_is = h.health_is ∙ ap (health_of page region at) e;
      exact = λ lives. h.exact (alive_both _ _ (λ lost. lives (joined ∙ lost))).1;
    }
