-- What a bucket keeps of the record that it found last: its length, and a piece of its bytes.
use Rattle.std.specs.Prelude.{◌≡◌, ◌≢◌, ℕ, ◌+◌, ◌≤◌, ◌==◌, Bool, true, false, ◌&&◌, List, length, take, drop, Option, Some, None, IsTrue, option_map}
use Rattle.std.specs.Str.{bytes_eq}
use Rattle.bb_flash.specs.declared.health.Health.{Health}
use Rattle.bb_flash.specs.declared.health.Health.TheVariants.{Fine, Worn, Lost}
use Rattle.bb_flash.specs.Image.{Image, health_of}
use Rattle.bb_bucket.specs.declared.pieces.Pieces.{Pieces}
use Rattle.bb_bucket.specs.declared.seen.Look.{Look}
use Rattle.bb_bucket.specs.declared.seen.Seen.{Seen}
use Rattle.bb_bucket.specs.Calls.{IsFoundOf}

-- a record's length, and bytes of it, from a place on
pub record Sight : Type 0 where
  pub len : ℕ
  pub from : ℕ
  pub piece : List ℕ

-- what is kept, with the piece as the first bytes of a memory
abbrev pub sight_in : List ℕ → Option Seen → Option Sight
sight_in memory seen =
    option_map (λ s. record { len = s.len; from = s.from; piece = take s.count memory }) seen

-- the length that is known
abbrev pub sight_len : Option Sight → Option ℕ
sight_len sight = option_map (λ s. s.len) sight

-- what is kept, if anything, is of the candidate
abbrev pub is_sight_of : Option Sight → Option (List ℕ) → Bool
is_sight_of None candidate = true
is_sight_of (Some sight) None = false
is_sight_of (Some sight) (Some bytes) =
    sight.len == length bytes
    && bytes_eq sight.piece (take (length sight.piece) (drop sight.from bytes))

-- a record stands at a place and has `most` bytes at most, and the piece lies in it and in a memory
-- of `room` bytes
pub record IsSeenIn (at most room : ℕ) (seen : Seen) : Type 0 where
  pub placed : seen.at ≡ at
  pub inside : seen.from + seen.count ≤ seen.len
  pub fits : seen.len ≤ most
  pub held : seen.count ≤ room

-- `len` bytes at a place of a region of this size were read in pieces: how their pages are, and
-- where none is Lost, the piece in front of the memory is exact
pub record IsReadThrough
    (page : ℕ) (region : Image) (size at len : ℕ) (memory : List ℕ) (pieces : Pieces)
    : Type 0 where
  pub size_is : length region.bytes ≡ size
  pub health_is : pieces.health ≡ health_of page region at len
  pub exact :
      pieces.health ≢ Lost →
      take pieces.seen.count memory
      ≡ take pieces.seen.count (drop (at + pieces.seen.from) region.bytes)

-- a record that is seen so in a region can be read: none of its pages is Lost, and the piece in
-- front of the memory is of it
pub record IsReadable (page : ℕ) (region : Image) (memory : List ℕ) (seen : Seen) : Type 0 where
  pub alive : health_of page region seen.at seen.len ≢ Lost
  pub piece : take seen.count memory ≡ take seen.count (drop (seen.at + seen.from) region.bytes)

-- what a look gives that saw a record whose pages are in this health
abbrev pub look_with : Seen → Health → Look
look_with seen Fine = record {
  found = record { len = Some seen.len; worn = false };
  seen = Some seen;
}
look_with seen Worn = record {
  found = record { len = Some seen.len; worn = true };
  seen = Some seen;
}
look_with seen Lost = record { found = record { len = None; worn = false }; seen = None }

-- a look found this candidate, and keeps what is of it
pub record IsLookOf
    (candidate : Option (List ℕ)) (is_worn : Bool) (memory : List ℕ) (look : Look)
    : Type 0 where
  pub is_found : IsFoundOf candidate is_worn look.found
  pub is_seen : IsTrue (is_sight_of (sight_in memory look.seen) candidate)
