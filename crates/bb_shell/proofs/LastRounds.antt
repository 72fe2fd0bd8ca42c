-- The last of some rounds, and what it leaves.
use Rattle.std.proofs.Common.{◌≡◌, ℕ, suc, ◌-◌, List, [], ◌∷◌, ◌++◌, length, Option, Some, None, ap, arith, refl, sym, ◌∙◌}
use Rattle.std.specs.Option.{option_map_or}
use Rattle.std.specs.Prelude.{option_and_then, slice_get}
use Rattle.bb_shell.specs.Boot.{Round, last_round, table_after}
use Rattle.bb_shell.specs.Running.{refusal_of}
use Rattle.bb_shell.specs.Stages.{kept_after}
use Rattle.bb_shell.specs.Sequence.{refused_in}

pub last_cons : (round next : Round) (later : List Round) → last_round (round ∷ next ∷ later) ≡ last_round (next ∷ later)
last_cons round next later =
    let more : length (round ∷ next ∷ later) - 1 ≡ suc (length (next ∷ later) - 1) = omega arith in
    ap (slice_get (round ∷ next ∷ later)) more

pub last_behind : (round : Round) (later : List Round) (last : Round) → last_round later ≡ Some last →
    last_round (round ∷ later) ≡ Some last
last_behind round [] last is = absurd (let none : ◌≡◌ {A = Option Round} None (Some last) = is in cc)
last_behind round (next ∷ later) last is = last_cons round next later ∙ is

pub last_there : (round : Round) (later : List Round) → (last : Round) × (last_round (round ∷ later) ≡ Some last)
last_there round [] = (round, refl)
last_there round (next ∷ later) = let last = last_there next later in (last.0, last_cons round next later ∙ last.1)

pub last_joined : (one : List Round) (round : Round) (two : List Round) → last_round (one ++ round ∷ two) ≡ last_round (round ∷ two)
last_joined [] round two = refl
last_joined (x ∷ []) round two = last_cons x round two
last_joined (x ∷ y ∷ one) round two = last_cons x y (one ++ round ∷ two) ∙ last_joined (y ∷ one) round two

-- what is said of it where there is one
pub last_or : {X : Type 0} (f : Round → X) (one two : X) (round : Round) (later : List Round) →
    option_map_or f (last_round (round ∷ later)) one ≡ option_map_or f (last_round (round ∷ later)) two
last_or f one two round later =
    let last = last_there round later in
    ap (λ o. option_map_or f o one) last.1 ∙ sym (ap (λ o. option_map_or f o two) last.1)

pub refused_cons : (round next : Round) (later : List Round) → refused_in (round ∷ next ∷ later) ≡ refused_in (next ∷ later)
refused_cons round next later = ap (option_and_then (λ (r : Round). refusal_of r.outcome)) (last_cons round next later)

-- what is kept after them, and the table
pub kept_cons : (kept : Option (List ℕ)) (round : Round) (later : List Round) → kept_after kept (round ∷ later) ≡ kept_after (Some round.table) later
kept_cons kept round [] = refl
kept_cons kept round (next ∷ later) =
    ap (λ (last : Option Round). option_map_or (λ (r : Round). Some r.table) last kept) (last_cons round next later)
    ∙ last_or (λ (r : Round). Some r.table) kept (Some round.table) next later

pub kept_joined : (kept : Option (List ℕ)) (one two : List Round) → kept_after kept (one ++ two) ≡ kept_after (kept_after kept one) two
kept_joined kept [] two = refl
kept_joined kept (round ∷ one) two =
    kept_cons kept round (one ++ two) ∙ kept_joined (Some round.table) one two
    ∙ ap (λ k. kept_after k two) (sym (kept_cons kept round one))

pub kept_table : (table : List ℕ) (rounds : List Round) → kept_after (Some table) rounds ≡ Some (table_after table rounds)
kept_table table rounds = by (last_round rounds)
  where
    by : (last : Option Round) → option_map_or (λ (r : Round). Some r.table) last (Some table) ≡ Some (option_map_or (λ (r : Round). r.table) last table)
    by None = refl
    by (Some round) = refl
