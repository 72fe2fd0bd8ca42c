-- The lines of the targets, one after another.
use Rattle.std.proofs.Common.{◌≡◌, ℕ, ◌+◌, ◌<◌, zero, suc, List, [], ◌∷◌, ◌++◌, length, map, take, Option, Some, ap, arith, refl, ◌∙◌}
use Rattle.std.proofs.lemmas.Option.{none-some, same_Some}
use Rattle.std.specs.List.{flat_map}
use Rattle.std.specs.Option.{option_map}
use Rattle.std.specs.Prelude.{slice_get, unwrap_or}
use Rattle.bb_chooser.specs.Binding.{Binding}
use Rattle.bb_chooser.specs.Choosing.{attempts_among, attempts_of, count_in, number_at, priority_among, priority_of}
use Rattle.bb_chooser.specs.declared.bound_target.BoundTarget.{BoundTarget}
use Rattle.bb_state.proofs.Lists.{flat_map_next}
use Rattle.bb_script_commands.specs.Sending.{target_name, counts_line, counts_line_of}

some_at : {X : Type 0} (xs : List X) (i : ℕ) → i < length xs → (x : X) × (slice_get xs i ≡ Some x)
some_at [] i h = absurd (omega (arith, h))
some_at (x ∷ xs) zero h = (x, refl)
some_at (x ∷ xs) (suc i) h = some_at xs i (omega (arith, h))

-- a target's numbers, and its line
priority_here : (table : List ℕ) (targets : List BoundTarget) (target : ℕ) (t : BoundTarget) → slice_get targets target ≡ Some t
    → priority_among (map (count_in table) targets) target ≡ number_at table t.priority_at
priority_here table [] target t is = absurd (none-some t is)
priority_here table (x ∷ xs) zero t is = ap (λ (u : BoundTarget). number_at table u.priority_at) (same_Some x t is)
priority_here table (x ∷ xs) (suc i) t is = priority_here table xs i t is

attempts_here : (table : List ℕ) (targets : List BoundTarget) (target : ℕ) (t : BoundTarget) → slice_get targets target ≡ Some t
    → attempts_among (map (count_in table) targets) target ≡ number_at table t.attempts_at
attempts_here table [] target t is = absurd (none-some t is)
attempts_here table (x ∷ xs) zero t is = ap (λ (u : BoundTarget). number_at table u.attempts_at) (same_Some x t is)
attempts_here table (x ∷ xs) (suc i) t is = attempts_here table xs i t is

line_at : (b : Binding) (table : List ℕ) (target : ℕ) (t : BoundTarget) → slice_get b.targets target ≡ Some t
    → counts_line (target_name b target) (priority_of b table target) (attempts_of b table target) ≡ counts_line_of table t
line_at b table target t is =
    ap (λ (o : Option BoundTarget). counts_line (unwrap_or (option_map (λ (u : BoundTarget). u.target.name) o) []) (priority_of b table target) (attempts_of b table target)) is
    ∙ ap (λ n. counts_line t.target.name n (attempts_of b table target)) (priority_here table b.targets target t is)
    ∙ ap (λ n. counts_line t.target.name (number_at table t.priority_at) n) (attempts_here table b.targets target t is)

pub counts_next : (b : Binding) (table : List ℕ) (target : ℕ) (old new name : List ℕ) (priority attempts : ℕ) → target < length b.targets
    → name ≡ target_name b target → priority ≡ priority_of b table target → attempts ≡ attempts_of b table target
    → old ≡ flat_map (counts_line_of table) (take target b.targets) → new ≡ old ++ counts_line name priority attempts
    → new ≡ flat_map (counts_line_of table) (take (target + 1) b.targets)
counts_next b table target old new name priority attempts there is_name is_priority is_attempts before is =
    let t = some_at b.targets target there in
    is
    ∙ ap (λ l. l ++ counts_line name priority attempts) before
    ∙ ap (λ n. flat_map (counts_line_of table) (take target b.targets) ++ counts_line n priority attempts) is_name
    ∙ ap (λ n. flat_map (counts_line_of table) (take target b.targets) ++ counts_line (target_name b target) n attempts) is_priority
    ∙ ap (λ n. flat_map (counts_line_of table) (take target b.targets) ++ counts_line (target_name b target) (priority_of b table target) n) is_attempts
    ∙ ap (λ l. flat_map (counts_line_of table) (take target b.targets) ++ l) (line_at b table target t.0 t.1)
    ∙ flat_map_next (counts_line_of table) [] b.targets target t.0 t.1
