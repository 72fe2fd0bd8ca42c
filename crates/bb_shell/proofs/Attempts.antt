-- An attempt that is spent lowers the sum of all attempts, and that of the enabled targets.
use Rattle.std.proofs.Common.{◌≡◌, ℕ, zero, suc, ◌+◌, ◌-◌, ◌*◌, ◌/◌, ◌%◌, ◌<◌, ◌≤◌, ◌==◌, ◌&&◌, ◌⊎◌, Bool, true, false, List, [], ◌∷◌, arith, ap, cond, get_or, inl, inr, length, refl, sym, subst, take, ◌∙◌}
use Rattle.std.proofs.Math.Nat as nat
use Rattle.std.proofs.lemmas.Bool.{cases_lt, lt-ltb}
use Rattle.std.proofs.lemmas.List.{length-map}
use Rattle.std.proofs.lemmas.List.Sums.{sum_by-cons, sum_by_push}
use Rattle.std.proofs.lemmas.Option.{slice_get_read}
use Rattle.std.specs.Prelude.{nat_lt, sum_by}
use Rattle.bb_chooser.proofs.Best.{count_at, qualifies_within}
use Rattle.bb_chooser.proofs.Counts.{disabled_keeps, spend_is, spent, spent_keeps}
use Rattle.bb_chooser.proofs.Writing.{flip, number_length, number_other, number_same}
use Rattle.bb_chooser.specs.After.{as_word}
use Rattle.bb_chooser.specs.Binding.{Binding, IsBinding, IsInside, ShareNothing, StandApart, StandsAlone}
use Rattle.bb_chooser.specs.Choosing.{IsBest, Qualifies, attempts_of, count_in, counts_of, number_at, priority_of, with_number}
use Rattle.bb_chooser.specs.Counting.{spend_of}
use Rattle.bb_state.proofs.Lists.{take_next}
use Rattle.bb_shell.specs.Boot.{all_attempts}
use Rattle.bb_shell.specs.Counting.{enabled_attempts}
use Rattle.bb_chooser.specs.declared.bound_target.BoundTarget.{BoundTarget}

-- the best target is there, and has an attempt
pub best_left : (b : Binding) (table : List ℕ) (target : ℕ) → IsBest b table target → 0 < attempts_of b table target
best_left b table target best = best.qualifies.attempts

pub qualifies_there : (b : Binding) (table : List ℕ) (target : ℕ) → Qualifies b table target → target < length b.targets
qualifies_there b table target qualifies =
    let within = qualifies_within (counts_of b table) target qualifies in
    omega (arith, within, length-map b.targets (count_in table))

pub best_there : (b : Binding) (table : List ℕ) (target : ℕ) → IsBest b table target → target < length b.targets
best_there b table target best = qualifies_there b table target best.qualifies

-- ---- sums

-- each number is at most the other of its place
abbrev IsBelow : (BoundTarget → ℕ) → (BoundTarget → ℕ) → BoundTarget → List BoundTarget → Type 0
IsBelow f g d ts = (i : ℕ) → i < length ts → f (get_or ts i d) ≤ g (get_or ts i d)

sum_below : (f g : BoundTarget → ℕ) (d : BoundTarget) (ts : List BoundTarget) → IsBelow f g d ts → sum_by f ts ≤ sum_by g ts
sum_below f g d [] below = omega arith
sum_below f g d (t ∷ ts) below =
    let rest = sum_below f g d ts (λ i inside. below (suc i) (omega arith)) in
    let here = below 0 (omega arith) in
    omega (arith, here, rest, sum_by-cons f t ts, sum_by-cons g t ts)

sum_less : (f g : BoundTarget → ℕ) (d : BoundTarget) (ts : List BoundTarget) (i : ℕ) → IsBelow f g d ts → i < length ts →
    f (get_or ts i d) + 1 ≤ g (get_or ts i d) → sum_by f ts + 1 ≤ sum_by g ts
sum_less f g d [] i below inside less = absurd (omega arith)
sum_less f g d (t ∷ ts) zero below inside less =
    let rest = sum_below f g d ts (λ i within. below (suc i) (omega arith)) in
    omega (arith, less, rest, sum_by-cons f t ts, sum_by-cons g t ts)
sum_less f g d (t ∷ ts) (suc i) below inside less =
    let rest = sum_less f g d ts i (λ k within. below (suc k) (omega arith)) (omega arith) less in
    let here = below 0 (omega arith) in
    omega (arith, here, rest, sum_by-cons f t ts, sum_by-cons g t ts)

-- one of the numbers is at most their sum
one_of_sum : (f : BoundTarget → ℕ) (d : BoundTarget) (ts : List BoundTarget) (i : ℕ) → i < length ts → f (get_or ts i d) ≤ sum_by f ts
one_of_sum f d [] i inside = absurd (omega arith)
one_of_sum f d (t ∷ ts) zero inside = omega (arith, sum_by-cons f t ts)
one_of_sum f d (t ∷ ts) (suc i) inside = let rest = one_of_sum f d ts i (omega arith) in omega (arith, rest, sum_by-cons f t ts)

-- ---- spending

byte_and_rest : (n p : ℕ) → n / p ≡ n / p % 256 + n / (p * 256) * 256
byte_and_rest n p = omega (arith, nat.div-div-eq-div-mul n p 256)

-- what 4 bytes give back of a number is at most the number
as_word-le : (n : ℕ) → as_word n ≤ n
as_word-le n = omega (arith, byte_and_rest n 256, byte_and_rest n 65536, byte_and_rest n 16777216)

-- a target of a list that is long enough
pub target_at : (ts : List BoundTarget) (i : ℕ) → i < length ts → (t : BoundTarget) × (t ≡ get_or ts i t)
target_at [] i inside = absurd (omega arith)
target_at (t ∷ ts) zero inside = (t, refl)
target_at (t ∷ ts) (suc i) inside = target_at ts i (omega arith)

pub attempts_is : (b : Binding) (table : List ℕ) (target : ℕ) (t : BoundTarget) → target < length b.targets → t ≡ get_or b.targets target t →
    attempts_of b table target ≡ number_at table t.attempts_at
attempts_is b table target t inside at =
    let same = count_at (count_in table) b.targets target t inside at in λ i. (same i).attempts

priority_is : (b : Binding) (table : List ℕ) (target : ℕ) (t : BoundTarget) → target < length b.targets → t ≡ get_or b.targets target t →
    priority_of b table target ≡ number_at table t.priority_at
priority_is b table target t inside at =
    let same = count_at (count_in table) b.targets target t inside at in λ i. (same i).priority

-- the attempts of a target that is enabled
abbrev enabled_in : List ℕ → BoundTarget → ℕ
enabled_in table t = cond (nat_lt 0 (number_at table t.priority_at)) (number_at table t.attempts_at) 0

enabled-le : (table : List ℕ) (t : BoundTarget) → enabled_in table t ≤ number_at table t.attempts_at
enabled-le table t = by (nat_lt 0 (number_at table t.priority_at))
  where
    by : (flag : Bool) → cond flag (number_at table t.attempts_at) 0 ≤ number_at table t.attempts_at
    by true = omega arith
    by false = omega arith

enabled_all : (table : List ℕ) (t : BoundTarget) → 0 < number_at table t.priority_at → enabled_in table t ≡ number_at table t.attempts_at
enabled_all table t some = ap (λ flag. cond flag (number_at table t.attempts_at) 0) (lt-ltb 0 (number_at table t.priority_at) some)

enabled_same : (table other : List ℕ) (t : BoundTarget) → number_at table t.attempts_at ≡ number_at other t.attempts_at →
    number_at table t.priority_at ≡ number_at other t.priority_at → enabled_in table t ≡ enabled_in other t
enabled_same table other t attempts priority = λ i. cond (nat_lt 0 (priority i)) (attempts i) 0

module _ (b : Binding) (is : IsBinding b) (table : List ℕ) (sized : length table ≡ b.area_len) (target : ℕ) (t : BoundTarget)
    (inside : target < length b.targets) (at : t ≡ get_or b.targets target t) where
  abbrev left : ℕ
  left = number_at table t.attempts_at - 1

  abbrev lowered : List ℕ
  lowered = with_number table t.attempts_at left

  room : IsInside b.area_len t
  room = subst (IsInside b.area_len) (sym at) (is.each_inside target t inside)

  alone : StandsAlone b.last_chosen_at t
  alone = subst (StandsAlone b.last_chosen_at) (sym at) (is.each_alone target t inside)

  room_attempts : t.attempts_at + 4 ≤ length table
  room_attempts = omega (arith, room.attempts, sized)

  room_last : b.last_chosen_at + 4 ≤ length lowered
  room_last = omega (arith, is.last_inside, sized, number_length table t.attempts_at left room_attempts)

  room_priority : t.priority_at + 4 ≤ length (spent b table t target left)
  room_priority = omega (arith, room.priority, sized, number_length table t.attempts_at left room_attempts, number_length lowered b.last_chosen_at (target + 1) room_last)

  abbrev after : Bool → List ℕ
  after flag = cond flag (with_number (spent b table t target left) t.priority_at 0) (spent b table t target left)

  -- a number that is apart from the target's and from the last chosen one's place
  keeps_spent : (p : ℕ) → ShareNothing p t.attempts_at → ShareNothing p b.last_chosen_at → number_at (spent b table t target left) p ≡ number_at table p
  keeps_spent p a l =
      number_other lowered b.last_chosen_at (target + 1) p room_last l ∙ number_other table t.attempts_at left p room_attempts a

  keeps : (p : ℕ) (flag : Bool) → ShareNothing p t.attempts_at → ShareNothing p b.last_chosen_at → ShareNothing p t.priority_at →
      number_at (after flag) p ≡ number_at table p
  keeps p true a l q = number_other (spent b table t target left) t.priority_at 0 p room_priority q ∙ keeps_spent p a l
  keeps p false a l q = keeps_spent p a l

  lowers_spent : number_at (spent b table t target left) t.attempts_at ≡ as_word left
  lowers_spent = number_other lowered b.last_chosen_at (target + 1) t.attempts_at room_last alone.attempts ∙ number_same table t.attempts_at left room_attempts

  lowers : (flag : Bool) → number_at (after flag) t.attempts_at ≡ as_word left
  lowers true = number_other (spent b table t target left) t.priority_at 0 t.attempts_at room_priority alone.own ∙ lowers_spent
  lowers false = lowers_spent

  flag : Bool
  flag = b.rules.disable_on_zero_attempts && (left == 0)

  other_same : (p : ℕ) → ShareNothing p t.attempts_at → ShareNothing p b.last_chosen_at → ShareNothing p t.priority_at →
      number_at (spend_of b table target) p ≡ number_at table p
  unfolding flag
  other_same p a l q = ap (λ x. number_at x p) (spend_is b table target t inside at) ∙ keeps p flag a l q

  own_lower : number_at (spend_of b table target) t.attempts_at ≤ left
  unfolding flag
  own_lower =
      let same : number_at (spend_of b table target) t.attempts_at ≡ as_word left =
      ap (λ x. number_at x t.attempts_at) (spend_is b table target t inside at) ∙ lowers flag in
      omega (arith, same, as_word-le left)

  u_last : (i : ℕ) → i < length b.targets → ShareNothing (get_or b.targets i t).attempts_at b.last_chosen_at
  u_last i within = (is.each_alone i t within).attempts

  below : IsBelow (λ u. number_at (spend_of b table target) u.attempts_at) (λ u. number_at table u.attempts_at) t b.targets
  below i within = by (cases_lt i target) (cases_lt target i)
    where
      by : (i < target) ⊎ (target ≤ i) → (target < i) ⊎ (i ≤ target) →
          number_at (spend_of b table target) (get_or b.targets i t).attempts_at ≤ number_at table (get_or b.targets i t).attempts_at
      by (inl before) other =
          let apart : StandApart (get_or b.targets i t) t =
          subst (λ (x : BoundTarget). StandApart (get_or b.targets i t) x) (sym at) (is.pairs_apart i target t before inside) in
          let same = other_same (get_or b.targets i t).attempts_at apart.attempts (u_last i within) apart.first_attempts in
          omega (arith, same)
      by (inr past) (inl behind) =
          let apart : StandApart t (get_or b.targets i t) =
          subst (λ (x : BoundTarget). StandApart x (get_or b.targets i t)) (sym at) (is.pairs_apart target i t behind within) in
          let same =
          other_same (get_or b.targets i t).attempts_at (flip t.attempts_at (get_or b.targets i t).attempts_at apart.attempts) (u_last i within) apart.second_attempts in
          omega (arith, same)
      by (inr past) (inr most) =
          let here : i ≡ target = omega (arith, past, most) in
          let is_t : get_or b.targets i t ≡ t = ap (λ k. get_or b.targets k t) here ∙ sym at in
          subst (λ (x : BoundTarget). number_at (spend_of b table target) x.attempts_at ≤ number_at table x.attempts_at) (sym is_t) (omega (arith, own_lower))

  less : 0 < attempts_of b table target → all_attempts b (spend_of b table target) + 1 ≤ all_attempts b table
  less some =
      let attempts = attempts_is b table target t inside at in
      let own : number_at (spend_of b table target) (get_or b.targets target t).attempts_at + 1 ≤ number_at table (get_or b.targets target t).attempts_at =
      subst (λ (x : BoundTarget). number_at (spend_of b table target) x.attempts_at + 1 ≤ number_at table x.attempts_at) at (omega (arith, own_lower, attempts, some)) in
      let sums = sum_less (λ u. number_at (spend_of b table target) u.attempts_at) (λ u. number_at table u.attempts_at) t b.targets target below inside own in
      omega (arith, sums)

  -- ---- the enabled targets

  same_length : (flag : Bool) → length (after flag) ≡ length table
  same_length true = (disabled_keeps b is table sized target t left inside at).same_length
  same_length false = (spent_keeps b is table sized target t left inside at).same_length

  keeps_length : length (spend_of b table target) ≡ length table
  unfolding flag
  keeps_length = ap length (spend_is b table target t inside at) ∙ same_length flag

  own_enabled : 0 < number_at table t.priority_at → 0 < attempts_of b table target →
      enabled_in (spend_of b table target) t + 1 ≤ enabled_in table t
  own_enabled priority some =
      omega (arith, enabled-le (spend_of b table target) t, own_lower, enabled_all table t priority, attempts_is b table target t inside at, some)

  other_enabled : (u : BoundTarget) → StandsAlone b.last_chosen_at u → ShareNothing u.attempts_at t.attempts_at → ShareNothing u.attempts_at t.priority_at →
      ShareNothing u.priority_at t.attempts_at → ShareNothing u.priority_at t.priority_at → enabled_in (spend_of b table target) u ≡ enabled_in table u
  other_enabled u single attempts from_priority from_attempts priorities =
      enabled_same (spend_of b table target) table u (other_same u.attempts_at attempts single.attempts from_priority)
      (other_same u.priority_at from_attempts single.priority priorities)

  enabled_below : 0 < number_at table t.priority_at → 0 < attempts_of b table target →
      IsBelow (enabled_in (spend_of b table target)) (enabled_in table) t b.targets
  enabled_below priority some i within = by (cases_lt i target) (cases_lt target i)
    where
      by : (i < target) ⊎ (target ≤ i) → (target < i) ⊎ (i ≤ target) → enabled_in (spend_of b table target) (get_or b.targets i t) ≤ enabled_in table (get_or b.targets i t)
      by (inl before) other =
          let apart : StandApart (get_or b.targets i t) t =
          subst (λ (x : BoundTarget). StandApart (get_or b.targets i t) x) (sym at) (is.pairs_apart i target t before inside) in
          let same =
          other_enabled (get_or b.targets i t) (is.each_alone i t within) apart.attempts apart.first_attempts (flip t.attempts_at (get_or b.targets i t).priority_at apart.second_attempts) apart.priorities in
          omega (arith, same)
      by (inr past) (inl behind) =
          let apart : StandApart t (get_or b.targets i t) =
          subst (λ (x : BoundTarget). StandApart x (get_or b.targets i t)) (sym at) (is.pairs_apart target i t behind within) in
          let same =
          other_enabled (get_or b.targets i t) (is.each_alone i t within) (flip t.attempts_at (get_or b.targets i t).attempts_at apart.attempts) apart.second_attempts
          (flip t.attempts_at (get_or b.targets i t).priority_at apart.first_attempts) (flip t.priority_at (get_or b.targets i t).priority_at apart.priorities) in
          omega (arith, same)
      by (inr past) (inr most) =
          let here : i ≡ target = omega (arith, past, most) in
          let is_t : get_or b.targets i t ≡ t = ap (λ k. get_or b.targets k t) here ∙ sym at in
          subst (λ (x : BoundTarget). enabled_in (spend_of b table target) x ≤ enabled_in table x) (sym is_t) (omega (arith, own_enabled priority some))

  enabled_less : 0 < number_at table t.priority_at → 0 < attempts_of b table target →
      enabled_attempts b (spend_of b table target) + 1 ≤ enabled_attempts b table
  enabled_less priority some =
      let own : enabled_in (spend_of b table target) (get_or b.targets target t) + 1 ≤ enabled_in table (get_or b.targets target t) =
      subst (λ (x : BoundTarget). enabled_in (spend_of b table target) x + 1 ≤ enabled_in table x) at (own_enabled priority some) in
      sum_less (enabled_in (spend_of b table target)) (enabled_in table) t b.targets target (enabled_below priority some) inside own

-- a round spends one attempt at least
pub total_spent : (b : Binding) (table : List ℕ) (target : ℕ) → IsBinding b → length table ≡ b.area_len → IsBest b table target →
    all_attempts b (spend_of b table target) + 1 ≤ all_attempts b table
total_spent b table target is sized best =
    let inside = best_there b table target best in
    let found = target_at b.targets target inside in
    less b is table sized target found.0 inside found.1 (best_left b table target best)

-- and one of the enabled targets
pub enabled_spent : (b : Binding) (table : List ℕ) (target : ℕ) → IsBinding b → length table ≡ b.area_len → Qualifies b table target →
    enabled_attempts b (spend_of b table target) + 1 ≤ enabled_attempts b table
enabled_spent b table target is sized qualifies =
    let inside = qualifies_there b table target qualifies in
    let found = target_at b.targets target inside in
    let priority = priority_is b table target found.0 inside found.1 in
    let enabled : 0 < number_at table found.0.priority_at = subst (λ n. 0 < n) priority qualifies.priority in
    enabled_less b is table sized target found.0 inside found.1 enabled qualifies.attempts

-- the table stays as long as it was
pub spent_sized : (b : Binding) (table : List ℕ) (target : ℕ) → IsBinding b → length table ≡ b.area_len → Qualifies b table target →
    length (spend_of b table target) ≡ b.area_len
spent_sized b table target is sized qualifies =
    let inside = qualifies_there b table target qualifies in
    let found = target_at b.targets target inside in
    keeps_length b is table sized target found.0 inside found.1 ∙ sized

-- where a target is best there is an attempt
pub total_some : (b : Binding) (table : List ℕ) (target : ℕ) → IsBest b table target → 1 ≤ all_attempts b table
total_some b table target best =
    let inside = best_there b table target best in
    let found = target_at b.targets target inside in
    let attempts = attempts_is b table target found.0 inside found.1 in
    let some = best_left b table target best in
    let one : number_at table found.0.attempts_at ≤ all_attempts b table =
    subst (λ (x : BoundTarget). number_at table x.attempts_at ≤ all_attempts b table) (sym found.1)
    (one_of_sum (λ u. number_at table u.attempts_at) found.0 b.targets target inside) in
    omega (arith, attempts, some, one)

-- ---- adding up

pub sum_next : (b : Binding) (table : List ℕ) (target : ℕ) → target < length b.targets →
    sum_by (λ t. number_at table t.attempts_at) (take (target + 1) b.targets)
    ≡ sum_by (λ t. number_at table t.attempts_at) (take target b.targets) + attempts_of b table target
sum_next b table target inside =
    let found = target_at b.targets target inside in
    let got = slice_get_read b.targets (length b.targets) target found.0 refl inside found.1 in
    let f : BoundTarget → ℕ = λ t. number_at table t.attempts_at in
    ap (sum_by f) (take_next b.targets target found.0 got) ∙ sum_by_push f (take target b.targets) found.0
    ∙ ap (λ n. sum_by f (take target b.targets) + n) (sym (attempts_is b table target found.0 inside found.1))
