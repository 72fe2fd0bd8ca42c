-- What spending and restoring attempts leave in a table.
use Rattle.std.proofs.Common.{◌≡◌, ℕ, ◌+◌, ◌-◌, ◌<◌, ◌≤◌, ◌==◌, ◌&&◌, ◌||◌, Bool, true, false, List, [], ◌∷◌, All, Option, Some, None, arith, cond, get_or, length, map, refl, subst, sym, zero-add, ap, ◌∙◌}
use Rattle.std.proofs.lemmas.Bool.{and_parts, eq-eqb, leb-true, ltb-true, eqb-true, false≢true, ne_eqb}
use Rattle.std.proofs.lemmas.List.{length-map}
use Rattle.std.proofs.lemmas.List.Folds.{list_any_at}
use Rattle.std.proofs.lemmas.List.FromFn.{get_or-range_with_len, length-range_with_len}
use Rattle.std.proofs.lemmas.Map.Made.{length-le_from_is_member}
use Rattle.std.proofs.lemmas.Option.{slice_get_read}
use Rattle.std.specs.Cmp.{nat_eq_equiv}
use Rattle.std.specs.List.{AllByRecursion, IsDistinct, list_any, range_with_len}
use Rattle.std.specs.Option.{IfSome, option_map_or}
use Rattle.std.specs.Prelude.{nat_eq, nat_le, nat_lt, unwrap_or}
use Rattle.bb_chooser.proofs.Best.{count_at}
use Rattle.bb_chooser.proofs.Resetting.{first, first_length, prio, prio_room, second, tries, tries_pairs, tries_room}
use Rattle.bb_chooser.proofs.Writing.{EachOf, PairsOf, each_map, each_of, number_length, number_outside, number_same, written_length, written_outside}
use Rattle.bb_chooser.specs.Binding.{Binding, IsBinding, IsInside, ShareNothing}
use Rattle.bb_chooser.specs.Choosing.{attempts_of, count_in, count_of, counts_of, last_chosen_of, number_at, priority_of, with_number}
use Rattle.bb_chooser.specs.Counting.{HasDefaults, chosen_target, default_count, disable_of, enable_of, spend_of}
use Rattle.bb_chooser.specs.Others.{IsOutside, KeepsOthers}
use Rattle.bb_chooser.specs.declared.bound_target.BoundTarget.{BoundTarget}
use Rattle.bb_chooser.specs.declared.count.Count.{Count}

-- ---- there are fewer targets than bytes

each_other : (p : ℕ) (ts : List BoundTarget) → EachOf (λ u. ShareNothing p (tries u)) ts → AllByRecursion (λ y. nat_eq p y ≡ false) (map tries ts)
each_other p [] h = tt
each_other p (u ∷ us) h =
    (ne_eqb p (tries u) (λ e. h.0 p (omega arith) (omega arith) (omega arith) (omega arith)), each_other p us h.1)

tries_distinct : (ts : List BoundTarget) → PairsOf (λ t u. ShareNothing (tries t) (tries u)) ts → IsDistinct nat_eq (map tries ts)
unfolding IsDistinct
tries_distinct [] h = tt
tries_distinct (t ∷ ts) h = (each_other (tries t) ts h.0, tries_distinct ts h.1)

member_below : (len q : ℕ) (ts : List BoundTarget) → EachOf (λ t. tries t + 4 ≤ len) ts → list_any (nat_eq q) (map tries ts) ≡ true → q < len
member_below len q [] room h = absurd (false≢true h)
member_below len q (t ∷ ts) room h = by (nat_eq q (tries t)) refl h (member_below len q ts room.1)
  where
    by : (b : Bool) → nat_eq q (tries t) ≡ b → (b || list_any (nat_eq q) (map tries ts)) ≡ true → (list_any (nat_eq q) (map tries ts) ≡ true → q < len) → q < len
    by true e k rest = let same = eqb-true q (tries t) e in let inside = room.0 in omega arith
    by false e k rest = rest k

all_below : (n q : ℕ) → q < n → list_any (nat_eq q) (range_with_len 0 n) ≡ true
all_below n q below =
    list_any_at (nat_eq q) (range_with_len 0 n) q 0 (omega (arith, length-range_with_len 0 n, below))
    (eq-eqb q (get_or (range_with_len 0 n) q 0) (sym (get_or-range_with_len 0 n q 0 below ∙ zero-add q)))

pub few_targets : (b : Binding) → IsBinding b → length b.targets ≤ 65535
few_targets b is =
    let len = b.area_len in
    let ts = b.targets in
    let last = b.last_chosen_at in
    let room = tries_room len last ts is.each_inside is.each_alone is.pairs_apart in
    let most : length (map tries ts) ≤ length (range_with_len 0 len) =
    length-le_from_is_member nat_eq_equiv (map tries ts) (range_with_len 0 len) (tries_distinct ts (tries_pairs len last ts is.each_inside is.each_alone is.pairs_apart))
    (λ q h. all_below len q (member_below len q ts room h)) in
    omega (arith, length-map ts tries, length-range_with_len 0 len, most, is.area_most)

-- ---- bytes that stay

pub keeps_none : (b : Binding) (table : List ℕ) → KeepsOthers b table table
keeps_none b table = record { same_length = refl; bytes = λ k last others. refl }

put_keeps : (b : Binding) (old table : List ℕ) (at n : ℕ) → KeepsOthers b old table → at + 4 ≤ length table
    → ((k : ℕ) → IsOutside b.last_chosen_at k → All (λ t. IsOutside t.attempts_at k × IsOutside t.priority_at k) b.targets → IsOutside at k) → KeepsOthers b old (with_number table at n)
put_keeps b old table at n kept inside outside = record {
  same_length = number_length table at n inside ∙ kept.same_length;
  bytes = λ k last others. number_outside table at n k inside (outside k last others) ∙ kept.bytes k last others;
}

module _ (b : Binding) (is : IsBinding b) (old table : List ℕ) (sized : length old ≡ b.area_len) (kept : KeepsOthers b old table) where
  pub attempts_keep : (i : ℕ) (t : BoundTarget) (n : ℕ) → i < length b.targets → t ≡ get_or b.targets i t → KeepsOthers b old (with_number table t.attempts_at n)
  attempts_keep i t n inside at =
      let room : IsInside b.area_len t = subst (IsInside b.area_len) (sym at) (is.each_inside i t inside) in
      put_keeps b old table t.attempts_at n kept (omega (arith, room.attempts, kept.same_length, sized))
      (λ k last others. subst (λ (u : BoundTarget). IsOutside u.attempts_at k) (sym at) (others i t inside).0)

  pub priority_keeps : (i : ℕ) (t : BoundTarget) (n : ℕ) → i < length b.targets → t ≡ get_or b.targets i t → KeepsOthers b old (with_number table t.priority_at n)
  priority_keeps i t n inside at =
      let room : IsInside b.area_len t = subst (IsInside b.area_len) (sym at) (is.each_inside i t inside) in
      put_keeps b old table t.priority_at n kept (omega (arith, room.priority, kept.same_length, sized))
      (λ k last others. subst (λ (u : BoundTarget). IsOutside u.priority_at k) (sym at) (others i t inside).1)

  pub last_keeps : (n : ℕ) → KeepsOthers b old (with_number table b.last_chosen_at n)
  last_keeps n = put_keeps b old table b.last_chosen_at n kept (omega (arith, is.last_inside, kept.same_length, sized)) (λ k last others. last)

pub resets_keep : (b : Binding) (p a : Bool) (table : List ℕ) → IsBinding b → length table ≡ b.area_len → KeepsOthers b table (second a (first p table b.targets) b.targets)
resets_keep b p a table is sized = by_attempts a
  where
    room_p : EachOf (λ t. prio t + 4 ≤ b.area_len) b.targets
    room_p = prio_room b.area_len b.last_chosen_at b.targets is.each_inside is.each_alone is.pairs_apart

    room_t : EachOf (λ t. tries t + 4 ≤ b.area_len) b.targets
    room_t = tries_room b.area_len b.last_chosen_at b.targets is.each_inside is.each_alone is.pairs_apart

    sized' : length (first p table b.targets) ≡ b.area_len
    sized' = first_length b.area_len b.last_chosen_at b.targets is.each_inside is.each_alone is.pairs_apart p table sized

    by_priorities : (q : Bool) → (k : ℕ) → All (λ t. IsOutside t.attempts_at k × IsOutside t.priority_at k) b.targets → get_or (first q table b.targets) k 0 ≡ get_or table k 0
    by_priorities false k others = refl
    by_priorities true k others =
        written_outside prio (λ t. t.target.default_priority) b.area_len b.targets table k sized room_p
        (each_map (λ t. IsOutside t.attempts_at k × IsOutside t.priority_at k) (λ t. IsOutside (prio t) k) b.targets (λ t h. h.1) (each_of (λ t. IsOutside t.attempts_at k × IsOutside t.priority_at k) b.targets others))

    by_attempts : (c : Bool) → KeepsOthers b table (second c (first p table b.targets) b.targets)
    by_attempts false = record { same_length = sized' ∙ sym sized; bytes = λ k last others. by_priorities p k others }
    by_attempts true = record {
      same_length = written_length tries (λ t. t.target.default_attempts) b.area_len b.targets (first p table b.targets) sized' room_t ∙ sym sized;
      bytes = λ k last others.
          written_outside tries (λ t. t.target.default_attempts) b.area_len b.targets (first p table b.targets) k sized' room_t
          (each_map (λ t. IsOutside t.attempts_at k × IsOutside t.priority_at k) (λ t. IsOutside (tries t) k) b.targets (λ t h. h.0) (each_of (λ t. IsOutside t.attempts_at k × IsOutside t.priority_at k) b.targets others))
          ∙ by_priorities p k others;
    }

-- ---- spending

abbrev pub spent : Binding → List ℕ → BoundTarget → ℕ → ℕ → List ℕ
spent b table t target left = with_number (with_number table t.attempts_at left) b.last_chosen_at (target + 1)

pub spend_is : (b : Binding) (table : List ℕ) (target : ℕ) (t : BoundTarget) → target < length b.targets → t ≡ get_or b.targets target t
    → spend_of b table target ≡ cond (b.rules.disable_on_zero_attempts && (number_at table t.attempts_at - 1 == 0))
    (with_number (spent b table t target (number_at table t.attempts_at - 1)) t.priority_at 0) (spent b table t target (number_at table t.attempts_at - 1))
spend_is b table target t inside at =
    let left : ℕ → BoundTarget → List ℕ = λ n u. cond (b.rules.disable_on_zero_attempts && (n - 1 == 0)) (with_number (spent b table u target (n - 1)) u.priority_at 0) (spent b table u target (n - 1)) in
    let attempts : attempts_of b table target ≡ number_at table t.attempts_at = ap (λ (c : Count). c.attempts) (count_at (count_in table) b.targets target t inside at) in
    ap (λ (o : Option BoundTarget). option_map_or (left (attempts_of b table target)) o table) (slice_get_read b.targets (length b.targets) target t refl inside at)
    ∙ ap (λ n. left n t) attempts

-- a target that was chosen last is there
pub chosen_within : (b : Binding) (table : List ℕ) (target : ℕ) → Some target ≡ chosen_target b table → target < length b.targets
chosen_within b table target h = by (nat_lt 0 (last_chosen_of b table) && nat_le (last_chosen_of b table) (length b.targets)) refl
  where
    by : (t : Bool) → (nat_lt 0 (last_chosen_of b table) && nat_le (last_chosen_of b table) (length b.targets)) ≡ t → target < length b.targets
    by false e = let g : chosen_target b table ≡ None = rw e refl in let f : Some target ≡ None = h ∙ g in cc
    by true e =
        let g : chosen_target b table ≡ Some (last_chosen_of b table - 1) = rw e refl in
        let is : target ≡ last_chosen_of b table - 1 = ap (λ o. unwrap_or o target) (h ∙ g) in
        let parts = and_parts (nat_lt 0 (last_chosen_of b table)) (nat_le (last_chosen_of b table) (length b.targets)) e in
        let some = ltb-true 0 (last_chosen_of b table) parts.0 in
        let most = leb-true (last_chosen_of b table) (length b.targets) parts.1 in
        omega arith

pub spent_keeps : (b : Binding) → IsBinding b → (table : List ℕ) → length table ≡ b.area_len → (target : ℕ) (t : BoundTarget) (left : ℕ) → target < length b.targets → t ≡ get_or b.targets target t
    → KeepsOthers b table (spent b table t target left)
spent_keeps b is table sized target t left inside at =
    last_keeps b is table (with_number table t.attempts_at left) sized (attempts_keep b is table table sized (keeps_none b table) target t left inside at) (target + 1)

pub disabled_keeps : (b : Binding) → IsBinding b → (table : List ℕ) → length table ≡ b.area_len → (target : ℕ) (t : BoundTarget) (left : ℕ) → target < length b.targets → t ≡ get_or b.targets target t
    → KeepsOthers b table (with_number (spent b table t target left) t.priority_at 0)
disabled_keeps b is table sized target t left inside at =
    priority_keeps b is table (spent b table t target left) sized (spent_keeps b is table sized target t left inside at) target t 0 inside at

-- ---- targets that are disabled and enabled

pub disable_is : (b : Binding) (table : List ℕ) (target : ℕ) (t : BoundTarget) → target < length b.targets → t ≡ get_or b.targets target t
    → disable_of b table target ≡ with_number table t.priority_at 0
disable_is b table target t inside at =
    ap (λ (o : Option BoundTarget). option_map_or (λ (u : BoundTarget). with_number table u.priority_at 0) o table)
    (slice_get_read b.targets (length b.targets) target t refl inside at)

-- so it has no priority
pub disabled_without : (b : Binding) → IsBinding b → (table : List ℕ) → length table ≡ b.area_len → (target : ℕ) (t : BoundTarget) → target < length b.targets → t ≡ get_or b.targets target t
    → priority_of b (with_number table t.priority_at 0) target ≡ 0
disabled_without b is table sized target t inside at =
    let room : IsInside b.area_len t = subst (IsInside b.area_len) (sym at) (is.each_inside target t inside) in
    ap (λ (c : Count). c.priority) (count_at (count_in (with_number table t.priority_at 0)) b.targets target t inside at)
    ∙ number_same table t.priority_at 0 (omega (arith, room.priority, sized))

pub enable_is : (b : Binding) (table : List ℕ) (target : ℕ) (t : BoundTarget) → target < length b.targets → t ≡ get_or b.targets target t
    → enable_of b table target ≡ with_number (with_number table t.priority_at t.target.default_priority) t.attempts_at t.target.default_attempts
enable_is b table target t inside at =
    ap
    (λ (o : Option BoundTarget).
    option_map_or
    (λ (u : BoundTarget). with_number (with_number table u.priority_at u.target.default_priority) u.attempts_at u.target.default_attempts)
    o table)
    (slice_get_read b.targets (length b.targets) target t refl inside at)

-- so it has its defaults, where they are what is read of it
abbrev counted : ℕ → ℕ → Count
counted priority attempts = record { priority = priority; attempts = attempts }

pub enabled_defaults : (b : Binding) (table : List ℕ) (target : ℕ) (t : BoundTarget) → target < length b.targets → t ≡ get_or b.targets target t
    → number_at table t.priority_at ≡ t.target.default_priority → number_at table t.attempts_at ≡ t.target.default_attempts
    → HasDefaults b table target
enabled_defaults b table target t inside at priority attempts =
    subst (λ (o : Option BoundTarget). IfSome o (λ (u : BoundTarget). count_of (counts_of b table) target ≡ default_count u))
    (sym (slice_get_read b.targets (length b.targets) target t refl inside at))
    (count_at (count_in table) b.targets target t inside at
    ∙ ap (λ (n : ℕ). counted n (number_at table t.attempts_at)) priority ∙ ap (counted t.target.default_priority) attempts)
