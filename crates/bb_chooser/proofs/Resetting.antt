-- What a reset leaves to the targets.
use Rattle.std.proofs.Common.{◌≡◌, ℕ, ◌+◌, ◌<◌, ◌≤◌, ◌==◌, ◌&&◌, ◌||◌, Bool, true, false, List, All, AllPairs, cond, get_or, inl, inr, length, map, subst, sym, ap, ◌∙◌}
use Rattle.std.proofs.lemmas.Bool.{cases_order}
use Rattle.std.proofs.lemmas.List.Folds.{list_all-map}
use Rattle.std.specs.List.{list_all}
use Rattle.bb_chooser.proofs.Texts.{get_or_same}
use Rattle.bb_chooser.proofs.Writing.{EachOf, PairsOf, each_both, each_map, each_of, each_refl, flip, map_each, pairs_of, written_length, written_other, written_same}
use Rattle.bb_chooser.specs.After.{as_word, count_after, counts_after}
use Rattle.bb_chooser.specs.Binding.{Binding, IsBinding, IsInside, ShareNothing, StandApart, StandsAlone}
use Rattle.bb_chooser.specs.Choosing.{count_in, counts_of, number_at}
use Rattle.bb_chooser.specs.Resets.{after_priorities, has_cause, is_used_up, reset_of, resets_attempts, resets_priorities, with_attempts, with_priorities}
use Rattle.bb_chooser.specs.ResetsOf.{resets_of}
use Rattle.bb_chooser.specs.declared.bound_target.BoundTarget.{BoundTarget}
use Rattle.bb_chooser.specs.declared.cause.Cause.{Cause}
use Rattle.bb_chooser.specs.declared.count.Count.{Count}
use Rattle.bb_chooser.specs.declared.resets.Resets.{Resets}

abbrev pub prio : BoundTarget → ℕ
prio t = t.priority_at

abbrev pub tries : BoundTarget → ℕ
tries t = t.attempts_at

-- any two targets' priority and attempts, those of one target too
across : (ts : List BoundTarget) (last : ℕ) → All (StandsAlone last) ts → AllPairs StandApart ts → (i j : ℕ) (d : BoundTarget) → i < length ts → j < length ts
    → ShareNothing (prio (get_or ts i d)) (tries (get_or ts j d))
across ts last alone apart i j d a b =
    elim (cases_order i j) [
      | inl e ↦ subst (λ k. ShareNothing (prio (get_or ts i d)) (tries (get_or ts k d))) e (flip (tries (get_or ts i d)) (prio (get_or ts i d)) (alone i d a).own)
      | inr r ↦ elim r [
        | inl l ↦ flip (tries (get_or ts j d)) (prio (get_or ts i d)) (apart i j d l b).second_attempts
        | inr l ↦ flip (tries (get_or ts j d)) (prio (get_or ts i d)) (apart j i d l a).first_attempts
      ]
    ]

-- each priority is apart from all attempts
prio_apart : (ts : List BoundTarget) (last : ℕ) → All (StandsAlone last) ts → AllPairs StandApart ts → EachOf (λ t. EachOf (λ u. ShareNothing (prio t) (tries u)) ts) ts
prio_apart ts last alone apart =
    each_of (λ t. EachOf (λ u. ShareNothing (prio t) (tries u)) ts) ts
    (λ i d a. each_of (λ u. ShareNothing (prio (get_or ts i d)) (tries u)) ts
    (λ j e b. subst (λ (u : BoundTarget). ShareNothing (prio (get_or ts i d)) (tries u)) (get_or_same ts j d e b) (across ts last alone apart i j d a b)))

-- each target's attempts are apart from all priorities
tries_apart : (ts : List BoundTarget) (last : ℕ) → All (StandsAlone last) ts → AllPairs StandApart ts → EachOf (λ t. EachOf (λ u. ShareNothing (tries t) (prio u)) ts) ts
tries_apart ts last alone apart =
    each_of (λ t. EachOf (λ u. ShareNothing (tries t) (prio u)) ts) ts
    (λ i d a. each_of (λ u. ShareNothing (tries (get_or ts i d)) (prio u)) ts
    (λ j e b. subst (λ (u : BoundTarget). ShareNothing (tries (get_or ts i d)) (prio u)) (get_or_same ts j d e b)
    (flip (prio (get_or ts j d)) (tries (get_or ts i d)) (across ts last alone apart j i d b a))))

abbrev pub first : Bool → List ℕ → List BoundTarget → List ℕ
first p table ts = cond p (with_priorities table ts) table

abbrev pub second : Bool → List ℕ → List BoundTarget → List ℕ
second a table ts = cond a (with_attempts table ts) table

module _ (len last : ℕ) (ts : List BoundTarget) (inside : All (IsInside len) ts) (alone : All (StandsAlone last) ts) (apart : AllPairs StandApart ts) where
  pub prio_room : EachOf (λ t. prio t + 4 ≤ len) ts
  prio_room = each_map (IsInside len) (λ t. prio t + 4 ≤ len) ts (λ t h. h.priority) (each_of (IsInside len) ts inside)

  pub tries_room : EachOf (λ t. tries t + 4 ≤ len) ts
  tries_room = each_map (IsInside len) (λ t. tries t + 4 ≤ len) ts (λ t h. h.attempts) (each_of (IsInside len) ts inside)

  prio_pairs : PairsOf (λ t u. ShareNothing (prio t) (prio u)) ts
  prio_pairs = pairs_of (λ t u. ShareNothing (prio t) (prio u)) ts (λ i j d b l. (apart i j d b l).priorities)

  pub tries_pairs : PairsOf (λ t u. ShareNothing (tries t) (tries u)) ts
  tries_pairs = pairs_of (λ t u. ShareNothing (tries t) (tries u)) ts (λ i j d b l. (apart i j d b l).attempts)

  pub first_length : (p : Bool) (table : List ℕ) → length table ≡ len → length (first p table ts) ≡ len
  first_length true table sized = written_length prio (λ t. t.target.default_priority) len ts table sized prio_room
  first_length false table sized = sized

  first_prio : (p : Bool) (table : List ℕ) → length table ≡ len → EachOf (λ t. number_at (first p table ts) (prio t) ≡ cond p (as_word t.target.default_priority) (number_at table (prio t))) ts
  first_prio true table sized = written_same prio (λ t. t.target.default_priority) len ts table sized prio_room prio_pairs
  first_prio false table sized = each_refl (λ t. number_at table (prio t)) ts

  first_tries : (p : Bool) (table : List ℕ) → length table ≡ len → EachOf (λ t. number_at (first p table ts) (tries t) ≡ number_at table (tries t)) ts
  first_tries true table sized =
      each_map (λ t. EachOf (λ u. ShareNothing (tries t) (prio u)) ts) (λ t. number_at (first true table ts) (tries t) ≡ number_at table (tries t)) ts
      (λ t h. written_other prio (λ u. u.target.default_priority) len ts table (tries t) sized prio_room h) (tries_apart ts last alone apart)
  first_tries false table sized = each_refl (λ t. number_at table (tries t)) ts

  second_prio : (a : Bool) (table : List ℕ) → length table ≡ len → EachOf (λ t. number_at (second a table ts) (prio t) ≡ number_at table (prio t)) ts
  second_prio true table sized =
      each_map (λ t. EachOf (λ u. ShareNothing (prio t) (tries u)) ts) (λ t. number_at (second true table ts) (prio t) ≡ number_at table (prio t)) ts
      (λ t h. written_other tries (λ u. u.target.default_attempts) len ts table (prio t) sized tries_room h) (prio_apart ts last alone apart)
  second_prio false table sized = each_refl (λ t. number_at table (prio t)) ts

  second_tries : (a : Bool) (table : List ℕ) → length table ≡ len → EachOf (λ t. number_at (second a table ts) (tries t) ≡ cond a (as_word t.target.default_attempts) (number_at table (tries t))) ts
  second_tries true table sized = written_same tries (λ t. t.target.default_attempts) len ts table sized tries_room tries_pairs
  second_tries false table sized = each_refl (λ t. number_at table (tries t)) ts

  -- what both resets leave
  left : (p a : Bool) (table : List ℕ) → length table ≡ len
      → map (count_in (second a (first p table ts) ts)) ts ≡ counts_after (record { priorities = p; attempts = a }) table ts
  left p a table sized =
      let table' = first p table ts in
      let sized' = first_length p table sized in
      let resets : Resets = record { priorities = p; attempts = a } in
      let prios = each_both (λ t. number_at (second a table' ts) (prio t) ≡ number_at table' (prio t)) (λ t. number_at table' (prio t) ≡ cond p (as_word t.target.default_priority) (number_at table (prio t)))
      (λ t. number_at (second a table' ts) (prio t) ≡ cond p (as_word t.target.default_priority) (number_at table (prio t))) ts (λ t f g. f ∙ g) (second_prio a table' sized') (first_prio p table sized) in
      let attempts = each_both (λ t. number_at (second a table' ts) (tries t) ≡ cond a (as_word t.target.default_attempts) (number_at table' (tries t))) (λ t. number_at table' (tries t) ≡ number_at table (tries t))
      (λ t. number_at (second a table' ts) (tries t) ≡ cond a (as_word t.target.default_attempts) (number_at table (tries t))) ts
      (λ t f g. f ∙ ap (cond a (as_word t.target.default_attempts)) g) (second_tries a table' sized') (first_tries p table sized) in
      map_each (count_in (second a table' ts)) (count_after resets table) ts
      (each_both (λ t. number_at (second a table' ts) (prio t) ≡ cond p (as_word t.target.default_priority) (number_at table (prio t)))
      (λ t. number_at (second a table' ts) (tries t) ≡ cond a (as_word t.target.default_attempts) (number_at table (tries t)))
      (λ t. count_in (second a table' ts) t ≡ count_after resets table t) ts (λ t f g. λ j. record { priority = f j; attempts = g j }) prios attempts)

-- what the code finds that a reset does is what it does
pub resets_right : (b : Binding) (cause : Cause) (table : List ℕ) → IsBinding b → length table ≡ b.area_len
    → resets_of b cause table ≡ record { priorities = resets_priorities b table; attempts = resets_attempts b cause (after_priorities b table) }
resets_right b cause table is sized =
    let priorities : (b.rules.reset_priorities && list_all (λ t. number_at table t.priority_at == 0) b.targets) ≡ resets_priorities b table =
    ap (λ x. b.rules.reset_priorities && x) (sym (list_all-map (λ (n : Count). n.priority == 0) (count_in table) b.targets)) in
    let counts : (p : Bool) → counts_of b (first p table b.targets) ≡ counts_after (record { priorities = p; attempts = false }) table b.targets =
    λ p. left b.area_len b.last_chosen_at b.targets is.each_inside is.each_alone is.pairs_apart p false table sized in
    λ j. record {
      priorities = priorities j;
      attempts = has_cause b.rules.reset_attempts cause || (b.rules.reset_attempts.all_zero && is_used_up ((ap (λ p. counts_after (record { priorities = p; attempts = false }) table b.targets) priorities ∙ sym (counts (resets_priorities b table))) j));
    }

-- what is left after a reset
pub counts_left : (b : Binding) (cause : Cause) (table : List ℕ) → IsBinding b → length table ≡ b.area_len → counts_of b (reset_of b cause table) ≡ counts_after (resets_of b cause table) table b.targets
counts_left b cause table is sized =
    left b.area_len b.last_chosen_at b.targets is.each_inside is.each_alone is.pairs_apart (resets_priorities b table) (resets_attempts b cause (after_priorities b table)) table sized
    ∙ ap (λ r. counts_after r table b.targets) (sym (resets_right b cause table is sized))

-- the table after it
pub reset_is : (b : Binding) (cause : Cause) (table : List ℕ) (r : Resets) → IsBinding b → length table ≡ b.area_len → r ≡ resets_of b cause table
    → second r.attempts (first r.priorities table b.targets) b.targets ≡ reset_of b cause table
reset_is b cause table r is sized h =
    ap (λ (x : Resets). second x.attempts (first x.priorities table b.targets) b.targets) (h ∙ resets_right b cause table is sized)
