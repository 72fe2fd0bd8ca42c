-- Lists in which some items were written over.
use Rattle.std.proofs.Common.{◌≡◌, ℕ, ◌+◌, ◌-◌, ◌≤◌, ◌∙◌, List, ◌++◌, length, take, drop, ap, sym, arith, refl, length-append, length-take-le, take-add}
use Rattle.std.proofs.lemmas.Grind.{common_steps}
use Rattle.std.proofs.lemmas.List.{drop-drop, take-append-drop, drop_at}
use Rattle.bb_flash.specs.Image.{SameOutside, with_items_at}

pub length-with_items_at : {X : Type 0} → (at : ℕ) (new old : List X) → at + length new ≤ length old → length (with_items_at at new old) ≡ length old
length-with_items_at at new old inside = grind (arith, common_steps)

pub take-with_items_at : {X : Type 0} → (at : ℕ) (new old : List X) → at + length new ≤ length old → take at (with_items_at at new old) ≡ take at old
take-with_items_at at new old inside = grind (arith, common_steps)

pub drop-with_items_at : {X : Type 0} → (at len : ℕ) (new old : List X) → at + len ≤ length old → length new ≤ len → drop (at + len) (with_items_at at new old) ≡ drop (at + len) old
drop-with_items_at at len new old inside short =
    let sum : at + len ≡ at + length new + (len - length new) = omega arith in
    let front : length (take at old ++ new) ≡ at + length new = omega (arith, length-append (take at old) new, length-take-le at old (omega arith)) in
    ap (λ n. drop n (with_items_at at new old)) sum ∙ sym (drop-drop (len - length new) (at + length new) (with_items_at at new old))
    ∙ ap (drop (len - length new)) (drop_at (take at old ++ new) (drop (at + length new) old) (at + length new) front)
    ∙ drop-drop (len - length new) (at + length new) old ∙ ap (λ n. drop n old) (sym sum)

pub SameOutside-refl : {X : Type 0} → (at len : ℕ) (xs : List X) → SameOutside at len xs xs
SameOutside-refl at len xs = record { lengths = refl; front = refl; behind = refl }

pub SameOutside-trans : {X : Type 0} → (at len : ℕ) (xs ys zs : List X) → SameOutside at len xs ys → SameOutside at len ys zs → SameOutside at len xs zs
SameOutside-trans at len xs ys zs h k = record { lengths = k.lengths ∙ h.lengths; front = k.front ∙ h.front; behind = k.behind ∙ h.behind }

pub SameOutside-with_items_at : {X : Type 0} → (at len : ℕ) (new old : List X) → at + len ≤ length old → length new ≤ len → SameOutside at len old (with_items_at at new old)
SameOutside-with_items_at at len new old inside short = record {
  lengths = length-with_items_at at new old (omega arith);
  front = take-with_items_at at new old (omega arith);
  behind = drop-with_items_at at len new old inside short;
}

-- what was written over is written back
pub overwritten_back : {X : Type 0} → (at len : ℕ) (before after : List X) → at + len ≤ length before → SameOutside at len before after → with_items_at at (take len (drop at before)) after ≡ before
overwritten_back at len before after inside same =
    let size : length (take len (drop at before)) ≡ len = grind (arith, common_steps) in
    ap (λ n. take at after ++ take len (drop at before) ++ drop (at + n) after) size
    ∙ ap (λ rest. take at after ++ take len (drop at before) ++ rest) same.behind
    ∙ ap (λ front. front ++ take len (drop at before) ++ drop (at + len) before) same.front
    ∙ ap (λ front. front ++ drop (at + len) before) (sym (take-add at len before)) ∙ take-append-drop (at + len) before
