-- The first entry of a menu: what it was read of, and that it stands in front of all others.
use Rattle.std.proofs.Common.{◌≡◌, ◌⊎◌, ◌<◌, ℕ, zero, suc, Bool, true, false, cond, List, [], ◌∷◌, All, get_or, length, Some, None, Ordering, Less, Equal, refl, sym, ap, subst, ◌∙◌, inl, inr, arith, slice_get}
use Rattle.std.proofs.lemmas.List.Elements.{All-cons, All-head, All-nil, All-tail}
use Rattle.std.proofs.lemmas.List.Sorted.{All-permutation, Contains-permutation, IsPermutation-sym}
use Rattle.std.proofs.lemmas.Map.Keys.{sorted_from_all_adjacent, sorted_head}
use Rattle.std.specs.Cmp.{tied_itself}
use Rattle.std.specs.List.{AllByRecursion, cons_option, fold}
use Rattle.std.specs.List.Sorted.{IsPermutation}
use Rattle.std.specs.Ordering.{is_lt, ordering_reverse}
use Rattle.bb_base.specs.Folder.{Folder}
use Rattle.bb_menu.proofs.Orders.{menu_total}
use Rattle.bb_menu.specs.Menu.{FileRead, IsMenuOf, IsMenuRead, IsReadOf, first_item, foremost, item_of_text, items_read}
use Rattle.bb_menu.specs.Order.{MenuBefore, menu_cmp}
use Rattle.bb_menu.specs.declared.item.MenuItem.{MenuItem}

-- ---- what it was read of

-- an item of a file that was read
pub record IsItemOf (folder : Folder) (dir : List ℕ) (item : MenuItem) : Type 0 where
  pub read : FileRead
  pub gives : item_of_text read.0 read.1 ≡ Some item
  pub told : IsReadOf folder dir read

module _ (folder : Folder) (dir : List ℕ) where
  items_are_read : (reads : List FileRead) → All (IsReadOf folder dir) reads → All (IsItemOf folder dir) (items_read reads)
  items_are_read [] told = All-nil (IsItemOf folder dir)
  items_are_read (r ∷ reads) told =
      let rest = items_are_read reads (All-tail (IsReadOf folder dir) r reads told) in
      elim (item_of_text r.0 r.1) as (λ o. item_of_text r.0 r.1 ≡ o → All (IsItemOf folder dir) (cons_option o (items_read reads))) [
        | None ↦ λ _. rest
        | Some item ↦ λ is. All-cons (IsItemOf folder dir) item (items_read reads)
            (record { read = r; gives = is; told = All-head (IsReadOf folder dir) r reads told })
            rest
      ] refl

  pub first_is_read : (menu : List MenuItem) → IsMenuRead folder dir menu → (item : MenuItem) → slice_get menu 0 ≡ Some item →
      IsItemOf folder dir item
  first_is_read menu read item there =
      by menu there (All-permutation (IsItemOf folder dir) (items_read read.reads) menu read.each_once (items_are_read read.reads read.told))
    where
      by : (menu : List MenuItem) → slice_get menu 0 ≡ Some item → All (IsItemOf folder dir) menu → IsItemOf folder dir item
      by [] there each = absurd cc
      by (first ∷ rest) there each =
          let same : first ≡ item = cc in
          subst (IsItemOf folder dir) same (All-head (IsItemOf folder dir) first rest each)

-- ---- it stands in front of all others

-- m is this item, or stands in front of it
abbrev Leads : MenuItem → MenuItem → Type 0
Leads m item = (item ≡ m) ⊎ MenuBefore m item

not_less : (o : Ordering) → o ≡ Equal → is_lt o ≡ false
not_less o e = ap is_lt e

module _ (m : MenuItem) where
  -- nothing takes its place
  kept : (item : MenuItem) → Leads m item → foremost m item ≡ m
  kept item (inl same) =
      let never : is_lt (menu_cmp item m) ≡ false = ap (λ i. is_lt (menu_cmp i m)) same ∙ not_less (menu_cmp m m) (tied_itself menu_total m) in
      ap (λ b. cond b item m) never
  kept item (inr before) =
      let never : is_lt (menu_cmp item m) ≡ false = ap is_lt (menu_total.antisymm item m ∙ ap ordering_reverse before) in
      ap (λ b. cond b item m) never

  -- and it takes that of others
  taken : (item : MenuItem) → MenuBefore m item → foremost item m ≡ m
  taken item before = ap (λ o. cond (is_lt o) m item) before

  one_of : (a item : MenuItem) → Leads m a → Leads m item → Leads m (foremost a item)
  one_of a item here there = by (is_lt (menu_cmp item a))
    where
      by : (b : Bool) → Leads m (cond b item a)
      by true = there
      by false = here

  stays : (items : List MenuItem) → AllByRecursion (Leads m) items → fold foremost m items ≡ m
  stays [] each = refl
  stays (item ∷ items) each = ap (λ a. fold foremost a items) (kept item each.0) ∙ stays items each.1

  comes : (a : MenuItem) (items : List MenuItem) → Leads m a → AllByRecursion (Leads m) items → (k : ℕ) → k < length items →
      get_or items k m ≡ m → fold foremost a items ≡ m
  comes a items (inl same) each k within is = ap (λ x. fold foremost x items) same ∙ stays items each
  comes a [] (inr before) each k within is = absurd (omega (arith, within))
  comes a (item ∷ items) (inr before) each zero within is =
      let turn : foremost a item ≡ m = ap (foremost a) is ∙ taken a before in
      ap (λ x. fold foremost x items) turn ∙ stays items each.1
  comes a (item ∷ items) (inr before) each (suc k) within is =
      comes (foremost a item) items (one_of a item (inr before) each.0) each.1 k (omega (arith, within)) is

  first_of : (items : List MenuItem) → AllByRecursion (Leads m) items → (k : ℕ) → k < length items → get_or items k m ≡ m →
      first_item items ≡ Some m
  first_of [] each k within is = absurd (omega (arith, within))
  first_of (item ∷ items) each zero within is = ap Some (ap (λ x. fold foremost x items) is ∙ stays items each.1)
  first_of (item ∷ items) each (suc k) within is = ap Some (comes item items each.0 each.1 k (omega (arith, within)) is)

by_recursion : {X : Type 0} (P : X → Type 0) (xs : List X) → All P xs → AllByRecursion P xs
by_recursion P [] h = tt
by_recursion P (x ∷ xs) h = (All-head P x xs h, by_recursion P xs (All-tail P x xs h))

all_by : {X : Type 0} (P : X → Type 0) (xs : List X) → AllByRecursion P xs → All P xs
all_by P [] h = All-nil P
all_by P (x ∷ xs) h = All-cons P x xs h.0 (all_by P xs h.1)

behind : (m : MenuItem) (items : List MenuItem) → AllByRecursion (λ item. menu_cmp m item ≡ Less) items → AllByRecursion (Leads m) items
behind m [] h = tt
behind m (item ∷ items) h = (inr h.0, behind m items h.1)

pub first_found : (found menu : List MenuItem) → IsMenuOf found menu → slice_get menu 0 ≡ first_item found
first_found found [] menu = by found (IsPermutation-sym found [] menu.each_once)
  where
    by : (found : List MenuItem) → IsPermutation [] found → None ≡ first_item found
    by [] same = refl
    by (item ∷ items) same =
        let inside = Contains-permutation (item ∷ items) [] item (IsPermutation-sym [] (item ∷ items) same) (0, omega arith, refl) in
        absurd (let within = inside.1 in omega (arith, within))
first_found found (m ∷ rest) menu =
    let rise = sorted_from_all_adjacent menu_total (m ∷ rest) m (λ k inside. menu.ordered k m inside) in
    let each : All (Leads m) (m ∷ rest) =
    all_by (Leads m) (m ∷ rest) (inl refl, behind m rest (sorted_head menu_cmp m rest rise)) in
    let back = IsPermutation-sym found (m ∷ rest) menu.each_once in
    let inside = Contains-permutation (m ∷ rest) found m back (0, omega arith, refl) in
    sym (first_of m found (by_recursion (Leads m) found (All-permutation (Leads m) (m ∷ rest) found back each)) inside.0 inside.1 inside.2)
