-- There is one menu of the items that were found: that into which each of them is put in its place.
use Rattle.std.proofs.Common.{◌≡◌, ◌⊎◌, ◌<◌, ℕ, zero, suc, Bool, true, false, cond, List, [], ◌∷◌, get_or, length, Some, Result, Ok, Err, IsOkAnd, Ordering, Less, Equal, Greater, refl, sym, ap, ap₂, subst, ◌∙◌, inl, inr, arith}
use Rattle.std.proofs.lemmas.List.Sorted.{Contains-permutation, IsPermutation-sym}
use Rattle.std.proofs.lemmas.Map.Keys.{IsDistinct-IsPermutation, IsDistinct-from_sorted, IsDistinct-head, IsDistinct-tail, sorted_from_all_adjacent, sorted_head, sorted_tail}
use Rattle.std.specs.Cmp.{eq_by_cmp_equiv}
use Rattle.std.specs.List.{AllAdjacentBelow, AllByRecursion, Contains, IsDistinct}
use Rattle.std.specs.List.Sorted.{IsPermutation, IsStrictlySortedBy}
use Rattle.std.specs.Ordering.{eq_by_cmp, is_eq, is_lt, ordering_reverse}
use Rattle.bb_menu.proofs.Orders.{menu_total, none_before_itself}
use Rattle.bb_menu.specs.Menu.{IsMenuOf, menu_answer_by, menu_of, menu_text, menu_with}
use Rattle.bb_menu.specs.Order.{MenuBefore, menu_cmp}
use Rattle.bb_menu.specs.declared.fault.MenuFault.{MenuFault}
use Rattle.bb_menu.specs.declared.item.MenuItem.{MenuItem}

-- ---- what stands in a list

-- the item stands in the list
abbrev Has : List MenuItem → MenuItem → Type 0
Has [] item = ⊥
Has (x ∷ items) item = (item ≡ x) ⊎ Has items item

has_at : (items : List MenuItem) (k : ℕ) (item : MenuItem) → k < length items → get_or items k item ≡ item → Has items item
has_at [] k item within is = absurd (omega (arith, within))
has_at (x ∷ items) zero item within is = inl (sym is)
has_at (x ∷ items) (suc k) item within is = inr (has_at items k item (omega (arith, within)) is)

place_of : (items : List MenuItem) (item : MenuItem) → Has items item → Contains items item
place_of [] item h = absurd h
place_of (x ∷ items) item (inl same) = (0, omega arith, sym same)
place_of (x ∷ items) item (inr h) = let later = place_of items item h in (suc later.0, (let within = later.1 in omega (arith, within)), later.2)

moved_has : (xs ys : List MenuItem) → IsPermutation xs ys → (item : MenuItem) → Has xs item → Has ys item
moved_has xs ys moved item h =
    let inside = Contains-permutation xs ys item moved (place_of xs item h) in
    has_at ys inside.0 item inside.1 inside.2

each_of : (P : MenuItem → Type 0) (items : List MenuItem) → ((item : MenuItem) → Has items item → P item) → AllByRecursion P items
each_of P [] h = tt
each_of P (x ∷ items) h = (h x (inl refl), each_of P items (λ item k. h item (inr k)))

of_each : (P : MenuItem → Type 0) (items : List MenuItem) → AllByRecursion P items → (item : MenuItem) → Has items item → P item
of_each P [] h item k = absurd k
of_each P (x ∷ items) h item (inl same) = subst P (sym same) h.0
of_each P (x ∷ items) h item (inr k) = of_each P items h.1 item k

-- ---- two lists that rise and have the same items are one

abbrev Rises : List MenuItem → Type 0
Rises = IsStrictlySortedBy menu_cmp

-- each item of one stands in the other
abbrev Within : List MenuItem → List MenuItem → Type 0
Within xs ys = (item : MenuItem) → Has xs item → Has ys item

never_both : (a b : MenuItem) → MenuBefore a b → MenuBefore b a → ⊥
never_both a b h k = none_before_itself a (menu_total.trans a b a h k)

module _ (x : MenuItem) (xs : List MenuItem) (rise : Rises (x ∷ xs)) where
  first_before : (item : MenuItem) → Has xs item → MenuBefore x item
  first_before item h = of_each (MenuBefore x) xs (sorted_head menu_cmp x xs rise) item h

  rest_within : (y : MenuItem) (ys : List MenuItem) → x ≡ y → Within (x ∷ xs) (y ∷ ys) → Within xs ys
  rest_within y ys same within item h = by (within item (inr h))
    where
      by : (item ≡ y) ⊎ Has ys item → Has ys item
      by (inl is) = absurd (none_before_itself x (subst (MenuBefore x) (is ∙ sym same) (first_before item h)))
      by (inr k) = k

one_list : (xs ys : List MenuItem) → Rises xs → Rises ys → Within xs ys → Within ys xs → xs ≡ ys
one_list [] [] rise up there back = refl
one_list [] (y ∷ ys) rise up there back = absurd (back y (inl refl))
one_list (x ∷ xs) [] rise up there back = absurd (there x (inl refl))
one_list (x ∷ xs) (y ∷ ys) rise up there back =
    let same = by (there x (inl refl)) (back y (inl refl)) in
    ap₂ (λ a b. a ∷ b) same
    (one_list xs ys (sorted_tail menu_cmp x xs rise) (sorted_tail menu_cmp y ys up)
    (rest_within x xs rise y ys same there) (rest_within y ys up x xs (sym same) back))
  where
    by : (x ≡ y) ⊎ Has ys x → (y ≡ x) ⊎ Has xs y → x ≡ y
    by (inl is) k = is
    by (inr h) (inl is) = sym is
    by (inr h) (inr k) = absurd (never_both x y (first_before x xs rise y k) (first_before y ys up x h))

-- ---- one item more

module _ (item : MenuItem) where
  with_has : (menu : List MenuItem) (other : MenuItem) → Has (menu_with item menu) other → (other ≡ item) ⊎ Has menu other
  with_has [] other h = h
  with_has (next ∷ menu) other h = by (is_lt (menu_cmp item next)) (λ k. with_has menu other k) h
    where
      passed : (other ≡ item) ⊎ Has menu other → (other ≡ item) ⊎ Has (next ∷ menu) other
      passed (inl is) = inl is
      passed (inr k) = inr (inr k)

      by : (b : Bool) → (Has (menu_with item menu) other → (other ≡ item) ⊎ Has menu other) →
          Has (cond b (item ∷ next ∷ menu) (next ∷ menu_with item menu)) other → (other ≡ item) ⊎ Has (next ∷ menu) other
      by true rest k = k
      by false rest (inl is) = inr (inl is)
      by false rest (inr k) = passed (rest k)

  has_with : (menu : List MenuItem) (other : MenuItem) → (other ≡ item) ⊎ Has menu other → Has (menu_with item menu) other
  has_with [] other h = h
  has_with (next ∷ menu) other h = by (is_lt (menu_cmp item next)) (λ k. has_with menu other k) h
    where
      by : (b : Bool) → ((other ≡ item) ⊎ Has menu other → Has (menu_with item menu) other) →
          (other ≡ item) ⊎ Has (next ∷ menu) other → Has (cond b (item ∷ next ∷ menu) (next ∷ menu_with item menu)) other
      by true rest k = k
      by false rest (inl is) = inr (rest (inl is))
      by false rest (inr (inl is)) = inl is
      by false rest (inr (inr k)) = inr (rest (inr k))

  -- no item of the menu ties with it
  abbrev Apart : List MenuItem → Type 0
  Apart menu = (other : MenuItem) → Has menu other → eq_by_cmp menu_cmp item other ≡ false

  with_rises : (menu : List MenuItem) → Apart menu → Rises menu → Rises (menu_with item menu)
  unfolding IsStrictlySortedBy
  with_rises [] apart rise = (tt, tt)
  with_rises (next ∷ menu) apart rise =
      by (menu_cmp item next) refl (with_rises menu (λ other h. apart other (inr h)) rise.1)
    where
      of_with : MenuBefore next item → (other : MenuItem) → (other ≡ item) ⊎ Has menu other → MenuBefore next other
      of_with before other (inl is) = subst (MenuBefore next) (sym is) before
      of_with before other (inr h) = first_before next menu rise other h

      by : (o : Ordering) → menu_cmp item next ≡ o → Rises (menu_with item menu) →
          Rises (cond (is_lt o) (item ∷ next ∷ menu) (next ∷ menu_with item menu))
      by Less e more =
          ((e, each_of (MenuBefore item) menu (λ other h. menu_total.trans item next other e (first_before next menu rise other h))), rise)
      by Equal e more = absurd (let no : true ≡ false = sym (ap is_eq e) ∙ apart next (inl refl) in cc)
      by Greater e more =
          let before : MenuBefore next item = menu_total.antisymm next item ∙ ap ordering_reverse e in
          (each_of (MenuBefore next) (menu_with item menu) (λ other h. of_with before other (with_has menu other h)), more)

-- ---- all items

found_has : (found : List MenuItem) → Within found (menu_of found)
found_has [] item h = h
found_has (x ∷ found) item (inl is) = has_with x (menu_of found) item (inl is)
found_has (x ∷ found) item (inr h) = has_with x (menu_of found) item (inr (found_has found item h))

menu_has : (found : List MenuItem) → Within (menu_of found) found
menu_has [] item h = h
menu_has (x ∷ found) item h = by (λ k. menu_has found item k) (with_has x (menu_of found) item h)
  where
    by : (Has (menu_of found) item → Has found item) → (item ≡ x) ⊎ Has (menu_of found) item → (item ≡ x) ⊎ Has found item
    by rest (inl is) = inl is
    by rest (inr k) = inr (rest k)

menu_rises : (found : List MenuItem) → IsDistinct (eq_by_cmp menu_cmp) found → Rises (menu_of found)
unfolding IsStrictlySortedBy
menu_rises [] distinct = tt
menu_rises (x ∷ found) distinct =
    with_rises x (menu_of found)
    (λ other h. of_each (λ y. eq_by_cmp menu_cmp x y ≡ false) found (IsDistinct-head (eq_by_cmp menu_cmp) x found distinct) other (menu_has found other h))
    (menu_rises found (IsDistinct-tail (eq_by_cmp menu_cmp) x found distinct))

menu_is_rising : (menu : List MenuItem) → AllAdjacentBelow MenuBefore menu (length menu) → Rises menu
unfolding IsStrictlySortedBy
menu_is_rising [] ordered = tt
menu_is_rising (x ∷ rest) ordered = sorted_from_all_adjacent menu_total (x ∷ rest) x (λ k inside. ordered k x inside)

-- the menu of what was found is that of the definition
pub one_menu : (found menu : List MenuItem) → IsMenuOf found menu → menu ≡ menu_of found
one_menu found menu is =
    let rise = menu_is_rising menu is.ordered in
    let back = IsPermutation-sym found menu is.each_once in
    let distinct = IsDistinct-IsPermutation (eq_by_cmp menu_cmp) (eq_by_cmp_equiv menu_total).symm menu found back (IsDistinct-from_sorted menu_cmp menu rise) in
    one_list menu (menu_of found) rise (menu_rises found distinct)
    (λ item h. found_has found item (moved_has menu found back item h))
    (λ item h. moved_has found menu is.each_once item (menu_has found item h))

-- the answer is the text of the menu that was read
pub answer_is : (found : Result (List MenuItem) MenuFault) (menu : List MenuItem) → IsOkAnd found (λ items. IsMenuOf items menu) →
    menu_answer_by found ≡ Ok (Some (menu_text menu))
answer_is (Ok items) menu h = ap (λ l. Ok (Some (menu_text l))) (sym (one_menu items menu h))
answer_is (Err fault) menu h = absurd h
