-- What std's sort leaves, by a closure that compares two entries of a menu.
use Rattle.std.proofs.Common.{◌≡◌, ◌+◌, true, false, List, Ordering, Bor, ap, sym, ◌∙◌, arith, get_or}
use Rattle.std.proofs.lemmas.List.MinMax.{ranks_by}
use Rattle.std.proofs.lemmas.List.Sorted.{answers_always}
use Rattle.std.specs.Fn.{Called}
use Rattle.std.specs.List.Sorted.{IsSortedByClosure}
use Rattle.std.specs.Ordering.{is_lt}
use denote.Param.Members.{Mut}
use Rattle.bb_menu.proofs.Orders.{menu_total}
use Rattle.bb_menu.specs.Menu.{IsArranged}
use Rattle.bb_menu.specs.Order.{menu_cmp}
use Rattle.bb_menu.specs.declared.item.MenuItem.{MenuItem}

pub arranged : {F : Type 0} (g : Mut F (Bor MenuItem × (Bor MenuItem × Unit {0})) Ordering) (f : F) (menu : List MenuItem) →
    IsSortedByClosure g f menu →
    ((f : F) (a : Bor MenuItem × (Bor MenuItem × Unit {0})) (r : Ordering) (f' : F) → Called g f a r f' → r ≡ menu_cmp a.0.now a.1.0.now) →
    IsArranged menu
arranged g f menu is_sorted answers k d inside before =
    let sorted =
    is_sorted (λ x y. is_lt (menu_cmp x y)) (ranks_by menu_total (λ i. i))
    (answers_always g (λ a r. is_lt r ≡ is_lt (menu_cmp a.0.now a.1.0.now)) f (λ f a r f' called. ap is_lt (answers f a r f' called))) in
    let none : is_lt (menu_cmp (get_or menu (k + 1) d) (get_or menu k d)) ≡ false = sorted k d (omega arith) inside in
    absurd (let no : true ≡ false = sym (ap is_lt before) ∙ none in cc)
