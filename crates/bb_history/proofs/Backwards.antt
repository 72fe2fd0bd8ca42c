-- A list that is kept from its end on.
use Rattle.std.proofs.Common.{◌≡◌, ℕ, ◌-◌, ◌<◌, List, [], ◌∷◌, ◌++◌, get_or, length, reverse, Result, Ok, Err, OnErr, Some, refl, sym, ap, ◌∙◌, arith}
use Rattle.std.specs.Prelude.{slice_get}
use Rattle.std.proofs.lemmas.List.{get_or-reverse, length-reverse, reverse-append}
use Rattle.std.proofs.lemmas.Option.{slice_get_read}

pub as_long : (found list : List ℕ) → reverse found ≡ list → length found ≡ length list
as_long found list is = sym (length-reverse found) ∙ ap length is

-- what is put after all stands in front
pub pushed_back : (found list new : List ℕ) (place : ℕ) → reverse found ≡ list →
    new ≡ found ++ place ∷ [] → reverse new ≡ place ∷ list
pushed_back found list new place is pushed =
    ap reverse pushed ∙ reverse-append found (place ∷ []) ∙ ap (λ l. place ∷ l) is

-- where a push is refused
pub on_err : {T E P : Type 0} (r : Result T E) → P → OnErr r P
on_err (Ok done) p = tt
on_err (Err fault) p = p

-- and an item is counted from the end
pub at_back : (found list : List ℕ) (number place item : ℕ) → reverse found ≡ list →
    number < length list → place ≡ length found - 1 - number → item ≡ get_or found place item →
    slice_get list number ≡ Some item
at_back found list number place item is inside place_is item_is =
    let long = as_long found list is in
    slice_get_read list (length list) number item refl inside
    (item_is ∙ ap (λ p. get_or found p item) place_is
    ∙ sym (get_or-reverse found number item (omega (arith, long, inside)))
    ∙ ap (λ l. get_or l number item) is)
