-- The order of a menu is a total one.
use Rattle.std.proofs.Common.{◌≡◌, ◌⊎◌, ℕ, Bool, true, List, [], ◌∷◌, length, ap₂, arith, if◌then◌else◌, inl, inr, refl, sym, ◌∙◌, Ordering, Less, Equal, Greater}
use Rattle.std.specs.Cmp.{IsTotalOrder, back_total, bool_cmp_total, nat_cmp_total, on_total, then_total, tied_itself}
use Rattle.std.specs.Cmp.Lexicographic.{lists_total, nat_list_cmp_total}
use Rattle.std.specs.FinMap.{nat_cmp-IsAntisymmetric, slice_cmp-IsAntisymmetric}
use Rattle.std.proofs.lemmas.Bool.Decides.{nat_tests}
use Rattle.std.specs.Prelude.{◌==◌}
use Rattle.bb_bls.specs.declared.entry.Entry.{Entry}
use Rattle.std.specs.Ordering.{bool_cmp, ordering_reverse, ordering_then}
use Rattle.bb_menu.specs.Version.{letters_in_token, number_in_token, rank_of_token, text_cmp, token_cmp, version_cmp, version_tokens}
use Rattle.bb_menu.specs.Order.{BeforePassesOn, MenuBefore, NoneBeforeItself, OneBeforeOther, entry_cmp, lacks_sort_key, machine_sorted, menu_cmp, menu_stem, version_sorted}
use Rattle.bb_menu.specs.declared.item.MenuItem.{MenuItem}

pub token_total : IsTotalOrder token_cmp
token_total =
    then_total (on_total rank_of_token nat_cmp_total)
    (then_total (on_total letters_in_token nat_list_cmp_total) (on_total number_in_token nat_cmp_total))

pub version_total : IsTotalOrder version_cmp
version_total = on_total version_tokens (lists_total token_total)

pub entry_total : IsTotalOrder entry_cmp
entry_total =
    then_total (on_total lacks_sort_key bool_cmp_total)
    (then_total (on_total (λ e. e.sort_key) nat_list_cmp_total)
    (then_total (on_total machine_sorted nat_list_cmp_total) (back_total (on_total version_sorted version_total))))

pub menu_total : IsTotalOrder menu_cmp
menu_total =
    then_total (on_total (λ i. i.entry) entry_total)
    (then_total (back_total (on_total (λ i. menu_stem i.name) version_total)) (on_total (λ i. i.name) nat_list_cmp_total))

-- ---- entries that tie have one name

last_of_then : (o p : Ordering) → ordering_then o p ≡ Equal → p ≡ Equal
last_of_then Less p h = absurd cc
last_of_then Equal p h = h
last_of_then Greater p h = absurd cc

pub tied_names : (a b : MenuItem) → menu_cmp a b ≡ Equal → a.name ≡ b.name
tied_names a b h =
    let names = last_of_then (version_cmp (menu_stem b.name) (menu_stem a.name)) (text_cmp a.name b.name)
    (last_of_then (entry_cmp a.entry b.entry) _ h) in
    slice_cmp-IsAntisymmetric nat_cmp-IsAntisymmetric a.name b.name names

-- ---- two entries without a sort key tie

entry_by : Bool → Bool → List ℕ → List ℕ → List ℕ → List ℕ → List ℕ → List ℕ → Ordering
entry_by a b key other_key machine other_machine version other_version =
    ordering_then (bool_cmp a b)
    (ordering_then (text_cmp key other_key)
    (ordering_then (text_cmp (if a then [] else machine) (if b then [] else other_machine))
    (version_cmp (if b then [] else other_version) (if a then [] else version))))

empty_text : (text : List ℕ) → (length text == 0) ≡ true → text ≡ []
empty_text [] h = refl
empty_text (c ∷ text) h = absurd (grind (arith, nat_tests))

pub both_lack : (a b : Entry) → lacks_sort_key a ≡ true → lacks_sort_key b ≡ true → entry_cmp a b ≡ Equal
unfolding entry_by
both_lack a b h k =
    let keys : entry_by true true a.sort_key b.sort_key a.machine_id b.machine_id a.version b.version ≡ version_cmp [] [] =
    ap₂ (λ x y. entry_by true true x y a.machine_id b.machine_id a.version b.version) (empty_text a.sort_key h) (empty_text b.sort_key k) in
    ap₂ (λ x y. entry_by x y a.sort_key b.sort_key a.machine_id b.machine_id a.version b.version) h k ∙ keys ∙ tied_itself version_total []

-- ---- the laws

never_less : (o : Ordering) → o ≡ Equal → ¬ (o ≡ Less)
never_less o e h = absurd cc

pub none_before_itself : NoneBeforeItself
none_before_itself a h = never_less (menu_cmp a a) (tied_itself menu_total a) h

pub one_before_other : OneBeforeOther
one_before_other a b other = by (menu_cmp a b) refl
  where
    back : (o : Ordering) → Greater ≡ ordering_reverse o → o ≡ Less
    back Less e = refl
    back Equal e = absurd cc
    back Greater e = absurd cc

    by : (o : Ordering) → menu_cmp a b ≡ o → MenuBefore a b ⊎ MenuBefore b a
    by Less e = inl e
    by Equal e = absurd (other (tied_names a b e))
    by Greater e = inr (back (menu_cmp b a) (sym e ∙ menu_total.antisymm a b))

pub before_passes_on : BeforePassesOn
before_passes_on a b c h k = menu_total.trans a b c h k
