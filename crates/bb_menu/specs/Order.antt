-- In which order the entries of a menu stand, as the Boot Loader Specification ("Sorting", UAPI.1)
-- says it. That names decide last, by their bytes, is this project's profile.
use Rattle.std.specs.Prelude.{◌≡◌, ◌≢◌, ◌⊎◌, ℕ, ◌-◌, ◌==◌, ◌&&◌, Bool, List, [], codes, length, nat_eq, nat_lt, take, if◌then◌else◌}
use Rattle.std.specs.List.{ends_with}
use Rattle.std.specs.Ordering.{bool_cmp, flip_args, on, then_cmp}
use Rattle.std.specs.declared.cmp.Ordering.{Ordering}
use Rattle.std.specs.declared.cmp.Ordering.TheVariants.{Less}
use Rattle.bb_bls.specs.declared.entry.Entry.{Entry}
use Rattle.bb_menu.specs.Version.{text_cmp, version_cmp}
use Rattle.bb_menu.specs.declared.item.MenuItem.{MenuItem}

-- ---- names of entries' files

-- the ending of an entry's file name
abbrev pub conf_ending : List ℕ
conf_ending = codes ".conf"

-- a name that a menu takes in: one that ends so, and has something before that
abbrev pub is_menu_name : List ℕ → Bool
is_menu_name name = nat_lt 5 (length name) && ends_with nat_eq name conf_ending

-- a name without that ending
abbrev pub menu_stem : List ℕ → List ℕ
menu_stem name = if ends_with nat_eq name conf_ending then take (length name - 5) name else name

-- ---- the order

-- it has no key `sort-key`
abbrev pub lacks_sort_key : Entry → Bool
lacks_sort_key entry = length entry.sort_key == 0

-- machine and version count only beside a sort key
abbrev pub machine_sorted : Entry → List ℕ
machine_sorted entry = if lacks_sort_key entry then [] else entry.machine_id

abbrev pub version_sorted : Entry → List ℕ
version_sorted entry = if lacks_sort_key entry then [] else entry.version

-- entries with a sort key come first, by that key rising, then machine rising, then version falling
abbrev pub entry_cmp : Entry → Entry → Ordering
entry_cmp =
    then_cmp (on lacks_sort_key bool_cmp)
    (then_cmp (on (λ e. e.sort_key) text_cmp)
    (then_cmp (on machine_sorted text_cmp) (flip_args (on version_sorted version_cmp))))

-- then by names: without the ending as versions, falling, and at last by their bytes, rising
abbrev pub menu_cmp : MenuItem → MenuItem → Ordering
menu_cmp =
    then_cmp (on (λ i. i.entry) entry_cmp)
    (then_cmp (flip_args (on (λ i. menu_stem i.name) version_cmp)) (on (λ i. i.name) text_cmp))

-- an entry under its file's name
abbrev pub named_entry : List ℕ → Entry → MenuItem
named_entry name entry = record { name = name; entry = entry }

-- it stands in front of the other
abbrev pub MenuBefore : MenuItem → MenuItem → Type 0
MenuBefore a b = menu_cmp a b ≡ Less

-- ---- its laws

-- no entry stands in front of itself
abbrev pub NoneBeforeItself : Type 0
NoneBeforeItself = (a : MenuItem) → ¬ MenuBefore a a

-- of two entries with different names one stands in front of the other
abbrev pub OneBeforeOther : Type 0
OneBeforeOther = (a b : MenuItem) → a.name ≢ b.name → MenuBefore a b ⊎ MenuBefore b a

-- what stands in front of an entry does so of all that this one stands in front of
abbrev pub BeforePassesOn : Type 0
BeforePassesOn = (a b c : MenuItem) → MenuBefore a b → MenuBefore b c → MenuBefore a c
