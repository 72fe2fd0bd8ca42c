-- Phandles taken into a set.
use Rattle.std.specs.Prelude.{◌≡◌, ◌≢◌, ◌<◌, ◌≤◌, ◌-◌, ◌^◌, codes, ℕ, ◌==◌, Bool, true, false, List, [], ◌∷◌, ◌++◌, Option, Some, None, Result, Ok, Err, fold, length, if◌then◌else◌}
use Rattle.std.specs.List.{list_any, find}
use Rattle.std.specs.Option.{option_map_or}
use Rattle.bb_tree.specs.Node.{Branch}
use Rattle.bb_tree.specs.Draft.{Labels}
use Rattle.bb_tree.specs.declared.tree_error.TreeError.{TreeError}
use Rattle.bb_tree.specs.declared.tree_error.TreeError.TheVariants.{NoMemory, DuplicatePhandle, NoSuchLabel}
use Rattle.bb_tree.specs.declared.part.Part.{Part}
use Rattle.bb_tree.specs.declared.slot.Slot.{Slot}
use Rattle.bb_tree.specs.Slots.{Changes, LeadTo, IsSound, with_prop, props_at, slots_tree}
use Rattle.bb_tree.specs.Resolve.{is_distinct, is_unresolved, references, with_phandles, phandle_among, phandle_value, phandles, with_phandle}

-- whether a number is taken
abbrev pub is_taken : List ℕ → ℕ → Bool
is_taken taken n = list_any (λ m. n == m) taken

-- what comes of taking a number
abbrev pub TakesNumber : ℕ → List ℕ → List ℕ → Result (Unit {0}) TreeError → Type 0
TakesNumber n old new (Ok done) = (is_taken old n ≡ false) × (new ≡ old ++ n ∷ [])
TakesNumber n old new (Err e) = e ≢ NoMemory → (e ≡ DuplicatePhandle) × (is_taken old n ≡ true)

-- what comes of taking a node's phandle, if it has one
abbrev pub TakesPhandle : Option ℕ → List ℕ → List ℕ → Result (Unit {0}) TreeError → Type 0
TakesPhandle None old new (Ok done) = new ≡ old
TakesPhandle None old new (Err e) = e ≢ NoMemory → ⊥
TakesPhandle (Some n) old new r = TakesNumber n old new r

-- what comes of taking the phandles of nodes with these properties
abbrev pub TakesAll : List ℕ → List ℕ → Result (Unit {0}) TreeError → Type 0
TakesAll hs taken (Ok done) = (is_distinct hs ≡ true) × (taken ≡ hs)
TakesAll hs taken (Err e) = e ≢ NoMemory → (e ≡ DuplicatePhandle) × (is_distinct hs ≡ false)

-- from 1 on, all numbers below n are taken
abbrev pub TakenBelow : List ℕ → ℕ → Type 0
TakenBelow taken n = (m : ℕ) → 1 ≤ m → m < n → is_taken taken m ≡ true

-- a phandle for the node of slot k, which is the least number that is free
pub record GetsPhandle (k n : ℕ) (old new : List Slot) (taken more : List ℕ) : Type 0 where
  pub changes : Changes k (with_prop (codes "phandle") (phandle_value n)) old new
  pub free : is_taken taken n ≡ false
  pub least : TakenBelow taken n
  pub some : 1 ≤ n
  pub within : n < 2 ^ 32 - 1
  pub more_is : more ≡ taken ++ n ∷ []

-- a node that has a phandle stays as it is
pub record KeepsPhandle (k : ℕ) (old new : List Slot) (taken more : List ℕ) : Type 0 where
  pub kept : new ≡ old
  pub more_is : more ≡ taken

-- what comes of giving the node of slot k a phandle: nothing where it has one, else a new one
abbrev pub GivesBy : Option ℕ → ℕ → List Slot → List Slot → List ℕ → List ℕ → ℕ → Type 0
GivesBy None k old new taken more n = GetsPhandle k n old new taken more
GivesBy (Some h) k old new taken more n = KeepsPhandle k old new taken more × (1 ≤ n) × TakenBelow taken n

abbrev pub GivesPhandles : ℕ → List Slot → List Slot → List ℕ → List ℕ → ℕ → Type 0
GivesPhandles k old new taken more n = GivesBy (phandle_among (props_at old k)) k old new taken more n

-- names that lead to slots, one after another
abbrev pub LeadAll : List Slot → List (List (List ℕ)) → List ℕ → Type 0
LeadAll slots [] [] = Unit {0}
LeadAll slots [] (k ∷ ks) = ⊥
LeadAll slots (ns ∷ names) [] = ⊥
LeadAll slots (ns ∷ names) (k ∷ ks) = LeadTo slots ns k × LeadAll slots names ks

-- the numbers that are taken are the phandles of the tree
abbrev pub AreTaken : List Slot → List ℕ → Type 0
AreTaken slots taken = (m : ℕ) → is_taken taken m ≡ is_taken (phandles (slots_tree slots)) m

-- the nodes of some slots got phandles, one after another
pub record IsNumbered (targets : List ℕ) (old new : List Slot) : Type 0 where
  pub sound : IsSound new
  pub longer : length old ≤ length new
  pub leads : (names : List (List ℕ)) (c : ℕ) → LeadTo old names c → LeadTo new names c
  pub tree :
      (names : List (List (List ℕ))) → LeadAll old names targets
      → slots_tree new ≡ fold with_phandle (slots_tree old) names

-- why a draft with these labels and this tree has no finished tree
abbrev pub refusal : Labels → Branch (List Part) → Option TreeError
refusal labels tree =
    option_map_or (λ r. Some (NoSuchLabel r.at))
    (find (is_unresolved labels tree) (references tree))
    (if is_distinct (phandles tree) then None else Some DuplicatePhandle)

-- what comes of giving phandles to all nodes that are referred to inside `< >`
abbrev pub Resolves : Labels → Branch (List Part) → List Slot → Result (Unit {0}) TreeError → Type 0
Resolves labels tree new (Ok done) =
    (refusal labels tree ≡ None) × IsSound new × (0 < length new)
    × (slots_tree new ≡ with_phandles labels tree)
Resolves labels tree new (Err e) = e ≢ NoMemory → refusal labels tree ≡ Some e
