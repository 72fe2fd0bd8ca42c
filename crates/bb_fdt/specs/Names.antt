-- Names with where they begin in the strings block.
use Rattle.std.specs.Prelude.{◌≡◌, ℕ, ◌+◌, List, [], ◌∷◌, length, map}
use Rattle.bb_tree.specs.Blob.{strings_block}
use Rattle.bb_tree.specs.Texts.{texts_in}
use Rattle.bb_fdt.specs.declared.names.Names.TheInside.{Inside}

-- each name with where it begins, where the first one begins at `at`
abbrev pub with_places : ℕ → List (List ℕ) → List (List ℕ × ℕ)
with_places at [] = []
with_places at (name ∷ names) = (name, at) ∷ with_places (at + (length name + 1)) names

-- the names alone
abbrev pub found_names : Inside → List (List ℕ)
found_names n = map (λ e. e.0) (texts_in n.places.entries)

-- each name stands with its place, and the length is the strings block's
pub record ArePlaced (n : Inside) : Type 0 where
  pub places : texts_in n.places.entries ≡ with_places 0 (found_names n)
  pub len : n.len ≡ length (strings_block (found_names n))
