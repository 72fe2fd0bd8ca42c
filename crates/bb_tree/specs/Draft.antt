-- What a clause sees of a draft.
use Rattle.std.specs.Prelude.{ℕ, Bool, false, not, List, [], ◌∷◌, ◌++◌, Option, is_some, if◌then◌else◌}
use Rattle.std.specs.Option.{option_map_or}
use Rattle.std.specs.Str.{bytes_eq}
use Rattle.std.specs.Map.{lookup}
use Rattle.bb_tree.specs.declared.part.Part.{Part}
use Rattle.bb_tree.specs.Merge.{merged}
use Rattle.bb_tree.specs.Node.{Branch, bare}

-- labels, each with the path that it stands for, in the order in which they were given
abbrev pub Labels : Type 0
Labels = List (List ℕ × List ℕ)

-- the tree, whose values may hold references, the labels, and the reserved pairs of a place and a
-- length
pub record DraftValue : Type 0 where
  pub tree : Branch (List Part)
  pub labels : Labels
  pub reserved : List (ℕ × ℕ)

-- a root with nothing in it
abbrev pub empty_draft : DraftValue
empty_draft = record { tree = bare []; labels = []; reserved = [] }

-- the path that a label stands for
abbrev pub path_labelled : Labels → List ℕ → Option (List ℕ)
path_labelled labels label = lookup (bytes_eq label) labels

-- whether a label stands for another path already
abbrev pub names_another : Labels → List ℕ → List ℕ → Bool
names_another labels label path =
    option_map_or (λ p. not (bytes_eq p path)) (path_labelled labels label) false

-- the labels with one more last, or as they are where it is there
abbrev pub with_label : Labels → List ℕ → List ℕ → Labels
with_label labels label path =
    if is_some (path_labelled labels label) then labels else labels ++ (label, path) ∷ []

-- the draft with one more label, with one more reserved pair, and with a body merged into the node
-- at a path
abbrev pub draft_with_label : DraftValue → List ℕ → List ℕ → DraftValue
draft_with_label draft label path = record draft { labels = with_label draft.labels label path }

abbrev pub draft_with_pair : DraftValue → ℕ → ℕ → DraftValue
draft_with_pair draft place length =
    record draft { reserved = draft.reserved ++ (place, length) ∷ [] }

abbrev pub draft_with_body : DraftValue → List ℕ → Branch (List Part) → DraftValue
draft_with_body draft path body = record draft { tree = merged draft.tree path body }
