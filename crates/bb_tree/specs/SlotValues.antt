-- What labels and values stand for, read from slots.
use Rattle.std.specs.Prelude.{◌≡◌, ◌≢◌, ℕ, Bool, List, ◌++◌, Option, Some, None, Result, Ok, Err, is_none, map, option_and_then, unwrap_or, if◌then◌else◌}
use Rattle.std.specs.Option.{option_map, option_to_list}
use Rattle.bb_tree.specs.declared.tree_error.TreeError.{TreeError}
use Rattle.bb_tree.specs.declared.tree_error.TreeError.TheVariants.{NoMemory, NoSuchLabel}
use Rattle.std.specs.List.{flat_map, filter_map, find}
use Rattle.bb_tree.specs.declared.part.Part.{Part}
use Rattle.bb_tree.specs.declared.slot.Slot.{Slot}
use Rattle.bb_tree.specs.Node.{Branch, with_values}
use Rattle.bb_tree.specs.Draft.{Labels, path_labelled}
use Rattle.bb_tree.specs.Resolve.{Reference, reference_in, resolved_part, phandle_among}
use Rattle.bb_tree.specs.Slots.{props_at, nodes_at, slot_at_path, slots_tree}

-- the slot that a label stands for
abbrev pub slot_labelled : Labels → List Slot → List ℕ → Option ℕ
slot_labelled labels slots label =
    option_and_then (λ path. slot_at_path slots path) (path_labelled labels label)

-- a part and a value resolved
abbrev pub part_in : Labels → List Slot → Part → List ℕ
part_in labels slots part = resolved_part labels (slots_tree slots) part

abbrev pub slot_value : Labels → List Slot → List Part → List ℕ
slot_value labels slots parts = flat_map (resolved_part labels (slots_tree slots)) parts

-- the properties resolved
abbrev pub values_in : Labels → List Slot → List (List ℕ × List Part) → List (List ℕ × List ℕ)
values_in labels slots props = map (λ p. (p.0, slot_value labels slots p.1)) props

-- a slot and what is under it, as a finished node of that name
abbrev pub finished_node : Labels → List Slot → List ℕ → ℕ → Branch (List ℕ)
finished_node labels slots name k =
    with_values (slot_value labels slots)
    (record { name = name; props = props_at slots k; nodes = nodes_at slots k })

-- whether a reference's label stands for no slot
abbrev pub is_dangling : Labels → List Slot → Reference → Bool
is_dangling labels slots r = is_none (slot_labelled labels slots r.label)

-- the slot that a reference inside `< >` leads to
abbrev pub cell_slot : Labels → List Slot → Reference → Option ℕ
cell_slot labels slots r = if r.is_cell then slot_labelled labels slots r.label else None

-- what a survey of references gives: the slots that those inside `< >` lead to, or the first that
-- is lost
abbrev pub Surveys :
    Labels → List Slot → List Reference → List ℕ → List ℕ → Result (Unit {0}) TreeError → Type 0
Surveys labels slots rs old new (Ok done) =
    (find (is_dangling labels slots) rs ≡ None) × (new ≡ old ++ filter_map (cell_slot labels slots) rs)
Surveys labels slots rs old new (Err e) =
    e ≢ NoMemory → option_map (λ r. NoSuchLabel r.at) (find (is_dangling labels slots) rs) ≡ Some e

-- the references of a part, of a value, of a property, of properties, and of the properties of some
-- slots
abbrev pub references_of_part : Part → List Reference
references_of_part part = option_to_list (reference_in part)

abbrev pub references_of_value : List Part → List Reference
references_of_value parts = filter_map reference_in parts

abbrev pub references_of_prop : List ℕ × List Part → List Reference
references_of_prop p = references_of_value p.1

abbrev pub references_of_props : List (List ℕ × List Part) → List Reference
references_of_props props = flat_map references_of_prop props

abbrev pub references_at : List Slot → List ℕ → List Reference
references_at slots order = flat_map references_of_props (map (props_at slots) order)

-- the phandle of the node of a slot, those of the nodes of some slots, and that of the node that a
-- label stands for, 0 where there is none
abbrev pub phandle_at : List Slot → ℕ → Option ℕ
phandle_at slots k = phandle_among (props_at slots k)

abbrev pub phandles_at : List Slot → List ℕ → List ℕ
phandles_at slots order = filter_map phandle_among (map (props_at slots) order)

abbrev pub cell_labelled : Labels → List Slot → List ℕ → ℕ
cell_labelled labels slots label =
    unwrap_or (option_and_then (λ k. phandle_at slots k) (slot_labelled labels slots label)) 0
