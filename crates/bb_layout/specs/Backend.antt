-- The partition that `backend` leads to (devicetree binding `barebox,state`; Devicetree
-- Specification v0.4, section 2.3.6 on `reg`).
use Rattle.std.specs.Prelude.{ℕ, ◌==◌, ◌&&◌, nat_eq, List, Option, Some, None, Result, Err, if◌then◌else◌, codes, ok_or, option_and_then, option_map}
use Rattle.std.specs.List.{starts_with}
use Rattle.std.specs.Option.{option_map_or, option_or}
use Rattle.std.specs.Str.{is_utf8}
use Rattle.bb_flash.specs.declared.region.Region.{Region}
use Rattle.bb_tree.specs.Node.{Branch}
use Rattle.bb_tree.specs.Paths.{found, prop_of}
use Rattle.bb_tree.specs.Phandle.{node_with}
use Rattle.bb_layout.specs.Fields.{cell_of, string_of, two_cells_of, four_cells_of}
use Rattle.bb_layout.specs.StateProps.{required_prop}
use Rattle.bb_layout.specs.Steps.{result_then}
use Rattle.bb_layout.specs.declared.layout_error.LayoutError.{LayoutError}
use Rattle.bb_layout.specs.declared.layout_error.LayoutError.TheVariants.{BadProp, NoBackend}

-- a string that begins with `/` is a path
abbrev pub path_in : List ℕ → Option (List ℕ)
path_in value = option_and_then (λ s. if starts_with nat_eq s (codes "/") then Some s else None) (string_of value)

-- the node at a path. All names are texts, so a path that is none leads nowhere
abbrev pub node_along : Branch (List ℕ) → List ℕ → Option (Branch (List ℕ))
node_along tree path = if is_utf8 path then found path tree else None

-- an offset and a size, of one cell each, or of two of which the first is 0
abbrev pub narrow : (ℕ × ℕ) × (ℕ × ℕ) → Option Region
narrow cells = if (cells.0.0 == 0) && (cells.1.0 == 0) then Some (record { at = cells.0.1; size = cells.1.1 }) else None

abbrev pub region_in : List ℕ → Option Region
region_in value =
    option_or (option_map (λ cells. record { at = cells.0; size = cells.1 }) (two_cells_of value)) (option_and_then narrow (four_cells_of value))

-- the partition's region of the device
abbrev pub partition_of : Branch (List ℕ) → Option Region
partition_of b = option_and_then region_in (prop_of (codes "reg") b)

-- the node's partition, if there is such a node and it has one
abbrev pub partition_at : Option (Branch (List ℕ)) → Result Region LayoutError
partition_at target = ok_or (option_and_then partition_of target) NoBackend

-- `backend` is one cell, which is a phandle, or a path
abbrev pub backend_of : Branch (List ℕ) → Branch (List ℕ) → Result Region LayoutError
backend_of tree state =
    result_then (required_prop state (codes "backend")) (λ value.
    option_map_or (λ n. partition_at (node_with n tree))
    (cell_of value)
    (option_map_or (λ path. partition_at (node_along tree path)) (path_in value) (Err (BadProp (codes "backend")))))
