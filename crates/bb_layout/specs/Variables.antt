-- The variables below a state node (barebox User Manual, State Framework).
use Rattle.std.specs.Prelude.{◌≡◌, ◌≢◌, ℕ, ◌+◌, ◌-◌, ◌<◌, ◌≤◌, ◌^◌, ◌==◌, ◌&&◌, Bool, false, not, List, [], ◌∷◌, ◌++◌, Option, Some, None, Result, Ok, Err, codes, filter, if◌then◌else◌, is_some, length, map, nat_le, ok_or, option_and_then, option_map, replicate, reverse}
use Rattle.std.specs.Int.{w8, w32, to_le_bytes}
use Rattle.std.specs.List.{join_with_byte, list_any}
use Rattle.bb_tree.specs.Node.{Forest, empty, node, Branch}
use Rattle.bb_tree.specs.Paths.{prop_of}
use Rattle.bb_vars.specs.Kind.{size_of, HasFewNames}
use Rattle.bb_vars.specs.declared.kind.Kind.{Kind}
use Rattle.bb_vars.specs.declared.kind.Kind.TheVariants.{Uint8, Uint32, Enum32, Mac, Chars}
use Rattle.bb_layout.specs.Fields.{cell_of, cell_below, two_cells_of, string_of, utf8_strings, base_name}
use Rattle.bb_layout.specs.Results.{option_filter, result_and_then, all_ok}
use Rattle.bb_layout.specs.VarType.{type_named, may_have_size}
use Rattle.bb_layout.specs.declared.layout_error.LayoutError.{LayoutError}
use Rattle.bb_layout.specs.declared.layout_error.LayoutError.TheVariants.{Missing, BadProp, BadType, BadReg}
use Rattle.bb_layout.specs.declared.var.Var.{Var}
use Rattle.bb_layout.specs.declared.var_type.VarType.{VarType}
use Rattle.bb_layout.specs.declared.var_type.VarType.TheVariants as kinds

-- ---- one variable

-- its type, by the value of `type`
abbrev pub type_of : Option (List ℕ) → Result VarType LayoutError
type_of value = ok_or (option_and_then type_named (option_and_then string_of value)) BadType

-- its offset and size, by the value of `reg`
abbrev pub fits_type : VarType → ℕ × ℕ → Bool
fits_type type range = may_have_size type range.1 && nat_le (range.0 + range.1) 4294967295

abbrev pub range_in_area : VarType → Option (List ℕ) → Result (ℕ × ℕ) LayoutError
range_in_area type None = Err (Missing (codes "reg"))
range_in_area type (Some value) = ok_or (option_filter (fits_type type) (two_cells_of value)) BadReg

-- an enum's names, by the value of `names`
abbrev pub names_of : Option (List ℕ) → Result (List (List ℕ)) LayoutError
names_of None = Err (Missing (codes "names"))
names_of (Some value) = ok_or (option_filter (λ names. nat_le (length names) 4294967295) (utf8_strings value)) (BadProp (codes "names"))

abbrev pub kind_of : VarType → ℕ → Option (List ℕ) → Result Kind LayoutError
kind_of kinds.Uint8 size names = Ok Uint8
kind_of kinds.Uint32 size names = Ok Uint32
kind_of kinds.Enum32 size names = result_and_then (λ texts. Ok (Enum32 texts)) (names_of names)
kind_of kinds.Mac size names = Ok Mac
kind_of kinds.Chars size names = Ok (Chars size)

-- bytes filled up with zero bytes
abbrev pub bytes_of_size : ℕ → List ℕ → List ℕ
bytes_of_size size bytes = bytes ++ replicate (size - length bytes) 0

-- the bytes that a value of `default` stands for
abbrev pub default_in : Kind → List ℕ → Option (List ℕ)
default_in Uint8 value = option_map (to_le_bytes w8) (cell_below 256 value)
default_in Uint32 value = option_map (to_le_bytes w32) (cell_of value)
default_in (Enum32 names) value = option_map (to_le_bytes w32) (cell_below (length names) value)
default_in Mac value = if length value == 6 then Some value else None
default_in (Chars size) value = option_map (bytes_of_size size) (option_filter (λ s. nat_le (length s) size) (string_of value))

abbrev pub default_of : Kind → Option (List ℕ) → Result (List ℕ) LayoutError
default_of kind None = Ok (bytes_of_size (size_of kind) [])
default_of kind (Some value) = ok_or (default_in kind value) (BadProp (codes "default"))

-- names up to their `@`, joined by `.`
abbrev pub dotted_name : List (List ℕ) → List ℕ
dotted_name path = join_with_byte 46 (map base_name path)

-- the variable of a node, to which the full names of a path lead: its type, range, kind and default
-- one after another
abbrev pub with_kind : List (List ℕ) → Branch (List ℕ) → ℕ × ℕ → Kind → Result Var LayoutError
with_kind path b range kind =
    result_and_then
    (λ default. Ok (record { name = dotted_name path; path = path; at = range.0; size = range.1; kind = kind; default = default }))
    (default_of kind (prop_of (codes "default") b))

abbrev pub with_range : List (List ℕ) → Branch (List ℕ) → VarType → ℕ × ℕ → Result Var LayoutError
with_range path b type range = result_and_then (with_kind path b range) (kind_of type range.1 (prop_of (codes "names") b))

abbrev pub with_type : List (List ℕ) → Branch (List ℕ) → VarType → Result Var LayoutError
with_type path b type = result_and_then (with_range path b type) (range_in_area type (prop_of (codes "reg") b))

abbrev pub variable_of : List (List ℕ) → Branch (List ℕ) → Result Var LayoutError
variable_of path b = result_and_then (with_type path b) (type_of (prop_of (codes "type") b))

-- ---- all variables

-- nodes in preorder, each as the nodes that lead to it: itself, the node that it stands in, and so
-- on outwards
abbrev pub ways_of : List (Branch (List ℕ)) → Forest (List ℕ) → List (List (Branch (List ℕ)))
ways_of above empty = []
ways_of above (node n ps ks rest) =
    let way = record { name = n; props = ps; nodes = ks } ∷ above in way ∷ ways_of way ks ++ ways_of above rest

abbrev pub has_type : Branch (List ℕ) → Bool
has_type b = is_some (prop_of (codes "type") b)

-- a node with a type is a variable, unless it stands in one
abbrev pub is_variable : List (Branch (List ℕ)) → Bool
is_variable [] = false
is_variable (b ∷ above) = has_type b && not (list_any has_type above)

abbrev pub variable_at : List (Branch (List ℕ)) → Result Var LayoutError
variable_at [] = Err BadType
variable_at (b ∷ above) = variable_of (reverse (map (λ n. n.name) (b ∷ above))) b

-- the variables below a state node in preorder, or the first refusal
abbrev pub variables_of : Branch (List ℕ) → Result (List Var) LayoutError
variables_of state = all_ok (map variable_at (filter is_variable (ways_of [] state.nodes)))

-- what each variable of a layout keeps: its size and its default are the kind's, its range ends
-- below 2^32, and a path leads to it
pub record IsWellFormed (v : Var) : Type 0 where
  pub size : v.size ≡ size_of v.kind
  pub default : length v.default ≡ size_of v.kind
  pub few_names : HasFewNames v.kind
  pub some : 1 ≤ v.size
  pub end : v.at + v.size < 2 ^ 32
  pub led : v.path ≢ []
