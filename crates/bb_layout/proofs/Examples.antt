-- Variables and areas by computation.
use Rattle.std.proofs.Common.{◌≡◌, ℕ, List, [], ◌∷◌, ◌++◌, Some, None, Ok, Err, codes, refl}
use Rattle.bb_flash.specs.declared.geometry.Geometry.{Geometry}
use Rattle.bb_tree.specs.Node.{Branch, empty, forest}
use Rattle.bb_vars.specs.declared.kind.Kind.{Kind}
use Rattle.bb_vars.specs.declared.kind.Kind.TheVariants.{Uint8, Uint32, Enum32, Mac, Chars}
use Rattle.bb_layout.specs.Copies.{region_of}
use Rattle.bb_layout.specs.Fields.{cell_of, two_cells_of, string_of, strings_of}
use Rattle.bb_layout.specs.Ranges.{area_len_of}
use Rattle.bb_layout.specs.Thirds.{laid_thirds, raw_layout, thirds_of, whole_device}
use Rattle.bb_layout.specs.Variables.{default_of, variables_of}
use Rattle.bb_layout.specs.declared.layout_error.LayoutError.TheVariants.{Missing, BadProp, BadType, BadReg, Overlap, AreaTooLong, NameTwice, TooSmall}
use Rattle.bb_layout.specs.declared.var.Var.{Var}

-- ---- values of properties

two_cells : two_cells_of (0 ∷ 0 ∷ 1 ∷ 0 ∷ 0 ∷ 0 ∷ 0 ∷ 4 ∷ []) ≡ Some (256, 4)
two_cells = refl

three_bytes : cell_of (0 ∷ 0 ∷ 1 ∷ []) ≡ None
three_bytes = refl

one_string : string_of (codes "raw" ++ 0 ∷ []) ≡ Some (codes "raw")
one_string = refl

no_end : string_of (codes "raw") ≡ None
no_end = refl

two_strings : string_of (codes "a" ++ 0 ∷ codes "b" ++ 0 ∷ []) ≡ None
two_strings = refl

list_of_two : strings_of (codes "a" ++ 0 ∷ codes "b" ++ 0 ∷ []) ≡ Some (codes "a" ∷ codes "b" ∷ [])
list_of_two = refl

empty_string : strings_of (0 ∷ []) ≡ Some ([] ∷ [])
empty_string = refl

no_strings : strings_of [] ≡ None
no_strings = refl

-- ---- variables

abbrev Props : Type 0
Props = List (List ℕ × List ℕ)

abbrev text : List ℕ → List ℕ
text t = t ++ 0 ∷ []

abbrev cell : ℕ → List ℕ
cell n = 0 ∷ 0 ∷ 0 ∷ n ∷ []

abbrev leaf : List ℕ → Props → Branch (List ℕ)
leaf name props = record { name = name; props = props; nodes = empty }

abbrev state : List (Branch (List ℕ)) → Branch (List ℕ)
state nodes = record { name = codes "state"; props = []; nodes = forest nodes }

abbrev typed : List ℕ → ℕ → ℕ → Props → Props
typed type at size more = (codes "type", text type) ∷ (codes "reg", cell at ++ cell size) ∷ more

abbrev alone : List ℕ → ℕ → ℕ → Kind → List ℕ → Var
alone name at size kind default = record { name = name; path = name ∷ []; at = at; size = size; kind = kind; default = default }

uint8_zero : variables_of (state (leaf (codes "n") (typed (codes "uint8") 0 1 []) ∷ [])) ≡ Ok (alone (codes "n") 0 1 Uint8 (0 ∷ []) ∷ [])
uint8_zero = refl

mac_default : default_of Mac (Some (0 ∷ 17 ∷ 34 ∷ 51 ∷ 68 ∷ 85 ∷ [])) ≡ Ok (0 ∷ 17 ∷ 34 ∷ 51 ∷ 68 ∷ 85 ∷ [])
mac_default = refl

chars_default : default_of (Chars 4) (Some (text (codes "ab"))) ≡ Ok (97 ∷ 98 ∷ 0 ∷ 0 ∷ [])
chars_default = refl

chars_full : default_of (Chars 2) (Some (text (codes "ab"))) ≡ Ok (97 ∷ 98 ∷ [])
chars_full = refl

chars_long : default_of (Chars 2) (Some (text (codes "abc"))) ≡ Err (BadProp (codes "default"))
chars_long = refl

uint8_last : default_of Uint8 (Some (cell 255)) ≡ Ok (255 ∷ [])
uint8_last = refl

uint8_past : default_of Uint8 (Some (0 ∷ 0 ∷ 1 ∷ 0 ∷ [])) ≡ Err (BadProp (codes "default"))
uint8_past = refl

uint32_turned : default_of Uint32 (Some (1 ∷ 2 ∷ 3 ∷ 4 ∷ [])) ≡ Ok (4 ∷ 3 ∷ 2 ∷ 1 ∷ [])
uint32_turned = refl

enum_last : default_of (Enum32 (codes "a" ∷ codes "b" ∷ [])) (Some (cell 1)) ≡ Ok (1 ∷ 0 ∷ 0 ∷ 0 ∷ [])
enum_last = refl

enum_past : default_of (Enum32 (codes "a" ∷ codes "b" ∷ [])) (Some (cell 2)) ≡ Err (BadProp (codes "default"))
enum_past = refl

-- a name is the path of names up to their `@`
nested : variables_of (state (record { name = codes "a@1"; props = []; nodes = forest (leaf (codes "b@4") (typed (codes "uint32") 4 4 []) ∷ []) } ∷ []))
    ≡ Ok (record { name = codes "a.b"; path = codes "a@1" ∷ codes "b@4" ∷ []; at = 4; size = 4; kind = Uint32; default = 0 ∷ 0 ∷ 0 ∷ 0 ∷ [] } ∷ [])
nested = refl

-- nothing below a variable is looked at
below_a_variable : variables_of (state (record { name = codes "n"; props = typed (codes "uint8") 0 1 []; nodes = forest (leaf (codes "m") ((codes "type", []) ∷ []) ∷ []) } ∷ []))
    ≡ Ok (alone (codes "n") 0 1 Uint8 (0 ∷ []) ∷ [])
below_a_variable = refl

other_type : variables_of (state (leaf (codes "n") (typed (codes "int") 0 4 []) ∷ [])) ≡ Err BadType
other_type = refl

no_reg : variables_of (state (leaf (codes "n") ((codes "type", text (codes "mac")) ∷ []) ∷ [])) ≡ Err (Missing (codes "reg"))
no_reg = refl

other_size : variables_of (state (leaf (codes "n") (typed (codes "mac") 0 4 []) ∷ [])) ≡ Err BadReg
other_size = refl

string_without_bytes : variables_of (state (leaf (codes "n") (typed (codes "string") 0 0 []) ∷ [])) ≡ Err BadReg
string_without_bytes = refl

past_the_last_place : variables_of (state (leaf (codes "n") ((codes "type", text (codes "uint8")) ∷ (codes "reg", 255 ∷ 255 ∷ 255 ∷ 255 ∷ cell 1) ∷ []) ∷ [])) ≡ Err BadReg
past_the_last_place = refl

no_names : variables_of (state (leaf (codes "n") (typed (codes "enum32") 0 4 []) ∷ [])) ≡ Err (Missing (codes "names"))
no_names = refl

names_without_end : variables_of (state (leaf (codes "n") (typed (codes "enum32") 0 4 ((codes "names", codes "a") ∷ [])) ∷ [])) ≡ Err (BadProp (codes "names"))
names_without_end = refl

-- the first refusal in preorder decides
first_refusal : variables_of (state (leaf (codes "n") (typed (codes "mac") 0 4 []) ∷ leaf (codes "m") (typed (codes "int") 0 4 []) ∷ [])) ≡ Err BadReg
first_refusal = refl

-- ---- areas

abbrev bytes : List ℕ → ℕ → ℕ → Var
bytes name at size = record { name = name; path = name ∷ []; at = at; size = size; kind = Chars size; default = [] }

no_variables : area_len_of [] ≡ Ok 0
no_variables = refl

with_a_gap : area_len_of (bytes (codes "b") 8 4 ∷ bytes (codes "a") 0 4 ∷ []) ≡ Ok 12
with_a_gap = refl

next_to_each_other : area_len_of (bytes (codes "a") 0 4 ∷ bytes (codes "b") 4 4 ∷ []) ≡ Ok 8
next_to_each_other = refl

one_byte_in_both : area_len_of (bytes (codes "a") 0 5 ∷ bytes (codes "b") 4 4 ∷ []) ≡ Err Overlap
one_byte_in_both = refl

name_before_overlap : area_len_of (bytes (codes "a") 0 5 ∷ bytes (codes "a") 4 4 ∷ []) ≡ Err NameTwice
name_before_overlap = refl

longest : area_len_of (bytes (codes "a") 65000 535 ∷ []) ≡ Ok 65535
longest = refl

one_too_long : area_len_of (bytes (codes "a") 65000 536 ∷ []) ≡ Err AreaTooLong
one_too_long = refl

-- ---- raw records in the thirds of a device

in_place : Geometry
in_place = record { page = 1; block = 0; size = 192 }

with_blocks : Geometry
with_blocks = record { page = 256; block = 65536; size = 1048576 }

-- a third of 192 bytes holds an area of 40 bytes, and none of 41
thirds_of_64_bytes : raw_layout 1 40 in_place ≡ Ok (laid_thirds 1 40 in_place)
unfolding in_place
thirds_of_64_bytes = refl

third_copy : region_of in_place (thirds_of in_place) (whole_device in_place) 2 ≡ record { at = 128; size = 64 }
unfolding in_place
third_copy = refl

one_byte_more : raw_layout 1 41 in_place ≡ Err TooSmall
unfolding in_place
one_byte_more = refl

raw_on_blocks : raw_layout 1 9 with_blocks ≡ Err (BadProp (codes "backend-storage-type"))
unfolding with_blocks
raw_on_blocks = refl
