-- The names of a record's properties, and where they begin in the strings block.
use Rattle.std.proofs.Common.{◌≡◌, ◌≢◌, ℕ, true, List, [], ◌∷◌, ◌++◌, codes, cond, fold, map, refl, ap, ◌∙◌, append-nil}
use Rattle.std.specs.List.{AllByRecursion, flat_map}
use Rattle.std.proofs.lemmas.List.{map-append}
use Rattle.bb_tree.specs.Node.{Forest, empty, node, forest, with_values_of}
use Rattle.bb_tree.specs.Blob.{filling, has_name, offset_of, prop_names, with_name, word}
use Rattle.bb_layout.specs.Record.{Recorded, grown_by}
use Rattle.bb_layout.specs.declared.var.Var.{Var}
use Rattle.bb_dtbrec.specs.declared.piece.Piece.{Piece}
use Rattle.bb_dtbrec.specs.declared.piece.Piece.TheVariants.{Fixed, Value}
use Rattle.bb_dtbrec.specs.Dtb.{piece_len, piece_text}
use Rattle.bb_dtbrec.specs.Layouts.{field_for, template_of}
use Rattle.bb_dtbrec.specs.Names.{fixed_names, record_names}
use Rattle.bb_dtbrec.specs.Spine.{end_piece, begin_piece, nodes_written, props_written, value_offset}
use Rattle.bb_dtbrec.specs.Trees.{nodes_pieces, prop_pieces, template_names}
use Rattle.bb_dtbrec.proofs.GrownValues.{Gathers, IsLed, gathered, items_of_vars}
use Rattle.bb_dtbrec.proofs.Insertions.{all_inserted, all_put}

-- ---- names

abbrev own_names : List (List ℕ × Piece) → List (List ℕ)
own_names props = map (λ p. p.0) props

gathers_names : Gathers own_names (λ place. codes "value")
gathers_names = record {
  none = refl;
  more = λ props place.
      map-append (λ (p : List ℕ × Piece). p.0) props ((codes "value", Value place) ∷ []);
}

names_without : (f : Piece → List ℕ) (props : List (List ℕ × Piece)) →
    map (λ (p : List ℕ × List ℕ). p.0) (map (λ (p : List ℕ × Piece). (p.0, f p.1)) props)
    ≡ own_names props
names_without f [] = refl
names_without f (p ∷ ps) = ap (λ l. p.0 ∷ l) (names_without f ps)

names_gathered : (f : Piece → List ℕ) (nodes : Forest Piece) →
    prop_names (with_values_of f nodes) ≡ gathered own_names nodes
names_gathered f empty = refl
names_gathered f (node name props nodes rest) =
    ap (λ l. l ++ (prop_names (with_values_of f nodes) ++ prop_names (with_values_of f rest)))
    (names_without f props)
    ∙ ap (λ l. own_names props ++ (l ++ prop_names (with_values_of f rest)))
    (names_gathered f nodes)
    ∙ ap (λ l. own_names props ++ (gathered own_names nodes ++ l)) (names_gathered f rest)

abbrev IsValue : List ℕ → Type 0
IsValue name = name ≡ codes "value"

all_values : (vars : List Var) → AllByRecursion IsValue (map (λ v. codes "value") vars)
all_values [] = tt
all_values (v ∷ vs) = (refl, all_values vs)

-- the names of the properties of variables
abbrev names_below : List Var → List (List ℕ)
names_below vars = gathered own_names (forest (grown_by field_for vars).nodes)

named_value : (vars : List Var) → AllByRecursion IsLed vars →
    AllByRecursion IsValue (names_below vars)
named_value vars led =
    all_put IsValue [] (map (λ v. codes "value") vars) (names_below vars)
    (items_of_vars own_names (λ place. codes "value") gathers_names vars led) tt (all_values vars)

none_in_none : (names : List (List ℕ)) → AllByRecursion (λ (name : List ℕ). ⊥) names → names ≡ []
none_in_none [] h = refl
none_in_none (name ∷ names) h = absurd h.0

some_name : (v : Var) (vs : List Var) → AllByRecursion IsLed (v ∷ vs) →
    names_below (v ∷ vs) ≢ []
some_name v vs led e =
    (all_inserted (λ (name : List ℕ). ⊥) [] (map (λ v. codes "value") (v ∷ vs))
    (names_below (v ∷ vs))
    (items_of_vars own_names (λ place. codes "value") gathers_names (v ∷ vs) led)
    (all_of_none (names_below (v ∷ vs)) e)).0
  where
    all_of_none : (names : List (List ℕ)) → names ≡ [] →
        AllByRecursion (λ (name : List ℕ). ⊥) names
    all_of_none [] e = tt
    all_of_none (name ∷ names) e = absurd cc

-- names that are there come in no more
kept_names : (names : List (List ℕ)) → has_name names (codes "value") ≡ true →
    (more : List (List ℕ)) → AllByRecursion IsValue more → fold with_name names more ≡ names
kept_names names there [] all = refl
kept_names names there (name ∷ more) all =
    ap (λ n. fold with_name (with_name names n) more) all.0
    ∙ ap (λ b. fold with_name (cond b names (names ++ codes "value" ∷ [])) more) there
    ∙ kept_names names there more all.1

with_value : (more : List (List ℕ)) → more ≢ [] → AllByRecursion IsValue more →
    fold with_name fixed_names more
    ≡ codes "bb,crc32" ∷ codes "compatible" ∷ codes "magic" ∷ codes "value" ∷ []
with_value [] some all = absurd (some refl)
with_value (name ∷ more) some all =
    ap (λ n. fold with_name (with_name fixed_names n) more) all.0
    ∙ kept_names
    (codes "bb,crc32" ∷ codes "compatible" ∷ codes "magic" ∷ codes "value" ∷ []) refl more all.1

from_below : (state : List ℕ) (magic : ℕ) (vars : List Var) →
    template_names (template_of (record { node = state; magic = magic; vars = vars }))
    ≡ fold with_name fixed_names (names_below vars)
from_below state magic vars =
    let below : List (List ℕ) =
    prop_names
    (with_values_of (λ piece. piece_text piece []) (forest (grown_by field_for vars).nodes)) in
    ap (λ names. fold with_name fixed_names names)
    (append-nil (below ++ []) ∙ append-nil below
    ∙ names_gathered (λ piece. piece_text piece []) (forest (grown_by field_for vars).nodes))

pub names_of_template : (recorded : Recorded) → AllByRecursion IsLed recorded.vars →
    template_names (template_of recorded) ≡ record_names recorded.vars
names_of_template recorded led =
    from_below recorded.node recorded.magic recorded.vars ∙ by_vars recorded.vars led
  where
    by_vars : (vars : List Var) → AllByRecursion IsLed vars →
        fold with_name fixed_names (names_below vars) ≡ record_names vars
    by_vars [] led = refl
    by_vars (v ∷ vs) led =
        with_value (names_below (v ∷ vs)) (some_name v vs led) (named_value (v ∷ vs) led)

-- ---- offsets

pub crc_offset : (vars : List Var) → offset_of (record_names vars) (codes "bb,crc32") ≡ 0
crc_offset [] = refl
crc_offset (v ∷ vs) = refl

pub compatible_offset : (vars : List Var) →
    offset_of (record_names vars) (codes "compatible") ≡ 9
compatible_offset [] = refl
compatible_offset (v ∷ vs) = refl

pub magic_offset : (vars : List Var) → offset_of (record_names vars) (codes "magic") ≡ 20
magic_offset [] = refl
magic_offset (v ∷ vs) = refl

all_front : (P : List ℕ → Type 0) (xs ys : List (List ℕ)) → AllByRecursion P (xs ++ ys) →
    AllByRecursion P xs × AllByRecursion P ys
all_front P [] ys all = (tt, all)
all_front P (x ∷ xs) ys all =
    let rest = all_front P xs ys all.1 in ((all.0, rest.0), rest.1)

props_at : (offset : List ℕ → ℕ) → offset (codes "value") ≡ value_offset →
    (props : List (List ℕ × Piece)) → AllByRecursion IsValue (own_names props) →
    flat_map (prop_pieces offset) props ≡ props_written props
props_at offset e [] all = refl
props_at offset e (p ∷ ps) all =
    ap
    (λ n. Fixed (word 3 ++ (word (piece_len p.1) ++ word n)) ∷ p.1
    ∷ Fixed (filling (piece_len p.1)) ∷ flat_map (prop_pieces offset) ps)
    (ap offset all.0 ∙ e)
    ∙ ap (λ l. prop_pieces (λ name. value_offset) p ++ l) (props_at offset e ps all.1)

nodes_at : (offset : List ℕ → ℕ) → offset (codes "value") ≡ value_offset →
    (nodes : Forest Piece) → AllByRecursion IsValue (gathered own_names nodes) →
    nodes_pieces offset nodes ≡ nodes_pieces (λ name. value_offset) nodes
nodes_at offset e empty all = refl
nodes_at offset e (node name props nodes rest) all =
    let parts =
    all_front IsValue (own_names props) (gathered own_names nodes ++ gathered own_names rest) all in
    let below = all_front IsValue (gathered own_names nodes) (gathered own_names rest) parts.1 in
    ap
    (λ l. begin_piece name
    ∷ (l ++ (nodes_pieces offset nodes ++ (end_piece ∷ nodes_pieces offset rest))))
    (props_at offset e props parts.0)
    ∙ ap
    (λ l. begin_piece name ∷ (props_written props ++ (l ++ (end_piece ∷ nodes_pieces offset rest))))
    (nodes_at offset e nodes below.0)
    ∙ ap
    (λ l. begin_piece name
    ∷ (props_written props
    ++ (nodes_pieces (λ name. value_offset) nodes ++ (end_piece ∷ l))))
    (nodes_at offset e rest below.1)

-- the nodes of variables, by where the names begin
pub vars_written : (vars : List Var) → AllByRecursion IsLed vars →
    nodes_pieces (offset_of (record_names vars)) (forest (grown_by field_for vars).nodes)
    ≡ nodes_written (grown_by field_for vars).nodes
vars_written [] led = refl
vars_written (v ∷ vs) led =
    nodes_at (offset_of (record_names (v ∷ vs))) refl
    (forest (grown_by field_for (v ∷ vs)).nodes) (named_value (v ∷ vs) led)
