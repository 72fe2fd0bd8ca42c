-- Turns of the loops that write the nodes of variables.
use Rattle.std.proofs.Common.{◌≡◌, ◌≢◌, ℕ, ◌+◌, ◌-◌, ◌≤◌, List, [], ◌∷◌, ◌++◌, Some, drop, take, length, map, replicate, slice_get, sym, ap, ◌∙◌, append_assoc, append-nil, arith, take_all, subst}
use Rattle.std.specs.List.{common_prefix_len}
use Rattle.std.specs.Str.{bytes_eq}
use Rattle.std.proofs.lemmas.List.Sums.{common_prefix_len-le, fold_more}
use Rattle.std.proofs.lemmas.Option.{get_or_from_slice_get, slice_get_within}
use Rattle.bb_tree.proofs.Nodes.{past_all}
use Rattle.bb_layout.proofs.Records.{drop_at}
use Rattle.bb_layout.specs.Record.{Grown, grown_by, with_var}
use Rattle.bb_layout.specs.declared.var.Var.{Var}
use Rattle.bb_dtbrec.specs.declared.piece.Piece.{Piece}
use Rattle.bb_dtbrec.specs.Layouts.{field_for}
use Rattle.bb_dtbrec.specs.Spine.{IsOpened, SpellsNodes, begin_piece, end_piece, field_written, marks, nodes_written, pieces_left}
use Rattle.bb_dtbrec.proofs.SpineSteps.{all_spelt, none_spelt, opened, var_spelt}
use Rattle.bb_dtbrec.proofs.Spines.{length_ends}

-- ---- nodes that begin

-- one name more
pub begun_more : (path : List (List ℕ)) (i : ℕ) (name : List ℕ) (written all : List Piece) →
    slice_get path i ≡ Some name → written ++ map begin_piece (drop i path) ≡ all →
    (written ++ begin_piece name ∷ []) ++ map begin_piece (drop (i + 1) path) ≡ all
begun_more path i name written all h e =
    append_assoc written (begin_piece name ∷ []) (map begin_piece (drop (i + 1) path))
    ∙ ap (λ l. written ++ map begin_piece l) (sym (drop_at path i name h))
    ∙ e

pub marked_more : (path : List (List ℕ)) (i : ℕ) (name : List ℕ) (before after : ℕ)
    (ends all : List ℕ) → slice_get path i ≡ Some name → after ≡ before + 1 →
    ends ++ marks before (drop i path) ≡ all →
    (ends ++ after ∷ []) ++ marks after (drop (i + 1) path) ≡ all
marked_more path i name before after ends all h next e =
    ap (λ n. (ends ++ n ∷ []) ++ marks n (drop (i + 1) path)) next
    ∙ append_assoc ends ((before + 1) ∷ []) (marks (before + 1) (drop (i + 1) path))
    ∙ ap (λ l. ends ++ marks before l) (sym (drop_at path i name h))
    ∙ e

-- no name is left
pub begun_all : (path : List (List ℕ)) (i : ℕ) (written all : List Piece) → length path ≤ i →
    written ++ map begin_piece (drop i path) ≡ all → written ≡ all
begun_all path i written all past e =
    sym (append-nil written)
    ∙ ap (λ l. written ++ map begin_piece l) (sym (past_all path i past))
    ∙ e

pub marked_all : (path : List (List ℕ)) (i before : ℕ) (ends all : List ℕ) → length path ≤ i →
    ends ++ marks before (drop i path) ≡ all → ends ≡ all
marked_all path i before ends all past e =
    sym (append-nil ends) ∙ ap (λ l. ends ++ marks before l) (sym (past_all path i past)) ∙ e

-- ---- variables one after another

pub grown_next : (vars : List Var) (i : ℕ) (v : Var) → slice_get vars i ≡ Some v →
    grown_by field_for (take (i + 1) vars)
    ≡ with_var field_for (grown_by field_for (take i vars)) v
grown_next vars i v h =
    fold_more (with_var field_for) (record { path = []; nodes = [] }) vars i v
    (slice_get_within vars i v h)
    ∙ ap (with_var field_for (grown_by field_for (take i vars)))
    (get_or_from_slice_get vars i v v h)

-- the path of the last one
pub path_before : (vars : List Var) (i : ℕ) (v : Var) → slice_get vars i ≡ Some v →
    (grown_by field_for (take (i + 1) vars)).path ≡ v.path
path_before vars i v h = ap (λ (g : Grown Piece). g.path) (grown_next vars i v h)

-- before the first
pub spelt_first : (vars : List Var) (written : List Piece) (ends : List ℕ) → written ≡ [] →
    ends ≡ [] → SpellsNodes (grown_by field_for (take 0 vars)) written ends
spelt_first vars written ends e k =
    subst (λ (l : List Piece). SpellsNodes (grown_by field_for (take 0 vars)) l ends) (sym e)
    (subst (λ (l : List ℕ). SpellsNodes (grown_by field_for (take 0 vars)) [] l) (sym k) none_spelt)

-- after the last
pub spelt_last : (vars : List Var) (i : ℕ) (written : List Piece) (ends : List ℕ) →
    length vars ≤ i → SpellsNodes (grown_by field_for (take i vars)) written ends →
    written ++ replicate (length ends) end_piece ≡ nodes_written (grown_by field_for vars).nodes
spelt_last vars i written ends past h =
    all_spelt (grown_by field_for (take i vars)) written ends h
    ∙ ap (λ (l : List Var). nodes_written (grown_by field_for l).nodes) (take_all i vars past)

-- ---- one variable

pub shared_within : (grown : Grown Piece) (path : List (List ℕ)) (written : List Piece)
    (ends : List ℕ) (shared : ℕ) → SpellsNodes grown written ends →
    shared ≡ common_prefix_len bytes_eq grown.path path → shared ≤ length ends
shared_within grown path written ends shared h is =
    omega (
      arith,
      (common_prefix_len-le bytes_eq grown.path path).0,
      is,
      h.depth,
      ap length h.ends_are,
      length_ends 0 h.opens,
    )

-- its path is opened
pub path_opened : (grown : Grown Piece) (path : List (List ℕ)) (written left begun : List Piece)
    (ends kept marked : List ℕ) (shared count : ℕ) → path ≢ [] →
    shared ≡ common_prefix_len bytes_eq grown.path path → SpellsNodes grown written ends →
    count ≡ length ends - shared → left ≡ written ++ replicate count end_piece →
    kept ≡ take shared ends → begun ≡ left ++ map begin_piece (drop shared path) →
    marked ≡ kept ++ marks (length left) (drop shared path) → IsOpened grown path begun marked
path_opened grown path written left begun ends kept marked shared count led is h e1 e2 e3 e4 e5 =
    let ended : left ≡ pieces_left shared written ends =
    e2 ∙ ap (λ n. written ++ replicate n end_piece) e1 in
    subst (λ (l : List Piece). IsOpened grown path l marked)
    (sym (e4 ∙ ap (λ l. l ++ map begin_piece (drop shared path)) ended))
    (subst
    (λ (l : List ℕ). IsOpened grown path
    (pieces_left shared written ends ++ map begin_piece (drop shared path)) l)
    (sym
    (e5 ∙ ap (λ l. l ++ marks (length left) (drop shared path)) e3
    ∙ ap (λ l. take shared ends ++ marks (length l) (drop shared path)) ended))
    (opened grown path written ends shared led is h))

-- its property is written
pub property_put : (vars : List Var) (i : ℕ) (v : Var) (written field after : List Piece)
    (ends firsts marked : List ℕ) (at : ℕ) → slice_get vars i ≡ Some v → v.path ≢ [] →
    IsOpened (grown_by field_for (take i vars)) v.path written ends →
    ends ≡ firsts ++ at ∷ [] → field ≡ field_written v →
    after ≡ take at written ++ (field ++ drop at written) → marked ≡ firsts ++ (at + 3) ∷ [] →
    SpellsNodes (grown_by field_for (take (i + 1) vars)) after marked
property_put vars i v written field after ends firsts marked at got led h e1 e2 e3 e4 =
    subst (λ (g : Grown Piece). SpellsNodes g after marked) (sym (grown_next vars i v got))
    (subst
    (λ (l : List Piece). SpellsNodes (with_var field_for (grown_by field_for (take i vars)) v) l marked)
    (sym (e3 ∙ ap (λ l. take at written ++ (l ++ drop at written)) e2))
    (subst
    (λ (l : List ℕ). SpellsNodes (with_var field_for (grown_by field_for (take i vars)) v)
    (take at written ++ (field_written v ++ drop at written)) l)
    (sym e4)
    (var_spelt (grown_by field_for (take i vars)) v written ends firsts at h led e1)))

-- ---- one turn

pub turn_pieces : (path : List (List ℕ)) (i : ℕ) (name : List ℕ) (piece : Piece)
    (written after all : List Piece) → slice_get path i ≡ Some name →
    piece ≡ begin_piece name → after ≡ written ++ piece ∷ [] →
    written ++ map begin_piece (drop i path) ≡ all →
    after ++ map begin_piece (drop (i + 1) path) ≡ all
turn_pieces path i name piece written after all got e1 e2 e3 =
    ap (λ l. l ++ map begin_piece (drop (i + 1) path))
    (e2 ∙ ap (λ p. written ++ p ∷ []) e1)
    ∙ begun_more path i name written all got e3

pub turn_ends : (path : List (List ℕ)) (i : ℕ) (name : List ℕ) (before after mark : ℕ)
    (ends marked all : List ℕ) → slice_get path i ≡ Some name → mark ≡ after →
    after ≡ before + 1 → marked ≡ ends ++ mark ∷ [] → ends ++ marks before (drop i path) ≡ all →
    marked ++ marks after (drop (i + 1) path) ≡ all
turn_ends path i name before after mark ends marked all got e1 e2 e3 e4 =
    ap (λ l. l ++ marks after (drop (i + 1) path)) (e3 ∙ ap (λ n. ends ++ n ∷ []) e1)
    ∙ marked_more path i name before after ends all got e2 e4
