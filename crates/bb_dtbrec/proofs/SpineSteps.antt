-- A variable more is written: the nodes end that its path leaves, new ones begin, and its property
-- follows.
use Rattle.std.proofs.Common.{◌≡◌, ◌≢◌, ℕ, ◌+◌, ◌-◌, ◌<◌, ◌≤◌, List, [], ◌∷◌, ◌++◌, codes, drop, take, length, map, replicate, refl, sym, ap, ◌∙◌, subst, arith, length-append, length-drop}
use Rattle.std.specs.List.{common_prefix_len}
use Rattle.std.specs.Str.{bytes_eq}
use Rattle.std.proofs.lemmas.List.{drop_at, length-take-le, take_at}
use Rattle.std.proofs.lemmas.List.Sums.{common_prefix_len-le}
use Rattle.bb_tree.specs.Node.{Branch}
use Rattle.bb_layout.specs.Record.{Grown, nodes_with_prop, with_last, with_var}
use Rattle.bb_layout.specs.declared.var.Var.{Var}
use Rattle.bb_dtbrec.specs.declared.piece.Piece.{Piece}
use Rattle.bb_dtbrec.specs.Layouts.{field_for}
use Rattle.bb_dtbrec.specs.Spine.{IsOpened, Open, SpellsNodes, begin_piece, end_piece, ends_in, field_written, marks, nodes_in, nodes_written, pieces_in, pieces_left, prop_written, put_in_last}
use Rattle.bb_dtbrec.proofs.Spines.{before_inner, end_at, ends_begun, ends_ended, ends_put, inner_after, inner_at, length_ends, length_opens, length_put, nodes_ended, nodes_put, opens_for, pieces_before, pieces_begun, pieces_ended, pieces_put}

-- ---- the path is opened

length_ended : (os : List Open) (n : ℕ) → n ≤ length os → length (take n os) ≡ n
length_ended os n le = length-take-le n os le

pub opened : (grown : Grown Piece) (path : List (List ℕ)) (written : List Piece) (ends : List ℕ)
    (shared : ℕ) → path ≢ [] → shared ≡ common_prefix_len bytes_eq grown.path path →
    SpellsNodes grown written ends →
    IsOpened grown path (pieces_left shared written ends ++ map begin_piece (drop shared path))
    (take shared ends ++ marks (length (pieces_left shared written ends)) (drop shared path))
opened grown path written ends shared led is h =
    let most = common_prefix_len-le bytes_eq grown.path path in
    let few : shared ≤ length h.opens = omega (arith, most.0, is, h.depth) in
    let left : List Open = take shared h.opens in
    let inner : List (Branch Piece) = inner_at shared h.opens h.inner in
    let rest : List (List ℕ) = drop shared path in
    let depth : length left ≡ shared = length_ended h.opens shared few in
    let open_len : length ends ≡ length h.opens = ap length h.ends_are ∙ length_ends 0 h.opens in
    let pieces : pieces_left shared written ends ≡ pieces_in left inner =
    ap (λ l. l ++ replicate (length ends - shared) end_piece) h.pieces
    ∙ pieces_ended shared (length ends - shared) h.opens h.inner (omega (arith, open_len, few)) in
    record {
      opens = left ++ opens_for inner rest;
      inner = inner_after inner rest;
      depth =
          omega (
            arith,
            length-append left (opens_for inner rest),
            depth,
            length_opens inner rest,
            length-drop shared path,
            most.1,
            is,
          );
      nodes = λ prop.
          ap (λ n. nodes_with_prop n path prop grown.nodes) (sym is)
          ∙ ap (nodes_with_prop shared path prop)
          (h.nodes ∙ sym (nodes_ended shared h.opens h.inner))
          ∙ subst
          (λ (n : ℕ). nodes_with_prop n path prop (nodes_in left inner)
          ≡ nodes_in (put_in_last prop (left ++ opens_for inner (drop n path)))
          (inner_after inner (drop n path)))
          depth (nodes_put left inner path prop led (omega (arith, depth, most.1, is)));
      pieces =
          ap (λ l. l ++ map begin_piece rest) pieces ∙ pieces_begun left inner rest;
      ends_are =
          ap (λ l. take shared l ++ marks (length (pieces_left shared written ends)) rest)
          h.ends_are
          ∙ ap (λ l. l ++ marks (length (pieces_left shared written ends)) rest)
          (ends_ended 0 shared h.opens)
          ∙ ap (λ l. ends_in 0 left ++ marks (length l) rest) pieces
          ∙ ap (λ n. ends_in 0 left ++ marks n rest) (from_none (length (pieces_in left inner)))
          ∙ ends_begun 0 left inner rest;
    }
  where
    from_none : (n : ℕ) → n ≡ 0 + n
    from_none n = omega arith

-- ---- the property follows

-- where the last end is, the pieces reach
pub end_within : (grown : Grown Piece) (path : List (List ℕ)) (written : List Piece)
    (ends firsts : List ℕ) (at : ℕ) → IsOpened grown path written ends → ends ≡ firsts ++ at ∷ [] →
    at ≤ length written
end_within grown path written ends firsts at h e =
    let here : length (before_inner h.opens) ≡ at =
    end_at h.opens firsts at (sym h.ends_are ∙ e) in
    let parts : length written ≡ length (before_inner h.opens ++ nodes_written h.inner) =
    ap length (h.pieces ∙ pieces_before h.opens h.inner) in
    omega (arith, here, parts, length-append (before_inner h.opens) (nodes_written h.inner))

-- there is one, since the path has names
pub some_end : (grown : Grown Piece) (path : List (List ℕ)) (written : List Piece)
    (ends : List ℕ) → IsOpened grown path written ends → path ≢ [] → 0 < length ends
some_end grown path written ends h led =
    let same : length ends ≡ length path =
    ap length h.ends_are ∙ length_ends 0 h.opens ∙ h.depth in
    let some : 0 < length path = some_name path led in
    omega (arith, same, some)
  where
    some_name : (path : List (List ℕ)) → path ≢ [] → 0 < length path
    some_name [] led = absurd (led refl)
    some_name (name ∷ path) led = omega arith

moved_last : (firsts : List ℕ) (at : ℕ) →
    with_last (λ n. n + 3) (firsts ++ at ∷ []) ≡ firsts ++ (at + 3) ∷ []
moved_last [] at = refl
moved_last (n ∷ []) at = refl
moved_last (n ∷ m ∷ firsts) at = ap (λ l. n ∷ l) (moved_last (m ∷ firsts) at)

pub var_spelt : (grown : Grown Piece) (v : Var) (written : List Piece) (ends firsts : List ℕ)
    (at : ℕ) → IsOpened grown v.path written ends → v.path ≢ [] → ends ≡ firsts ++ at ∷ [] →
    SpellsNodes (with_var field_for grown v)
    (take at written ++ (field_written v ++ drop at written)) (firsts ++ (at + 3) ∷ [])
var_spelt grown v written ends firsts at h led e =
    let prop : List ℕ × Piece = (codes "value", field_for v) in
    let before : List Piece = before_inner h.opens in
    let behind : List Piece = nodes_written h.inner in
    let here : length before ≡ at = end_at h.opens firsts at (sym h.ends_are ∙ e) in
    let parts : written ≡ before ++ behind = h.pieces ∙ pieces_before h.opens h.inner in
    let some : 0 < length h.opens =
    omega (
      arith,
      some_end grown v.path written ends h led,
      ap length h.ends_are,
      length_ends 0 h.opens,
    ) in
    record {
      opens = put_in_last prop h.opens;
      inner = h.inner;
      depth = length_put prop h.opens ∙ h.depth;
      nodes = h.nodes prop;
      pieces =
          ap (λ l. take at l ++ (prop_written prop ++ drop at l)) parts
          ∙ ap (λ l. l ++ (prop_written prop ++ drop at (before ++ behind)))
          (take_at before behind at here)
          ∙ ap (λ l. before ++ (prop_written prop ++ l)) (drop_at before behind at here)
          ∙ pieces_put prop h.opens h.inner some;
      ends_are =
          sym (moved_last firsts at)
          ∙ ap (with_last (λ n. n + 3)) (sym e ∙ h.ends_are)
          ∙ ends_put prop 0 h.opens;
    }

-- ---- the first and the last

-- before the first variable nothing is written
pub none_spelt : SpellsNodes (record { path = []; nodes = [] }) [] []
none_spelt = record {
  opens = [];
  inner = [];
  depth = refl;
  nodes = refl;
  pieces = refl;
  ends_are = refl;
}

-- after the last one all nodes end
pub all_spelt : (grown : Grown Piece) (written : List Piece) (ends : List ℕ) →
    SpellsNodes grown written ends →
    written ++ replicate (length ends) end_piece ≡ nodes_written grown.nodes
all_spelt grown written ends h =
    let open_len : length ends ≡ length h.opens = ap length h.ends_are ∙ length_ends 0 h.opens in
    ap (λ l. l ++ replicate (length ends) end_piece) h.pieces
    ∙ pieces_ended 0 (length ends) h.opens h.inner (omega (arith, open_len))
    ∙ ap nodes_written (sym h.nodes)
