use Rattle.std.proofs.Common.{◌≡◌, true, ◌+◌, length, arith, ap, sym, ◌∙◌, subst}
use Rattle.bb_tree.specs.Blob.{strings_block}
use Rattle.bb_layout.specs.Layout.{fields_of, recorded_of}
use Rattle.bb_dtbrec.specs.Dtb.{Pattern, is_pattern, pieces_len}
use Rattle.bb_dtbrec.specs.LayoutPieces.{structure_behind}
use Rattle.bb_dtbrec.specs.Names.{record_names}
use Rattle.bb_dtbrec.specs.Layouts.{IsPatternOf}
use Rattle.bb_dtbrec.proofs.LayoutAreas.{layout_blobs}
use Rattle.bb_dtbrec.proofs.LayoutPieces.{pattern_written, structure_most}
use Rattle.bb_dtbrec.proofs.LayoutRecords.{layout_is_pattern}
use Rattle.bb_dtbrec.proofs.dtb.Dtb.of.Goals as goal

pub pieces_len-structure_len-requires : goal.pieces_len-structure_len-requires
pieces_len-structure_len-requires c =
    let most = structure_most (fields_of c.args.layout.now) c.requires c.args.layout.now.facts in
    let same : pieces_len c.deref.result.now
    ≡ pieces_len (structure_behind (recorded_of (fields_of c.args.layout.now))) =
    ap pieces_len (c.deref.ensures.value ∙ c.in_ok-pieces.ensures) in
    omega (arith, most, same)

pub overflow_add-structure_len : goal.overflow_add-structure_len
overflow_add-structure_len c =
    let most = structure_most (fields_of c.args.layout.now) c.requires c.args.layout.now.facts in
    let same : pieces_len c.deref.result.now
    ≡ pieces_len (structure_behind (recorded_of (fields_of c.args.layout.now))) =
    ap pieces_len (c.deref.ensures.value ∙ c.in_ok-pieces.ensures) in
    omega (arith, most, same, c.pieces_len-structure_len.ensures)

pub front-requires : goal.front-requires
front-requires c =
    let most = structure_most (fields_of c.args.layout.now) c.requires c.args.layout.now.facts in
    let same : pieces_len c.deref.result.now
    ≡ pieces_len (structure_behind (recorded_of (fields_of c.args.layout.now))) =
    ap pieces_len (c.deref.ensures.value ∙ c.in_ok-pieces.ensures) in
    let strings : length c.as_slice.result.now
    ≡ length (strings_block (record_names c.args.layout.now.vars)) =
    ap length (c.as_slice.ensures ∙ c.in_ok-strings.ensures) in
    omega (arith, most, same, strings, c.pieces_len-structure_len.ensures)

pub of_pattern-requires : goal.of_pattern-requires
of_pattern-requires c =
    subst (λ (p : Pattern). is_pattern p ≡ true)
    (sym
    (pattern_written (fields_of c.args.layout.now) c.in_ok-front.front
    c.in_ok-pieces.pieces.items c.push.new.self.items c.in_ok-strings.strings
    (24 + c.pieces_len-structure_len.result) (length c.as_slice.result.now)
    c.args.layout.now.facts c.in_ok-pieces.ensures c.in_ok-strings.ensures
    (ap length c.as_slice.ensures)
    (ap (λ n. 24 + n)
    (c.pieces_len-structure_len.ensures ∙ ap pieces_len c.deref.ensures.value))
    c.in_ok-front.ensures c.in_ok-push.ensures.items))
    (layout_is_pattern (fields_of c.args.layout.now) c.requires c.args.layout.now.facts)

pub returns-clause-pattern : goal.returns-clause-pattern
returns-clause-pattern c =
    c.of_pattern.ensures
    ∙ pattern_written (fields_of c.args.layout.now) c.in_ok-front.front
    c.in_ok-pieces.pieces.items c.push.new.self.items c.in_ok-strings.strings
    (24 + c.pieces_len-structure_len.result) (length c.as_slice.result.now)
    c.args.layout.now.facts c.in_ok-pieces.ensures c.in_ok-strings.ensures
    (ap length c.as_slice.ensures)
    (ap (λ n. 24 + n)
    (c.pieces_len-structure_len.ensures ∙ ap pieces_len c.deref.ensures.value))
    c.in_ok-front.ensures c.in_ok-push.ensures.items

pub returns-clause-blobs : goal.returns-clause-blobs
returns-clause-blobs c =
    subst (IsPatternOf (fields_of c.args.layout.now))
    (sym
    (c.of_pattern.ensures
    ∙ pattern_written (fields_of c.args.layout.now) c.in_ok-front.front
    c.in_ok-pieces.pieces.items c.push.new.self.items c.in_ok-strings.strings
    (24 + c.pieces_len-structure_len.result) (length c.as_slice.result.now)
    c.args.layout.now.facts c.in_ok-pieces.ensures c.in_ok-strings.ensures
    (ap length c.as_slice.ensures)
    (ap (λ n. 24 + n)
    (c.pieces_len-structure_len.ensures ∙ ap pieces_len c.deref.ensures.value))
    c.in_ok-front.ensures c.in_ok-push.ensures.items))
    (layout_blobs (fields_of c.args.layout.now) c.requires c.args.layout.now.facts)
