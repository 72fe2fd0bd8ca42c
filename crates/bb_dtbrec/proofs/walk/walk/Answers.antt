use Rattle.std.proofs.Common.{ℕ, ap, sym, refl, ◌∙◌, ◌-◌, length, arith}
use Rattle.bb_dtbrec.specs.Dtb.{are_pieces}
use Rattle.bb_dtbrec.proofs.Walking.{inside_at, len_at, slots_done, slots_inside, slots_next, slots_none, walked, walked_all, walked_off}
use Rattle.bb_dtbrec.proofs.walk.walk.Goals as goal

pub len-len-requires : goal.len-len-requires
len-len-requires c =
    let most = len_at c.args.pieces.now c.loop-place.place c.index-pieces-place.result (omega arith)
    c.index-pieces-place.is in
    omega arith

pub take_part-here-requires-clause-inside : goal.take_part-here-requires-clause-inside
take_part-here-requires-clause-inside c =
    inside_at c.args.pieces.now c.loop-place.place c.index-pieces-place.result
    (length c.loop-place.area) (omega arith) c.index-pieces-place.is
    (ap (are_pieces c.args.pieces.now) c.loop-place.invariant.2 ∙ c.requires.pieces)

pub loop-place-init : goal.loop-place-init
loop-place-init c = (refl, refl, refl)

pub loop-place-preserved : goal.loop-place-preserved
loop-place-preserved c =
    let left : ℕ = c.len-len.result - c.min-from.result in (
      walked c.args.pieces.now c.loop-place.place c.index-pieces-place.result c.loop-place.offset
          c.min-from.result left c.loop-place.rest.now c.cut.result.0.now c.cut.result.1.now
          c.loop-place.area c.take_part-here.new.area c.loop-place.agrees c.take_part-here.result
          _ (omega arith) c.index-pieces-place.is (omega arith) (omega arith)
          c.cut.ensures.front c.cut.ensures.back c.take_part-here.ensures.read
          c.loop-place.invariant.0,
      slots_next c.args.pieces.now c.loop-place.place c.index-pieces-place.result
          c.loop-place.offset c.min-from.result left c.loop-place.rest.now c.cut.result.1.now _
          (omega arith) c.index-pieces-place.is (omega arith) (omega arith) c.cut.ensures.back
          (sym c.is_empty.ensures ∙ c.if-is_empty.false) c.loop-place.invariant.1,
      c.take_part-here.ensures.len ∙ c.loop-place.invariant.2,
    )

pub returns-then-is_empty-clause-read : goal.returns-then-is_empty-clause-read
returns-then-is_empty-clause-read c =
    let left : ℕ = c.len-len.result - c.min-from.result in
    walked_off _ c.cut.result.1.now c.take_part-here.new.area _ _
    (sym c.is_empty.ensures ∙ c.if-is_empty.true)
    (walked c.args.pieces.now c.loop-place.place c.index-pieces-place.result c.loop-place.offset
    c.min-from.result left c.loop-place.rest.now c.cut.result.0.now c.cut.result.1.now
    c.loop-place.area c.take_part-here.new.area c.loop-place.agrees c.take_part-here.result _
    (omega arith) c.index-pieces-place.is (omega arith) (omega arith) c.cut.ensures.front
    c.cut.ensures.back c.take_part-here.ensures.read c.loop-place.invariant.0)

pub returns-then-is_empty-clause-next : goal.returns-then-is_empty-clause-next
returns-then-is_empty-clause-next c =
    let left : ℕ = c.len-len.result - c.min-from.result in
    slots_inside c.args.pieces.now c.loop-place.place c.index-pieces-place.result
    c.loop-place.offset c.min-from.result left c.loop-place.rest.now c.cut.result.0.now
    c.cut.result.1.now _ (omega arith) c.index-pieces-place.is (omega arith) (omega arith)
    c.cut.ensures.front c.cut.ensures.back (sym c.is_empty.ensures ∙ c.if-is_empty.true)
    c.loop-place.invariant.1

pub returns-clause-read : goal.returns-clause-read
returns-clause-read c =
    let none = slots_none c.args.pieces.now c.loop-place.place c.loop-place.offset (omega arith) in
    walked_all _ c.loop-place.rest.now c.loop-place.area c.loop-place.agrees _ none
    c.loop-place.invariant.0

pub returns-clause-next : goal.returns-clause-next
returns-clause-next c =
    let pieces = c.args.pieces.now in
    let none = slots_none pieces c.loop-place.place c.loop-place.offset (omega arith) in
    slots_none pieces (length pieces) 0 (omega arith)
    ∙ slots_done _ _ (length c.loop-place.rest.now) none c.loop-place.invariant.1
