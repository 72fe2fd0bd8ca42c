use Rattle.std.proofs.Common.{◌≡◌, ◌<◌, length, arith, sym, ◌∙◌}
use Rattle.bb_vars.proofs.Names.{place_of_first, place_of_none, none_before_more}
use Rattle.bb_vars.proofs.read.read_index.Goals as goal

pub returns-then-is_name_at : goal.returns-then-is_name_at
returns-then-is_name_at c =
    let inside : c.loop-place.place < length c.args.names.now = omega arith in
    rw (place_of_first c.args.names.now c.args.text.now c.loop-place.place inside
    (sym c.is_name_at.ensures ∙ c.if-is_name_at.true) c.loop-place.invariant)

pub loop-place-preserved : goal.loop-place-preserved
loop-place-preserved c =
    none_before_more _ _ _ (omega arith) (sym c.is_name_at.ensures ∙ c.if-is_name_at.false) c.loop-place.invariant

pub returns : goal.returns
returns c =
    let all : length c.args.names.now ≡ c.loop-place.place = omega arith in
    rw (place_of_none c.args.names.now c.args.text.now (rw all c.loop-place.invariant))
