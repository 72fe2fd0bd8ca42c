use Rattle.std.proofs.Common.{◌+◌, ◌++◌, List, ℕ, length, take, refl, subst, sym, arith}
use Rattle.bb_dtbrec.specs.Dtb.{pieces_len}
use Rattle.bb_dtbrec.specs.Feeding.{HasCome, cleared}
use Rattle.bb_dtbrec.proofs.Fed.{fed_more}
use Rattle.bb_dtbrec.proofs.feed.feed_record.Goals as goal

pub returns-clause-held : goal.returns-clause-held
returns-clause-held c =
    λ front fed.
    let pieces = c.args.pieces.now in
    let size : ℕ = length c.args.area.now in
    let total : ℕ = 80 + pieces_len pieces in
    let old = c.args.feed.now in
    fed_more front pieces size total c.saturating_sub.result old c.take_in.new.feed fed
    c.args.text.now (cleared old.count c.args.area.now) c.take_in.new.area (omega arith) refl
    (omega arith)
    (λ h.
    subst
    (λ (l : List ℕ).
    HasCome front pieces size c.take_in.new.feed (take total fed ++ l) c.take_in.new.area)
    c.cut.ensures.front
    (c.take_in.ensures.held front (take total fed) size
    (subst (λ (l : List ℕ). HasCome front pieces size old (take total fed) l)
    (sym c.clear_first.ensures) h)))
