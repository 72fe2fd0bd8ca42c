use Rattle.std.proofs.Common.{◌≡◌, ◌∷◌, [], List, ℕ, Option, unwrap_or, ap, rules, sym, ◌∙◌}
use Rattle.bb_flash.specs.Image.{Image}
use Rattle.bb_drill.specs.Board.{BoardState, fresh_image}
use Rattle.bb_drill.specs.Tables.{table_given}
use Rattle.bb_drill.proofs.Blocks.{fresh_state_of}
use Rattle.bb_drill.proofs.Tallying.{runs_end}
use Rattle.bb_drill.proofs.run.run_in_order.Goals as goal

pub run_each-requires-clause-fresh : goal.run_each-requires-clause-fresh
run_each-requires-clause-fresh g c = fresh_state_of _ _ _ c.in_ok-board.ensures

pub run_each-requires-clause-allowed : goal.run_each-requires-clause-allowed
run_each-requires-clause-allowed g c =
    let fresh : c.in_ok-board.board.told.image ≡ fresh_image = ap (λ (state : BoardState). state.image) (fresh_state_of _ _ _ c.in_ok-board.ensures) in
    c.in_ok-allowed.ensures
    ∙ ap (λ (table : List ℕ). table ∷ [])
    (c.in_ok-defaults.ensures
    ∙ sym (ap (λ (image : Image). table_given g.S.Sessions.rules image) fresh
    ∙ ap (λ (found : Option (List ℕ)). unwrap_or found g.S.Sessions.rules.defaults) g.met.S.Sessions.fresh))

pub returns : goal.returns
returns g c =
    let counts = c.counts.ensures in
    runs_end g.S.Sessions.rules g.S.Sessions.runs c.args.drawn.now _ c.run_each.new.board c.in_ok-tally.tally c.run_each.new.allowed c.counts.result
    c.in_ok-tally.ensures (search rules) counts.cuts counts.decays counts.wrong counts.erases counts.starts
