use Rattle.std.proofs.Common.{IsSome, ap}
use Rattle.bb_chooser.specs.Counting.{chosen_target}
use Rattle.bb_interpreter.specs.declared.commands.Reply.TheVariants as reply
use Rattle.bb_script_commands.proofs.Saving.{can_moved, marked_so, unmarked}
use Rattle.bb_script_commands.proofs.save.mark_good.Goals as goal

pub returns-then-not-mark_table : goal.returns-then-not-mark_table
returns-then-not-mark_table g c =
    let none : IsSome (chosen_target c.args.by.now.chooser c.args.state.now.table) → ⊥ = λ some. (let is = c.mark_table.ensures.good.1 some in cc) in
    unmarked c.args.state.now c.mark_table.new.state c.args.by.now c.args.so_far.now (reply.Done 1 c.none.result) (g.B.Flash.device c.args.board.now) c.requires
    (ap (λ text. reply.Done 1 text) c.none.ensures) none
    c.mark_table.ensures.marked c.mark_table.ensures.backing

pub save_table-requires : goal.save_table-requires
save_table-requires g c =
    can_moved c.args.state.now c.mark_table.new.state c.args.by.now c.args.so_far.now (g.B.Flash.device c.args.board.now) c.mark_table.ensures.backing c.requires

pub returns : goal.returns
returns g c =
    marked_so c.args.state.now c.mark_table.new.state c.args.by.now c.args.so_far.now _ c.save_table.result
    (g.B.Flash.device c.args.board.now) (g.B.Flash.device c.save_table.new.board)
    (c.mark_table.ensures.good.0 cc) c.mark_table.ensures.marked c.mark_table.ensures.backing c.save_table.ensures
