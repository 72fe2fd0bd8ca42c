use Rattle.std.proofs.Common.{refl}
use Rattle.bb_script_commands.proofs.Booting.{boot_called}
use Rattle.bb_script_commands.proofs.Saving.{ready_of}
use Rattle.bb_script_commands.proofs.boot.boot.Goals as goal

pub boot_run-end-requires : goal.boot_run-end-requires
boot_run-end-requires g c = ready_of c.args.state.now c.args.by.now c.args.so_far.now (g.B.Flash.device c.args.board.now) c.requires

pub returns : goal.returns
returns g c =
    let boot = c.boot_run-end.ensures in
    boot_called c.args.state.now c.boot_run-end.new.state c.args.by.now c.args.so_far.now _ c.boot_run-end.result c.reply_to.result
    (g.B.Flash.device c.args.board.now) (g.B.Flash.device c.boot_run-end.new.board) c.requires boot.booted boot.keyed boot.sure boot.on refl c.ended_fault-so_far.ensures
    c.reply_to.ensures.counted c.reply_to.ensures.replies
