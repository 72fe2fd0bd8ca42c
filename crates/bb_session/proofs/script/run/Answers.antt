use Rattle.std.proofs.Common.{subst}
use Rattle.bb_script.specs.Tree.{ScriptTree}
use Rattle.bb_script.specs.Views.{script_tree}
use Rattle.bb_script_commands.specs.Held.{Held}
use Rattle.bb_script_commands.specs.Scripts.{RanOver}
use Rattle.bb_session.proofs.Played.{Begun, can_begin, done_played}
use Rattle.bb_session.proofs.script.run.Goals as goal

pub run_script-ran-requires : goal.run_script-ran-requires
run_script-ran-requires g c =
    can_begin c.args.state c.args.chooser c.args.plans c.args.cause c.new-commands.result (g.B.Flash.device c.args.board.now) c.new-commands.ensures
    c.requires.hand c.requires.served

pub returns : goal.returns
returns g c =
    let device = g.B.Flash.device in
    let from = c.args.board.now in
    let to = c.run_script-ran.new.board in
    let ran = c.run_script-ran.result in
    record {
      did =
          done_played c.args.state c.args.chooser c.args.plans c.args.cause device c.args.script.now from to ran c.report.result
          (subst (λ (s : ScriptTree). RanOver device s (Begun c.args.state c.args.chooser c.args.plans c.args.cause) from to ran) c.as_script.ensures
          (subst (λ (h : Held). RanOver device (script_tree c.as_script.result.now) h from to ran) c.new-commands.ensures c.run_script-ran.ensures))
          c.report.ensures c.requires.hand.kept;
    }
