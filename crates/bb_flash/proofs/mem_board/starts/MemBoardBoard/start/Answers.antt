use Rattle.std.proofs.Common.{rules, ◌≡◌, sym, subst}
use Rattle.bb_flash.specs.Cuts.{IsLater}
use Rattle.bb_flash.specs.Memory.{Memory, after_failed_start, after_start, device_of}
use Rattle.bb_flash.proofs.Boards.{failed_start_later, start_later}
use Rattle.bb_flash.proofs.mem_board.starts.MemBoardBoard.start.Goals as goal

pub returns-then-fails-clause-later : goal.returns-then-fails-clause-later
returns-then-fails-clause-later c =
    let failed : c.count_failed_start-then-fails.new.self ≡ after_failed_start c.args.self.now = search rules in
    subst (λ (m : Memory). IsLater (device_of c.args.self.now) (device_of m)) (sym failed) (failed_start_later c.args.self.now)

pub returns-clause-later : goal.returns-clause-later
returns-clause-later c =
    let started : c.keep_start.new.self ≡ after_start c.args.plan.now c.args.self.now = search rules in
    subst (λ (m : Memory). IsLater (device_of c.args.self.now) (device_of m)) (sym started) (start_later c.args.self.now c.args.plan.now)
