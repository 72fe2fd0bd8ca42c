use Rattle.std.proofs.Common.{◌≡◌, ℕ, ◌+◌, ◌*◌, List, IfOk, replicate, rules, subst, ◌∙◌}
use Rattle.bb_flash.specs.Memory.{Memory, fresh_memory}
use Rattle.bb_drill.specs.Board.{board_geometry}
use Rattle.bb_drill.proofs.Blocks.{fresh_bytes_are}
use Rattle.bb_drill.proofs.board.fresh_board.Goals as goal

pub returns : goal.returns
returns c =
    let blank : c.deref.result.now ≡ replicate 768 255 = search rules in
    subst
    (λ (bytes : List ℕ). IfOk c.of.result (λ (board : Memory). board ≡ fresh_memory board_geometry bytes 1024 (65536 + c.args.sessions * 768)))
    (blank ∙ fresh_bytes_are) c.of.ensures
