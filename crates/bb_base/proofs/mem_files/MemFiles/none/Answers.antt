use Rattle.std.proofs.Common.{[], ap, ap₂, ◌∙◌}
use Rattle.std.specs.FinMap as map
use Rattle.bb_base.proofs.Entries.{empty-by_bytes}
use Rattle.bb_base.proofs.mem_files.MemFiles.none.Goals as goal

pub returns : goal.returns
returns c =
    ap₂ (λ files planned. record { files = files; planned = planned; calls = 0; faults = c.none.result.count }) (empty-by_bytes _ c.new.ensures.empty) c.new-2.ensures.items
    ∙ ap (λ faults. record { files = map.empty; planned = []; calls = 0; faults = faults }) c.none.ensures
