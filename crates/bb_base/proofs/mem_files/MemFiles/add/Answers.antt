use Rattle.std.proofs.Common.{◌≡◌, ap, ap₂, ◌∙◌, rules}
use Rattle.std.specs.FinMap as map
use Rattle.std.specs.String.{string_bytes}
use Rattle.bb_base.proofs.Entries.{insert-by_bytes}
use Rattle.bb_base.proofs.mem_files.MemFiles.add.Goals as goal

pub returns-clause-ok : goal.returns-clause-ok
returns-clause-ok c =
    let named : string_bytes c.in_ok-name.name ≡ c.args.name.now = search rules in
    let filled : c.add.new.self ≡ c.args.bytes.now = search rules in
    let added = insert-by_bytes _ _ _ _ c.in_ok-insert.ensures.entries c.self.invariant c.insert.ensures.ordered ∙ ap₂ (map.insert _) named filled in
    ap (λ files. record { files = files; planned = c.self.inside.planned.items; calls = c.self.inside.calls; faults = c.self.inside.faults.count }) added
    ∙ ap (λ s. record { files = map.insert s.files c.args.name.now c.args.bytes.now; planned = s.planned; calls = s.calls; faults = s.faults }) c.self.view_is
