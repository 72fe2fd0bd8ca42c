use Rattle.std.proofs.Common.{◌≡◌, ap, sym, ◌∙◌, rules}
use Rattle.std.specs.FinMap as map
use Rattle.std.specs.Option.{option_copied}
use Rattle.bb_base.proofs.Entries.{get-by_bytes}
use Rattle.bb_base.proofs.mem_files.MemFiles.file.Goals as goal

pub returns : goal.returns
returns c =
    let found : map.get c.args.self.now.files c.args.name.now ≡ option_copied c.get.result =
    ap (λ s. map.get s.files c.args.name.now) (sym c.self.view_is) ∙ get-by_bytes _ _ c.self.invariant ∙ sym c.get.ensures.value in
    rw found (grind rules)
