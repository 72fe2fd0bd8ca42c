use Rattle.std.proofs.Common.{◌≡◌, ap, sym, ◌∙◌, map}
use Rattle.std.specs.FinMap.{keys}
use Rattle.std.specs.List.{list_any}
use Rattle.std.specs.String.{string_bytes}
use Rattle.bb_base.specs.Folder.{is_under}
use Rattle.bb_base.proofs.Entries.{keys-by_bytes}
use Rattle.bb_base.proofs.mem_files.MemFiles.has_folder.Goals as goal

pub loop-name-init : goal.loop-name-init
loop-name-init c =
    let there : keys c.args.self.now.files ≡ map string_bytes c.into_iter-name-iterator.result =
    ap (λ s. keys s.files) (sym c.self.view_is) ∙ keys-by_bytes _ c.self.invariant
    ∙ ap (map string_bytes) (sym (c.into_iter-name-iterator.ensures.into_iter_gives ∙ c.keys-name-items.ensures.rest)) in
    ap (list_any (is_under c.args.dir.now)) (sym there)
