use Rattle.std.proofs.Common.{◌≡◌, ◌++◌, ap, ap₂, sym, ◌∙◌, map, filter_map, arith}
use Rattle.std.specs.FinMap.{keys}
use Rattle.std.specs.String.{string_bytes}
use Rattle.std.proofs.lemmas.Grind.{common_steps}
use Rattle.bb_base.specs.Folder.{name_in}
use Rattle.bb_base.proofs.Entries.{keys-by_bytes}
use Rattle.bb_base.proofs.mem_files.MemFiles.parts_in.Goals as goal

pub loop-name-init : goal.loop-name-init
loop-name-init c =
    let there : keys c.args.self.now.files ≡ map string_bytes c.into_iter-name-iterator.result =
    ap (λ s. keys s.files) (sym c.self.view_is) ∙ keys-by_bytes _ c.self.invariant
    ∙ ap (map string_bytes) (sym (c.into_iter-name-iterator.ensures.into_iter_gives ∙ c.keys-name-items.ensures.rest)) in
    ap₂ (λ names left. names ++ filter_map (name_in c.args.dir.now) left) c.none-names.ensures (sym there)

pub loop-name-preserved-in_ok-push : goal.loop-name-preserved-in_ok-push
loop-name-preserved-in_ok-push c = grind (arith, common_steps)
