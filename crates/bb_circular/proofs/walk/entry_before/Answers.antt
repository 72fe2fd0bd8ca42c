use Rattle.std.proofs.Common.{◌≡◌, ℕ, ◌-◌, ◌*◌, ◌∙◌, length}
use Rattle.bb_flash.specs.declared.geometry.Geometry.{Geometry}
use Rattle.bb_flash.specs.Image.{Image}
use Rattle.bb_bucket.specs.BlockLaws.{block_lies_on, block_of}
use Rattle.bb_bucket.specs.Kind.{part_of}
use Rattle.bb_circular.proofs.Looks.{closed_ends, end_read, part_by}
use Rattle.bb_circular.proofs.walk.entry_before.Goals as goal

pub read_part-requires-clause-lies : goal.read_part-requires-clause-lies
read_part-requires-clause-lies g c =
    let geometry : Geometry = (g.F.Flash.device c.args.flash.now).geometry in
    block_lies_on c.args.block geometry (block_of c.args.block geometry c.requires.held)

pub returns-clause-done : goal.returns-clause-done
returns-clause-done g c = λ image told.
    let geometry : Geometry = (g.F.Flash.device c.args.flash.now).geometry in
    let held = block_of c.args.block geometry c.requires.held in
    let page : ℕ = c.args.block.page in
    let old : Image = part_of page c.args.block.region image in
    let long : length c.read_part.new.out ≡ page = c.read_part.auto.out ∙ c.requires.page in
    let part = part_by geometry page c.args.block.region image ((c.args.pages - 1) * page) c.read_part.new.out c.in_ok-health.health held.page (c.in_ok-health.ensures.done image told) in
    end_read page old c.args.block.region.size c.args.pages c.read_part.new.out c.in_ok-health.health c.closed_entry.result part long c.closed_entry.ensures.value

pub returns-clause-ends : goal.returns-clause-ends
returns-clause-ends g c =
    closed_ends c.args.block.page c.args.pages (record { bytes = c.read_part.new.out; health = c.in_ok-health.health })
    c.closed_entry.result c.closed_entry.ensures.value
