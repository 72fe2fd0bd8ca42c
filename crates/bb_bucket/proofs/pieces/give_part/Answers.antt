use Rattle.std.proofs.Common.{◌≡◌, ◌∙◌, ℕ, ◌+◌, sym, length, arith, drop, take, ap}
use Rattle.bb_flash.specs.Image.{Image, health_of}
use Rattle.bb_bucket.specs.Kind.{part_of}
use Rattle.bb_bucket.proofs.Quiet.{quiet_same}
use Rattle.bb_bucket.proofs.Sights.{alive_within, copied}
use Rattle.bb_bucket.proofs.pieces.give_part.Goals as goal

pub returns-then-end-seen-clause-quiet : goal.returns-then-end-seen-clause-quiet
returns-then-end-seen-clause-quiet g c =
    quiet_same (g.F.Flash.device c.args.flash.now) c.geometry.ensures.whole

pub returns-then-end-seen-clause-done : goal.returns-then-end-seen-clause-done
returns-then-end-seen-clause-done g c = λ image told.
    let page : ℕ = (g.F.Flash.device c.args.flash.now).geometry.page in
    let region : Image = part_of page c.args.region image in
    copied c.args.seen.at c.args.from (length c.args.out.now) c.args.memory.now region.bytes
    c.copy_from.new.out c.args.seen (omega arith) (omega arith)
    (c.requires.readable image told).piece c.copy_from.ensures

pub returns-in_ok-read_part-clause-done : goal.returns-in_ok-read_part-clause-done
returns-in_ok-read_part-clause-done g c = λ image told.
    let page : ℕ = (g.F.Flash.device c.args.flash.now).geometry.page in
    let region : Image = part_of page c.args.region image in
    let part = c.in_ok-read_part.ensures.done image told in
    let len : length c.read_part.new.out ≡ length c.args.out.now = c.read_part.auto.out in
    part.exact
    (λ lost.
    alive_within page region c.args.seen.at c.args.from (length c.args.out.now) c.args.seen.len
    c.geometry.ensures.whole.geometry.page_some c.requires.reaches
    (c.requires.readable image told).alive
    (ap (health_of page region (c.args.seen.at + c.args.from)) (sym len) ∙ sym part.health_is ∙ lost))
    ∙ ap (λ n. take n (drop (c.args.seen.at + c.args.from) region.bytes)) len
