use Rattle.std.proofs.Common.{ℕ, List, Option, IfSome, option_map, length, ap, sym, ◌∙◌, subst}
use Rattle.bb_flash.specs.Image.{Image}
use Rattle.bb_bucket.specs.Kind.{part_of}
use Rattle.bb_bucket.specs.Seen.{IsLookOf}
use Rattle.bb_bucket.proofs.Quiet.{keeps_of_quiet}
use Rattle.bb_circular.specs.declared.kept.Entry.{Entry}
use Rattle.bb_circular.specs.declared.kept.Kept.{Kept}
use Rattle.bb_circular.specs.Circular.{IsOfEntry, record_of}
use Rattle.bb_circular.specs.Looking.{worn_of}
use Rattle.bb_circular.proofs.Keeping.{confirmed, confirmed_seen}
use Rattle.bb_circular.proofs.look.find_log.Goals as goal

pub returns-clause-done : goal.returns-clause-done
returns-clause-done g c = λ image told.
    let page : ℕ = c.args.block.page in
    let old : Image = part_of page c.args.block.region image in
    let known = c.in_ok-kept.ensures.done image told in
    subst (λ (read : Option Entry).
    IsLookOf (option_map (record_of old) read)
    (worn_of page old read) c.see_newest.new.memory.items c.in_ok-look.look) known.newest
    (c.in_ok-look.ensures.done image ((keeps_of_quiet _ _ c.in_ok-kept.ensures.quiet).content
    ∙ told))

pub returns-clause-seen : goal.returns-clause-seen
returns-clause-seen g c =
    subst
    (λ (kept : Kept).
    IfSome c.in_ok-look.look.seen
    (IsOfEntry c.args.block kept.newest (length c.see_newest.new.memory.items)))
    (sym c.confirm.ensures)
    (confirmed_seen c.args.block c.in_ok-kept.kept c.in_ok-look.look.found.len
    c.in_ok-look.look.seen (length c.see_newest.new.memory.items) c.in_ok-look.ensures.len
    c.in_ok-look.ensures.seen)

pub returns-clause-kept : goal.returns-clause-kept
returns-clause-kept g c = λ image told.
    let old : Image = part_of c.args.block.page c.args.block.region image in
    let known = c.in_ok-kept.ensures.done image told in
    let look = c.in_ok-look.ensures.done image
    ((keeps_of_quiet _ _ c.in_ok-kept.ensures.quiet).content ∙ told) in
    c.confirm.ensures
    ∙ confirmed c.args.block.page old c.in_ok-kept.kept c.in_ok-look.look.found.len known
    (look.is_found.len ∙ ap (λ read.
    option_map (λ (bytes : List ℕ). length bytes) (option_map (record_of old) read))
    known.newest)
