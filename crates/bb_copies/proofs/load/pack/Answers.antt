use Rattle.std.proofs.Common.{◌∙◌, ap, take}
use Rattle.bb_copies.proofs.Ends.{whole_slice}
use Rattle.bb_copies.proofs.load.pack.Goals as goal

pub returns-clause-packed : goal.returns-clause-packed
returns-clause-packed g c =
    ap (take c.length-len.result) (whole_slice c.pack_into.new.rec c.args.rec.now.items _ (c.pack_into.auto.rec ∙ c.deref_mut.ensures.len))
    ∙ c.pack_into.ensures.packed
