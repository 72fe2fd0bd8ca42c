use Rattle.std.proofs.Common.{◌∙◌, length, refl}
use Rattle.std.proofs.lemmas.Option.{slice_get_read}
use Rattle.bb_copies.specs.Buckets.{kinds_of}
use Rattle.bb_copies.proofs.Many.{kind_at}
use Rattle.bb_copies.proofs.Rooms.{same_most}
use Rattle.bb_copies.proofs.copies.record_len.Goals as goal

pub returns : goal.returns
returns g c = λ copy kind e zero.
    let items = c.args.buckets.now.items in
    let there = slice_get_read items (length items) 0 _ refl c.requires c.index.ensures in
    let here = kind_at g.B.Bucket.holding items 0 _ there in
    c.most.ensures
    ∙ same_most (kinds_of g.B.Bucket.holding items) copy kind _ zero e here
