use Rattle.std.proofs.Common.{ℕ, ◌≤◌, IfSome, List, Option, IsTrue, arith, length, min, set, refl}
use Rattle.std.specs.Option.{ForSome}
use Rattle.std.proofs.lemmas.Option.{slice_get_read}
use Rattle.bb_base.specs.Form.{Form}
use Rattle.bb_flash.specs.Device.{Device, content}
use Rattle.bb_bucket.specs.Kind.{BucketKind}
use Rattle.bb_bucket.proofs.Quiet.{keeps_of_quiet}
use Rattle.bb_copies.specs.declared.read.PassingCopy.{PassingCopy}
use Rattle.bb_copies.specs.Buckets.{IsFoundWithin, kinds_of}
use Rattle.bb_copies.specs.Looking.{IsReadAt}
use Rattle.bb_copies.specs.Passing.{IsReading}
use Rattle.bb_copies.specs.Placing.{PlacesCopy}
use Rattle.bb_copies.proofs.Finding.{ok_weaker, read_agrees, some_weaker}
use Rattle.bb_copies.proofs.Many.{kind_at, set_kinds}
use Rattle.bb_copies.proofs.Placed.{on_ok, set_places}
use Rattle.bb_copies.proofs.Settled.{at_copy}
use Rattle.bb_copies.proofs.look.read_at.Goals as goal

pub read_copy-requires-clause-serves : goal.read_copy-requires-clause-serves
read_copy-requires-clause-serves g c =
    let there = slice_get_read c.args.buckets.now.items (length c.args.buckets.now.items) c.args.copy _ refl c.requires.inside c.index_mut.ensures.value in
    c.requires.serves c.args.copy _ (kind_at g.B.Bucket.holding c.args.buckets.now.items c.args.copy _ there)

pub read_copy-requires-clause-agreed : goal.read_copy-requires-clause-agreed
read_copy-requires-clause-agreed g c =
    let there = slice_get_read c.args.buckets.now.items (length c.args.buckets.now.items) c.args.copy _ refl c.requires.inside c.index_mut.ensures.value in
    c.requires.agreed c.args.copy _ there

pub returns-clause-done : goal.returns-clause-done
returns-clause-done g c =
    let form : Form = g.M.Format.form c.args.format.now in
    let from : Device = g.F.Flash.device c.args.flash.now in
    let kinds : List BucketKind = kinds_of g.B.Bucket.holding c.args.buckets.now.items in
    let kind : BucketKind = (g.B.Bucket.holding c.index_mut.result.now).kind in
    let out : List ℕ = c.read_copy.new.area in
    let there = slice_get_read c.args.buckets.now.items (length c.args.buckets.now.items) c.args.copy _ refl c.requires.inside c.index_mut.ensures.value in
    let here = kind_at g.B.Bucket.holding c.args.buckets.now.items c.args.copy _ there in
    ok_weaker c.read_copy.result (λ (passed : Option PassingCopy). ForSome (content from) (λ image. IsReading form from.geometry.page kind image out passed))
    (λ (passed : Option PassingCopy). ForSome (content from) (λ image. IsReadAt form from.geometry.page kinds c.args.copy image out passed))
    (λ passed reading image e. at_copy (λ k. IsReading form from.geometry.page k image out passed) kinds c.args.copy kind here (reading image e))
    c.read_copy.ensures.done

pub returns-clause-room : goal.returns-clause-room
returns-clause-room g c =
    let form : Form = g.M.Format.form c.args.format.now in
    let kinds : List BucketKind = kinds_of g.B.Bucket.holding c.args.buckets.now.items in
    let kind : BucketKind = (g.B.Bucket.holding c.index_mut.result.now).kind in
    let there = slice_get_read c.args.buckets.now.items (length c.args.buckets.now.items) c.args.copy _ refl c.requires.inside c.index_mut.ensures.value in
    let here = kind_at g.B.Bucket.holding c.args.buckets.now.items c.args.copy _ there in
    ok_weaker c.read_copy.result (λ (passed : Option PassingCopy). IfSome passed (λ found. form.length_of found.len ≤ min form.reach kind.room))
    (λ (passed : Option PassingCopy). IfSome passed (λ found. IsFoundWithin form kinds found.len))
    (λ passed known. some_weaker passed (λ found. form.length_of found.len ≤ min form.reach kind.room) (λ found. IsFoundWithin form kinds found.len)
    (λ found small bound most. let enough = most c.args.copy kind here in omega (arith, small, enough)) known)
    c.read_copy.ensures.room

pub returns-clause-kinds : goal.returns-clause-kinds
returns-clause-kinds g c =
    let there = slice_get_read c.args.buckets.now.items (length c.args.buckets.now.items) c.args.copy _ refl c.requires.inside c.index_mut.ensures.value in
    set_kinds g.B.Bucket.holding c.args.buckets.now.items c.args.copy _ _ there c.read_copy.ensures.kind

pub returns-clause-agrees : goal.returns-clause-agrees
returns-clause-agrees g c =
    let from : Device = g.F.Flash.device c.args.flash.now in
    let to : Device = g.F.Flash.device c.read_copy.new.flash in
    read_agrees g.B.Bucket.holding c.args.buckets.now.items c.args.copy _ from to (keeps_of_quiet _ _ c.read_copy.ensures.quiet) c.requires.agreed c.read_copy.ensures.agrees

pub returns-clause-placed : goal.returns-clause-placed
returns-clause-placed g c =
    let new : g.row.B.Denot = c.read_copy.new.bucket in
    on_ok c.read_copy.result (IsTrue (g.B.Bucket.holding new).knows_place) (PlacesCopy g.B.Bucket.holding c.args.copy c.args.buckets.now.items (set c.args.buckets.now.items c.args.copy new))
    (set_places g.B.Bucket.holding c.args.buckets.now.items c.args.copy new) c.read_copy.ensures.placed
