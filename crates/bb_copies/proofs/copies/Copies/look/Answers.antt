use Rattle.std.proofs.Common.{List, Ok, ap, refl, sym, subst}
use Rattle.bb_copies.specs.Buckets.{kinds_of}
use Rattle.bb_copies.specs.Loading.{IsLook, looked_in}
use Rattle.bb_copies.specs.Placing.{AllPlaced}
use Rattle.bb_copies.specs.Store.{Store}
use Rattle.bb_copies.proofs.copies.Copies.look.Goals as goal

pub returns-in_default-clause-look : goal.returns-in_default-clause-look
returns-in_default-clause-look g c = record {
  gives = tt;
  fails = refl;
  quiet = c.in_default.ensures.quiet;
  faults = c.in_default.ensures.faults;
  read_faults = c.in_default.ensures.read_faults;
}

pub returns-clause-look : goal.returns-clause-look
returns-clause-look g c =
    let k = c.in-Ok.ensures in
    subst (λ (store : Store _ _). IsLook (g.M.Format.form store.format) (kinds_of g.B.Bucket.holding store.buckets) (g.F.Flash.device c.args.flash.now) (g.F.Flash.device c.find_first-looked.new.flash) (Ok (looked_in c.find_first-looked.new.area c.in-Ok.found)))
    c.self.view_is (record { gives = k.gives; fails = tt; quiet = k.quiet; faults = k.faults; read_faults = k.read_faults })

pub returns-clause-placed : goal.returns-clause-placed
returns-clause-placed g c = λ all.
    let same = ap (λ store. store.buckets) c.self.view_is in
    c.in-Ok.ensures.placed (subst (λ (bs : List g.row.B.Denot). AllPlaced g.B.Bucket.holding bs) (sym same) all)
