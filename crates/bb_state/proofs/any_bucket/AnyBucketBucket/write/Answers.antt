use Rattle.std.proofs.Common.{subst, sym}
use Rattle.bb_bucket.specs.Calls.{Agrees, IsBucketWrite}
use Rattle.bb_state.specs.Kinds.{any_holding}
use Rattle.bb_state.specs.declared.any_bucket.AnyBucket.{AnyBucket}
use Rattle.bb_state.proofs.any_bucket.AnyBucketBucket.write.Goals as goal

pub write-requires-clause-agreed : goal.write-requires-clause-agreed
unfolding any_holding
write-requires-clause-agreed g c = subst (λ (bucket : AnyBucket). Agrees (any_holding bucket) (g.F.Flash.device c.args.flash.now)) c.in-Stride.is c.requires.agreed

pub write-requires-in-OneBlock-clause-agreed : goal.write-requires-in-OneBlock-clause-agreed
unfolding any_holding
write-requires-in-OneBlock-clause-agreed g c = subst (λ (bucket : AnyBucket). Agrees (any_holding bucket) (g.F.Flash.device c.args.flash.now)) c.in-OneBlock.is c.requires.agreed

pub write-requires-in-Circular-clause-agreed : goal.write-requires-in-Circular-clause-agreed
unfolding any_holding
write-requires-in-Circular-clause-agreed g c = subst (λ (bucket : AnyBucket). Agrees (any_holding bucket) (g.F.Flash.device c.args.flash.now)) c.in-Circular.is c.requires.agreed

pub returns-in-Stride-clause-write : goal.returns-in-Stride-clause-write
unfolding any_holding
returns-in-Stride-clause-write g c =
    subst (λ (bucket : AnyBucket). IsBucketWrite (any_holding bucket).kind (any_holding bucket).knows_place c.args.rec.now (g.F.Flash.device c.args.flash.now) (g.F.Flash.device c.write.new.flash) c.write.result)
    (sym c.in-Stride.is) c.write.ensures.write

pub returns-in-OneBlock-clause-write : goal.returns-in-OneBlock-clause-write
unfolding any_holding
returns-in-OneBlock-clause-write g c =
    subst (λ (bucket : AnyBucket). IsBucketWrite (any_holding bucket).kind (any_holding bucket).knows_place c.args.rec.now (g.F.Flash.device c.args.flash.now) (g.F.Flash.device c.write-in-OneBlock.new.flash) c.write-in-OneBlock.result)
    (sym c.in-OneBlock.is) c.write-in-OneBlock.ensures.write

pub returns-in-Circular-clause-write : goal.returns-in-Circular-clause-write
unfolding any_holding
returns-in-Circular-clause-write g c =
    subst (λ (bucket : AnyBucket). IsBucketWrite (any_holding bucket).kind (any_holding bucket).knows_place c.args.rec.now (g.F.Flash.device c.args.flash.now) (g.F.Flash.device c.write-in-Circular.new.flash) c.write-in-Circular.result)
    (sym c.in-Circular.is) c.write-in-Circular.ensures.write
