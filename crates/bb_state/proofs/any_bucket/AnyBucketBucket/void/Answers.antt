use Rattle.std.proofs.Common.{subst, sym}
use Rattle.bb_bucket.specs.Calls.{Agrees, IsBucketVoid}
use Rattle.bb_state.specs.Kinds.{any_holding}
use Rattle.bb_state.specs.declared.any_bucket.AnyBucket.{AnyBucket}
use Rattle.bb_state.proofs.any_bucket.AnyBucketBucket.void.Goals as goal

pub void-requires-clause-agreed : goal.void-requires-clause-agreed
unfolding any_holding
void-requires-clause-agreed g c = subst (λ (bucket : AnyBucket). Agrees (any_holding bucket) (g.F.Flash.device c.args.flash.now)) c.in-Stride.is c.requires.agreed

pub void-requires-in-OneBlock-clause-agreed : goal.void-requires-in-OneBlock-clause-agreed
unfolding any_holding
void-requires-in-OneBlock-clause-agreed g c = subst (λ (bucket : AnyBucket). Agrees (any_holding bucket) (g.F.Flash.device c.args.flash.now)) c.in-OneBlock.is c.requires.agreed

pub void-requires-in-Circular-clause-agreed : goal.void-requires-in-Circular-clause-agreed
unfolding any_holding
void-requires-in-Circular-clause-agreed g c = subst (λ (bucket : AnyBucket). Agrees (any_holding bucket) (g.F.Flash.device c.args.flash.now)) c.in-Circular.is c.requires.agreed

pub returns-in-Stride-clause-void : goal.returns-in-Stride-clause-void
unfolding any_holding
returns-in-Stride-clause-void g c =
    subst (λ (bucket : AnyBucket). IsBucketVoid (any_holding bucket).kind (g.F.Flash.device c.args.flash.now) (g.F.Flash.device c.void.new.flash) c.void.result)
    (sym c.in-Stride.is) c.void.ensures.void

pub returns-in-OneBlock-clause-void : goal.returns-in-OneBlock-clause-void
unfolding any_holding
returns-in-OneBlock-clause-void g c =
    subst (λ (bucket : AnyBucket). IsBucketVoid (any_holding bucket).kind (g.F.Flash.device c.args.flash.now) (g.F.Flash.device c.void-in-OneBlock.new.flash) c.void-in-OneBlock.result)
    (sym c.in-OneBlock.is) c.void-in-OneBlock.ensures.void

pub returns-in-Circular-clause-void : goal.returns-in-Circular-clause-void
unfolding any_holding
returns-in-Circular-clause-void g c =
    subst (λ (bucket : AnyBucket). IsBucketVoid (any_holding bucket).kind (g.F.Flash.device c.args.flash.now) (g.F.Flash.device c.void-in-Circular.new.flash) c.void-in-Circular.result)
    (sym c.in-Circular.is) c.void-in-Circular.ensures.void
