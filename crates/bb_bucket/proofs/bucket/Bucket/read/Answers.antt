use Rattle.std.proofs.Common.{◌∙◌, subst, arith, drop, Option, IfSome, ℕ, ◌≤◌}
use Rattle.std.proofs.lemmas.List.{length-take-le}
use Rattle.bb_flash.specs.declared.geometry.Geometry.{Geometry}
use Rattle.bb_bucket.specs.Calls.{IsPieceOf, candidate_in}
use Rattle.bb_bucket.specs.Kind.{BucketKind}
use Rattle.bb_bucket.proofs.Sights.{found_read}
use Rattle.bb_bucket.proofs.Quiet.{keeps_of_quiet}
use Rattle.bb_bucket.proofs.bucket.Bucket.read.Goals as goal

pub returns-in_ok-part-clause-done : goal.returns-in_ok-part-clause-done
returns-in_ok-part-clause-done g c = λ image told.
    let keeps = keeps_of_quiet _ _ c.in_ok-found.ensures.quiet in
    let piece = c.in_ok-part.ensures.done image (keeps.content ∙ told) in
    let kind = c.in_ok-found.ensures.kind in
    let fits = subst (λ (o : Option ℕ). IfSome o (λ len. len ≤ (g.Self.Bucket.holding c.args.self.now).kind.room)) c.in-Some.is c.in_ok-found.ensures.fits in
    found_read _ _ c.in_ok-found.found c.in-Some.len c.part.new.out (drop c.in-Some.len c.args.out.now)
    (c.in_ok-found.ensures.done image told) c.in-Some.is (c.part.auto.out ∙ length-take-le c.in-Some.len c.args.out.now (omega (arith, c.requires.room, fits)))
    (subst (λ (geometry : Geometry). IsPieceOf (candidate_in (g.Self.Bucket.holding c.args.self.now).kind geometry.page image) 0 c.part.new.out) keeps.geometry
    (subst (λ (k : BucketKind). IsPieceOf (candidate_in k (g.F.Flash.device c.find.new.flash).geometry.page image) 0 c.part.new.out) kind piece))
