use Rattle.std.proofs.Common.{◌≡◌, ◌∙◌, ◌≤◌, ℕ, IfSome, List, Option, length, ap, sym, subst, arith}
use Rattle.std.proofs.lemmas.List.{length-map}
use Rattle.std.proofs.lemmas.Grind.{common_steps}
use Rattle.bb_base.specs.Form.{Form}
use Rattle.bb_flash.specs.Device.{Device}
use Rattle.bb_bucket.specs.Kind.{BucketKind}
use Rattle.bb_bucket.proofs.Quiet.{keeps_of_quiet, quiet_joined}
use Rattle.bb_copies.specs.Buckets.{kinds_of}
use Rattle.bb_copies.proofs.Ends.{whole_slice}
use Rattle.bb_copies.proofs.Finding.{reading_from}
use Rattle.bb_copies.specs.Loading.{LookGives, looked_in}
use Rattle.bb_copies.proofs.Loads.{look_found, look_none, looked_inside, none_more}
use Rattle.bb_copies.proofs.look.find_first.Goals as goal

pub loop-copy-preserved : goal.loop-copy-preserved
loop-copy-preserved g c =
    let i = c.loop-copy.invariant in
    let r = c.in_ok-passed.ensures in
    let form : Form = g.M.Format.form c.args.format.now in
    let kinds : List BucketKind = kinds_of g.B.Bucket.holding c.args.buckets.now.items in
    let from : Device = g.F.Flash.device c.args.flash.now in
    let mid : Device = g.F.Flash.device c.loop-copy.flash in
    let copy : ℕ = c.loop-copy.copy in
    let out : List ℕ = c.read_at.new.area in
    record {
      none = λ image e.
          none_more form from.geometry.page kinds out copy c.in_ok-passed.passed image (sym c.is_some.ensures ∙ c.if-is_some.false) (i.none image e)
          (reading_from form kinds (kinds_of g.B.Bucket.holding c.loop-copy.buckets.items) copy image out c.in_ok-passed.passed from mid (keeps_of_quiet _ _ i.quiet) i.kinds (r.done image ((keeps_of_quiet _ _ i.quiet).content ∙ e)));
      quiet = quiet_joined from mid _ i.quiet r.quiet;
      faults = r.faults ∙ i.faults;
      read_faults = r.read_faults ∙ i.read_faults;
      kinds = r.kinds ∙ i.kinds;
      agrees = r.agrees;
      placed = λ all place. r.placed place (λ other. i.placed all place);
      memory = record {
        piece =
            let kept = ap length (whole_slice c.read_at.new.piece c.loop-copy.room.piece.items _ (c.read_at.auto.piece ∙ c.deref_mut.ensures.len)) ∙ c.read_at.auto.piece ∙ ap length c.deref_mut.ensures.value in
            omega (arith, kept, i.memory.piece);
        area = i.memory.area;
      };
      sized = c.read_at.auto.area ∙ i.sized;
    }

pub returns-then-is_some-clause-gives : goal.returns-then-is_some-clause-gives
returns-then-is_some-clause-gives g c =
    let i = c.loop-copy.invariant in
    let r = c.in_ok-passed.ensures in
    let form : Form = g.M.Format.form c.args.format.now in
    let kinds : List BucketKind = kinds_of g.B.Bucket.holding c.args.buckets.now.items in
    let from : Device = g.F.Flash.device c.args.flash.now in
    let mid : Device = g.F.Flash.device c.loop-copy.flash in
    let copy : ℕ = c.loop-copy.copy in
    let out : List ℕ = c.read_at.new.area in
    let many : length kinds ≡ length c.args.buckets.now.items = length-map c.args.buckets.now.items _ in
    subst (λ (found : Option ℕ). LookGives form kinds from (looked_in out found)) (sym c.len_of.ensures)
    (look_found form kinds out copy c.in_ok-passed.passed from (omega (arith, many, c.len-copy-end.ensures, c.args.buckets.now.ok)) (sym c.is_some.ensures ∙ c.if-is_some.true) i.none
    (λ image e. reading_from form kinds (kinds_of g.B.Bucket.holding c.loop-copy.buckets.items) copy image out c.in_ok-passed.passed from mid (keeps_of_quiet _ _ i.quiet) i.kinds (r.done image ((keeps_of_quiet _ _ i.quiet).content ∙ e))))

pub returns-then-is_some-clause-inside : goal.returns-then-is_some-clause-inside
returns-then-is_some-clause-inside g c =
    let out : List ℕ = c.read_at.new.area in
    let form : Form = g.M.Format.form c.args.format.now in
    subst (λ (found : Option ℕ). IfSome found (λ len. len ≤ length out)) (sym c.len_of.ensures)
    (looked_inside form out c.in_ok-passed.passed c.in_ok-passed.ensures.fits)

pub returns-clause-gives : goal.returns-clause-gives
returns-clause-gives g c =
    let kinds : List BucketKind = kinds_of g.B.Bucket.holding c.args.buckets.now.items in
    let many : length kinds ≡ length c.args.buckets.now.items = length-map c.args.buckets.now.items _ in
    look_none (g.M.Format.form c.args.format.now) kinds c.loop-copy.copy (g.F.Flash.device c.args.flash.now) (omega (arith, many, c.len-copy-end.ensures, c.args.buckets.now.ok)) c.loop-copy.invariant.none

pub returns-then-is_some-clause-placed : goal.returns-then-is_some-clause-placed
returns-then-is_some-clause-placed g c = λ all place. c.in_ok-passed.ensures.placed place (λ other. c.loop-copy.invariant.placed all place)

pub read_at-requires-clause-inside : goal.read_at-requires-clause-inside
read_at-requires-clause-inside g c = grind (arith, common_steps)

pub returns-in_err-passed-clause-memory : goal.returns-in_err-passed-clause-memory
returns-in_err-passed-clause-memory g c =
    let i = c.loop-copy.invariant in
    record { piece = grind (arith, common_steps, i.memory.piece); area = i.memory.area }

pub returns-then-is_some-clause-memory : goal.returns-then-is_some-clause-memory
returns-then-is_some-clause-memory g c =
    let i = c.loop-copy.invariant in
    record { piece = grind (arith, common_steps, i.memory.piece); area = i.memory.area }
