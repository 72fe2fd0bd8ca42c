use Rattle.std.proofs.Common.{◌≡◌, ◌∙◌, ℕ, ◌+◌, ◌-◌, Bool, not, List, MatchOption, length, ap, sym, subst, arith, inr}
use Rattle.std.proofs.lemmas.List.{length-map}
use Rattle.std.proofs.lemmas.Grind.{common_steps}
use Rattle.bb_base.specs.Form.{Form}
use Rattle.bb_flash.specs.Device.{Device}
use Rattle.bb_bucket.specs.Kind.{BucketKind}
use Rattle.bb_copies.specs.Buckets.{kinds_of}
use Rattle.bb_copies.specs.Refreshing.{IsFirstMarked, NoOther}
use Rattle.bb_copies.proofs.Held.{none_of_match}
use Rattle.bb_copies.proofs.Saves.{all_erases, hopeless}
use Rattle.bb_copies.proofs.Touched.{others_tried}
use Rattle.bb_copies.proofs.overwrite.save_first.Goals as goal

pub returns-then-is_none-clause-fails : goal.returns-then-is_none-clause-fails
returns-then-is_none-clause-fails g c =
    let form : Form = g.M.Format.form c.args.format.now in
    let kinds : List BucketKind = kinds_of g.B.Bucket.holding c.args.buckets.now.items in
    let area : List ℕ = c.args.area.now in
    let rec : List ℕ = c.args.rec.now in
    let marked : List Bool = c.args.good.now.items in
    let from : Device = g.F.Flash.device c.args.flash.now in
    let mid : Device = g.F.Flash.device c.refresh.new.flash in
    let r = c.refresh.ensures in
    let many : length c.args.buckets.now.items ≡ length kinds = sym (length-map c.args.buckets.now.items _) in
    let good : List Bool = c.refresh.new.good.items in
    let len : c.len.result ≡ length good = omega (arith, c.len.ensures, c.refresh.new.good.ok) in
    let all : length good ≡ length kinds = omega (arith, r.marks, c.requires.marks, many) in
    let last : c.len-then-is_none.result - 1 + 1 ≡ length kinds = omega (arith, c.len-then-is_none.ensures, c.refresh.new.good.ok, all, c.requires.many, many) in
    let at : List Bool → ℕ → Type 0 = λ xs n. MatchOption c.first_good.result (NoOther xs n) (IsFirstMarked xs n) in
    let found = subst (λ (n : ℕ). at good n) len (subst (λ (xs : List Bool). at xs c.len.result) c.deref.ensures.value c.first_good.ensures) in
    let none : NoOther good (length good) = none_of_match c.first_good.result (NoOther good (length good)) (IsFirstMarked good (length good)) found (c.is_none.ensures ∙ ap not c.if-is_none.true) in
    inr (inr (hopeless form kinds area marked good (c.len-then-is_none.result - 1) from mid c.requires.unmarked all last none c.in_ok-refresh.ensures.settled c.in_ok-refresh.ensures.read_faults))

pub returns-clause-exact : goal.returns-clause-exact
returns-clause-exact g c =
    let form : Form = g.M.Format.form c.args.format.now in
    let kinds : List BucketKind = kinds_of g.B.Bucket.holding c.args.buckets.now.items in
    let area : List ℕ = c.args.area.now in
    let rec : List ℕ = c.args.rec.now in
    let marked : List Bool = c.args.good.now.items in
    let from : Device = g.F.Flash.device c.args.flash.now in
    let mid : Device = g.F.Flash.device c.refresh.new.flash in
    let r = c.refresh.ensures in
    let many : length c.args.buckets.now.items ≡ length kinds = sym (length-map c.args.buckets.now.items _) in
    λ quiet copy kind e. (r.exact quiet).each copy kind e (c.requires.unmarked copy)

pub returns-clause-erases : goal.returns-clause-erases
returns-clause-erases g c =
    let form : Form = g.M.Format.form c.args.format.now in
    let kinds : List BucketKind = kinds_of g.B.Bucket.holding c.args.buckets.now.items in
    let area : List ℕ = c.args.area.now in
    let rec : List ℕ = c.args.rec.now in
    let marked : List Bool = c.args.good.now.items in
    let from : Device = g.F.Flash.device c.args.flash.now in
    let mid : Device = g.F.Flash.device c.refresh.new.flash in
    let r = c.refresh.ensures in
    let many : length c.args.buckets.now.items ≡ length kinds = sym (length-map c.args.buckets.now.items _) in
    λ quiet. all_erases kinds rec marked from mid c.requires.unmarked (r.exact quiet)

pub returns-clause-placed : goal.returns-clause-placed
returns-clause-placed g c = λ copy. c.in_ok-refresh.ensures.placed copy (λ mark. let clash = c.requires.unmarked copy in absurd cc)

pub returns-in_err-refresh-clause-inside : goal.returns-in_err-refresh-clause-inside
returns-in_err-refresh-clause-inside g c = grind (arith, common_steps)

pub returns-in_err-refresh-clause-bounds : goal.returns-in_err-refresh-clause-bounds
returns-in_err-refresh-clause-bounds g c =
    let kinds : List BucketKind = kinds_of g.B.Bucket.holding c.args.buckets.now.items in
    others_tried kinds c.args.rec.now c.args.good.now.items (g.F.Flash.device c.args.flash.now) (g.F.Flash.device c.refresh.new.flash) c.refresh.ensures.bounds c.refresh.ensures.each_copy

pub returns-then-is_none-clause-bounds : goal.returns-then-is_none-clause-bounds
returns-then-is_none-clause-bounds g c =
    let kinds : List BucketKind = kinds_of g.B.Bucket.holding c.args.buckets.now.items in
    others_tried kinds c.args.rec.now c.args.good.now.items (g.F.Flash.device c.args.flash.now) (g.F.Flash.device c.refresh.new.flash) c.refresh.ensures.bounds c.refresh.ensures.each_copy

pub returns-clause-bounds : goal.returns-clause-bounds
returns-clause-bounds g c =
    let kinds : List BucketKind = kinds_of g.B.Bucket.holding c.args.buckets.now.items in
    others_tried kinds c.args.rec.now c.args.good.now.items (g.F.Flash.device c.args.flash.now) (g.F.Flash.device c.refresh.new.flash) c.refresh.ensures.bounds c.refresh.ensures.each_copy
