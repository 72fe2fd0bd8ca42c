use Rattle.std.proofs.Common.{◌≡◌, ◌∙◌, ℕ, Bool, true, false, List, sym, subst, arith, inl, inr}
use Rattle.std.proofs.lemmas.Grind.{common_steps}
use Rattle.bb_base.specs.Form.{Form}
use Rattle.bb_flash.specs.Device.{Device}
use Rattle.bb_bucket.specs.Kind.{BucketKind}
use Rattle.bb_copies.specs.Buckets.{kinds_of}
use Rattle.bb_copies.specs.Saving.{SettlesAll}
use Rattle.bb_copies.proofs.Saves.{all_erases}
use Rattle.bb_copies.proofs.overwrite.save_over.Goals as goal

pub settle_all-requires-clause-passed : goal.settle_all-requires-clause-passed
settle_all-requires-clause-passed g c = λ copy kind e mark. let clash = sym mark ∙ c.requires.unmarked copy in absurd cc

pub returns-in_err-stored-clause-inside : goal.returns-in_err-stored-clause-inside
returns-in_err-stored-clause-inside g c = grind (arith, common_steps)

pub returns-then-stored-clause-held : goal.returns-then-stored-clause-held
returns-then-stored-clause-held g c =
    let form : Form = g.M.Format.form c.args.format.now in
    let kinds : List BucketKind = kinds_of g.B.Bucket.holding c.args.buckets.now.items in
    let area : List ℕ = c.args.area.now in
    let used : ℕ = c.args.used in
    let from : Device = g.F.Flash.device c.args.flash.now in
    let to : Device = g.F.Flash.device c.settle_all.new.flash in
    let good : List Bool = c.settle_all.new.good.items in
    subst (λ (b : Bool). SettlesAll form kinds area used good from to b) c.if-stored.true c.in_ok-stored.ensures.ends

pub returns-then-stored-clause-exact : goal.returns-then-stored-clause-exact
returns-then-stored-clause-exact g c = λ quiet copy kind e. (c.settle_all.ensures.exact quiet).each copy kind e (c.requires.unmarked copy)

pub returns-then-stored-clause-erases : goal.returns-then-stored-clause-erases
returns-then-stored-clause-erases g c =
    let kinds : List BucketKind = kinds_of g.B.Bucket.holding c.args.buckets.now.items in
    let from : Device = g.F.Flash.device c.args.flash.now in
    let to : Device = g.F.Flash.device c.settle_all.new.flash in
    λ quiet. all_erases kinds c.args.rec.now c.args.good.now.items from to c.requires.unmarked (c.settle_all.ensures.exact quiet)

pub returns-clause-fails : goal.returns-clause-fails
returns-clause-fails g c =
    let form : Form = g.M.Format.form c.args.format.now in
    let kinds : List BucketKind = kinds_of g.B.Bucket.holding c.args.buckets.now.items in
    let area : List ℕ = c.args.area.now in
    let used : ℕ = c.args.used in
    let from : Device = g.F.Flash.device c.args.flash.now in
    let to : Device = g.F.Flash.device c.settle_all.new.flash in
    let good : List Bool = c.settle_all.new.good.items in
    inr (inl (subst (λ (b : Bool). SettlesAll form kinds area used good from to b) c.if-stored.false c.in_ok-stored.ensures.ends))
