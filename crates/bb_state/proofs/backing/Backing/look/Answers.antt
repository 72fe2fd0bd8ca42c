use Rattle.std.proofs.Common.{◌≡◌, ◌∙◌, ◌++◌, ◌≤◌, ℕ, Bool, Err, IfSome, List, [], None, Ok, Option, Result, Some, ap, arith, drop, length, refl, subst, sym, take}
use Rattle.std.proofs.lemmas.Result.{err_from_is_err_and}
use Rattle.bb_copies.specs.Buckets.{AllAgree, kinds_of}
use Rattle.bb_copies.specs.Loading.{IsLook, looked_in}
use Rattle.bb_copies.specs.Placing.{AllPlaced}
use Rattle.bb_copies.specs.declared.answers.CopyFault.{CopyFault}
use Rattle.bb_layout.specs.Convert.{convert}
use Rattle.bb_layout.specs.Layout.{fields_of}
use Rattle.bb_state.specs.Backed.{Backed}
use Rattle.bb_state.specs.Kinds.{any_form, any_holding, laid_form, laid_kinds}
use Rattle.bb_state.specs.State.{looked_as}
use Rattle.bb_state.specs.declared.any_bucket.AnyBucket.{AnyBucket}
use Rattle.bb_state.proofs.Handed.{look_of, still_backed, whole_written}
use Rattle.bb_state.proofs.backing.Backing.look.Goals as goal

pub look-requires-clause-agreed : goal.look-requires-clause-agreed
look-requires-clause-agreed g c =
    let buckets : c.self.inside.copies.buckets ≡ c.args.self.now.buckets = ap (λ (b : Backed). b.buckets) c.self.view_is in
    subst (λ (buckets : List AnyBucket). AllAgree any_holding (g.F.Flash.device c.args.flash.now) buckets) (sym buckets) c.requires.agreed

pub returns-in_err-found-clause-look : goal.returns-in_err-found-clause-look
returns-in_err-found-clause-look g c =
    let kinds : kinds_of any_holding c.self.inside.copies.buckets ≡ laid_kinds c.args.self.now.keyed.layout = c.self.invariant.kinds ∙ ap (λ (b : Backed). laid_kinds b.keyed.layout) c.self.view_is in
    let form : any_form c.self.inside.copies.format ≡ laid_form c.args.self.now.keyed = ap any_form c.self.invariant.format_is ∙ ap (λ (b : Backed). laid_form b.keyed) c.self.view_is in
    let from = g.F.Flash.device c.args.flash.now in
    let to = g.F.Flash.device c.look.new.flash in
    let p = err_from_is_err_and c.from_residual.result c.from_residual.ensures.1 in
    subst (λ (r : Result Bool CopyFault). IsLook (laid_form c.args.self.now.keyed) (laid_kinds c.args.self.now.keyed.layout) from to (looked_as [] r))
    (sym (p.1 ∙ ap (λ e. Err e) p.2))
    (look_of _ _ c.args.self.now.keyed from to (Err c.in_err-found.field-0.0) form kinds c.in_err-found.ensures.look)

pub returns-in_default-clause-look : goal.returns-in_default-clause-look
returns-in_default-clause-look g c =
    let kinds : kinds_of any_holding c.self.inside.copies.buckets ≡ laid_kinds c.args.self.now.keyed.layout = c.self.invariant.kinds ∙ ap (λ (b : Backed). laid_kinds b.keyed.layout) c.self.view_is in
    let form : any_form c.self.inside.copies.format ≡ laid_form c.args.self.now.keyed = ap any_form c.self.invariant.format_is ∙ ap (λ (b : Backed). laid_form b.keyed) c.self.view_is in
    let from = g.F.Flash.device c.args.flash.now in
    let to = g.F.Flash.device c.look.new.flash in
    let none : looked_in c.look.new.area c.in_ok-found.found ≡ None = ap (looked_in c.look.new.area) c.in_default.is in
    look_of _ _ c.args.self.now.keyed from to (Ok None) form kinds
    (subst (λ (found : Option (List ℕ)). IsLook (any_form c.self.inside.copies.format) (kinds_of any_holding c.self.inside.copies.buckets) from to (Ok found)) none c.in_ok-found.ensures.look)

pub returns-clause-look : goal.returns-clause-look
returns-clause-look g c =
    let kinds : kinds_of any_holding c.self.inside.copies.buckets ≡ laid_kinds c.args.self.now.keyed.layout = c.self.invariant.kinds ∙ ap (λ (b : Backed). laid_kinds b.keyed.layout) c.self.view_is in
    let form : any_form c.self.inside.copies.format ≡ laid_form c.args.self.now.keyed = ap any_form c.self.invariant.format_is ∙ ap (λ (b : Backed). laid_form b.keyed) c.self.view_is in
    let from = g.F.Flash.device c.args.flash.now in
    let to = g.F.Flash.device c.look.new.flash in
    let left = take c.self.inside.memory.len (c.look.new.area ++ drop (length c.look.new.area) c.self.inside.memory.items) in
    let same : left ≡ c.look.new.area = whole_written c.self.inside.memory.len c.look.new.area c.self.inside.memory.items (grind arith) (grind arith) in
    let some : looked_in c.look.new.area c.in_ok-found.found ≡ Some (take c.in-Some.len left) =
    ap (looked_in c.look.new.area) c.in-Some.is ∙ ap (λ l. Some (take c.in-Some.len l)) (sym same) in
    look_of _ _ c.args.self.now.keyed from to (Ok (Some (take c.in-Some.len left))) form kinds
    (subst (λ (found : Option (List ℕ)). IsLook (any_form c.self.inside.copies.format) (kinds_of any_holding c.self.inside.copies.buckets) from to (Ok found)) some c.in_ok-found.ensures.look)

pub returns-clause-area : goal.returns-clause-area
returns-clause-area g c = λ there.
    let layout = fields_of c.self.inside.layout in
    let left = take c.self.inside.memory.len (c.look.new.area ++ drop (length c.look.new.area) c.self.inside.memory.items) in
    let given : c.front-stored.result.now ≡ take c.in-Some.len left =
    c.front-stored.ensures ∙ ap (take c.in-Some.len) c.deref.ensures.value in
    c.convert.ensures.value ∙ ap (convert layout) given
    ∙ ap (λ (b : Backed). convert b.keyed.layout (take c.in-Some.len left)) c.self.view_is

-- nothing was found
pub returns-in_default-clause-area : goal.returns-in_default-clause-area
returns-in_default-clause-area g c = λ there. absurd cc

pub front-stored-requires : goal.front-stored-requires
front-stored-requires g c =
    let left = take c.self.inside.memory.len (c.look.new.area ++ drop (length c.look.new.area) c.self.inside.memory.items) in
    let same : left ≡ c.look.new.area = whole_written c.self.inside.memory.len c.look.new.area c.self.inside.memory.items (grind arith) (grind arith) in
    let inside = subst (λ (o : Option ℕ). IfSome o (λ len. len ≤ length c.look.new.area)) c.in-Some.is c.in_ok-found.ensures.inside in
    let is = ap length (c.deref.ensures.value ∙ same) in
    omega (arith, inside, is)

pub convert-requires : goal.convert-requires
convert-requires g c = c.requires.sized ∙ sym (ap (λ (b : Backed). b.keyed.layout.area_len) c.self.view_is)

pub returns-in_default-clause-placed : goal.returns-in_default-clause-placed
returns-in_default-clause-placed g c =
    let buckets : c.self.inside.copies.buckets ≡ c.args.self.now.buckets = ap (λ (b : Backed). b.buckets) c.self.view_is in
    subst (λ (buckets : List AnyBucket). AllPlaced any_holding buckets → AllPlaced any_holding c.look.new.self.buckets) buckets c.in_ok-found.ensures.placed

pub returns-clause-placed : goal.returns-clause-placed
returns-clause-placed g c =
    let buckets : c.self.inside.copies.buckets ≡ c.args.self.now.buckets = ap (λ (b : Backed). b.buckets) c.self.view_is in
    subst (λ (buckets : List AnyBucket). AllPlaced any_holding buckets → AllPlaced any_holding c.look.new.self.buckets) buckets c.in_ok-found.ensures.placed

pub invariant_of-self : goal.invariant_of-self
invariant_of-self g c =
    let memory = c.self.inside.memory.items in
    let kept = c.self.inside.kept.items in
    let left = take c.self.inside.memory.len (c.look.new.area ++ drop (length c.look.new.area) memory) in
    let same : left ≡ c.look.new.area = whole_written c.self.inside.memory.len c.look.new.area memory (grind arith) (grind arith) in
    let back : length c.look.new.area ≡ length memory = grind arith in
    still_backed (fields_of c.self.inside.layout) c.self.inside.copies.buckets c.look.new.self.buckets c.self.inside.copies.format c.look.new.self.format
    c.self.inside.copies.most c.look.new.self.most memory left c.self.inside.stored_len 0 kept kept
    c.look.ensures.kinds c.look.ensures.format c.look.ensures.most (ap length same ∙ back) (omega arith) refl c.self.invariant

pub invariant_of-self-in_default : goal.invariant_of-self-in_default
invariant_of-self-in_default g c =
    let memory = c.self.inside.memory.items in
    let kept = c.self.inside.kept.items in
    let left = take c.self.inside.memory.len (c.look.new.area ++ drop (length c.look.new.area) memory) in
    let same : left ≡ c.look.new.area = whole_written c.self.inside.memory.len c.look.new.area memory (grind arith) (grind arith) in
    let back : length c.look.new.area ≡ length memory = grind arith in
    still_backed (fields_of c.self.inside.layout) c.self.inside.copies.buckets c.look.new.self.buckets c.self.inside.copies.format c.look.new.self.format
    c.self.inside.copies.most c.look.new.self.most memory left c.self.inside.stored_len 0 kept kept
    c.look.ensures.kinds c.look.ensures.format c.look.ensures.most (ap length same ∙ back) (omega arith) refl c.self.invariant

pub invariant_of-self-2 : goal.invariant_of-self-2
invariant_of-self-2 g c =
    let memory = c.self.inside.memory.items in
    let kept = c.self.inside.kept.items in
    let left = take c.self.inside.memory.len (c.look.new.area ++ drop (length c.look.new.area) memory) in
    let same : left ≡ c.look.new.area = whole_written c.self.inside.memory.len c.look.new.area memory (grind arith) (grind arith) in
    let back : length c.look.new.area ≡ length memory = grind arith in
    let size = ap length same in
    let within = subst (λ (o : Option ℕ). IfSome o (λ len. len ≤ length c.look.new.area)) c.in-Some.is c.in_ok-found.ensures.inside in
    still_backed (fields_of c.self.inside.layout) c.self.inside.copies.buckets c.look.new.self.buckets c.self.inside.copies.format c.look.new.self.format
    c.self.inside.copies.most c.look.new.self.most memory left c.self.inside.stored_len c.in-Some.len kept kept
    c.look.ensures.kinds c.look.ensures.format c.look.ensures.most (size ∙ back) (omega (arith, size, within)) refl c.self.invariant
