use Rattle.std.proofs.Common.{◌≡◌, ◌∙◌, ℕ, ◌%◌, ◌≤◌, List, length, None, Some, Result, IfErr, ap, arith, inl, inr, refl, subst, sym}
use Rattle.std.specs.Option.{ForSome}
use Rattle.bb_flash.specs.Device.{content}
use Rattle.bb_flash.specs.declared.geometry.Geometry.{Geometry}
use Rattle.bb_install.specs.Holding.{IsComparison}
use Rattle.bb_plan.specs.Refusal.{IsSendableRefusal}
use Rattle.bb_plan.specs.declared.refusal.Refusal.{Refusal}
use Rattle.bb_session.specs.Doing.{IsTold}
use Rattle.bb_session.specs.declared.report.Report.{Report}
use Rattle.bb_session.proofs.comparison.compare.Goals as goal

-- ---- what the calls ask for

pub buffer_len-requires : goal.buffer_len-requires
buffer_len-requires g c =
    let some = c.requires.whole.geometry.page_some in
    let page = ap (λ (geometry : Geometry). geometry.page) c.geometry.ensures.value in
    omega (arith, some, page)

pub first_difference-requires-clause-fits : goal.first_difference-requires-clause-fits
first_difference-requires-clause-fits g c =
    subst (λ (image : List ℕ). length image ≤ c.args.place.now.slot.size) (sym c.as_slice-image.ensures) c.requires.place.fits

pub first_difference-requires-clause-some : goal.first_difference-requires-clause-some
first_difference-requires-clause-some g c =
    omega (arith, c.buffer_len.ensures.some, c.in_ok-buffer.ensures.len, c.deref_mut.ensures.len)

pub first_difference-requires-clause-pages : goal.first_difference-requires-clause-pages
first_difference-requires-clause-pages g c =
    let page : ℕ = (g.F.Flash.device c.args.flash.now).geometry.page in
    let same : length c.deref_mut.result.now ≡ c.buffer_len.result =
    omega (arith, c.in_ok-buffer.ensures.len, c.deref_mut.ensures.len) in
    ap (λ (n : ℕ). n % page) same
    ∙ ap (λ (geometry : Geometry). c.buffer_len.result % geometry.page) (sym c.geometry.ensures.value)
    ∙ c.buffer_len.ensures.pages

-- ---- the end

pub returns-in_default-clause-gives : goal.returns-in_default-clause-gives
returns-in_default-clause-gives g c =
    let done = c.in_default.ensures in
    inl (record {
      answer = None;
      compared = record { told = λ image told. tt; faults = done.faults; read_faults = done.read_faults; quiet = done.quiet };
      gives = refl;
    })

pub returns-in_default-clause-later : goal.returns-in_default-clause-later
returns-in_default-clause-later g c = c.in_default.ensures.quiet.later

pub returns-clause-gives : goal.returns-clause-gives
returns-clause-gives g c =
    let done = c.in-Ok.ensures in
    let from = g.F.Flash.device c.args.flash.now in
    let slot = c.args.place.now.slot in
    inl (record {
      answer = Some c.in-Ok.found;
      compared = record {
        told =
            subst
            (λ (image : List ℕ). ForSome (content from) (λ held. IsComparison from.geometry.page slot image held c.in-Ok.found))
            c.as_slice-image.ensures done.done;
        faults = done.faults;
        read_faults = done.read_faults;
        quiet = done.quiet;
      };
      gives = c.of.ensures _ c.compare_text.ensures;
    })

-- a text, or that memory was refused
told_tellable : (text : List ℕ) (given : Result Report Refusal) → IsTold text given → IfErr given IsSendableRefusal
told_tellable text given (inl done) = subst (λ (r : Result Report Refusal). IfErr r IsSendableRefusal) (sym done) tt
told_tellable text given (inr memory) = subst (λ (r : Result Report Refusal). IfErr r IsSendableRefusal) (sym memory) tt

pub returns-clause-tellable : goal.returns-clause-tellable
returns-clause-tellable g c = told_tellable _ c.of.result (c.of.ensures _ c.compare_text.ensures)

pub returns-clause-later : goal.returns-clause-later
returns-clause-later g c = c.in-Ok.ensures.quiet.later
