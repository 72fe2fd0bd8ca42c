-- The ways in which the work of a plan ends.
use Rattle.std.proofs.Common.{◌≡◌, ℕ, Bool, true, false, List, [], ◌++◌, length, take, Vec, Global, Option, Some, None, Result, Ok, Err, if◌then◌else◌, option_map, arith, refl, sym, ap, subst, inl, inr}
use Rattle.std.specs.Bool.{then_some}
use Rattle.std.specs.Option.{ForSome}
use Rattle.std.specs.Result.{IsErrAnd}
use Rattle.std.proofs.lemmas.Grind.{common_steps}
use Rattle.bb_bucket.specs.Calls.{IsQuiet}
use Rattle.bb_copies.specs.Loading.{LookGives}
use Rattle.bb_flash.specs.Device.{Device, content}
use Rattle.bb_state.specs.Keyed.{Keyed}
use Rattle.bb_vars.specs.Table.{table_with}
use Rattle.bb_state.specs.Kinds.{laid_form, laid_kinds}
use Rattle.bb_shell.specs.Boot.{Round}
use Rattle.bb_session.specs.Acting.{WorkAnswers, no_answers}
use Rattle.bb_session.specs.Looking.{first_found, look_text, passed_in}
use Rattle.bb_plan.specs.declared.plan.Work.TheVariants.{Show}
use Rattle.bb_plan.specs.declared.plan.Work.{Work}
use Rattle.bb_session.specs.Doing.{EndsWith, IsTold}
use Rattle.bb_session.specs.Session.{LoadAnswer, shown, work_session}
use Rattle.bb_session.specs.Work.{IsWork, IsWorkedOut}
use Rattle.bb_plan.specs.declared.refusal.Refusal.{Refusal}
use Rattle.bb_session.specs.declared.report.Report.{Report}
use Rattle.bb_layout.specs.Convert.{convert}
use Rattle.bb_layout.specs.Layout.{Laid}
use Rattle.bb_session.proofs.Kept.{found_first, found_none}

-- a report of this text alone
abbrev pub told_whole : List ℕ → Report
told_whole text = record { text = text; refusal = None }

-- ---- the work of a plan

pub worked_out : (keyed : Keyed) (work : Work) (from to : Device) (load : LoadAnswer) (answers : WorkAnswers) (given : Result Report Refusal) →
    IsWork (record { keyed = keyed; work = work }) from to load answers →
    EndsWith (work_session (record { keyed = keyed; work = work }) load answers) given → IsWorkedOut keyed work from to given
worked_out keyed work from to load answers given done (inl gives) = inl (record { load = load; answers = answers; work = done; gives = gives })
worked_out keyed work from to load answers given done (inr wants) =
    inr (inl (record { load = load; answers = answers; work = done; whole = wants.1; is = wants.0 }))

-- a refusal before any text
pub refused_ends : (refusal : Refusal) (rounds : List Round) (given : Result Report Refusal) → given ≡ Err refusal →
    EndsWith (record { text = []; refusal = Some refusal; rounds = rounds }) given
refused_ends refusal rounds given is =
    subst (EndsWith (record { text = []; refusal = Some refusal; rounds = rounds })) (sym is) (inl (refl, refl))

-- a text, or that memory was refused for it
pub text_ends : (text : List ℕ) (rounds : List Round) (given : Result Report Refusal) → IsTold text given →
    EndsWith (record { text = text; refusal = None; rounds = rounds }) given
text_ends text rounds given (inl done) =
    subst (EndsWith (record { text = text; refusal = None; rounds = rounds })) (sym done) (inl (refl, refl))
text_ends text rounds given (inr memory) = inr (memory, tt)

-- what the exit of a `?` gives, by the refusal that it hands on
pub refused_by : {A E : Type 0} (given : Result A E) (e : E) → IsErrAnd given (λ r. r ≡ e) → given ≡ Err e
refused_by (Ok x) e is = absurd is
refused_by (Err r) e is = ap (λ r. Err r) is

-- ---- a look

-- it found what the device holds
pub look_told : (keyed : Keyed) (stored : List ℕ) (found : Bool) (from : Device) →
    LookGives (laid_form keyed) (laid_kinds keyed.layout) from (then_some found stored) →
    ForSome (content from) (λ image. then_some found stored ≡ first_found (passed_in keyed from.geometry.page image))
look_told keyed stored true from gives = λ image told.
    let first = gives image told in
    found_first [] stored (passed_in keyed from.geometry.page image) first.some (first.first [])
look_told keyed stored false from gives = λ image told. found_none (passed_in keyed from.geometry.page image) (gives image told)

-- a choice between an area and none, as a look makes it
pub as_then : (P : Option (List ℕ) → Type 0) (area : List ℕ) (found : Bool) → P (if found then Some area else None) → P (then_some found area)
as_then P area true is = is
as_then P area false is = is

-- what it shows
shows_area : (layout : Laid) (stored area : List ℕ) (found : Bool) → (found ≡ true → area ≡ convert layout stored) →
    shown layout (then_some found stored) ≡ then_some found area
shows_area layout stored area true is = ap (λ l. Some l) (sym (is refl))
shows_area layout stored area false is = refl

-- it answered Ok
pub looked_ok : (keyed : Keyed) (stored area : List ℕ) (found : Bool) (from to : Device) (given : Result Report Refusal) →
    LookGives (laid_form keyed) (laid_kinds keyed.layout) from (then_some found stored) → (found ≡ true → area ≡ convert keyed.layout stored) →
    to.faults ≡ from.faults → to.read_faults ≡ from.read_faults →
    IsQuiet from to → IsTold (look_text (then_some found area)) given → IsWorkedOut keyed Show from to given
looked_ok keyed stored area found from to given gives shows faults read_faults quiet is =
    let text = ap look_text (shows_area keyed.layout stored area found shows) in
    worked_out keyed Show from to (Ok (then_some found stored)) no_answers given
    (record {
      looked = record { told = look_told keyed stored found from gives; fails = tt; faults = faults; read_faults = read_faults; quiet = quiet };
      alone = refl;
      listed = refl;
    })
    (text_ends (look_text (shown keyed.layout (then_some found stored))) [] given
    (subst (λ t. IsTold t given) (sym text) is))

-- ---- a vector that was filled anew

-- it holds what it was filled with
pub take-refill : (n : ℕ) (bytes others : List ℕ) → length bytes ≡ n →
    take n (bytes ++ others) ≡ bytes
take-refill n bytes others whole = grind (arith, common_steps)

pub refilled : (found : Bool) (kept : Vec ℕ Global) (bytes : List ℕ) → kept.items ≡ bytes →
    option_map (λ v. v.items) (then_some found kept) ≡ then_some found bytes
refilled true kept bytes same = ap (λ b. Some b) same
refilled false kept bytes same = refl

-- a table is another of its length
pub put_whole : (table area : List ℕ) → length area ≡ length table → table_with table 0 area ≡ area
put_whole table area whole = grind (arith, common_steps)
