use Rattle.std.proofs.Common.{◌≡◌, ◌+◌, ◌*◌, ◌/◌, ◌<◌, ◌∙◌, ℕ, IsTrue, List, length, Option, None, sym, ap, subst, arith}
use Rattle.std.proofs.lemmas.Grind.{common_steps}
use Rattle.std.specs.Option.{ForSome, option_and_then}
use Rattle.std.specs.Prelude.{IfSome}
use Rattle.bb_base.specs.Form.{Form}
use Rattle.bb_bucket.proofs.Quiet.{keeps_of_quiet}
use Rattle.bb_bucket.specs.BlockLaws.{block_of}
use Rattle.bb_bucket.specs.Blocks.{is_block_of}
use Rattle.bb_bucket.specs.Kind.{part_of}
use Rattle.bb_circular.specs.Circular.{IsEntryIn, readable}
use Rattle.bb_circular.specs.declared.kept.Entry.{Entry}
use Rattle.bb_copies.proofs.Ends.{whole_slice}
use Rattle.bb_copies.proofs.Finding.{ok_weaker}
use Rattle.bb_flash.specs.Device.{content}
use Rattle.bb_flash.specs.Image.{Image}
use Rattle.bb_flash.specs.declared.geometry.Geometry.{Geometry}
use Rattle.bb_history.specs.Entries.{entry_at}
use Rattle.bb_history.specs.Reading.{IsEndedAt, IsEndedBy}
use Rattle.bb_history.specs.declared.entry.Ended.{Ended}
use Rattle.bb_history.proofs.Passing.{ended_at, last_read, not_ended, some_weaker, starts_before}
use Rattle.bb_history.proofs.entry.look_at.Goals as goal

pub check_entry-requires-clause-inside : goal.check_entry-requires-clause-inside
check_entry-requires-clause-inside g c =
    subst (λ (e : Option Entry). IfSome e (IsEntryIn c.args.block)) c.in-Some.is c.in_ok-closed.ensures.inside

pub check_entry-requires-clause-last : goal.check_entry-requires-clause-last
check_entry-requires-clause-last g c = λ image told.
    let page : ℕ = c.args.block.page in
    let old : Image = part_of page c.args.block.region image in
    let held = block_of c.args.block (g.F.Flash.device c.args.flash.now).geometry c.requires.held in
    let keeps = keeps_of_quiet _ _ c.in_ok-closed.ensures.quiet in
    last_read page c.args.pages old c.entry_before.new.page c.deref.result.now c.in_ok-closed.closed c.in-Some.entry (omega (arith, held.page_least))
    (c.in_ok-closed.ensures.done image (sym keeps.content ∙ told)) c.in-Some.is
    (c.deref.ensures.value ∙ whole_slice c.entry_before.new.page c.args.memory.now.page.items _ (c.entry_before.auto.page ∙ c.deref_mut.ensures.len))

pub check_entry-requires-clause-held : goal.check_entry-requires-clause-held
check_entry-requires-clause-held g c =
    subst (λ (geometry : Geometry). IsTrue (is_block_of c.args.block geometry))
    (sym c.in_ok-closed.ensures.quiet.later.geometry) c.requires.held

pub check_entry-requires-clause-page : goal.check_entry-requires-clause-page
check_entry-requires-clause-page g c =
    ap length
    (c.deref.ensures.value ∙ whole_slice c.entry_before.new.page c.args.memory.now.page.items _ (c.entry_before.auto.page ∙ c.deref_mut.ensures.len))
    ∙ c.entry_before.auto.page ∙ ap length c.deref_mut.ensures.value ∙ c.requires.memory.page_is

-- the last page closes none
pub returns-in_default-clause-done : goal.returns-in_default-clause-done
returns-in_default-clause-done g c = λ image told.
    let page : ℕ = c.args.block.page in
    let old : Image = part_of page c.args.block.region image in
    let is = c.in_ok-closed.ensures.done image told in
    let none : entry_at page old c.args.pages ≡ None =
    ap (option_and_then (readable page old)) (sym is.entry_is ∙ c.in_default.is) in
    not_ended (g.M.Format.form c.args.format.now) page old c.args.pages _ none

pub returns-clause-done : goal.returns-clause-done
returns-clause-done g c =
    let form : Form = g.M.Format.form c.args.format.now in
    let page : ℕ = c.args.block.page in
    let from = g.F.Flash.device c.args.flash.now in
    let middle = g.F.Flash.device c.entry_before.new.flash in
    let area : List ℕ = c.check_entry.new.area in
    ok_weaker c.check_entry.result
    (λ (ended : Option Ended). ForSome (content middle) (λ image.
    let old = part_of page c.args.block.region image in
    IsEndedBy form page old (readable page old c.in-Some.entry) area ended))
    (λ (ended : Option Ended). ForSome (content from) (λ image.
    IsEndedAt form page (part_of page c.args.block.region image) c.args.pages _ ended))
    (λ ended is image told.
    let old : Image = part_of page c.args.block.region image in
    let keeps = keeps_of_quiet _ _ c.in_ok-closed.ensures.quiet in
    let there : entry_at page old c.args.pages ≡ readable page old c.in-Some.entry =
    ap (option_and_then (readable page old)) (sym (c.in_ok-closed.ensures.done image told).entry_is ∙ c.in-Some.is) in
    let whole = whole_slice area c.args.memory.now.area.items _ (c.check_entry.ensures.area ∙ c.deref_mut-3.ensures.len) in
    ended_at form page old c.args.pages (readable page old c.in-Some.entry) area _ ended there whole
    (is image (keeps.content ∙ told)))
    c.check_entry.ensures.done

pub returns-clause-before : goal.returns-clause-before
returns-clause-before g c =
    let page : ℕ = c.args.block.page in
    let entry : Entry = c.in-Some.entry in
    let held = block_of c.args.block (g.F.Flash.device c.args.flash.now).geometry c.requires.held in
    let inside : IsEntryIn c.args.block entry =
    subst (λ (e : Option Entry). IfSome e (IsEntryIn c.args.block)) c.in-Some.is c.in_ok-closed.ensures.inside in
    let ends : entry.at + entry.len ≡ c.args.pages * page =
    subst (λ (e : Option Entry). IfSome e (λ x. x.at + x.len ≡ c.args.pages * page)) c.in-Some.is c.in_ok-closed.ensures.ends in
    ok_weaker c.check_entry.result
    (λ (ended : Option Ended). IfSome ended (λ e. e.before ≡ entry.at / page))
    (λ (ended : Option Ended). IfSome ended (λ e. e.before < c.args.pages))
    (λ ended is.
    some_weaker ended (λ e. e.before ≡ entry.at / page) (λ e. e.before < c.args.pages)
    (λ e same. starts_before page c.args.pages entry.at entry.len e.before (omega (arith, held.page_least)) inside.some ends same) is)
    c.check_entry.ensures.before

pub returns-in_err-closed-clause-memory : goal.returns-in_err-closed-clause-memory
returns-in_err-closed-clause-memory g c = record {
  page_is = grind (arith, common_steps, c.requires.memory.page_is);
  piece = c.requires.memory.piece;
  area = c.requires.memory.area;
}

pub returns-in_default-clause-memory : goal.returns-in_default-clause-memory
returns-in_default-clause-memory g c = record {
  page_is = grind (arith, common_steps, c.requires.memory.page_is);
  piece = c.requires.memory.piece;
  area = c.requires.memory.area;
}

pub returns-clause-memory : goal.returns-clause-memory
returns-clause-memory g c = record {
  page_is = grind (arith, common_steps, c.requires.memory.page_is);
  piece = grind (arith, common_steps, c.requires.memory.piece);
  area = grind (arith, common_steps, c.requires.memory.area);
}
