use Rattle.std.proofs.Common.{◌∙◌, ℕ, List, [], sym, ap, subst}
use Rattle.bb_base.specs.Form.{Form}
use Rattle.bb_flash.specs.Image.{Image}
use Rattle.bb_flash.specs.declared.geometry.Geometry.{Geometry}
use Rattle.bb_flash.specs.declared.region.Region.{Region}
use Rattle.bb_history.specs.History.{AreRegionsOf, ReadsHistory, history_text, regions_text}
use Rattle.bb_history.proofs.Regions.{regions_are}
use Rattle.bb_layout.specs.Layout.{Laid, fields_of}
use Rattle.bb_state.specs.Kinds.{any_form, laid_form, laid_regions}
use Rattle.bb_state.specs.State.{keyed_of, laid_of}
use Rattle.bb_session.proofs.Listed.{history_out, reads_as}
use Rattle.bb_session.proofs.history.history.Goals as goal

pub read_history-read-requires : goal.read_history-read-requires
read_history-read-requires g c =
    let laid = laid_of c.args.state.now in
    subst (λ (l : Laid). AreRegionsOf (g.F.Flash.device c.args.flash.now).geometry l.storage c.deref.result.now) (sym c.layout-layout.ensures)
    (subst (λ (regions : List Region). AreRegionsOf (g.F.Flash.device c.args.flash.now).geometry laid.storage regions)
    (sym (c.deref.ensures.value ∙ c.in_ok-regions.ensures))
    (subst (λ (geometry : Geometry). AreRegionsOf geometry laid.storage (laid_regions laid)) (sym c.requires.geometry)
    (regions_are laid c.args.state.now.facts)))

pub returns-clause-gives : goal.returns-clause-gives
returns-clause-gives g c =
    let keyed = keyed_of c.args.state.now in
    let from = g.F.Flash.device c.args.flash.now in
    let to = g.F.Flash.device c.read_history-read.new.flash in
    let page : ℕ = from.geometry.page in
    let form = ap any_form c.format.ensures in
    let regions = c.deref.ensures.value ∙ c.in_ok-regions.ensures in
    history_out keyed from to c.read_history-read.new.out c.read_history-read.result c.report.result
    (reads_as _ (history_text keyed page) from to [] c.read_history-read.new.out c.read_history-read.result
    (λ image.
    ap (λ (l : Laid). regions_text l (any_form c.format.result.now) page 0 c.deref.result.now image) c.layout-layout.ensures
    ∙ ap (λ (f : Form). regions_text keyed.layout f page 0 c.deref.result.now image) form
    ∙ ap (λ (rs : List Region). regions_text keyed.layout (laid_form keyed) page 0 rs image) regions)
    (subst
    (λ (old : List ℕ).
    ReadsHistory
    (λ (image : Image). regions_text (fields_of c.layout-layout.result.now) (any_form c.format.result.now) page 0 c.deref.result.now image)
    from to old c.read_history-read.new.out c.read_history-read.result) c.none-text.ensures c.read_history-read.ensures))
    c.report.ensures

pub returns-clause-later : goal.returns-clause-later
returns-clause-later g c = c.read_history-read.ensures.quiet.later
