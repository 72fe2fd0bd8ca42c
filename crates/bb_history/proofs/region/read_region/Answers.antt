use Rattle.std.proofs.Common.{◌∙◌, IsTrue, option_to_list, ap, subst, sym}
use Rattle.bb_base.specs.Form.{Form}
use Rattle.bb_bucket.specs.Blocks.{is_block_of}
use Rattle.bb_bucket.specs.Kind.{part_of}
use Rattle.bb_bucket.specs.OneBlock.{one_block_kind}
use Rattle.bb_copies.specs.Passing.{passing_of}
use Rattle.bb_flash.specs.declared.geometry.Geometry.{Geometry}
use Rattle.bb_flash.specs.declared.region.Region.{Region}
use Rattle.bb_layout.specs.Layout.{Laid, fields_of}
use Rattle.bb_layout.specs.declared.storage.Storage.{Storage}
use Rattle.bb_state.specs.Kinds.{any_form}
use Rattle.bb_history.specs.Entries.{log_areas}
use Rattle.bb_history.specs.History.{IsRegionOf, region_areas}
use Rattle.bb_history.specs.Reading.{HasPageRoom, shown_text}
use Rattle.bb_history.proofs.Joining.{reads_as}
use Rattle.bb_history.proofs.region.read_region.Goals as goal

-- ---- logs

pub read_log-requires-clause-held : goal.read_log-requires-clause-held
read_log-requires-clause-held g c =
    let geometry : Geometry = (g.F.Flash.device c.args.flash.now).geometry in
    let page = ap (λ (x : Geometry). x.page) c.geometry-page.ensures.value in
    let at = subst (λ (storage : Storage). IsRegionOf geometry storage c.args.region) c.in-Circular.is c.requires.region in
    subst (λ n. IsTrue (is_block_of (record { region = c.args.region; page = n }) geometry)) (sym page) at.serves

pub read_log-requires-clause-memory : goal.read_log-requires-clause-memory
read_log-requires-clause-memory g c =
    subst (λ n. HasPageRoom n (any_form c.args.format.now).area_len c.args.memory.now) (sym (ap (λ (x : Geometry). x.page) c.geometry-page.ensures.value)) c.requires.memory

pub returns-in-Circular-clause-reads : goal.returns-in-Circular-clause-reads
returns-in-Circular-clause-reads g c =
    let form : Form = any_form c.args.format.now in
    let layout : Laid = fields_of c.args.layout.now in
    let region : Region = c.args.region in
    let page = ap (λ (x : Geometry). x.page) c.geometry-page.ensures.value in
    reads_as _ _ _ _ _ _ c.read_log.result
    (λ image. ap (λ n. shown_text layout c.args.copy (log_areas form n (part_of n region image))) page
    ∙ ap (λ (storage : Storage). shown_text layout c.args.copy (region_areas form storage (g.F.Flash.device c.args.flash.now).geometry.page region image)) (sym c.in-Circular.is))
    c.read_log.ensures.reads

pub returns-in-Circular-clause-memory : goal.returns-in-Circular-clause-memory
returns-in-Circular-clause-memory g c =
    subst (λ n. HasPageRoom n (any_form c.args.format.now).area_len c.read_log.new.memory) (ap (λ (x : Geometry). x.page) c.geometry-page.ensures.value) c.read_log.ensures.memory

-- ---- blocks of one record

pub read_block-requires-clause-held : goal.read_block-requires-clause-held
read_block-requires-clause-held g c =
    let geometry : Geometry = (g.F.Flash.device c.args.flash.now).geometry in
    let page = ap (λ (x : Geometry). x.page) c.geometry-page.ensures.value in
    let at = subst (λ (storage : Storage). IsRegionOf geometry storage c.args.region) c.in-OneBlock.is c.requires.region in
    subst (λ n. IsTrue (is_block_of (record { region = c.args.region; page = n }) geometry)) (sym page) at.serves

pub returns-in-OneBlock-clause-reads : goal.returns-in-OneBlock-clause-reads
returns-in-OneBlock-clause-reads g c =
    let form : Form = any_form c.args.format.now in
    let layout : Laid = fields_of c.args.layout.now in
    let region : Region = c.args.region in
    let page = ap (λ (x : Geometry). x.page) c.geometry-page.ensures.value in
    reads_as _ _ _ _ _ _ c.read_block.result
    (λ image. ap (λ n. shown_text layout c.args.copy (option_to_list (passing_of form (g.F.Flash.device c.args.flash.now).geometry.page (one_block_kind (record { region = region; page = n })) image))) page
    ∙ ap (λ (storage : Storage). shown_text layout c.args.copy (region_areas form storage (g.F.Flash.device c.args.flash.now).geometry.page region image)) (sym c.in-OneBlock.is))
    c.read_block.ensures.reads

-- ---- strides

pub read_stride-requires-clause-serves : goal.read_stride-requires-clause-serves
read_stride-requires-clause-serves g c =
    let geometry : Geometry = (g.F.Flash.device c.args.flash.now).geometry in
    let at = subst (λ (storage : Storage). IsRegionOf geometry storage c.args.region) c.in-Stride.is c.requires.region in
    at.serves

pub read_stride-requires-clause-room : goal.read_stride-requires-clause-room
read_stride-requires-clause-room g c = c.requires.region.room

pub returns-in-Stride-clause-reads : goal.returns-in-Stride-clause-reads
returns-in-Stride-clause-reads g c =
    let form : Form = any_form c.args.format.now in
    let layout : Laid = fields_of c.args.layout.now in
    reads_as _ _ _ _ _ _ c.read_stride.result
    (λ image. ap (λ (storage : Storage). shown_text layout c.args.copy (region_areas form storage (g.F.Flash.device c.args.flash.now).geometry.page c.args.region image)) (sym c.in-Stride.is))
    c.read_stride.ensures.reads
