use Rattle.std.proofs.Common.{IsTrue, option_to_list, ap, refl, subst, sym}
use Rattle.bb_base.specs.Form.{Form}
use Rattle.bb_bucket.proofs.Quiet.{quiet_same}
use Rattle.bb_bucket.specs.Calls.{Agrees}
use Rattle.bb_bucket.specs.Stride.{SeenStride, stride_holding}
use Rattle.bb_copies.specs.Passing.{passing_of}
use Rattle.bb_flash.specs.Device.{Device}
use Rattle.bb_history.specs.Reading.{shown_text}
use Rattle.bb_history.proofs.Joining.{reads_as, reads_none}
use Rattle.bb_layout.specs.Layout.{fields_of}
use Rattle.bb_history.specs.declared.fault.HistoryFault.TheVariants.{NoMemory}
use Rattle.bb_history.proofs.region.read_stride.Goals as goal

pub read_single-requires-clause-serves : goal.read_single-requires-clause-serves
read_single-requires-clause-serves g c =
    subst (λ (it : SeenStride). IsTrue ((stride_holding it).kind.serves (g.F.Flash.device c.args.flash.now).geometry)) (sym c.in_ok-bucket.ensures) c.requires.serves

-- it keeps nothing yet
pub read_single-requires-clause-agreed : goal.read_single-requires-clause-agreed
read_single-requires-clause-agreed g c =
    subst (λ (it : SeenStride). Agrees (stride_holding it) (g.F.Flash.device c.args.flash.now)) (sym c.in_ok-bucket.ensures)
    (record { here = λ image told. refl; found = λ image told. tt })

pub returns-clause-reads : goal.returns-clause-reads
returns-clause-reads g c =
    let form : Form = g.M.Format.form c.args.format.now in
    let from : Device = g.F.Flash.device c.args.flash.now in
    reads_as _ _ _ _ _ _ c.read_single.result
    (λ image. ap (λ (it : SeenStride). shown_text (fields_of c.args.layout.now) c.args.copy (option_to_list (passing_of form from.geometry.page (stride_holding it).kind image))) c.in_ok-bucket.ensures)
    c.read_single.ensures.reads

pub returns-in_err-bucket-clause-reads : goal.returns-in_err-bucket-clause-reads
returns-in_err-bucket-clause-reads g c =
    reads_none _ (g.F.Flash.device c.args.flash.now) c.args.out.now c.from_residual.result NoMemory c.from_residual.ensures.1 refl
    (quiet_same (g.F.Flash.device c.args.flash.now) c.geometry.ensures.whole)
