use Rattle.std.proofs.Common.{ℕ, List, ap, sym}
use Rattle.std.proofs.lemmas.Result.{err_from_is_err_and}
use Rattle.bb_interpreter.specs.Means.{sends}
use Rattle.bb_interpreter.proofs.Joins.{leads_from}
use Rattle.bb_interpreter.proofs.SimpleLemmas.{reply_done, reply_done_stop, reply_fault, reply_no_memory, reply_started, reply_started_stop}
use Rattle.bb_interpreter.proofs.simple.take_reply.Goals as goal

pub returns-in_err-send-in-Done-clause-leads : goal.returns-in_err-send-in-Done-clause-leads
returns-in_err-send-in-Done-clause-leads g c device =
    let p = err_from_is_err_and c.from_residual.result c.from_residual.ensures.1 in
    rw (p.1, p.2)
    (reply_done_stop g.C.Commands.call_gives c.in_err-send-in-Done.field-0.0 c.args.reply c.in-Done.ended c.in-Done.text c.args.run.now c.send.new.run device c.in-Done.is
    (leads_from g.C.Commands.call_gives _ (sends c.in-Done.text) (sends c.as_slice.result.now) _ c.args.run.now c.send.new.run device device (ap (λ (text : List ℕ). sends text) (sym c.as_slice.ensures))
    (c.in_err-send-in-Done.ensures.leads device)))

pub returns-in_ok-send-in-Done-clause-leads : goal.returns-in_ok-send-in-Done-clause-leads
returns-in_ok-send-in-Done-clause-leads g c device =
    reply_done g.C.Commands.call_gives c.args.reply c.in-Done.ended c.in-Done.text c.args.run.now c.send.new.run device c.in-Done.is
    (leads_from g.C.Commands.call_gives _ (sends c.in-Done.text) (sends c.as_slice.result.now) _ c.args.run.now c.send.new.run device device (ap (λ (text : List ℕ). sends text) (sym c.as_slice.ensures))
    (c.in_ok-send-in-Done.ensures.leads device))

pub returns-in_err-send-in-Started-clause-leads : goal.returns-in_err-send-in-Started-clause-leads
returns-in_err-send-in-Started-clause-leads g c device =
    let p = err_from_is_err_and c.from_residual-in_err-send-in-Started.result c.from_residual-in_err-send-in-Started.ensures.1 in
    rw (p.1, p.2)
    (reply_started_stop g.C.Commands.call_gives c.in_err-send-in-Started.field-0.0 c.args.reply c.in-Started.text c.args.run.now c.send-in-Started.new.run device c.in-Started.is
    (leads_from g.C.Commands.call_gives _ (sends c.in-Started.text) (sends c.as_slice-in-Started.result.now) _ c.args.run.now c.send-in-Started.new.run device device (ap (λ (text : List ℕ). sends text) (sym c.as_slice-in-Started.ensures))
    (c.in_err-send-in-Started.ensures.leads device)))

pub returns-in_ok-send-in-Started-clause-leads : goal.returns-in_ok-send-in-Started-clause-leads
returns-in_ok-send-in-Started-clause-leads g c device =
    reply_started g.C.Commands.call_gives c.args.reply c.in-Started.text c.args.run.now c.send-in-Started.new.run device c.in-Started.is
    (leads_from g.C.Commands.call_gives _ (sends c.in-Started.text) (sends c.as_slice-in-Started.result.now) _ c.args.run.now c.send-in-Started.new.run device device (ap (λ (text : List ℕ). sends text) (sym c.as_slice-in-Started.ensures))
    (c.in_ok-send-in-Started.ensures.leads device))

pub returns-in-Fault-clause-leads : goal.returns-in-Fault-clause-leads
returns-in-Fault-clause-leads g c device = reply_fault g.C.Commands.call_gives c.args.reply c.args.run.now device c.in-Fault.is

pub returns-in-NoMemory-clause-leads : goal.returns-in-NoMemory-clause-leads
returns-in-NoMemory-clause-leads g c device = reply_no_memory g.C.Commands.call_gives c.args.reply c.args.run.now device c.in-NoMemory.is
