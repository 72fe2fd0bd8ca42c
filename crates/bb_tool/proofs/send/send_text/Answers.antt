use Rattle.std.proofs.Common.{refl, inl, inr}
use Rattle.bb_tool.proofs.send.send_text.Goals as goal

pub returns-in-Ok : goal.returns-in-Ok
returns-in-Ok g c = record {
  told = inl (record { status_is = refl; faults = c.in-Ok.ensures.counts; sent = c.in-Ok.ensures.sent });
}

pub returns-in-Err : goal.returns-in-Err
returns-in-Err g c = record {
  told = inr (record {
    status_is = c.status_unsent.ensures;
    faults = c.in-Err.ensures.counts;
    front = c.in-Err.ensures.front;
  });
}
