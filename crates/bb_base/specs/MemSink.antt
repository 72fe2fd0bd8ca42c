-- What an output in memory is, and what a write makes of it.
use Rattle.std.specs.Prelude.{ℕ, ◌==◌, ◌-◌, Bool, ◌||◌, List, ◌++◌, length, nat_lt, Some, if◌then◌else◌}
use Rattle.std.specs.List.{list_any}
use Rattle.bb_base.specs.Faults.{one_more}
use Rattle.bb_base.specs.SinkRecord.{SinkRecord}

-- what was sent, how much may be, which writes are to fail, how many were made, and how many failed
pub record SinkKept : Type 0 where
  pub sent : List ℕ
  pub room : ℕ
  pub planned : List ℕ
  pub writes : ℕ
  pub faults : ℕ

-- it tells all that was sent
abbrev pub sink_of : SinkKept → SinkRecord
sink_of sink = record { sent = Some sink.sent; faults = sink.faults }

-- the next write fails: it is planned to, or the piece doesn't fit what is left of the room
abbrev pub refuses_next : SinkKept → List ℕ → Bool
refuses_next sink piece =
    list_any (λ n. n == sink.writes) sink.planned
    || nat_lt (sink.room - length sink.sent) (length piece)

-- what a write leaves: the whole piece is sent, or a fault is counted
abbrev pub after_write : SinkKept → List ℕ → SinkKept
after_write sink piece =
    if refuses_next sink piece
    then record sink { writes = one_more sink.writes; faults = one_more sink.faults }
    else record sink { sent = sink.sent ++ piece; writes = one_more sink.writes }
