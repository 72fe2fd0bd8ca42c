use Rattle.std.proofs.Common.{◌≡◌, ◌≤◌, ◌+◌, Some}
use Rattle.bb_chooser.specs.Choosing.{IsBest}
use Rattle.bb_copies.specs.Loading.{KeepsOutside}
use Rattle.bb_flash.specs.Cuts.{IsLater}
use Rattle.bb_flash.specs.Device.{starts}
use Rattle.bb_state.specs.State.{last_table_of, keyed_of, kinds_of, used_of}
use Rattle.bb_shell.proofs.Underway.{IsUnderway}
use Rattle.bb_shell.specs.Boot.{all_attempts}
use Rattle.bb_shell.specs.Ends.{IsReady, StaysStored}
use Rattle.bb_shell.proofs.boot.run_rounds.Given as goal

-- rounds were run that failed, and a target is best now
abbrev pub invariant-loop-tries : goal.invariant-loop-tries
invariant-loop-tries g l =
    let from = g.B.Flash.device l.fn.board in
    let now = g.B.Flash.device l.board in
    let keyed = keyed_of l.fn.state in
    record {
      ready : IsReady l.chooser l.state now;
      best : IsBest l.chooser l.state.table l.target;
      spare : l.tries + all_attempts l.chooser l.state.table ≤ l.attempts;
      same_keyed : keyed_of l.state ≡ keyed_of l.fn.state;
      underway :
          IsUnderway l.chooser l.plans keyed l.fn.state.table (Some (last_table_of l.fn.state)) (used_of l.fn.state) from
          l.tries l.state.table (Some (last_table_of l.state)) (used_of l.state) now;
      starts : starts now ≡ starts from;
      stored : StaysStored keyed (Some (last_table_of l.fn.state)) (Some (last_table_of l.state)) from now;
      outside : KeepsOutside (kinds_of l.fn.state) from now;
      later : IsLater from now;
    }
