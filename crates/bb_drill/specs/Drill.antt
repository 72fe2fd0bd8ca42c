-- What a drill counts.
use Rattle.std.specs.Prelude.{◌≡◌, ◌-◌, ◌^◌, ◌≤◌, List, [], ◌∷◌, length, map, min}
use Rattle.std.specs.List.{sum}
use Rattle.bb_drill.specs.declared.command.DrillCommand.{DrillCommand}
use Rattle.bb_drill.specs.declared.drawn.DrawnSession.{DrawnSession}
use Rattle.bb_drill.specs.declared.counts.DrillCounts.{DrillCounts}
use Rattle.bb_drill.specs.Board.{BoardState, fresh_state}
use Rattle.bb_drill.specs.Draws.{boots_in, cuts_in, decays_in}

-- sessions of these commands ran one after another on a board, from its first state to its last
abbrev pub RanInOrder : (DrillCommand → BoardState → BoardState → Type 0) → List DrillCommand
    → BoardState → BoardState → Type 0
RanInOrder runs [] first last = last ≡ first
RanInOrder runs (command ∷ commands) first last =
    (next : BoardState) × runs command first next × RanInOrder runs commands next last

abbrev pub commands_of : List DrawnSession → List DrillCommand
commands_of draws = map (λ drawn. drawn.command) draws

-- the counts where neither a cut nor a decay was drawn: erases and starts are those of the sessions
-- in order from the fresh board, and all else but the programs is 0
pub record CountsSoundRuns (runs : DrillCommand → BoardState → BoardState → Type 0)
    (draws : List DrawnSession) (counts : DrillCounts) : Type 0 where
  pub last : BoardState
  pub ran : RanInOrder runs (commands_of draws) fresh_state last
  pub erases : counts.erases ≡ min (sum last.erases) (2 ^ 64 - 1)
  pub starts : counts.starts ≡ length last.starts
  pub cuts : counts.cuts ≡ 0
  pub decays : counts.decays ≡ 0
  pub wrong : counts.wrong ≡ 0

-- what is said of the counts of a drill, whatever its cuts and decays did
pub record CountsDraws (runs : DrillCommand → BoardState → BoardState → Type 0)
    (draws : List DrawnSession) (counts : DrillCounts) : Type 0 where
  pub sessions : counts.sessions ≡ length draws
  pub cuts : counts.cuts ≤ cuts_in draws
  pub decays : counts.decays ≤ decays_in draws
  pub starts : counts.starts ≤ boots_in draws
  pub undisturbed :
      cuts_in draws ≡ 0 → decays_in draws ≡ 0 → CountsSoundRuns runs draws counts
