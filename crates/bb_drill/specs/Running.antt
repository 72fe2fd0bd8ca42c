-- A drill so far. Only private contracts and proofs cite it.
use Rattle.std.specs.Prelude.{◌≡◌, ℕ, ◌+◌, ◌≤◌, Bool, true, false, not, nat_lt, List, [], ◌∷◌, Option, Some, None, length, is_some, if◌then◌else◌}
use Rattle.std.specs.Bool.{MatchBool}
use Rattle.bb_flash.specs.declared.fault.Fault.{Fault}
use Rattle.bb_flash.specs.declared.fault.Fault.TheVariants.{Cut}
use Rattle.bb_flash.specs.Memory.{Memory}
use Rattle.bb_drill.specs.declared.command.DrillCommand.{DrillCommand}
use Rattle.bb_drill.specs.declared.drawn.DrawnSession.{DrawnSession}
use Rattle.bb_drill.specs.declared.drawn.PlannedCut.{PlannedCut}
use Rattle.bb_drill.specs.declared.tally.Tally.{Tally}
use Rattle.bb_drill.specs.declared.met.Met.{Met}
use Rattle.bb_drill.specs.declared.sessions.SessionEnd.{SessionEnd}
use Rattle.bb_drill.specs.Board.{BoardState, EndsSound, IsSessionOn, board_geometry, fresh_state, board_state_of, with_lost}
use Rattle.bb_drill.specs.Draws.{boots_in, cuts_in, decays_in}
use Rattle.bb_drill.specs.Drill.{RanInOrder, commands_of}
use Rattle.bb_drill.specs.Tables.{TableRules, allowed_after, has_table, table_given}

-- what the runs of a program's sessions are
abbrev pub Runs : Type 1
Runs = DrillCommand → BoardState → BoardState → Type 0

-- 1 where it holds
abbrev pub one_where : Bool → ℕ
one_where b = if b then 1 else 0

-- a tally with what one session met
abbrev pub with_met : Met → Tally → Tally
with_met met tally = record {
  cuts = tally.cuts + one_where met.cut;
  decays = tally.decays + one_where met.decay;
  wrong = tally.wrong + one_where met.wrong;
}

-- a cut, as a board plans it
abbrev pub plan_of : Option PlannedCut → List (ℕ × Fault)
plan_of None = []
plan_of (Some cut) = (cut.call, Cut cut.fill) ∷ []

-- nothing has failed on the board yet
pub record IsCalm (memory : Memory) : Type 0 where
  pub faults : memory.faults ≡ 0
  pub start_faults : memory.start_faults ≡ 0

-- a session that was run, and whether its planned cut was reached
pub record IsTriedSession (rules : TableRules) (runs : Runs) (drawn : DrawnSession) (before after : Memory)
    (end : SessionEnd) (reached : Bool) : Type 0 where
  pub on : IsSessionOn drawn.command before after
  pub cut : reached ≡ true → is_some drawn.cut ≡ true
  pub calm : drawn.cut ≡ None → IsCalm before → IsCalm after
  pub sound :
      drawn.cut ≡ None → IsCalm before →
      EndsSound rules runs drawn.command (board_state_of before) (board_state_of after) end

-- whether a copy decays, and what the board holds then: it does where a copy passes without it
pub record Decays (rules : TableRules) (copy : ℕ) (before after : Memory) (decays : Bool) : Type 0 where
  pub geometry : after.geometry ≡ before.geometry
  pub starts : after.told.starts ≡ before.told.starts
  pub passes : decays ≡ is_some (rules.found (with_lost copy before.told.image))
  pub image :
      after.told.image
      ≡ (if decays then with_lost copy before.told.image else before.told.image)

-- the same where one may be drawn: one that is there
abbrev pub IsDecayed : TableRules → Option ℕ → Memory → Memory → Bool → Type 0
IsDecayed rules None before after decays = (decays ≡ false) × (after ≡ before)
IsDecayed rules (Some copy) before after decays =
    MatchBool (nat_lt copy 3) (Decays rules copy before after decays)
    ((decays ≡ false) × (after ≡ before))

-- what was met in a session where neither a cut nor a decay was drawn, and nothing had failed
-- before
pub record IsSoundMet (rules : TableRules) (runs : Runs) (command : DrillCommand)
    (before after : Memory) (tables : List (List ℕ)) : Type 0 where
  pub calm : IsCalm after
  pub ran : runs command (board_state_of before) (board_state_of after)
  pub allowed : tables ≡ table_given rules after.told.image ∷ []

-- what was met in a session, and after it: the board and the tables that are allowed before it and
-- after it
pub record IsMet (rules : TableRules) (runs : Runs) (drawn : DrawnSession) (before after : Memory)
    (allowed allowed' : List (List ℕ)) (met : Met) : Type 0 where
  pub on : IsSessionOn drawn.command before after
  pub cut : met.cut ≡ true → is_some drawn.cut ≡ true
  pub decay : met.decay ≡ true → is_some drawn.decay ≡ true
  pub wrong : met.wrong ≡ not (has_table (table_given rules before.told.image) allowed)
  pub end : SessionEnd
  pub followed :
      allowed'
      ≡ allowed_after end (rules.made drawn.command (table_given rules before.told.image)) allowed
  pub sound :
      drawn.cut ≡ None → drawn.decay ≡ None → IsCalm before →
      IsSoundMet rules runs drawn.command before after allowed'

-- the sessions so far, where no cut and no decay is drawn at all
pub record RunsSoundSoFar (rules : TableRules) (runs : Runs) (all rest : List DrawnSession)
    (now : Memory) (wrongs : ℕ) (tables : List (List ℕ)) : Type 0 where
  pub cuts : cuts_in rest ≡ 0
  pub decays : decays_in rest ≡ 0
  pub wrong : wrongs ≡ 0
  pub calm : IsCalm now
  pub allowed : tables ≡ table_given rules now.told.image ∷ []
  pub ran :
      (last : BoardState) → RanInOrder runs (commands_of rest) (board_state_of now) last →
      RanInOrder runs (commands_of all) fresh_state last

-- the sessions so far of a drill: so many of all are done, and the rest is to come
pub record RunsSoFar (rules : TableRules) (runs : Runs) (all rest : List DrawnSession) (done : ℕ)
    (now : Memory) (tally : Tally) (allowed : List (List ℕ)) : Type 0 where
  pub geometry : now.geometry ≡ board_geometry
  pub cuts : tally.cuts + cuts_in rest ≤ cuts_in all
  pub decays : tally.decays + decays_in rest ≤ decays_in all
  pub starts : length now.told.starts + boots_in rest ≤ boots_in all
  pub most_cuts : tally.cuts ≤ done
  pub most_decays : tally.decays ≤ done
  pub most_wrong : tally.wrong ≤ done
  pub sound :
      cuts_in all ≡ 0 → decays_in all ≡ 0 →
      RunsSoundSoFar rules runs all rest now tally.wrong allowed
