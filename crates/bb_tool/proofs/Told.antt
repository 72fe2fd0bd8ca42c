-- What a status says: of how a text was told, and of the refusal that has it.
use Rattle.std.proofs.Common.{◌≡◌, ◌≢◌, ◌⊎◌, ℕ, true, false, List, Option, Some, None, refl, sym, ap, subst, ◌∙◌, inl, inr}
use Rattle.std.specs.Option.{option_map_or}
use Rattle.bb_base.proofs.Counts.{one_more_rose}
use Rattle.bb_base.specs.Faults.{Rose}
use Rattle.bb_plan.specs.Refusal.{status_of, takes_memory}
use Rattle.bb_plan.specs.declared.refusal.Refusal.{Refusal}
use Rattle.bb_plan.specs.declared.refusal.Refusal.TheVariants as refusals
use Rattle.bb_plan.specs.declared.status.Status.{Status}
use Rattle.bb_plan.specs.declared.status.Status.TheVariants as statuses
use Rattle.bb_session.proofs.Barred.{is_call_fault}
use Rattle.bb_tool.specs.Calls.{CountsSinkFaults, SendsText}
use Rattle.bb_tool.specs.Ran.{Ran}
use Rattle.bb_tool.specs.Sending.{IsSent, IsTextCut, status_unsent}

-- ---- how a text was told

-- where the output failed the status is its own, but for refused memory
unsent_is : (ended : Status) → (ended ≡ statuses.NoMemory) ⊎ (status_unsent ended ≡ statuses.SinkFault)
unsent_is statuses.NoMemory = inl refl
unsent_is _ = inr refl

module _ (ran : Ran) (text : List ℕ) (ended : Status) where
  abbrev pub IsCut : Type 0
  IsCut = IsTextCut text ended ran.before.sink ran.after.sink ran.status

  -- the status is that of the session, or the output failed, and the status says so
  pub told_cases : SendsText ran text ended →
      (ran.status ≡ ended) ⊎ ((ran.status ≡ statuses.SinkFault) × IsCut)
  told_cases (inl sent) = inl sent.status_is
  told_cases (inr cut) = elim (unsent_is ended) [
    | inl memory ↦ inl (cut.status_is ∙ ap status_unsent memory ∙ sym memory)
    | inr sink ↦ inr (cut.status_is ∙ sink, cut)
  ]

  -- the output counted no fault, or one, which one of these two answers says
  pub told_counts : SendsText ran text ended → CountsSinkFaults ran
  told_counts (inl sent) = inl sent.faults
  told_counts (inr cut) = elim (unsent_is ended) [
    | inl memory ↦ inr (cut.faults, inr (cut.status_is ∙ ap status_unsent memory))
    | inr sink ↦ inr (cut.faults, inl (cut.status_is ∙ sink))
  ]

  pub told_whole : SendsText ran text ended →
      (Rose ran.before.sink.faults ran.after.sink.faults → ⊥) →
      IsSent text ended ran.before.sink ran.after.sink ran.status
  told_whole (inl sent) whole = sent
  told_whole (inr cut) whole =
      let before = ran.before.sink.faults in
      absurd (whole (subst (Rose before) (sym cut.faults) (one_more_rose before)))

  -- a session that is refused since memory was ends so, also where the output failed
  pub told_short : SendsText ran text ended → ended ≡ statuses.NoMemory →
      ran.status ≡ statuses.NoMemory
  told_short (inl sent) short = sent.status_is ∙ short
  told_short (inr cut) short = cut.status_is ∙ ap status_unsent short

-- ---- the refusal that has a status

pub record Tells (refusal : Refusal) : Type 0 where
  -- no other has the status of refused memory, or of a start that failed
  pub memory : status_of refusal ≡ statuses.NoMemory → refusal ≡ refusals.NoMemory
  pub target : status_of refusal ≡ statuses.StartFailed → (name : List ℕ) × (refusal ≡ refusals.StartFailed name)
  -- whose line takes memory is no fault of the device
  pub line : takes_memory refusal ≡ true → is_call_fault (status_of refusal) ≡ false

pub tells : (refusal : Refusal) → Tells refusal
tells refusals.ReadFault = record { memory = λ h. absurd cc; target = λ h. absurd cc; line = λ h. absurd cc }
tells (refusals.WriteFault copy) = record { memory = λ h. absurd cc; target = λ h. absurd cc; line = λ h. absurd cc }
tells (refusals.SlotFault at) = record { memory = λ h. absurd cc; target = λ h. absurd cc; line = λ h. absurd cc }
tells (refusals.StartFailed name) = record { memory = λ h. absurd cc; target = λ h. (name, refl); line = λ h. refl }
tells refusals.NoMemory = record { memory = λ h. refl; target = λ h. absurd cc; line = λ h. refl }
tells _ = record { memory = λ h. absurd cc; target = λ h. absurd cc; line = λ h. refl }

-- a session that doesn't end as Done has a refusal
pub some_refusal : (refused : Option Refusal) (answer : Status) → answer ≢ statuses.Done →
    option_map_or status_of refused statuses.Done ≡ answer →
    (refusal : Refusal) × ((refused ≡ Some refusal) × (status_of refusal ≡ answer))
some_refusal None answer other e = absurd (other (sym e))
some_refusal (Some refusal) answer other e = (refusal, (refl, e))
