-- Faults of the device as statuses, and a place and its target.
use Rattle.std.proofs.Common.{◌≡◌, ℕ, Bool, true, false, List, Option, Some, None, IsSome, refl, ap, ◌∙◌}
use Rattle.std.specs.Option.{option_map_or}
use Rattle.std.specs.Prelude.{slice_get}
use Rattle.bb_chooser.specs.Binding.{Binding}
use Rattle.bb_chooser.specs.Choosing.{last_chosen_of, with_number}
use Rattle.bb_chooser.specs.Counting.{chosen_target, mark_good_of}
use Rattle.bb_copies.specs.declared.answers.CopyFault.{CopyFault}
use Rattle.bb_copies.specs.declared.answers.CopyFault.TheVariants as faults
use Rattle.bb_layout.specs.Layout.{Laid}
use Rattle.bb_session.specs.Acting.{SavesOnce, acts_of, marks_of}
use Rattle.bb_session.specs.Marking.{lost_place}
use Rattle.bb_plan.specs.declared.plan.Work.TheVariants.{Good}
use Rattle.bb_plan.specs.Refusal.{copy_refusal, status_of}
use Rattle.bb_session.specs.Session.{Session, ended_status}
use Rattle.bb_plan.specs.declared.refusal.Refusal.{Refusal}
use Rattle.bb_plan.specs.declared.status.Status.{Status}
use Rattle.bb_plan.specs.declared.status.Status.TheVariants as statuses

-- ---- faults of the device

abbrev pub is_device_fault : Status → Bool
is_device_fault statuses.ReadFault = true
is_device_fault statuses.WriteFault = true
is_device_fault _ = false

-- of a copy, or of a slot
abbrev pub is_call_fault : Status → Bool
is_call_fault statuses.ReadFault = true
is_call_fault statuses.WriteFault = true
is_call_fault statuses.SlotFault = true
is_call_fault _ = false

abbrev pub HasNoFault : Session → Type 0
HasNoFault session = is_call_fault (ended_status session) ≡ false

-- ---- refused memory

abbrev pub is_memory : Status → Bool
is_memory statuses.NoMemory = true
is_memory _ = false

abbrev pub HasMemory : Session → Type 0
HasMemory session = is_memory (ended_status session) ≡ false

-- ---- faults, and the sessions that end so

pub fault_device : (fault : CopyFault) → is_device_fault (status_of (copy_refusal fault)) ≡ true
fault_device faults.ReadFault = refl
fault_device _ = refl

pub fault_call : (fault : CopyFault) → is_call_fault (status_of (copy_refusal fault)) ≡ true
fault_call faults.ReadFault = refl
fault_call _ = refl

pub refused_whole : (session : Session) (refusal : Refusal) → session.refusal ≡ Some refusal → is_call_fault (status_of refusal) ≡ false → HasNoFault session
refused_whole session refusal is none = ap (λ (r : Option Refusal). is_call_fault (option_map_or status_of r statuses.Done)) is ∙ none

pub done_whole : (session : Session) → session.refusal ≡ None → HasNoFault session
done_whole session is = ap (λ (r : Option Refusal). is_call_fault (option_map_or status_of r statuses.Done)) is

-- ---- a place and its target

none_of : (target : Option ℕ) → (IsSome target → ⊥) → target ≡ None
none_of None not = refl
none_of (Some t) not = absurd (not refl)

-- no target has it
pub lost_is : (targets : Binding) (area : List ℕ) → (IsSome (chosen_target targets area) → ⊥) →
    lost_place targets area ≡ Some (last_chosen_of targets area)
lost_is targets area not =
    ap (λ (target : Option ℕ). option_map_or (λ t. None) target (Some (last_chosen_of targets area))) (none_of (chosen_target targets area) not)

-- and marking changes nothing
pub lost_unchanged : (targets : Binding) (area : List ℕ) → (IsSome (chosen_target targets area) → ⊥) → mark_good_of targets area ≡ area
lost_unchanged targets area not =
    ap
    (λ chosen.
    option_map_or
    (λ target. option_map_or (λ t. with_number area t.attempts_at t.target.default_attempts) (slice_get targets.targets target) area)
    chosen area) (none_of (chosen_target targets area) not)

-- one has it, and the table in which it is marked is saved
pub chosen_acts : (layout : Laid) (targets : Binding) (area : List ℕ) → IsSome (chosen_target targets area) →
    acts_of layout (Good targets) area ≡ SavesOnce (mark_good_of targets area)
chosen_acts layout targets area some = ap (λ o. marks_of o (mark_good_of targets area)) (by (chosen_target targets area) some)
  where
    by : (target : Option ℕ) → IsSome target → option_map_or (λ t. None) target (Some (last_chosen_of targets area)) ≡ None
    by None some = absurd cc
    by (Some t) some = refl
