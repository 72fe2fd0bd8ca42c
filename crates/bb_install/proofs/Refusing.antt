-- What the answer for a slot is, and why.
use Rattle.std.proofs.Common.{◌≡◌, ℕ, ◌+◌, ◌∙◌, ◌↔◌, Bool, true, false, List, Option, Some, None, Result, Ok, Err, IfOk, ap, sym, subst, refl, arith, nat_lt, ok_or, option_and_then, if◌then◌else◌}
use Rattle.std.proofs.lemmas.Bool.Decides.{nat_tests}
use Rattle.bb_flash.specs.declared.geometry.Geometry.{Geometry}
use Rattle.bb_flash.specs.declared.region.Region.{Region}
use Rattle.bb_tree.specs.Node.{Branch}
use Rattle.bb_layout.specs.Backend.{partition_of}
use Rattle.bb_layout.specs.Storage.{is_aligned}
use Rattle.bb_install.specs.declared.slot_error.SlotError.{SlotError}
use Rattle.bb_install.specs.declared.slot_error.SlotError.TheVariants.{BadReg, NoSlot, OutOfDevice, Overlap, Unaligned}
use Rattle.bb_install.specs.Slot.{HasBadReg, HasNoSlot, HasPlace, IsMisplaced, Overlaps, SharesByte, SlotQuestion, regions_meet, slot_from, slot_node, slot_place, slot_region, slot_then}
use Rattle.bb_install.proofs.Places.{meet_of_share, no_share_of_miss, share_of_meet}

-- the answer from each step on
abbrev of_meet : Region → Bool → Result Region SlotError
of_meet slot meet = if meet then Err Overlap else Ok slot

abbrev of_place : SlotQuestion → Region → Result (Unit {0}) SlotError → Result Region SlotError
of_place question slot place = slot_then place (λ _. of_meet slot (regions_meet slot question.copies))

abbrev of_region : SlotQuestion → Option Region → Result Region SlotError
of_region question region = slot_then (ok_or region BadReg) (λ slot. of_place question slot (slot_place question.geometry slot))

abbrev of_node : SlotQuestion → Option (Branch (List ℕ)) → Result Region SlotError
of_node question node = slot_then (ok_or node NoSlot) (λ node. of_region question (partition_of node))

-- a slot that was given
pub record IsGiven (question : SlotQuestion) (slot : Region) : Type 0 where
  pub given : slot_region question ≡ Some slot
  pub placed : slot_place question.geometry slot ≡ Ok tt
  pub apart : SharesByte slot question.copies → ⊥

-- why an answer is what it is
abbrev pub IsReasoned : SlotQuestion → Result Region SlotError → Type 0
IsReasoned question (Ok slot) = IsGiven question slot
IsReasoned question (Err NoSlot) = HasNoSlot question
IsReasoned question (Err BadReg) = HasBadReg question
IsReasoned question (Err Unaligned) = IsMisplaced Unaligned question
IsReasoned question (Err OutOfDevice) = IsMisplaced OutOfDevice question
IsReasoned question (Err Overlap) = Overlaps question

reasoned_meet : (question : SlotQuestion) (slot : Region) (meet : Bool) → slot_region question ≡ Some slot → slot_place question.geometry slot ≡ Ok tt → regions_meet slot question.copies ≡ meet → IsReasoned question (of_meet slot meet)
reasoned_meet question slot true given placed e = record { slot = slot; given = given; placed = placed; shares = share_of_meet slot question.copies e }
reasoned_meet question slot false given placed e = record { given = given; placed = placed; apart = no_share_of_miss slot question.copies e }

-- a place is refused for two reasons alone
abbrev place_by : Bool → Bool → Result (Unit {0}) SlotError
place_by aligned past = if aligned then (if past then Err OutOfDevice else Ok tt) else Err Unaligned

place_is : (geometry : Geometry) (slot : Region) (aligned past : Bool) → is_aligned geometry slot ≡ aligned → nat_lt geometry.size (slot.at + slot.size) ≡ past → slot_place geometry slot ≡ place_by aligned past
place_is geometry slot true true e f = rw (e, f) refl
place_is geometry slot true false e f = rw (e, f) refl
place_is geometry slot false past e f = rw e refl

reasoned_place : (question : SlotQuestion) (slot : Region) (aligned past : Bool) → slot_region question ≡ Some slot → slot_place question.geometry slot ≡ place_by aligned past → IsReasoned question (of_place question slot (place_by aligned past))
reasoned_place question slot true true given e = record { slot = slot; given = given; refused = e }
reasoned_place question slot true false given e = reasoned_meet question slot (regions_meet slot question.copies) given e refl
reasoned_place question slot false past given e = record { slot = slot; given = given; refused = e }

reasoned_region : (question : SlotQuestion) (node : Branch (List ℕ)) (region : Option Region) → slot_node question ≡ Some node → partition_of node ≡ region → IsReasoned question (of_region question region)
reasoned_region question node None labelled e = record { node = node; labelled = labelled; bad = e }
reasoned_region question node (Some slot) labelled e =
    let geometry : Geometry = question.geometry in
    let aligned : Bool = is_aligned geometry slot in
    let past : Bool = nat_lt geometry.size (slot.at + slot.size) in
    let place : slot_place geometry slot ≡ place_by aligned past = place_is geometry slot aligned past refl refl in
    let given : slot_region question ≡ Some slot = ap (λ (n : Option (Branch (List ℕ))). option_and_then partition_of n) labelled ∙ e in
    subst (λ (r : Result (Unit {0}) SlotError). IsReasoned question (of_place question slot r)) (sym place)
    (reasoned_place question slot aligned past given place)

reasoned_node : (question : SlotQuestion) (node : Option (Branch (List ℕ))) → slot_node question ≡ node → IsReasoned question (of_node question node)
reasoned_node question None e = e
reasoned_node question (Some node) e = reasoned_region question node (partition_of node) e refl

pub reasoned : (question : SlotQuestion) → IsReasoned question (slot_from question)
reasoned question = reasoned_node question (slot_node question) refl

-- ---- each reason gives its answer

node_of_region : (question : SlotQuestion) (node : Option (Branch (List ℕ))) (slot : Region) → option_and_then partition_of node ≡ Some slot → of_node question node ≡ of_place question slot (slot_place question.geometry slot)
node_of_region question None slot e = absurd cc
node_of_region question (Some node) slot e = ap (of_region question) e

pub no_slot_so : (question : SlotQuestion) → HasNoSlot question → slot_from question ≡ Err NoSlot
no_slot_so question none = ap (of_node question) none

pub bad_reg_so : (question : SlotQuestion) → HasBadReg question → slot_from question ≡ Err BadReg
bad_reg_so question bad = ap (of_node question) bad.labelled ∙ ap (of_region question) bad.bad

pub misplaced_so : (question : SlotQuestion) (refusal : SlotError) → IsMisplaced refusal question → slot_from question ≡ Err refusal
misplaced_so question refusal bad = node_of_region question (slot_node question) bad.slot bad.given ∙ ap (of_place question bad.slot) bad.refused

pub overlaps_so : (question : SlotQuestion) → Overlaps question → slot_from question ≡ Err Overlap
overlaps_so question bad =
    node_of_region question (slot_node question) bad.slot bad.given ∙ ap (of_place question bad.slot) bad.placed
    ∙ ap (of_meet bad.slot) (meet_of_share bad.slot question.copies bad.shares)

-- ---- and each answer its reason

pub refusal_reasoned : (question : SlotQuestion) (result : Result Region SlotError) (refusal : SlotError) → result ≡ slot_from question → result ≡ Err refusal → IsReasoned question (Err refusal)
refusal_reasoned question result refusal value is = subst (λ (r : Result Region SlotError). IsReasoned question r) (sym value ∙ is) (reasoned question)

place_ok : (geometry : Geometry) (slot : Region) (aligned past : Bool) → is_aligned geometry slot ≡ aligned → nat_lt geometry.size (slot.at + slot.size) ≡ past → place_by aligned past ≡ Ok tt → HasPlace geometry slot
place_ok geometry slot true true e f ok = absurd cc
place_ok geometry slot true false e f ok = record {
  aligned = record { at = λ some. grind (arith, nat_tests); size = λ some. grind (arith, nat_tests) };
  inside = grind (arith, nat_tests);
}
place_ok geometry slot false past e f ok = absurd cc

pub given_place : (question : SlotQuestion) (slot : Region) → IsGiven question slot → HasPlace question.geometry slot
given_place question slot given =
    let geometry : Geometry = question.geometry in
    let aligned : Bool = is_aligned geometry slot in
    let past : Bool = nat_lt geometry.size (slot.at + slot.size) in
    place_ok geometry slot aligned past refl refl (sym (place_is geometry slot aligned past refl refl) ∙ given.placed)

pub given_of : (question : SlotQuestion) (result : Result Region SlotError) (slot : Region) → result ≡ slot_from question → result ≡ Ok slot → IsGiven question slot
given_of question result slot value is = subst (λ (r : Result Region SlotError). IsReasoned question r) (sym value ∙ is) (reasoned question)

-- ---- the clauses of an answer

pub place_of_answer : (question : SlotQuestion) (result : Result Region SlotError) → result ≡ slot_from question → IfOk result (HasPlace question.geometry)
place_of_answer question (Ok slot) value = given_place question slot (given_of question (Ok slot) slot value refl)
place_of_answer question (Err refusal) value = tt

pub apart_of_answer : (question : SlotQuestion) (result : Result Region SlotError) → result ≡ slot_from question → IfOk result (λ slot. SharesByte slot question.copies → ⊥)
apart_of_answer question (Ok slot) value = (given_of question (Ok slot) slot value refl).apart
apart_of_answer question (Err refusal) value = tt

module _ (question : SlotQuestion) (result : Result Region SlotError) (value : result ≡ slot_from question) where
  pub no_slot_exactly : (result ≡ Err NoSlot) ↔ HasNoSlot question
  no_slot_exactly = (refusal_reasoned question result NoSlot value, λ fact. value ∙ no_slot_so question fact)

  pub bad_reg_exactly : (result ≡ Err BadReg) ↔ HasBadReg question
  bad_reg_exactly = (refusal_reasoned question result BadReg value, λ fact. value ∙ bad_reg_so question fact)

  pub unaligned_exactly : (result ≡ Err Unaligned) ↔ IsMisplaced Unaligned question
  unaligned_exactly = (refusal_reasoned question result Unaligned value, λ fact. value ∙ misplaced_so question Unaligned fact)

  pub out_of_device_exactly : (result ≡ Err OutOfDevice) ↔ IsMisplaced OutOfDevice question
  out_of_device_exactly = (refusal_reasoned question result OutOfDevice value, λ fact. value ∙ misplaced_so question OutOfDevice fact)

  pub overlap_exactly : (result ≡ Err Overlap) ↔ Overlaps question
  overlap_exactly = (refusal_reasoned question result Overlap value, λ fact. value ∙ overlaps_so question fact)
