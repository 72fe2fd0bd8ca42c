-- Lines that were told.
use Rattle.std.proofs.Common.{◌≡◌, ◌++◌, ℕ, List, Result, Ok, Err, IfOk, String, true, string_bytes, Global, ap, codes, decimal, subst, sym, inl, inr, ◌∙◌}
use Rattle.std.proofs.lemmas.List.{append_assoc}
use Rattle.std.specs.declared.alloc.AllocError.{AllocError}
use Rattle.bb_base.specs.SinkRecord.{SinkRecord}
use Rattle.bb_tool.specs.Lines.{detail_of, line_of, variable_words}
use Rattle.bb_plan.specs.Refusal.{status_of}
use Rattle.bb_plan.specs.Status.{code_of, status_name}
use Rattle.bb_tool.specs.Sending.{IsSentOrCut, IsSentMade, IsSentRefusal}
use Rattle.bb_plan.specs.Refusal.{takes_memory}
use Rattle.bb_state.specs.declared.error.StateError.{StateError}
use Rattle.bb_plan.specs.declared.refusal.Refusal.{Refusal}
use Rattle.bb_plan.specs.declared.refusal.Refusal.TheVariants as refusals
use Rattle.bb_plan.specs.declared.status.Status.{Status}

-- a line with the number of its status, its name and what more it says
abbrev numbered : ℕ → List ℕ → List ℕ → List ℕ
numbered number name detail =
    codes "fault " ++ (decimal number ++ (codes " " ++ (name ++ (detail ++ codes "\n"))))

regrouped : (a b c d e f : List ℕ) → a ++ (b ++ (c ++ (d ++ (e ++ f)))) ≡ a ++ b ++ c ++ (d ++ e) ++ f
regrouped a b c d e f =
    ap (λ (t : List ℕ). a ++ (b ++ (c ++ t))) (sym (append_assoc d e f))
    ∙ sym (append_assoc (a ++ b ++ c) (d ++ e) f ∙ append_assoc (a ++ b) c ((d ++ e) ++ f) ∙ append_assoc a b (c ++ ((d ++ e) ++ f)))

pub line_made : (made : Result (String Global) AllocError) (refusal : Refusal) (number : ℕ) (name detail : List ℕ) →
    number ≡ code_of (status_of refusal) → name ≡ status_name (status_of refusal) → detail ≡ detail_of refusal →
    IfOk made (λ line. string_bytes line ≡ numbered number name detail) →
    IfOk made (λ line. string_bytes line ≡ line_of refusal)
line_made (Ok line) refusal number name detail n m w is =
    is ∙ ap (λ (k : ℕ). numbered k name detail) n
    ∙ ap (λ (k : List ℕ). numbered (code_of (status_of refusal)) k detail) m
    ∙ ap (numbered (code_of (status_of refusal)) (status_name (status_of refusal))) w
    ∙ regrouped (codes "fault ") (decimal (code_of (status_of refusal))) (codes " ") (status_name (status_of refusal))
    (detail_of refusal) (codes "\n")
line_made (Err e) refusal number name detail n m w is = tt

-- one that was made, or was refused the memory for it
pub told_made : (made : Result (String Global) AllocError) (refusal : Refusal) (before after : SinkRecord) (status : Status) → takes_memory refusal ≡ true → IfOk made (λ line. string_bytes line ≡ line_of refusal) → IsSentMade made (status_of refusal) before after status → IsSentRefusal refusal before after status
told_made (Ok line) refusal before after status takes is told = inl (subst (λ (text : List ℕ). IsSentOrCut text (status_of refusal) before after status) is told)
told_made (Err e) refusal before after status takes is told = inr (takes, told)

-- what is said of a variable that doesn't fit
pub variable_made : (made : Result (String Global) AllocError) (refusal : Refusal)
    (name cause known : List ℕ) (error : StateError) →
    refusal ≡ refusals.BadVariable known error → name ≡ known → cause ≡ variable_words error →
    IfOk made (λ line. string_bytes line ≡ codes " " ++ (name ++ (codes " " ++ cause))) →
    IfOk made (λ words. string_bytes words ≡ detail_of refusal)
variable_made (Err e) refusal name cause known error is n w made = tt
variable_made (Ok line) refusal name cause known error is n w made =
    made ∙ ap (λ (t : List ℕ). codes " " ++ (t ++ (codes " " ++ cause))) n
    ∙ ap (λ (t : List ℕ). codes " " ++ (known ++ (codes " " ++ t))) w
    ∙ ap detail_of (sym is)
