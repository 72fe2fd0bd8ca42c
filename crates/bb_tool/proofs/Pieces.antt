-- A text that was told in two pieces.
use Rattle.std.proofs.Common.{◌≡◌, ℕ, zero, suc, ◌+◌, List, [], ◌∷◌, ◌++◌, length, take, take_all, append_assoc, Option, Some, None, option_map, refl, sym, ap, subst, ◌∙◌, inl, inr, arith}
use Rattle.std.proofs.lemmas.Bool.{cases_lt}
use Rattle.std.proofs.lemmas.List.{take-append-le}
use Rattle.bb_base.specs.Faults.{one_more}
use Rattle.bb_base.specs.SinkRecord.{SinkRecord, Sends, SendsFront}
use Rattle.bb_plan.specs.declared.status.Status.{Status}
use Rattle.bb_tool.specs.Sending.{IsSentOrCut, status_unsent}

sent_twice : (one two : List ℕ) (o : Option (List ℕ)) →
    option_map (λ s. s ++ two) (option_map (λ s. s ++ one) o) ≡ option_map (λ s. s ++ (one ++ two)) o
sent_twice one two None = refl
sent_twice one two (Some s) = ap (λ x. Some x) (append_assoc s one two)

sent_both : (one two : List ℕ) (before middle after : SinkRecord) → Sends one before middle → Sends two middle after → Sends (one ++ two) before after
sent_both one two before middle after first second =
    second ∙ ap (option_map (λ s. s ++ two)) first ∙ sent_twice one two before.sent

-- a front of the first is one of both
front_before : (one two : List ℕ) (before after : SinkRecord) → SendsFront one before after → SendsFront (one ++ two) before after
front_before one two before after (n, sent) = elim (cases_lt (length one) n) [
  | inl past ↦ (
    length one,
    subst (λ l. Sends l before after)
        (take_all n one (omega (arith, past)) ∙ sym (take_all (length one) one (omega arith)) ∙ sym (take-append-le (length one) one two (omega arith))) sent,
  )
  | inr within ↦ (n, subst (λ l. Sends l before after) (sym (take-append-le n one two within)) sent)
]

take_past : (one two : List ℕ) (n m : ℕ) → m ≡ length one + n → take m (one ++ two) ≡ one ++ take n two
take_past [] two n m is = ap (λ k. take k two) (let same : m ≡ n = omega (arith, is) in same)
take_past (x ∷ one) two n zero is = absurd (omega (arith, is))
take_past (x ∷ one) two n (suc m) is = ap (λ l. x ∷ l) (take_past one two n m (omega (arith, is)))

-- and the first with a front of the second is one
front_after : (one two : List ℕ) (before middle after : SinkRecord) → Sends one before middle → SendsFront two middle after →
    SendsFront (one ++ two) before after
front_after one two before middle after first (n, sent) = (
  length one + n,
  subst (λ l. Sends l before after) (sym (take_past one two n (length one + n) refl))
      (sent_both one (take n two) before middle after first sent),
)

pub told_cut : (one two : List ℕ) (ended : Status) (before after : SinkRecord) (status : Status) → status ≡ status_unsent ended →
    after.faults ≡ one_more before.faults → SendsFront one before after → IsSentOrCut (one ++ two) ended before after status
told_cut one two ended before after status is faults front =
    inr (record { status_is = is; faults = faults; front = front_before one two before after front })

pub told_both : (one two : List ℕ) (ended : Status) (before middle after : SinkRecord) (status : Status) → Sends one before middle →
    middle.faults ≡ before.faults → IsSentOrCut two ended middle after status → IsSentOrCut (one ++ two) ended before after status
told_both one two ended before middle after status first same (inl sent) = inl (record {
  status_is = sent.status_is;
  faults = sent.faults ∙ same;
  sent = sent_both one two before middle after first sent.sent;
})
told_both one two ended before middle after status first same (inr cut) = inr (record {
  status_is = cut.status_is;
  faults = cut.faults ∙ ap one_more same;
  front = front_after one two before middle after first cut.front;
})
