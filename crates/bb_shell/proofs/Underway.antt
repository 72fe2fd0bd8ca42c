-- Rounds that were run so far, after which more may come.
use Rattle.std.proofs.Common.{◌≡◌, ℕ, ◌+◌, ◌-◌, Bool, true, false, List, [], ◌∷◌, ◌++◌, Option, Some, ap, append_assoc, arith, length, length-append, refl, sym, subst, ◌∙◌}
use Rattle.std.proofs.lemmas.List.Sums.{sum_by_push}
use Rattle.std.specs.Prelude.{MatchBool, slice_get}
use Rattle.bb_chooser.specs.Binding.{Binding}
use Rattle.bb_flash.specs.declared.plan.Plan.{Plan}
use Rattle.bb_flash.specs.Device.{Device}
use Rattle.bb_state.specs.Keyed.{Keyed}
use Rattle.bb_shell.specs.Boot.{AreRounds, IsRound, NoneQualifies, Round, is_retried, last_round}
use Rattle.bb_shell.specs.Ends.{RaisedBy, failed_start, failed_starts}
use Rattle.bb_shell.specs.Running.{AreRun, IsRoundRun}

-- From a table, a copy and a device on some rounds were run, each of which failed; whatever rounds
-- come from where they led to follow them.
pub record IsUnderway
    (b : Binding) (plans : List (Option Plan)) (keyed : Keyed)
    (first : List ℕ) (kept : Option (List ℕ)) (used : Option ℕ) (from : Device)
    (done : ℕ) (table : List ℕ) (kept' : Option (List ℕ)) (used' : Option ℕ) (now : Device) : Type 0 where
  pub earlier : List Round
  pub many : length earlier ≡ done
  pub are : (later : List Round) → AreRounds b plans table later → AreRounds b plans first (earlier ++ later)
  pub run :
      (later : List Round) (end : Option ℕ) (to : Device) →
      AreRun keyed plans kept' used' end later now to → AreRun keyed plans kept used end (earlier ++ later) from to
  pub rose : RaisedBy (failed_starts earlier) from.start_faults now.start_faults

pub rose_none : (n : ℕ) → RaisedBy 0 n n
rose_none n = omega arith

pub rose_more : (x y one two three : ℕ) → RaisedBy x one two → RaisedBy y two three → RaisedBy (x + y) one three
rose_more x y one two three h k = omega arith

pub underway_none : (b : Binding) (plans : List (Option Plan)) (keyed : Keyed) (first : List ℕ) (kept : Option (List ℕ)) (used : Option ℕ) (from : Device) →
    IsUnderway b plans keyed first kept used from 0 first kept used from
underway_none b plans keyed first kept used from = record {
  earlier = [];
  many = refl;
  are = λ later h. h;
  run = λ later end to h. h;
  rose = rose_none from.start_faults;
}

failed_more : (earlier : List Round) (round : Round) → failed_starts (earlier ++ round ∷ []) ≡ failed_starts earlier + failed_start round.outcome
failed_more earlier round = sum_by_push (λ (r : Round). failed_start r.outcome) earlier round

abbrev no_rounds : List Round
no_rounds = []

module _ (b : Binding) (plans : List (Option Plan)) (keyed : Keyed) (first : List ℕ) (kept : Option (List ℕ)) (used : Option ℕ) (from : Device)
    (done : ℕ) (table : List ℕ) (kept' : Option (List ℕ)) (used' : Option ℕ) (now : Device)
    (underway : IsUnderway b plans keyed first kept used from done table kept' used' now)
    (round : Round) (used'' : Option ℕ) (next : Device)
    (is : IsRound b plans table round) (runs : IsRoundRun keyed plans kept' used' used'' round now next)
    (rose : RaisedBy (failed_start round.outcome) now.start_faults next.start_faults) where
  rose_all : RaisedBy (failed_starts (underway.earlier ++ round ∷ [])) from.start_faults next.start_faults
  rose_all =
      subst (λ n. RaisedBy n from.start_faults next.start_faults) (sym (failed_more underway.earlier round))
      (rose_more (failed_starts underway.earlier) (failed_start round.outcome) from.start_faults now.start_faults next.start_faults underway.rose rose)

  pub underway_next : is_retried b round.outcome ≡ true → IsUnderway b plans keyed first kept used from (done + 1) round.table (Some round.table) used'' next
  unfolding AreRounds AreRun
  underway_next retried = record {
    earlier = underway.earlier ++ round ∷ [];
    many = length-append underway.earlier (round ∷ []) ∙ ap (λ n. n + 1) underway.many;
    are = λ later h.
        subst (AreRounds b plans first) (sym (append_assoc underway.earlier (round ∷ []) later))
        (underway.are (round ∷ later) (is, subst (λ t. MatchBool t (AreRounds b plans round.table later) (later ≡ [])) (sym retried) h));
    run = λ later end to h.
        subst (λ rounds. AreRun keyed plans kept used end rounds from to) (sym (append_assoc underway.earlier (round ∷ []) later))
        (underway.run (round ∷ later) end to (record { copy = used''; device = next; before = runs; behind = h }));
    rose = rose_all;
  }

  pub ended_are : (is_retried b round.outcome ≡ true → NoneQualifies b round.table) → AreRounds b plans first (underway.earlier ++ round ∷ [])
  unfolding AreRounds
  ended_are none = underway.are (round ∷ []) (is, at (is_retried b round.outcome) refl)
    where
      at : (t : Bool) → is_retried b round.outcome ≡ t → MatchBool (is_retried b round.outcome) (AreRounds b plans round.table []) (no_rounds ≡ [])
      at true e = subst (λ t. MatchBool t (NoneQualifies b round.table) (no_rounds ≡ [])) (sym e) (none e)
      at false e = subst (λ t. MatchBool t (NoneQualifies b round.table) (no_rounds ≡ [])) (sym e) refl

  pub ended_run : AreRun keyed plans kept used used'' (underway.earlier ++ round ∷ []) from next
  unfolding AreRun
  ended_run = underway.run (round ∷ []) used'' next (record { copy = used''; device = next; before = runs; behind = (refl, refl) })

  pub ended_rose : RaisedBy (failed_starts (underway.earlier ++ round ∷ [])) from.start_faults next.start_faults
  ended_rose = rose_all

-- the last of some rounds
pub last_is : (earlier : List Round) (round : Round) → last_round (earlier ++ round ∷ []) ≡ Some round
last_is earlier round =
    let all = earlier ++ round ∷ [] in
    let len = length-append earlier (round ∷ []) in
    ap (slice_get all) (let e : length all - 1 ≡ length earlier = omega (arith, len) in e) ∙ get_last earlier round
  where
    get_last : (xs : List Round) (x : Round) → slice_get (xs ++ x ∷ []) (length xs) ≡ Some x
    get_last [] x = refl
    get_last (y ∷ xs) x = get_last xs x
