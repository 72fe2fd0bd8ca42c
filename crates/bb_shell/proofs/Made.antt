-- How many saves of rounds answered Ok: all, or all but the last.
use Rattle.std.proofs.Common.{◌≡◌, ◌⊎◌, ℕ, ◌+◌, ◌≤◌, Bool, true, false, List, [], ◌∷◌, length, Option, Some, None, IsSome, is_some, cond, ap, arith, inl, inr, refl, sym, subst, ◌∙◌}
use Rattle.std.proofs.lemmas.Bool.{false≢true}
use Rattle.std.proofs.lemmas.List.{length-map}
use Rattle.std.specs.Option.{option_and_then}
use Rattle.std.specs.Prelude.{⊤, count_by}
use Rattle.bb_shell.proofs.LastRounds.{refused_cons}
use Rattle.bb_shell.proofs.Sequence.{failed_before, failed_unrefused, stops_refused}
use Rattle.bb_shell.proofs.Reached.{StopsRefused, begun_saving, idle_saving, is_made, made_cons}
use Rattle.bb_shell.specs.Boot.{Round, last_round}
use Rattle.bb_shell.specs.Counting.{target_started}
use Rattle.bb_shell.specs.Sequence.{StopsThere, refused_in}
use Rattle.bb_shell.specs.Rounds.{is_started}
use Rattle.bb_shell.specs.Running.{is_refused_save, refusal_of, same_as_kept}
use Rattle.bb_shell.specs.Stages.{made_of, saves_of, saving_rounds}
use Rattle.bb_shell.specs.declared.outcome.Outcome.{Outcome}
use Rattle.bb_shell.specs.declared.outcome.Outcome.TheVariants.{Refused, Unplanned, Failed, Started}

-- ---- where none was refused

abbrev pub AllSaved : List Round → Type 0
AllSaved [] = ⊤
AllSaved (round ∷ later) = (is_refused_save round.outcome ≡ false) × AllSaved later

pub all_saved : (rounds : List Round) → StopsThere rounds → refused_in rounds ≡ None → AllSaved rounds
unfolding StopsThere
all_saved [] stops none = tt
all_saved (round ∷ []) stops none = (ap (λ o. is_some o) none, tt)
all_saved (round ∷ next ∷ later) stops none = (
  failed_unrefused round.outcome (failed_before round next later stops.0),
  all_saved (next ∷ later) stops.1 (sym (refused_cons round next later) ∙ none),
)

-- ---- all of them, or all but the last

abbrev IsRefusedLast : List Round → Type 0
IsRefusedLast rounds = is_some (refused_in rounds) ≡ true

abbrev MadeButLast : List Round → List Round → Type 0
MadeButLast saving rounds =
    (count_by is_made saving ≡ length saving) ⊎ ((count_by is_made saving + 1 ≡ length saving) × IsRefusedLast rounds)

refused_behind : (round : Round) (later : List Round) → IsRefusedLast later → IsRefusedLast (round ∷ later)
refused_behind round [] some = absurd (false≢true some)
refused_behind round (next ∷ later) some = ap (λ o. is_some o) (refused_cons round next later) ∙ some

behind_last : (saving : List Round) (round : Round) (later : List Round) → MadeButLast saving later → MadeButLast saving (round ∷ later)
behind_last saving round later (inl all) = inl all
behind_last saving round later (inr but) = inr (but.0, refused_behind round later but.1)

one_more : (round : Round) (saving later : List Round) → is_refused_save round.outcome ≡ false → MadeButLast saving later →
    MadeButLast (round ∷ saving) (round ∷ later)
one_more round saving later done (inl all) =
    let made = made_cons round saving false done in inl (omega (arith, made, all))
one_more round saving later done (inr but) =
    let made = made_cons round saving false done in
    let few = but.0 in
    inr (omega (arith, made, few), refused_behind round later but.1)

made_by : (rounds : List Round) (kept : Option (List ℕ)) → StopsRefused rounds → MadeButLast (saving_rounds kept rounds) rounds
made_by [] kept stops = inl refl
made_by (round ∷ later) kept stops =
    by (made_by later (Some round.table) stops.1) (same_as_kept kept round.table) refl (is_refused_save round.outcome) refl
  where
    by : MadeButLast (saving_rounds (Some round.table) later) later → (same : Bool) → same_as_kept kept round.table ≡ same →
        (refused : Bool) → is_refused_save round.outcome ≡ refused → MadeButLast (saving_rounds kept (round ∷ later)) (round ∷ later)
    by behind true e refused done =
        subst (λ s. MadeButLast s (round ∷ later)) (sym (idle_saving kept round later e))
        (behind_last (saving_rounds (Some round.table) later) round later behind)
    by behind false e false done =
        subst (λ s. MadeButLast s (round ∷ later)) (sym (begun_saving kept round later e))
        (one_more round (saving_rounds (Some round.table) later) later done behind)
    by behind false e true done =
        let none = stops.0 done in
        let made = made_cons round [] true done in
        subst (λ s. MadeButLast s (round ∷ later)) (sym (begun_saving kept round later e))
        (subst (λ l. MadeButLast (round ∷ saving_rounds (Some round.table) l) (round ∷ l)) (sym none) (inr (omega (arith, made), done)))

not_started : (outcome : Outcome) → is_some (refusal_of outcome) ≡ true → is_started outcome ≡ false
not_started (Refused fault) h = refl
not_started Unplanned h = absurd (false≢true h)
not_started Failed h = absurd (false≢true h)
not_started Started h = absurd (false≢true h)

-- after one that was refused nothing was started
refused_unstarted : (rounds : List Round) → IsRefusedLast rounds → target_started rounds ≡ None
refused_unstarted rounds = by (last_round rounds)
  where
    by : (last : Option Round) → is_some (option_and_then (λ (r : Round). refusal_of r.outcome) last) ≡ true →
        option_and_then (λ (r : Round). cond (is_started r.outcome) (Some r.target) None) last ≡ None
    by None some = refl
    by (Some round) some = ap (λ t. cond t (Some round.target) None) (not_started round.outcome some)

module _ (kept : Option (List ℕ)) (rounds : List Round) (stops : StopsThere rounds) where
  made_here : MadeButLast (saving_rounds kept rounds) rounds
  made_here = made_by rounds kept (stops_refused rounds stops)

  many : length (saves_of kept rounds) ≡ length (saving_rounds kept rounds)
  many = length-map (saving_rounds kept rounds) (λ (round : Round). round.table)

  pub made_most : made_of kept rounds ≤ length (saves_of kept rounds)
  made_most = by made_here
    where
      by : MadeButLast (saving_rounds kept rounds) rounds → made_of kept rounds ≤ length (saves_of kept rounds)
      by (inl all) = let len = many in omega (arith, len, all)
      by (inr but) = let len = many in let few = but.0 in omega (arith, len, few)

  pub made_least : length (saves_of kept rounds) ≤ made_of kept rounds + 1
  made_least = by made_here
    where
      by : MadeButLast (saving_rounds kept rounds) rounds → length (saves_of kept rounds) ≤ made_of kept rounds + 1
      by (inl all) = let len = many in omega (arith, len, all)
      by (inr but) = let len = many in let few = but.0 in omega (arith, len, few)

  -- a start is made only where all did
  pub made_started : IsSome (target_started rounds) → made_of kept rounds ≡ length (saves_of kept rounds)
  made_started some = by made_here
    where
      by : MadeButLast (saving_rounds kept rounds) rounds → made_of kept rounds ≡ length (saves_of kept rounds)
      by (inl all) = all ∙ sym many
      by (inr but) = absurd (false≢true (sym (ap (λ o. is_some o) (refused_unstarted rounds but.1)) ∙ some))
