-- A boot that is cut at one of its stages has run rounds that lead there, and started nothing.
use Rattle.std.proofs.Common.{◌≡◌, ℕ, zero, suc, ◌+◌, ◌-◌, ◌≤◌, Bool, true, false, IsSome, List, [], ◌∷◌, ◌++◌, ◌&&◌, Option, Some, None, ap, append_assoc, arith, cond, is_some, length, map, refl, sym, subst, ◌∙◌}
use Rattle.std.proofs.lemmas.Bool.{false≢true}
use Rattle.std.proofs.lemmas.List.{append-nil}
use Rattle.std.specs.List.{AllByRecursion}
use Rattle.std.specs.Option.{option_and_then, option_map_or}
use Rattle.std.specs.Prelude.{count_by, slice_get, take}
use Rattle.bb_chooser.specs.Binding.{Binding}
use Rattle.bb_chooser.specs.Counting.{spend_of}
use Rattle.bb_chooser.specs.declared.cause.Cause.{Cause}
use Rattle.bb_copies.proofs.Cutting.{as_before, begins_loaded, counted_stages, cut_off, only_entry}
use Rattle.bb_copies.specs.Chronicle.{Content, Loaded, Looked, Turn, TurnMakes, Unloaded, Untouched}
use Rattle.bb_copies.specs.StandsFor.{picked}
use Rattle.bb_copies.specs.Trail.{Stage, StandsAt, stages_of}
use Rattle.bb_copies.specs.declared.answers.CopyFault.TheVariants.{WriteFault}
use Rattle.bb_flash.specs.declared.plan.Plan.{Plan}
use Rattle.bb_shell.proofs.Ends.{retried_saved}
use Rattle.bb_shell.proofs.Reached.{begun_saving, idle_saving, is_made, made_cons, made_stages, reached_by, refused_stages, stage}
use Rattle.bb_shell.specs.Boot.{Round, first_table, is_retried, plan_at}
use Rattle.bb_shell.specs.Counting.{IsBootAfter, target_started, turn_of_rounds}
use Rattle.bb_shell.specs.Cutting.{BootCutLaw, IsBootCutOff}
use Rattle.bb_shell.specs.Rounds.{RoundAnswer, best_of, followed_by, is_started, outcome_by, round_by, rounds_by}
use Rattle.bb_shell.specs.Running.{is_refused_save, same_as_kept}
use Rattle.bb_shell.specs.Stages.{made_of, saves_of, saving_rounds}
use Rattle.bb_shell.specs.declared.outcome.Outcome.{Outcome}
use Rattle.bb_shell.specs.declared.outcome.Outcome.TheVariants.{Refused, Unplanned, Failed, Started}

all_weaker : (P Q : Stage → Type 0) → ((s : Stage) → P s → Q s) → (stages : List Stage) →
    AllByRecursion P stages → AllByRecursion Q stages
all_weaker P Q weaker [] all = tt
all_weaker P Q weaker (s ∷ later) all = (weaker s all.0, all_weaker P Q weaker later all.1)

-- ---- rounds of some answers

alone : (b : Binding) (round : Round) → followed_by b round [] ≡ round ∷ []
alone b round = at (is_retried b round.outcome)
  where
    at : (more : Bool) → cond more (round ∷ []) (round ∷ []) ≡ round ∷ []
    at true = refl
    at false = refl

goes_on : (b : Binding) (round : Round) (rest : List Round) → is_retried b round.outcome ≡ true →
    followed_by b round rest ≡ round ∷ rest
goes_on b round rest e = ap (λ more. cond more (round ∷ rest) (round ∷ [])) e

ends_here : (b : Binding) (round : Round) (rest : List Round) → is_retried b round.outcome ≡ false →
    followed_by b round rest ≡ round ∷ []
ends_here b round rest e = ap (λ more. cond more (round ∷ rest) (round ∷ [])) e

unrefused_by : (plan : Option Plan) → is_refused_save (outcome_by plan false None) ≡ false
unrefused_by None = refl
unrefused_by (Some plan) = refl

unstarted_by : (plan : Option Plan) → is_started (outcome_by plan false None) ≡ false
unstarted_by None = refl
unstarted_by (Some plan) = refl

-- a round after which another is tried started nothing
retried_unstarted : (b : Binding) (outcome : Outcome) → is_retried b outcome ≡ true → is_started outcome ≡ false
retried_unstarted b (Refused fault) e = refl
retried_unstarted b Unplanned e = refl
retried_unstarted b Failed e = refl
retried_unstarted b Started e = absurd (false≢true (sym (none_and b.rules.retry) ∙ e))
  where
    none_and : (retry : Bool) → (retry && false) ≡ false
    none_and true = refl
    none_and false = refl

one_started : (round : Round) → is_started round.outcome ≡ false → target_started (round ∷ []) ≡ None
one_started round e = ap (λ started. cond started (Some round.target) None) e

later_started : (round next : Round) (later : List Round) → target_started (next ∷ later) ≡ None →
    target_started (round ∷ next ∷ later) ≡ None
later_started round next later e =
    let same : length (round ∷ next ∷ later) - 1 ≡ suc (length (next ∷ later) - 1) = omega arith in
    ap
    (λ n. option_and_then
    (λ (r : Round). cond (is_started r.outcome) (Some r.target) None)
    (slice_get (round ∷ next ∷ later) n)) same
    ∙ e

-- nothing was started after a round that started nothing
unstarted_behind : (round : Round) (later : List Round) → is_started round.outcome ≡ false →
    target_started later ≡ None → target_started (round ∷ later) ≡ None
unstarted_behind round [] none rest = one_started round none
unstarted_behind round (next ∷ later) none rest = later_started round next later rest

module _ (b : Binding) (plans : List (Option Plan)) where
  -- a boot from this table on, where `kept` was loaded or saved last and the list is `h` up to the
  -- acknowledged place, comes to a stage by some answers, and starts nothing
  record ReachedBy (table : List ℕ) (kept : Option (List ℕ)) (h : List (List ℕ)) (a : ℕ) (reached : Stage) : Type 0 where
    answers : List RoundAnswer
    areas : reached.areas ≡ h ++ saves_of kept (rounds_by b plans table answers)
    acked : reached.acked ≡ a + made_of kept (rounds_by b plans table answers)
    unstarted : target_started (rounds_by b plans table answers) ≡ None
    most : made_of kept (rounds_by b plans table answers) ≤ length (saves_of kept (rounds_by b plans table answers))
    least : length (saves_of kept (rounds_by b plans table answers)) ≤ made_of kept (rounds_by b plans table answers) + 1

  -- the saves of rounds, as the rounds that saved
  record SavesSo (kept : Option (List ℕ)) (rounds saving : List Round) : Type 0 where
    same : saving_rounds kept rounds ≡ saving
    unstarted : target_started rounds ≡ None
    most : count_by is_made saving ≤ length (map (λ (r : Round). r.table) saving)
    least : length (map (λ (r : Round). r.table) saving) ≤ count_by is_made saving + 1

  by_rounds : (table : List ℕ) (kept : Option (List ℕ)) (h : List (List ℕ)) (a : ℕ) (answers : List RoundAnswer) (rounds saving : List Round) →
      rounds_by b plans table answers ≡ rounds → SavesSo kept rounds saving →
      ReachedBy table kept h a (stage (h ++ map (λ (r : Round). r.table) saving) (a + count_by is_made saving))
  by_rounds table kept h a answers rounds saving e so =
      let same : saving ≡ saving_rounds kept (rounds_by b plans table answers) =
      sym (ap (saving_rounds kept) e ∙ so.same) in
      record {
        answers = answers;
        areas = ap (λ l. h ++ map (λ (r : Round). r.table) l) same;
        acked = ap (λ l. a + count_by is_made l) same;
        unstarted = ap target_started e ∙ so.unstarted;
        most = subst (λ l. count_by is_made l ≤ length (map (λ (r : Round). r.table) l)) same so.most;
        least = subst (λ l. length (map (λ (r : Round). r.table) l) ≤ count_by is_made l + 1) same so.least;
      }

  -- ---- the stages at which a boot can stop

  reached_here : (table : List ℕ) (kept : Option (List ℕ)) (h : List (List ℕ)) (a : ℕ) → ReachedBy table kept h a (stage h a)
  unfolding rounds_by
  reached_here table kept h a = record {
    answers = [];
    areas = sym (append-nil h);
    acked = omega arith;
    unstarted = refl;
    most = omega arith;
    least = omega arith;
  }

  first_round : (table : List ℕ) (answer : RoundAnswer) (answers : List RoundAnswer) (target : ℕ) → best_of b table ≡ Some target →
      rounds_by b plans table (answer ∷ answers)
      ≡ followed_by b (round_by b plans table answer target)
      (rounds_by b plans (round_by b plans table answer target).table answers)
  unfolding rounds_by
  first_round table answer answers target e =
      ap (λ o. option_map_or
      (λ (t : ℕ). followed_by b (round_by b plans table answer t)
      (rounds_by b plans (round_by b plans table answer t).table answers)) o []) e

  no_round : (table : List ℕ) (answer : RoundAnswer) (answers : List RoundAnswer) → best_of b table ≡ None →
      rounds_by b plans table (answer ∷ answers) ≡ []
  unfolding rounds_by
  no_round table answer answers e =
      ap (λ o. option_map_or
      (λ (t : ℕ). followed_by b (round_by b plans table answer t)
      (rounds_by b plans (round_by b plans table answer t).table answers)) o []) e

  none_behind : (round : Round) → followed_by b round (rounds_by b plans round.table []) ≡ round ∷ []
  unfolding rounds_by
  none_behind round = alone b round

  only_round : (table : List ℕ) (answer : RoundAnswer) (target : ℕ) → best_of b table ≡ Some target →
      rounds_by b plans table (answer ∷ []) ≡ round_by b plans table answer target ∷ []
  only_round table answer target e =
      first_round table answer [] target e ∙ none_behind (round_by b plans table answer target)

  abbrev refusing : RoundAnswer
  refusing = record { save = Some (WriteFault 0); starts = false }

  abbrev failing : RoundAnswer
  failing = record { save = None; starts = false }

  module _ (table : List ℕ) (kept : Option (List ℕ)) (h : List (List ℕ)) (a target : ℕ) (best : best_of b table ≡ Some target)
      (begins : same_as_kept kept (spend_of b table target) ≡ false) where
    abbrev Spent : List ℕ
    Spent = spend_of b table target

    -- while the first save goes on
    reached_begun : ReachedBy table kept h a (stage (h ++ Spent ∷ []) a)
    reached_begun =
        let round = round_by b plans table refusing target in
        let made = made_cons round [] true refl in
        let acked : a + count_by is_made (round ∷ []) ≡ a = omega (arith, made) in
        subst (λ n. ReachedBy table kept h a (stage (h ++ Spent ∷ []) n)) acked
        (by_rounds table kept h a (refusing ∷ []) (round ∷ []) (round ∷ []) (only_round table refusing target best)
        (record {
          same = begun_saving kept round [] begins;
          unstarted = one_started round refl;
          most = omega (arith, made);
          least = omega (arith, made);
        }))

    -- after it answered Ok
    reached_made : ReachedBy table kept h a (stage (h ++ Spent ∷ []) (a + 1))
    reached_made =
        let round = round_by b plans table failing target in
        let made = made_cons round [] false (unrefused_by (plan_at plans target)) in
        let acked : a + count_by is_made (round ∷ []) ≡ a + 1 = omega (arith, made) in
        subst (λ n. ReachedBy table kept h a (stage (h ++ Spent ∷ []) n)) acked
        (by_rounds table kept h a (failing ∷ []) (round ∷ []) (round ∷ []) (only_round table failing target best)
        (record {
          same = begun_saving kept round [] begins;
          unstarted = one_started round (unstarted_by (plan_at plans target));
          most = omega (arith, made);
          least = omega (arith, made);
        }))

  -- ---- after a round after which another is tried

  module _ (table : List ℕ) (kept : Option (List ℕ)) (answer : RoundAnswer) (target : ℕ) (best : best_of b table ≡ Some target)
      (retried : is_retried b (round_by b plans table answer target).outcome ≡ true) where
    abbrev One : Round
    One = round_by b plans table answer target

    rounds_are : (answers : List RoundAnswer) →
        rounds_by b plans table (answer ∷ answers) ≡ One ∷ rounds_by b plans One.table answers
    rounds_are answers =
        first_round table answer answers target best ∙ goes_on b One (rounds_by b plans One.table answers) retried

    none_started : (answers : List RoundAnswer) → target_started (rounds_by b plans One.table answers) ≡ None →
        target_started (One ∷ rounds_by b plans One.table answers) ≡ None
    none_started answers none =
        unstarted_behind One (rounds_by b plans One.table answers) (retried_unstarted b One.outcome retried) none

    -- its table was the last one that was saved
    behind_idle : same_as_kept kept One.table ≡ true → (h : List (List ℕ)) (a : ℕ) (s : Stage) →
        ReachedBy One.table (Some One.table) h a s → ReachedBy table kept h a s
    behind_idle e h a s by =
        let rest = rounds_by b plans One.table by.answers in
        let saving = saving_rounds (Some One.table) rest in
        let stands : stage (h ++ map (λ (r : Round). r.table) saving) (a + count_by is_made saving) ≡ s =
        λ i. record { areas = (sym by.areas) i; acked = (sym by.acked) i } in
        subst (ReachedBy table kept h a) stands
        (by_rounds table kept h a (answer ∷ by.answers) (One ∷ rest) saving (rounds_are by.answers)
        (record {
          same = idle_saving kept One rest e;
          unstarted = none_started by.answers by.unstarted;
          most = by.most;
          least = by.least;
        }))

    -- it saved its table
    behind_made : same_as_kept kept One.table ≡ false → (h : List (List ℕ)) (a : ℕ) (s : Stage) →
        ReachedBy One.table (Some One.table) (h ++ One.table ∷ []) (a + 1) s → ReachedBy table kept h a s
    behind_made e h a s by =
        let rest = rounds_by b plans One.table by.answers in
        let saving = saving_rounds (Some One.table) rest in
        let tables = map (λ (r : Round). r.table) saving in
        let made = made_cons One saving false (retried_saved b One.outcome retried) in
        let most = by.most in
        let least = by.least in
        let list : h ++ (One.table ∷ tables) ≡ s.areas = sym (append_assoc h (One.table ∷ []) tables) ∙ sym by.areas in
        let acked : a + count_by is_made (One ∷ saving) ≡ s.acked =
        (let n : a + count_by is_made (One ∷ saving) ≡ a + 1 + count_by is_made saving = omega (arith, made) in n)
        ∙ sym by.acked in
        let stands : stage (h ++ (One.table ∷ tables)) (a + count_by is_made (One ∷ saving)) ≡ s =
        λ i. record { areas = list i; acked = acked i } in
        subst (ReachedBy table kept h a) stands
        (by_rounds table kept h a (answer ∷ by.answers) (One ∷ rest) (One ∷ saving) (rounds_are by.answers)
        (record {
          same = begun_saving kept One rest e;
          unstarted = none_started by.answers by.unstarted;
          most = omega (arith, made, most);
          least = omega (arith, made, least);
        }))

  -- ---- all stages

  abbrev Reaches : List ℕ → Option (List ℕ) → List (List ℕ) → ℕ → List Round → Type 0
  Reaches table kept h a rounds =
      AllByRecursion (ReachedBy table kept h a) (reached_by h a (saving_rounds kept rounds))

  none_reached : (table : List ℕ) (kept : Option (List ℕ)) (h : List (List ℕ)) (a : ℕ) → Reaches table kept h a []
  none_reached table kept h a = (reached_here table kept h a, tt)

  module _ (table : List ℕ) (kept : Option (List ℕ)) (answer : RoundAnswer) (target : ℕ) (best : best_of b table ≡ Some target)
      (h : List (List ℕ)) (a : ℕ) where
    abbrev Round0 : Round
    Round0 = round_by b plans table answer target

    -- a round that is the last
    last_reached : Reaches table kept h a (Round0 ∷ [])
    last_reached = at (same_as_kept kept Round0.table) refl (is_refused_save Round0.outcome) refl
      where
        at : (same : Bool) → same_as_kept kept Round0.table ≡ same → (refused : Bool) → is_refused_save Round0.outcome ≡ refused →
            Reaches table kept h a (Round0 ∷ [])
        at true e refused f =
            subst (λ l. AllByRecursion (ReachedBy table kept h a) (reached_by h a l)) (sym (idle_saving kept Round0 [] e))
            (reached_here table kept h a, tt)
        at false e true f =
            subst (λ l. AllByRecursion (ReachedBy table kept h a) (reached_by h a l)) (sym (begun_saving kept Round0 [] e))
            (subst (AllByRecursion (ReachedBy table kept h a)) (sym (refused_stages h a Round0 f))
            (reached_here table kept h a, (reached_begun table kept h a target best e, tt)))
        at false e false f =
            subst (λ l. AllByRecursion (ReachedBy table kept h a) (reached_by h a l)) (sym (begun_saving kept Round0 [] e))
            (subst (AllByRecursion (ReachedBy table kept h a)) (sym (made_stages h a Round0 [] f)) (
              reached_here table kept h a,
              (reached_begun table kept h a target best e, (reached_made table kept h a target best e, tt)),
            ))

    -- one after which others come
    more_reached : is_retried b Round0.outcome ≡ true → (rest : List Round) →
        ((h' : List (List ℕ)) (a' : ℕ) → Reaches Round0.table (Some Round0.table) h' a' rest) →
        Reaches table kept h a (Round0 ∷ rest)
    more_reached retried rest later = at (same_as_kept kept Round0.table) refl
      where
        at : (same : Bool) → same_as_kept kept Round0.table ≡ same → Reaches table kept h a (Round0 ∷ rest)
        at true e =
            subst (λ l. AllByRecursion (ReachedBy table kept h a) (reached_by h a l)) (sym (idle_saving kept Round0 rest e))
            (all_weaker (ReachedBy Round0.table (Some Round0.table) h a) (ReachedBy table kept h a)
            (behind_idle table kept answer target best retried e h a)
            (reached_by h a (saving_rounds (Some Round0.table) rest)) (later h a))
        at false e =
            let saving = saving_rounds (Some Round0.table) rest in
            subst (λ l. AllByRecursion (ReachedBy table kept h a) (reached_by h a l)) (sym (begun_saving kept Round0 rest e))
            (subst (AllByRecursion (ReachedBy table kept h a))
            (sym (made_stages h a Round0 saving (retried_saved b Round0.outcome retried))) (
              reached_here table kept h a,
              (
                reached_begun table kept h a target best e,
                all_weaker (ReachedBy Round0.table (Some Round0.table) (h ++ Round0.table ∷ []) (a + 1)) (ReachedBy table kept h a)
                    (behind_made table kept answer target best retried e h a)
                    (reached_by (h ++ Round0.table ∷ []) (a + 1) saving) (later (h ++ Round0.table ∷ []) (a + 1)),
              ),
            ))

  unanswered : (table : List ℕ) (kept : Option (List ℕ)) (h : List (List ℕ)) (a : ℕ) → Reaches table kept h a (rounds_by b plans table [])
  unfolding rounds_by
  unanswered table kept h a = none_reached table kept h a

  all_reached : (answers : List RoundAnswer) (table : List ℕ) (kept : Option (List ℕ)) (h : List (List ℕ)) (a : ℕ) →
      Reaches table kept h a (rounds_by b plans table answers)
  all_reached [] table kept h a = unanswered table kept h a
  all_reached (answer ∷ answers) table kept h a =
      at (λ t h' a'. all_reached answers t (Some t) h' a') (best_of b table) refl
    where
      follow : ((t : List ℕ) (h' : List (List ℕ)) (a' : ℕ) → Reaches t (Some t) h' a' (rounds_by b plans t answers)) →
          (target : ℕ) → best_of b table ≡ Some target → (more : Bool) →
          is_retried b (round_by b plans table answer target).outcome ≡ more →
          Reaches table kept h a
          (followed_by b (round_by b plans table answer target)
          (rounds_by b plans (round_by b plans table answer target).table answers))
      follow again target best true e =
          let round = round_by b plans table answer target in
          let rest = rounds_by b plans round.table answers in
          subst (Reaches table kept h a) (sym (goes_on b round rest e))
          (more_reached table kept answer target best h a e rest (again round.table))
      follow again target best false e =
          let round = round_by b plans table answer target in
          let rest = rounds_by b plans round.table answers in
          subst (Reaches table kept h a) (sym (ends_here b round rest e)) (last_reached table kept answer target best h a)

      at : ((t : List ℕ) (h' : List (List ℕ)) (a' : ℕ) → Reaches t (Some t) h' a' (rounds_by b plans t answers)) →
          (o : Option ℕ) → best_of b table ≡ o → Reaches table kept h a (rounds_by b plans table (answer ∷ answers))
      at again None e = subst (Reaches table kept h a) (sym (no_round table answer answers e)) (none_reached table kept h a)
      at again (Some target) e =
          subst (Reaches table kept h a) (sym (first_round table answer answers target e))
          (follow again target e (is_retried b (round_by b plans table answer target).outcome) refl)

-- ---- the law

-- what holds of each stage holds of the one of a number
at_number : (P : Stage → Type 0) (stages : List Stage) (number : ℕ) (s : Stage) → AllByRecursion P stages →
    slice_get stages number ≡ Some s → P s
at_number P [] number s all e = absurd cc
at_number P (one ∷ later) zero s all e = let is : one ≡ s = cc in subst P is all.0
at_number P (one ∷ later) (suc number) s all e = at_number P later number s all.1 e

module _ (b : Binding) (cause : Cause) (plans : List (Option Plan)) (shows : List ℕ → List ℕ) (first : List ℕ) (before : Content)
    (passed : List (Option (List ℕ))) (s : Stage) (here : StandsAt first passed s) where
  abbrev Cut : Turn → Type 0
  Cut turn = IsBootCutOff b cause plans shows first before turn s passed

  -- before a load answered Ok nothing tells that a turn is one of a boot
  untouched : TurnMakes before Untouched s.areas s.acked → Cut Untouched
  untouched step = record {
    left = cut_off first before Untouched Untouched s passed step here tt;
    boots = tt;
    unstarted = refl;
  }

  looked : TurnMakes before Looked s.areas s.acked → Cut Looked
  looked step = record {
    left = cut_off first before Looked Looked s passed step here tt;
    boots = tt;
    unstarted = refl;
  }

  unloaded : TurnMakes before Unloaded s.areas s.acked → Cut Unloaded
  unloaded step = record {
    left = cut_off first before Unloaded Unloaded s passed step here tt;
    boots = tt;
    unstarted = refl;
  }

  module _ (place ok : ℕ) (saves : List (List ℕ)) (started : Option ℕ) (given : place ≡ picked before.marks)
      (behind : IsBootAfter b cause plans shows before place saves ok started) where
    abbrev Given : List (List ℕ)
    Given = take (place + 1) before.areas

    abbrev Whole : Turn
    Whole = Loaded place saves ok started

    abbrev rounds : List Round
    rounds = rounds_by b plans (first_table b cause true behind.table) behind.answers

    saves_is : saves ≡ saves_of (Some behind.table) rounds
    saves_is = let e = behind.turn in cc

    ok_is : ok ≡ made_of (Some behind.table) rounds
    ok_is = let e = behind.turn in cc

    stages_are : take (1 + length saves + ok) (stage Given place ∷ stages_of Given place saves)
        ≡ reached_by Given place (saving_rounds (Some behind.table) rounds)
    stages_are =
        ap (λ l. take (1 + length l + ok) (stage Given place ∷ stages_of Given place l)) saves_is
        ∙ ap (λ n. take (1 + length (saves_of (Some behind.table) rounds) + n)
        (stage Given place ∷ stages_of Given place (saves_of (Some behind.table) rounds))) ok_is

    -- the load was cut
    at_entry : TurnMakes before Unloaded s.areas s.acked → Cut Whole
    at_entry step = record {
      left = cut_off first before Whole Unloaded s passed step here tt;
      boots = tt;
      unstarted = refl;
    }

    -- it gave a table, and the rounds after it had come so far
    at_stage : (number : ℕ) →
        slice_get (take (1 + length saves + ok) (stage Given place ∷ stages_of Given place saves)) number ≡ Some s →
        ReachedBy b plans (first_table b cause true behind.table) (Some behind.table) Given place s → Cut Whole
    at_stage number e by =
        let earlier = rounds_by b plans (first_table b cause true behind.table) by.answers in
        let none : IsSome (target_started earlier) → ⊥ = λ some. (let e = by.unstarted in absurd cc) in
        record {
          left =
              cut_off first before Whole (turn_of_rounds place (Some behind.table) earlier) s passed
              (record {
                given = given;
                areas = by.areas;
                acked = by.acked;
                most = by.most;
                least = by.least;
                start = λ some. absurd (none some);
              })
              here
              (begins_loaded Given place ok saves number s (saves_of (Some behind.table) earlier)
              (made_of (Some behind.table) earlier) (target_started earlier) e by.areas by.acked by.unstarted);
          boots =
              record {
                table = behind.table;
                table_is = behind.table_is;
                sized = behind.sized;
                answers = by.answers;
                turn = refl;
              };
          unstarted = ap is_some by.unstarted;
        }

    loaded : (number : ℕ) →
        slice_get
        (stage before.areas before.acked
        ∷ take (1 + length saves + ok) (stage Given place ∷ stages_of Given place saves))
        number
        ≡ Some s →
        Cut Whole
    loaded zero e =
        let is : stage before.areas before.acked ≡ s = cc in
        at_entry (as_before first before s passed is)
    loaded (suc number) e =
        at_stage number e
        (at_number (ReachedBy b plans (first_table b cause true behind.table) (Some behind.table) Given place)
        (reached_by Given place (saving_rounds (Some behind.table) rounds)) number s
        (all_reached b plans behind.answers (first_table b cause true behind.table) (Some behind.table) Given place)
        (ap (λ stages. slice_get stages number) (sym stages_are) ∙ e))

pub boot_cut_law : BootCutLaw
boot_cut_law b cause plans shows first before Untouched number s passed given boots e here =
    untouched b cause plans shows first before passed s here (only_entry first before s passed number e)
boot_cut_law b cause plans shows first before Looked number s passed given boots e here =
    looked b cause plans shows first before passed s here (only_entry first before s passed number e)
boot_cut_law b cause plans shows first before Unloaded number s passed given boots e here =
    unloaded b cause plans shows first before passed s here (only_entry first before s passed number e)
boot_cut_law b cause plans shows first before (Loaded place saves ok started) number s passed given boots e here =
    loaded b cause plans shows first before passed s here place ok saves started given boots number
    (counted_stages before place ok saves number s e)
