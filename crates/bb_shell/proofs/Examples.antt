-- Worked boots, by computation alone: two systems of priority 20 and 10, with three attempts each.
use Rattle.std.proofs.Common.{◌≡◌, ℕ, Bool, true, false, List, [], ◌∷◌, Option, Some, None, Ok, Err, arith, codes, inl, inr, refl}
use Rattle.bb_chooser.specs.Binding.{Binding}
use Rattle.bb_chooser.specs.declared.cause.Cause.TheVariants.{Other}
use Rattle.bb_chooser.specs.declared.rules.Rules.{Rules}
use Rattle.bb_chooser.specs.declared.target.Target.{Target}
use Rattle.bb_copies.specs.Chronicle.{Chronicle, Content, CutOff, Decayed, ChronicleEntry, Finished, IsStanding, Loaded, TurnMakes}
use Rattle.bb_copies.specs.StandsFor.{Decay, IsAt}
use Rattle.bb_copies.specs.declared.answers.CopyFault.TheVariants.{WriteFault}
use Rattle.bb_flash.specs.declared.plan.Plan.{Plan}
use Rattle.bb_shell.specs.Boot.{boot_end, first_table, table_after}
use Rattle.bb_shell.specs.Counting.{AreBoots, IsBootAfter, StaysReset, enabled_attempts, first_loaded, starts_of}
use Rattle.bb_shell.specs.Plans.{plan_by, plans_by}
use Rattle.bb_shell.specs.Rounds.{RoundAnswer, best_of, rounds_by}
use Rattle.bb_shell.specs.Stages.{made_of, saves_of, stages_reached}
use Rattle.bb_shell.specs.declared.boot_end.BootEnd.TheVariants.{Started, NoTarget, StartFailed, Fault}
use Rattle.bb_shell.specs.declared.plan_fault.PlanFault.TheVariants.{FileTooLong}
use Rattle.bb_base.specs.declared.files.FileFail.TheVariants.{TooLong}

abbrev rules : Bool → Bool → Rules
rules all_zero retry = record {
  reset_attempts = record { power_on = false; reset = false; all_zero = all_zero };
  reset_priorities = false;
  retry = retry;
  disable_on_zero_attempts = false;
}

abbrev target : List ℕ → ℕ → Target
target name priority = record { name = name; entry = codes "e"; default_attempts = 3; default_priority = priority }

abbrev bound : Bool → Bool → Binding
bound all_zero retry = record {
  targets =
      record { target = target (codes "system0") 20; attempts_at = 0; priority_at = 4 }
      ∷ record { target = target (codes "system1") 10; attempts_at = 8; priority_at = 12 } ∷ [];
  rules = rules all_zero retry;
  last_chosen_at = 16;
  area_len = 20;
}

-- attempts and priority of system0, then of system1, then the one that was chosen last
abbrev table : ℕ → ℕ → ℕ → ℕ → ℕ → List ℕ
table a p b q last = a ∷ 0 ∷ 0 ∷ 0 ∷ p ∷ 0 ∷ 0 ∷ 0 ∷ b ∷ 0 ∷ 0 ∷ 0 ∷ q ∷ 0 ∷ 0 ∷ 0 ∷ last ∷ 0 ∷ 0 ∷ 0 ∷ []

abbrev plan : ℕ → Plan
plan place = record { place = place; linux = codes "/zImage"; initrds = []; options = []; devicetree = [] }

abbrev both : List (Option Plan)
both = Some (plan 1) ∷ Some (plan 2) ∷ []

-- every save is made, and every start too
abbrev made : RoundAnswer
made = record { save = None; starts = true }

abbrev failed : RoundAnswer
failed = record { save = None; starts = false }

abbrev refused : RoundAnswer
refused = record { save = Some (WriteFault 1); starts = false }

-- ---- the first start of a fresh board, and one that fails

fresh : boot_end (bound false false) (rounds_by (bound false false) both (table 3 20 3 10 0) (made ∷ [])) ≡ Started 0 2 1
unfolding rounds_by
fresh = refl

fresh_table : table_after (table 3 20 3 10 0) (rounds_by (bound false false) both (table 3 20 3 10 0) (made ∷ [])) ≡ table 2 20 3 10 1
unfolding rounds_by
fresh_table = refl

fresh_fails : boot_end (bound false false) (rounds_by (bound false false) both (table 3 20 3 10 0) (failed ∷ [])) ≡ StartFailed 0 1
unfolding rounds_by
fresh_fails = refl

its_save_is_refused : boot_end (bound false false) (rounds_by (bound false false) both (table 3 20 3 10 0) (refused ∷ [])) ≡ Fault (WriteFault 1)
unfolding rounds_by
its_save_is_refused = refl

-- ---- the best target

the_other_has_attempts : boot_end (bound false false) (rounds_by (bound false false) both (table 0 10 3 10 0) (made ∷ [])) ≡ Started 1 2 1
unfolding rounds_by
the_other_has_attempts = refl

none_has_attempts : boot_end (bound false false) (rounds_by (bound false false) both (table 0 20 0 10 0) (made ∷ [])) ≡ NoTarget
unfolding rounds_by
none_has_attempts = refl

equal_priorities : best_of (bound false false) (table 3 10 3 10 0) ≡ Some 0
equal_priorities = refl

-- ---- a reset gives both their attempts back

reset_first : first_table (bound true false) Other true (table 0 20 0 10 0) ≡ table 3 20 3 10 0
reset_first = refl

reset_and_started : boot_end (bound true false) (rounds_by (bound true false) both (table 3 20 3 10 0) (made ∷ [])) ≡ Started 0 2 1
unfolding rounds_by
reset_and_started = refl

-- ---- where another target is tried, and none has a plan

abbrev six : List RoundAnswer
six = made ∷ made ∷ made ∷ made ∷ made ∷ made ∷ made ∷ []

abbrev no_plans : List (Option Plan)
no_plans = None ∷ None ∷ []

all_are_tried : boot_end (bound false true) (rounds_by (bound false true) no_plans (table 3 20 3 10 0) six) ≡ StartFailed 1 6
unfolding rounds_by
all_are_tried = refl

all_is_spent : table_after (table 3 20 3 10 0) (rounds_by (bound false true) no_plans (table 3 20 3 10 0) six) ≡ table 0 20 0 10 2
unfolding rounds_by
all_is_spent = refl

-- ---- the saves of a boot, and the stages that they reach

-- the first start, which is made
one_save : saves_of (Some (table 3 20 3 10 0)) (rounds_by (bound false false) both (table 3 20 3 10 0) (made ∷ [])) ≡ table 2 20 3 10 1 ∷ []
unfolding rounds_by
one_save = refl

one_made : made_of (Some (table 3 20 3 10 0)) (rounds_by (bound false false) both (table 3 20 3 10 0) (made ∷ [])) ≡ 1
unfolding rounds_by
one_made = refl

-- one that is refused
none_made : made_of (Some (table 3 20 3 10 0)) (rounds_by (bound false false) both (table 3 20 3 10 0) (refused ∷ [])) ≡ 0
unfolding rounds_by
none_made = refl

-- a start that fails, and another
two_saves : saves_of (Some (table 3 20 3 10 0)) (rounds_by (bound false true) both (table 3 20 3 10 0) (failed ∷ made ∷ []))
    ≡ table 2 20 3 10 1 ∷ table 1 20 3 10 1 ∷ []
unfolding rounds_by
two_saves = refl

-- a reset that gives back what the last boot spent, so that the spent table is stored already
no_save : saves_of (Some (table 2 20 3 10 1)) (rounds_by (bound false false) both (table 3 20 3 10 1) (made ∷ [])) ≡ []
unfolding rounds_by
no_save = refl

-- a save that answered Ok: as at entry, begun, acknowledged
stages_made : stages_reached ((1 ∷ []) ∷ []) 0 ((2 ∷ []) ∷ []) 1
    ≡ record { areas = (1 ∷ []) ∷ []; acked = 0 }
    ∷ record { areas = (1 ∷ []) ∷ (2 ∷ []) ∷ []; acked = 0 }
    ∷ record { areas = (1 ∷ []) ∷ (2 ∷ []) ∷ []; acked = 1 } ∷ []
stages_made = refl

-- after it one that was refused
stages_refused : stages_reached ((1 ∷ []) ∷ []) 0 ((2 ∷ []) ∷ (3 ∷ []) ∷ []) 1
    ≡ record { areas = (1 ∷ []) ∷ []; acked = 0 }
    ∷ record { areas = (1 ∷ []) ∷ (2 ∷ []) ∷ []; acked = 0 }
    ∷ record { areas = (1 ∷ []) ∷ (2 ∷ []) ∷ []; acked = 1 }
    ∷ record { areas = (1 ∷ []) ∷ (2 ∷ []) ∷ (3 ∷ []) ∷ []; acked = 1 } ∷ []
stages_refused = refl

-- without a save it is at entry alone
stages_none : stages_reached ((1 ∷ []) ∷ []) 0 [] 0 ≡ record { areas = (1 ∷ []) ∷ []; acked = 0 } ∷ []
stages_none = refl

-- ---- power-ons of a fresh board with two copies

-- a start, a boot that is cut in its save, a decay of the copy with the older table, and another
-- start, from the table of the save that was cut

abbrev b : Binding
b = bound false false

abbrev system0_has : ℕ → List ℕ
system0_has attempts = table attempts 20 3 10 1

abbrev at_first : Content
at_first = record { passed = None ∷ None ∷ []; areas = table 3 20 3 10 0 ∷ []; acked = 0; marks = None ∷ None ∷ [] }

abbrev once_started : Content
once_started = record {
  passed = Some (system0_has 2) ∷ Some (system0_has 2) ∷ [];
  areas = table 3 20 3 10 0 ∷ system0_has 2 ∷ [];
  acked = 1;
  marks = Some 1 ∷ Some 1 ∷ [];
}

abbrev with_cut : List (List ℕ)
with_cut = table 3 20 3 10 0 ∷ system0_has 2 ∷ system0_has 1 ∷ []

abbrev cut : Content
cut = record {
  passed = Some (system0_has 2) ∷ Some (system0_has 1) ∷ [];
  areas = with_cut;
  acked = 1;
  marks = Some 1 ∷ Some 2 ∷ [];
}

abbrev worn : Content
worn = record { passed = None ∷ Some (system0_has 1) ∷ []; areas = with_cut; acked = 1; marks = None ∷ Some 2 ∷ [] }

abbrev twice_started : Content
twice_started = record {
  passed = Some (system0_has 0) ∷ Some (system0_has 0) ∷ [];
  areas = table 3 20 3 10 0 ∷ system0_has 2 ∷ system0_has 1 ∷ system0_has 0 ∷ [];
  acked = 3;
  marks = Some 3 ∷ Some 3 ∷ [];
}

abbrev power_ons : List ChronicleEntry
power_ons =
    record { event = Finished (Loaded 0 (system0_has 2 ∷ []) 1 (Some 0)); content = once_started }
    ∷ record { event = CutOff (Loaded 1 (system0_has 1 ∷ []) 0 None); content = cut }
    ∷ record { event = Decayed; content = worn }
    ∷ record { event = Finished (Loaded 2 (system0_has 0 ∷ []) 1 (Some 0)); content = twice_started } ∷ []

first_boot : IsBootAfter b Other both (λ area. area) at_first 0 (system0_has 2 ∷ []) 1 (Some 0)
unfolding rounds_by
first_boot = record { table = table 3 20 3 10 0; table_is = refl; sized = refl; answers = made ∷ []; turn = refl }

-- a save that was cut is one that was refused
cut_boot : IsBootAfter b Other both (λ area. area) once_started 1 (system0_has 1 ∷ []) 0 None
unfolding rounds_by
cut_boot = record { table = system0_has 2; table_is = refl; sized = refl; answers = refused ∷ []; turn = refl }

last_boot : IsBootAfter b Other both (λ area. area) worn 2 (system0_has 0 ∷ []) 1 (Some 0)
unfolding rounds_by
last_boot = record { table = system0_has 1; table_is = refl; sized = refl; answers = made ∷ []; turn = refl }

boots : AreBoots b both (λ area. area) at_first power_ons
unfolding AreBoots
boots = (
  record { cause = Other; boots = first_boot; stays = λ place table at here. refl },
  (
    record { cause = Other; boots = cut_boot; stays = λ place table at here. refl },
    (
      record { cause = Other; boots = tt; stays = λ place table at here. refl },
      (record { cause = Other; boots = last_boot; stays = λ place table at here. refl }, tt),
    ),
  ),
)

-- ---- they are a chronicle

stands_at_first : IsStanding (table 3 20 3 10 0) at_first
stands_at_first = record { begins = refl; marked = (refl, (refl, tt)); some = inr refl }

stands_once : IsStanding (table 3 20 3 10 0) once_started
stands_once =
    let one : IsAt once_started.areas 1 (Some (system0_has 2)) 1 = record { acked = omega arith; inside = omega arith; area = refl } in
    record { begins = refl; marked = (one, (one, tt)); some = inl refl }

stands_cut : IsStanding (table 3 20 3 10 0) cut
stands_cut =
    let old : IsAt with_cut 1 (Some (system0_has 2)) 1 = record { acked = omega arith; inside = omega arith; area = refl } in
    let new : IsAt with_cut 1 (Some (system0_has 1)) 2 = record { acked = omega arith; inside = omega arith; area = refl } in
    record { begins = refl; marked = (old, (new, tt)); some = inl refl }

stands_twice : IsStanding (table 3 20 3 10 0) twice_started
stands_twice =
    let last : IsAt twice_started.areas 3 (Some (system0_has 0)) 3 = record { acked = omega arith; inside = omega arith; area = refl } in
    record { begins = refl; marked = (last, (last, tt)); some = inl refl }

starts_once : TurnMakes at_first (Loaded 0 (system0_has 2 ∷ []) 1 (Some 0)) once_started.areas 1
starts_once = record { given = refl; areas = refl; acked = refl; most = omega arith; least = omega arith; start = λ some. refl }

cuts : TurnMakes once_started (Loaded 1 (system0_has 1 ∷ []) 0 None) with_cut 1
cuts = record { given = refl; areas = refl; acked = refl; most = omega arith; least = omega arith; start = λ some. grind arith }

starts_again : TurnMakes worn (Loaded 2 (system0_has 0 ∷ []) 1 (Some 0)) twice_started.areas 3
starts_again = record { given = refl; areas = refl; acked = refl; most = omega arith; least = omega arith; start = λ some. refl }

decays : Decay cut.passed worn.passed
decays = record { each = (inr refl, (inl refl, tt)); spares = λ some. refl }

four_events : Chronicle (table 3 20 3 10 0) at_first power_ons
four_events = (
  record { step = starts_once; stands = stands_once },
  (
    record { step = cuts; stands = stands_cut },
    (
      record { decay = decays; areas = refl; acked = refl; marks = refl },
      (record { step = starts_again; stands = stands_twice }, tt),
    ),
  ),
)

-- ---- the starts, and the attempts that bound them

-- a target of priority 0 isn't enabled
three_starts_allowed : enabled_attempts b (table 3 0 3 10 0) ≡ 3
three_starts_allowed = refl

six_starts_allowed : enabled_attempts b (table 3 20 3 10 0) ≡ 6
six_starts_allowed = refl

two_starts : starts_of power_ons ≡ 2
two_starts = refl

first_table_given : first_loaded at_first power_ons ≡ Some (table 3 20 3 10 0)
unfolding first_loaded
first_table_given = refl

-- a reset that gives attempts back changes the table that the load gave
gives_back : StaysReset (bound true false) Other (λ area. area) (record at_first { areas = table 0 20 0 10 2 ∷ [] }) (Finished (Loaded 0 [] 0 None)) → ⊥
gives_back stays = let same = stays 0 (table 0 20 0 10 2) refl refl in cc

-- ---- plans

no_file : plan_by 0 None ≡ None
no_file = refl

too_long : plans_by (Ok None ∷ Err TooLong ∷ Ok None ∷ []) ≡ Err (FileTooLong 1)
too_long = refl
