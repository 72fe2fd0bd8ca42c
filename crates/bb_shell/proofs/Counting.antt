-- A board starts a system no oftener than the attempts of the first table that a load gave allow.
use Rattle.std.proofs.Common.{◌≡◌, ℕ, ◌+◌, ◌≤◌, Bool, true, false, List, [], ◌∷◌, ◌++◌, Option, Some, None, IsSome, ap, arith, cond, is_some, length, map, refl, option_map, slice_get, sym, subst, take, unwrap_or, ◌∙◌}
use Rattle.std.proofs.lemmas.Bool.{false_from_ne_true, false≢true}
use Rattle.std.proofs.lemmas.List.Sums.{sum_by-cons}
use Rattle.std.proofs.lemmas.Option.{none-some, slice_get_within}
use Rattle.std.proofs.lemmas.Slice.Eq.{bytes_eq-Decides}
use Rattle.std.specs.Option.{option_map_or}
use Rattle.std.specs.Str.{bytes_eq}
use Rattle.bb_chooser.specs.Binding.{Binding, IsBinding}
use Rattle.bb_chooser.specs.Choosing.{Qualifies}
use Rattle.bb_chooser.specs.Counting.{spend_of}
use Rattle.bb_chooser.specs.Resets.{reset_of}
use Rattle.bb_chooser.specs.declared.cause.Cause.{Cause}
use Rattle.bb_copies.proofs.Chronicle.{stands_after}
use Rattle.bb_copies.proofs.History.{picked_holds}
use Rattle.bb_copies.specs.Chronicle.{Chronicle, Content, CutOff, Decayed, ChronicleEntry, Event, Finished, Follows, IsAsBefore, IsAfterSaves, IsStanding, Loaded, Looked, TurnMakes, Turn, Unloaded, Untouched, loaded_in, place_of}
use Rattle.bb_flash.specs.declared.plan.Plan.{Plan}
use Rattle.bb_shell.proofs.Answering.{found_qualifies}
use Rattle.bb_shell.proofs.Attempts.{enabled_spent, spent_sized}
use Rattle.bb_shell.proofs.Falling.{Falls, falls_cons, falls_later, falls_longer, falls_one, falls_to, longer, longer_less, number_of}
use Rattle.bb_shell.proofs.Reached.{begun_saving}
use Rattle.bb_shell.specs.Boot.{Round, is_retried}
use Rattle.bb_shell.specs.Counting.{AreBoots, AttemptsLaw, IsBootAfter, IsBootEvent, IsBootTurn, NoLoadLaw, ReadsOwn, StaysReset, enabled_attempts, first_loaded, starts_in, starts_of, target_started, turn_starts}
use Rattle.bb_shell.specs.Rounds.{RoundAnswer, best_of, followed_by, round_by, rounds_by}
use Rattle.bb_shell.specs.Stages.{saves_of}

-- ---- the words of a turn

abbrev saves_in : Turn → List (List ℕ)
saves_in Untouched = []
saves_in Looked = []
saves_in Unloaded = []
saves_in (Loaded place saves ok started) = saves

abbrev started_in : Turn → Option ℕ
started_in Untouched = None
started_in Looked = None
started_in Unloaded = None
started_in (Loaded place saves ok started) = started

-- as a number
abbrev one_if : Bool → ℕ
one_if flag = cond flag 1 0

-- ---- what an area shows

-- an area stands there that shows this table
record ShownBy (shows : List ℕ → List ℕ) (found : Option (List ℕ)) (table : List ℕ) : Type 0 where
  pub area : List ℕ
  pub is : found ≡ Some area
  pub shown : shows area ≡ table

shown_by : (shows : List ℕ → List ℕ) (found : Option (List ℕ)) (table : List ℕ) → option_map shows found ≡ Some table → ShownBy shows found table
shown_by shows None table e = absurd (none-some table e)
shown_by shows (Some area) table e = record { area = area; is = refl; shown = ap (λ o. unwrap_or o table) e }

-- ---- the rounds of a boot

-- a round spends an attempt of a target that qualifies
record IsSpent (b : Binding) (table : List ℕ) (round : Round) : Type 0 where
  pub qualifies : Qualifies b table round.target
  pub spent : round.table ≡ spend_of b table round.target

abbrev AreSpent : Binding → List ℕ → List Round → Type 0
AreSpent b table [] = Unit {0}
AreSpent b table (round ∷ later) = IsSpent b table round × AreSpent b round.table later

module _ (b : Binding) (plans : List (Option Plan)) where
  round_spent : (table : List ℕ) (answer : RoundAnswer) (target : ℕ) → best_of b table ≡ Some target →
      IsSpent b table (round_by b plans table answer target)
  round_spent table answer target best = record { qualifies = found_qualifies b table target best; spent = refl }

  followed_spent : (table : List ℕ) (round : Round) (later : List Round) (again : Bool) → IsSpent b table round →
      AreSpent b round.table later → AreSpent b table (cond again (round ∷ later) (round ∷ []))
  followed_spent table round later true spent rest = (spent, rest)
  followed_spent table round later false spent rest = (spent, tt)

  -- the rounds from a target on
  abbrev follows : List ℕ → RoundAnswer → List RoundAnswer → ℕ → List Round
  follows table answer answers target =
      let round = round_by b plans table answer target in
      followed_by b round (rounds_by b plans round.table answers)

  rounds_spent : (table : List ℕ) (answers : List RoundAnswer) → AreSpent b table (rounds_by b plans table answers)
  unfolding rounds_by
  rounds_spent table [] = tt
  rounds_spent table (answer ∷ answers) = by (best_of b table) refl (λ other. rounds_spent other answers)
    where
      by : (best : Option ℕ) → best_of b table ≡ best → ((other : List ℕ) → AreSpent b other (rounds_by b plans other answers)) →
          AreSpent b table (option_map_or (follows table answer answers) best [])
      by None e rest = tt
      by (Some target) e rest =
          let round = round_by b plans table answer target in
          followed_spent table round (rounds_by b plans round.table answers) (is_retried b round.outcome)
          (round_spent table answer target e) (rest round.table)

module _ (b : Binding) (is : IsBinding b) where
  abbrev left : List ℕ → ℕ
  left = enabled_attempts b

  spent_less : (table : List ℕ) (round : Round) → length table ≡ b.area_len → IsSpent b table round → left round.table + 1 ≤ left table
  spent_less table round sized spent =
      subst (λ t. left t + 1 ≤ left table) (sym spent.spent) (enabled_spent b table round.target is sized spent.qualifies)

  next_sized : (table : List ℕ) (round : Round) → length table ≡ b.area_len → IsSpent b table round → length round.table ≡ b.area_len
  next_sized table round sized spent = ap length spent.spent ∙ spent_sized b table round.target is sized spent.qualifies

  -- so it is another table, and its save is begun
  next_other : (table : List ℕ) (round : Round) → length table ≡ b.area_len → IsSpent b table round → bytes_eq round.table table ≡ false
  next_other table round sized spent =
      false_from_ne_true (bytes_eq round.table table)
      (λ same.
      let less = spent_less table round sized spent in
      let kept = ap left ((bytes_eq-Decides round.table table).0 same) in
      omega (arith, less, kept))

  next_saved : (table : List ℕ) (round : Round) (later : List Round) → length table ≡ b.area_len → IsSpent b table round →
      saves_of (Some table) (round ∷ later) ≡ round.table ∷ saves_of (Some round.table) later
  next_saved table round later sized spent =
      ap (map (λ (r : Round). r.table)) (begun_saving (Some table) round later (next_other table round sized spent))

  start_saved : (table : List ℕ) (rounds : List Round) → length table ≡ b.area_len → AreSpent b table rounds →
      IsSome (target_started rounds) → 1 ≤ length (saves_of (Some table) rounds)
  start_saved table [] sized spent none = absurd (false≢true none)
  start_saved table (round ∷ later) sized spent some =
      let many = ap length (next_saved table round later sized spent.0) in
      omega (arith, many)

  -- ---- one power-on

  module _ (shows : List ℕ → List ℕ) (own : ReadsOwn b shows) (cause : Cause) (plans : List (Option Plan)) (before : Content) where
    -- how many attempts an area shows
    abbrev seen : List ℕ → ℕ
    seen area = left (shows area)

    saves_fall : (area table : List ℕ) (rounds : List Round) → shows area ≡ table → length table ≡ b.area_len → AreSpent b table rounds →
        Falls seen (area ∷ saves_of (Some table) rounds) 0
    saves_fall area table [] is sized spent = falls_one seen area
    saves_fall area table (round ∷ later) is sized spent =
        let next = next_sized table round sized spent.0 in
        let rest = saves_fall round.table round.table later (own round.table next) next spent.1 in
        let less = spent_less table round sized spent.0 in
        let here = ap left is in
        let there = ap left (own round.table next) in
        subst (λ saves. Falls seen (area ∷ saves) 0) (sym (next_saved table round later sized spent.0))
        (falls_cons seen area round.table (saves_of (Some round.table) later) (omega (arith, less, here, there)) rest)

    -- from the acknowledged place on the numbers fall, and the starts and what is left are no more
    -- than so many
    record Leaves (most starts : ℕ) (after : Content) : Type 0 where
      pub falls : Falls seen after.areas after.acked
      pub less : starts + number_of seen after.areas after.acked ≤ most

    module _ (place : ℕ) (saves : List (List ℕ)) (ok : ℕ) (started : Option ℕ) (boot : IsBootAfter b cause plans shows before place saves ok started)
        (stays : (table : List ℕ) → option_map shows (slice_get before.areas place) ≡ Some table → reset_of b cause table ≡ table) where
      abbrev rounds : List Round
      rounds = rounds_by b plans boot.table boot.answers

      -- the area that the load gave
      loaded_at : ShownBy shows (slice_get before.areas place) boot.table
      loaded_at = shown_by shows (slice_get before.areas place) boot.table boot.table_is

      same_rounds : rounds_by b plans (reset_of b cause boot.table) boot.answers ≡ rounds
      same_rounds = ap (λ t. rounds_by b plans t boot.answers) (stays boot.table boot.table_is)

      saves_are : saves ≡ saves_of (Some boot.table) rounds
      saves_are = ap saves_in boot.turn ∙ ap (saves_of (Some boot.table)) same_rounds

      started_is : started ≡ target_started rounds
      started_is = ap started_in boot.turn ∙ ap target_started same_rounds

      fall : Falls seen (loaded_at.area ∷ saves) 0
      fall =
          subst (λ s. Falls seen (loaded_at.area ∷ s) 0) (sym saves_are)
          (saves_fall loaded_at.area boot.table rounds loaded_at.shown boot.sized (rounds_spent b plans boot.table boot.answers))

      some_saved : IsSome started → 1 ≤ length saves
      some_saved some =
          subst (λ s. 1 ≤ length s) (sym saves_are)
          (start_saved boot.table rounds boot.sized (rounds_spent b plans boot.table boot.answers) (subst IsSome started_is some))

      -- a start is made after a save that answered Ok
      start_made : (some : Bool) → is_some started ≡ some → (IsSome started → ok ≡ length saves) → one_if some ≤ ok
      start_made true e all = let saved = some_saved e in let made = all e in omega (arith, saved, made)
      start_made false e all = omega arith

      boot_leaves : (after : Content) → IsAfterSaves before place saves ok started after.areas after.acked →
          Leaves (number_of seen before.areas place) (one_if (is_some started)) after
      boot_leaves after saved =
          let here = loaded_at.is in
          let less = longer_less seen before.areas saves place loaded_at.area here fall ok saved.most in
          let made = start_made (is_some started) refl saved.start in
          let given = ap (λ o. option_map_or seen o 0) here in
          let falls = falls_longer seen before.areas saves place loaded_at.area here fall in
          let later = falls_later seen (longer seen before.areas saves place loaded_at.area here) place (place + ok) (omega arith) falls in
          let same : number_of seen after.areas after.acked ≡ number_of seen (take (place + 1) before.areas ++ saves) (place + ok) =
          λ i. number_of seen (saved.areas i) (saved.acked i) in
          record {
            falls = subst (λ h. Falls seen h after.acked) (sym saved.areas) (subst (λ a. Falls seen (take (place + 1) before.areas ++ saves) a) (sym saved.acked) later);
            less = omega (arith, less, made, given, same);
          }

    -- ---- after a load

    abbrev now : ℕ
    now = number_of seen before.areas before.acked

    as_before : (after : Content) → IsAsBefore before after.areas after.acked → Falls seen before.areas before.acked → Leaves now 0 after
    as_before after same falls = record {
      falls = subst (λ h. Falls seen h after.acked) (sym same.areas) (subst (λ a. Falls seen before.areas a) (sym same.acked) falls);
      less =
          let kept_so : number_of seen after.areas after.acked ≡ now = λ i. number_of seen (same.areas i) (same.acked i) in
          omega (arith, kept_so);
    }

    module _ (first : List ℕ) (stands : IsStanding first before) (falls : Falls seen before.areas before.acked) where
      loaded_leaves : (place : ℕ) (saves : List (List ℕ)) (ok : ℕ) (started : Option ℕ) (after : Content) →
          IsAfterSaves before place saves ok started after.areas after.acked → IsBootAfter b cause plans shows before place saves ok started →
          ((table : List ℕ) → option_map shows (slice_get before.areas place) ≡ Some table → reset_of b cause table ≡ table) →
          Leaves now (one_if (is_some started)) after
      loaded_leaves place saves ok started after saved boot stays =
          let leaves = boot_leaves place saves ok started boot stays after saved in
          let low = picked_holds first before.passed before.areas before.acked before.marks stands in
          let behind : before.acked ≤ place = omega (arith, low, saved.given) in
          let at = shown_by shows (slice_get before.areas place) boot.table boot.table_is in
          let inside = slice_get_within before.areas place at.area at.is in
          let fewer = falls_to seen before.areas before.acked before.acked place falls (omega arith) behind inside in
          record { falls = leaves.falls; less = omega (arith, leaves.less, fewer) }

      turn_leaves : (turn : Turn) (after : Content) → TurnMakes before turn after.areas after.acked → IsBootTurn b cause plans shows before turn →
          StaysReset b cause shows before (Finished turn) → Leaves now (one_if (turn_starts turn)) after
      turn_leaves Untouched after step boot stays = as_before after step falls
      turn_leaves Looked after step boot stays = as_before after step falls
      turn_leaves Unloaded after step boot stays = as_before after step falls
      turn_leaves (Loaded place saves ok started) after step boot stays =
          loaded_leaves place saves ok started after step boot (λ table here. stays place table refl here)

      event_leaves : (event : Event) (after : Content) → Follows first before event after → IsBootEvent b cause plans shows before event →
          StaysReset b cause shows before event → Leaves now (one_if (starts_in event)) after
      event_leaves (Finished turn) after follows boot stays = turn_leaves turn after follows.step boot stays
      event_leaves (CutOff turn) after follows boot stays = turn_leaves turn after follows.step boot stays
      event_leaves Decayed after follows boot stays = as_before after (record { areas = follows.areas; acked = follows.acked }) falls

    -- ---- the first load, and what comes before it

    -- of `rest` starts after a power-on: what they are at most, once a load answered Ok and before
    module _ (after : Content) (rest : ℕ) (behind : Falls seen after.areas after.acked → rest ≤ number_of seen after.areas after.acked)
        (area : List ℕ) (later : Option (List ℕ)) (before_it : later ≡ Some area → rest ≤ seen area) where
      turn_bounded : (turn : Turn) → TurnMakes before turn after.areas after.acked → IsBootTurn b cause plans shows before turn →
          StaysReset b cause shows before (Finished turn) → option_map_or (slice_get before.areas) (place_of turn) later ≡ Some area →
          one_if (turn_starts turn) + rest ≤ seen area
      turn_bounded Untouched step boot stays given = omega (arith, before_it given)
      turn_bounded Looked step boot stays given = omega (arith, before_it given)
      turn_bounded Unloaded step boot stays given = omega (arith, before_it given)
      turn_bounded (Loaded place saves ok started) step boot stays given =
          let leaves = boot_leaves place saves ok started boot (λ loaded here. stays place loaded refl here) after step in
          let most = ap (λ o. option_map_or seen o 0) given in
          omega (arith, leaves.less, behind leaves.falls, most)

      event_bounded : (first : List ℕ) (event : Event) → Follows first before event after → IsBootEvent b cause plans shows before event →
          StaysReset b cause shows before event → option_map_or (slice_get before.areas) (loaded_in event) later ≡ Some area →
          one_if (starts_in event) + rest ≤ seen area
      event_bounded first (Finished turn) follows boot stays given = turn_bounded turn follows.step boot stays given
      event_bounded first (CutOff turn) follows boot stays given = turn_bounded turn follows.step boot stays given
      event_bounded first Decayed follows boot stays given = omega (arith, before_it given)

-- where no load answered Ok nothing was started
module _ (b : Binding) (cause : Cause) (plans : List (Option Plan)) (shows : List ℕ → List ℕ) (before : Content) (rest : ℕ) (later : Option (List ℕ))
    (quiet : later ≡ None → rest ≡ 0) where
  turn_quiet : (turn : Turn) → IsBootTurn b cause plans shows before turn → option_map_or (slice_get before.areas) (place_of turn) later ≡ None →
      one_if (turn_starts turn) + rest ≡ 0
  turn_quiet Untouched boot none = omega (arith, quiet none)
  turn_quiet Looked boot none = omega (arith, quiet none)
  turn_quiet Unloaded boot none = omega (arith, quiet none)
  turn_quiet (Loaded place saves ok started) boot none = absurd (none-some boot.table (sym (ap (option_map shows) none) ∙ boot.table_is))

  event_quiet : (event : Event) → IsBootEvent b cause plans shows before event → option_map_or (slice_get before.areas) (loaded_in event) later ≡ None →
      one_if (starts_in event) + rest ≡ 0
  event_quiet (Finished turn) boot none = turn_quiet turn boot none
  event_quiet (CutOff turn) boot none = turn_quiet turn boot none
  event_quiet Decayed boot none = omega (arith, quiet none)

-- ---- over a chronicle

starts_cons : (entry : ChronicleEntry) (later : List ChronicleEntry) → starts_of (entry ∷ later) ≡ one_if (starts_in entry.event) + starts_of later
starts_cons entry later = sum_by-cons (λ (e : ChronicleEntry). one_if (starts_in e.event)) entry later

module _ (b : Binding) (is : IsBinding b) (shows : List ℕ → List ℕ) (own : ReadsOwn b shows) (plans : List (Option Plan)) (first : List ℕ) where
  abbrev attempts_seen : List ℕ → ℕ
  attempts_seen area = enabled_attempts b (shows area)

  starts_left : (before : Content) (entries : List ChronicleEntry) → IsStanding first before → Chronicle first before entries →
      AreBoots b plans shows before entries → Falls attempts_seen before.areas before.acked →
      starts_of entries ≤ number_of attempts_seen before.areas before.acked
  unfolding AreBoots
  starts_left before [] stands chronicle boots falls = omega arith
  starts_left before (entry ∷ later) stands chronicle boots falls =
      let leaves = event_leaves b is shows own boots.0.cause plans before first stands falls entry.event entry.content chronicle.0 boots.0.boots boots.0.stays in
      let behind = stands_after first before stands entry.event entry.content chronicle.0 in
      let rest = starts_left entry.content later behind chronicle.1 boots.1 leaves.falls in
      omega (arith, starts_cons entry later, leaves.less, rest)

  starts_bounded : (area : List ℕ) (before : Content) (entries : List ChronicleEntry) → IsStanding first before → Chronicle first before entries →
      AreBoots b plans shows before entries → first_loaded before entries ≡ Some area → starts_of entries ≤ attempts_seen area
  unfolding AreBoots first_loaded
  starts_bounded area before [] stands chronicle boots given = absurd (none-some area given)
  starts_bounded area before (entry ∷ later) stands chronicle boots given =
      let behind = stands_after first before stands entry.event entry.content chronicle.0 in
      let bounded =
      event_bounded b is shows own boots.0.cause plans before entry.content (starts_of later)
      (λ falls. starts_left entry.content later behind chronicle.1 boots.1 falls) area (first_loaded entry.content later)
      (λ more. starts_bounded area entry.content later behind chronicle.1 boots.1 more) first entry.event chronicle.0 boots.0.boots boots.0.stays given in
      omega (arith, starts_cons entry later, bounded)

pub attempts_bound : AttemptsLaw
attempts_bound b plans shows first table before entries is own stands chronicle boots given =
    let at = shown_by shows (first_loaded before entries) table given in
    subst (λ (t : List ℕ). starts_of entries ≤ enabled_attempts b t) at.shown
    (starts_bounded b is shows own plans first at.area before entries stands chronicle boots at.is)

pub no_load_starts : NoLoadLaw
unfolding AreBoots first_loaded
no_load_starts b plans shows before [] boots none = refl
no_load_starts b plans shows before (entry ∷ later) boots none =
    starts_cons entry later
    ∙ event_quiet b boots.0.cause plans shows before (starts_of later) (first_loaded entry.content later)
    (no_load_starts b plans shows entry.content later boots.1) entry.event boots.0.boots none
