-- A drill so far, and after one session more.
use Rattle.std.proofs.Common.{◌≡◌, ℕ, ◌+◌, ◌≤◌, ◌<◌, Bool, true, false, not, List, [], ◌∷◌, length, is_some, Option, Some, None, ap, refl, sym, subst, ◌∙◌, cond, drop, get_or, suc, ◌||◌, min, ◌^◌, ◌-◌, arith, rules}
use Rattle.std.specs.List.{count_by, sum}
use Rattle.std.proofs.lemmas.List.Sums.{sum_by-cons}
use Rattle.std.proofs.Math.Seq.{drop-cons}
use Rattle.std.proofs.lemmas.Slice.Eq.{bytes_eq-Decides}
use Rattle.bb_flash.specs.Memory.{Memory}
use Rattle.bb_drill.specs.declared.counts.DrillCounts.{DrillCounts}
use Rattle.bb_drill.specs.declared.drawn.DrawnSession.{DrawnSession}
use Rattle.bb_drill.specs.declared.met.Met.{Met}
use Rattle.bb_drill.specs.declared.tally.Tally.{Tally}
use Rattle.bb_drill.specs.Board.{BoardState, board_geometry, fresh_state, board_state_of}
use Rattle.bb_drill.specs.Draws.{may_start}
use Rattle.bb_drill.specs.Drill.{CountsDraws, RanInOrder, commands_of}
use Rattle.bb_drill.specs.Running.{IsCalm, IsMet, Runs, RunsSoFar, RunsSoundSoFar, one_where, with_met}
use Rattle.bb_drill.specs.Tables.{TableRules, has_table, table_given}

-- the first of a list is counted where it passes
counted_first : (p : DrawnSession → Bool) (x : DrawnSession) (xs : List DrawnSession) → count_by p (x ∷ xs) ≡ one_where (p x) + count_by p xs
counted_first p x xs = sum_by-cons (λ y. cond (p y) 1 0) x xs

at_most : (b c : Bool) → (b ≡ true → c ≡ true) → one_where b ≤ one_where c
at_most false false h = omega arith
at_most false true h = omega arith
at_most true true h = omega arith
at_most true false h = absurd (search (rules, h refl))

at_most_one : (b : Bool) → one_where b ≤ 1
at_most_one false = omega arith
at_most_one true = omega arith

none_where : (b : Bool) → one_where b ≡ 0 → b ≡ false
none_where false h = refl
none_where true h = absurd (omega (arith, h))

is_none_of : {X : Type 0} → (o : Option X) → is_some o ≡ false → o ≡ None
is_none_of None h = refl
is_none_of (Some x) h = absurd (search (rules, h))

-- one table alone is among those that are allowed
has_itself : (table : List ℕ) → has_table table (table ∷ []) ≡ true
has_itself table = ap (λ b. b || false) ((bytes_eq-Decides table table).1 refl)

not_wrong : (b : Bool) (table : List ℕ) (tables : List (List ℕ)) → tables ≡ table ∷ [] → b ≡ not (has_table table tables) → one_where b ≡ 0
not_wrong b table tables is e = ap one_where (e ∙ ap (λ (more : List (List ℕ)). not (has_table table more)) is ∙ ap not (has_itself table))

-- before the first session
pub runs_begin : (rules : TableRules) (runs : Runs) (all : List DrawnSession) (now : Memory) (tally : Tally) (tables : List (List ℕ)) → tally ≡ record { cuts = 0; decays = 0; wrong = 0 } → now.geometry ≡ board_geometry → board_state_of now ≡ fresh_state → IsCalm now → tables ≡ table_given rules now.told.image ∷ [] → RunsSoFar rules runs all all 0 now tally tables
runs_begin rules runs all now tally tables none geometry fresh calm allowed =
    let no_cuts : tally.cuts ≡ 0 = ap (λ (t : Tally). t.cuts) none in
    let no_decays : tally.decays ≡ 0 = ap (λ (t : Tally). t.decays) none in
    let no_wrong : tally.wrong ≡ 0 = ap (λ (t : Tally). t.wrong) none in
    let starts : length now.told.starts ≡ 0 = ap (λ (s : BoardState). length s.starts) fresh in
    record {
      geometry = geometry;
      cuts = omega (arith, no_cuts);
      decays = omega (arith, no_decays);
      starts = omega (arith, starts);
      most_cuts = omega (arith, no_cuts);
      most_decays = omega (arith, no_decays);
      most_wrong = omega (arith, no_wrong);
      sound = λ cuts decays. record {
        cuts = cuts;
        decays = decays;
        wrong = no_wrong;
        calm = calm;
        allowed = allowed;
        ran = λ last ran. subst (λ (first : BoardState). RanInOrder runs (commands_of all) first last) fresh ran;
      };
    }

runs_on_sound : (rules : TableRules) (runs : Runs) (all : List DrawnSession) (drawn : DrawnSession) (rest : List DrawnSession) (now after : Memory) (wrongs : ℕ) (tables tables' : List (List ℕ)) (met : Met) → RunsSoundSoFar rules runs all (drawn ∷ rest) now wrongs tables → IsMet rules runs drawn now after tables tables' met → RunsSoundSoFar rules runs all rest after (wrongs + one_where met.wrong) tables'
runs_on_sound rules runs all drawn rest now after wrongs tables tables' met so is =
    let cuts = counted_first (λ drawn. is_some drawn.cut) drawn rest in
    let decays = counted_first (λ drawn. is_some drawn.decay) drawn rest in
    let no_cut : one_where (is_some drawn.cut) ≡ 0 = omega (arith, cuts, so.cuts) in
    let no_decay : one_where (is_some drawn.decay) ≡ 0 = omega (arith, decays, so.decays) in
    let sound = is.sound (is_none_of drawn.cut (none_where _ no_cut)) (is_none_of drawn.decay (none_where _ no_decay)) so.calm in
    let right = not_wrong met.wrong (table_given rules now.told.image) tables so.allowed is.wrong in
    record {
      cuts = omega (arith, cuts, so.cuts);
      decays = omega (arith, decays, so.decays);
      wrong = omega (arith, right, so.wrong);
      calm = sound.calm;
      allowed = sound.allowed;
      ran = λ last ran. so.ran last (board_state_of after, sound.ran, ran);
    }

-- after one session more
pub runs_on : (rules : TableRules) (runs : Runs) (all : List DrawnSession) (drawn : DrawnSession) (rest : List DrawnSession) (done : ℕ) (now after : Memory) (tally : Tally) (tables tables' : List (List ℕ)) (met : Met) → RunsSoFar rules runs all (drawn ∷ rest) done now tally tables → IsMet rules runs drawn now after tables tables' met → RunsSoFar rules runs all rest (done + 1) after (with_met met tally) tables'
runs_on rules runs all drawn rest done now after tally tables tables' met so is =
    let cuts = counted_first (λ drawn. is_some drawn.cut) drawn rest in
    let decays = counted_first (λ drawn. is_some drawn.decay) drawn rest in
    let boots = counted_first (λ drawn. may_start drawn.command) drawn rest in
    let cut = at_most met.cut (is_some drawn.cut) is.cut in
    let decay = at_most met.decay (is_some drawn.decay) is.decay in
    let wrong = at_most_one met.wrong in
    let one_cut = at_most_one met.cut in
    let one_decay = at_most_one met.decay in
    record {
      geometry = is.on.geometry ∙ so.geometry;
      cuts = omega (arith, cuts, cut, so.cuts);
      decays = omega (arith, decays, decay, so.decays);
      starts = omega (arith, boots, is.on.starts, so.starts);
      most_cuts = omega (arith, one_cut, so.most_cuts);
      most_decays = omega (arith, one_decay, so.most_decays);
      most_wrong = omega (arith, wrong, so.most_wrong);
      sound = λ no_cuts no_decays. runs_on_sound rules runs all drawn rest now after tally.wrong tables tables' met (so.sound no_cuts no_decays) is;
    }

pub runs_step : (rules : TableRules) (runs : Runs) (all : List DrawnSession) (i : ℕ) (d : DrawnSession) (now after : Memory) (tally tally' : Tally) (tables tables' : List (List ℕ)) (met : Met) → i < length all → RunsSoFar rules runs all (drop i all) i now tally tables → IsMet rules runs (get_or all i d) now after tables tables' met → tally' ≡ with_met met tally → RunsSoFar rules runs all (drop (i + 1) all) (i + 1) after tally' tables'
runs_step rules runs all i d now after tally tally' tables tables' met h so is tally_is =
    let next : suc i ≡ i + 1 = omega arith in
    let here = subst (λ (rest : List DrawnSession). RunsSoFar rules runs all rest i now tally tables) (drop-cons all i d h) so in
    let on = runs_on rules runs all (get_or all i d) (drop (suc i) all) i now after tally tables tables' met here is in
    subst (λ (t : Tally). RunsSoFar rules runs all (drop (i + 1) all) (i + 1) after t tables') (sym tally_is)
    (subst (λ (k : ℕ). RunsSoFar rules runs all (drop k all) (i + 1) after (with_met met tally) tables') next on)

-- after the last session
pub runs_end : (rules : TableRules) (runs : Runs) (all : List DrawnSession) (done : ℕ) (now : Memory) (tally : Tally) (tables : List (List ℕ)) (counts : DrillCounts) → RunsSoFar rules runs all [] done now tally tables → counts.sessions ≡ length all → counts.cuts ≡ tally.cuts → counts.decays ≡ tally.decays → counts.wrong ≡ tally.wrong → counts.erases ≡ min (sum now.told.erases) (2 ^ 64 - 1) → counts.starts ≡ length now.told.starts → CountsDraws runs all counts
runs_end rules runs all done now tally tables counts so sessions cuts decays wrong erases starts = record {
  sessions = sessions;
  cuts = omega (arith, cuts, so.cuts);
  decays = omega (arith, decays, so.decays);
  starts = omega (arith, starts, so.starts);
  undisturbed = λ no_cuts no_decays.
      let sound = so.sound no_cuts no_decays in
      record {
        last = board_state_of now;
        ran = sound.ran (board_state_of now) refl;
        erases = erases;
        starts = starts;
        cuts = omega (arith, cuts, so.cuts, no_cuts);
        decays = omega (arith, decays, so.decays, no_decays);
        wrong = wrong ∙ sound.wrong;
      };
}
