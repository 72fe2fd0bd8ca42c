-- Rounds of one command after those of another.
use Rattle.std.proofs.Common.{◌≡◌, true, false, List, [], ◌∷◌, ◌++◌, Option, Some, ap, sym, subst, ◌∙◌, ℕ}
use Rattle.std.proofs.lemmas.Bool.{false≢true}
use Rattle.std.specs.Option.{option_map_or}
use Rattle.std.specs.Prelude.{is_none}
use Rattle.bb_flash.specs.Device.{Device}
use Rattle.bb_state.specs.Keyed.{Keyed}
use Rattle.bb_shell.proofs.LastRounds.{kept_joined, last_joined}
use Rattle.bb_shell.proofs.Joined.{goes_unrefused, ran_joined, refused_joined}
use Rattle.bb_shell.specs.Boot.{Round}
use Rattle.bb_shell.specs.Rounds.{is_started}
use Rattle.bb_shell.specs.Sequence.{RanRounds, goes_on, refused_in, started_last}
use Rattle.bb_shell.specs.Stages.{kept_after}
use Rattle.bb_script_commands.specs.Held.{Held}
use Rattle.bb_script_commands.specs.Ran.{RanFor}

pub started_joined : (one two : List Round) → started_last two ≡ true → started_last (one ++ two) ≡ true
started_joined one [] h = absurd (false≢true h)
started_joined one (round ∷ two) h =
    ap (λ (last : Option Round). option_map_or (λ (r : Round). is_started r.outcome) last false) (last_joined one round two) ∙ h

pub for_joined : (one two three : Held) (from mid to : Device) (before after : List Round) → from.geometry ≡ one.backed.keyed.layout.geometry →
    goes_on before ≡ true → RanFor one two from mid before → RanFor two three mid to after → RanFor one three from to (before ++ after)
for_joined one two three from mid to before after geometry goes first second =
    let b = one.backed in
    let kept : Some two.backed.kept ≡ kept_after (Some b.kept) before = first.kept (goes_unrefused before goes) in
    let refused : refused_in (before ++ after) ≡ refused_in after = refused_joined before after goes in
    let later : RanRounds b.keyed one.by.plans (kept_after (Some b.kept) before) two.backed.used three.backed.used after mid to =
    subst (λ k. RanRounds b.keyed one.by.plans k two.backed.used three.backed.used after mid to) kept
    (subst (λ (k : Keyed). RanRounds k one.by.plans (Some two.backed.kept) two.backed.used three.backed.used after mid to) first.keyed
    (subst (λ by. RanRounds two.backed.keyed by.plans (Some two.backed.kept) two.backed.used three.backed.used after mid to) first.by second.ran)) in
    record {
      ran =
          ran_joined b.keyed one.by.plans before after (Some b.kept) b.used two.backed.used three.backed.used from mid to geometry goes
          first.ran later;
      kept = λ none.
          second.kept (sym refused ∙ none) ∙ ap (λ k. kept_after k after) kept ∙ sym (kept_joined (Some b.kept) before after);
      fault = second.fault ∙ sym refused;
      sure = second.sure ∙ ap (λ o. is_none o) (sym refused);
      keyed = second.keyed ∙ first.keyed;
      by = second.by ∙ first.by;
      ready = λ none. second.ready (sym refused ∙ none);
    }

-- a variable that is set changes nothing of that
pub ran_set : (before after : Held) (table : List ℕ) (from to : Device) (rounds : List Round) → RanFor before after from to rounds →
    RanFor before (record after { table = table }) from to rounds
ran_set before after table from to rounds run = record {
  ran = run.ran;
  kept = run.kept;
  fault = run.fault;
  sure = run.sure;
  keyed = run.keyed;
  by = run.by;
  ready = λ none.
      let can = run.ready none in
      record { sure = can.sure; geometry = can.geometry; agrees = can.agrees; whole = can.whole; bound = can.bound; unfailed = can.unfailed };
}
