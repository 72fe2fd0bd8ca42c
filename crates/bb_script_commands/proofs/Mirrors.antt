-- A script that is played by what its rounds were answered goes as the one whose commands answered.
use Rattle.std.proofs.Common.{◌≡◌, ℕ, ◌+◌, ◌-◌, ◌==◌, Bool, true, false, List, [], ◌∷◌, ◌++◌, drop, length, map, Option, Some, None, ap, append-nil, append_assoc, cond, inl, inr, nat_le, nat_lt, refl, sym, subst, ◌∙◌}
use Rattle.std.proofs.Math.Seq.{drop-append_seam}
use Rattle.std.proofs.lemmas.List.{length-map, map-append}
use Rattle.std.specs.List.{AllByRecursion}
use Rattle.std.specs.Option.{option_map}
use Rattle.bb_flash.specs.Device.{Device}
use Rattle.bb_state.specs.Keyed.{Keyed}
use Rattle.bb_script.specs.Fields.{expansion_of}
use Rattle.bb_script.specs.Tree.{ScriptTree, CommandTree, ChoiceTree, no_steps, step, call, set, choose, repeat, no_else, otherwise, branch}
use Rattle.bb_script.specs.Words.{Atom}
use Rattle.bb_script.specs.declared.script.When.{When}
use Rattle.bb_interpreter.specs.Assigned.{assigned_value}
use Rattle.bb_interpreter.specs.Echo.{echo_text}
use Rattle.bb_interpreter.specs.Means as means
use Rattle.bb_interpreter.specs.Means.{answered, built_in_of, does_built_in, does_expanded, does_fields, does_named, does_outside, is_due, loops_over, means_choice, means_command, means_steps, next_answer, put_by, puts, replied, rounds, sends, values_at, when_due}
use Rattle.bb_interpreter.specs.Outside.{set_status}
use Rattle.bb_interpreter.specs.Runs.{IsAct, act_answer}
use Rattle.bb_interpreter.specs.Standing.{Act, Answer, Course, GoesOn, Meaning, Standing, Stops, counts_one, either, followed, granted, granted_by, with_status}
use Rattle.bb_interpreter.specs.Test.{brackets_status, test_status}
use Rattle.bb_interpreter.specs.declared.built_in.BuiltIn.{BuiltIn}
use Rattle.bb_interpreter.specs.declared.built_in.BuiltIn.TheVariants as built_in
use Rattle.bb_interpreter.specs.declared.commands.Reply.{Reply}
use Rattle.bb_interpreter.specs.declared.commands.Reply.TheVariants as reply
use Rattle.bb_interpreter.specs.declared.stop.ScriptStop.{ScriptStop}
use Rattle.bb_interpreter.specs.declared.stop.ScriptStop.TheVariants as stop
use Rattle.bb_shell.specs.Boot.{Round}
use Rattle.bb_shell.specs.Rounds.{RoundAnswer, answer_of}
use Rattle.bb_script_commands.proofs.PlayedCalls.{called_is, called_starved}
use Rattle.bb_script_commands.specs.Calling.{Called, HasCalledOne}
use Rattle.bb_script_commands.specs.Held.{Held, Known, known_of}
use Rattle.bb_script_commands.specs.OutsideWords.{is_outside_name, outside_command}
use Rattle.bb_script_commands.specs.Playing.{Played, course_at, played_after, played_outside, plays, with_known_table}
use Rattle.bb_script_commands.specs.Scripts.{called_rounds, calls_on}
use Rattle.bb_script_commands.specs.StateNames.{state_outside, state_set}

-- ---- where a play stands

abbrev pub seen_as : {D : Type 0} → Standing Held D → List RoundAnswer → List Round → Standing Played (Unit {0})
seen_as at answers rounds = record {
  outside = record { known = known_of at.outside; answers = answers; rounds = rounds };
  device = tt;
  own = at.own;
  text = at.text;
  status = at.status;
  count = at.count;
  answers = [];
  grants = at.grants;
  acts = [];
}

abbrev pub seen_course : {D : Type 0} → Course Held D → List RoundAnswer → List Round → Course Played (Unit {0})
seen_course (GoesOn at) answers rounds = GoesOn (seen_as at answers rounds)
seen_course (Stops why at) answers rounds = Stops why (seen_as at answers rounds)

-- an answer more is there
abbrev pub IsMore : {X : Type 0} → List X → Type 0
IsMore [] = ⊥
IsMore (x ∷ xs) = Unit {0}

more_after : {X : Type 0} (xs ys : List X) → IsMore ys → IsMore (xs ++ ys)
more_after [] ys h = h
more_after (x ∷ xs) ys h = tt

-- where memory was refused none is left
abbrev pub LeftAlone : {D : Type 0} → ScriptStop → Standing Held D → Type 0
LeftAlone stop.NoMemory at = at.grants ≡ Some 0
LeftAlone stop.Started at = Unit {0}
LeftAlone stop.StepLimit at = Unit {0}
LeftAlone stop.Fault at = Unit {0}

abbrev pub Left : {D : Type 0} → Course Held D → Type 0
Left (GoesOn at) = Unit {0}
Left (Stops why at) = LeftAlone why at

-- A part of a script took this course, by the answers to these acts. Where an answer more was
-- there, and its acts are calls, its play by what their rounds were answered takes the same one.
pub record Mirrors {D : Type 0} (device : D → Device) (at : Standing Held D) (course : Course Held D) (play : Meaning Played (Unit {0})) : Type 0 where
  pub more : List (Act Held D)
  pub grows : (course_at course).acts ≡ at.acts ++ more
  pub takes : at.answers ≡ map act_answer more ++ (course_at course).answers
  pub plays :
      IsMore (course_at course).answers → Left course → (called : AllByRecursion (IsAct (calls_on device)) more)
      → (later : List RoundAnswer) (so_far : List Round)
      → play (seen_as at (map answer_of (called_rounds device more called) ++ later) so_far)
      ≡ seen_course course later (so_far ++ called_rounds device more called)

-- ---- acts after others

all_both : {X : Type 0} (P : X → Type 0) (one two : List X) → AllByRecursion P (one ++ two) → AllByRecursion P one × AllByRecursion P two
all_both P [] two all = (tt, all)
all_both P (x ∷ one) two all =
    let rest = all_both P one two all.1 in
    ((all.0, rest.0), rest.1)

rounds_both : {D : Type 0} (device : D → Device) (one two : List (Act Held D)) (all : AllByRecursion (IsAct (calls_on device)) (one ++ two))
    → called_rounds device (one ++ two) all
    ≡ called_rounds device one (all_both (IsAct (calls_on device)) one two all).0 ++ called_rounds device two (all_both (IsAct (calls_on device)) one two all).1
unfolding called_rounds all_both
rounds_both device [] two all = refl
rounds_both device (act ∷ one) two all =
    let both = all_both (IsAct (calls_on device)) one two all.1 in
    ap (λ rounds. all.0.called.rounds ++ rounds) (rounds_both device one two all.1)
    ∙ sym (append_assoc all.0.called.rounds (called_rounds device one both.0) (called_rounds device two both.1))

answers_both : (one two : List Round) (later : List RoundAnswer) → map answer_of (one ++ two) ++ later ≡ map answer_of one ++ (map answer_of two ++ later)
answers_both one two later =
    ap (λ l. l ++ later) (map-append answer_of one two) ∙ append_assoc (map answer_of one) (map answer_of two) later

module _ {D : Type 0} (device : D → Device) where
  -- nothing is called
  idle : (at : Standing Held D) (course : Course Held D) (play : Meaning Played (Unit {0})) → (course_at course).acts ≡ at.acts → (course_at course).answers ≡ at.answers
      → ((later : List RoundAnswer) (so_far : List Round) → play (seen_as at later so_far) ≡ seen_course course later so_far)
      → Mirrors device at course play
  unfolding called_rounds
  idle at course play acts answers same = record {
    more = [];
    grows = acts ∙ sym (append-nil at.acts);
    takes = sym answers;
    plays = λ more left called later so_far. same later so_far ∙ ap (seen_course course later) (sym (append-nil so_far));
  }

  -- the same play
  as_so : (at : Standing Held D) (course : Course Held D) (one two : Meaning Played (Unit {0})) → Mirrors device at course one
      → ((later : List RoundAnswer) (so_far : List Round) → two (seen_as at later so_far) ≡ one (seen_as at later so_far))
      → Mirrors device at course two
  as_so at course one two m same = record {
    more = m.more;
    grows = m.grows;
    takes = m.takes;
    plays = λ more left called later so_far.
        same (map answer_of (called_rounds device m.more called) ++ later) so_far ∙ m.plays more left called later so_far;
  }

  joined : (at mid : Standing Held D) (course : Course Held D) (play next : Meaning Played (Unit {0})) → Mirrors device at (GoesOn mid) play
      → Mirrors device mid course next → Mirrors device at course (λ a. followed (play a) next)
  joined at mid course play next first second = record {
    more = first.more ++ second.more;
    grows = second.grows ∙ ap (λ a. a ++ second.more) first.grows ∙ append_assoc at.acts first.more second.more;
    takes =
        first.takes ∙ ap (λ l. map act_answer first.more ++ l) second.takes
        ∙ sym (append_assoc (map act_answer first.more) (map act_answer second.more) (course_at course).answers)
        ∙ ap (λ l. l ++ (course_at course).answers) (sym (map-append act_answer first.more second.more));
    plays = λ more left called later so_far.
        let both = all_both (IsAct (calls_on device)) first.more second.more called in
        let one = called_rounds device first.more both.0 in
        let two = called_rounds device second.more both.1 in
        let split : called_rounds device (first.more ++ second.more) called ≡ one ++ two = rounds_both device first.more second.more called in
        let more_mid : IsMore mid.answers = subst IsMore (sym second.takes) (more_after (map act_answer second.more) (course_at course).answers more) in
        ap (λ r. followed (play (seen_as at (map answer_of r ++ later) so_far)) next) split
        ∙ ap (λ l. followed (play (seen_as at l so_far)) next) (answers_both one two later)
        ∙ ap (λ c. followed c next) (first.plays more_mid tt both.0 (map answer_of two ++ later) so_far)
        ∙ second.plays more left both.1 later (so_far ++ one)
        ∙ ap (seen_course course later) (append_assoc so_far one two ∙ ap (λ r. so_far ++ r) (sym split));
  }

  then : (at : Standing Held D) (course : Course Held D) (play next' : Meaning Played (Unit {0})) (next : Meaning Held D) → Mirrors device at course play
      → ((mid : Standing Held D) → Mirrors device mid (next mid) next') → Mirrors device at (followed course next) (λ a. followed (play a) next')
  then at (GoesOn mid) play next' next first second = joined at mid (next mid) play next' first (second mid)
  then at (Stops why mid) play next' next first second = record {
    more = first.more;
    grows = first.grows;
    takes = first.takes;
    plays = λ more left called later so_far. ap (λ c. followed c next') (first.plays more left called later so_far);
  }

  one_of : (b : Bool) (at : Standing Held D) (one two : Meaning Held D) (one' two' : Meaning Played (Unit {0})) → Mirrors device at (one at) one'
      → Mirrors device at (two at) two' → Mirrors device at (either b one two at) (λ a. either b one' two' a)
  one_of true at one two one' two' h k = h
  one_of false at one two one' two' h k = k

  if_so : (b : Bool) (at : Standing Held D) (one two : Course Held D) (one' two' : Meaning Played (Unit {0})) → Mirrors device at one one'
      → Mirrors device at two two' → Mirrors device at (cond b one two) (λ a. cond b (one' a) (two' a))
  if_so true at one two one' two' h k = h
  if_so false at one two one' two' h k = k

  stays : (at : Standing Held D) (status : ℕ) → Mirrors device at (with_status status at) (with_status status)
  stays at status = idle at (with_status status at) (with_status status) refl refl (λ later so_far. refl)

  goes : (at : Standing Held D) → Mirrors device at (GoesOn at) (λ a. GoesOn a)
  goes at = idle at (GoesOn at) (λ a. GoesOn a) refl refl (λ later so_far. refl)

  halts : (why : ScriptStop) (at : Standing Held D) → Mirrors device at (Stops why at) (λ a. Stops why a)
  halts why at = idle at (Stops why at) (λ a. Stops why a) refl refl (λ later so_far. refl)

  counted : (at : Standing Held D) → Mirrors device at (counts_one at) counts_one
  counted at =
      let one_more : Mirrors device at (GoesOn (record at { count = at.count + 1 })) (λ a. GoesOn (record a { count = a.count + 1 })) =
      idle at (GoesOn (record at { count = at.count + 1 })) (λ a. GoesOn (record a { count = a.count + 1 })) refl refl (λ later so_far. refl) in
      as_so at (counts_one at)
      (λ a. cond (nat_le 10000 at.count) (Stops stop.StepLimit a) (GoesOn (record a { count = a.count + 1 }))) counts_one
      (if_so (nat_le 10000 at.count) at (Stops stop.StepLimit at) (GoesOn (record at { count = at.count + 1 }))
      (λ a. Stops stop.StepLimit a) (λ a. GoesOn (record a { count = a.count + 1 })) (halts stop.StepLimit at) one_more)
      (λ later so_far. refl)

  granted_for : (grants : Option ℕ) (at : Standing Held D) → Mirrors device at (granted_by grants at) (granted_by grants)
  granted_for None at = goes at
  granted_for (Some n) at =
      let one_less : Mirrors device at (GoesOn (record at { grants = Some (n - 1) })) (λ a. GoesOn (record a { grants = Some (n - 1) })) =
      idle at (GoesOn (record at { grants = Some (n - 1) })) (λ a. GoesOn (record a { grants = Some (n - 1) })) refl refl (λ later so_far. refl) in
      if_so (nat_lt 0 n) at (GoesOn (record at { grants = Some (n - 1) })) (Stops stop.NoMemory at)
      (λ a. GoesOn (record a { grants = Some (n - 1) })) (λ a. Stops stop.NoMemory a) one_less (halts stop.NoMemory at)

  has_memory : (at : Standing Held D) → Mirrors device at (granted at) granted
  has_memory at = as_so at (granted at) (granted_by at.grants) granted (granted_for at.grants at) (λ later so_far. refl)

  -- ---- variables

  put_so : (name value : List ℕ) (at : Standing Held D) (set : Option (Option (List ℕ)))
      → Mirrors device at
      (GoesOn (put_by name value (option_map (λ s. option_map (λ (t : List ℕ). record at.outside { table = t }) s) set) at))
      (λ a. GoesOn (put_by name value (option_map (λ s. option_map (λ (t : List ℕ). record a.outside { known = with_known_table a.outside.known t }) s) set) a))
  put_so name value at None = idle at _ _ refl refl (λ later so_far. refl)
  put_so name value at (Some None) = idle at _ _ refl refl (λ later so_far. refl)
  put_so name value at (Some (Some t)) = idle at _ _ refl refl (λ later so_far. refl)

  puts_so : (name value : List ℕ) (at : Standing Held D) → Mirrors device at (puts state_outside name value at) (puts played_outside name value)
  puts_so name value at =
      then at (granted at) granted (λ a. GoesOn (put_by name value (played_outside.set_by a.outside name value) a))
      (λ at'. GoesOn (put_by name value (state_outside.set_by at'.outside name value) at')) (has_memory at)
      (λ at'. as_so at' (GoesOn (put_by name value (state_outside.set_by at'.outside name value) at'))
      (λ a. GoesOn (put_by name value
      (option_map (λ s. option_map (λ (t : List ℕ). record a.outside { known = with_known_table a.outside.known t }) s) (state_set (known_of at'.outside) name value)) a))
      (λ a. GoesOn (put_by name value (played_outside.set_by a.outside name value) a))
      (put_so name value at' (state_set (known_of at'.outside) name value)) (λ later so_far. refl))

  status_same : {A B : Type 0} (f : List ℕ → A) (g : List ℕ → B) (set : Option (Option (List ℕ)))
      → set_status (option_map (λ s. option_map f s) set) ≡ set_status (option_map (λ s. option_map g s) set)
  status_same f g None = refl
  status_same f g (Some None) = refl
  status_same f g (Some (Some t)) = refl

  assigned_so : (name : List ℕ) (value : Option (List ℕ)) (at : Standing Held D)
      → Mirrors device at (means.assigns_value state_outside name value at) (means.assigns_value played_outside name value)
  assigned_so name None at = stays at 1
  assigned_so name (Some value) at =
      let status = set_status (state_outside.set_by at.outside name value) in
      as_so at (followed (puts state_outside name value at) (with_status status))
      (λ a. followed (puts played_outside name value a) (with_status status)) (means.assigns_value played_outside name (Some value))
      (then at (puts state_outside name value at) (puts played_outside name value) (with_status status) (with_status status) (puts_so name value at)
      (λ at'. stays at' status))
      (λ later so_far.
      ap (λ n. followed (puts played_outside name value (seen_as at later so_far)) (with_status n))
      (status_same (λ (t : List ℕ). record (seen_as at later so_far).outside { known = with_known_table (known_of at.outside) t }) (λ (t : List ℕ). record at.outside { table = t })
      (state_set (known_of at.outside) name value)))

  assigns_so : (name : List ℕ) (rest : List Atom) (at : Standing Held D)
      → Mirrors device at (means.assigns state_outside name rest at) (means.assigns played_outside name rest)
  assigns_so name rest at =
      then at (granted at) granted (λ a. means.assigns_value played_outside name (assigned_value (values_at played_outside a) a.status name rest) a)
      (λ at'. means.assigns_value state_outside name (assigned_value (values_at state_outside at') at'.status name rest) at') (has_memory at)
      (λ at'. as_so at' (means.assigns_value state_outside name (assigned_value (values_at state_outside at') at'.status name rest) at')
      (means.assigns_value played_outside name (assigned_value (values_at state_outside at') at'.status name rest))
      (λ a. means.assigns_value played_outside name (assigned_value (values_at played_outside a) a.status name rest) a)
      (assigned_so name (assigned_value (values_at state_outside at') at'.status name rest) at') (λ later so_far. refl))

  -- ---- commands

  sends_so : (text : List ℕ) (at : Standing Held D) → Mirrors device at (sends text at) (sends text)
  sends_so text at =
      then at (granted at) granted (λ a. GoesOn (record a { text = a.text ++ text })) (λ at'. GoesOn (record at' { text = at'.text ++ text })) (has_memory at)
      (λ at'. idle at' (GoesOn (record at' { text = at'.text ++ text })) (λ a. GoesOn (record a { text = a.text ++ text })) refl refl (λ later so_far. refl))

  built_in_so : (kind : BuiltIn) (words : List (List ℕ)) (at : Standing Held D) → Mirrors device at (does_built_in kind words at) (does_built_in kind words)
  built_in_so built_in.Echo words at =
      then at (sends (echo_text words) at) (sends (echo_text words)) (with_status 0) (with_status 0) (sends_so (echo_text words) at) (λ at'. stays at' 0)
  built_in_so built_in.True words at = stays at 0
  built_in_so built_in.False words at = stays at 1
  built_in_so built_in.Test words at = stays at (test_status words)
  built_in_so built_in.Brackets words at = stays at (brackets_status words)

  replied_so : (answer : Reply) (at : Standing Held D) → Mirrors device at (replied answer at) (replied answer)
  replied_so (reply.Done status text) at =
      then at (sends text at) (sends text) (with_status status) (with_status status) (sends_so text at) (λ at'. stays at' status)
  replied_so (reply.Started text) at =
      then at (sends text at) (sends text) (λ a. Stops stop.Started a) (λ at'. Stops stop.Started at') (sends_so text at) (λ at'. halts stop.Started at')
  replied_so reply.Fault at = halts stop.Fault at
  replied_so reply.NoMemory at = halts stop.NoMemory at

  -- what a call knows of is what it left
  known_after : (before after : Held) (called : Called) → after.table ≡ called.table → after.so_far.booted ≡ called.booted
      → after.backed.keyed ≡ before.backed.keyed → after.by ≡ before.by
      → ◌≡◌ {A = Known} (record (known_of before) { table = called.table; booted = called.booted }) (known_of after)
  known_after before after called table booted keyed by_same =
      λ i. record {
        layout = (ap (λ (k : Keyed). k.layout) (sym keyed)) i;
        by = (sym by_same) i;
        table = (sym table) i;
        booted = (sym booted) i;
      }

  answers_left : (rounds : List Round) (later : List RoundAnswer) → drop (length rounds) (map answer_of rounds ++ later) ≡ later
  answers_left rounds later =
      ap (λ n. drop n (map answer_of rounds ++ later)) (sym (length-map rounds answer_of)) ∙ drop-append_seam (map answer_of rounds) later

  -- where a play stands after a call
  played_is : (at : Standing Held D) (a : Answer Held D) (words : List (List ℕ)) (left : List (Answer Held D)) (acts : List (Act Held D)) (later : List RoundAnswer) (so_far : List Round)
      → (has : HasCalledOne (outside_command words) at.outside (device at.device) a.reply a.outside (device a.device))
      → ◌≡◌ {A = Standing Played (Unit {0})}
      (record (seen_as at (map answer_of has.called.rounds ++ later) so_far) {
        outside = played_after (seen_as at (map answer_of has.called.rounds ++ later) so_far).outside has.called;
      })
      (seen_as (record at { outside = a.outside; device = a.device; answers = left; acts = acts }) later (so_far ++ has.called.rounds))
  played_is at a words left acts later so_far has =
      ap (λ (k : Known). record (seen_as at later so_far) { outside = record { known = k; answers = drop (length has.called.rounds) (map answer_of has.called.rounds ++ later); rounds = so_far ++ has.called.rounds } })
      (known_after at.outside a.outside has.called has.table has.booted has.ran.keyed has.ran.by)
      ∙ ap (λ l. record (seen_as at later so_far) { outside = record { known = known_of a.outside; answers = l; rounds = so_far ++ has.called.rounds } })
      (answers_left has.called.rounds later)

  -- a reply is the one that is wanted, or no memory was there for its text
  replied_alike : (answer : Reply) (called : Called) (mid : Standing Held D) (play : Standing Played (Unit {0})) (words : List (List ℕ)) (before after : Held) (from to : Device)
      → (has : HasCalledOne (outside_command words) before from answer after to) → Left (replied answer mid) → play.grants ≡ mid.grants
      → replied has.called.reply play ≡ replied answer play
  replied_alike answer called mid play words before after from to has left same =
      elim has.replies [
        | inl is ↦ ap (λ r. replied r play) (sym is)
        | inr refused ↦
            let none : mid.grants ≡ Some 0 = subst (λ r. Left (replied r mid)) refused.0 left in
            called_starved (outside_command words) (known_of before) has.called has.does refused.1 play (same ∙ none)
            ∙ ap (λ r. replied r play) (sym refused.0)
      ]

  -- a command was called, and answered
  one_called : (words : List (List ℕ)) (at : Standing Held D) (a : Answer Held D) (left : List (Answer Held D)) → at.answers ≡ a ∷ left
      → Mirrors device at (answered words (a ∷ left) at) (plays words)
  unfolding called_rounds
  one_called words at a left is =
      let act : Act Held D = record { words = words; before = at.outside; on = at.device; answer = a } in
      let mid : Standing Held D = record at { outside = a.outside; device = a.device; answers = left; acts = at.acts ++ act ∷ [] } in
      let m = replied_so a.reply mid in
      record {
        more = act ∷ m.more;
        grows = m.grows ∙ append_assoc at.acts (act ∷ []) m.more;
        takes = is ∙ ap (λ l. a ∷ l) m.takes;
        plays = λ more none called later so_far.
            let has = called.0 in
            let R = has.called.rounds in
            let rest = called_rounds device m.more called.1 in
            let here = map answer_of rest ++ later in
            let from = seen_as at (map answer_of R ++ here) so_far in
            let to = seen_as mid here (so_far ++ R) in
            ap (λ l. plays words (seen_as at l so_far)) (answers_both R rest later)
            ∙ ap (λ (c : Called). replied c.reply (record from { outside = played_after from.outside c })) (called_is (outside_command words) (known_of at.outside) has.called here has.does)
            ∙ ap (replied has.called.reply) (played_is at a words left (at.acts ++ act ∷ []) here so_far has)
            ∙ replied_alike a.reply has.called mid to words at.outside a.outside (device at.device) (device a.device) has none refl
            ∙ m.plays more none called.1 later (so_far ++ R)
            ∙ ap (seen_course (replied a.reply mid) later) (append_assoc so_far R rest);
      }

  answered_so : (words : List (List ℕ)) (answers : List (Answer Held D)) (at : Standing Held D) → at.answers ≡ answers
      → Mirrors device at (answered words answers at) (plays words)
  answered_so words [] at is = record {
    more = [];
    grows = sym (append-nil at.acts);
    takes = refl;
    plays = λ more left called later so_far. absurd (subst IsMore is more);
  }
  answered_so words (a ∷ left) at is = one_called words at a left is

  outside_so : (name : List ℕ) (fields : List (List ℕ)) (at : Standing Held D)
      → Mirrors device at (does_outside state_outside next_answer name fields at) (does_outside played_outside plays name fields)
  outside_so name fields at =
      one_of (is_outside_name name) at (next_answer fields) (with_status 127) (plays fields) (with_status 127) (answered_so fields at.answers at refl) (stays at 127)

  named_so : (built_in : Option BuiltIn) (name : List ℕ) (words : List (List ℕ)) (at : Standing Held D)
      → Mirrors device at (does_named state_outside next_answer built_in name words at) (does_named played_outside plays built_in name words)
  named_so None name words at = outside_so name (name ∷ words) at
  named_so (Some kind) name words at = built_in_so kind words at

  fields_so : (fields : List (List ℕ)) (at : Standing Held D)
      → Mirrors device at (does_fields state_outside next_answer fields at) (does_fields played_outside plays fields)
  fields_so [] at = stays at 0
  fields_so (name ∷ words) at = named_so (built_in_of name) name words at

  expanded_so : (fields : Option (List (List ℕ))) (at : Standing Held D)
      → Mirrors device at (does_expanded state_outside next_answer fields at) (does_expanded played_outside plays fields)
  expanded_so None at = stays at 1
  expanded_so (Some fields) at = fields_so fields at

  calls_so : (words : List (List Atom)) (at : Standing Held D)
      → Mirrors device at (means.calls state_outside next_answer words at) (means.calls played_outside plays words)
  calls_so words at =
      then at (granted at) granted (λ a. does_expanded played_outside plays (expansion_of (values_at played_outside a) a.status words) a)
      (λ at'. does_expanded state_outside next_answer (expansion_of (values_at state_outside at') at'.status words) at') (has_memory at)
      (λ at'. as_so at' (does_expanded state_outside next_answer (expansion_of (values_at state_outside at') at'.status words) at')
      (does_expanded played_outside plays (expansion_of (values_at state_outside at') at'.status words))
      (λ a. does_expanded played_outside plays (expansion_of (values_at played_outside a) a.status words) a)
      (expanded_so (expansion_of (values_at state_outside at') at'.status words) at') (λ later so_far. refl))

  -- ---- the flow

  rounds_so : (name : List ℕ) (body : Meaning Held D) (body' : Meaning Played (Unit {0})) → ((at : Standing Held D) → Mirrors device at (body at) body')
      → (fields : List (List ℕ)) (at : Standing Held D)
      → Mirrors device at (rounds state_outside name body fields at) (rounds played_outside name body' fields)
  rounds_so name body body' same [] at = goes at
  rounds_so name body body' same (field ∷ later) at =
      then at (counts_one at) counts_one (λ a. followed (puts played_outside name field a) (λ b. followed (body' b) (rounds played_outside name body' later)))
      (λ at1. followed (puts state_outside name field at1) (λ at2. followed (body at2) (rounds state_outside name body later))) (counted at)
      (λ at1. then at1 (puts state_outside name field at1) (puts played_outside name field) (λ b. followed (body' b) (rounds played_outside name body' later))
      (λ at2. followed (body at2) (rounds state_outside name body later)) (puts_so name field at1)
      (λ at2. then at2 (body at2) body' (rounds played_outside name body' later) (rounds state_outside name body later) (same at2)
      (λ at3. rounds_so name body body' same later at3)))

  looped_so : (name : List ℕ) (body : Meaning Held D) (body' : Meaning Played (Unit {0})) → ((at : Standing Held D) → Mirrors device at (body at) body')
      → (fields : Option (List (List ℕ))) (at : Standing Held D)
      → Mirrors device at (loops_over state_outside name body fields at) (loops_over played_outside name body' fields)
  looped_so name body body' same None at = stays at 1
  looped_so name body body' same (Some []) at = stays at 0
  looped_so name body body' same (Some (field ∷ later)) at = rounds_so name body body' same (field ∷ later) at

  loops_so : (name : List ℕ) (words : List (List Atom)) (body : Meaning Held D) (body' : Meaning Played (Unit {0})) → ((at : Standing Held D) → Mirrors device at (body at) body')
      → (at : Standing Held D) → Mirrors device at (means.loops state_outside name words body at) (means.loops played_outside name words body')
  loops_so name words body body' same at =
      then at (granted at) granted (λ a. loops_over played_outside name body' (expansion_of (values_at played_outside a) a.status words) a)
      (λ at'. loops_over state_outside name body (expansion_of (values_at state_outside at') at'.status words) at') (has_memory at)
      (λ at'. as_so at' (loops_over state_outside name body (expansion_of (values_at state_outside at') at'.status words) at')
      (loops_over played_outside name body' (expansion_of (values_at state_outside at') at'.status words))
      (λ a. loops_over played_outside name body' (expansion_of (values_at played_outside a) a.status words) a)
      (looped_so name body body' same (expansion_of (values_at state_outside at') at'.status words) at') (λ later so_far. refl))

  due_so : (due : When) (command : Meaning Held D) (command' : Meaning Played (Unit {0})) (at : Standing Held D) → Mirrors device at (command at) command'
      → Mirrors device at (when_due due command at) (when_due due command')
  due_so due command command' at same =
      as_so at (when_due due command at) (λ a. either (is_due due at.status) command' (λ b. GoesOn b) a) (when_due due command')
      (one_of (is_due due at.status) at command (λ b. GoesOn b) command' (λ b. GoesOn b) same (goes at)) (λ later so_far. refl)

  success_so : (one two : Meaning Held D) (one' two' : Meaning Played (Unit {0})) (at : Standing Held D) → Mirrors device at (one at) one' → Mirrors device at (two at) two'
      → Mirrors device at (means.by_success one two at) (means.by_success one' two')
  success_so one two one' two' at h k =
      as_so at (means.by_success one two at) (λ a. either (at.status == 0) one' two' a) (means.by_success one' two')
      (one_of (at.status == 0) at one two one' two' h k) (λ later so_far. refl)

  mutual
    pub steps_so : (script : ScriptTree) (at : Standing Held D)
        → Mirrors device at (means_steps state_outside next_answer script at) (means_steps played_outside plays script)
    steps_so no_steps at = goes at
    steps_so (step due command later) at =
        then at (when_due due (means_command state_outside next_answer command) at) (when_due due (means_command played_outside plays command))
        (means_steps played_outside plays later) (means_steps state_outside next_answer later)
        (due_so due (means_command state_outside next_answer command) (means_command played_outside plays command) at (command_so command at))
        (λ at'. steps_so later at')

    command_so : (command : CommandTree) (at : Standing Held D)
        → Mirrors device at (means_command state_outside next_answer command at) (means_command played_outside plays command)
    command_so (call words) at =
        then at (counts_one at) counts_one (means.calls played_outside plays words) (means.calls state_outside next_answer words) (counted at)
        (λ at'. calls_so words at')
    command_so (set name rest) at =
        then at (counts_one at) counts_one (means.assigns played_outside name rest) (means.assigns state_outside name rest) (counted at)
        (λ at'. assigns_so name rest at')
    command_so (choose choice) at = choice_so choice at
    command_so (repeat name words body) at =
        loops_so name words (means_steps state_outside next_answer body) (means_steps played_outside plays body) (λ at'. steps_so body at') at

    choice_so : (choice : ChoiceTree) (at : Standing Held D)
        → Mirrors device at (means_choice state_outside next_answer choice at) (means_choice played_outside plays choice)
    choice_so no_else at = stays at 0
    choice_so (otherwise steps) at = steps_so steps at
    choice_so (branch test body later) at =
        then at (means_steps state_outside next_answer test at) (means_steps played_outside plays test)
        (means.by_success (means_steps played_outside plays body) (means_choice played_outside plays later))
        (means.by_success (means_steps state_outside next_answer body) (means_choice state_outside next_answer later)) (steps_so test at)
        (λ at'. success_so (means_steps state_outside next_answer body) (means_choice state_outside next_answer later)
        (means_steps played_outside plays body) (means_choice played_outside plays later) at' (steps_so body at') (choice_so later at'))
