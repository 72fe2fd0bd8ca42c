-- What holds of the play of every part of a script: it adds rounds to those that there are. Where
-- nothing failed in its rounds, answers without a fault play the same, and where a start alone
-- failed, they end in a start. Where it is refused memory, its rounds come first of those of the
-- same play with memory.
use Rattle.std.proofs.Common.{◌≡◌, ◌⊎◌, ℕ, ◌+◌, ◌-◌, ◌==◌, Bool, true, false, List, [], ◌∷◌, ◌++◌, length, Option, Some, None, ap, append-nil, append_assoc, cond, inl, inr, nat_le, nat_lt, refl, sym, subst, ◌∙◌}
use Rattle.std.proofs.lemmas.List.{drop-map}
use Rattle.std.specs.Option.{option_map}
use Rattle.bb_script.specs.Fields.{expansion_of}
use Rattle.bb_script.specs.Tree.{ScriptTree, CommandTree, ChoiceTree, no_steps, step, call, set, choose, repeat, no_else, otherwise, branch}
use Rattle.bb_script.specs.Words.{Atom}
use Rattle.bb_script.specs.declared.script.When.{When}
use Rattle.bb_interpreter.specs.Assigned.{assigned_value}
use Rattle.bb_interpreter.specs.Echo.{echo_text}
use Rattle.bb_interpreter.specs.Means as means
use Rattle.bb_interpreter.specs.Means.{built_in_of, does_built_in, does_expanded, does_fields, does_named, does_outside, is_due, loops_over, means_choice, means_command, means_steps, put_by, puts, replied, rounds, sends, values_at, when_due}
use Rattle.bb_interpreter.specs.Outside.{set_status}
use Rattle.bb_interpreter.specs.Standing.{Course, GoesOn, Meaning, Standing, Stops, counts_one, either, followed, granted, granted_by, with_status}
use Rattle.bb_interpreter.specs.Test.{brackets_status, test_status}
use Rattle.bb_interpreter.specs.Variables.{own_set}
use Rattle.bb_interpreter.specs.declared.built_in.BuiltIn.{BuiltIn}
use Rattle.bb_interpreter.specs.declared.built_in.BuiltIn.TheVariants as built_in
use Rattle.bb_interpreter.specs.declared.commands.Reply.{Reply}
use Rattle.bb_interpreter.specs.declared.commands.Reply.TheVariants as reply
use Rattle.bb_interpreter.specs.declared.stop.ScriptStop.{ScriptStop}
use Rattle.bb_interpreter.specs.declared.stop.ScriptStop.TheVariants as stop
use Rattle.bb_shell.proofs.Made.{AllSaved}
use Rattle.bb_shell.proofs.Sound.{NoneFailed}
use Rattle.bb_shell.specs.Boot.{Round}
use Rattle.bb_shell.specs.Rounds.{RoundAnswer, sound_answer}
use Rattle.bb_shell.specs.Sequence.{started_last}
use Rattle.bb_script_commands.proofs.FewRounds.{saved_both}
use Rattle.bb_script_commands.proofs.Joining.{started_joined}
use Rattle.bb_script_commands.proofs.SoundCalls.{IsStartingCall, IsUnfailing, called_calm, called_sound, failed_joined, soundly, unfailing_both}
use Rattle.bb_script_commands.specs.Calling.{Called}
use Rattle.bb_script_commands.specs.OutsideWords.{is_outside_name, outside_command}
use Rattle.bb_script_commands.specs.Playing.{Played, called_by, course_at, played_after, played_outside, plays, with_known_table}
use Rattle.bb_script_commands.specs.StateNames.{state_set}

-- where a play stands, how it goes on, and a part of it
abbrev pub Place : Type 0
Place = Standing Played (Unit {0})

abbrev pub Way : Type 0
Way = Course Played (Unit {0})

abbrev pub Play : Type 0
Play = Meaning Played (Unit {0})

abbrev pub way_rounds : Way → List Round
way_rounds way = (course_at way).outside.rounds

-- memory is never refused
abbrev pub freed : Place → Place
freed at = record at { grants = None }

-- no save is refused, and no start fails
abbrev pub sounded : Place → Place
sounded at = record at { outside = record at.outside { answers = soundly at.outside.answers } }

abbrev pub along : (Place → Place) → Way → Way
along f (GoesOn at) = GoesOn (f at)
along f (Stops why at) = Stops why (f at)

-- ---- what holds of a part

-- rounds came after these
pub record Adds (before : List Round) (way : Way) : Type 0 where
  pub more : List Round
  pub is : way_rounds way ≡ before ++ more

-- it ended with a start
pub record IsStartedWay (way : Way) : Type 0 where
  pub why : ScriptStop
  pub at : Place
  pub is : way ≡ Stops why at
  pub started : started_last at.outside.rounds ≡ true

abbrev pub IsCalm : Way → Way → Type 0
IsCalm one two = NoneFailed (way_rounds one) ⊎ IsStartedWay two

-- one was refused memory, where two ran the same rounds and perhaps more
pub record IsStarved (one two : Way) : Type 0 where
  pub at : Place
  pub is : one ≡ Stops stop.NoMemory at
  pub rest : Adds at.outside.rounds two

abbrev pub IsFront : Way → Way → Type 0
IsFront one two = (two ≡ along freed one) ⊎ IsStarved one two

pub record IsPart (play : Play) : Type 0 where
  pub grows : (at : Place) → Adds at.outside.rounds (play at)
  pub sound : (at : Place) → IsUnfailing (way_rounds (play at)) → play (sounded at) ≡ along sounded (play at)
  pub calm :
      (at : Place) → AllSaved (way_rounds (play at)) → NoneFailed at.outside.rounds
      → IsCalm (play at) (play (sounded at))
  pub front : (at : Place) → IsFront (play at) (play (freed at))

-- ---- one part after another

added_then : (way : Way) (next : Play) (before : List Round) → ((at : Place) → Adds at.outside.rounds (next at)) → Adds before way → Adds before (followed way next)
added_then (GoesOn mid) next before grows first =
    let second = grows mid in
    record {
      more = first.more ++ second.more;
      is = second.is ∙ ap (λ l. l ++ second.more) first.is ∙ append_assoc before first.more second.more;
    }
added_then (Stops why at) next before grows first = first

unfailing_before : (before : List Round) (way : Way) → Adds before way → IsUnfailing (way_rounds way) → IsUnfailing before
unfailing_before before way added good = (unfailing_both before added.more (subst IsUnfailing added.is good)).0

sound_then : (way other : Way) (next : Play) → IsPart next → (IsUnfailing (way_rounds way) → other ≡ along sounded way) → IsUnfailing (way_rounds (followed way next))
    → followed other next ≡ along sounded (followed way next)
sound_then (GoesOn mid) other next part first good =
    ap (λ (w : Way). followed w next) (first (unfailing_before mid.outside.rounds (next mid) (part.grows mid) good)) ∙ part.sound mid good
sound_then (Stops why at) other next part first good = ap (λ (w : Way). followed w next) (first good)

started_then : (way : Way) (next : Play) → IsStartedWay way → IsStartedWay (followed way next)
started_then way next started =
    record { why = started.why; at = started.at; is = ap (λ (w : Way). followed w next) started.is; started = started.started }

calm_then : (way other : Way) (next : Play) → IsPart next → (AllSaved (way_rounds way) → IsCalm way other) → (IsUnfailing (way_rounds way) → other ≡ along sounded way)
    → AllSaved (way_rounds (followed way next)) → IsCalm (followed way next) (followed other next)
calm_then (GoesOn mid) other next part calm sound saved =
    let added = part.grows mid in
    let before = (saved_both mid.outside.rounds added.more (subst AllSaved added.is saved)).0 in
    elim (calm before) [
      | inl none ↦ subst (λ (w : Way). IsCalm (next mid) (followed w next)) (sym (sound (before, none))) (part.calm mid saved none)
      | inr started ↦ inr (started_then other next started)
    ]
calm_then (Stops why at) other next part calm sound saved =
    elim (calm saved) [
      | inl none ↦ inl none
      | inr started ↦ inr (started_then other next started)
    ]

same_then : (way other : Way) (next : Play) → IsPart next → other ≡ along freed way → IsFront (followed way next) (followed other next)
same_then (GoesOn mid) other next part same = subst (λ (w : Way). IsFront (next mid) (followed w next)) (sym same) (part.front mid)
same_then (Stops why at) other next part same = inl (ap (λ (w : Way). followed w next) same)

front_then : (way other : Way) (next : Play) → IsPart next → IsFront way other → IsFront (followed way next) (followed other next)
front_then way other next part (inl same) = same_then way other next part same
front_then way other next part (inr starved) =
    inr (record {
      at = starved.at;
      is = ap (λ (w : Way). followed w next) starved.is;
      rest = added_then other next starved.at.outside.rounds part.grows starved.rest;
    })

then : (one next : Play) → IsPart one → IsPart next → IsPart (λ at. followed (one at) next)
then one next first second = record {
  grows = λ at. added_then (one at) next at.outside.rounds second.grows (first.grows at);
  sound = λ at good. sound_then (one at) (one (sounded at)) next second (first.sound at) good;
  calm = λ at saved none. calm_then (one at) (one (sounded at)) next second (λ before. first.calm at before none) (first.sound at) saved;
  front = λ at. front_then (one at) (one (freed at)) next second (first.front at);
}

-- ---- parts by a value

by_value : {V : Type 0} (value : Place → V) (play : V → Play) → ((at : Place) → value (sounded at) ≡ value at) → ((at : Place) → value (freed at) ≡ value at)
    → ((v : V) → IsPart (play v)) → IsPart (λ at. play (value at) at)
by_value value play sounds frees parts = record {
  grows = λ at. (parts (value at)).grows at;
  sound = λ at good. ap (λ v. play v (sounded at)) (sounds at) ∙ (parts (value at)).sound at good;
  calm = λ at saved none. subst (λ v. IsCalm (play (value at) at) (play v (sounded at))) (sym (sounds at)) ((parts (value at)).calm at saved none);
  front = λ at. subst (λ v. IsFront (play (value at) at) (play v (freed at))) (sym (frees at)) ((parts (value at)).front at);
}

one_of : (b : Bool) (one two : Play) → IsPart one → IsPart two → IsPart (λ at. either b one two at)
one_of true one two h k = h
one_of false one two h k = k

-- ---- parts that run no round

adds_none : (at : Place) → Adds at.outside.rounds (GoesOn at)
adds_none at = record { more = []; is = sym (append-nil at.outside.rounds) }

moves : (f : Place → Place) → ((at : Place) → (f at).outside.rounds ≡ at.outside.rounds) → ((at : Place) → f (sounded at) ≡ sounded (f at))
    → ((at : Place) → f (freed at) ≡ freed (f at)) → IsPart (λ at. GoesOn (f at))
moves f same sounds frees = record {
  grows = λ at. record { more = []; is = same at ∙ sym (append-nil at.outside.rounds) };
  sound = λ at good. ap (λ (p : Place). GoesOn p) (sounds at);
  calm = λ at saved none. inl (subst NoneFailed (sym (same at)) none);
  front = λ at. inl (ap (λ (p : Place). GoesOn p) (frees at));
}

goes : IsPart (λ at. GoesOn at)
goes = moves (λ at. at) (λ at. refl) (λ at. refl) (λ at. refl)

stays : (status : ℕ) → IsPart (with_status status)
stays status = moves (λ at. record at { status = status }) (λ at. refl) (λ at. refl) (λ at. refl)

halts : (why : ScriptStop) → IsPart (λ at. Stops why at)
halts why = record {
  grows = λ at. record { more = []; is = sym (append-nil at.outside.rounds) };
  sound = λ at good. refl;
  calm = λ at saved none. inl none;
  front = λ at. inl refl;
}

counted : IsPart counts_one
counted =
    by_value (λ (at : Place). nat_le 10000 at.count) (λ b at. cond b (Stops stop.StepLimit at) (GoesOn (record at { count = at.count + 1 }))) (λ at. refl)
    (λ at. refl) by
  where
    by : (b : Bool) → IsPart (λ at. cond b (Stops stop.StepLimit at) (GoesOn (record at { count = at.count + 1 })))
    by true = halts stop.StepLimit
    by false = moves (λ at. record at { count = at.count + 1 }) (λ at. refl) (λ at. refl) (λ at. refl)

-- memory is asked for
granted_adds : (grants : Option ℕ) (at : Place) → Adds at.outside.rounds (granted_by grants at)
granted_adds None at = adds_none at
granted_adds (Some n) at = by (nat_lt 0 n)
  where
    by : (b : Bool) → Adds at.outside.rounds (cond b (GoesOn (record at { grants = Some (n - 1) })) (Stops stop.NoMemory at))
    by true = record { more = []; is = sym (append-nil at.outside.rounds) }
    by false = record { more = []; is = sym (append-nil at.outside.rounds) }

granted_sounds : (grants : Option ℕ) (at : Place) → granted_by grants (sounded at) ≡ along sounded (granted_by grants at)
granted_sounds None at = refl
granted_sounds (Some n) at = by (nat_lt 0 n)
  where
    by : (b : Bool)
        → cond b (GoesOn (record (sounded at) { grants = Some (n - 1) })) (Stops stop.NoMemory (sounded at))
        ≡ along sounded (cond b (GoesOn (record at { grants = Some (n - 1) })) (Stops stop.NoMemory at))
    by true = refl
    by false = refl

granted_none : (grants : Option ℕ) (at : Place) → NoneFailed at.outside.rounds → NoneFailed (way_rounds (granted_by grants at))
granted_none None at none = none
granted_none (Some n) at none = by (nat_lt 0 n)
  where
    by : (b : Bool) → NoneFailed (way_rounds (cond b (GoesOn (record at { grants = Some (n - 1) })) (Stops stop.NoMemory at)))
    by true = none
    by false = none

granted_front : (grants : Option ℕ) (at : Place) → IsFront (granted_by grants at) (GoesOn (freed at))
granted_front None at = inl refl
granted_front (Some n) at = by (nat_lt 0 n)
  where
    by : (b : Bool) → IsFront (cond b (GoesOn (record at { grants = Some (n - 1) })) (Stops stop.NoMemory at)) (GoesOn (freed at))
    by true = inl refl
    by false = inr (record { at = at; is = refl; rest = record { more = []; is = sym (append-nil at.outside.rounds) } })

has_memory : IsPart granted
has_memory = record {
  grows = λ at. granted_adds at.grants at;
  sound = λ at good. granted_sounds at.grants at;
  calm = λ at saved none. inl (granted_none at.grants at none);
  front = λ at. granted_front at.grants at;
}

-- ---- variables

abbrev put_table : Played → List ℕ → Played
put_table played table = record played { known = with_known_table played.known table }

put_so : (name value : List ℕ) (setting : Option (Option (List ℕ)))
    → IsPart (λ at. GoesOn (put_by name value (option_map (λ s. option_map (put_table at.outside) s) setting) at))
put_so name value None = moves (λ at. record at { own = own_set at.own name value }) (λ at. refl) (λ at. refl) (λ at. refl)
put_so name value (Some None) = goes
put_so name value (Some (Some table)) =
    moves (λ at. record at { outside = put_table at.outside table }) (λ at. refl) (λ at. refl) (λ at. refl)

puts_so : (name value : List ℕ) → IsPart (puts played_outside name value)
puts_so name value =
    then granted (λ at. GoesOn (put_by name value (played_outside.set_by at.outside name value) at)) has_memory
    (by_value (λ (at : Place). state_set at.outside.known name value)
    (λ setting at. GoesOn (put_by name value (option_map (λ s. option_map (put_table at.outside) s) setting) at)) (λ at. refl) (λ at. refl) (put_so name value))

-- whether a variable takes its value doesn't depend on the answers
status_same : {A B : Type 0} (f : List ℕ → A) (g : List ℕ → B) (setting : Option (Option (List ℕ)))
    → set_status (option_map (λ s. option_map f s) setting) ≡ set_status (option_map (λ s. option_map g s) setting)
status_same f g None = refl
status_same f g (Some None) = refl
status_same f g (Some (Some table)) = refl

assigned_so : (name : List ℕ) (value : Option (List ℕ)) → IsPart (means.assigns_value played_outside name value)
assigned_so name None = stays 1
assigned_so name (Some value) =
    by_value (λ (at : Place). set_status (played_outside.set_by at.outside name value))
    (λ status at. followed (puts played_outside name value at) (with_status status))
    (λ at. status_same (put_table (sounded at).outside) (put_table at.outside) (state_set at.outside.known name value)) (λ at. refl)
    (λ status. then (puts played_outside name value) (with_status status) (puts_so name value) (stays status))

assigns_so : (name : List ℕ) (rest : List Atom) → IsPart (means.assigns played_outside name rest)
assigns_so name rest =
    then granted (λ at. means.assigns_value played_outside name (assigned_value (values_at played_outside at) at.status name rest) at) has_memory
    (by_value (λ (at : Place). assigned_value (values_at played_outside at) at.status name rest) (λ value at. means.assigns_value played_outside name value at)
    (λ at. refl) (λ at. refl) (assigned_so name))

-- ---- commands

sends_so : (text : List ℕ) → IsPart (sends text)
sends_so text =
    then granted (λ at. GoesOn (record at { text = at.text ++ text })) has_memory
    (moves (λ at. record at { text = at.text ++ text }) (λ at. refl) (λ at. refl) (λ at. refl))

built_in_so : (kind : BuiltIn) (words : List (List ℕ)) → IsPart (does_built_in kind words)
built_in_so built_in.Echo words = then (sends (echo_text words)) (with_status 0) (sends_so (echo_text words)) (stays 0)
built_in_so built_in.True words = stays 0
built_in_so built_in.False words = stays 1
built_in_so built_in.Test words = stays (test_status words)
built_in_so built_in.Brackets words = stays (brackets_status words)

replied_so : (answer : Reply) → IsPart (replied answer)
replied_so (reply.Done status text) = then (sends text) (with_status status) (sends_so text) (stays status)
replied_so (reply.Started text) = then (sends text) (λ at. Stops stop.Started at) (sends_so text) (halts stop.Started)
replied_so reply.Fault = halts stop.Fault
replied_so reply.NoMemory = halts stop.NoMemory

-- ---- commands from outside

abbrev called_at : List (List ℕ) → Place → Called
called_at words at = called_by (outside_command words) at.outside.known at.outside.answers

abbrev after_call : Place → Called → Place
after_call at called = record at { outside = played_after at.outside called }

abbrev after_answers : Place → Called → List RoundAnswer → Place
after_answers at called left = record at { outside = record (played_after at.outside called) { answers = left } }

-- where nothing failed in its rounds
plays_alike : (words : List (List ℕ)) (at : Place) → IsUnfailing (called_at words at).rounds
    → plays words (sounded at) ≡ replied (called_at words at).reply (sounded (after_call at (called_at words at)))
plays_alike words at good =
    let called = called_at words at in
    ap (λ (c : Called). replied c.reply (after_call (sounded at) c)) (called_sound (outside_command words) at.outside.known at.outside.answers good)
    ∙ ap (λ l. replied called.reply (after_answers at called l)) (drop-map (λ (answer : RoundAnswer). sound_answer) (length called.rounds) at.outside.answers)

plays_sound : (words : List (List ℕ)) (at : Place) → IsUnfailing (way_rounds (plays words at)) → plays words (sounded at) ≡ along sounded (plays words at)
plays_sound words at good =
    let called = called_at words at in
    let part = replied_so called.reply in
    let here = unfailing_before (at.outside.rounds ++ called.rounds) (replied called.reply (after_call at called)) (part.grows (after_call at called)) good in
    plays_alike words at (unfailing_both at.outside.rounds called.rounds here).1 ∙ part.sound (after_call at called) good

-- where a start ended it
sent_started : (grants : Option ℕ) (text : List ℕ) (at : Place) → started_last at.outside.rounds ≡ true
    → IsStartedWay (followed (followed (granted_by grants at) (λ a. GoesOn (record a { text = a.text ++ text }))) (λ a. Stops stop.Started a))
sent_started None text at started = record { why = stop.Started; at = record at { text = at.text ++ text }; is = refl; started = started }
sent_started (Some n) text at started = by (nat_lt 0 n)
  where
    by : (b : Bool)
        → IsStartedWay
        (followed
        (followed (cond b (GoesOn (record at { grants = Some (n - 1) })) (Stops stop.NoMemory at)) (λ a. GoesOn (record a { text = a.text ++ text })))
        (λ a. Stops stop.Started a))
    by true = record { why = stop.Started; at = record at { grants = Some (n - 1); text = at.text ++ text }; is = refl; started = started }
    by false = record { why = stop.NoMemory; at = at; is = refl; started = started }

call_started : (called : Called) (at : Place) → IsStartingCall called → IsStartedWay (replied called.reply (after_call at called))
call_started called at starts =
    subst (λ (r : Reply). IsStartedWay (replied r (after_call at called))) (sym starts.reply_is)
    (sent_started at.grants starts.text (after_call at called) (started_joined at.outside.rounds called.rounds starts.last))

plays_calm : (words : List (List ℕ)) (at : Place) → AllSaved (way_rounds (plays words at)) → NoneFailed at.outside.rounds → IsCalm (plays words at) (plays words (sounded at))
plays_calm words at saved none =
    let called = called_at words at in
    let after = after_call at called in
    let part = replied_so called.reply in
    let added = part.grows after in
    let here = (saved_both (at.outside.rounds ++ called.rounds) added.more (subst AllSaved added.is saved)).0 in
    let own = (saved_both at.outside.rounds called.rounds here).1 in
    elim (called_calm (outside_command words) at.outside.known at.outside.answers own) [
      | inl unfailed ↦
          subst (λ (w : Way). IsCalm (plays words at) w) (sym (plays_alike words at (own, unfailed)))
          (part.calm after saved (failed_joined at.outside.rounds called.rounds none unfailed))
      | inr starts ↦ inr (call_started (called_at words (sounded at)) (sounded at) starts)
    ]

plays_so : (words : List (List ℕ)) → IsPart (plays words)
plays_so words = record {
  grows = λ at.
      let called = called_at words at in
      let added = (replied_so called.reply).grows (after_call at called) in
      record { more = called.rounds ++ added.more; is = added.is ∙ append_assoc at.outside.rounds called.rounds added.more };
  sound = plays_sound words;
  calm = plays_calm words;
  front = λ at. (replied_so (called_at words at).reply).front (after_call at (called_at words at));
}

outside_so : (name : List ℕ) (fields : List (List ℕ)) → IsPart (does_outside played_outside plays name fields)
outside_so name fields = one_of (is_outside_name name) (plays fields) (with_status 127) (plays_so fields) (stays 127)

named_so : (built_in : Option BuiltIn) (name : List ℕ) (words : List (List ℕ)) → IsPart (does_named played_outside plays built_in name words)
named_so None name words = outside_so name (name ∷ words)
named_so (Some kind) name words = built_in_so kind words

fields_so : (fields : List (List ℕ)) → IsPart (does_fields played_outside plays fields)
fields_so [] = stays 0
fields_so (name ∷ words) = named_so (built_in_of name) name words

expanded_so : (fields : Option (List (List ℕ))) → IsPart (does_expanded played_outside plays fields)
expanded_so None = stays 1
expanded_so (Some fields) = fields_so fields

calls_so : (words : List (List Atom)) → IsPart (means.calls played_outside plays words)
calls_so words =
    then granted (λ at. does_expanded played_outside plays (expansion_of (values_at played_outside at) at.status words) at) has_memory
    (by_value (λ (at : Place). expansion_of (values_at played_outside at) at.status words) (λ fields at. does_expanded played_outside plays fields at) (λ at. refl)
    (λ at. refl) expanded_so)

-- ---- the flow

rounds_so : (name : List ℕ) (body : Play) → IsPart body → (fields : List (List ℕ)) → IsPart (rounds played_outside name body fields)
rounds_so name body part [] = goes
rounds_so name body part (field ∷ later) =
    then counts_one (λ at1. followed (puts played_outside name field at1) (λ at2. followed (body at2) (rounds played_outside name body later))) counted
    (then (puts played_outside name field) (λ at2. followed (body at2) (rounds played_outside name body later)) (puts_so name field)
    (then body (rounds played_outside name body later) part (rounds_so name body part later)))

looped_so : (name : List ℕ) (body : Play) → IsPart body → (fields : Option (List (List ℕ))) → IsPart (loops_over played_outside name body fields)
looped_so name body part None = stays 1
looped_so name body part (Some []) = stays 0
looped_so name body part (Some (field ∷ later)) = rounds_so name body part (field ∷ later)

loops_so : (name : List ℕ) (words : List (List Atom)) (body : Play) → IsPart body → IsPart (means.loops played_outside name words body)
loops_so name words body part =
    then granted (λ at. loops_over played_outside name body (expansion_of (values_at played_outside at) at.status words) at) has_memory
    (by_value (λ (at : Place). expansion_of (values_at played_outside at) at.status words) (λ fields at. loops_over played_outside name body fields at) (λ at. refl)
    (λ at. refl) (looped_so name body part))

due_so : (due : When) (command : Play) → IsPart command → IsPart (when_due due command)
due_so due command part =
    by_value (λ (at : Place). is_due due at.status) (λ b at. either b command (λ a. GoesOn a) at) (λ at. refl) (λ at. refl)
    (λ b. one_of b command (λ a. GoesOn a) part goes)

success_so : (one two : Play) → IsPart one → IsPart two → IsPart (means.by_success one two)
success_so one two h k =
    by_value (λ (at : Place). at.status == 0) (λ b at. either b one two at) (λ at. refl) (λ at. refl) (λ b. one_of b one two h k)

mutual
  pub steps_so : (script : ScriptTree) → IsPart (means_steps played_outside plays script)
  steps_so no_steps = goes
  steps_so (step due command later) =
      then (when_due due (means_command played_outside plays command)) (means_steps played_outside plays later)
      (due_so due (means_command played_outside plays command) (command_so command)) (steps_so later)

  command_so : (command : CommandTree) → IsPart (means_command played_outside plays command)
  command_so (call words) = then counts_one (means.calls played_outside plays words) counted (calls_so words)
  command_so (set name rest) = then counts_one (means.assigns played_outside name rest) counted (assigns_so name rest)
  command_so (choose choice) = choice_so choice
  command_so (repeat name words body) = loops_so name words (means_steps played_outside plays body) (steps_so body)

  choice_so : (choice : ChoiceTree) → IsPart (means_choice played_outside plays choice)
  choice_so no_else = stays 0
  choice_so (otherwise steps) = steps_so steps
  choice_so (branch test body later) =
      then (means_steps played_outside plays test)
      (means.by_success (means_steps played_outside plays body) (means_choice played_outside plays later)) (steps_so test)
      (success_so (means_steps played_outside plays body) (means_choice played_outside plays later) (steps_so body) (choice_so later))
