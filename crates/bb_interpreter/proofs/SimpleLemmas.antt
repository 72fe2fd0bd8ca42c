-- Simple commands, and what a `for` does before its rounds.
use Rattle.std.proofs.Common.{◌≡◌, ℕ, ◌<◌, true, false, List, [], ◌∷◌, ◌++◌, map, Option, Some, None, ap, arith, length, refl, sym, subst, ◌∙◌}
use Rattle.bb_script.specs.Fields.{expansion_of}
use Rattle.bb_interpreter.specs.Assigned.{assigned_value}
use Rattle.bb_script.specs.Words.{Atom}
use Rattle.bb_interpreter.specs.declared.built_in.BuiltIn.{BuiltIn}
use Rattle.bb_interpreter.specs.declared.built_in.BuiltIn.TheVariants as built_in
use Rattle.bb_interpreter.specs.Echo.{echo_text}
use Rattle.bb_interpreter.specs.declared.commands.Reply.{Reply}
use Rattle.bb_interpreter.specs.declared.commands.Reply.TheVariants as reply
use Rattle.bb_interpreter.specs.declared.commands.SetReply.{SetReply}
use Rattle.bb_interpreter.specs.declared.commands.SetReply.TheVariants.{Unknown, Refused, Set}
use Rattle.bb_interpreter.specs.declared.run.ScriptRun.{ScriptRun}
use Rattle.bb_interpreter.specs.declared.stop.ScriptStop.{ScriptStop}
use Rattle.bb_interpreter.specs.declared.stop.ScriptStop.TheVariants as stop
use Rattle.bb_interpreter.specs.Means.{answered, assigns, assigns_value, built_in_of, calls, does_built_in, does_expanded, does_fields, does_named, does_outside, loops, loops_over, put_by, puts, replied, rounds, sends, values_at, next_answer}
use Rattle.bb_interpreter.specs.Outside.{Outside, set_status, set_reply_of}
use Rattle.bb_interpreter.specs.Standing.{Act, Answer, Standing, GoesOn, Stops, Meaning, counts_one, either, followed, with_status}
use Rattle.bb_interpreter.specs.Runs.{CallGives, LeftAt, Leads, more_grants, standing_of, script_values}
use Rattle.bb_interpreter.specs.Variables.{own_set, variable_pair}
use Rattle.bb_interpreter.proofs.Flow.{has_then, lacks_then}
use Rattle.bb_interpreter.proofs.Joins.{Whatever, leads_as, leads_from, leads_on, leads_so, leads_then, more-none}

-- ---- what a status and a text leave

-- a run with these
abbrev pub with_new_status : {C : Type 0} → ScriptRun C → ℕ → ScriptRun C
with_new_status a status = record a { status = status }

pub status_set : {C D : Type 0} (gives : CallGives C D) (n m : ℕ) (a : ScriptRun C) (d : D) → n ≡ m
    → Leads gives Whatever (with_status n) GoesOn a (with_new_status a m) d d
status_set gives n m a d same =
    leads_so gives Whatever (with_status n) GoesOn a (with_new_status a m) d
    (λ before later left is. ap (λ k. GoesOn (standing_of (with_new_status a k) d before later left)) same)

pub sent : {C D : Type 0} (gives : CallGives C D) (text all : List ℕ) (a : ScriptRun C) (d : D) → all ≡ a.text ++ text
    → Leads gives Whatever (sends text) GoesOn a (record a { text = all }) d d
sent gives text all a d same =
    has_then gives Whatever (λ at. GoesOn (record at { text = at.text ++ text })) GoesOn a (record a { text = all }) d d
    (leads_so gives Whatever (λ at. GoesOn (record at { text = at.text ++ text })) GoesOn a (record a { text = all }) d
    (λ before later left is. ap (λ t. GoesOn (standing_of (record a { text = t }) d before later left)) (sym same)))

-- ---- after the count

pub counted_then : {C D : Type 0} (gives : CallGives C D) (LeavesMemory : Option ℕ → Type 0) (next two : Meaning C D)
    (a b c : ScriptRun C) (d to : D) → Leads gives Whatever counts_one GoesOn a b d d
    → Leads gives LeavesMemory next two b c d to
    → Leads gives LeavesMemory (λ at. followed (counts_one at) next) two a c d to
counted_then gives LeavesMemory next two a b c d to first second =
    leads_on gives LeavesMemory (λ at. followed (counts_one at) next) next two a b c d d to
    (leads_then gives Whatever counts_one GoesOn next a b d d first) second

-- ---- a variable is set

unknown_is : {C : Type 0} (c new : C) (r : Option (Option C)) (s : SetReply) → (s, new) ≡ set_reply_of c r
    → s ≡ Unknown → (r ≡ None) × (new ≡ c)
unknown_is {C} c new None s is unknown = (refl, ap (λ (p : SetReply × C). p.1) is)
unknown_is {C} c new (Some None) s is unknown = let t = ap (λ (p : SetReply × C). p.0) is in absurd (cc)
unknown_is {C} c new (Some (Some after)) s is unknown = let t = ap (λ (p : SetReply × C). p.0) is in absurd (cc)

refused_is : {C : Type 0} (c new : C) (r : Option (Option C)) (s : SetReply) → (s, new) ≡ set_reply_of c r
    → s ≡ Refused → (r ≡ Some None) × (new ≡ c)
refused_is {C} c new None s is refused = let t = ap (λ (p : SetReply × C). p.0) is in absurd (cc)
refused_is {C} c new (Some None) s is refused = (refl, ap (λ (p : SetReply × C). p.1) is)
refused_is {C} c new (Some (Some after)) s is refused = let t = ap (λ (p : SetReply × C). p.0) is in absurd (cc)

set_is : {C : Type 0} (c new : C) (r : Option (Option C)) (s : SetReply) → (s, new) ≡ set_reply_of c r
    → s ≡ Set → r ≡ Some (Some new)
set_is {C} c new None s is done = let t = ap (λ (p : SetReply × C). p.0) is in absurd (cc)
set_is {C} c new (Some None) s is done = let t = ap (λ (p : SetReply × C). p.0) is in absurd (cc)
set_is {C} c new (Some (Some after)) s is done = ap (λ k. Some (Some k)) (sym (ap (λ (p : SetReply × C). p.1) is))

-- a setting puts what it leaves
put_as : {C D : Type 0} (gives : CallGives C D) (o : Outside C) (name value : List ℕ) (a b : ScriptRun C) (d : D)
    → ((before : List (Act C D)) (later : List (Answer C D)) (left : Option ℕ) → put_by name value (o.set_by a.commands name value) (standing_of a d before later left) ≡ standing_of b d before later left)
    → Leads gives Whatever (puts o name value) GoesOn a b d d
put_as gives o name value a b d same =
    has_then gives Whatever (λ at. GoesOn (put_by name value (o.set_by at.outside name value) at)) GoesOn a b d d
    (leads_so gives Whatever (λ at. GoesOn (put_by name value (o.set_by at.outside name value) at)) GoesOn a b d
    (λ before later left is. ap GoesOn (same before later left)))

pub put_unknown : {C D : Type 0} (gives : CallGives C D) (o : Outside C) (name value : List ℕ) (a b : ScriptRun C) (s : SetReply) (d : D)
    → (s, b.commands) ≡ set_reply_of a.commands (o.set_by a.commands name value) → s ≡ Unknown
    → map variable_pair b.variables.items ≡ own_set (map variable_pair a.variables.items) name value
    → Leads gives Whatever (puts o name value) GoesOn a (record a { commands = b.commands; variables = b.variables }) d d
put_unknown gives o name value a b s d is unknown set =
    let u = unknown_is a.commands b.commands (o.set_by a.commands name value) s is unknown in
    put_as gives o name value a (record a { commands = b.commands; variables = b.variables }) d
    (λ before later left.
    ap (λ r. put_by name value r (standing_of a d before later left)) u.0
    ∙ ap (λ own. record (standing_of a d before later left) { own = own }) (sym set)
    ∙ ap (λ c. standing_of (record a { commands = c; variables = b.variables }) d before later left) (sym u.1))

pub unknown_status : {C : Type 0} (o : Outside C) (name value : List ℕ) (c new : C) (s : SetReply)
    → (s, new) ≡ set_reply_of c (o.set_by c name value) → s ≡ Unknown → 0 ≡ set_status (o.set_by c name value)
unknown_status o name value c new s is unknown =
    ap set_status (sym (unknown_is c new (o.set_by c name value) s is unknown).0)

pub put_refused : {C D : Type 0} (gives : CallGives C D) (o : Outside C) (name value : List ℕ) (a b : ScriptRun C) (s : SetReply) (d : D)
    → (s, b.commands) ≡ set_reply_of a.commands (o.set_by a.commands name value) → s ≡ Refused
    → Leads gives Whatever (puts o name value) GoesOn a (record a { commands = b.commands }) d d
put_refused gives o name value a b s d is refused =
    let u = refused_is a.commands b.commands (o.set_by a.commands name value) s is refused in
    put_as gives o name value a (record a { commands = b.commands }) d
    (λ before later left.
    ap (λ r. put_by name value r (standing_of a d before later left)) u.0
    ∙ ap (λ c. standing_of (record a { commands = c }) d before later left) (sym u.1))

pub refused_status : {C : Type 0} (o : Outside C) (name value : List ℕ) (c new : C) (s : SetReply)
    → (s, new) ≡ set_reply_of c (o.set_by c name value) → s ≡ Refused → 1 ≡ set_status (o.set_by c name value)
refused_status o name value c new s is refused =
    ap set_status (sym (refused_is c new (o.set_by c name value) s is refused).0)

pub put_set : {C D : Type 0} (gives : CallGives C D) (o : Outside C) (name value : List ℕ) (a b : ScriptRun C) (s : SetReply) (d : D)
    → (s, b.commands) ≡ set_reply_of a.commands (o.set_by a.commands name value) → s ≡ Set
    → Leads gives Whatever (puts o name value) GoesOn a (record a { commands = b.commands }) d d
put_set gives o name value a b s d is done =
    put_as gives o name value a (record a { commands = b.commands }) d
    (λ before later left.
    ap (λ r. put_by name value r (standing_of a d before later left)) (set_is a.commands b.commands (o.set_by a.commands name value) s is done))

pub done_status : {C : Type 0} (o : Outside C) (name value : List ℕ) (c new : C) (s : SetReply)
    → (s, new) ≡ set_reply_of c (o.set_by c name value) → s ≡ Set → 0 ≡ set_status (o.set_by c name value)
done_status o name value c new s is done =
    ap set_status (sym (set_is c new (o.set_by c name value) s is done))

abbrev after_grant_assigns : {C D : Type 0} → Outside C → List ℕ → List Atom → Meaning C D
after_grant_assigns o name rest at =
    assigns_value o name (assigned_value (values_at o at) at.status name rest) at

abbrev after_grant_calls : {C D : Type 0} → Outside C → List (List Atom) → Meaning C D
after_grant_calls o words at = does_expanded o next_answer (expansion_of (values_at o at) at.status words) at

abbrev after_grant_loops : {C D : Type 0} → Outside C → List ℕ → List (List Atom) → Meaning C D → Meaning C D
after_grant_loops o name words body at =
    loops_over o name body (expansion_of (values_at o at) at.status words) at

-- memory was refused, before anything was put
put_refused_memory : {C D : Type 0} (gives : CallGives C D) (o : Outside C) (name value : List ℕ) (a b : ScriptRun C) (d : D)
    → ((before : List (Act C D)) (later : List (Answer C D)) (left : Option ℕ) → standing_of a d before later left ≡ standing_of b d before later left)
    → Leads gives (LeftAt stop.NoMemory) (puts o name value) (λ at. Stops stop.NoMemory at) a b d d
put_refused_memory gives o name value a b d same =
    leads_on gives (LeftAt stop.NoMemory) (puts o name value) (puts o name value) (λ at. Stops stop.NoMemory at) a b b d d d
    (leads_so gives Whatever (puts o name value) (puts o name value) a b d (λ before later left is. ap (puts o name value) (same before later left)))
    (lacks_then gives (λ at. GoesOn (put_by name value (o.set_by at.outside name value) at)) b d)

pub put_starved : {C D : Type 0} (gives : CallGives C D) (o : Outside C) (name value : List ℕ) (a b : ScriptRun C) (d : D)
    → b.commands ≡ a.commands
    → Leads gives (LeftAt stop.NoMemory) (puts o name value) (λ at. Stops stop.NoMemory at) a (record a { commands = b.commands }) d d
put_starved gives o name value a b d same =
    put_refused_memory gives o name value a (record a { commands = b.commands }) d
    (λ before later left. ap (λ c. standing_of (record a { commands = c }) d before later left) (sym same))

pub put_own_starved : {C D : Type 0} (gives : CallGives C D) (o : Outside C) (name value : List ℕ) (a b : ScriptRun C) (s : SetReply) (d : D)
    → (s, b.commands) ≡ set_reply_of a.commands (o.set_by a.commands name value) → s ≡ Unknown
    → b.variables.items ≡ a.variables.items
    → Leads gives (LeftAt stop.NoMemory) (puts o name value) (λ at. Stops stop.NoMemory at) a (record a { commands = b.commands; variables = b.variables }) d d
put_own_starved gives o name value a b s d is unknown same =
    let u = unknown_is a.commands b.commands (o.set_by a.commands name value) s is unknown in
    put_refused_memory gives o name value a (record a { commands = b.commands; variables = b.variables }) d
    (λ before later left.
    ap (λ vs. record (standing_of a d before later left) { own = map variable_pair vs }) (sym same)
    ∙ ap (λ c. standing_of (record a { commands = c; variables = b.variables }) d before later left) (sym u.1))

-- and before a text was sent
pub send_starved : {C D : Type 0} (gives : CallGives C D) (text all : List ℕ) (a : ScriptRun C) (d : D)
    → all ≡ a.text
    → Leads gives (LeftAt stop.NoMemory) (sends text) (λ at. Stops stop.NoMemory at) a (record a { text = all }) d d
send_starved gives text all a d same =
    leads_on gives (LeftAt stop.NoMemory) (sends text) (sends text) (λ at. Stops stop.NoMemory at) a (record a { text = all }) (record a { text = all }) d d d
    (leads_so gives Whatever (sends text) (sends text) a (record a { text = all }) d (λ before later left is. ap (λ t. sends text (standing_of (record a { text = t }) d before later left)) (sym same)))
    (lacks_then gives (λ at. GoesOn (record at { text = at.text ++ text })) (record a { text = all }) d)

pub send_lacks : {C D : Type 0} (gives : CallGives C D) (text : List ℕ) (a : ScriptRun C) (d : D)
    → Leads gives (LeftAt stop.NoMemory) (sends text) (λ at. Stops stop.NoMemory at) a a d d
send_lacks gives text a d = lacks_then gives (λ at. GoesOn (record at { text = at.text ++ text })) a d

pub assign_starved : {C D : Type 0} (gives : CallGives C D) (o : Outside C) (name : List ℕ) (rest : List Atom) (a : ScriptRun C) (d : D)
    → Leads gives (LeftAt stop.NoMemory) (assigns o name rest) (λ at. Stops stop.NoMemory at) a a d d
assign_starved gives o name rest a d = lacks_then gives (after_grant_assigns o name rest) a d

pub call_starved : {C D : Type 0} (gives : CallGives C D) (o : Outside C) (words : List (List Atom)) (a : ScriptRun C) (d : D)
    → Leads gives (LeftAt stop.NoMemory) (calls o next_answer words) (λ at. Stops stop.NoMemory at) a a d d
call_starved gives o words a d = lacks_then gives (after_grant_calls o words) a d

pub loop_starved : {C D : Type 0} (gives : CallGives C D) (o : Outside C) (name : List ℕ) (words : List (List Atom)) (body : Meaning C D) (a : ScriptRun C) (d : D)
    → Leads gives (LeftAt stop.NoMemory) (loops o name words body) (λ at. Stops stop.NoMemory at) a a d d
loop_starved gives o name words body a d = lacks_then gives (after_grant_loops o name words body) a d

-- ---- assignments

pub assigned_none : {C D : Type 0} (gives : CallGives C D) (o : Outside C) (name : List ℕ) (rest : List Atom) (a : ScriptRun C) (d : D)
    → assigned_value (script_values o a) a.status name rest ≡ None
    → Leads gives Whatever (assigns o name rest) GoesOn a (with_new_status a 1) d d
assigned_none gives o name rest a d none =
    has_then gives Whatever (after_grant_assigns o name rest) GoesOn a (with_new_status a 1) d d
    (leads_so gives Whatever (after_grant_assigns o name rest) GoesOn a (with_new_status a 1) d
    (λ before later left is. ap (λ v. assigns_value o name v (standing_of a d before later left)) none))

-- the value is put
abbrev put_and_status : {C D : Type 0} → Outside C → List ℕ → List ℕ → ℕ → Meaning C D
put_and_status o name value status at = followed (puts o name value at) (with_status status)

assigned_by : {C D : Type 0} (gives : CallGives C D) (o : Outside C) (LeavesMemory : Option ℕ → Type 0) (two : Meaning C D)
    (name : List ℕ) (rest : List Atom) (value : List ℕ) (a b : ScriptRun C) (d : D)
    → assigned_value (script_values o a) a.status name rest ≡ Some value
    → Leads gives LeavesMemory (put_and_status o name value (set_status (o.set_by a.commands name value))) two a b d d
    → Leads gives LeavesMemory (assigns o name rest) two a b d d
assigned_by gives o LeavesMemory two name rest value a b d some leads =
    has_then gives LeavesMemory (after_grant_assigns o name rest) two a b d d
    (leads_as gives LeavesMemory (after_grant_assigns o name rest) (put_and_status o name value (set_status (o.set_by a.commands name value))) two a b d d
    (λ before later left. ap (λ v. assigns_value o name v (standing_of a d before later left)) some) leads)

pub assigned_some : {C D : Type 0} (gives : CallGives C D) (o : Outside C)
    (name : List ℕ) (rest : List Atom) (value key text : List ℕ) (status : ℕ) (a b : ScriptRun C) (d : D)
    → assigned_value (script_values o a) a.status name rest ≡ Some value → key ≡ name → text ≡ value
    → Leads gives Whatever (puts o key text) GoesOn a b d d
    → status ≡ set_status (o.set_by a.commands key text)
    → Leads gives Whatever (assigns o name rest) GoesOn a (with_new_status b status) d d
assigned_some gives o name rest value key text status a b d some same_key same_text leads same =
    let n = set_status (o.set_by a.commands key text) in
    assigned_by gives o Whatever GoesOn name rest text a (with_new_status b status) d (some ∙ ap Some (sym same_text))
    (leads_from gives Whatever (put_and_status o name text (set_status (o.set_by a.commands name text))) (put_and_status o key text n) GoesOn a (with_new_status b status) d d
    (ap (λ k. put_and_status o k text (set_status (o.set_by a.commands k text))) (sym same_key))
    (leads_on gives Whatever (put_and_status o key text n) (with_status n) GoesOn a b (with_new_status b status) d d d
    (leads_then gives Whatever (puts o key text) GoesOn (with_status n) a b d d leads)
    (status_set gives n status b d (sym same))))

pub assigned_stop : {C D : Type 0} (gives : CallGives C D) (o : Outside C) (e : ScriptStop)
    (name : List ℕ) (rest : List Atom) (value key text : List ℕ) (a b : ScriptRun C) (d : D)
    → assigned_value (script_values o a) a.status name rest ≡ Some value → key ≡ name → text ≡ value
    → Leads gives (LeftAt e) (puts o key text) (λ at. Stops e at) a b d d
    → Leads gives (LeftAt e) (assigns o name rest) (λ at. Stops e at) a b d d
assigned_stop gives o e name rest value key text a b d some same_key same_text leads =
    let n = set_status (o.set_by a.commands key text) in
    assigned_by gives o (LeftAt e) (λ at. Stops e at) name rest text a b d (some ∙ ap Some (sym same_text))
    (leads_from gives (LeftAt e) (put_and_status o name text (set_status (o.set_by a.commands name text))) (put_and_status o key text n) (λ at. Stops e at) a b d d
    (ap (λ k. put_and_status o k text (set_status (o.set_by a.commands k text))) (sym same_key))
    (leads_then gives (LeftAt e) (puts o key text) (λ at. Stops e at) (with_status n) a b d d leads))

-- ---- calls

pub called_none : {C D : Type 0} (gives : CallGives C D) (o : Outside C) (words : List (List Atom)) (a : ScriptRun C) (d : D)
    → expansion_of (script_values o a) a.status words ≡ None
    → Leads gives Whatever (calls o next_answer words) GoesOn a (with_new_status a 1) d d
called_none gives o words a d none =
    has_then gives Whatever (after_grant_calls o words) GoesOn a (with_new_status a 1) d d
    (leads_so gives Whatever (after_grant_calls o words) GoesOn a (with_new_status a 1) d
    (λ before later left is. ap (λ v. does_expanded o next_answer v (standing_of a d before later left)) none))

pub called_some : {C D : Type 0} (gives : CallGives C D) (o : Outside C) (LeavesMemory : Option ℕ → Type 0) (two : Meaning C D)
    (words : List (List Atom)) (fields : List (List ℕ)) (a b : ScriptRun C) (d to : D)
    → expansion_of (script_values o a) a.status words ≡ Some fields
    → Leads gives LeavesMemory (does_fields o next_answer fields) two a b d to
    → Leads gives LeavesMemory (calls o next_answer words) two a b d to
called_some gives o LeavesMemory two words fields a b d to some leads =
    has_then gives LeavesMemory (after_grant_calls o words) two a b d to
    (leads_as gives LeavesMemory (after_grant_calls o words) (does_fields o next_answer fields) two a b d to
    (λ before later left. ap (λ v. does_expanded o next_answer v (standing_of a d before later left)) some) leads)

pub none_left : (fields : List (List ℕ)) → length fields ≡ 0 → fields ≡ []
none_left [] h = refl
none_left (field ∷ later) h = absurd (omega (arith, h))

pub no_fields : {C D : Type 0} (gives : CallGives C D) (o : Outside C) (fields : List (List ℕ)) (a : ScriptRun C) (d : D)
    → fields ≡ [] → Leads gives Whatever (does_fields o next_answer fields) GoesOn a (with_new_status a 0) d d
no_fields gives o fields a d none =
    leads_so gives Whatever (does_fields o next_answer fields) GoesOn a (with_new_status a 0) d
    (λ before later left is. ap (λ l. does_fields o next_answer l (standing_of a d before later left)) none)

named : {C D : Type 0} (gives : CallGives C D) (o : Outside C) (LeavesMemory : Option ℕ → Type 0) (two : Meaning C D)
    (kind : Option BuiltIn) (name : List ℕ) (words fields : List (List ℕ)) (a b : ScriptRun C) (d to : D)
    → fields ≡ name ∷ words → built_in_of name ≡ kind
    → Leads gives LeavesMemory (does_named o next_answer kind name words) two a b d to
    → Leads gives LeavesMemory (does_fields o next_answer fields) two a b d to
named gives o LeavesMemory two kind name words fields a b d to is same leads =
    leads_as gives LeavesMemory (does_fields o next_answer fields) (does_named o next_answer kind name words) two a b d to
    (λ before later left.
    ap (λ l. does_fields o next_answer l (standing_of a d before later left)) is
    ∙ ap (λ k. does_named o next_answer k name words (standing_of a d before later left)) same) leads

pub named_built_in : {C D : Type 0} (gives : CallGives C D) (o : Outside C) (LeavesMemory : Option ℕ → Type 0) (two : Meaning C D)
    (kind : BuiltIn) (name : List ℕ) (words fields : List (List ℕ)) (a b : ScriptRun C) (d to : D)
    → fields ≡ name ∷ words → built_in_of name ≡ Some kind
    → Leads gives LeavesMemory (does_built_in kind words) two a b d to
    → Leads gives LeavesMemory (does_fields o next_answer fields) two a b d to
named_built_in gives o LeavesMemory two kind name words fields a b d to is same leads =
    named gives o LeavesMemory two (Some kind) name words fields a b d to is same leads

pub named_outside : {C D : Type 0} (gives : CallGives C D) (o : Outside C) (LeavesMemory : Option ℕ → Type 0) (two : Meaning C D)
    (name : List ℕ) (words fields : List (List ℕ)) (a b : ScriptRun C) (d to : D)
    → fields ≡ name ∷ words → built_in_of name ≡ None
    → Leads gives LeavesMemory (does_outside o next_answer name fields) two a b d to
    → Leads gives LeavesMemory (does_fields o next_answer fields) two a b d to
named_outside gives o LeavesMemory two name words fields a b d to is same leads =
    named gives o LeavesMemory two None name words fields a b d to is same
    (subst (λ l. Leads gives LeavesMemory (does_outside o next_answer name l) two a b d to) is leads)

-- ---- commands from outside

pub not_there : {C D : Type 0} (gives : CallGives C D) (o : Outside C) (name : List ℕ) (fields : List (List ℕ)) (a : ScriptRun C) (d : D)
    → o.is_command name ≡ false
    → Leads gives Whatever (does_outside o next_answer name fields) GoesOn a (with_new_status a 127) d d
not_there gives o name fields a d none =
    leads_so gives Whatever (does_outside o next_answer name fields) GoesOn a (with_new_status a 127) d
    (λ before later left is. ap (λ b. either b (λ at'. answered fields at'.answers at') (with_status 127) (standing_of a d before later left)) none)

pub was_called : {C D : Type 0} (gives : CallGives C D) (o : Outside C) (LeavesMemory : Option ℕ → Type 0) (two : Meaning C D)
    (name : List ℕ) (fields : List (List ℕ)) (answer : Reply) (a b c : ScriptRun C) (d mid to : D)
    → o.is_command name ≡ true → gives fields a.commands d answer b.commands mid
    → Leads gives LeavesMemory (replied answer) two (record a { commands = b.commands }) c mid to
    → Leads gives LeavesMemory (does_outside o next_answer name fields) two a c d to
was_called gives o LeavesMemory two name fields answer a b c d mid to is done leads =
    leads_on gives LeavesMemory (does_outside o next_answer name fields) (replied answer) two a (record a { commands = b.commands }) c d mid to
    (record {
      acts = (record { words = fields; before = a.commands; on = d; answer = record { reply = answer; outside = b.commands; device = mid } }) ∷ [];
      called = (done, tt);
      asked = 0;
      does = λ before later left whatever.
          ap (λ x. either x (λ at'. answered fields at'.answers at') (with_status 127) (standing_of a d before ((record { reply = answer; outside = b.commands; device = mid }) ∷ later) (more_grants 0 left))) is
          ∙ ap (λ n. replied answer (standing_of (record a { commands = b.commands }) mid (before ++ (record { words = fields; before = a.commands; on = d; answer = record { reply = answer; outside = b.commands; device = mid } }) ∷ []) later n)) (more-none left);
    }) leads

-- ---- the words of a `for`

pub looped_none : {C D : Type 0} (gives : CallGives C D) (o : Outside C) (name : List ℕ) (words : List (List Atom)) (body : Meaning C D) (a : ScriptRun C) (d : D)
    → expansion_of (script_values o a) a.status words ≡ None
    → Leads gives Whatever (loops o name words body) GoesOn a (with_new_status a 1) d d
looped_none gives o name words body a d none =
    has_then gives Whatever (after_grant_loops o name words body) GoesOn a (with_new_status a 1) d d
    (leads_so gives Whatever (after_grant_loops o name words body) GoesOn a (with_new_status a 1) d
    (λ before later left is. ap (λ v. loops_over o name body v (standing_of a d before later left)) none))

no_rounds : {C D : Type 0} (o : Outside C) (name : List ℕ) (body : Meaning C D) (fields : List (List ℕ)) (at : Standing C D)
    → length fields ≡ 0 → loops_over o name body (Some fields) at ≡ with_status 0 at
no_rounds o name body [] at h = refl
no_rounds o name body (field ∷ later) at h = absurd (omega (arith, h))

some_rounds : {C D : Type 0} (o : Outside C) (name : List ℕ) (body : Meaning C D) (fields : List (List ℕ)) (at : Standing C D)
    → 0 < length fields → loops_over o name body (Some fields) at ≡ rounds o name body fields at
some_rounds o name body [] at h = absurd (omega (arith, h))
some_rounds o name body (field ∷ later) at h = refl

pub looped_over_none : {C D : Type 0} (gives : CallGives C D) (o : Outside C) (name : List ℕ) (words : List (List Atom)) (fields : List (List ℕ)) (body : Meaning C D) (a : ScriptRun C) (d : D)
    → expansion_of (script_values o a) a.status words ≡ Some fields → length fields ≡ 0
    → Leads gives Whatever (loops o name words body) GoesOn a (with_new_status a 0) d d
looped_over_none gives o name words fields body a d some none =
    has_then gives Whatever (after_grant_loops o name words body) GoesOn a (with_new_status a 0) d d
    (leads_so gives Whatever (after_grant_loops o name words body) GoesOn a (with_new_status a 0) d
    (λ before later left is. ap (λ v. loops_over o name body v (standing_of a d before later left)) some ∙ no_rounds o name body fields (standing_of a d before later left) none))

pub looped_over : {C D : Type 0} (gives : CallGives C D) (o : Outside C) (LeavesMemory : Option ℕ → Type 0) (two : Meaning C D)
    (name : List ℕ) (words : List (List Atom)) (fields : List (List ℕ)) (body : Meaning C D) (a b : ScriptRun C) (d to : D)
    → expansion_of (script_values o a) a.status words ≡ Some fields → 0 < length fields
    → Leads gives LeavesMemory (rounds o name body fields) two a b d to
    → Leads gives LeavesMemory (loops o name words body) two a b d to
looped_over gives o LeavesMemory two name words fields body a b d to some few leads =
    has_then gives LeavesMemory (after_grant_loops o name words body) two a b d to
    (leads_as gives LeavesMemory (after_grant_loops o name words body) (rounds o name body fields) two a b d to
    (λ before later left. ap (λ v. loops_over o name body v (standing_of a d before later left)) some ∙ some_rounds o name body fields (standing_of a d before later left) few) leads)

-- ---- a reply

pub reply_done : {C D : Type 0} (gives : CallGives C D) (r : Reply) (status : ℕ) (text : List ℕ) (a b : ScriptRun C) (d : D)
    → r ≡ reply.Done status text → Leads gives Whatever (sends text) GoesOn a b d d
    → Leads gives Whatever (replied r) GoesOn a (with_new_status b status) d d
reply_done gives r status text a b d is leads =
    leads_on gives Whatever (replied r) (with_status status) GoesOn a b (with_new_status b status) d d d
    (leads_as gives Whatever (replied r) (replied (reply.Done status text)) (with_status status) a b d d
    (λ before later left. ap (λ x. replied x (standing_of a d before later left)) is)
    (leads_then gives Whatever (sends text) GoesOn (with_status status) a b d d leads))
    (status_set gives status status b d refl)

pub reply_done_stop : {C D : Type 0} (gives : CallGives C D) (e : ScriptStop) (r : Reply) (status : ℕ) (text : List ℕ) (a b : ScriptRun C) (d : D)
    → r ≡ reply.Done status text → Leads gives (LeftAt e) (sends text) (λ at. Stops e at) a b d d
    → Leads gives (LeftAt e) (replied r) (λ at. Stops e at) a b d d
reply_done_stop gives e r status text a b d is leads =
    leads_as gives (LeftAt e) (replied r) (replied (reply.Done status text)) (λ at. Stops e at) a b d d
    (λ before later left. ap (λ x. replied x (standing_of a d before later left)) is)
    (leads_then gives (LeftAt e) (sends text) (λ at. Stops e at) (with_status status) a b d d leads)

pub reply_started : {C D : Type 0} (gives : CallGives C D) (r : Reply) (text : List ℕ) (a b : ScriptRun C) (d : D)
    → r ≡ reply.Started text → Leads gives Whatever (sends text) GoesOn a b d d
    → Leads gives (LeftAt stop.Started) (replied r) (λ at. Stops stop.Started at) a b d d
reply_started gives r text a b d is leads =
    leads_on gives (LeftAt stop.Started) (replied r) (λ at. Stops stop.Started at) (λ at. Stops stop.Started at) a b b d d d
    (leads_as gives Whatever (replied r) (replied (reply.Started text)) (λ at. Stops stop.Started at) a b d d
    (λ before later left. ap (λ x. replied x (standing_of a d before later left)) is)
    (leads_then gives Whatever (sends text) GoesOn (λ at. Stops stop.Started at) a b d d leads))
    (leads_so gives (LeftAt stop.Started) (λ at. Stops stop.Started at) (λ at. Stops stop.Started at) b b d (λ before later left any. refl))

pub reply_started_stop : {C D : Type 0} (gives : CallGives C D) (e : ScriptStop) (r : Reply) (text : List ℕ) (a b : ScriptRun C) (d : D)
    → r ≡ reply.Started text → Leads gives (LeftAt e) (sends text) (λ at. Stops e at) a b d d
    → Leads gives (LeftAt e) (replied r) (λ at. Stops e at) a b d d
reply_started_stop gives e r text a b d is leads =
    leads_as gives (LeftAt e) (replied r) (replied (reply.Started text)) (λ at. Stops e at) a b d d
    (λ before later left. ap (λ x. replied x (standing_of a d before later left)) is)
    (leads_then gives (LeftAt e) (sends text) (λ at. Stops e at) (λ at. Stops stop.Started at) a b d d leads)

pub reply_fault : {C D : Type 0} (gives : CallGives C D) (r : Reply) (a : ScriptRun C) (d : D)
    → r ≡ reply.Fault → Leads gives (LeftAt stop.Fault) (replied r) (λ at. Stops stop.Fault at) a a d d
reply_fault gives r a d is =
    leads_so gives (LeftAt stop.Fault) (replied r) (λ at. Stops stop.Fault at) a a d
    (λ before later left any. ap (λ x. replied x (standing_of a d before later left)) is)

pub reply_no_memory : {C D : Type 0} (gives : CallGives C D) (r : Reply) (a : ScriptRun C) (d : D)
    → r ≡ reply.NoMemory → Leads gives (LeftAt stop.NoMemory) (replied r) (λ at. Stops stop.NoMemory at) a a d d
reply_no_memory gives r a d is =
    leads_so gives (LeftAt stop.NoMemory) (replied r) (λ at. Stops stop.NoMemory at) a a d
    (λ before later left any. ap (λ x. replied x (standing_of a d before later left)) is)

-- ---- a command of the language's own

pub echo_does : {C D : Type 0} (gives : CallGives C D) (k : BuiltIn) (words : List (List ℕ)) (a b : ScriptRun C) (d : D)
    → k ≡ built_in.Echo → Leads gives Whatever (sends (echo_text words)) GoesOn a b d d
    → Leads gives Whatever (does_built_in k words) GoesOn a (with_new_status b 0) d d
echo_does gives k words a b d is leads =
    leads_on gives Whatever (does_built_in k words) (with_status 0) GoesOn a b (with_new_status b 0) d d d
    (leads_as gives Whatever (does_built_in k words) (does_built_in built_in.Echo words) (with_status 0) a b d d
    (λ before later left. ap (λ x. does_built_in x words (standing_of a d before later left)) is)
    (leads_then gives Whatever (sends (echo_text words)) GoesOn (with_status 0) a b d d leads))
    (status_set gives 0 0 b d refl)

pub echo_stops : {C D : Type 0} (gives : CallGives C D) (e : ScriptStop) (k : BuiltIn) (words : List (List ℕ)) (a b : ScriptRun C) (d : D)
    → k ≡ built_in.Echo → Leads gives (LeftAt e) (sends (echo_text words)) (λ at. Stops e at) a b d d
    → Leads gives (LeftAt e) (does_built_in k words) (λ at. Stops e at) a b d d
echo_stops gives e k words a b d is leads =
    leads_as gives (LeftAt e) (does_built_in k words) (does_built_in built_in.Echo words) (λ at. Stops e at) a b d d
    (λ before later left. ap (λ x. does_built_in x words (standing_of a d before later left)) is)
    (leads_then gives (LeftAt e) (sends (echo_text words)) (λ at. Stops e at) (with_status 0) a b d d leads)

-- one that only has a status
pub status_does : {C D : Type 0} (gives : CallGives C D) (k kind : BuiltIn) (words : List (List ℕ)) (n m : ℕ) (a : ScriptRun C) (d : D)
    → k ≡ kind → ((at : Standing C D) → does_built_in kind words at ≡ with_status m at) → m ≡ n
    → Leads gives Whatever (does_built_in k words) GoesOn a (with_new_status a n) d d
status_does gives k kind words n m a d is does same =
    leads_as gives Whatever (does_built_in k words) (with_status m) GoesOn a (with_new_status a n) d d
    (λ before later left. ap (λ x. does_built_in x words (standing_of a d before later left)) is ∙ does (standing_of a d before later left))
    (status_set gives m n a d same)
