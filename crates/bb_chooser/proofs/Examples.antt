-- Settings, targets and resets by computation, with values from the manual's words.
use Rattle.std.proofs.Common.{◌≡◌, ℕ, List, [], ◌∷◌, Ok, Err, None, Some, codes, refl, true, false}
use Rattle.bb_vars.specs.declared.kind.Kind.TheVariants.{Uint32}
use Rattle.bb_layout.specs.declared.var.Var.{Var}
use Rattle.bb_chooser.specs.Binding.{Binding, bind_from}
use Rattle.bb_chooser.specs.Counting.{chosen_target, mark_good_of, spend_of}
use Rattle.bb_chooser.specs.Keys.{is_target_name}
use Rattle.bb_chooser.specs.Resets.{reset_of}
use Rattle.bb_chooser.specs.Settings.{Configuration}
use Rattle.bb_chooser.specs.Values.{events_in, flag_in, names_value, number_in, prefix_value, without_quotes}
use Rattle.bb_chooser.specs.declared.cause.Cause.TheVariants.{PowerOn, Reset, Other}
use Rattle.bb_chooser.specs.declared.fault.Fault.TheVariants.{BadLine, TargetTwice, BadNumber, BadEvent}
use Rattle.bb_chooser.specs.declared.rules.Rules.{Rules}
use Rattle.bb_chooser.specs.declared.settings_error.SettingsError.TheVariants.{NoSuchVariable}
use Rattle.bb_chooser.specs.declared.target.Target.{Target}

-- ---- values

two_names : names_value (codes " system0  system1") ≡ Ok (codes "system0" ∷ codes "system1" ∷ [])
two_names = refl

no_names : names_value [] ≡ Ok []
no_names = refl

name_twice : names_value (codes "a b a") ≡ Err TargetTwice
name_twice = refl

bad_before_twice : names_value (codes "a a b.c") ≡ Err BadLine
bad_before_twice = refl

key_as_name : is_target_name (codes "retry") ≡ false
key_as_name = refl

between_quotes : without_quotes (codes "\"a b\"") ≡ codes "a b"
between_quotes = refl

one_quote : without_quotes (codes "\"") ≡ codes "\""
one_quote = refl

quote_inside : without_quotes (codes "a\"b\"") ≡ codes "a\"b\""
quote_inside = refl

yes_in_hexadecimal : flag_in (codes "0x1") ≡ Ok true
yes_in_hexadecimal = refl

two_is_no_flag : flag_in (codes "2") ≡ Err BadNumber
two_is_no_flag = refl

largest : number_in (codes "4294967295") ≡ Ok 4294967295
largest = refl

too_large : number_in (codes "4294967296") ≡ Err BadNumber
too_large = refl

two_events : events_in (codes "all-zero power-on") ≡ Ok (record { power_on = true; reset = false; all_zero = true })
two_events = refl

other_event : events_in (codes "noon") ≡ Err BadEvent
other_event = refl

empty_part : prefix_value (codes "state..b") ≡ Err BadLine
empty_part = refl

-- ---- binding

abbrev uint32 : List ℕ → ℕ → Var
uint32 name at = record { name = name; path = name ∷ []; at = at; size = 4; kind = Uint32; default = [] }

abbrev board : List Var
board =
    uint32 (codes "bootstate.system0.remaining_attempts") 0 ∷ uint32 (codes "bootstate.system0.priority") 4
    ∷ uint32 (codes "bootstate.system1.remaining_attempts") 8 ∷ uint32 (codes "bootstate.system1.priority") 12 ∷ uint32 (codes "bootstate.last_chosen") 16 ∷ []

abbrev target : List ℕ → ℕ → ℕ → Target
target name attempts priority = record { name = name; entry = codes "e"; default_attempts = attempts; default_priority = priority }

abbrev rules : Rules
rules = record { reset_attempts = record { power_on = true; reset = false; all_zero = true }; reset_priorities = true; retry = false; disable_on_zero_attempts = true }

abbrev two_systems : List ℕ → Configuration
two_systems prefix = record { targets = target (codes "system0") 3 20 ∷ target (codes "system1") 3 10 ∷ []; prefix = prefix; rules = rules }

abbrev bound : Binding
bound = record {
  targets = record { target = target (codes "system0") 3 20; attempts_at = 0; priority_at = 4 } ∷ record { target = target (codes "system1") 3 10; attempts_at = 8; priority_at = 12 } ∷ [];
  rules = rules;
  last_chosen_at = 16;
  area_len = 20;
}

bound_to_the_board : bind_from (two_systems (codes "state.bootstate")) (codes "state") board 20 ≡ Ok bound
bound_to_the_board = refl

other_state : bind_from (two_systems (codes "other.bootstate")) (codes "state") board 20 ≡ Err (NoSuchVariable (codes "other.bootstate.system0.remaining_attempts"))
other_state = refl

no_path : bind_from (two_systems (codes "state")) (codes "state") board 20 ≡ Err (NoSuchVariable (codes "state.system0.remaining_attempts"))
no_path = refl

-- ---- tables: attempts and priority of system0, then of system1, then the one that was chosen last

abbrev table : ℕ → ℕ → ℕ → ℕ → ℕ → List ℕ
table a p b q last = a ∷ 0 ∷ 0 ∷ 0 ∷ p ∷ 0 ∷ 0 ∷ 0 ∷ b ∷ 0 ∷ 0 ∷ 0 ∷ q ∷ 0 ∷ 0 ∷ 0 ∷ last ∷ 0 ∷ 0 ∷ 0 ∷ []

spend_one : spend_of bound (table 3 20 3 10 0) 0 ≡ table 2 20 3 10 1
spend_one = refl

spend_the_last : spend_of bound (table 3 20 1 10 1) 1 ≡ table 3 20 0 0 2
spend_the_last = refl

none_was_chosen : chosen_target bound (table 3 20 3 10 0) ≡ None
none_was_chosen = refl

the_second_was_chosen : chosen_target bound (table 3 20 3 10 2) ≡ Some 1
the_second_was_chosen = refl

past_the_count : chosen_target bound (table 3 20 3 10 3) ≡ None
past_the_count = refl

marked_good : mark_good_of bound (table 3 20 0 0 2) ≡ table 3 20 3 0 2
marked_good = refl

-- priorities come back where all are 0, and then no attempts are used up
priorities_back : reset_of bound Other (table 1 0 2 0 1) ≡ table 1 20 2 10 1
priorities_back = refl

-- attempts come back where no target with a priority has any
attempts_back : reset_of bound Other (table 0 20 2 0 1) ≡ table 3 20 3 0 1
attempts_back = refl

both_back : reset_of bound Other (table 0 0 0 0 1) ≡ table 3 20 3 10 1
both_back = refl

after_power_on : reset_of bound PowerOn (table 1 20 2 10 1) ≡ table 3 20 3 10 1
after_power_on = refl

after_a_reset : reset_of bound Reset (table 1 20 2 10 1) ≡ table 1 20 2 10 1
after_a_reset = refl
