-- What one setting more leaves given.
use Rattle.std.proofs.Common.{◌≡◌, ◌∙◌, ℕ, zero, suc, ◌+◌, Bool, true, false, cond, List, [], ◌∷◌, ◌++◌, String, Option, Some, None, append-nil, arith, map, refl, slice_get, sym, take, ap}
use Rattle.std.proofs.lemmas.Map.Text.{hash_map_updates_text}
use Rattle.std.specs.HashMap.{HashMap, UpdatesBy, get_by_text}
use Rattle.std.specs.Option.{option_or, option_to_list}
use Rattle.std.specs.Str.{bytes_eq}
use Rattle.std.specs.String.{string_bytes, string_eq}
use Rattle.bb_chooser.specs.Reading.{with_setting}
use Rattle.bb_chooser.specs.Settings.{Given, given_by, last_given, target_of, targets_in, prefix_in, attempts_in, priority_in, reset_attempts_in, reset_priorities_in, retry_in, disable_in, boot_of, attempts_of, priority_of}
use Rattle.bb_chooser.specs.declared.setting.Setting.{Setting}

put_later : {A : Type 0} (b : Bool) (v : A) (x : Option A) → cond b (Some v) x ≡ option_or (cond b (Some v) None) x
put_later true v x = refl
put_later false v x = refl

-- a value that is put for a name counts in place of the one before
pub value_put : {Z A S : Type 0} (old new : HashMap (String Z) A S) (key : String Z) (name : List ℕ) (v : A) → string_bytes key ≡ name
    → UpdatesBy string_eq (λ k. bytes_eq (string_bytes key) (string_bytes k)) old new (Some v)
    → (n : List ℕ) → get_by_text new n ≡ option_or (cond (bytes_eq name n) (Some v) None) (get_by_text old n)
value_put old new key name v is h n =
    hash_map_updates_text (string_bytes key) old new (Some v) h n
    ∙ ap (λ (m : List ℕ). cond (bytes_eq m n) (Some v) (get_by_text old n)) is ∙ put_later (bytes_eq name n) v (get_by_text old n)

or_assoc : {A : Type 0} (a b c : Option A) → option_or (option_or a b) c ≡ option_or a (option_or b c)
or_assoc None b c = refl
or_assoc (Some x) b c = refl

or_none : {A : Type 0} (a : Option A) → option_or a None ≡ a
or_none None = refl
or_none (Some x) = refl

-- the last of one setting more
pub last_push : {A : Type 0} (pick : Setting → Option A) (settings : List Setting) (setting : Setting) → last_given pick (settings ++ setting ∷ []) ≡ option_or (pick setting) (last_given pick settings)
last_push pick [] setting = sym (or_none (pick setting))
last_push pick (s ∷ settings) setting = ap (λ o. option_or o (pick s)) (last_push pick settings setting) ∙ or_assoc (pick setting) (last_given pick settings) (pick s)

-- targets keep the names
pub map-target_of : (given : Given) (names : List (List ℕ)) → map (λ t. t.name) (map (target_of given) names) ≡ names
map-target_of given [] = refl
map-target_of given (name ∷ names) = ap (λ l. name ∷ l) (map-target_of given names)

pub take_next : {X : Type 0} (xs : List X) (i : ℕ) (x : X) → slice_get xs i ≡ Some x → take (i + 1) xs ≡ take i xs ++ x ∷ []
take_next [] i x h = cc
take_next (y ∷ xs) zero x h = let e : y ≡ x = cc in ap (λ z. z ∷ []) e
take_next (y ∷ xs) (suc i) x h =
    let e : suc i + 1 ≡ suc (i + 1) = omega arith in
    ap (λ n. take n (y ∷ xs)) e ∙ ap (λ l. y ∷ l) (take_next xs i x h)

-- what the settings give, with one setting more
pub given_push : (settings : List Setting) (setting : Option Setting) → with_setting setting (given_by settings) ≡ given_by (settings ++ option_to_list setting)
given_push settings None = ap given_by (sym (append-nil settings))
given_push settings (Some s) = λ j. record {
  targets = sym (last_push targets_in settings s) j;
  prefix = sym (last_push prefix_in settings s) j;
  attempts = sym (last_push attempts_in settings s) j;
  priority = sym (last_push priority_in settings s) j;
  reset_attempts = sym (last_push reset_attempts_in settings s) j;
  reset_priorities = sym (last_push reset_priorities_in settings s) j;
  retry = sym (last_push retry_in settings s) j;
  disable = sym (last_push disable_in settings s) j;
  boot = λ name. sym (last_push (boot_of name) settings s) j;
  attempts_of = λ name. sym (last_push (attempts_of name) settings s) j;
  priority_of = λ name. sym (last_push (priority_of name) settings s) j;
}
