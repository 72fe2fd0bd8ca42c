-- What is true of a value that steps gave, one after another.
use Rattle.std.proofs.Common.{◌≡◌, Bool, true, false, Result, Ok, Err, IfOk, cond, Option, Some, None, refl, subst}
use Rattle.std.specs.Option.{option_map_or}
use Rattle.bb_layout.specs.Results.{result_and_then}

pub then_ok : {A B E : Type 0} (P : B → Type 0) (next : A → Result B E) (r : Result A E) →
    ((x : A) → r ≡ Ok x → IfOk (next x) P) → IfOk (result_and_then next r) P
then_ok P next (Ok x) each = each x refl
then_ok P next (Err e) each = tt

pub if_ok : {A E : Type 0} (P : A → Type 0) (r : Result A E) (x : A) → r ≡ Ok x → IfOk r P → P x
if_ok P r x is h = subst (λ s. IfOk s P) is h

-- one of two, by a test
pub either_ok : {A E : Type 0} (P : A → Type 0) (b : Bool) (r s : Result A E) →
    IfOk r P → IfOk s P → IfOk (cond b r s) P
either_ok P true r s h g = h
either_ok P false r s h g = g

-- one that is made of a value, where there is one
pub made_ok : {A B E : Type 0} (P : B → Type 0) (f : A → Result B E) (o : Option A) (e : E) →
    ((x : A) → IfOk (f x) P) → IfOk (option_map_or f o (Err e)) P
made_ok P f None e each = tt
made_ok P f (Some x) e each = each x
