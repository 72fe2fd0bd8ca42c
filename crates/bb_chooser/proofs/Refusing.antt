-- A refusal comes exactly where it is expected.
use Rattle.std.proofs.Common.{◌≡◌, ◌≢◌, ◌⊎◌, Result, Ok, Err, IfOk, IfErr, refl, subst, sym, ap, ◌∙◌, inl, inr}
use Rattle.bb_chooser.specs.Refusals.{ComesExactly}
use Rattle.bb_chooser.specs.declared.settings_error.SettingsError.{SettingsError}
use Rattle.bb_chooser.specs.declared.settings_error.SettingsError.TheVariants.{BadLine, NoTargets, TargetTwice, BadNumber, BadEvent, NoSuchVariable, NotUint32, NoMemory}

abbrev error_of : {A : Type 0} → SettingsError → Result A SettingsError → SettingsError
error_of d (Ok x) = d
error_of d (Err e) = e

-- the refusal is that memory was refused, or not
memory_or : (e : SettingsError) → (e ≡ NoMemory) ⊎ (e ≢ NoMemory)
memory_or (BadLine n) = inr (λ h. cc)
memory_or NoTargets = inr (λ h. cc)
memory_or (TargetTwice n) = inr (λ h. cc)
memory_or (BadNumber n) = inr (λ h. cc)
memory_or (BadEvent n) = inr (λ h. cc)
memory_or (NoSuchVariable name) = inr (λ h. cc)
memory_or (NotUint32 name) = inr (λ h. cc)
memory_or NoMemory = inl refl

pub exactly : {A B : Type 0} (expected : Result B SettingsError) (view : A → B) (result : Result A SettingsError) (e : SettingsError) → e ≢ NoMemory
    → IfOk result (λ x. expected ≡ Ok (view x)) → IfErr result (λ f. f ≢ NoMemory → expected ≡ Err f) → ComesExactly result e (expected ≡ Err e)
exactly expected view (Ok x) e told ok refused = record {
  only = λ h. cc;
  always = λ h. let g = sym ok ∙ h in cc;
}
exactly expected view (Err f) e told ok refused = record {
  only = λ h. let same : f ≡ e = ap (error_of f) h in subst (λ x. expected ≡ Err x) same (refused (λ m. told (sym same ∙ m)));
  always = λ h. elim (memory_or f) [
    | inl m ↦ inr (ap Err m)
    | inr n ↦ inl (ap Err (ap (error_of f) (sym (refused n) ∙ h)))
  ];
}
