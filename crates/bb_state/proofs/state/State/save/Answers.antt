use Rattle.std.proofs.Common.{◌≡◌, ◌∙◌, ◌&&◌, Bool, true, false, not, ap, refl, rules}
use Rattle.std.specs.Result.{result_err}
use Rattle.bb_copies.specs.declared.answers.CopyFault.TheVariants.{Unsure}
use Rattle.bb_state.proofs.Handed.{err_is}
use Rattle.bb_state.proofs.Tables.{same_state}
use Rattle.bb_state.proofs.state.State.save.Goals as goal

-- a table that is neither known to be kept nor known to be another isn't known at all
unsure : (sure same : Bool) → (sure && not same) ≡ false → (sure && same) ≡ false → sure ≡ false
unsure true true other kept = kept
unsure true false other kept = other
unsure false same other kept = refl

pub returns-clause-unsure : goal.returns-clause-unsure
returns-clause-unsure g c =
    let known = c.save_always.ensures.save.unsure in
    (λ is. known.0 (ap (λ r. result_err r) is), λ off. err_is c.save_always.result Unsure (known.1 off))

pub returns-clause-unchanged : goal.returns-clause-unchanged
returns-clause-unchanged g c = λ other.
    c.save_always.ensures.unchanged (unsure _ _ other (search rules)) ∙ same_state c.args.self.now _ _

pub returns-clause-save : goal.returns-clause-save
returns-clause-save g c = λ changed. c.save_always.ensures.save
