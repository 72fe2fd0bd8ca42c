use Rattle.std.proofs.Common.{◌≡◌, ◌∙◌, ℕ, Bool, true, false, List, Result, Ok, Err, cond, ap, sym, refl}
use Rattle.std.specs.Str.{bytes_eq}
use Rattle.sha2.specs.Sha256.{sha256}
use Rattle.bb_plan.specs.Installing.{digested}
use Rattle.bb_plan.specs.declared.refusal.Refusal.{Refusal}
use Rattle.bb_plan.specs.declared.refusal.Refusal.TheVariants.{BadDigest}
use Rattle.bb_plan.proofs.Readings.{refused_step}
use Rattle.bb_plan.proofs.image.digested.Goals as goal

-- by whether the digest is the one that was given
abbrev Kept : List ℕ → Bool → Result (List ℕ) Refusal
Kept image same = cond same (Ok image) (Err (BadDigest (sha256 image)))

pub returns-in_err-add-clause-gives : goal.returns-in_err-add-clause-gives
returns-in_err-add-clause-gives c =
    refused_step (digested c.args.digest.now c.args.image) (λ (b : List ℕ). b)
    c.from_residual.result c.from_residual.ensures.1 (λ some. absurd (some refl))

pub returns-then-eq-clause-gives : goal.returns-then-eq-clause-gives
returns-then-eq-clause-gives c =
    let found : c.add.new.self ≡ sha256 c.args.image =
    cc (c.in_ok-add.ensures.ok, c.digest_of.ensures, c.as_slice.ensures, c.none-found.ensures) in
    let same : bytes_eq (sha256 c.args.image) c.args.digest.now ≡ true =
    ap (λ (d : List ℕ). bytes_eq d c.args.digest.now) (sym found ∙ sym c.as_slice-2.ensures)
    ∙ sym c.eq.ensures ∙ c.if-eq.true in
    ap (Kept c.args.image) same

pub returns-clause-gives : goal.returns-clause-gives
returns-clause-gives c =
    let found : c.add.new.self ≡ sha256 c.args.image =
    cc (c.in_ok-add.ensures.ok, c.digest_of.ensures, c.as_slice.ensures, c.none-found.ensures) in
    let other : bytes_eq (sha256 c.args.image) c.args.digest.now ≡ false =
    ap (λ (d : List ℕ). bytes_eq d c.args.digest.now) (sym found ∙ sym c.as_slice-2.ensures)
    ∙ sym c.eq.ensures ∙ c.if-eq.false in
    λ some. ap (Kept c.args.image) other ∙ ap (λ d. Err (BadDigest d)) (sym found)
