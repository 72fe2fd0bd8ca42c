-- Where a trail begins, and what each image since then stands for.
use Rattle.std.proofs.Common.{◌≡◌, ℕ, List, [], ◌∷◌, Option, refl}
use Rattle.bb_copies.specs.Trail.{IsTrail, StandsAtOne, next_moment, stages_in, trail_of}

-- a trail begins at the moment that it was given
pub begins_at : (now : ℕ) (h : List (List ℕ)) (a since : ℕ) (saves : List (List ℕ))
    (answered : List ℕ) → next_moment now (trail_of h a since saves answered) ≡ since
unfolding trail_of
begins_at now h a since [] answered = refl
begins_at now h a since (area ∷ saves) [] = refl
begins_at now h a since (area ∷ saves) (when ∷ answered) = refl

-- each image since that moment stands for one of its stages
pub first_stands : (Since : ℕ → List (Option (List ℕ)) → Type 0) (now : ℕ) (first : List ℕ)
    (h : List (List ℕ)) (a since : ℕ) (saves : List (List ℕ)) (answered : List ℕ) →
    IsTrail Since now first (trail_of h a since saves answered) →
    (passed : List (Option (List ℕ))) → Since since passed →
    StandsAtOne first passed (stages_in (trail_of h a since saves answered))
unfolding trail_of
first_stands Since now first h a since [] answered trail = trail.0.images
first_stands Since now first h a since (area ∷ saves) [] trail = trail.0.images
first_stands Since now first h a since (area ∷ saves) (when ∷ answered) trail = trail.0.images
