-- Worked contents of three copies, by computation. The area of an empty device is zeros, and three
-- areas are saved over it.
use Rattle.std.proofs.Common.{◌≡◌, ℕ, zero, suc, ◌+◌, List, [], ◌∷◌, ◌++◌, map, take, Option, Some, None, refl, inl, inr, arith}
use Rattle.bb_copies.specs.StandsFor.{Decay, IsAt, KeepsOrTakes, StandsFor, first_passed, marks_left, picked}
use Rattle.bb_copies.specs.Chronicle.{Chronicle, Content, CutOff, Decayed, ChronicleEntry, Finished, Loaded, TurnMakes}
use Rattle.bb_copies.specs.Trail.{Milestone, Stage, session_stages, session_trail, stages_in, trail_of}

abbrev zeros : List ℕ
zeros = 0 ∷ 0 ∷ []

abbrev old : List ℕ
old = 1 ∷ 0 ∷ []

abbrev new : List ℕ
new = 2 ∷ 0 ∷ []

abbrev newer : List ℕ
newer = 3 ∷ 0 ∷ []

-- two saves over it
abbrev areas : List (List ℕ)
areas = zeros ∷ old ∷ new ∷ []

-- ---- new, old, none: a save was cut after its first copy, of three of which one was lost

abbrev cut_save : List (Option (List ℕ))
cut_save = Some new ∷ Some old ∷ None ∷ []

abbrev cut_marks : List (Option ℕ)
cut_marks = Some 2 ∷ Some 1 ∷ None ∷ []

cut_save_stands : StandsFor zeros cut_save areas 1 cut_marks
cut_save_stands = record {
  begins = refl;
  marked = (
    record { acked = omega arith; inside = omega arith; area = refl },
    (record { acked = omega arith; inside = omega arith; area = refl }, (refl, tt)),
  );
  some = inl refl;
}

cut_save_picks : picked cut_marks ≡ 2
cut_save_picks = refl

cut_save_gives : first_passed zeros cut_save ≡ new
cut_save_gives = refl

-- it doesn't stand for them with the new one acknowledged
cut_save_unfinished : StandsFor zeros cut_save areas 2 cut_marks → ⊥
cut_save_unfinished stands = let early = stands.marked.1.0.acked in omega arith

-- ---- none, old, new: the old one is picked, and the new one is given up

abbrev old_first : List (Option (List ℕ))
old_first = None ∷ Some old ∷ Some new ∷ []

abbrev old_marks : List (Option ℕ)
old_marks = None ∷ Some 1 ∷ Some 2 ∷ []

old_first_stands : StandsFor zeros old_first areas 1 old_marks
old_first_stands = record {
  begins = refl;
  marked = (
    refl,
    (
      record { acked = omega arith; inside = omega arith; area = refl },
      (record { acked = omega arith; inside = omega arith; area = refl }, tt),
    ),
  );
  some = inl refl;
}

old_first_picks : picked old_marks ≡ 1
old_first_picks = refl

old_first_gives : first_passed zeros old_first ≡ old
old_first_gives = refl

old_first_cuts : take (picked old_marks + 1) areas ≡ zeros ∷ old ∷ []
old_first_cuts = refl

-- ---- all old

all_old_stands : StandsFor zeros (Some old ∷ Some old ∷ Some old ∷ []) (zeros ∷ old ∷ []) 1
    (Some 1 ∷ Some 1 ∷ Some 1 ∷ [])
all_old_stands = record {
  begins = refl;
  marked = (
    record { acked = omega arith; inside = omega arith; area = refl },
    (
      record { acked = omega arith; inside = omega arith; area = refl },
      (record { acked = omega arith; inside = omega arith; area = refl }, tt),
    ),
  );
  some = inl refl;
}

-- ---- two saves that answered Ok

all_new_stands : StandsFor zeros (Some new ∷ Some new ∷ Some new ∷ []) areas 2
    (Some 2 ∷ Some 2 ∷ Some 2 ∷ [])
all_new_stands = record {
  begins = refl;
  marked = (
    record { acked = omega arith; inside = omega arith; area = refl },
    (
      record { acked = omega arith; inside = omega arith; area = refl },
      (record { acked = omega arith; inside = omega arith; area = refl }, tt),
    ),
  );
  some = inl refl;
}

-- ---- none passes

abbrev blank : List (Option (List ℕ))
blank = None ∷ None ∷ None ∷ []

blank_stands : StandsFor zeros blank (zeros ∷ []) 0 (None ∷ None ∷ None ∷ [])
blank_stands = record { begins = refl; marked = (refl, (refl, (refl, tt))); some = inr refl }

blank_gives : first_passed zeros blank ≡ zeros
blank_gives = refl

blank_picks : picked (None ∷ None ∷ None ∷ []) ≡ 0
blank_picks = refl

-- with all copies lost nothing that was saved is acknowledged
lost_save : StandsFor zeros blank (zeros ∷ old ∷ []) 1 (None ∷ None ∷ None ∷ []) → ⊥
lost_save stands = elim stands.some [ inl some ↦ grind arith | inr first ↦ omega arith ]

-- an area that no save wrote has no mark
strange_place : (place : ℕ) → IsAt (zeros ∷ old ∷ []) 0 (Some newer) place → ⊥
strange_place zero at = let area = at.area in grind arith
strange_place (suc zero) at = let area = at.area in grind arith
strange_place (suc (suc place)) at = let inside = at.inside in omega arith

strange_stands : (place : ℕ) → StandsFor zeros (Some newer ∷ []) (zeros ∷ old ∷ []) 0
    (Some place ∷ []) → ⊥
strange_stands place stands = strange_place place stands.marked.0

-- ---- what happens to copies

new_over_old : KeepsOrTakes new (Some old ∷ Some old ∷ Some old ∷ []) cut_save
new_over_old = (inr refl, (inl (inl refl), (inl (inr refl), tt)))

third_decays : Decay cut_save (None ∷ Some old ∷ None ∷ [])
third_decays = record { each = (inr refl, (inl refl, (inl refl, tt))); spares = λ some. refl }

decayed_marks : marks_left cut_marks (None ∷ Some old ∷ None ∷ []) ≡ None ∷ Some 1 ∷ None ∷ []
decayed_marks = refl

all_decay : Decay cut_save blank → ⊥
all_decay decay = grind (arith, decay.spares refl)

-- ---- a chronicle: the first save, a second one that is cut, a decay of the copy that took it

abbrev at_first : Content
at_first = record { passed = blank; areas = zeros ∷ []; acked = 0; marks = None ∷ None ∷ None ∷ [] }

abbrev saved : Content
saved = record {
  passed = Some old ∷ Some old ∷ Some old ∷ [];
  areas = zeros ∷ old ∷ [];
  acked = 1;
  marks = Some 1 ∷ Some 1 ∷ Some 1 ∷ [];
}

abbrev cut : Content
cut = record { passed = cut_save; areas = areas; acked = 1; marks = cut_marks }

abbrev worn : Content
worn = record {
  passed = None ∷ Some old ∷ None ∷ [];
  areas = areas;
  acked = 1;
  marks = None ∷ Some 1 ∷ None ∷ [];
}

abbrev entries : List ChronicleEntry
entries =
    record { event = Finished (Loaded 0 (old ∷ []) 1 (Some 0)); content = saved }
    ∷ record { event = CutOff (Loaded 1 (new ∷ []) 0 None); content = cut }
    ∷ record { event = Decayed; content = worn }
    ∷ []

first_saved : TurnMakes at_first (Loaded 0 (old ∷ []) 1 (Some 0)) (zeros ∷ old ∷ []) 1
first_saved = record {
  given = refl;
  areas = refl;
  acked = refl;
  most = omega arith;
  least = omega arith;
  start = λ some. refl;
}

second_cut : TurnMakes saved (Loaded 1 (new ∷ []) 0 None) areas 1
second_cut = record {
  given = refl;
  areas = refl;
  acked = refl;
  most = omega arith;
  least = omega arith;
  start = λ some. grind arith;
}

three_events : Chronicle zeros at_first entries
three_events = (
  record { step = first_saved; stands = all_old_stands },
  (
    record { step = second_cut; stands = cut_save_stands },
    (record { decay = third_decays; areas = refl; acked = refl; marks = refl }, tt),
  ),
)

-- nothing is started after a save that did not answer Ok
no_start : TurnMakes saved (Loaded 1 (new ∷ []) 0 (Some 0)) areas 1 → ⊥
no_start step = grind (arith, step.start refl)

-- no save answers Ok that was not begun, and none is begun after one that did not answer Ok
no_other_save : TurnMakes saved (Loaded 1 [] 1 None) (zeros ∷ old ∷ []) 2 → ⊥
no_other_save step = let most = step.most in omega arith

no_save_behind : TurnMakes saved (Loaded 1 (new ∷ newer ∷ []) 0 None) (areas ++ newer ∷ []) 1 → ⊥
no_save_behind step = let least = step.least in omega arith

-- a load gives what the first copy passes, though a later copy passes an older area
no_second : TurnMakes cut (Loaded 1 [] 0 None) (zeros ∷ old ∷ []) 1 → ⊥
no_second step = let given = step.given in omega arith

-- ---- a session of two saves

abbrev stage : List (List ℕ) → ℕ → Stage
stage h a = record { areas = h; acked = a }

-- before, and then saves begun and saves that answered Ok: 0 and 0, 1 and 0, 1 and 1, 2 and 1, 2
-- and 2
abbrev six_stages : List Stage
six_stages =
    stage areas 1
    ∷ stage (zeros ∷ old ∷ []) 1
    ∷ stage (zeros ∷ old ∷ newer ∷ []) 1
    ∷ stage (zeros ∷ old ∷ newer ∷ []) 2
    ∷ stage (zeros ∷ old ∷ newer ∷ new ∷ []) 2
    ∷ stage (zeros ∷ old ∷ newer ∷ new ∷ []) 3
    ∷ []

two_saves : session_stages areas 1 1 (newer ∷ new ∷ []) ≡ six_stages
two_saves = refl

-- a load and a save leave the milestones of their stages
abbrev one_trail : List Milestone
one_trail = session_trail areas 1 7 2 9 (newer ∷ []) (12 ∷ [])

one_save : stages_in one_trail ≡ session_stages areas 1 2 (newer ∷ [])
unfolding trail_of
one_save = refl

-- the moments at which each of its stages began
abbrev moments_in : List Milestone → List ℕ
moments_in trail = map (λ milestone. milestone.since) trail

its_moments : moments_in one_trail ≡ 7 ∷ 9 ∷ 9 ∷ 12 ∷ []
unfolding trail_of
its_moments = refl

-- a second save that was refused began when the first one answered, and is the last stage
refused_moments :
    moments_in (session_trail areas 1 7 2 9 (newer ∷ new ∷ []) (12 ∷ [])) ≡ 7 ∷ 9 ∷ 9 ∷ 12 ∷ 12 ∷ []
unfolding trail_of
refused_moments = refl
