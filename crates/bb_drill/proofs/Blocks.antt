-- The board: fresh, and with pages of a block that are lost and then as before.
use Rattle.std.proofs.Common.{◌≡◌, ℕ, ◌+◌, ◌*◌, ◌<◌, Bool, false, zero, suc, List, [], ◌∷◌, length, replicate, is_some, Option, unwrap_or, slice_get, slice_set, ap, refl, subst, sym, ◌∙◌, arith}
use Rattle.std.specs.Bool.{if◌then◌else◌}
use Rattle.bb_flash.specs.declared.health.Health.{Health}
use Rattle.bb_flash.specs.declared.health.Health.TheVariants.{Lost}
use Rattle.bb_flash.specs.Image.{Image}
use Rattle.bb_flash.specs.Memory.{Memory, fresh_memory}
use Rattle.bb_drill.specs.Board.{BoardState, OnlyLooks, board_geometry, fresh_bytes, fresh_image, fresh_state, board_state_of, with_lost, with_pages}
use Rattle.bb_drill.specs.Running.{Decays}
use Rattle.bb_drill.specs.Tables.{TableRules}

-- ---- fresh

pub fresh_bytes_are : replicate 768 255 ≡ fresh_bytes
unfolding fresh_bytes
fresh_bytes_are = refl

fresh_state_is : (calls room : ℕ) → board_state_of (fresh_memory board_geometry fresh_bytes calls room) ≡ fresh_state
unfolding fresh_image
fresh_state_is calls room = refl

pub fresh_state_of : (board : Memory) (calls room : ℕ) → board ≡ fresh_memory board_geometry fresh_bytes calls room → board_state_of board ≡ fresh_state
fresh_state_of board calls room is = ap board_state_of is ∙ fresh_state_is calls room

-- ---- four pages

-- the health of a page
abbrev page_at : List Health → ℕ → Health
page_at pages page = unwrap_or (slice_get pages page) Lost

-- four items at places of their own
abbrev put : ℕ → ℕ → ℕ → ℕ → Health → Health → Health → Health → List Health → List Health
put i j k l a b c d pages = slice_set (slice_set (slice_set (slice_set pages i a) j b) k c) l d

-- they are put back
abbrev IsPutBack : ℕ → ℕ → ℕ → ℕ → Health → Health → Health → Health → List Health → Type 0
IsPutBack i j k l a b c d pages =
    put i j k l (page_at pages i) (page_at pages j) (page_at pages k) (page_at pages l) (put i j k l a b c d pages) ≡ pages

put_back : (i : ℕ) (a b c d : Health) (pages : List Health) → suc (suc (suc i)) < length pages → IsPutBack i (suc i) (suc (suc i)) (suc (suc (suc i))) a b c d pages
put_back zero a b c d [] h = absurd (omega (arith, h))
put_back zero a b c d (p ∷ []) h = absurd (omega (arith, h))
put_back zero a b c d (p ∷ q ∷ []) h = absurd (omega (arith, h))
put_back zero a b c d (p ∷ q ∷ r ∷ []) h = absurd (omega (arith, h))
put_back zero a b c d (p ∷ q ∷ r ∷ s ∷ pages) h = refl
put_back (suc i) a b c d [] h = absurd (omega (arith, h))
put_back (suc i) a b c d (p ∷ pages) h = ap (λ (more : List Health). p ∷ more) (put_back i a b c d pages (omega (arith, h)))

restored : (first : ℕ) (a b c d : Health) (pages : List Health) → first + 3 < length pages → with_pages first (page_at pages first) (page_at pages (first + 1)) (page_at pages (first + 2)) (page_at pages (first + 3)) (with_pages first a b c d pages) ≡ pages
restored first a b c d pages h =
    let one : suc first ≡ first + 1 = omega arith in
    let two : suc (suc first) ≡ first + 2 = omega arith in
    let three : suc (suc (suc first)) ≡ first + 3 = omega arith in
    subst (λ (j : ℕ). IsPutBack first j (first + 2) (first + 3) a b c d pages) one
    (subst (λ (k : ℕ). IsPutBack first (suc first) k (first + 3) a b c d pages) two
    (subst (λ (l : ℕ). IsPutBack first (suc first) (suc (suc first)) l a b c d pages) three
    (put_back first a b c d pages (omega (arith, h)))))

restored_by : (first : ℕ) (p q r s : Health) (pages : List Health) → first + 3 < length pages → p ≡ page_at pages first → q ≡ page_at pages (first + 1) → r ≡ page_at pages (first + 2) → s ≡ page_at pages (first + 3) → with_pages first p q r s (with_pages first Lost Lost Lost Lost pages) ≡ pages
restored_by first p q r s pages h p_is q_is r_is s_is =
    let lost = with_pages first Lost Lost Lost Lost pages in
    ap (λ (x : Health). with_pages first x q r s lost) p_is
    ∙ ap (λ (x : Health). with_pages first (page_at pages first) x r s lost) q_is
    ∙ ap (λ (x : Health). with_pages first (page_at pages first) (page_at pages (first + 1)) x s lost) r_is
    ∙ ap (λ (x : Health). with_pages first (page_at pages first) (page_at pages (first + 1)) (page_at pages (first + 2)) x lost) s_is
    ∙ restored first Lost Lost Lost Lost pages h

-- no other copy passed, so the pages are as before
pub not_decayed : (rules : TableRules) (copy : ℕ) (old lost seen back : Memory) (p q r s : Health) (passes : Bool) (found : Option (List ℕ)) → copy < 3 → length old.told.image.health * 64 ≡ 768 → p ≡ page_at old.told.image.health (copy * 4) → q ≡ page_at old.told.image.health (copy * 4 + 1) → r ≡ page_at old.told.image.health (copy * 4 + 2) → s ≡ page_at old.told.image.health (copy * 4 + 3) → lost.geometry ≡ old.geometry → board_state_of lost ≡ record (board_state_of old) { image = with_lost copy old.told.image } → OnlyLooks lost seen → back.geometry ≡ seen.geometry → board_state_of back ≡ record (board_state_of seen) { image = record seen.told.image { health = with_pages (copy * 4) p q r s seen.told.image.health } } → found ≡ rules.found lost.told.image → passes ≡ is_some found → passes ≡ false → Decays rules copy old back passes
not_decayed rules copy old lost seen back p q r s passes found inside long p_is q_is r_is s_is lost_geometry lost_state looks back_geometry back_state found_is passes_is none =
    let image = old.told.image in
    let seen_image : seen.told.image ≡ with_lost copy image =
    ap (λ (state : BoardState). state.image) looks.state ∙ ap (λ (state : BoardState). state.image) lost_state
    in
    let back_image : back.told.image ≡ image =
    ap (λ (state : BoardState). state.image) back_state
    ∙ ap (λ (now : Image). record now { health = with_pages (copy * 4) p q r s now.health }) seen_image
    ∙ ap (λ (health : List Health). record image { health = health }) (restored_by (copy * 4) p q r s image.health (omega (arith, inside, long)) p_is q_is r_is s_is)
    in
    record {
      geometry = back_geometry ∙ looks.geometry ∙ lost_geometry;
      starts =
          ap (λ (state : BoardState). state.starts) back_state
          ∙ ap (λ (state : BoardState). state.starts) looks.state
          ∙ ap (λ (state : BoardState). state.starts) lost_state;
      passes = passes_is ∙ ap is_some (found_is ∙ ap (λ (state : BoardState). rules.found state.image) lost_state);
      image = back_image ∙ sym (ap (λ (b : Bool). if b then with_lost copy image else image) none);
    }
