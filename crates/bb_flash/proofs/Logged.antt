-- The record of a board in memory, as it grows by a call.
use Rattle.std.proofs.Common.{◌≡◌, ℕ, suc, ◌+◌, ◌-◌, ◌/◌, ◌≤◌, ◌∙◌, List, [], ◌∷◌, ◌++◌, length, take, drop, reverse, ap, arith, refl, length-append}
use Rattle.std.proofs.lemmas.Grind.{common_steps}
use Rattle.std.proofs.lemmas.List.{take_at, drop_at}
use Rattle.bb_flash.specs.declared.health.Health.{Health}
use Rattle.bb_flash.specs.declared.log.Span.{Span}
use Rattle.bb_flash.specs.Device.{change_of}
use Rattle.bb_flash.specs.Saved.{SavedCall, saved_of, history, image_before}
use Rattle.bb_flash.specs.Image.{Image, Torn, with_items_at, page_count}
use Rattle.bb_flash.proofs.Overwrites.{overwritten_back}

pub saved_of-none : (before : List ℕ) (health : List Health) (bytes : List ℕ) → saved_of [] before health bytes ≡ []
unfolding saved_of
saved_of-none before health bytes = refl

pub length-saved_of : (spans : List Span) (before : List ℕ) (health : List Health) (bytes : List ℕ) → length (saved_of spans before health bytes) ≡ length spans
unfolding saved_of
length-saved_of [] before health bytes = refl
length-saved_of (span ∷ older) before health bytes =
    ap suc
    (length-saved_of older (take (length before - span.bytes) before) (take (length health - span.pages) health) (take (length bytes - span.bytes) bytes))

split_more : {X : Type 0} → (xs ys : List X) → (drop (length (xs ++ ys) - length ys) (xs ++ ys) ≡ ys) × (take (length (xs ++ ys) - length ys) (xs ++ ys) ≡ xs)
split_more xs ys =
    let size : length (xs ++ ys) - length ys ≡ length xs = omega (arith, length-append xs ys) in
    (ap (λ n. drop n (xs ++ ys)) size ∙ drop_at xs ys (length xs) refl, ap (λ n. take n (xs ++ ys)) size ∙ take_at xs ys (length xs) refl)

pub saved_of-more : (spans : List Span) (before : List ℕ) (health : List Health) (bytes : List ℕ) (saved : SavedCall) → length saved.before ≡ length saved.bytes → saved_of (reverse (spans ++ record { at = saved.at; bytes = length saved.bytes; pages = length saved.health } ∷ [])) (before ++ saved.before) (health ++ saved.health) (bytes ++ saved.bytes) ≡ saved ∷ saved_of (reverse spans) before health bytes
unfolding saved_of
saved_of-more spans before health bytes saved same =
    let span : Span = record { at = saved.at; bytes = length saved.bytes; pages = length saved.health } in
    let turned : reverse (spans ++ span ∷ []) ≡ span ∷ reverse spans = grind (arith, common_steps) in
    let old = split_more before saved.before in
    let h = split_more health saved.health in
    let b = split_more bytes saved.bytes in
    let all = before ++ saved.before in
    let pages = health ++ saved.health in
    let every = bytes ++ saved.bytes in
    let step : saved_of (span ∷ reverse spans) all pages every ≡ record { at = saved.at; before = drop (length all - length saved.bytes) all; health = drop (length pages - length saved.health) pages; bytes = drop (length every - length saved.bytes) every } ∷ saved_of (reverse spans) (take (length all - length saved.bytes) all) (take (length pages - length saved.health) pages) (take (length every - length saved.bytes) every) = refl in
    let whole : record { at = saved.at; before = saved.before; health = saved.health; bytes = saved.bytes } ≡ saved = refl in
    cc

pub history-none : (page : ℕ) (image : Image) → history page [] image ≡ []
unfolding history
history-none page image = refl

pub history-more : (page : ℕ) (saved : SavedCall) (older : List SavedCall) (image before : Image) → image_before page saved image ≡ before → history page (saved ∷ older) image ≡ history page older before ++ change_of page saved.at saved.bytes before ∷ []
unfolding history
history-more page saved older image before e = ap (λ b. history page older b ++ change_of page saved.at saved.bytes b ∷ []) e

-- what a call saved of its range is put back
pub restored_is : (page at len : ℕ) (bytes : List ℕ) (before after : Image) → at + len ≤ length before.bytes → at / page + page_count page at len ≤ length before.health → Torn page at len before after → image_before page (record { at = at; before = take len (drop at before.bytes); health = take (page_count page at len) (drop (at / page) before.health); bytes = bytes }) after ≡ before
restored_is page at len bytes before after inside pages torn =
    let image : List ℕ → List Health → Image = λ bytes health. record { bytes = bytes; health = health } in
    let back = overwritten_back at len before.bytes after.bytes inside torn.bytes in
    let health = overwritten_back (at / page) (page_count page at len) before.health after.health pages torn.health in
    ap (λ b. image b (with_items_at (at / page) (take (page_count page at len) (drop (at / page) before.health)) after.health)) back
    ∙ ap (λ h. image before.bytes h) health

-- a call that saved what stood in its range, and then changed it
pub history-saved : (page : ℕ) (saved : SavedCall) (older : List SavedCall) (before after : Image) → let len = length saved.bytes in saved.at + len ≤ length before.bytes → saved.at / page + page_count page saved.at len ≤ length before.health → Torn page saved.at len before after → saved.before ≡ take len (drop saved.at before.bytes) → saved.health ≡ take (page_count page saved.at len) (drop (saved.at / page) before.health) → history page (saved ∷ older) after ≡ history page older before ++ change_of page saved.at saved.bytes before ∷ []
history-saved page saved older before after inside pages torn b h =
    let len = length saved.bytes in
    let of : List ℕ → List Health → SavedCall = λ bs hs. record { at = saved.at; before = bs; health = hs; bytes = saved.bytes } in
    history-more page saved older after before
    (ap (λ bs. image_before page (of bs saved.health) after) b ∙ ap (λ hs. image_before page (of (take len (drop saved.at before.bytes)) hs) after) h ∙ restored_is page saved.at len saved.bytes before after inside pages torn)
