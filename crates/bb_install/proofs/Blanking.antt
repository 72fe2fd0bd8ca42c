-- What is blank in a slot that was erased, and stays so while pages before it are programmed.
use Rattle.std.proofs.Common.{◌≡◌, ℕ, zero, suc, ◌+◌, ◌-◌, ◌/◌, ◌%◌, ◌<◌, ◌≤◌, ◌∙◌, List, length, take, drop, replicate, ap, sym, refl, arith}
use Rattle.std.proofs.lemmas.List.{drop-replicate, length-replicate, take-replicate}
use Rattle.std.proofs.lemmas.Nat.{le-div}
use Rattle.std.proofs.lemmas.Slice.{drop-append-drop}
use Rattle.bb_flash.specs.declared.health.Health.{Health}
use Rattle.bb_flash.specs.declared.health.Health.TheVariants.{Fine}
use Rattle.bb_flash.specs.Image.{Image, IsBlank, health_of, page_count, touched_pages, with_items_at, worst_of}
use Rattle.bb_flash.proofs.Geometries.{whole_times}
use Rattle.bb_flash.proofs.Tearing.{touched_pages-some}
use Rattle.bb_bucket.specs.Front.{put_at}
use Rattle.bb_bucket.specs.FrontLaws.{written_fine}
use Rattle.bb_install.specs.Parts.{EachBlank}
use Rattle.bb_install.proofs.Putting.{items_front, pages_whole, put_is}
use Rattle.bb_install.proofs.Standing.{fine_alive, put_behind, put_bytes}

-- each part of what 0xFF was written over is blank
pub each_blank : (page size : ℕ) (before part : Image) → 0 < page → part ≡ put_at page 0 (replicate size 255) before → EachBlank page size part
each_blank page size before part some is at n fits =
    let bytes : List ℕ = replicate size 255 in
    let len : length bytes ≡ size = length-replicate {A = ℕ} size 255 in
    let inside : at + n ≤ length bytes = omega arith in
    record {
      clean =
          ap (λ (p : Image). take n (drop at p.bytes)) is ∙ put_bytes page bytes before at n inside
          ∙ ap (take n) (drop-replicate at size 255)
          ∙ take-replicate n (size - at) 255 (omega arith);
      alive = fine_alive _ (ap (λ (p : Image). health_of page p at n) is ∙ written_fine page bytes before at n some inside);
    }

touched_past : (page at n : ℕ) (front pages : List Health) → length front ≤ at / page → touched_pages page at n (with_items_at 0 front pages) ≡ touched_pages page at n pages
touched_past page at zero front pages past = refl
touched_past page at (suc n) front pages past =
    touched_pages-some page at (suc n) (with_items_at 0 front pages) (omega arith)
    ∙ ap (λ xs. take (page_count page at (suc n)) (drop (at / page) xs)) (items_front front pages)
    ∙ ap (take (page_count page at (suc n))) (drop-append-drop (length front) pages front (at / page) past refl)
    ∙ sym (touched_pages-some page at (suc n) pages (omega arith))

-- it stays so behind whole pages that are written to the start
pub still_blank : (page size at n : ℕ) (xs : List ℕ) (part now : Image) → 0 < page → length xs % page ≡ 0 → length xs ≤ at → at + n ≤ size → now ≡ put_at page 0 xs part → EachBlank page size part → IsBlank page now at n
still_blank page size at n xs part now some whole past fits is blank =
    let there = blank at n fits in
    let times = whole_times (length xs) page whole in
    let front : List Health = replicate (page_count page 0 (length xs)) Fine in
    let count : length front ≡ length xs / page = length-replicate {A = Health} (page_count page 0 (length xs)) Fine ∙ pages_whole page (length xs) some whole in
    let order : length xs / page ≤ at / page = le-div (length xs / page) at page some (omega arith) in
    let health : health_of page now at n ≡ health_of page part at n =
    ap (λ (p : Image). health_of page p at n) (is ∙ put_is page xs part)
    ∙ ap worst_of (touched_past page at n front part.health (omega arith)) in
    record {
      clean = ap (λ (p : Image). take n (drop at p.bytes)) is ∙ put_behind page xs part at n past ∙ there.clean;
      alive = λ lost. there.alive (sym health ∙ lost);
    }
