-- The health of pages that are read in pieces.
use Rattle.std.proofs.Common.{◌≡◌, ◌≢◌, ℕ, zero, suc, ◌+◌, ◌-◌, ◌*◌, ◌/◌, ◌<◌, ◌≤◌, List, [], ◌∷◌, ◌++◌, take, drop, fold, refl, sym, ap, ◌∙◌, arith}
use Rattle.std.proofs.lemmas.Grind.{div_ceil_times}
use Rattle.std.proofs.lemmas.List.{drop-drop}
use Rattle.std.proofs.Math.Nat.{div-mul-le_self, le-div_iff_mul-le, lt_of_mul-lt-mul_right}
use Rattle.std.proofs.Math.Seq.{take-add}
use Rattle.std.specs.Int.{div_ceil}
use Rattle.bb_flash.specs.declared.health.Health.{Health}
use Rattle.bb_flash.specs.declared.health.Health.TheVariants.{Fine, Worn, Lost}
use Rattle.bb_flash.specs.Image.{Image, health_of, page_count, worse_of, worst_of}
use Rattle.bb_flash.proofs.Tearing.{touched_pages-some}

worse_fine : (a : Health) → worse_of a Fine ≡ a
worse_fine Fine = refl
worse_fine Worn = refl
worse_fine Lost = refl

worse_self : (a b : Health) → worse_of a (worse_of a b) ≡ worse_of a b
worse_self Fine b = refl
worse_self Lost b = refl
worse_self Worn Fine = refl
worse_self Worn Worn = refl
worse_self Worn Lost = refl

worse_assoc : (a b c : Health) → worse_of (worse_of a b) c ≡ worse_of a (worse_of b c)
worse_assoc Fine b c = refl
worse_assoc Lost b c = refl
worse_assoc Worn Fine c = refl
worse_assoc Worn Lost c = refl
worse_assoc Worn Worn Fine = refl
worse_assoc Worn Worn Worn = refl
worse_assoc Worn Worn Lost = refl

fold_from : (a : Health) (l : List Health) → fold worse_of a l ≡ worse_of a (worst_of l)
fold_from a [] = sym (worse_fine a)
fold_from a (x ∷ l) =
    fold_from (worse_of a x) l ∙ worse_assoc a x (worst_of l)
    ∙ ap (worse_of a) (sym (fold_from x l))

worst_append : (k l : List Health) → worst_of (k ++ l) ≡ worse_of (worst_of k) (worst_of l)
worst_append [] l = refl
worst_append (x ∷ k) l =
    fold_from x (k ++ l) ∙ ap (worse_of x) (worst_append k l)
    ∙ sym (worse_assoc x (worst_of k) (worst_of l))
    ∙ ap (λ h. worse_of h (worst_of l)) (sym (fold_from x k))

-- two runs of pages that follow each other or share pages
worst_joined : (d c1 c2 c : ℕ) (l : List Health) → d ≤ c1 → c1 ≤ c → c ≡ d + c2 →
    worst_of (take c l) ≡ worse_of (worst_of (take c1 l)) (worst_of (take c2 (drop d l)))
worst_joined d c1 c2 c l h k e =
    let shared : ℕ = c1 - d in
    let more : ℕ = c - c1 in
    let one : c1 ≡ d + shared = omega arith in
    let two : c2 ≡ shared + more = omega arith in
    let all : c ≡ d + (shared + more) = omega arith in
    let x : List Health = take d l in
    let y : List Health = take shared (drop d l) in
    let z : List Health = take more (drop shared (drop d l)) in
    let first : take c1 l ≡ x ++ y = ap (λ n. take n l) one ∙ take-add d shared l in
    let second : take c2 (drop d l) ≡ y ++ z =
    ap (λ n. take n (drop d l)) two ∙ take-add shared more (drop d l) in
    let whole : take c l ≡ x ++ (y ++ z) =
    ap (λ n. take n l) all ∙ take-add d (shared + more) l
    ∙ ap (λ k. x ++ k) (take-add shared more (drop d l)) in
    ap worst_of whole ∙ worst_append x (y ++ z) ∙ ap (worse_of (worst_of x)) (worst_append y z)
    ∙ ap (worse_of (worst_of x)) (sym (worse_self (worst_of y) (worst_of z)))
    ∙ sym (worse_assoc (worst_of x) (worst_of y) (worse_of (worst_of y) (worst_of z)))
    ∙ sym (ap (λ h. worse_of h (worst_of (take c2 (drop d l)))) (ap worst_of first ∙ worst_append x y)
    ∙ ap (worse_of (worse_of (worst_of x) (worst_of y))) (ap worst_of second ∙ worst_append y z))

floor_le : (page x y : ℕ) → 0 < page → x ≤ y → x / page ≤ y / page
floor_le page x y some h =
    (le-div_iff_mul-le some).1 (let t = div-mul-le_self x page in omega arith)

ceil_le : (page x y : ℕ) → 0 < page → x ≤ y → div_ceil x page ≤ div_ceil y page
ceil_le page x y some h =
    let low = div_ceil_times x page some in
    let high = div_ceil_times y page some in
    let wide : div_ceil x page * page < (div_ceil y page + 1) * page = grind arith in
    let less : div_ceil x page < div_ceil y page + 1 = lt_of_mul-lt-mul_right page wide in
    omega arith

floor_ceil : (page x : ℕ) → 0 < page → x / page ≤ div_ceil x page
floor_ceil page x some = omega arith

pub health_joined : (page : ℕ) (image : Image) (at m n : ℕ) → 0 < page →
    health_of page image at (m + n)
    ≡ worse_of (health_of page image at m) (health_of page image (at + m) n)
health_joined page image at zero n some =
    let none : at + zero ≡ at = omega arith in
    let all : zero + n ≡ n = omega arith in
    ap (health_of page image at) all ∙ sym (ap (λ k. health_of page image k n) none)
health_joined page image at (suc m) zero some =
    let all : suc m + zero ≡ suc m = omega arith in
    ap (health_of page image at) all ∙ sym (worse_fine (health_of page image at (suc m)))
health_joined page image at (suc m) (suc n) some =
    let from : ℕ = at / page in
    let middle : ℕ = (at + suc m) / page in
    let sum : at + suc m + suc n ≡ at + (suc m + suc n) = omega arith in
    let one = floor_le page at (at + suc m) some (omega arith) in
    let two = floor_ceil page (at + suc m) some in
    let three = ceil_le page (at + suc m) (at + (suc m + suc n)) some (omega arith) in
    let behind : drop middle image.health ≡ drop (middle - from) (drop from image.health) =
    sym (drop-drop (middle - from) from image.health
    ∙ ap (λ k. drop k image.health) (let t : from + (middle - from) ≡ middle = omega arith in t)) in
    ap worst_of (touched_pages-some page at (suc m + suc n) image.health (omega arith))
    ∙ worst_joined (middle - from) (page_count page at (suc m))
    (div_ceil (at + suc m + suc n) page - middle) (page_count page at (suc m + suc n))
    (drop from image.health) (omega arith) (omega arith)
    (let same = ap (λ k. div_ceil k page) sum in omega arith)
    ∙ sym (ap (λ h. worse_of h (health_of page image (at + suc m) (suc n)))
    (ap worst_of (touched_pages-some page at (suc m) image.health (omega arith)))
    ∙ ap (worse_of (worst_of (take (page_count page at (suc m)) (drop from image.health))))
    (ap worst_of (touched_pages-some page (at + suc m) (suc n) image.health (omega arith))
    ∙ ap (λ l. worst_of (take (page_count page (at + suc m) (suc n)) l)) behind))

alive_parts : (a b : Health) → worse_of a b ≢ Lost → (a ≢ Lost) × (b ≢ Lost)
alive_parts Fine b h = (λ e. cc, h)
alive_parts Lost b h = absurd (h refl)
alive_parts Worn Fine h = (λ e. cc, λ e. cc)
alive_parts Worn Worn h = (λ e. cc, λ e. cc)
alive_parts Worn Lost h = absurd (h refl)

pub alive_both : (a b : Health) → worse_of a b ≢ Lost → (a ≢ Lost) × (b ≢ Lost)
alive_both = alive_parts
