-- A blob that was written is read back.
use Rattle.std.proofs.Common.{◌≡◌, ℕ, ◌+◌, ◌*◌, ◌%◌, ◌<◌, ◌≤◌, ◌==◌, ◌&&◌, ◌^◌, suc, zero, true, false, List, [], ◌∷◌, ◌++◌, take, drop, length, nat_lt, slice_get, Some, Ok, refl, sym, ap, ◌∙◌, arith, length-append, append_assoc, lit<}
use Rattle.std.specs.List.{flat_map}
use Rattle.std.specs.Option.{option_map}
use Rattle.std.proofs.lemmas.List.{take_all}
use Rattle.std.proofs.lemmas.Bool.Decides.{nat_tests}
use Rattle.std.proofs.Math.Seq.{drop-append_seam, take-append_seam}
use Rattle.byteorder.specs.Numbers.{big_number-reads_back}
use Rattle.bb_tree.specs.Node.{grow, empty}
use Rattle.bb_tree.specs.Blob.{Devicetree, word, double_word, blob_text, header_text, reservation_list, structure_block, strings_block, names_used, offset_of, nodes_text, prop_names}
use Rattle.bb_tree.proofs.Lengths.{length-double_word, length-header, length-reservations}
use Rattle.bb_fdt.specs.Header.{header_word_at, header_of, header_fields, header_or_fault}
use Rattle.bb_fdt.specs.Reading.{double_word_at, pairs_in, part, blob_tree, read_from, with_reserved, blob_of}
use Rattle.bb_fdt.specs.Laws.{AreReserved, IsWritable}
use Rattle.bb_fdt.proofs.PairLemmas.{pairs-end, pairs-more}
use Rattle.bb_fdt.specs.declared.header.Header.{Header}
use Rattle.bb_fdt.specs.Walk.{walk, Before}
use Rattle.bb_fdt.specs.Descent.{walk_from}
use Rattle.bb_fdt.proofs.BackTokens.{word_at-front}
use Rattle.bb_fdt.proofs.BackNodes.{has_all_added, root_read}

-- a word among others
word_behind : (a i : ℕ) (rest : List ℕ) → header_word_at (4 * suc i) (word a
    ++ rest) ≡ header_word_at (4 * i) rest
unfolding header_word_at word
word_behind a i rest = let e : 4 * suc i ≡ suc (suc (suc (suc (4 * i)))) = omega arith in rw e refl

word_among : (words : List ℕ) (i n : ℕ) (rest : List ℕ) → slice_get words i ≡ Some n
    → n < 4294967296 → header_word_at (4 * i) (flat_map word words ++ rest) ≡ n
word_among [] i n rest got small = absurd cc
word_among (w ∷ ws) zero n rest got small =
    let e : w ≡ n = cc in
    ap (header_word_at 0) (append_assoc (word w) (flat_map word ws) rest)
    ∙ ap (λ (m : ℕ). header_word_at 0 (word m ++ (flat_map word ws ++ rest))) e
    ∙ word_at-front n (flat_map word ws ++ rest) small
word_among (w ∷ ws) (suc i) n rest got small =
    ap (header_word_at (4 * suc i)) (append_assoc (word w) (flat_map word ws) rest)
    ∙ word_behind w i (flat_map word ws ++ rest) ∙ word_among ws i n rest got small

-- pairs
double_front : (n : ℕ) (rest : List ℕ) → n < 2 ^ 64 → double_word_at 0 (double_word n ++ rest) ≡ n
unfolding double_word_at double_word
double_front n rest small = big_number-reads_back 8 n rest small

double_behind : (a : ℕ) (rest : List ℕ) → double_word_at 8 (double_word a
    ++ rest) ≡ double_word_at 0 rest
unfolding double_word_at double_word
double_behind a rest = refl

drop-16 : (a b : ℕ) (rest : List ℕ) → drop 16 (double_word a ++ (double_word b ++ rest)) ≡ rest
unfolding double_word
drop-16 a b rest = refl

long_pair : (a b : ℕ) (rest : List ℕ) → 16 ≤ length (double_word a ++ (double_word b ++ rest))
long_pair a b rest = omega (
  arith,
  length-append (double_word a) (double_word b
      ++ rest),
  length-append (double_word b) rest,
  length-double_word a,
  length-double_word b,
)

zeros_end : (rest : List ℕ) → pairs_in 0 (double_word 0 ++ (double_word 0 ++ rest)) ≡ Some []
zeros_end rest =
    let text = double_word 0 ++ (double_word 0 ++ rest) in
    let a : double_word_at 0 text ≡ 0 = double_front 0 (double_word 0 ++ rest) (lit< tt) in
    let b : double_word_at 8 text ≡ 0 = double_behind 0 (double_word 0 ++ rest)
    ∙ double_front 0 rest (lit< tt) in
    pairs-end text (long_pair 0 0 rest) (rw (a, b) refl)

abbrev pair_text : ℕ × ℕ → List ℕ
pair_text p = double_word p.0 ++ double_word p.1

pub pairs_read : (pairs : List (ℕ × ℕ)) (rest : List ℕ) → AreReserved pairs
    → pairs_in 0 (flat_map pair_text pairs ++ (double_word 0 ++ (double_word 0 ++ rest)))
    ≡ Some pairs
pairs_read [] rest are = zeros_end rest
pairs_read (p ∷ ps) rest are =
    let behind = flat_map pair_text ps ++ (double_word 0 ++ (double_word 0 ++ rest)) in
    let text = double_word p.0 ++ (double_word p.1 ++ behind) in
    let whole : flat_map pair_text (p ∷ ps) ++ (double_word 0 ++ (double_word 0 ++ rest)) ≡ text =
    append_assoc (pair_text p) (flat_map pair_text ps) (double_word 0 ++ (double_word 0 ++ rest))
    ∙ append_assoc (double_word p.0) (double_word p.1) behind in
    let a : double_word_at 0 text ≡ p.0 = double_front p.0 (double_word p.1 ++ behind) are.0 in
    let b : double_word_at 8 text ≡ p.1 = double_behind p.0 (double_word p.1 ++ behind)
    ∙ double_front p.1 behind are.1 in
    let some : ((double_word_at 0 text == 0) && (double_word_at 8 text == 0)) ≡ false =
    ap (λ (n : ℕ). (n == 0) && (double_word_at 8 text == 0)) a
    ∙ ap (λ (n : ℕ). (p.0 == 0) && (n == 0)) b ∙ are.2 in
    ap (pairs_in 0) whole ∙ pairs-more text (long_pair p.0 p.1 behind) some
    ∙ ap (λ (n : ℕ). option_map (λ more. (n, double_word_at 8 text) ∷ more)
    (pairs_in 0 (drop 16 text))) a
    ∙ ap (λ (n : ℕ). option_map (λ more. (p.0, n) ∷ more) (pairs_in 0 (drop 16 text))) b
    ∙ ap (λ (l : List ℕ). option_map (λ more. (p.0, p.1) ∷ more) (pairs_in 0 l))
    (drop-16 p.0 p.1 behind)
    ∙ ap (option_map (λ more. (p.0, p.1) ∷ more)) (pairs_read ps rest are.3)

-- the header of blocks of these lengths
abbrev pub header : ℕ → ℕ → ℕ → Header
header r s u = record {
  total = 40 + r + s + u;
  struct_at = 40 + r;
  strings_at = 40 + r + s;
  reserve_at = 40;
  version = 17;
  last_version = 16;
  strings_len = u;
  struct_len = s;
}

abbrev words : ℕ → ℕ → ℕ → List ℕ
words r s u =
    0xD00DFEED ∷ (40 + r + s + u) ∷ (40 + r) ∷ (40 + r + s) ∷ 40 ∷ 17 ∷ 16 ∷ 0 ∷ u ∷ s ∷ []

fields_back : (r s u : ℕ) (rest : List ℕ) → 40 + r + s + u < 4294967296
    → header_fields (header_text r s u ++ rest) ≡ header r s u
fields_back r s u rest short =
    let at : (i n : ℕ) → slice_get (words r s u) i ≡ Some n → n < 4294967296
    → header_word_at (4 * i) (header_text r s u ++ rest) ≡ n =
    λ i n got small. word_among (words r s u) i n rest got small in
    let a = at 1 (40 + r + s + u) refl short in
    let b = at 2 (40 + r) refl (omega arith) in
    let c = at 3 (40 + r + s) refl (omega arith) in
    let d = at 4 40 refl (lit< tt) in
    let e = at 5 17 refl (lit< tt) in
    let f = at 6 16 refl (lit< tt) in
    let g = at 8 u refl (omega arith) in
    let h = at 9 s refl (omega arith) in
    rw (a, b, c, d, e, f, g, h) refl

checked_back : (len r s u k : ℕ) → r ≡ 16 * k + 16 → len ≡ 40 + r + s + u
    → header_or_fault len (header r s u) ≡ Ok (header r s u)
checked_back len r s u k is_r is_len =
    let a : nat_lt (40 + r + s + u) 40 ≡ false = grind (arith, nat_tests) in
    let b : nat_lt len (40 + r + s + u) ≡ false = grind (arith, nat_tests) in
    let aligned : (40 + r) % 4 ≡ 0 = omega arith in
    let c : ((40 + r) % 4 == 0) ≡ true = rw aligned refl in
    let d : nat_lt (40 + r + s + u) (40 + r + s) ≡ false = grind (arith, nat_tests) in
    let e : nat_lt (40 + r + s + u) (40 + r + s + u) ≡ false = grind (arith, nat_tests) in
    rw (a, b, c, d, e) refl

header_back : (r s u k : ℕ) (rest : List ℕ) → r ≡ 16 * k + 16
    → length (header_text r s u ++ rest) ≡ 40 + r + s + u → 40 + r + s + u < 4294967296
    → header_of (header_text r s u ++ rest) ≡ Ok (header r s u)
header_back r s u k rest is_r len short =
    let bytes = header_text r s u ++ rest in
    let long : nat_lt (length bytes) 40 ≡ false = grind (arith, nat_tests) in
    let magic : header_word_at 0 bytes ≡ 0xD00DFEED =
    word_among (words r s u) 0 0xD00DFEED rest refl (lit< tt) in
    rw (long, magic) (ap (header_or_fault (length bytes)) (fields_back r s u rest short)
    ∙ checked_back (length bytes) r s u k is_r len)

walk_is : (strings : List ℕ) (end : ℕ) (text : List ℕ)
    → walk strings end 0 text Before [] ≡ walk_from strings end Before text []
unfolding walk_from
walk_is strings end text = refl

at_seam : (xs ys : List ℕ) (n : ℕ) → n ≡ length xs → drop n (xs ++ ys) ≡ ys
at_seam xs ys n is = ap (λ k. drop k (xs ++ ys)) is ∙ drop-append_seam xs ys

pub read_back : (t : Devicetree) → IsWritable t → blob_of (blob_text t) ≡ Ok t
unfolding blob_text
read_back t writable =
    let names = names_used t.root in
    let r = reservation_list t.reserved in
    let s = structure_block (offset_of names) t.root in
    let u = strings_block names in
    let R = length r in
    let S = length s in
    let U = length u in
    let h = header_text R S U in
    let behind = r ++ (s ++ u) in
    let blob = h ++ behind in
    let nodes = nodes_text (offset_of names) (grow t.root empty) in
    let is_h = length-header R S U in
    let is_r = length-reservations t.reserved in
    let is_s = length-append nodes (word 9) in
    let len : length blob ≡ 40 + R + S + U =
    omega (arith, length-append h behind, length-append r (s ++ u), length-append s u, is_h) in
    let short : 40 + R + S + U < 4294967296 = omega (arith, len, writable.short) in
    let all : take (40 + R + S + U) blob ≡ blob =
    take_all (40 + R + S + U) blob (omega (arith, len)) in
    let front : drop 40 blob ≡ behind = at_seam h behind 40 (sym is_h) in
    let pairs : pairs_in 0 behind ≡ Some t.reserved =
    ap (pairs_in 0) (append_assoc (flat_map pair_text t.reserved) (double_word 0
    ++ double_word 0) (s ++ u)
    ∙ ap (λ l. flat_map pair_text t.reserved ++ l)
    (append_assoc (double_word 0) (double_word 0) (s ++ u)))
    ∙ pairs_read t.reserved (s ++ u) writable.reserved in
    let structure : part blob (40 + R) S ≡ s =
    ap (λ l. take S (drop (40 + R) l)) (sym (append_assoc h r (s ++ u)))
    ∙ ap (take S) (at_seam (h ++ r) (s ++ u) (40 + R) (omega (arith, length-append h r, is_h)))
    ∙ take-append_seam s u in
    let strings : part blob (40 + R + S) U ≡ u =
    ap (λ l. take U (drop (40 + R + S) l))
    (sym (append_assoc h r (s ++ u)) ∙ sym (append_assoc (h ++ r) s u))
    ∙ ap (take U) (at_seam ((h ++ r) ++ s) u (40 + R + S) (omega (
      arith,
      length-append (h
          ++ r) s,
      length-append h r,
      is_h,
    )))
    ∙ take_all U u (omega arith) in
    let root : walk u (40 + R + S) 0 s Before [] ≡ Ok t.root =
    walk_is u (40 + R + S) s
    ∙ root_read names (40 + R + S) t.root writable.root writable.props writable.nodes
    (has_all_added (prop_names (grow t.root empty)) []) (omega (arith, is_s, short))
    (omega (arith, short)) in
    ap (read_from blob) (header_back R S U (length t.reserved) behind is_r len short)
    ∙ ap (λ l. blob_tree (header R S U) l (pairs_in 0 (drop 40 l))) all
    ∙ ap (λ l. blob_tree (header R S U) blob (pairs_in 0 l)) front
    ∙ ap (blob_tree (header R S U) blob) pairs
    ∙ ap (λ l. with_reserved t.reserved (walk l (40 + R + S) 0 (part blob (40 + R) S) Before []))
    strings
    ∙ ap (λ l. with_reserved t.reserved (walk u (40 + R + S) 0 l Before [])) structure
    ∙ ap (with_reserved t.reserved) root
