-- Tokens that were written are found.
use Rattle.std.proofs.Common.{◌≡◌, ℕ, ◌+◌, ◌-◌, ◌<◌, ◌==◌, suc, true, false, List, [], ◌∷◌, ◌++◌, drop, length, nat_lt, Some, Ok, refl, sym, ap, ◌∙◌, arith, length-append, append_assoc, lit<}
use Rattle.std.specs.List.{list_all, position_or_len}
use Rattle.std.proofs.lemmas.Bool.{and_parts}
use Rattle.std.proofs.lemmas.Bool.Decides.{nat_tests}
use Rattle.std.proofs.Math.Seq.{drop-append_seam, take-append_seam}
use Rattle.byteorder.specs.Numbers.{big_number-reads_back}
use Rattle.bb_tree.specs.Blob.{word, whole_words, filling, begin_text, prop_text}
use Rattle.bb_tree.proofs.Lengths.{length-word, length-begin, length-prop}
use Rattle.bb_fdt.specs.declared.token_kind.TokenKind.TheVariants.{BeginNode, EndNode, Property, End}
use Rattle.bb_fdt.specs.Header.{header_word_at}
use Rattle.bb_fdt.specs.Tokens.{Token, token_at, token_by, node_at, prop_at, up_to_zero, is_name, is_name_byte, bare, node_token, first_token}
use Rattle.bb_fdt.proofs.TokenLemmas.{here, first_token-here}

pub word_at-front : (n : ℕ) (rest : List ℕ) → n < 4294967296 → header_word_at 0 (word n ++ rest) ≡ n
unfolding header_word_at word
word_at-front n rest small = big_number-reads_back 4 n rest small

pub word_at-4 : (a : ℕ) (rest : List ℕ) → header_word_at 4 (word a ++ rest) ≡ header_word_at 0 rest
unfolding header_word_at word
word_at-4 a rest = refl

pub word_at-8 : (a b : ℕ) (rest : List ℕ) → header_word_at 8 (word a ++ (word b ++ rest)) ≡ header_word_at 0 rest
unfolding header_word_at word
word_at-8 a b rest = refl

drop-4 : (a : ℕ) (rest : List ℕ) → drop 4 (word a ++ rest) ≡ rest
unfolding word
drop-4 a rest = refl

drop-12 : (a b c : ℕ) (rest : List ℕ) → drop 12 (word a ++ (word b ++ (word c ++ rest))) ≡ rest
unfolding word
drop-12 a b c rest = refl

token_known : (w : ℕ) (rest : List ℕ) → w < 4294967296
    → token_at (word w ++ rest) ≡ token_by w (word w ++ rest)
unfolding token_at
token_known w rest small =
    let len = length-append (word w) rest in
    let four = length-word w in
    let test : nat_lt (length (word w ++ rest)) 4 ≡ false = grind (arith, nat_tests) in
    rw (test, word_at-front w rest small) refl

not_zero : (c : ℕ) → is_name_byte c ≡ true → (c == 0) ≡ false
not_zero c is = grind (arith, nat_tests)

-- a name has no zero byte
no_zero : (name rest : List ℕ) → list_all is_name_byte name ≡ true
    → position_or_len (λ c. c == 0) (name ++ 0 ∷ rest) ≡ length name
no_zero [] rest all = refl
no_zero (c ∷ cs) rest all =
    let parts = and_parts (is_name_byte c) (list_all is_name_byte cs) all in
    let step : 1 + length cs ≡ suc (length cs) = omega arith in
    rw (not_zero c parts.0) (ap (λ n. 1 + n) (no_zero cs rest parts.1) ∙ step)

pub ended_name : (name rest : List ℕ) → is_name name ≡ true
    → up_to_zero (name ++ 0 ∷ rest) ≡ Some name
unfolding up_to_zero
ended_name name rest is =
    let place =
    no_zero name rest (and_parts (nat_lt 0 (length name)) (list_all is_name_byte name) is).1 in
    let len = length-append name (0 ∷ rest) in
    let test : nat_lt (length name) (length (name ++ 0 ∷ rest)) ≡ true = grind (arith, nat_tests) in
    rw (place, test) (ap Some (take-append_seam name (0 ∷ rest)))

pub ended_none : (rest : List ℕ) → up_to_zero (0 ∷ rest) ≡ Some []
unfolding up_to_zero
ended_none rest = let test : nat_lt 0 (length (0 ∷ rest)) ≡ true = grind (arith, nat_tests) in
    rw test refl

found : (end : ℕ) (text : List ℕ) (t : Token) → 0 < length text → token_at text ≡ Some t
    → first_token end 0 text ≡ here end text (Some t)
found end text t some is = first_token-here end text some ∙ ap (here end text) is

begin_whole : (name rest : List ℕ) → begin_text name ++ rest ≡ word 1 ++ (name
    ++ 0 ∷ (filling (length name + 1) ++ rest))
begin_whole name rest = append_assoc (word 1) (name ++ 0 ∷ filling (length name + 1)) rest
    ∙ ap (λ l. word 1 ++ l) (append_assoc name (0 ∷ filling (length name + 1)) rest)

begin_token : (name rest : List ℕ) → ((more : List ℕ) → up_to_zero (name ++ 0 ∷ more) ≡ Some name)
    → token_at (begin_text name ++ rest) ≡ Some (node_token name)
unfolding node_at
begin_token name rest ends =
    let behind = name ++ 0 ∷ (filling (length name + 1) ++ rest) in
    let text = begin_text name ++ rest in
    let len = length-append (begin_text name) rest in
    let own = length-begin name in
    let test : nat_lt (3 + whole_words (length name + 1)) (length text) ≡ true =
    grind (arith, nat_tests) in
    let named : up_to_zero (drop 4 text) ≡ Some name =
    ap (λ l. up_to_zero (drop 4 l)) (begin_whole name rest) ∙ ap up_to_zero (drop-4 1 behind)
    ∙ ends (filling (length name + 1) ++ rest) in
    let by : token_at text ≡ node_at text = ap token_at (begin_whole name rest)
    ∙ token_known 1 behind (lit< tt) ∙ ap node_at (sym (begin_whole name rest)) in
    by ∙ rw (named, test) refl

-- FDT_BEGIN_NODE
pub begin_found : (end : ℕ) (name rest : List ℕ)
    → ((more : List ℕ) → up_to_zero (name ++ 0 ∷ more) ≡ Some name)
    → first_token end 0 (begin_text name ++ rest)
    ≡ Ok (record {
      kind = BeginNode;
      bytes = name;
      name_at = 0;
      at = end - length (begin_text name ++ rest);
      rest = rest;
    })
begin_found end name rest ends =
    let text = begin_text name ++ rest in
    let some : 0 < length text =
    omega (arith, length-append (begin_text name) rest, length-begin name) in
    let own : 3 + whole_words (length name + 1) + 1 ≡ length (begin_text name) =
    omega (arith, length-begin name) in
    let behind : drop (3 + whole_words (length name + 1) + 1) text ≡ rest =
    ap (λ n. drop n text) own ∙ drop-append_seam (begin_text name) rest in
    found end text (node_token name) some (begin_token name rest ends)
    ∙ ap (λ (l : List ℕ). Ok (record {
      kind = BeginNode;
      bytes = name;
      name_at = 0;
      at = end - length text;
      rest = l;
    })) behind

-- FDT_END_NODE and FDT_END
pub end_node_found : (end : ℕ) (rest : List ℕ)
    → first_token end 0 (word 2 ++ rest)
    ≡ Ok (record {
      kind = EndNode;
      bytes = [];
      name_at = 0;
      at = end - length (word 2 ++ rest);
      rest = rest;
    })
end_node_found end rest =
    let some : 0 < length (word 2 ++ rest) =
    omega (arith, length-append (word 2) rest, length-word 2) in
    found end (word 2 ++ rest) (bare EndNode) some (token_known 2 rest (lit< tt))
    ∙ ap (λ (l : List ℕ). Ok (record {
      kind = EndNode;
      bytes = [];
      name_at = 0;
      at = end - length (word 2 ++ rest);
      rest = l;
    })) (drop-4 2 rest)

pub end_found_last : (end : ℕ) (rest : List ℕ)
    → first_token end 0 (word 9 ++ rest)
    ≡ Ok (record {
      kind = End;
      bytes = [];
      name_at = 0;
      at = end - length (word 9 ++ rest);
      rest = rest;
    })
end_found_last end rest =
    let some : 0 < length (word 9 ++ rest) =
    omega (arith, length-append (word 9) rest, length-word 9) in
    found end (word 9 ++ rest) (bare End) some (token_known 9 rest (lit< tt))
    ∙ ap (λ (l : List ℕ). Ok (record {
      kind = End;
      bytes = [];
      name_at = 0;
      at = end - length (word 9 ++ rest);
      rest = l;
    })) (drop-4 9 rest)

-- FDT_PROP
prop_whole : (offset : List ℕ → ℕ) (p : List ℕ × List ℕ) (rest : List ℕ)
    → prop_text offset p ++ rest ≡ word 3 ++ (word (length p.1)
    ++ (word (offset p.0) ++ (p.1 ++ (filling (length p.1) ++ rest))))
prop_whole offset p rest =
    append_assoc (word 3) (word (length p.1)
    ++ (word (offset p.0) ++ (p.1 ++ filling (length p.1)))) rest
    ∙ ap (λ l. word 3 ++ l) (append_assoc (word (length p.1)) (word (offset p.0)
    ++ (p.1 ++ filling (length p.1))) rest
    ∙ ap (λ l. word (length p.1) ++ l) (append_assoc (word (offset p.0)) (p.1
    ++ filling (length p.1)) rest
    ∙ ap (λ l. word (offset p.0) ++ l) (append_assoc p.1 (filling (length p.1)) rest)))

prop_token_at : (offset : List ℕ → ℕ) (p : List ℕ × List ℕ) (rest : List ℕ)
    → length p.1 < 4294967296 → offset p.0 < 4294967296
    → token_at (prop_text offset p ++ rest)
    ≡ Some (record {
      kind = Property;
      bytes = p.1;
      name_at = offset p.0;
      behind = 11 + whole_words (length p.1);
    })
unfolding prop_at
prop_token_at offset p rest short small =
    let text = prop_text offset p ++ rest in
    let filled = p.1 ++ (filling (length p.1) ++ rest) in
    let at = word (offset p.0) ++ filled in
    let whole = prop_whole offset p rest in
    let len = length-append (prop_text offset p) rest in
    let own = length-prop offset p in
    let long : nat_lt (length text) 12 ≡ false = grind (arith, nat_tests) in
    let test : nat_lt (11 + whole_words (length p.1)) (length text) ≡ true =
    grind (arith, nat_tests) in
    let is_len : header_word_at 4 text ≡ length p.1 = ap (header_word_at 4) whole
    ∙ word_at-4 3 (word (length p.1) ++ at) ∙ word_at-front (length p.1) at short in
    let is_at : header_word_at 8 text ≡ offset p.0 = ap (header_word_at 8) whole ∙ word_at-8 3 (length p.1) at
    ∙ word_at-front (offset p.0) filled small in
    let is_rest : drop 12 text ≡ filled = ap (drop 12) whole
    ∙ drop-12 3 (length p.1) (offset p.0) filled in
    let by : token_at text ≡ prop_at text = ap token_at whole
    ∙ token_known 3 (word (length p.1) ++ at) (lit< tt) ∙ ap prop_at (sym whole) in
    by ∙ rw (
      long,
      is_len,
      is_at,
      is_rest,
      test,
      take-append_seam p.1
          (filling (length p.1) ++ rest),
    ) refl

pub prop_found : (end : ℕ) (offset : List ℕ → ℕ) (p : List ℕ × List ℕ) (rest : List ℕ)
    → length p.1 < 4294967296 → offset p.0 < 4294967296
    → first_token end 0 (prop_text offset p ++ rest)
    ≡ Ok (record {
      kind = Property;
      bytes = p.1;
      name_at = offset p.0;
      at = end - length (prop_text offset p ++ rest);
      rest = rest;
    })
prop_found end offset p rest short small =
    let text = prop_text offset p ++ rest in
    let some : 0 < length text =
    omega (arith, length-append (prop_text offset p) rest, length-prop offset p) in
    let own : 11 + whole_words (length p.1) + 1 ≡ length (prop_text offset p) =
    omega (arith, length-prop offset p) in
    let behind : drop (11 + whole_words (length p.1) + 1) text ≡ rest = ap (λ n. drop n text) own
    ∙ drop-append_seam (prop_text offset p) rest in
    found end text (record {
      kind = Property;
      bytes = p.1;
      name_at = offset p.0;
      behind = 11 + whole_words (length p.1);
    }) some (prop_token_at offset p rest short small)
    ∙ ap (λ (l : List ℕ). Ok (record {
      kind = Property;
      bytes = p.1;
      name_at = offset p.0;
      at = end - length text;
      rest = l;
    })) behind
