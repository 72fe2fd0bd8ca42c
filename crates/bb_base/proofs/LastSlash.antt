-- What `rsplit_once` of a text ensures at an ASCII character, by the definition of the same name.
use Rattle.std.proofs.Common.{◌≡◌, ◌≢◌, ℕ, zero, suc, ◌+◌, ◌-◌, ◌<◌, ◌≤◌, List, length, get_or, take, drop, Option, Some, None, MatchOption, option_map, Bor, arith, refl, sym, ap, ◌∙◌, ⊎_elim, ne_eqb, eq-eqb, length-drop, get_or-drop}
use Rattle.std.specs.Path.{rfind_below, rsplit_once}
use Rattle.std.specs.Str.Pattern.{RFindsChar}
use Rattle.std.proofs.lemmas.Bool.{cases_eq, cond-true, cond-false}
use Rattle.std.proofs.lemmas.Str.{len_utf8_ascii}
use Rattle.std.proofs.lemmas.Str.Pattern.{NoCharPasses-char}

rfind_below-None : (c : ℕ) (text : List ℕ) (n : ℕ) → ((i : ℕ) → i < n → get_or text i 0 ≢ c) → rfind_below c text n ≡ None
rfind_below-None c text zero none = refl
rfind_below-None c text (suc n) none =
    cond-false _ _ _ (ne_eqb _ c (none n (omega arith))) ∙ rfind_below-None c text n (λ i l. none i (omega arith))

rfind_below-Some : (c : ℕ) (text : List ℕ) (k n : ℕ) → k < n → get_or text k 0 ≡ c → ((i : ℕ) → k < i → i < n → get_or text i 0 ≢ c) → rfind_below c text n ≡ Some k
rfind_below-Some c text k zero below here later = absurd (omega arith)
rfind_below-Some c text k (suc n) below here later =
    ⊎_elim
    (λ last. cond-true _ _ _ (eq-eqb _ c (ap (λ i. get_or text i 0) (sym last) ∙ here)) ∙ ap Some (sym last))
    (λ other. cond-false _ _ _ (ne_eqb _ c (later n (omega arith) (omega arith))) ∙ rfind_below-Some c text k n (omega arith) here (λ i a l. later i a (omega arith)))
    (cases_eq k n)

pub split_at_last : (c : ℕ) (text : List ℕ) (r : Option (Bor (List ℕ) × Bor (List ℕ)))
    → MatchOption r (RFindsChar c text None) (λ x. (i : ℕ) × (j : ℕ) × RFindsChar c text (Some (i, j)) × (x.0.now ≡ take i text) × (x.1.now ≡ drop j text) × (i ≤ j) × (length x.0.now ≡ i) × (length x.1.now + j ≡ length text))
    → c < 128 → option_map (λ x. (x.0.now, x.1.now)) r ≡ rsplit_once c text
unfolding rsplit_once
split_at_last c text None h low =
    sym (ap (option_map (λ i. (take i text, drop (i + 1) text))) (rfind_below-None c text (length text) (λ i l. NoCharPasses-char c text i h low l)))
split_at_last c text (Some x) h low =
    let i = h.0 in
    let j = h.1 in
    let next : j ≡ i + 1 = omega (arith, h.2.1.ends, len_utf8_ascii c low) in
    let later : (k : ℕ) → i < k → k < length text → get_or text k 0 ≢ c =
    λ k after inside here.
    let back : j + (k - j) ≡ k = omega arith in
    NoCharPasses-char c (drop j text) (k - j) h.2.0 low (omega (arith, length-drop j text)) (get_or-drop j text (k - j) 0 ∙ ap (λ n. get_or text n 0) back ∙ here) in
    let found = rfind_below-Some c text i (length text) (omega (arith, h.7)) (h.2.1.byte low) later in
    let behind = h.4 ∙ ap (λ n. drop n text) next in
    (λ t. Some (h.3 t, behind t)) ∙ sym (ap (option_map (λ k. (take k text, drop (k + 1) text))) found)
