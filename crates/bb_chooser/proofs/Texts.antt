-- Values between quotes, and words in a list.
use Rattle.std.proofs.Common.{◌≡◌, ◌≢◌, ℕ, zero, suc, ◌<◌, Bool, true, false, ◌||◌, List, [], ◌∷◌, ◌++◌, Bor, Ok, Err, String, map, drop, take, eqb, get_or, length, refl, sym, ap, ◌∙◌, inl, inr, codes, arith}
use Rattle.std.proofs.lemmas.Bool.{cases_Bool, false≢true, eqb-true}
use Rattle.std.proofs.lemmas.Bool.Decides.{Decides-eqb}
use Rattle.std.proofs.lemmas.List.Folds.{list_all-map, list_any-append}
use Rattle.std.proofs.lemmas.Slice.Eq.{bytes_eq-Decides, ends_is}
use Rattle.std.specs.List.{ends_with, list_all, list_any}
use Rattle.std.specs.Prelude.{nat_eq}
use Rattle.std.specs.Str.{bytes_eq}
use Rattle.std.specs.String.{string_bytes, string_eq}
use Rattle.std.proofs.lemmas.List.{map-append}
use Rattle.indexmap.specs.IndexSet.{insert_key}
use Rattle.bb_layout.specs.Ranges.{some_pair}
use Rattle.bb_chooser.specs.Keys.{is_target_name}
use Rattle.bb_chooser.specs.Values.{differing_names, events_of, is_event, names_by_texts, quote, without_quotes}
use Rattle.bb_chooser.specs.declared.fault.Fault.TheVariants.{BadLine, BadEvent, TargetTwice}

bytes_eq-swap : (a b : List ℕ) → bytes_eq a b ≡ false → bytes_eq b a ≡ false
bytes_eq-swap a b h =
    elim (cases_Bool (bytes_eq b a)) [
      | inl e ↦ absurd (false≢true (sym h ∙ (bytes_eq-Decides a b).1 (sym ((bytes_eq-Decides b a).0 e))))
      | inr e ↦ e
    ]

-- without a `"` in front a value is itself
pub without_quotes_plain : (bs : List ℕ) → ((rest : List ℕ) → bs ≢ 34 ∷ rest) → without_quotes bs ≡ bs
without_quotes_plain [] h = refl
without_quotes_plain (x ∷ xs) h =
    elim (cases_Bool (eqb 34 x)) [
      | inl e ↦ absurd (h xs (ap (λ y. y ∷ xs) (sym (eqb-true 34 x e))))
      | inr e ↦ rw e refl
    ]

-- and without one at the end after that
pub without_quotes_open : (bs rest : List ℕ) → bs ≡ 34 ∷ rest → ((front : List ℕ) → rest ≢ front ++ 34 ∷ []) → without_quotes bs ≡ bs
without_quotes_open bs rest is h =
    elim (cases_Bool (ends_with nat_eq rest quote)) [
      | inl e ↦ absurd (h _ ((ends_is Decides-eqb rest quote _ refl).0 e))
      | inr e ↦ rw is (rw e refl)
    ]

pub list_any-map : {X Y : Type 0} (p : X → Bool) (f : Y → X) (ys : List Y) → list_any p (map f ys) ≡ list_any (λ y. p (f y)) ys
list_any-map p f [] = refl
list_any-map p f (y ∷ ys) = ap (λ b. p (f y) || b) (list_any-map p f ys)

abbrev pub now : Bor (List ℕ) → List ℕ
now w = w.now

-- the events of words that all are events
pub events_kept : (words : List (Bor (List ℕ))) → list_all (λ w. is_event w.now) words ≡ true
    → events_of (map now words) ≡ Ok (record {
      power_on = list_any (λ w. bytes_eq w.now (codes "power-on")) words;
      reset = list_any (λ w. bytes_eq w.now (codes "reset")) words;
      all_zero = list_any (λ w. bytes_eq w.now (codes "all-zero")) words;
    })
events_kept words h =
    let good : list_all is_event (map now words) ≡ true = list_all-map is_event now words ∙ h in
    rw good (λ j. Ok (record {
      power_on = list_any-map (λ w. bytes_eq w (codes "power-on")) now words j;
      reset = list_any-map (λ w. bytes_eq w (codes "reset")) now words j;
      all_zero = list_any-map (λ w. bytes_eq w (codes "all-zero")) now words j;
    }))

pub events_bad : (words : List (Bor (List ℕ))) → list_all (λ w. is_event w.now) words ≡ false → events_of (map now words) ≡ Err BadEvent
events_bad words h = let bad : list_all is_event (map now words) ≡ false = list_all-map is_event now words ∙ h in rw bad refl

pub names_bad : (words : List (Bor (List ℕ))) → list_all (λ w. is_target_name w.now) words ≡ false → names_by_texts (map now words) ≡ Err BadLine
names_bad words h = let bad : list_all is_target_name (map now words) ≡ false = list_all-map is_target_name now words ∙ h in rw bad refl

pub names_kept : (words : List (Bor (List ℕ))) → list_all (λ w. is_target_name w.now) words ≡ true → names_by_texts (map now words) ≡ differing_names (map now words)
names_kept words h = let good : list_all is_target_name (map now words) ≡ true = list_all-map is_target_name now words ∙ h in rw good refl

or_none : (a b : Bool) → a ≡ false → b ≡ false → (a || b) ≡ false
or_none false b h k = k
or_none true b h k = h

or_parts : (a b : Bool) → (a || b) ≡ false → (a ≡ false) × (b ≡ false)
or_parts false b h = (refl, h)
or_parts true b h = absurd (false≢true (sym h))

or_true : (a : Bool) → (a || true) ≡ true
or_true true = refl
or_true false = refl

or_second : (a b : Bool) → b ≡ true → (a || b) ≡ true
or_second true b h = refl
or_second false b h = h

-- one name more that differs
pub differ_more : (names : List (List ℕ)) (name : List ℕ) → some_pair bytes_eq names ≡ false → list_any (bytes_eq name) names ≡ false → some_pair bytes_eq (names ++ name ∷ []) ≡ false
differ_more [] name d n = refl
differ_more (x ∷ xs) name d n =
    let parts = or_parts (list_any (bytes_eq x) xs) (some_pair bytes_eq xs) d in
    let here = or_parts (bytes_eq name x) (list_any (bytes_eq name) xs) n in
    or_none (list_any (bytes_eq x) (xs ++ name ∷ [])) (some_pair bytes_eq (xs ++ name ∷ []))
    (list_any-append (bytes_eq x) xs (name ∷ []) ∙ or_none (list_any (bytes_eq x) xs) (bytes_eq x name || false) parts.0 (or_none (bytes_eq x name) false (bytes_eq-swap name x here.0) refl))
    (differ_more xs name parts.1 here.1)

-- a name that comes again
pub twice_more : (names more : List (List ℕ)) (name : List ℕ) → list_any (bytes_eq name) names ≡ true → some_pair bytes_eq (names ++ name ∷ more) ≡ true
twice_more [] more name h = absurd (false≢true h)
twice_more (x ∷ xs) more name h = by (bytes_eq name x) refl h (twice_more xs more name)
  where
    by : (b : Bool) → bytes_eq name x ≡ b → (b || list_any (bytes_eq name) xs) ≡ true
        → (list_any (bytes_eq name) xs ≡ true → some_pair bytes_eq (xs ++ name ∷ more) ≡ true) → some_pair bytes_eq (x ∷ xs ++ name ∷ more) ≡ true
    by true e k rest =
        let same : bytes_eq x name ≡ true = (bytes_eq-Decides x name).1 (sym ((bytes_eq-Decides name x).0 e)) in
        let found : list_any (bytes_eq x) (xs ++ name ∷ more) ≡ true = list_any-append (bytes_eq x) xs (name ∷ more) ∙ (rw same (or_true (list_any (bytes_eq x) xs))) in
        rw found refl
    by false e k rest = or_second (list_any (bytes_eq x) (xs ++ name ∷ more)) (some_pair bytes_eq (xs ++ name ∷ more)) (rest k)

-- a name put into a set of names that differ
pub put_differ : {Z : Type 0} (keys : List (String Z)) (key : String Z) → some_pair bytes_eq (map string_bytes keys) ≡ false → some_pair bytes_eq (map string_bytes (insert_key string_eq keys key)) ≡ false
put_differ keys key d = by (list_any (string_eq key) keys) refl
  where
    by : (b : Bool) → list_any (string_eq key) keys ≡ b → some_pair bytes_eq (map string_bytes (insert_key string_eq keys key)) ≡ false
    by true e = rw e d
    by false e =
        rw e (ap (some_pair bytes_eq) (map-append string_bytes keys (key ∷ []))
        ∙ differ_more (map string_bytes keys) (string_bytes key) d (list_any-map (bytes_eq (string_bytes key)) string_bytes keys ∙ e))

take_at : {X : Type 0} (xs : List X) (i : ℕ) (x : X) → i < length xs → x ≡ get_or xs i x → xs ≡ take i xs ++ x ∷ drop (suc i) xs
take_at [] i x inside is = absurd (omega arith)
take_at (y ∷ ys) zero x inside is = ap (λ z. z ∷ ys) (sym is)
take_at (y ∷ ys) (suc i) x inside is = ap (λ l. y ∷ l) (take_at ys i x (omega arith) is)

-- the words before one that is there already
pub twice_at : (words : List (Bor (List ℕ))) (i : ℕ) (word : Bor (List ℕ)) → i < length words → word ≡ get_or words i word
    → list_any (bytes_eq word.now) (map now (take i words)) ≡ true → some_pair bytes_eq (map now words) ≡ true
twice_at words i word inside is found =
    let parts : words ≡ take i words ++ word ∷ drop (suc i) words = take_at words i word inside is in
    ap (λ l. some_pair bytes_eq (map now l)) parts ∙ ap (some_pair bytes_eq) (map-append now (take i words) (word ∷ drop (suc i) words))
    ∙ twice_more (map now (take i words)) (map now (drop (suc i) words)) word.now found

pub get_or_same : {X : Type 0} (xs : List X) (i : ℕ) (d e : X) → i < length xs → get_or xs i d ≡ get_or xs i e
get_or_same [] i d e inside = absurd (omega arith)
get_or_same (x ∷ xs) zero d e inside = refl
get_or_same (x ∷ xs) (suc i) d e inside = get_or_same xs i d e (omega arith)

pub differing_twice : (words : List (List ℕ)) → some_pair bytes_eq words ≡ true → differing_names words ≡ Err TargetTwice
differing_twice words h = rw h refl

pub differing_good : (words : List (List ℕ)) → some_pair bytes_eq words ≡ false → differing_names words ≡ Ok words
differing_good words h = rw h refl
