-- Values of keys, pair by pair, and how they are joined.
use Rattle.std.proofs.Common.{◌≡◌, ℕ, ◌+◌, ◌<◌, ◌==◌, Bool, true, false, cond, not, List, [], ◌∷◌, ◌++◌, append-nil, append_assoc, ap, arith, bytes_eq, filter_map, get_or, length, map, refl, sym, take, Option, Some, None, option_to_list, ◌∙◌, Bor}
use Rattle.std.proofs.Math.Dec.{eqb-suc-zero}
use Rattle.std.proofs.lemmas.List.{length-map, length-take-le, map-append, take_more}
use Rattle.std.proofs.lemmas.List.Elements.{filter_map-append}
use Rattle.std.specs.List.{cons_option, join_with_byte, list_any}
use Rattle.bb_bls.specs.Entry.{pair_of, values_of}
use Rattle.bb_bls.specs.References.{text_pair}

value_of_one : (key k v : List ℕ) → values_of key ((k, v) ∷ []) ≡ cond (bytes_eq k key) (v ∷ []) []
value_of_one key k v = by (bytes_eq k key) refl
  where
    by : (b : Bool) → bytes_eq k key ≡ b → values_of key ((k, v) ∷ []) ≡ cond b (v ∷ []) []
    by true e = rw e refl
    by false e = rw e refl

-- one pair more
pub values_more : (key : List ℕ) (pairs : List (Bor (List ℕ) × Bor (List ℕ))) (i : ℕ) (p : Bor (List ℕ) × Bor (List ℕ)) → i < length pairs
    → values_of key (map text_pair (take (i + 1) pairs)) ≡ values_of key (map text_pair (take i pairs)) ++ cond (bytes_eq (get_or pairs i p).0.now key) ((get_or pairs i p).1.now ∷ []) []
values_more key pairs i p inside =
    let q = get_or pairs i p in
    ap (λ l. values_of key (map text_pair l)) (take_more pairs i p inside)
    ∙ ap (values_of key) (map-append text_pair (take i pairs) (q ∷ []))
    ∙ filter_map-append (λ p. cond (bytes_eq p.0 key) (Some p.1) None) (map text_pair (take i pairs)) (text_pair q ∷ [])
    ∙ ap (λ l. values_of key (map text_pair (take i pairs)) ++ l) (value_of_one key q.0.now q.1.now)

-- a pair of the key adds its value, and no other does
pub values_pushed : (key : List ℕ) (pairs : List (Bor (List ℕ) × Bor (List ℕ))) (i : ℕ) (d : Bor (List ℕ) × Bor (List ℕ)) (old new : List (Bor (List ℕ)))
    → i < length pairs → bytes_eq (get_or pairs i d).0.now key ≡ true
    → new ≡ old ++ (get_or pairs i d).1 ∷ []
    → map (λ v. v.now) old ≡ values_of key (map text_pair (take i pairs))
    → map (λ v. v.now) new ≡ values_of key (map text_pair (take (i + 1) pairs))
values_pushed key pairs i d old new inside e pushed h =
    let v = (get_or pairs i d).1 in
    ap (map (λ v. v.now)) pushed ∙ map-append (λ v. v.now) old (v ∷ [])
    ∙ ap (λ l. l ++ v.now ∷ []) h
    ∙ sym (values_more key pairs i d inside ∙ ap (λ (t : Bool). values_of key (map text_pair (take i pairs)) ++ cond t (v.now ∷ []) []) e)

pub values_kept : (key : List ℕ) (pairs : List (Bor (List ℕ) × Bor (List ℕ))) (i : ℕ) (d : Bor (List ℕ) × Bor (List ℕ))
    → i < length pairs → bytes_eq (get_or pairs i d).0.now key ≡ false
    → values_of key (map text_pair (take (i + 1) pairs)) ≡ values_of key (map text_pair (take i pairs))
values_kept key pairs i d inside e =
    values_more key pairs i d inside
    ∙ ap (λ (t : Bool). values_of key (map text_pair (take i pairs)) ++ cond t ((get_or pairs i d).1.now ∷ []) []) e
    ∙ append-nil (values_of key (map text_pair (take i pairs)))

-- a line more
pub pairs_more : (lines : List (Bor (List ℕ))) (line : Bor (List ℕ))
    → filter_map pair_of (map (λ l. l.now) (lines ++ line ∷ [])) ≡ filter_map pair_of (map (λ l. l.now) lines) ++ option_to_list (pair_of line.now)
pairs_more lines line =
    ap (filter_map pair_of) (map-append (λ l. l.now) lines (line ∷ []))
    ∙ filter_map-append pair_of (map (λ l. l.now) lines) (line.now ∷ [])
    ∙ ap (λ l. filter_map pair_of (map (λ l. l.now) lines) ++ l) (one (pair_of line.now))
  where
    one : (o : Option (List ℕ × List ℕ)) → cons_option o [] ≡ option_to_list o
    one (Some p) = refl
    one None = refl

pub any_values : (key : List ℕ) (pairs : List (Bor (List ℕ) × Bor (List ℕ)))
    → list_any (λ p. bytes_eq p.0.now key) pairs ≡ not (length (values_of key (map text_pair pairs)) == 0)
any_values key [] = refl
any_values key (p ∷ more) = by (bytes_eq p.0.now key) refl (any_values key more)
  where
    rest : List (List ℕ)
    rest = values_of key (map text_pair more)

    by : (b : Bool) → bytes_eq p.0.now key ≡ b
        → list_any (λ p. bytes_eq p.0.now key) more ≡ not (length rest == 0)
        → list_any (λ p. bytes_eq p.0.now key) (p ∷ more) ≡ not (length (values_of key (map text_pair (p ∷ more))) == 0)
    by true e ih = rw e (sym (ap not (eqb-suc-zero (length rest))))
    by false e ih = rw e ih

-- ---- joined

join_pushed : (x : List ℕ) (more : List (List ℕ)) (v : List ℕ)
    → join_with_byte 32 (x ∷ (more ++ v ∷ [])) ≡ (join_with_byte 32 (x ∷ more) ++ 32 ∷ []) ++ v
join_pushed x [] v = sym (append_assoc x (32 ∷ []) v)
join_pushed x (y ∷ more) v =
    let rest : List ℕ = join_with_byte 32 (y ∷ more) in
    let step : x ++ (32 ∷ join_with_byte 32 (y ∷ (more ++ v ∷ []))) ≡ x ++ (32 ∷ ((rest ++ 32 ∷ []) ++ v)) = ap (λ l. x ++ (32 ∷ l)) (join_pushed y more v) in
    let shift : ((x ++ (32 ∷ rest)) ++ 32 ∷ []) ++ v ≡ x ++ (32 ∷ ((rest ++ 32 ∷ []) ++ v)) = simp append_assoc in
    step ∙ sym shift

-- after the first
join_more : (values : List (List ℕ)) (v : List ℕ) → 0 < length values
    → join_with_byte 32 (values ++ v ∷ []) ≡ (join_with_byte 32 values ++ 32 ∷ []) ++ v
join_more [] v some = absurd (omega arith)
join_more (x ∷ more) v some = join_pushed x more v

pub join_taken : (values : List (Bor (List ℕ))) (i : ℕ) (d : Bor (List ℕ)) → 0 < i
    → i < length values
    → join_with_byte 32 (map (λ v. v.now) (take (i + 1) values)) ≡ (join_with_byte 32 (map (λ v. v.now) (take i values)) ++ 32 ∷ []) ++ (get_or values i d).now
join_taken values i d some inside =
    let len = length-take-le i values (omega arith) in
    let count = length-map (take i values) (λ (v : Bor (List ℕ)). v.now) in
    ap (λ l. join_with_byte 32 (map (λ v. v.now) l)) (take_more values i d inside)
    ∙ ap (join_with_byte 32) (map-append (λ v. v.now) (take i values) (get_or values i d ∷ []))
    ∙ join_more (map (λ v. v.now) (take i values)) (get_or values i d).now (omega arith)

pub join_first : (values : List (Bor (List ℕ))) (d : Bor (List ℕ)) → 0 < length values
    → join_with_byte 32 (map (λ v. v.now) (take 1 values)) ≡ (get_or values 0 d).now
join_first [] d some = absurd (omega arith)
join_first (v ∷ more) d some = refl
