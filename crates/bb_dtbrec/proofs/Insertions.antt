-- Lists in which items were put somewhere, one after another.
use Rattle.std.proofs.Common.{◌≡◌, ℕ, ◌+◌, ◌||◌, Bool, true, false, List, [], ◌∷◌, ◌++◌, map, refl, sym, ap, ◌∙◌, subst, append_assoc}
use Rattle.std.specs.Prelude.{nat_le}
use Rattle.std.specs.List.{AllByRecursion}
use Rattle.std.proofs.lemmas.Bool.{and_from, and_parts}
use Rattle.bb_dtbrec.specs.declared.piece.Piece.{Piece}
use Rattle.bb_dtbrec.specs.declared.piece.Piece.TheVariants.{Fixed, Value}
use Rattle.bb_dtbrec.specs.declared.piece.Place.{Place}
use Rattle.bb_dtbrec.specs.Dtb.{are_pieces, is_apart, is_size}

module _ {A : Type 0} where
  -- a list with an item more, wherever it stands
  pub record IsInserted (x : A) (before after : List A) : Type 0 where
    pub front : List A
    pub back : List A
    pub from : before ≡ front ++ back
    pub to : after ≡ front ++ x ∷ back

  -- a list with these items more
  abbrev pub AreInserted : List A → List A → List A → Type 0
  AreInserted before [] after = before ≡ after
  AreInserted before (x ∷ xs) after =
      (between : List A) × IsInserted x before between × AreInserted between xs after

  pub behind : (front : List A) (x : A) (before after : List A) → IsInserted x before after →
      IsInserted x (front ++ before) (front ++ after)
  behind front x before after h = record {
    front = front ++ h.front;
    back = h.back;
    from = ap (λ l. front ++ l) h.from ∙ sym (append_assoc front h.front h.back);
    to = ap (λ l. front ++ l) h.to ∙ sym (append_assoc front h.front (x ∷ h.back));
  }

  pub before_others : (back : List A) (x : A) (before after : List A) →
      IsInserted x before after → IsInserted x (before ++ back) (after ++ back)
  before_others back x before after h = record {
    front = h.front;
    back = h.back ++ back;
    from = ap (λ l. l ++ back) h.from ∙ append_assoc h.front h.back back;
    to = ap (λ l. l ++ back) h.to ∙ append_assoc h.front (x ∷ h.back) back;
  }

  pub same_lists : (x : A) (before other after last : List A) → before ≡ other → after ≡ last →
      IsInserted x other last → IsInserted x before after
  same_lists x before other after last e k h =
      record { front = h.front; back = h.back; from = e ∙ h.from; to = k ∙ h.to }

  -- ---- what holds of each item

  all_without : (P : A → Type 0) (front back : List A) (x : A) →
      AllByRecursion P (front ++ x ∷ back) → P x × AllByRecursion P (front ++ back)
  all_without P [] back x h = h
  all_without P (y ∷ front) back x h =
      let rest = all_without P front back x h.1 in (rest.0, (h.0, rest.1))

  all_with : (P : A → Type 0) (front back : List A) (x : A) → P x →
      AllByRecursion P (front ++ back) → AllByRecursion P (front ++ x ∷ back)
  all_with P [] back x p h = (p, h)
  all_with P (y ∷ front) back x p h = (h.0, all_with P front back x p h.1)

  -- holds of the items that were put in
  pub all_inserted : (P : A → Type 0) (before xs after : List A) → AreInserted before xs after →
      AllByRecursion P after → AllByRecursion P xs
  all_inserted P before [] after h all = tt
  all_inserted P before (x ∷ xs) after h all = (
    (all_without P h.1.front h.1.back x
        (subst (AllByRecursion P) h.1.to (all_before P h.0 xs after h.2 all))).0,
    all_inserted P h.0 xs after h.2 all,
  )
    where
      all_before : (P : A → Type 0) (before xs after : List A) → AreInserted before xs after →
          AllByRecursion P after → AllByRecursion P before
      all_before P before [] after h all = subst (AllByRecursion P) (sym h) all
      all_before P before (x ∷ xs) after h all =
          subst (AllByRecursion P) (sym h.1.from)
          (all_without P h.1.front h.1.back x
          (subst (AllByRecursion P) h.1.to (all_before P h.0 xs after h.2 all))).1

  -- what holds of the items before and of those that were put in, holds of all
  pub all_put : (P : A → Type 0) (before xs after : List A) → AreInserted before xs after →
      AllByRecursion P before → AllByRecursion P xs → AllByRecursion P after
  all_put P before [] after h all more = subst (AllByRecursion P) h all
  all_put P before (x ∷ xs) after h all more =
      all_put P h.0 xs after h.2
      (subst (AllByRecursion P) (sym h.1.to)
      (all_with P h.1.front h.1.back x more.0 (subst (AllByRecursion P) h.1.from all)))
      more.1

-- ---- what counts as pieces

-- two variables share no byte
abbrev pub are_apart : Place → Place → Bool
are_apart place other =
    nat_le (place.at + place.size) other.at || nat_le (other.at + other.size) place.at

or_turned : (a b : Bool) → (a || b) ≡ true → (b || a) ≡ true
or_turned true true h = refl
or_turned true false h = refl
or_turned false true h = refl
or_turned false false h = h

apart_with : (place other : Place) (front back : List Piece) → are_apart place other ≡ true →
    is_apart place (front ++ back) ≡ true → is_apart place (front ++ Value other ∷ back) ≡ true
unfolding is_apart
apart_with place other [] back e h = and_from _ _ e h
apart_with place other (Fixed bytes ∷ front) back e h = apart_with place other front back e h
apart_with place other (Value first ∷ front) back e h =
    let parts = and_parts _ _ h in
    and_from _ _ parts.0 (apart_with place other front back e parts.1)

-- the value of a variable that fits an area of so many bytes
pub record IsSized (n : ℕ) (place : Place) : Type 0 where
  pub spelt : is_size place.spelling place.size ≡ true
  pub inside : nat_le (place.at + place.size) n ≡ true

pieces_with : (place : Place) (front back : List Piece) (n : ℕ) → IsSized n place →
    is_apart place (front ++ back) ≡ true → are_pieces (front ++ back) n ≡ true →
    are_pieces (front ++ Value place ∷ back) n ≡ true
unfolding are_pieces is_apart
pieces_with place [] back n sized apart h =
    and_from _ _ (and_from _ _ sized.spelt sized.inside) (and_from _ _ apart h)
pieces_with place (Fixed bytes ∷ front) back n sized apart h =
    pieces_with place front back n sized apart h
pieces_with place (Value first ∷ front) back n sized apart h =
    let parts = and_parts _ _ h in
    let others = and_parts _ _ parts.1 in
    let aparts = and_parts _ _ apart in
    and_from _ _ parts.0
    (and_from _ _
    (apart_with first place front back
    (or_turned
    (nat_le (place.at + place.size) first.at) (nat_le (first.at + first.size) place.at)
    aparts.0)
    others.0)
    (pieces_with place front back n sized aparts.1 others.1))

-- each of these variables shares no byte with those after it
abbrev pub AreApart : {X : Type 0} → (X → Place) → List X → Type 0
AreApart place [] = Unit {0}
AreApart place (x ∷ xs) =
    AllByRecursion (λ y. are_apart (place x) (place y) ≡ true) xs × AreApart place xs

-- variables that share no byte with pieces share none with these and one more, if they share none
-- with that
still_apart : {X : Type 0} (place : X → Place) (x : X) (before after : List Piece) →
    IsInserted (Value (place x)) before after → (ys : List X) →
    AllByRecursion (λ y. are_apart (place x) (place y) ≡ true) ys →
    AllByRecursion (λ y. is_apart (place y) before ≡ true) ys →
    AllByRecursion (λ y. is_apart (place y) after ≡ true) ys
still_apart place x before after h [] apart all = tt
still_apart place x before after h (y ∷ ys) apart all = (
  ap (is_apart (place y)) h.to
      ∙ apart_with (place y) (place x) h.front h.back
      (or_turned
      (nat_le ((place x).at + (place x).size) (place y).at)
      (nat_le ((place y).at + (place y).size) (place x).at)
      apart.0)
      (sym (ap (is_apart (place y)) h.from) ∙ all.0),
  still_apart place x before after h ys apart.1 all.1,
)

-- with values put in, pieces are pieces
pub pieces_inserted : {X : Type 0} (place : X → Place) (n : ℕ) (before after : List Piece)
    (xs : List X) → AreInserted before (map (λ x. Value (place x)) xs) after →
    AllByRecursion (λ x. IsSized n (place x)) xs → AreApart place xs →
    AllByRecursion (λ x. is_apart (place x) before ≡ true) xs → are_pieces before n ≡ true →
    are_pieces after n ≡ true
pieces_inserted place n before after [] h sized apart free are =
    ap (λ l. are_pieces l n) (sym h) ∙ are
pieces_inserted place n before after (x ∷ xs) h sized apart free are =
    let put = h.1 in
    pieces_inserted place n h.0 after xs h.2 sized.1 apart.1
    (still_apart place x before h.0 put xs apart.0 free.1)
    (ap (λ l. are_pieces l n) put.to
    ∙ pieces_with (place x) put.front put.back n sized.0
    (sym (ap (is_apart (place x)) put.from) ∙ free.0)
    (sym (ap (λ l. are_pieces l n) put.from) ∙ are))
