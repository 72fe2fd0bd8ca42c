-- One turn of the loop that gives phandles.
use Rattle.std.proofs.Common.{◌≡◌, ◌+◌, ◌-◌, ◌^◌, ◌<◌, ◌≤◌, ◌++◌, ◌∷◌, [], ℕ, zero, suc, List, Bool, true, false, ◌||◌, cond, eqb, length, Option, Some, None, fold, codes, take, slice_get, refl, sym, ap, ◌∙◌, subst, arith, inl, inr}
use Rattle.std.specs.Option.{option_and_then, is_none}
use Rattle.std.specs.Int.{to_be_bytes, w32}
use Rattle.std.specs.Map.{lookup}
use Rattle.std.specs.Str.{bytes_eq}
use Rattle.std.proofs.lemmas.Bool.{cases_Bool, ne_eqb}
use Rattle.std.proofs.lemmas.Nat.{from_be_bytes-to_be_bytes_4}
use Rattle.bb_tree.specs.declared.part.Part.{Part}
use Rattle.bb_tree.specs.declared.part.Part.TheVariants.{Bytes}
use Rattle.bb_tree.specs.declared.slot.Slot.{Slot}
use Rattle.bb_tree.specs.Node.{Branch}
use Rattle.bb_tree.specs.Paths.{node_at}
use Rattle.bb_tree.specs.Merge.{put, reached}
use Rattle.bb_tree.specs.Phandle.{phandle_in, phandle_by}
use Rattle.bb_tree.specs.Resolve.{literal, phandle_among, phandles, with_phandle, with_new_phandle, least_free}
use Rattle.bb_tree.specs.Slots.{IsSound, LeadTo, spine, props_at, slots_tree, with_prop}
use Rattle.bb_tree.specs.Taking.{is_taken, TakenBelow, GivesPhandles, GivesBy, AreTaken, LeadAll, IsNumbered}
use Rattle.bb_tree.proofs.Changing.{bytes_eq-refl}
use Rattle.bb_tree.specs.Spine.{nodes_under}
use Rattle.bb_tree.proofs.Below.{take_next}
use Rattle.bb_tree.proofs.Spine.{node_walk}
use Rattle.bb_tree.proofs.Finding.{walk_within}
use Rattle.bb_tree.proofs.Takings.{has-append}
use Rattle.bb_tree.proofs.Numbering.{numbers_reached, least_is}

lookup-put : {X : Type 0} (n : List ℕ) (ps : List (List ℕ × X)) (v : X)
    → lookup (bytes_eq n) (put ps n v) ≡ Some v
lookup-put n [] v = let e = bytes_eq-refl n in rw e
lookup-put n (p ∷ ps) v =
    elim (cases_Bool (bytes_eq n p.0)) [
      | inl e ↦ rw (e, e)
      | inr e ↦ rw (e, e) (lookup-put n ps v)
    ]

phandle_made : (n : ℕ) → 1 ≤ n → n < 2 ^ 32 - 1 → phandle_in (to_be_bytes w32 n ++ []) ≡ Some n
phandle_made n a b =
    let e = from_be_bytes-to_be_bytes_4 n (omega arith) in
    let f = ne_eqb n 0 (λ q. omega arith) in
    let g = ne_eqb n 0xFFFFFFFF (λ q. omega arith) in
    rw (e, f, g)

last_first : (m n : ℕ) (a : Bool) → (a || is_taken (n ∷ []) m) ≡ (eqb m n || a)
last_first m n a =
    elim (cases_Bool (eqb m n)) [ inl e ↦ rw e (or_true a) | inr e ↦ rw e (or_false a) ]
  where
    or_true : (b : Bool) → (b || true) ≡ true
    or_true true = refl
    or_true false = refl

    or_false : (b : Bool) → (b || false) ≡ b
    or_false true = refl
    or_false false = refl

or_left : (a b : Bool) → a ≡ true → (a || b) ≡ true
or_left true b e = refl
or_left false b e = cc

-- the tree, where one more node was referred to
pub referred_next : (slots new : List Slot) (k n : ℕ) (ns : List (List ℕ)) (taken more : List ℕ)
    → IsSound slots → LeadTo slots ns k → AreTaken slots taken → GivesPhandles k slots new taken more n
    → (slots_tree new ≡ with_phandle (slots_tree slots) ns) × AreTaken new more
referred_next slots new k n ns taken more sound w t g =
    go (phandle_among (props_at slots k)) refl g
    (node_walk (props_at slots) (spine slots) sound.rising ns k w)
  where
    go : (o : Option ℕ) → phandle_among (props_at slots k) ≡ o → GivesBy o k slots new taken more n
        → (m : List ℕ) × (node_at ns (slots_tree slots)
        ≡ Some (record {
          name = m;
          props = props_at slots k;
          nodes = nodes_under (props_at slots) 1 (spine slots) k;
        }))
        → (slots_tree new ≡ with_phandle (slots_tree slots) ns) × AreTaken new more
    go (Some h) q v at =
        let tree = slots_tree slots in
        let has_one : option_and_then (phandle_by literal) (node_at ns tree) ≡ Some h =
        ap (option_and_then (phandle_by literal)) at.1 ∙ q in (
          ap slots_tree v.0.kept
              ∙ sym (ap (λ (o : Option ℕ). cond (is_none o) (with_new_phandle tree ns) tree)
              has_one),
          λ m. ap (λ l. is_taken l m) v.0.more_is ∙ t m
              ∙ ap (λ (s : List Slot). is_taken (phandles (slots_tree s)) m) (sym v.0.kept),
        )
    go None q v at =
        let tree = slots_tree slots in
        let F = with_prop (codes "phandle") (Bytes (to_be_bytes w32 n) ∷ []) in
        let b : Branch (List Part) = record {
          name = at.0;
          props = props_at slots k;
          nodes = nodes_under (props_at slots) 1 (spine slots) k;
        } in
        let has_none : option_and_then (phandle_by literal) (node_at ns tree) ≡ None =
        ap (option_and_then (phandle_by literal)) at.1 ∙ q in
        let least : least_free (phandles tree) ≡ n =
        least_is (phandles tree) n v.some (λ m a b. sym (t m) ∙ v.least m a b)
        (sym (t n) ∙ v.free) in
        let changed : slots_tree new ≡ reached ns F tree = v.changes.tree ns w in
        let some : phandle_among (put (props_at slots k) (codes "phandle") (Bytes (to_be_bytes w32
        n) ∷ [])) ≡ Some n =
        ap (option_and_then (λ (parts : List Part). phandle_in (literal parts)))
        (lookup-put (codes "phandle") (props_at slots k) (Bytes (to_be_bytes w32 n) ∷ []))
        ∙ phandle_made n v.some v.within in (
          changed ∙ ap (λ (j : ℕ). reached ns (with_prop (codes "phandle") (Bytes (to_be_bytes w32
              j) ∷ [])) tree) (sym least)
              ∙ sym (ap (λ (o : Option ℕ). cond (is_none o) (with_new_phandle tree ns) tree)
              has_none),
          λ m. ap (λ l. is_taken l m) v.more_is ∙ has-append taken (n ∷ []) m
              ∙ last_first m n (is_taken taken m) ∙ ap (λ z. eqb m n || z) (t m)
              ∙ sym (numbers_reached phandle_among m n F ns tree b at.1 q some (λ x. refl))
              ∙ ap (λ (z : Branch (List Part)). is_taken (phandles z) m) (sym changed),
        )

-- names lead where they led, and numbers that were taken are taken
pub record Goes (now new : List Slot) (more : List ℕ) (n : ℕ) : Type 0 where
  pub sound : IsSound new
  pub longer : length now ≤ length new
  pub leads : (names : List (List ℕ)) (c : ℕ) → LeadTo now names c → LeadTo new names c
  pub some : 1 ≤ n
  pub below : TakenBelow more n

pub Goes-from : (k n : ℕ) (now new : List Slot) (taken more : List ℕ) → IsSound now
    → GivesPhandles k now new taken more n → Goes now new more n
Goes-from k n now new taken more sound g = go (phandle_among (props_at now k)) g
  where
    go : (o : Option ℕ) → GivesBy o k now new taken more n → Goes now new more n
    go (Some h) v = record {
      sound = subst IsSound (sym v.0.kept) sound;
      longer = omega (arith, ap length v.0.kept);
      leads = λ names c w. subst (λ (s : List Slot). LeadTo s names c) (sym v.0.kept) w;
      some = v.1;
      below = λ m a b. ap (λ l. is_taken l m) v.0.more_is ∙ v.2 m a b;
    }
    go None v = record {
      sound = v.changes.sound;
      longer = v.changes.longer;
      leads = v.changes.leads;
      some = v.some;
      below = λ m a b. ap (λ l. is_taken l m) v.more_is ∙ has-append taken (n ∷ []) m
          ∙ or_left (is_taken taken m) (is_taken (n ∷ []) m) (v.least m a b);
    }

fold-push : (t : Branch (List Part)) (names : List (List (List ℕ))) (ns : List (List ℕ))
    → fold with_phandle t (names ++ ns ∷ []) ≡ with_phandle (fold with_phandle t names) ns
fold-push t [] ns = refl
fold-push t (n ∷ names) ns = fold-push (with_phandle t n) names ns

abbrev SplitsInto : List Slot → List (List (List ℕ)) → List ℕ → ℕ → Type 0
SplitsInto slots names ks k = (ns : List (List ℕ)) × (front : List (List (List ℕ))) × (names
    ≡ front ++ ns ∷ []) × LeadAll slots front ks × LeadTo slots ns k

LeadAll-split : (slots : List Slot) (names : List (List (List ℕ))) (ks : List ℕ) (k : ℕ)
    → LeadAll slots names (ks ++ k ∷ []) → SplitsInto slots names ks k
LeadAll-split slots [] [] k l = absurd l
LeadAll-split slots [] (j ∷ ks) k l = absurd l
LeadAll-split slots (ns ∷ []) [] k l = (ns, [], refl, tt, l.0)
LeadAll-split slots (ns ∷ m ∷ names) [] k l = absurd l.1
LeadAll-split slots (ns ∷ names) (j ∷ ks) k l =
    let v = LeadAll-split slots names ks k l.1 in
    (v.0, ns ∷ v.1, ap (λ x. ns ∷ x) v.2, (l.0, v.3), v.4)

pub LeadAll-at : (slots : List Slot) (names : List (List (List ℕ))) (ks : List ℕ) (i k : ℕ)
    → LeadAll slots names ks → slice_get ks i ≡ Some k → (ns : List (List ℕ)) × LeadTo slots ns k
LeadAll-at slots [] [] i k l g = cc
LeadAll-at slots (ns ∷ names) [] i k l g = cc
LeadAll-at slots [] (j ∷ ks) i k l g = absurd l
LeadAll-at slots (ns ∷ names) (j ∷ ks) zero k l g = let e : j ≡ k = cc in
    (ns, subst (λ (x : ℕ). LeadTo slots ns x) e l.0)
LeadAll-at slots (ns ∷ names) (j ∷ ks) (suc i) k l g = LeadAll-at slots names ks i k l.1 g

pub IsNumbered-next : (targets : List ℕ) (i k n : ℕ) (old now new : List Slot) (taken more : List ℕ)
    → slice_get targets i ≡ Some k → IsNumbered (take i targets) old now → AreTaken now taken
    → GivesPhandles k now new taken more n → IsNumbered (take (i + 1) targets) old new
IsNumbered-next targets i k n old now new taken more g h t v =
    let goes = Goes-from k n now new taken more h.sound v in
    record {
      sound = goes.sound;
      longer = omega (arith, h.longer, goes.longer);
      leads = λ names c w. goes.leads names c (h.leads names c w);
      tree = λ names l.
          let s = LeadAll-split old names (take i targets) k
          (subst (LeadAll old names) (take_next targets i k g) l) in
          (referred_next now new k n s.0 taken more h.sound (h.leads s.0 k s.4) t v).0
          ∙ ap (λ (x : Branch (List Part)). with_phandle x s.0) (h.tree s.1 s.3)
          ∙ sym (fold-push (slots_tree old) s.1 s.0)
          ∙ ap (fold with_phandle (slots_tree old)) (sym s.2);
    }

pub IsNumbered-none : (slots : List Slot) → IsSound slots → IsNumbered [] slots slots
IsNumbered-none slots sound = record {
  sound = sound;
  longer = omega arith;
  leads = λ names c w. w;
  tree = λ names l. none names l;
}
  where
    none : (names : List (List (List ℕ))) → LeadAll slots names []
        → slots_tree slots ≡ fold with_phandle (slots_tree slots) names
    none [] l = refl
    none (ns ∷ names) l = absurd l

-- names lead to a slot of the list, or to the root
pub lead_within : (slots : List Slot) (ns : List (List ℕ)) (k : ℕ) → LeadTo slots ns k
    → k < 1 + length (spine slots)
lead_within slots ns k w = walk_within 1 (spine slots) 0 ns k (omega arith) w
