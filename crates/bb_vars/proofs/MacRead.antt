-- A MAC address that is printed reads back, and one that is read prints in lower case.
use Rattle.std.proofs.Common.{◌≡◌, ℕ, ◌+◌, ◌<◌, ◌==◌, Bool, cond, true, false, ◌&&◌, List, [], ◌∷◌, Option, Some, None, length, map, get_or, arith, refl, ap, lit<}
use Rattle.std.proofs.lemmas.Bool.{eqb-true}
use Rattle.std.proofs.lemmas.Option.{none-some}
use Rattle.std.specs.List.{All}
use Rattle.std.specs.Str.{str_to_ascii_lowercase}
use Rattle.bb_vars.specs.Mac.{pair_text, byte_of_pair, all_of, has_colons, mac_text, mac_of}
use Rattle.bb_vars.proofs.Pairs.{pair_of-glyphs, pair_text-of}

six_read_back : (a b c d e f : ℕ) → a < 256 → b < 256 → c < 256 → d < 256 → e < 256 → f < 256
    → mac_of (mac_text (a ∷ b ∷ c ∷ d ∷ e ∷ f ∷ [])) ≡ Some (a ∷ b ∷ c ∷ d ∷ e ∷ f ∷ [])
unfolding pair_text
six_read_back a b c d e f la lb lc ld le lf =
    rw (pair_of-glyphs a la, pair_of-glyphs b lb, pair_of-glyphs c lc, pair_of-glyphs d ld, pair_of-glyphs e le, pair_of-glyphs f lf)

pub mac_of-mac_text : (bytes : List ℕ) → length bytes ≡ 6 → All (λ b. b < 256) bytes → mac_of (mac_text bytes) ≡ Some bytes
mac_of-mac_text (a ∷ b ∷ c ∷ d ∷ e ∷ f ∷ []) six small =
    six_read_back a b c d e f (small 0 0 (lit< tt)) (small 1 0 (lit< tt)) (small 2 0 (lit< tt))
    (small 3 0 (lit< tt)) (small 4 0 (lit< tt)) (small 5 0 (lit< tt))
mac_of-mac_text _ six small = absurd (omega arith)

-- six items, none of which is missing
record AreSix (p q r s t u : Option ℕ) (items : List ℕ) : Type 0 where
  a : ℕ
  b : ℕ
  c : ℕ
  d : ℕ
  e : ℕ
  f : ℕ
  items_are : items ≡ a ∷ b ∷ c ∷ d ∷ e ∷ f ∷ []
  p_is : p ≡ Some a
  q_is : q ≡ Some b
  r_is : r ≡ Some c
  s_is : s ≡ Some d
  t_is : t ≡ Some e
  u_is : u ≡ Some f

six_of : (p q r s t u : Option ℕ) (items : List ℕ) → all_of (p ∷ q ∷ r ∷ s ∷ t ∷ u ∷ []) ≡ Some items → AreSix p q r s t u items
six_of (Some a) (Some b) (Some c) (Some d) (Some e) (Some f) items h = record {
  a = a;
  b = b;
  c = c;
  d = d;
  e = e;
  f = f;
  items_are = cc;
  p_is = refl;
  q_is = refl;
  r_is = refl;
  s_is = refl;
  t_is = refl;
  u_is = refl;
}
six_of _ _ _ _ _ _ items h = absurd (none-some items h)

cond_found : {A : Type 0} (b : Bool) (o : Option A) (y : A) → cond b o None ≡ Some y → (b ≡ true) × (o ≡ Some y)
cond_found true o y h = (refl, h)
cond_found false o y h = absurd (none-some y h)

all_true : (a b c d e f : Bool) → (a && (b && (c && (d && (e && (f && true)))))) ≡ true
    → (a ≡ true) × (b ≡ true) × (c ≡ true) × (d ≡ true) × (e ≡ true) × (f ≡ true)
all_true true true true true true true h = (refl, refl, refl, refl, refl, refl)
all_true _ _ _ _ _ _ h = absurd (cc)

colons_of : (text : List ℕ) → has_colons text ≡ true
    → (length text ≡ 17) × (get_or text 2 0 ≡ 58) × (get_or text 5 0 ≡ 58) × (get_or text 8 0 ≡ 58) × (get_or text 11 0 ≡ 58) × (get_or text 14 0 ≡ 58)
colons_of text h =
    let each = all_true (length text == 17) (get_or text 2 0 == 58) (get_or text 5 0 == 58) (get_or text 8 0 == 58) (get_or text 11 0 == 58) (get_or text 14 0 == 58) h in (
      eqb-true (length text) 17 each.0,
      eqb-true (get_or text 2 0) 58 each.1,
      eqb-true (get_or text 5 0) 58 each.2,
      eqb-true (get_or text 8 0) 58 each.3,
      eqb-true (get_or text 11 0) 58 each.4,
      eqb-true (get_or text 14 0) 58 each.5,
    )

-- 17 bytes, of which every third is a `:`
prints_lower : (t0 t1 t2 t3 t4 t5 t6 t7 t8 t9 t10 t11 : ℕ) (bytes : List ℕ)
    → AreSix (byte_of_pair t0 t1) (byte_of_pair t2 t3) (byte_of_pair t4 t5) (byte_of_pair t6 t7) (byte_of_pair t8 t9) (byte_of_pair t10 t11) bytes
    → mac_text bytes ≡ str_to_ascii_lowercase (t0 ∷ t1 ∷ 58 ∷ t2 ∷ t3 ∷ 58 ∷ t4 ∷ t5 ∷ 58 ∷ t6 ∷ t7 ∷ 58 ∷ t8 ∷ t9 ∷ 58 ∷ t10 ∷ t11 ∷ [])
prints_lower t0 t1 t2 t3 t4 t5 t6 t7 t8 t9 t10 t11 bytes six =
    rw (
      six.items_are,
      pair_text-of t0 t1 six.a six.p_is,
      pair_text-of t2 t3 six.b six.q_is,
      pair_text-of t4 t5 six.c six.r_is,
      pair_text-of t6 t7 six.d six.s_is,
      pair_text-of t8 t9 six.e six.t_is,
      pair_text-of t10 t11 six.f six.u_is,
    )

lower_of : (text bytes : List ℕ) → length text ≡ 17 → mac_of text ≡ Some bytes → mac_text bytes ≡ str_to_ascii_lowercase text
lower_of (t0 ∷ t1 ∷ k0 ∷ t2 ∷ t3 ∷ k1 ∷ t4 ∷ t5 ∷ k2 ∷ t6 ∷ t7 ∷ k3 ∷ t8 ∷ t9 ∷ k4 ∷ t10 ∷ t11 ∷ []) bytes long h =
    let text : List ℕ = t0 ∷ t1 ∷ k0 ∷ t2 ∷ t3 ∷ k1 ∷ t4 ∷ t5 ∷ k2 ∷ t6 ∷ t7 ∷ k3 ∷ t8 ∷ t9 ∷ k4 ∷ t10 ∷ t11 ∷ [] in
    let pairs : List (Option ℕ) = byte_of_pair t0 t1 ∷ byte_of_pair t2 t3 ∷ byte_of_pair t4 t5 ∷ byte_of_pair t6 t7 ∷ byte_of_pair t8 t9 ∷ byte_of_pair t10 t11 ∷ [] in
    let parts = cond_found (has_colons text) (all_of pairs) bytes h in
    let colons = colons_of text parts.0 in
    let six = six_of (byte_of_pair t0 t1) (byte_of_pair t2 t3) (byte_of_pair t4 t5) (byte_of_pair t6 t7) (byte_of_pair t8 t9) (byte_of_pair t10 t11) bytes parts.1 in
    rw (colons.1, colons.2, colons.3, colons.4, colons.5) (prints_lower t0 t1 t2 t3 t4 t5 t6 t7 t8 t9 t10 t11 bytes six)
lower_of _ bytes long h = absurd (omega arith)

-- the pairs of a text
abbrev pairs_in : List ℕ → List (Option ℕ)
pairs_in text = map (λ i. byte_of_pair (get_or text i 0) (get_or text (i + 1) 0)) (0 ∷ 3 ∷ 6 ∷ 9 ∷ 12 ∷ 15 ∷ [])

long_enough : (text bytes : List ℕ) → mac_of text ≡ Some bytes → length text ≡ 17
long_enough text bytes h = (colons_of text (cond_found (has_colons text) (all_of (pairs_in text)) bytes h).0).0

pub mac_text-of : (text bytes : List ℕ) → mac_of text ≡ Some bytes → mac_text bytes ≡ str_to_ascii_lowercase text
mac_text-of text bytes h = lower_of text bytes (long_enough text bytes h) h

pub mac_sized : (text bytes : List ℕ) → mac_of text ≡ Some bytes → length bytes ≡ 6
mac_sized text bytes h =
    let found = (cond_found (has_colons text) (all_of (pairs_in text)) bytes h).1 in
    ap length (six_of _ _ _ _ _ _ bytes found).items_are
