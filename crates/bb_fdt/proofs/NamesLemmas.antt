-- Names with where they begin in the strings block.
use Rattle.std.proofs.Common.{◌≡◌, ℕ, ◌+◌, true, false, List, [], ◌∷◌, ◌++◌, None, map, length, inl, inr, refl, sym, ap, ◌∙◌, arith, length-append, zero-add}
use Rattle.std.specs.Option.{is_some, unwrap_or}
use Rattle.std.specs.Map.{lookup}
use Rattle.std.specs.Str.{bytes_eq}
use Rattle.std.proofs.lemmas.Bool.{cases_Bool}
use Rattle.std.proofs.lemmas.List.{map-append}
use Rattle.bb_tree.specs.Blob.{has_name, offset_of, strings_block}
use Rattle.bb_tree.specs.Texts.{texts_in}
use Rattle.bb_fdt.specs.declared.names.Names.TheInside.{Inside}
use Rattle.bb_fdt.specs.Names.{with_places, found_names, ArePlaced}

pub has_lookup : {X : Type 0} (name : List ℕ) (es : List (List ℕ × X))
    → is_some (lookup (bytes_eq name) es) ≡ has_name (map (λ e. e.0) es) name
has_lookup name [] = refl
has_lookup name (e ∷ es) =
    elim (cases_Bool (bytes_eq name e.0))
    [ inl is ↦ rw is refl | inr is ↦ rw is (has_lookup name es) ]

pub none_lookup : {X : Type 0} (name : List ℕ) (es : List (List ℕ × X))
    → has_name (map (λ e. e.0) es) name ≡ false → lookup (bytes_eq name) es ≡ None
none_lookup name [] isnt = refl
none_lookup name (e ∷ es) isnt =
    elim (cases_Bool (bytes_eq name e.0)) [
      | inl is ↦ let wrong : true ≡ false = rw is at isnt in absurd cc
      | inr is ↦ rw is (none_lookup name es (rw is at isnt))
    ]

at_placed : (at : ℕ) (names : List (List ℕ)) (name : List ℕ)
    → unwrap_or (lookup (bytes_eq name) (with_places at names)) (at + length (strings_block names))
    ≡ at + offset_of names name
at_placed at [] name = refl
at_placed at (n ∷ ns) name =
    elim (cases_Bool (bytes_eq name n)) [
      | inl is ↦ rw is (omega arith)
      | inr is ↦
          let e : at + length (strings_block (n ∷ ns))
          ≡ at + (length n + 1) + length (strings_block ns) =
          omega (
            arith,
            length-append (n ++ 0 ∷ []) (strings_block ns),
            length-append n
                (0 ∷ []),
          ) in
          rw (is, e) (at_placed (at + (length n + 1)) ns name ∙ omega arith)
    ]

pub offset_placed : (n : Inside) (name : List ℕ) → ArePlaced n
    → unwrap_or (lookup (bytes_eq name) (texts_in n.places.entries)) n.len
    ≡ offset_of (found_names n) name
offset_placed n name are =
    ap (λ es. unwrap_or (lookup (bytes_eq name) es) n.len) are.places
    ∙ ap (λ k. unwrap_or (lookup (bytes_eq name) (with_places 0 (found_names n))) k)
    (are.len ∙ sym (zero-add (length (strings_block (found_names n)))))
    ∙ at_placed 0 (found_names n) name ∙ zero-add (offset_of (found_names n) name)

placed-append : (at : ℕ) (names : List (List ℕ)) (name : List ℕ)
    → with_places at (names ++ name ∷ [])
    ≡ with_places at names ++ (name, at + length (strings_block names)) ∷ []
placed-append at [] name = let e : at ≡ at + 0 = omega arith in ap (λ k. (name, k) ∷ []) e
placed-append at (n ∷ ns) name =
    let e : at + (length n + 1) + length (strings_block ns) ≡ at + length (strings_block (n ∷ ns)) =
    omega (arith, length-append (n ++ 0 ∷ []) (strings_block ns), length-append n (0 ∷ [])) in
    ap (λ l. (n, at) ∷ l) (placed-append (at + (length n + 1)) ns name
    ∙ ap (λ k. with_places (at + (length n + 1)) ns ++ (name, k) ∷ []) e)

strings_length-append : (names : List (List ℕ)) (name : List ℕ)
    → length (strings_block (names ++ name ∷ [])) ≡ length (strings_block names) + (length name + 1)
strings_length-append [] name = omega (
  arith,
  length-append (name
      ++ 0 ∷ []) [],
  length-append name (0 ∷ []),
)
strings_length-append (n ∷ ns) name =
    let more = strings_length-append ns name in
    omega (
      arith,
      more,
      length-append (n ++ 0 ∷ []) (strings_block ns),
      length-append (n ++ 0 ∷ [])
          (strings_block (ns ++ name ∷ [])),
    )

-- one name more is placed after the others
pub more_placed : (es more : List (List ℕ × ℕ)) (name : List ℕ) (len longer : ℕ)
    → es ≡ with_places 0 (map (λ e. e.0) es) → len ≡ length (strings_block (map (λ e. e.0) es))
    → more ≡ es ++ (name, len) ∷ [] → longer ≡ len + (length name + 1)
    → (more ≡ with_places 0 (map (λ e. e.0) more))
    × (longer ≡ length (strings_block (map (λ e. e.0) more)))
more_placed es more name len longer are is_len is is_longer =
    let names = map (λ (e : List ℕ × ℕ). e.0) es in
    let all : map (λ (e : List ℕ × ℕ). e.0) more ≡ names ++ name ∷ [] =
    ap (map (λ (e : List ℕ × ℕ). e.0)) is
    ∙ map-append (λ (e : List ℕ × ℕ). e.0) es ((name, len) ∷ []) in
    let place : len ≡ 0 + length (strings_block names) = omega (arith, is_len) in (
      is ∙ ap (λ l. l ++ (name, len) ∷ []) are
          ∙ ap (λ (k : ℕ). with_places 0 names ++ (name, k) ∷ []) place
          ∙ sym (placed-append 0 names name) ∙ ap (with_places 0) (sym all),
      is_longer ∙ ap (λ (k : ℕ). k + (length name + 1)) is_len
          ∙ sym (strings_length-append names name) ∙ ap (λ l. length (strings_block l)) (sym all),
    )
