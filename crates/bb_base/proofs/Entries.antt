-- Files kept in a map from texts, and the map from the texts' bytes that they stand for.
use Rattle.std.proofs.Common.{◌≡◌, ℕ, Bool, T, List, [], ◌∷◌, ◌&&◌, true, false, length, map, String, Less, Equal, Greater, cond, Some, refl, sym, ap, subst, ◌∙◌}
use Rattle.std.specs.BTreeMap.{insert_entry, is_at}
use Rattle.std.specs.Cmp.Lexicographic.{slice_cmp, nat_list_cmp_total}
use Rattle.std.specs.FinMap.{empty, get, insert, keys, find, put, is_sorted, from_sorted, same_entries_map, empty_of_len, len-entries, entries-insert, entries-from_sorted, get-from_sorted}
use Rattle.std.specs.FinMap.Entries.{below_all, by_order}
use Rattle.std.specs.List.{AllByRecursion}
use Rattle.std.specs.List.Sorted.{IsStrictlySortedBy}
use Rattle.std.specs.Map.{keys_of, lookup}
use Rattle.std.specs.Ordering.{is_lt, is_eq, match_ordering, nat_cmp}
use Rattle.std.specs.String.{string_bytes, string_cmp}
use Rattle.bb_base.specs.MemFiles.{by_bytes}

both : (a b : Bool) → T a → T b → T (a && b)
both true b p q = q
both false b p q = p

module _ {Y : Type 0} where
  find-by_bytes : (name : List ℕ) (es : List (String Y × List ℕ)) → find (slice_cmp nat_cmp) name (by_bytes es) ≡ lookup (is_at (λ k. slice_cmp nat_cmp name (string_bytes k))) es
  find-by_bytes name [] = refl
  find-by_bytes name (e ∷ es) = ap (cond (is_eq (slice_cmp nat_cmp name (string_bytes e.0))) (Some e.1)) (find-by_bytes name es)

  below_all-by_bytes : (k : String Y) (es : List (String Y × List ℕ)) → AllByRecursion (λ y. string_cmp k y ≡ Less) (keys_of es) → T (below_all (slice_cmp nat_cmp) (string_bytes k) (by_bytes es))
  below_all-by_bytes k [] h = tt
  below_all-by_bytes k (e ∷ es) h = both _ _ (subst (λ o. T (is_lt o)) (sym h.0) tt) (below_all-by_bytes k es h.1)

  is_sorted-by_bytes : (es : List (String Y × List ℕ)) → IsStrictlySortedBy string_cmp (keys_of es) → T (is_sorted (slice_cmp nat_cmp) (by_bytes es))
  unfolding IsStrictlySortedBy
  is_sorted-by_bytes [] h = tt
  is_sorted-by_bytes (e ∷ es) h = both _ _ (below_all-by_bytes e.0 es h.0) (is_sorted-by_bytes es h.1)

  put-by_bytes : (k : String Y) (v : List ℕ) (es : List (String Y × List ℕ)) → put (slice_cmp nat_cmp) (string_bytes k) v (by_bytes es) ≡ by_bytes (insert_entry string_cmp es k v)
  put-by_bytes k v [] = refl
  put-by_bytes k v (e ∷ es) =
      elim (string_cmp k e.0) as (λ o. by_order o ((string_bytes k, v) ∷ by_bytes (e ∷ es)) ((string_bytes e.0, v) ∷ by_bytes es) ((string_bytes e.0, e.1) ∷ put (slice_cmp nat_cmp) (string_bytes k) v (by_bytes es)) ≡ by_bytes (match_ordering o ((k, v) ∷ e ∷ es) ((e.0, v) ∷ es) (e ∷ insert_entry string_cmp es k v))) [
        | Less ↦ refl
        | Equal ↦ refl
        | Greater ↦ ap (λ rest. (string_bytes e.0, e.1) ∷ rest) (put-by_bytes k v es)
      ]

  map-by_bytes : (es : List (String Y × List ℕ)) → map (λ e. e.0) (by_bytes es) ≡ map string_bytes (keys_of es)
  map-by_bytes [] = refl
  map-by_bytes (e ∷ es) = ap (λ rest. string_bytes e.0 ∷ rest) (map-by_bytes es)

  -- what a look-up by bytes finds
  pub get-by_bytes : (es : List (String Y × List ℕ)) (name : List ℕ) → IsStrictlySortedBy string_cmp (keys_of es) → get (from_sorted {R = slice_cmp nat_cmp} (by_bytes es)) name ≡ lookup (is_at (λ k. slice_cmp nat_cmp name (string_bytes k))) es
  get-by_bytes es name ordered = get-from_sorted (slice_cmp nat_cmp) (by_bytes es) name (is_sorted-by_bytes es ordered) ∙ find-by_bytes name es

  -- a file that is added, by its name's bytes
  pub insert-by_bytes : (es now : List (String Y × List ℕ)) (k : String Y) (v : List ℕ) → now ≡ insert_entry string_cmp es k v → IsStrictlySortedBy string_cmp (keys_of es) → IsStrictlySortedBy string_cmp (keys_of now) → from_sorted {R = slice_cmp nat_cmp} (by_bytes now) ≡ insert (from_sorted (by_bytes es)) (string_bytes k) v
  insert-by_bytes es now k v is before after =
      sym (same_entries_map _ _ (entries-insert nat_list_cmp_total _ (string_bytes k) v
      ∙ ap (put (slice_cmp nat_cmp) (string_bytes k) v) (entries-from_sorted (slice_cmp nat_cmp) (by_bytes es) (is_sorted-by_bytes es before))
      ∙ put-by_bytes k v es
      ∙ ap by_bytes (sym is)
      ∙ sym (entries-from_sorted (slice_cmp nat_cmp) (by_bytes now) (is_sorted-by_bytes now after))))

  -- the names, in their order
  pub keys-by_bytes : (es : List (String Y × List ℕ)) → IsStrictlySortedBy string_cmp (keys_of es) → keys (from_sorted {R = slice_cmp nat_cmp} (by_bytes es)) ≡ map string_bytes (keys_of es)
  keys-by_bytes es ordered =
      ap (map (λ e. e.0)) (entries-from_sorted (slice_cmp nat_cmp) (by_bytes es) (is_sorted-by_bytes es ordered)) ∙ map-by_bytes es

  -- no entries
  pub empty-by_bytes : (es : List (String Y × List ℕ)) → es ≡ [] → from_sorted {R = slice_cmp nat_cmp} (by_bytes es) ≡ empty
  empty-by_bytes es none = ap (λ entries. from_sorted (by_bytes entries)) none ∙ empty_of_len _ (len-entries _ ∙ ap length (entries-from_sorted (slice_cmp nat_cmp) [] tt))
