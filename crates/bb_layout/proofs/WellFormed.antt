-- A variable that a node gives is well formed.
use Rattle.std.proofs.Common.{◌≡◌, ◌≢◌, ℕ, zero, suc, ◌+◌, ◌-◌, ◌<◌, ◌≤◌, ◌^◌, Bool, true, false, cond, eqb, leb, List, [], ◌∷◌, Option, Some, None, Result, Ok, Err, length, map, filter, replicate, reverse, arith, refl, sym, subst, ap, ◌∙◌, inl, inr, All, codes, length-append}
use Rattle.std.proofs.lemmas.Bool.{cases_Bool, and_parts, eqb-true}
use Rattle.std.proofs.lemmas.Bool.Decides.{nat_tests}
use Rattle.std.proofs.lemmas.List.{length-replicate, length-reverse}
use Rattle.std.specs.Int.{w8, w32, to_le_bytes}
use Rattle.std.specs.Option.{ok_or, option_map}
use Rattle.bb_tree.specs.Node.{Branch}
use Rattle.bb_tree.specs.Paths.{prop_of}
use Rattle.bb_vars.specs.Kind.{size_of, HasFewNames}
use Rattle.bb_vars.specs.declared.kind.Kind.{Kind}
use Rattle.bb_vars.specs.declared.kind.Kind.TheVariants.{Uint8, Uint32, Enum32, Mac, Chars}
use Rattle.bb_layout.specs.Fields.{cell_of, cell_below, two_cells_of, string_of, utf8_strings}
use Rattle.bb_layout.specs.Results.{option_filter, result_and_then, all_ok}
use Rattle.bb_layout.specs.VarType.{may_have_size}
use Rattle.bb_layout.specs.Variables.{type_of, fits_type, range_in_area, names_of, kind_of, bytes_of_size, default_in, default_of, dotted_name, with_kind, with_range, with_type, variable_of, ways_of, is_variable, variable_at, variables_of, IsWellFormed}
use Rattle.bb_layout.specs.declared.layout_error.LayoutError.{LayoutError}
use Rattle.bb_layout.specs.declared.layout_error.LayoutError.TheVariants.{BadReg, BadProp}
use Rattle.bb_layout.specs.declared.var.Var.{Var}
use Rattle.bb_layout.specs.declared.var_type.VarType.{VarType}
use Rattle.bb_layout.specs.declared.var_type.VarType.TheVariants as kinds

-- ---- options and results that were Ok

record Came {A B E : Type 0} (f : A → Result B E) (r : Result A E) (y : B) : Type 0 where
  value : A
  first : r ≡ Ok value
  then : f value ≡ Ok y

came : {A B E : Type 0} (f : A → Result B E) (r : Result A E) (y : B) → result_and_then f r ≡ Ok y → Came f r y
came f (Ok x) y h = record { value = x; first = refl; then = h }
came f (Err e) y h = absurd (cc)

ok_or_ok : {A E : Type 0} (o : Option A) (e : E) (x : A) → ok_or o e ≡ Ok x → o ≡ Some x
ok_or_ok None e x h = absurd (cc)
ok_or_ok (Some y) e x h = cc

filter_some : {A : Type 0} (p : A → Bool) (o : Option A) (x : A) → option_filter p o ≡ Some x → (o ≡ Some x) × (p x ≡ true)
filter_some p None x h = absurd (cc)
filter_some {A} p (Some y) x h =
    elim (cases_Bool (p y)) [
      | inl t ↦
          let h' : ◌≡◌ {A = Option A} (Some y) (Some x) = rw t at h in
          let e : y ≡ x = cc in (h', ap p (sym e) ∙ t)
      | inr f ↦ let h' : ◌≡◌ {A = Option A} None (Some x) = rw f at h in absurd (cc)
    ]

record Mapped {A B : Type 0} (f : A → B) (o : Option A) (y : B) : Type 0 where
  value : A
  there : o ≡ Some value
  is : f value ≡ y

mapped : {A B : Type 0} (f : A → B) (o : Option A) (y : B) → option_map f o ≡ Some y → Mapped f o y
mapped f None y h = absurd (cc)
mapped f (Some x) y h = record { value = x; there = refl; is = cc }

-- ---- one variable

range_fits : (type : VarType) (value : Option (List ℕ)) (range : ℕ × ℕ) → range_in_area type value ≡ Ok range → fits_type type range ≡ true
range_fits type None range h = absurd (cc)
range_fits type (Some value) range h = (filter_some (fits_type type) (two_cells_of value) range (ok_or_ok (option_filter (fits_type type) (two_cells_of value)) BadReg range h)).1

few_names : (value : Option (List ℕ)) (names : List (List ℕ)) → names_of value ≡ Ok names → length names < 2 ^ 32
few_names None names h = absurd (cc)
few_names (Some value) names h =
    let few : leb (length names) 4294967295 ≡ true =
    (filter_some (λ l. leb (length l) 4294967295) (utf8_strings value) names (ok_or_ok (option_filter (λ l. leb (length l) 4294967295) (utf8_strings value)) (BadProp (codes "names")) names h)).1 in
    grind (arith, nat_tests)

record Fits (size : ℕ) (kind : Kind) : Type 0 where
  size_is : size ≡ size_of kind
  few : HasFewNames kind

kind_fits : (type : VarType) (size : ℕ) (names : Option (List ℕ)) (kind : Kind) → kind_of type size names ≡ Ok kind → may_have_size type size ≡ true → Fits size kind
kind_fits kinds.Uint8 size names kind h s =
    let e : Uint8 ≡ kind = cc in
    subst (Fits size) e (record { size_is = eqb-true size 1 s; few = tt })
kind_fits kinds.Uint32 size names kind h s =
    let e : Uint32 ≡ kind = cc in
    subst (Fits size) e (record { size_is = eqb-true size 4 s; few = tt })
kind_fits kinds.Enum32 size names kind h s =
    let c = came (λ texts. Ok (Enum32 texts)) (names_of names) kind h in
    let e : Enum32 c.value ≡ kind = ok_is c.then in
    subst (Fits size) e (record { size_is = eqb-true size 4 s; few = few_names names c.value c.first })
  where
    ok_is : {k : Kind} → ◌≡◌ {A = Result Kind LayoutError} (Ok k) (Ok kind) → k ≡ kind
    ok_is q = cc
kind_fits kinds.Mac size names kind h s =
    let e : Mac ≡ kind = cc in
    subst (Fits size) e (record { size_is = eqb-true size 6 s; few = tt })
kind_fits kinds.Chars size names kind h s =
    let e : Chars size ≡ kind = cc in
    subst (Fits size) e (record { size_is = refl; few = tt })

some_bytes : (type : VarType) (size : ℕ) → may_have_size type size ≡ true → 1 ≤ size
some_bytes kinds.Uint8 size s = let e = eqb-true size 1 s in omega arith
some_bytes kinds.Uint32 size s = let e = eqb-true size 4 s in omega arith
some_bytes kinds.Enum32 size s = let e = eqb-true size 4 s in omega arith
some_bytes kinds.Mac size s = let e = eqb-true size 6 s in omega arith
some_bytes kinds.Chars size s =
    let least : leb 1 size ≡ true = (and_parts (leb 1 size) (leb size 1024) s).0 in
    grind (arith, nat_tests)

length-bytes_of_size : (size : ℕ) (bytes : List ℕ) → length bytes ≤ size → length (bytes_of_size size bytes) ≡ size
length-bytes_of_size size bytes l = omega (arith, length-append bytes (replicate (size - length bytes) 0), length-replicate {A = ℕ} (size - length bytes) 0)

default_fits : (kind : Kind) (value bytes : List ℕ) → default_in kind value ≡ Some bytes → length bytes ≡ size_of kind
default_fits Uint8 value bytes h = let m = mapped (to_le_bytes w8) (cell_below 256 value) bytes h in ap length (sym m.is)
default_fits Uint32 value bytes h = let m = mapped (to_le_bytes w32) (cell_of value) bytes h in ap length (sym m.is)
default_fits (Enum32 names) value bytes h = let m = mapped (to_le_bytes w32) (cell_below (length names) value) bytes h in ap length (sym m.is)
default_fits Mac value bytes h = by (eqb (length value) 6) refl h
  where
    by : (t : Bool) → eqb (length value) 6 ≡ t → cond t (Some value) None ≡ Some bytes → length bytes ≡ 6
    by true e q = let same : value ≡ bytes = cc in ap length (sym same) ∙ eqb-true (length value) 6 e
    by false e q = absurd (cc)
default_fits (Chars size) value bytes h =
    let m = mapped (bytes_of_size size) (option_filter (λ s. leb (length s) size) (string_of value)) bytes h in
    let short : leb (length m.value) size ≡ true = (filter_some (λ s. leb (length s) size) (string_of value) m.value m.there).1 in
    let within : length m.value ≤ size = grind (arith, nat_tests) in
    ap length (sym m.is) ∙ length-bytes_of_size size m.value within

default_sized : (kind : Kind) (value : Option (List ℕ)) (bytes : List ℕ) → default_of kind value ≡ Ok bytes → length bytes ≡ size_of kind
default_sized kind None bytes h = let same : bytes_of_size (size_of kind) [] ≡ bytes = cc in ap length (sym same) ∙ length-bytes_of_size (size_of kind) [] (omega arith)
default_sized kind (Some value) bytes h = default_fits kind value bytes (ok_or_ok (default_in kind value) (BadProp (codes "default")) bytes h)

pub well_formed : (path : List (List ℕ)) (b : Branch (List ℕ)) (v : Var) → path ≢ [] → variable_of path b ≡ Ok v → IsWellFormed v
well_formed path b v led h =
    let t = came (with_type path b) (type_of (prop_of (codes "type") b)) v h in
    let r = came (with_range path b t.value) (range_in_area t.value (prop_of (codes "reg") b)) v t.then in
    let k = came (with_kind path b r.value) (kind_of t.value r.value.1 (prop_of (codes "names") b)) v r.then in
    let made : List ℕ → Var = λ default. record { name = dotted_name path; path = path; at = r.value.0; size = r.value.1; kind = k.value; default = default } in
    let d = came (λ default. Ok (made default)) (default_of k.value (prop_of (codes "default") b)) v k.then in
    let fits = and_parts (may_have_size t.value r.value.1) (leb (r.value.0 + r.value.1) 4294967295) (range_fits t.value (prop_of (codes "reg") b) r.value r.first) in
    let kind = kind_fits t.value r.value.1 (prop_of (codes "names") b) k.value k.first fits.0 in
    subst IsWellFormed (ok_is (made d.value) v d.then) (record {
      size = kind.size_is;
      default = default_sized k.value (prop_of (codes "default") b) d.value d.first;
      few_names = kind.few;
      some = some_bytes t.value r.value.1 fits.0;
      end = ends fits.1;
      led = led;
    })
  where
    ok_is : (x y : Var) → ◌≡◌ {A = Result Var LayoutError} (Ok x) (Ok y) → x ≡ y
    ok_is x y q = cc

    ends : {n : ℕ} → leb n 4294967295 ≡ true → n < 2 ^ 32
    ends {n} q = grind (arith, nat_tests)

-- ---- all variables

abbrev Vars : Type 0
Vars = Result (List Var) LayoutError

all_from : {X : Type 0} (P : Var → Type 0) (f : X → Result Var LayoutError) → ((x : X) (v : Var) → f x ≡ Ok v → P v) → (xs : List X) (vars : List Var) → all_ok (map f xs) ≡ Ok vars → All P vars
all_from P f each [] vars h = let e : [] ≡ vars = cc in subst (All P) e (λ k d l. absurd (omega arith))
all_from P f each (x ∷ xs) vars h =
    let first = came (λ v. result_and_then (λ vs. Ok (v ∷ vs)) (all_ok (map f xs))) (f x) vars h in
    let rest = came (λ vs. Ok (first.value ∷ vs)) (all_ok (map f xs)) vars first.then in
    subst (All P) (ok_is (first.value ∷ rest.value) vars rest.then)
    (both first.value rest.value (each x first.value first.first) (all_from P f each xs rest.value rest.first))
  where
    ok_is : (a b : List Var) → ◌≡◌ {A = Vars} (Ok a) (Ok b) → a ≡ b
    ok_is a b q = cc

    both : (v : Var) (vs : List Var) → P v → All P vs → All P (v ∷ vs)
    both v vs p all zero d l = p
    both v vs p all (suc k) d l = all k d (omega arith)

at_well_formed : (way : List (Branch (List ℕ))) (v : Var) → variable_at way ≡ Ok v → IsWellFormed v
at_well_formed [] v h = absurd (cc)
at_well_formed (b ∷ above) v h = well_formed (reverse (map (λ n. n.name) (b ∷ above))) b v (turned b.name (map (λ n. n.name) above)) h
  where
    turned : (name : List ℕ) (names : List (List ℕ)) → reverse (name ∷ names) ≢ []
    turned name names is =
        let none : length (reverse (name ∷ names)) ≡ 0 = ap length is in
        omega (arith, none, length-reverse (name ∷ names))

pub all_well_formed : (state : Branch (List ℕ)) (vars : List Var) → variables_of state ≡ Ok vars → All IsWellFormed vars
all_well_formed state vars h = all_from IsWellFormed variable_at at_well_formed (filter is_variable (ways_of [] state.nodes)) vars h
