-- The entries of a block, as its pages are taken away from the end.
use Rattle.std.proofs.Common.{◌≡◌, ℕ, zero, suc, ◌+◌, ◌-◌, ◌*◌, ◌/◌, ◌%◌, ◌<◌, ◌≤◌, Bool, true, false, ◌&&◌, not, List, [], ◌∷◌, ◌++◌, append-nil, append_assoc, eqb, leb, filter_map, Option, Some, None, is_some, option_map, option_to_list, take, refl, sym, ap, subst, ◌∙◌, arith, if◌then◌else◌, inl, inr}
use Rattle.std.specs.List.{cons_option}
use Rattle.std.specs.Option.{option_and_then}
use Rattle.std.specs.Prelude.{IfSome}
use Rattle.std.proofs.Math.Nat.{add-mul, mul-le-mul_right, mul-mod_left}
use Rattle.std.proofs.lemmas.Bool.{and_parts, cases_lt, eqb-true, leb-true}
use Rattle.std.proofs.lemmas.List.Elements.{filter_map-append}
use Rattle.std.proofs.lemmas.Option.{none-some, same_Some}
use Rattle.byteorder.specs.Endian.{little_number}
use Rattle.bb_base.specs.Form.{Form}
use Rattle.bb_flash.specs.Image.{Image, health_of}
use Rattle.bb_flash.proofs.Geometries.{whole_times}
use Rattle.bb_bucket.specs.Front.{is_lost}
use Rattle.bb_bucket.proofs.Pages.{mod_moved}
use Rattle.bb_circular.specs.declared.kept.Entry.{Entry}
use Rattle.bb_circular.specs.Circular.{readable}
use Rattle.bb_circular.specs.Entries.{closed_entry, closes, closing_len_of, last_words}
use Rattle.bb_circular.specs.Pages.{Page, page_at}
use Rattle.bb_circular.specs.PagesLaws.{IsPaged}
use Rattle.bb_history.specs.Entries.{entry_area, entries_within, entry_at, pages_over}
use Rattle.bb_history.specs.Reading.{AreFound, ArePlaces, AreWithin, IsEndedAt, IsEndedBy, area_at, kept_places, pages_left, passes_in}
use Rattle.bb_history.specs.declared.entry.Ended.{Ended}

-- ---- one page less

module _ (page : ℕ) (block : Image) where
  abbrev pub Entries : ℕ → ℕ → List Entry
  Entries pages over = entries_within page block pages over

  abbrev Last : ℕ → Option Entry
  Last pages = entry_at page block pages

  pub entries_none : (over : ℕ) → Entries 0 over ≡ []
  unfolding entries_within
  entries_none over = refl

  entries_over : (pages over : ℕ) → Entries (suc pages) (suc over) ≡ Entries pages over
  unfolding entries_within
  entries_over pages over = refl

  entries_step : (pages : ℕ) →
      Entries (suc pages) 0
      ≡ Entries pages (pages_over page (Last (suc pages))) ++ option_to_list (Last (suc pages))
  unfolding entries_within
  entries_step pages = refl

  -- the pages of an entry that was taken
  entries_passed : (over pages n : ℕ) → n ≡ over + pages → Entries n over ≡ Entries pages 0
  entries_passed zero pages n e =
      let same : n ≡ pages = omega arith in
      ap (λ k. Entries k 0) same
  entries_passed (suc over) pages zero e = absurd (omega arith)
  entries_passed (suc over) pages (suc n) e =
      entries_over n over ∙ entries_passed over pages n (omega arith)

  -- the last page ends no entry
  pub entries_less : (pages : ℕ) → 1 ≤ pages → Last pages ≡ None →
      Entries pages 0 ≡ Entries (pages - 1) 0
  entries_less zero some none = absurd (omega arith)
  entries_less (suc n) some none =
      let same : n ≡ suc n - 1 = omega arith in
      entries_step n
      ∙ ap (λ (e : Option Entry). Entries n (pages_over page e) ++ option_to_list e) none
      ∙ append-nil (Entries n 0) ∙ ap (λ k. Entries k 0) same

  -- it ends one
  pub entries_more : (pages before : ℕ) (entry : Entry) → Last pages ≡ Some entry →
      1 ≤ entry.len / page → before + entry.len / page ≡ pages →
      Entries pages 0 ≡ Entries before 0 ++ entry ∷ []
  entries_more zero before entry is some all = absurd (omega arith)
  entries_more (suc n) before entry is some all =
      entries_step n
      ∙ ap (λ (e : Option Entry). Entries n (pages_over page e) ++ option_to_list e) is
      ∙ ap (λ (es : List Entry). es ++ entry ∷ [])
      (entries_passed (entry.len / page - 1) before n (omega arith))

-- ---- where an entry stands

-- an entry that a page closes has whole pages, and ends with it; that page isn't Lost
pub record EndsThere (page pages : ℕ) (last : Page) (entry : Entry) : Type 0 where
  pub ends : entry.at + entry.len ≡ pages * page
  pub whole : entry.len % page ≡ 0
  pub some : 1 ≤ entry.len
  pub alive : is_lost last.health ≡ false

closed_test : ℕ → ℕ → Page → Bool
closed_test page pages last =
    leb 1 pages && (not (is_lost last.health) && closes page (pages * page) (last_words page last))

abbrev closed_there : ℕ → ℕ → Page → Entry
closed_there page pages last = record {
  at = pages * page - closing_len_of (last_words page last);
  len = closing_len_of (last_words page last);
}

not_lost : (lost : Bool) → not lost ≡ true → lost ≡ false
not_lost false holds = refl
not_lost true holds = absurd cc

closed_parts : (page pages : ℕ) (last : Page) → closed_test page pages last ≡ true →
    EndsThere page pages last (closed_there page pages last)
unfolding closed_test
closed_parts page pages last holds =
    let words = last_words page last in
    let len : ℕ = closing_len_of words in
    let end : ℕ = pages * page in
    let sound = and_parts (leb 1 pages) (not (is_lost last.health) && closes page end words) holds in
    let closing = and_parts (not (is_lost last.health)) (closes page end words) sound.1 in
    let magic =
    and_parts (eqb (little_number 4 words) 0x14fa2d02)
    (eqb (len % page) 0 && (leb 1 len && leb len end)) closing.1 in
    let multiple = and_parts (eqb (len % page) 0) (leb 1 len && leb len end) magic.1 in
    let bounds = and_parts (leb 1 len) (leb len end) multiple.1 in
    let fits : len ≤ end = leb-true len end bounds.1 in
    record {
      ends = omega arith;
      whole = eqb-true (len % page) 0 multiple.0;
      some = leb-true 1 len bounds.0;
      alive = not_lost (is_lost last.health) closing.0;
    }

pub closed_ends : (page pages : ℕ) (last : Page) (entry : Entry) →
    closed_entry page pages last ≡ Some entry → EndsThere page pages last entry
unfolding closed_test
closed_ends page pages last entry is = by (closed_test page pages last) refl is
  where
    by : (b : Bool) → closed_test page pages last ≡ b →
        (if b then Some (closed_there page pages last) else None) ≡ Some entry →
        EndsThere page pages last entry
    by true holds e =
        subst (EndsThere page pages last) (same_Some (closed_there page pages last) entry e)
        (closed_parts page pages last holds)
    by false fails e = absurd (none-some entry e)

-- an entry that can be read is the one that its last page closes
readable_is : (page : ℕ) (block : Image) (closed : Option Entry) (entry : Entry) →
    option_and_then (readable page block) closed ≡ Some entry → closed ≡ Some entry
readable_is page block None entry is = absurd (none-some entry is)
readable_is page block (Some other) entry is = by (is_lost (health_of page block other.at other.len)) is
  where
    by : (lost : Bool) → (if lost then None else Some other) ≡ Some entry → Some other ≡ Some entry
    by true e = absurd (none-some entry e)
    by false e = e

pub entry_ends : (page : ℕ) (block : Image) (pages : ℕ) (entry : Entry) →
    entry_at page block pages ≡ Some entry → EndsThere page pages (page_at page block (pages - 1)) entry
entry_ends page block pages entry is =
    let last = page_at page block (pages - 1) in
    closed_ends page pages last entry
    (readable_is page block (closed_entry page pages last) entry is)

-- a product that isn't 0 has a factor that isn't, and both of one are equal
some_pages : (k page : ℕ) → 1 ≤ k * page → 1 ≤ k
some_pages zero page some = absurd (omega arith)
some_pages (suc k) page some = omega arith

pub less_one : (n page : ℕ) → 1 ≤ n → n * page ≡ (n - 1) * page + page
less_one n page some =
    let same : n ≡ n - 1 + 1 = omega arith in
    ap (λ k. k * page) same ∙ add-mul (n - 1) 1 page ∙ (omega arith)

more_pages : (one two page : ℕ) → 1 ≤ page → one * page ≡ two * page → one < two → ⊥
more_pages one two page some same less =
    let wide : (one + 1) * page ≤ two * page = mul-le-mul_right page (omega arith) in
    let more : (one + 1) * page ≡ one * page + page = add-mul one 1 page ∙ (omega arith) in
    omega arith

same_factor : (one two page : ℕ) → 1 ≤ page → one * page ≡ two * page → one ≡ two
same_factor one two page some same = elim (cases_lt one two) [
  | inl less ↦ absurd (more_pages one two page some same less)
  | inr more ↦ elim (cases_lt two one) [
    | inl less ↦ absurd (more_pages two one page some (sym same) less)
    | inr less ↦ omega arith
  ]
]

-- counted in pages
pub entry_pages : (page : ℕ) (pages : ℕ) (last : Page) (entry : Entry) → 1 ≤ page →
    EndsThere page pages last entry →
    (1 ≤ entry.len / page) × (entry.at / page + entry.len / page ≡ pages)
entry_pages page pages last entry some there =
    let a : ℕ = entry.at / page in
    let k : ℕ = entry.len / page in
    let len : k * page ≡ entry.len = whole_times entry.len page there.whole in
    let sum : entry.len + entry.at ≡ pages * page = omega (arith, there.ends) in
    let aligned : entry.at % page ≡ 0 =
    sym (mod_moved page entry.len entry.at there.whole) ∙ ap (λ n. n % page) sum
    ∙ mul-mod_left pages page in
    let at : a * page ≡ entry.at = whole_times entry.at page aligned in
    let both : (a + k) * page ≡ pages * page =
    add-mul a k page ∙ (let ends = there.ends in omega (arith, at, len, ends)) in
    (some_pages k page (omega (arith, len, there.some)), same_factor (a + k) pages page some both)

-- ---- one look more

module _ (form : Form) (page : ℕ) (block : Image) (all pages : ℕ) (places left : List ℕ)
    (size : 1 ≤ page) (some : 1 ≤ pages) (found : AreFound form page block all pages places) where
  abbrev Areas : List Entry → List (List ℕ)
  Areas entries = filter_map (entry_area form block) entries

  abbrev Behind : List ℕ → List (List ℕ)
  Behind ends = filter_map (area_at form page block) ends

  -- it found no entry
  none_found : entry_at page block pages ≡ None → AreFound form page block all (pages - 1) places
  none_found none = record {
    found =
        found.found
        ∙ ap (λ (es : List Entry). Areas es ++ Behind places) (entries_less page block pages some none);
    pass = found.pass;
  }

  -- it found one that passes this, or nothing
  module _ (entry : Entry) (is : entry_at page block pages ≡ Some entry) where
    there : EndsThere page pages (page_at page block (pages - 1)) entry
    there = entry_ends page block pages entry is

    split : Areas (entries_within page block pages 0)
        ≡ Areas (entries_within page block (entry.at / page) 0) ++ Areas (entry ∷ [])
    split =
        let counted = entry_pages page pages (page_at page block (pages - 1)) entry size there in
        ap Areas (entries_more page block pages (entry.at / page) entry is counted.0 counted.1)
        ∙ filter_map-append (entry_area form block) (entries_within page block (entry.at / page) 0) (entry ∷ [])

    here : area_at form page block pages ≡ entry_area form block entry
    here = ap (option_and_then (entry_area form block)) is

    passing_found : (area : List ℕ) → entry_area form block entry ≡ Some area →
        AreFound form page block all (entry.at / page) (pages ∷ places)
    passing_found area passes =
        let before = Areas (entries_within page block (entry.at / page) 0) in
        record {
          found =
              found.found
              ∙ ap (λ (found : List (List ℕ)). found ++ Behind places)
              (split ∙ ap (λ (o : Option (List ℕ)). before ++ cons_option o []) passes)
              ∙ append_assoc before (area ∷ []) (Behind places)
              ∙ ap (λ (o : Option (List ℕ)). before ++ cons_option o (Behind places)) (sym (here ∙ passes));
          pass = (ap is_some (here ∙ passes), found.pass);
        }

    failing_found : entry_area form block entry ≡ None →
        AreFound form page block all (entry.at / page) places
    failing_found fails =
        let before = Areas (entries_within page block (entry.at / page) 0) in
        record {
          found =
              found.found
              ∙ ap (λ (found : List (List ℕ)). found ++ Behind places)
              (split ∙ ap (λ (o : Option (List ℕ)). before ++ cons_option o []) fails ∙ append-nil before);
          pass = found.pass;
        }

  pub found_next : (ended : Option Ended) → IsEndedAt form page block pages left ended →
      AreFound form page block all (pages_left pages ended) (kept_places pages ended places)
  found_next ended is = by (entry_at page block pages) refl ended is
    where
      by_pass : (entry : Entry) → entry_at page block pages ≡ Some entry → (passed : Option ℕ) →
          option_map (λ len. take len left) passed ≡ entry_area form block entry →
          AreFound form page block all (entry.at / page) (if is_some passed then pages ∷ places else places)
      by_pass entry at (Some len) passes = passing_found entry at (take len left) (sym passes)
      by_pass entry at None passes = failing_found entry at (sym passes)

      by : (entry : Option Entry) → entry_at page block pages ≡ entry → (e : Option Ended) →
          IsEndedBy form page block entry left e →
          AreFound form page block all (pages_left pages e) (kept_places pages e places)
      by None at None is = none_found at
      by None at (Some e) is = absurd (none-some e.before (sym is.before))
      by (Some entry) at None is = absurd (none-some (entry.at / page) is.before)
      by (Some entry) at (Some e) is =
          subst
          (λ (before : ℕ). AreFound form page block all before (if is_some e.passed then pages ∷ places else places))
          (sym (same_Some e.before (entry.at / page) is.before))
          (by_pass entry at e.passed is.passes)

-- ---- the places that are kept

-- of an entry that wasn't found, or passes nothing, none is
pub failing_kept : (pages : ℕ) (ended : Option Ended) (places : List ℕ) → passes_in ended ≡ false →
    places ≡ kept_places pages ended places
failing_kept pages ended places fails = ap (λ (b : Bool). if b then pages ∷ places else places) (sym fails)

pub passing_kept : (pages : ℕ) (ended : Option Ended) (places : List ℕ) → passes_in ended ≡ true →
    pages ∷ places ≡ kept_places pages ended places
passing_kept pages ended places passes = ap (λ (b : Bool). if b then pages ∷ places else places) (sym passes)

-- none, before any look
pub no_places : (form : Form) (page : ℕ) (block : Image) (all : ℕ) (places : List ℕ) → places ≡ [] →
    AreFound form page block all all places
no_places form page block all places none =
    subst (AreFound form page block all all) (sym none)
    (record { found = sym (append-nil (filter_map (entry_area form block) (entries_within page block all 0))); pass = tt })

pub found_as : (form : Form) (page : ℕ) (block : Image) (all one other : ℕ) (places others : List ℕ) →
    one ≡ other → places ≡ others → AreFound form page block all one places →
    AreFound form page block all other others
found_as form page block all one other places others same alike found =
    subst (AreFound form page block all other) alike
    (subst (λ n. AreFound form page block all n places) same found)

-- all of them, once no page is left
pub all_found : (form : Form) (page size : ℕ) (block : Image) (pages : ℕ) (places : List ℕ) →
    IsPaged page size block → pages ≡ 0 → AreFound form page block (size / page) pages places →
    ArePlaces form page block places
all_found form page size block pages places paged none found = record {
  areas =
      ap (λ n. filter_map (entry_area form block) (entries_within page block (n / page) 0)) paged.bytes
      ∙ found.found
      ∙ ap (λ (es : List Entry). filter_map (entry_area form block) es ++ filter_map (area_at form page block) places)
      (ap (λ n. entries_within page block n 0) none ∙ entries_none page block 0);
  pass = found.pass;
}

pub left_less : (pages : ℕ) (ended : Option Ended) → 0 < pages → IfSome ended (λ e. e.before < pages) →
    pages_left pages ended < pages
left_less pages None some less = omega arith
left_less pages (Some ended) some less = less

pub kept_within : (all pages : ℕ) (ended : Option Ended) (places : List ℕ) → 0 < pages → pages ≤ all →
    AreWithin all places → AreWithin all (kept_places pages ended places)
kept_within all pages ended places some inside within = by (passes_in ended)
  where
    by : (passes : Bool) → AreWithin all (if passes then pages ∷ places else places)
    by true = ((omega arith, inside), within)
    by false = within
