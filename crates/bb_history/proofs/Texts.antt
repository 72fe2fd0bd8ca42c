-- Texts of the entries at places.
use Rattle.std.proofs.Common.{◌≡◌, ℕ, zero, suc, ◌+◌, ◌/◌, ◌≤◌, List, [], ◌∷◌, ◌++◌, append-nil, append_assoc, drop, filter_map, length, map, take, true, Option, Some, None, is_some, option_map, refl, sym, ap, subst, ◌∙◌, arith}
use Rattle.std.specs.List.{cons_option}
use Rattle.std.specs.Option.{option_and_then, option_map_or}
use Rattle.std.specs.Prelude.{slice_get}
use Rattle.std.proofs.lemmas.List.{length-map, length-take-le, take-append-drop}
use Rattle.std.proofs.lemmas.Option.{none-some, same_Some, slice_get_within}
use Rattle.bb_base.specs.Form.{Form}
use Rattle.bb_flash.specs.Image.{Image}
use Rattle.bb_layout.specs.Convert.{convert}
use Rattle.bb_layout.specs.Layout.{Laid}
use Rattle.bb_state.proofs.Lists.{take_next}
use Rattle.bb_history.specs.Entries.{entry_area, entry_at, log_areas}
use Rattle.bb_history.specs.Lines.{count_line, entries_text}
use Rattle.bb_history.specs.Reading.{AllPass, ArePlaces, AreWithin, IsEndedAt, IsEndedBy, area_at, ended_text, entry_lines, passing_text, place_text, places_text, shown_text}
use Rattle.bb_history.specs.declared.entry.Ended.{Ended}
use Rattle.bb_circular.specs.declared.kept.Entry.{Entry}

-- ---- one entry

-- one that passes nothing adds nothing
pub failing_adds : (layout : Laid) (number : ℕ) (left : List ℕ) (passed : Option ℕ) (out : List ℕ) →
    passed ≡ None → out ≡ out ++ passing_text layout number left passed
failing_adds layout number left passed out fails =
    sym (append-nil out) ∙ ap (λ (o : Option ℕ). out ++ passing_text layout number left o) (sym fails)

-- and one that passes its lines
pub passing_adds : (layout : Laid) (number : ℕ) (left : List ℕ) (passed : Option ℕ) (len : ℕ) →
    passed ≡ Some len → entry_lines layout number (take len left) ≡ passing_text layout number left passed
passing_adds layout number left passed len is =
    ap (λ (o : Option ℕ). passing_text layout number left o) (sym is)

-- where none was read again nothing is added
pub none_adds : (layout : Laid) (number : ℕ) (left : List ℕ) (ended : Option Ended) (out : List ℕ) →
    ended ≡ None → out ≡ out ++ ended_text layout number left ended
none_adds layout number left ended out none =
    sym (append-nil out) ∙ ap (λ (e : Option Ended). out ++ ended_text layout number left e) (sym none)

pub ended_adds : (layout : Laid) (number : ℕ) (left : List ℕ) (ended : Option Ended) (one : Ended) →
    ended ≡ Some one → passing_text layout number left one.passed ≡ ended_text layout number left ended
ended_adds layout number left ended one is =
    ap (λ (e : Option Ended). ended_text layout number left e) (sym is)

-- ---- the entries at places

abbrev lines_of : Laid → ℕ → Option (List ℕ) → List ℕ
lines_of layout number area = option_map_or (λ a. entry_lines layout number a) area []

module _ (layout : Laid) (form : Form) (page : ℕ) (block : Image) where
  -- what is added of an entry that was read is the text of its place
  pub ended_is : (number place : ℕ) (left : List ℕ) (ended : Option Ended) →
      IsEndedAt form page block place left ended →
      ended_text layout number left ended ≡ place_text layout form page block number place
  ended_is number place left ended is = by (entry_at page block place) ended is
    where
      by_pass : (passed : Option ℕ) (area : Option (List ℕ)) → option_map (λ len. take len left) passed ≡ area →
          passing_text layout number left passed ≡ lines_of layout number area
      by_pass None area e = ap (lines_of layout number) e
      by_pass (Some len) area e = ap (lines_of layout number) e

      by : (entry : Option Entry) (e : Option Ended) → IsEndedBy form page block entry left e →
          ended_text layout number left e
          ≡ lines_of layout number (option_and_then (entry_area form block) entry)
      by None None is = refl
      by None (Some e) is = absurd (none-some e.before (sym is.before))
      by (Some entry) None is = absurd (none-some (entry.at / page) is.before)
      by (Some entry) (Some e) is = by_pass e.passed (entry_area form block entry) is.passes

  -- those of places at all of which an entry passes are the texts of their areas
  pub places_are : (places : List ℕ) (number : ℕ) → AllPass form page block places →
      places_text layout form page block number places
      ≡ entries_text layout.vars number (map (convert layout) (filter_map (area_at form page block) places))
  places_are [] number all = refl
  places_are (place ∷ places) number (here, rest) =
      by (places_are places (number + 1) rest) (area_at form page block place) refl here
    where
      by : places_text layout form page block (number + 1) places
          ≡ entries_text layout.vars (number + 1) (map (convert layout) (filter_map (area_at form page block) places)) →
          (area : Option (List ℕ)) → area_at form page block place ≡ area → is_some area ≡ true →
          places_text layout form page block number (place ∷ places)
          ≡ entries_text layout.vars number
          (map (convert layout) (filter_map (area_at form page block) (place ∷ places)))
      by tail None e some = absurd cc
      by tail (Some a) e some =
          ap (λ (o : Option (List ℕ)). option_map_or (λ x. entry_lines layout number x) o []
          ++ places_text layout form page block (number + 1) places) e
          ∙ ap (λ l. entry_lines layout number a ++ l) tail
          ∙ ap (λ (o : Option (List ℕ)). entries_text layout.vars number
          (map (convert layout) (cons_option o (filter_map (area_at form page block) places)))) (sym e)

  -- there are as many of them
  pub places_counted : (places : List ℕ) → AllPass form page block places →
      length (filter_map (area_at form page block) places) ≡ length places
  places_counted [] all = refl
  places_counted (place ∷ places) (here, rest) =
      by (places_counted places rest) (area_at form page block place) refl here
    where
      by : length (filter_map (area_at form page block) places) ≡ length places →
          (area : Option (List ℕ)) → area_at form page block place ≡ area → is_some area ≡ true →
          length (filter_map (area_at form page block) (place ∷ places)) ≡ length (place ∷ places)
      by tail None e some = absurd cc
      by tail (Some a) e some =
          ap (λ (o : Option (List ℕ)). length
          (cons_option o (filter_map (area_at form page block) places))) e
          ∙ ap suc tail

  -- one more of them
  pub places_next : (places : List ℕ) (number place : ℕ) →
      places_text layout form page block number (places ++ place ∷ [])
      ≡ places_text layout form page block number places
      ++ place_text layout form page block (number + length places) place
  places_next [] number place =
      append-nil (place_text layout form page block number place)
      ∙ ap (λ n. place_text layout form page block n place)
      (let none : number ≡ number + 0 = omega arith in none)
  places_next (first ∷ places) number place =
      let count : number + 1 + length places ≡ number + length (first ∷ places) = omega arith in
      ap (λ l. place_text layout form page block number first ++ l) (places_next places (number + 1) place)
      ∙ sym
      (append_assoc (place_text layout form page block number first)
      (places_text layout form page block (number + 1) places)
      (place_text layout form page block (number + 1 + length places) place))
      ∙ ap (λ n. (place_text layout form page block number first
      ++ places_text layout form page block (number + 1) places) ++ place_text layout form page block n place) count

-- ---- the first of them, and those after

module _ (layout : Laid) (form : Form) (page : ℕ) (block : Image) where
  abbrev Texts : ℕ → List ℕ → List ℕ
  Texts number places = places_text layout form page block number places

  texts_joined : (one two : List ℕ) (number : ℕ) →
      Texts number (one ++ two) ≡ Texts number one ++ Texts (number + length one) two
  texts_joined [] two number =
      ap (λ n. places_text layout form page block n two)
      (let none : number ≡ number + 0 = omega arith in none)
  texts_joined (place ∷ one) two number =
      let count : number + 1 + length one ≡ number + length (place ∷ one) = omega arith in
      ap (λ l. place_text layout form page block number place ++ l) (texts_joined one two (number + 1))
      ∙ sym
      (append_assoc (place_text layout form page block number place)
      (places_text layout form page block (number + 1) one)
      (places_text layout form page block (number + 1 + length one) two))
      ∙ ap (λ n. (place_text layout form page block number place
      ++ places_text layout form page block (number + 1) one) ++ places_text layout form page block n two) count

  -- what stands after the first `number` of them
  abbrev pub places_behind : List ℕ → ℕ → List ℕ
  places_behind places number =
      places_text layout form page block (1 + length (take number places)) (drop number places)

  pub places_split : (places : List ℕ) (number : ℕ) →
      places_text layout form page block 1 places
      ≡ places_text layout form page block 1 (take number places) ++ places_behind places number
  places_split places number =
      ap (λ ps. places_text layout form page block 1 ps) (sym (take-append-drop number places))
      ∙ texts_joined (take number places) (drop number places) 1

  -- with one more
  pub places_next_at : (places : List ℕ) (number place : ℕ) → slice_get places number ≡ Some place →
      places_text layout form page block 1 (take (number + 1) places)
      ≡ places_text layout form page block 1 (take number places)
      ++ place_text layout form page block (number + 1) place
  places_next_at places number place there =
      let inside = slice_get_within places number place there in
      let long : 1 + length (take number places) ≡ number + 1 =
      omega (arith, length-take-le number places (omega (arith, inside))) in
      ap (λ ps. places_text layout form page block 1 ps) (take_next places number place there)
      ∙ places_next layout form page block (take number places) 1 place
      ∙ ap (λ n. places_text layout form page block 1 (take number places) ++ place_text layout form page block n place) long

-- a place of a list that lies within a block
pub within_at : (count : ℕ) (places : List ℕ) (number place : ℕ) → AreWithin count places →
    slice_get places number ≡ Some place → (1 ≤ place) × (place ≤ count)
within_at count [] number place all there = absurd (none-some place there)
within_at count (first ∷ places) zero place (here, rest) there =
    subst (λ p. (1 ≤ p) × (p ≤ count)) (same_Some first place there) here
within_at count (first ∷ places) (suc number) place (here, rest) there =
    within_at count places number place rest there

-- the text of a log, by the places of its entries that pass
pub log_text : (layout : Laid) (form : Form) (page : ℕ) (block : Image) (copy : ℕ)
    (places : List ℕ) → ArePlaces form page block places →
    shown_text layout copy (log_areas form page block)
    ≡ count_line copy (length places) ++ places_text layout form page block 1 places
log_text layout form page block copy places are =
    let areas : List (List ℕ) = filter_map (area_at form page block) places in
    ap (shown_text layout copy) are.areas
    ∙ ap (λ n. count_line copy n ++ entries_text layout.vars 1 (map (convert layout) areas))
    (length-map areas (convert layout) ∙ places_counted layout form page block places are.pass)
    ∙ ap (λ l. count_line copy (length places) ++ l) (sym (places_are layout form page block places 1 are.pass))
