-- One entry that is read: its health in pieces, and what its record passes.
use Rattle.std.proofs.Common.{◌≡◌, ◌≢◌, ℕ, ◌+◌, ◌-◌, ◌*◌, ◌/◌, ◌<◌, ◌≤◌, Bool, true, false, List, ◌++◌, drop, take, take-add, length, Option, Some, None, IfSome, option_map, refl, sym, ap, subst, ◌∙◌, arith, div-mul-le_self, lt_of_mul-lt-mul_right, if◌then◌else◌}
use Rattle.std.proofs.lemmas.List.{drop-drop, take-take}
use Rattle.bb_base.specs.Checked.{IsPassed}
use Rattle.bb_base.specs.Form.{Form, IsForm}
use Rattle.bb_base.specs.declared.format.Passed.{Passed}
use Rattle.bb_bucket.proofs.Healths.{health_joined}
use Rattle.bb_bucket.specs.Front.{is_lost}
use Rattle.bb_circular.specs.declared.kept.Entry.{Entry}
use Rattle.bb_circular.specs.Circular.{readable, record_of}
use Rattle.bb_circular.specs.Entries.{closing_len}
use Rattle.bb_circular.specs.Looking.{IsEndOf}
use Rattle.bb_circular.specs.Pages.{page_at}
use Rattle.bb_copies.proofs.Pieced.{whole_fits, whole_passed}
use Rattle.bb_copies.specs.Passing.{FitsFront}
use Rattle.bb_flash.proofs.Geometries.{whole_times}
use Rattle.bb_flash.specs.Image.{Image, health_of, worse_of}
use Rattle.bb_flash.specs.declared.health.Health.{Health}
use Rattle.bb_flash.specs.declared.health.Health.TheVariants.{Fine, Worn, Lost}
use Rattle.bb_history.specs.Reading.{IsEndedAt, IsEndedBy, IsLastRead}
use Rattle.bb_history.specs.Entries.{entry_at}
use Rattle.bb_history.specs.declared.entry.Ended.{Ended}
use Rattle.bb_history.proofs.Walking.{closed_ends, entry_pages, less_one}

-- ---- healths of two parts

alive_joined : (a b : Health) → a ≢ Lost → b ≢ Lost → worse_of a b ≢ Lost
alive_joined Fine b h k = k
alive_joined Worn Fine h k = λ e. cc
alive_joined Worn Worn h k = λ e. cc
alive_joined Worn Lost h k = absurd (k refl)
alive_joined Lost b h k = absurd (h refl)

lost_first : (a b : Health) → a ≡ Lost → worse_of a b ≡ Lost
lost_first Lost b h = refl
lost_first Fine b h = absurd cc
lost_first Worn b h = absurd cc

lost_second : (a b : Health) → b ≡ Lost → worse_of a b ≡ Lost
lost_second Fine b h = h
lost_second Lost b h = refl
lost_second Worn Lost h = refl
lost_second Worn Fine h = absurd cc
lost_second Worn Worn h = absurd cc

lost_is : (health : Health) → is_lost health ≡ true → health ≡ Lost
lost_is Lost h = refl
lost_is Fine h = absurd cc
lost_is Worn h = absurd cc

pub alive_is : (health : Health) → is_lost health ≡ false → health ≢ Lost
alive_is Fine h = λ e. cc
alive_is Worn h = λ e. cc
alive_is Lost h = absurd cc

not_lost : (health : Health) → health ≢ Lost → is_lost health ≡ false
not_lost Fine h = refl
not_lost Worn h = refl
not_lost Lost h = absurd (h refl)

-- none of the first bytes of an entry at a place is in a Lost page
abbrev pub IsAlive : ℕ → Image → ℕ → ℕ → Type 0
IsAlive page block at len = health_of page block at len ≢ Lost

module _ (page : ℕ) (block : Image) (at : ℕ) (some : 1 ≤ page) where
  pub alive_more : (from count : ℕ) → IsAlive page block at from →
      health_of page block (at + from) count ≢ Lost → IsAlive page block at (from + count)
  alive_more from count first next =
      subst (λ h. h ≢ Lost) (sym (health_joined page block at from count some))
      (alive_joined (health_of page block at from) (health_of page block (at + from) count) first next)

  -- one that is makes the whole entry unreadable
  pub lost_part : (from count rest len : ℕ) → from + count + rest ≡ len →
      is_lost (health_of page block (at + from) count) ≡ true → health_of page block at len ≡ Lost
  lost_part from count rest len all lost =
      ap (health_of page block at) (sym all)
      ∙ health_joined page block at (from + count) rest some
      ∙ lost_first (health_of page block at (from + count)) (health_of page block (at + (from + count)) rest)
      (health_joined page block at from count some
      ∙ lost_second (health_of page block at from) (health_of page block (at + from) count)
      (lost_is (health_of page block (at + from) count) lost))

-- ---- the entry

module _ (form : Form) (page : ℕ) (block : Image) (entry : Entry) where
  -- it can't be read
  pub unreadable : (left : List ℕ) → health_of page block entry.at entry.len ≡ Lost →
      IsEndedBy form page block (readable page block entry) left None
  unreadable left lost =
      let none : readable page block entry ≡ None =
      ap (λ (h : Health). if is_lost h then None else Some entry) lost in
      subst (λ (e : Option Entry). IsEndedBy form page block e left None) (sym none)
      (record { before = refl; passes = tt })

  -- it was read whole, and its record checked
  pub checked : (left : List ℕ) (answer : Option Passed) (before : ℕ) (passed : Option ℕ) →
      health_of page block entry.at entry.len ≢ Lost → IsPassed form (record_of block entry) left answer →
      passed ≡ option_map (λ (p : Passed). p.len) answer → before ≡ entry.at / page →
      IsEndedBy form page block (readable page block entry) left
      (Some (record { before = before; passed = passed }))
  checked left answer before passed alive passes is start =
      let here : readable page block entry ≡ Some entry =
      ap (λ (b : Bool). if b then None else Some entry)
      (not_lost (health_of page block entry.at entry.len) alive) in
      subst
      (λ (e : Option Entry).
      IsEndedBy form page block e left (Some (record { before = before; passed = passed })))
      (sym here)
      (record {
        before = ap (λ (n : ℕ). Some n) start;
        passes =
            ap (λ (o : Option ℕ). option_map (λ len. take len left) o) is ∙ taken answer
            ∙ whole_passed form (record_of block entry) left answer passes;
      })
    where
      taken : (a : Option Passed) →
          option_map (λ len. take len left) (option_map (λ (p : Passed). p.len) a)
          ≡ option_map (λ (p : Passed). take p.len left) a
      taken None = refl
      taken (Some p) = refl

  -- its record comes in two parts: what stands before its last page, and in it
  pub fed_whole : (fed last : List ℕ) (from : ℕ) → closing_len ≤ page → from + page ≡ entry.len →
      fed ≡ take from (drop entry.at block.bytes) → last ≡ take page (drop (entry.at + from) block.bytes) →
      fed ++ take (page - closing_len) last ≡ record_of block entry
  fed_whole fed last from least all first second =
      let rest : List ℕ = drop entry.at block.bytes in
      let less : page - closing_len ≤ page = omega arith in
      let sum : from + (page - closing_len) ≡ entry.len - closing_len = omega arith in
      ap (λ l. l ++ take (page - closing_len) last) first
      ∙ ap (λ l. take from rest ++ take (page - closing_len) l)
      (second ∙ ap (take page) (sym (drop-drop from entry.at block.bytes)))
      ∙ ap (λ l. take from rest ++ l) (take-take (page - closing_len) page (drop from rest) less)
      ∙ sym (take-add from (page - closing_len) rest) ∙ ap (λ n. take n rest) sum

-- what so many pages of a block end with, by the entry that they close
pub ended_at : (form : Form) (page : ℕ) (block : Image) (pages : ℕ) (entry : Option Entry) (area left : List ℕ)
    (ended : Option Ended) → entry_at page block pages ≡ entry → left ≡ area →
    IsEndedBy form page block entry area ended → IsEndedAt form page block pages left ended
ended_at form page block pages entry area left ended there same is =
    subst (λ (e : Option Entry). IsEndedBy form page block e left ended) (sym there)
    (subst (λ l. IsEndedBy form page block entry l ended) (sym same) is)

-- no entry
pub not_ended : (form : Form) (page : ℕ) (block : Image) (pages : ℕ) (left : List ℕ) →
    entry_at page block pages ≡ None → IsEndedAt form page block pages left None
not_ended form page block pages left none =
    ended_at form page block pages None left left None none refl (record { before = refl; passes = tt })

-- the area that it passes stands inside what is left
pub checked_fits : (form : Form) (bytes left : List ℕ) (answer : Option Passed) (passed : Option ℕ) → IsForm form →
    length left ≡ form.area_len → IsPassed form bytes left answer →
    passed ≡ option_map (λ (p : Passed). p.len) answer → IfSome passed (λ len. len ≤ form.area_len)
checked_fits form bytes left answer passed laws size passes is =
    subst (λ (o : Option ℕ). IfSome o (λ len. len ≤ form.area_len)) (sym is)
    (inside answer (whole_fits form bytes left answer laws size passes))
  where
    inside : (a : Option Passed) → IfSome a (λ p. FitsFront form p.len left) →
        IfSome (option_map (λ (p : Passed). p.len) a) (λ len. len ≤ form.area_len)
    inside None fits = tt
    inside (Some p) fits =
        let within = fits.inside in
        let small : p.len ≤ form.area_len = omega (arith, within, size) in
        small

-- ---- its last page

-- what was read of the page that closes it
pub last_read : (page pages : ℕ) (block : Image) (out last : List ℕ) (closed : Option Entry) (entry : Entry) →
    1 ≤ page → IsEndOf page pages block out closed → closed ≡ Some entry → last ≡ out →
    IsLastRead page block entry last
last_read page pages block out last closed entry some is found same =
    let there = page_at page block (pages - 1) in
    let closing = sym (sym found ∙ is.entry_is) in
    let ends = closed_ends page pages there entry closing in
    let counted = entry_pages page pages there entry some ends in
    let long = less_one (entry.len / page) page counted.0 in
    let all = less_one pages page (omega (arith, counted.0, counted.1)) in
    let whole = whole_times entry.len page ends.whole in
    let at : entry.at + (entry.len - page) ≡ (pages - 1) * page = omega (arith, long, all, whole, ends.ends) in
    record {
      alive =
          subst (λ n. health_of page block n page ≢ Lost) (sym at) (alive_is there.health ends.alive);
      bytes =
          same
          ∙ subst (λ (e : Option Entry). IfSome e (λ _. out ≡ there.bytes)) found is.bytes
          ∙ ap (λ n. take page (drop n block.bytes)) (sym at);
    }

-- it starts before the page that it ends with
pub starts_before : (page pages at len before : ℕ) → 1 ≤ page → page ≤ len → at + len ≡ pages * page →
    before ≡ at / page → before < pages
starts_before page pages at len before some least ends is =
    let low = div-mul-le_self at page in
    let wide : at / page * page < pages * page = omega arith in
    let less : at / page < pages = lt_of_mul-lt-mul_right page wide in
    omega arith

pub some_weaker : {T : Type 0} (o : Option T) (P Q : T → Type 0) → ((x : T) → P x → Q x) → IfSome o P → IfSome o Q
some_weaker None P Q weaker p = tt
some_weaker (Some x) P Q weaker p = weaker x p
