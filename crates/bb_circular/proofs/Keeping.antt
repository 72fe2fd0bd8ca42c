-- What is kept of a block, and what a look at its newest entry says.
use Rattle.std.proofs.Common.{◌≡◌, ℕ, ◌+◌, ◌-◌, ◌*◌, ◌/◌, ◌%◌, ◌<◌, ◌≤◌, Bool, true, false, ◌&&◌, List, eqb, length, take, drop, Option, Some, None, option_map, is_some, IsTrue, IfSome, refl, sym, ap, ◌∙◌, subst, arith, inl, inr, cond}
use Rattle.std.specs.Option.{ForSome, option_and_then}
use Rattle.std.specs.Int.{div_ceil}
use Rattle.std.proofs.Math.Nat.{add-mul, lt_of_mul-lt-mul_right}
use Rattle.std.proofs.lemmas.Bool.{and_from, and_parts, cases_Bool, eq-eqb, eqb-true}
use Rattle.std.proofs.lemmas.Grind.{div_ceil_times}
use Rattle.bb_flash.specs.declared.health.Health.{Health}
use Rattle.bb_flash.specs.declared.health.Health.TheVariants.{Fine, Worn, Lost}
use Rattle.bb_flash.specs.Device.{Device, content}
use Rattle.bb_flash.specs.Image.{Image, health_of, worst_of}
use Rattle.bb_flash.proofs.Geometries.{whole_times}
use Rattle.bb_flash.proofs.Tearing.{touched_pages-some}
use Rattle.bb_bucket.specs.declared.block.Block.{Block}
use Rattle.bb_bucket.specs.Calls.{Agrees, IsPieceOf}
use Rattle.bb_bucket.specs.Front.{is_lost, is_worn}
use Rattle.bb_bucket.specs.Kind.{part_of}
use Rattle.bb_bucket.specs.Seen.{IsLookOf, IsReadable, IsSeenIn, Sight, is_sight_of, look_with, sight_in}
use Rattle.bb_bucket.specs.declared.seen.Look.{Look}
use Rattle.bb_bucket.specs.declared.seen.Seen.{Seen}
use Rattle.bb_bucket.proofs.Sights.{has_len, sight_told, within_part}
use Rattle.bb_circular.proofs.Looks.{lost_or_kept}
use Rattle.bb_bucket.proofs.Pages.{sum_aligned}
use Rattle.bb_circular.specs.declared.kept.Entry.{Entry}
use Rattle.bb_circular.specs.declared.kept.Kept.{Kept}
use Rattle.bb_circular.specs.Circular.{IsEntryIn, IsKeptIn, IsOfEntry, agrees_with, circular_candidate, circular_holding, kept_of, newest_kept, newest_of, next_place, readable, record_of, same_kept, same_newest}
use Rattle.bb_circular.specs.Entries.{closed_entry}
use Rattle.bb_circular.specs.Looking.{IsKnown, worn_of}
use Rattle.bb_circular.specs.Pages.{page_at, written_pages}

-- ---- what is kept

same_entry : (one two : Entry) → one.at ≡ two.at → one.len ≡ two.len → one ≡ two
same_entry one two p q = ap (λ at. (let e : Entry = record { at = at; len = one.len } in e)) p ∙ ap (λ len. (let e : Entry = record { at = two.at; len = len } in e)) q

same_newest_is : (one two : Option Entry) → same_newest one two ≡ true → one ≡ two
same_newest_is None None same = refl
same_newest_is None (Some two) same = absurd cc
same_newest_is (Some one) None same = absurd cc
same_newest_is (Some one) (Some two) same =
    let parts = and_parts (eqb one.at two.at) (eqb one.len two.len) same in
    ap Some (same_entry one two (eqb-true one.at two.at parts.0) (eqb-true one.len two.len parts.1))

newest_same : (one : Option Entry) → same_newest one one ≡ true
newest_same None = refl
newest_same (Some one) = and_from (eqb one.at one.at) (eqb one.len one.len) (eq-eqb one.at one.at refl) (eq-eqb one.len one.len refl)

kept_by : (next_one next_two : ℕ) (one two : Option Entry) → next_one ≡ next_two → one ≡ two → (let k : Kept = record { next = next_one; newest = one } in k) ≡ record { next = next_two; newest = two }
kept_by a b one two p q = ap (λ next. (let k : Kept = record { next = next; newest = one } in k)) p ∙ ap (λ newest. (let k : Kept = record { next = b; newest = newest } in k)) q

pub same_kept_is : (one two : Kept) → same_kept one two ≡ true → one ≡ two
same_kept_is one two same =
    let parts = and_parts (eqb one.next two.next) (same_newest one.newest two.newest) same in
    kept_by one.next two.next one.newest two.newest (eqb-true one.next two.next parts.0) (same_newest_is one.newest two.newest parts.1)

-- what there is to keep agrees
pub kept_agrees : (page : ℕ) (old : Image) (kept : Kept) → kept ≡ kept_of page old → same_kept kept (kept_of page old) ≡ true
kept_agrees page old kept is =
    ap (λ one. same_kept one (kept_of page old)) is
    ∙ and_from (eqb (next_place page old) (next_place page old)) (same_newest (newest_of page old) (newest_of page old)) (eq-eqb (next_place page old) (next_place page old) refl) (newest_same (newest_of page old))

-- what a bucket keeps since a call is what there is to keep
pub holding_agrees :
    (block : Block) (most : ℕ) (kept : Kept) (device : Device) →
    device.geometry.page ≡ block.page →
    ForSome (content device) (λ image. kept ≡ kept_of block.page (part_of block.page block.region image)) →
    Agrees (circular_holding (record { block = block; most = most; kept = Some kept; sight = None })) device
holding_agrees block most kept device same is = record {
  here = λ image told. and_from _ _
      (subst (λ page. same_kept kept (kept_of block.page (part_of page block.region image)) ≡ true) (sym same)
      (kept_agrees block.page (part_of block.page block.region image) kept (is image told))) refl;
  found = λ image told. tt;
}

-- the same since a look that found a record
pub holding_found :
    (block : Block) (most : ℕ) (kept : Kept) (sight : Option Sight) (device : Device) →
    device.geometry.page ≡ block.page →
    ForSome (content device) (λ image. kept ≡ kept_of block.page (part_of block.page block.region image)) →
    ForSome (content device) (λ image.
    IsTrue (is_sight_of sight (circular_candidate block.page (part_of block.page block.region image)))) →
    Agrees (circular_holding (record { block = block; most = most; kept = Some kept; sight = sight })) device
holding_found block most kept sight device same is seen =
    let sighted : ForSome (content device) (λ image.
    IsTrue (is_sight_of sight (circular_candidate block.page (part_of device.geometry.page block.region image)))) =
    λ image told.
    subst (λ page. IsTrue (is_sight_of sight (circular_candidate block.page (part_of page block.region image)))) (sym same)
    (seen image told) in
    record {
      here = λ image told. and_from _ _
          (subst (λ page. same_kept kept (kept_of block.page (part_of page block.region image)) ≡ true) (sym same)
          (kept_agrees block.page (part_of block.page block.region image) kept (is image told)))
          (sighted image told);
      found = λ image told. has_len _ _ (sighted image told);
    }

readable_twice : (page : ℕ) (old : Image) (newest : Option Entry) → option_and_then (readable page old) (option_and_then (readable page old) newest) ≡ option_and_then (readable page old) newest
readable_twice page old None = refl
readable_twice page old (Some entry) =
    elim (cases_Bool (is_lost (health_of page old entry.at entry.len))) [
      | inl lost ↦
          ap (λ b. option_and_then (readable page old) (cond b None (Some entry))) lost
          ∙ ap (λ b. cond b None (Some entry)) (sym lost)
      | inr kept ↦ ap (λ b. option_and_then (readable page old) (cond b None (Some entry))) kept
    ]

-- what is kept, and agrees, is known
pub kept_known : (page : ℕ) (old : Image) (kept : Kept) → same_kept kept (kept_of page old) ≡ true → IsKnown page old kept
kept_known page old kept same =
    let is = same_kept_is kept (kept_of page old) same in
    subst (λ (one : Kept). IsKnown page old one) (sym is)
    (record {
      next = refl;
      newest =
          readable_twice page old
          (closed_entry page (written_pages page old) (page_at page old (written_pages page old - 1)));
    })

-- ---- a read of the newest entry

ceil_is : (n q page : ℕ) → 0 < page → n ≤ q * page → q * page < n + page → div_ceil n page ≡ q
ceil_is n q page some low high =
    let ceil = div_ceil_times n page some in
    let next = add-mul q 1 page in
    let after = add-mul (div_ceil n page) 1 page in
    let less : div_ceil n page < q + 1 = lt_of_mul-lt-mul_right page (omega arith) in
    let more : q < div_ceil n page + 1 = lt_of_mul-lt-mul_right page (omega arith) in
    omega arith

-- the closing words stand in a page of the record or its filling, so they add none
pub health_of-record :
    (page : ℕ) (old : Image) (at len : ℕ) →
    16 ≤ page → at % page ≡ 0 → len % page ≡ 0 → page ≤ len →
    health_of page old at (len - 8) ≡ health_of page old at len
health_of-record page old at len least aligned whole some =
    let times = whole_times (at + len) page (sum_aligned page at len aligned whole) in
    let short : div_ceil (at + (len - 8)) page ≡ (at + len) / page = ceil_is (at + (len - 8)) ((at + len) / page) page (omega arith) (omega arith) (omega arith) in
    let long : div_ceil (at + len) page ≡ (at + len) / page = ceil_is (at + len) ((at + len) / page) page (omega arith) (omega arith) (omega arith) in
    ap worst_of
    (touched_pages-some page at (len - 8) old.health (omega arith)
    ∙ ap (λ n. take (n - at / page) (drop (at / page) old.health)) (short ∙ sym long)
    ∙ sym (touched_pages-some page at len old.health (omega arith)))

module _ (page : ℕ) (old : Image) (entry : Entry) (memory : List ℕ) (seen : Seen) where
  seen_kept :
      (health : Health) → health_of page old entry.at entry.len ≡ health → is_lost health ≡ false →
      seen.len ≡ length (record_of old entry) →
      IsTrue (is_sight_of (sight_in memory (Some seen)) (Some (record_of old entry))) →
      IsLookOf (option_map (record_of old) (readable page old entry)) (worn_of page old (readable page old entry)) memory
      (record { found = record { len = Some seen.len; worn = is_worn health }; seen = Some seen })
  seen_kept health is kept len sight =
      let some : readable page old entry ≡ Some entry = ap (λ h. cond (is_lost h) None (Some entry)) is ∙ ap (λ b. cond b None (Some entry)) kept in
      let candidate : option_map (record_of old) (readable page old entry) ≡ Some (record_of old entry) = ap (option_map (record_of old)) some in
      record {
        is_found = record {
          len = ap Some len ∙ sym (ap (option_map (λ (bytes : List ℕ). length bytes)) candidate);
          worn = ap is_worn (sym is) ∙ sym (ap (worn_of page old) some);
        };
        is_seen =
            subst (λ (c : Option (List ℕ)). IsTrue (is_sight_of (sight_in memory (Some seen)) c)) (sym candidate) sight;
      }

  pub entry_seen :
      (health : Health) → health_of page old entry.at entry.len ≡ health →
      seen.len ≡ length (record_of old entry) →
      (is_lost health ≡ false → IsTrue (is_sight_of (sight_in memory (Some seen)) (Some (record_of old entry)))) →
      IsLookOf (option_map (record_of old) (readable page old entry)) (worn_of page old (readable page old entry)) memory
      (look_with seen health)
  entry_seen Lost is len sight =
      let none : readable page old entry ≡ None = ap (λ h. cond (is_lost h) None (Some entry)) is in
      record {
        is_found = record {
          len = sym (ap (λ read. option_map (λ (bytes : List ℕ). length bytes) (option_map (record_of old) read)) none);
          worn = sym (ap (worn_of page old) none);
        };
        is_seen = refl;
      }
  entry_seen Fine is len sight = seen_kept Fine is refl len (sight refl)
  entry_seen Worn is len sight = seen_kept Worn is refl len (sight refl)

cond_none : (b : Bool) (one entry : Entry) → cond b None (Some one) ≡ Some entry → one ≡ entry
cond_none true one entry e = absurd cc
cond_none false one entry e = cc

-- an entry that can be read is the one that was looked at
readable_is : (page : ℕ) (old : Image) (newest : Option Entry) (entry : Entry) → option_and_then (readable page old) newest ≡ Some entry → newest ≡ Some entry
readable_is page old None entry e = absurd cc
readable_is page old (Some one) entry e = ap Some (cond_none (is_lost (health_of page old one.at one.len)) one entry e)

confirmed_by :
    (page : ℕ) (old : Image) (kept : Kept) (len : Option ℕ) (newest : Option Entry) →
    IsKnown page old kept →
    len ≡ option_map (λ (bytes : List ℕ). length bytes) (circular_candidate page old) →
    newest_of page old ≡ newest →
    cond (is_some len) kept (record kept { newest = None }) ≡ kept_of page old
confirmed_by page old kept len None known is e =
    ap (λ o. cond (is_some o) kept (record kept { newest = None })) (is ∙ ap (λ newest. option_map (λ (bytes : List ℕ). length bytes) (option_map (record_of old) newest)) e)
    ∙ kept_by kept.next (next_place page old) None (newest_of page old) known.next (sym e)
confirmed_by page old kept len (Some entry) known is e =
    ap (λ o. cond (is_some o) kept (record kept { newest = None })) (is ∙ ap (λ newest. option_map (λ (bytes : List ℕ). length bytes) (option_map (record_of old) newest)) e)
    ∙ kept_by kept.next (next_place page old) kept.newest (newest_of page old) known.next (readable_is page old kept.newest entry (known.newest ∙ e) ∙ sym e)

-- what there is to keep once the newest entry was read
pub confirmed :
    (page : ℕ) (old : Image) (kept : Kept) (len : Option ℕ) →
    IsKnown page old kept →
    len ≡ option_map (λ (bytes : List ℕ). length bytes) (circular_candidate page old) →
    cond (is_some len) kept (record kept { newest = None }) ≡ kept_of page old
confirmed page old kept len known is = confirmed_by page old kept len (newest_of page old) known is refl

pub confirmed_inside :
    (block : Block) (kept : Kept) (len : Option ℕ) → IsKeptIn block kept →
    IsKeptIn block (cond (is_some len) kept (record kept { newest = None }))
confirmed_inside block kept None inside = record { inside = inside.inside; aligned = inside.aligned; newest = tt }
confirmed_inside block kept (Some n) inside = inside

-- a record that was seen is that of the entry that is kept
pub confirmed_seen :
    (block : Block) (kept : Kept) (len : Option ℕ) (seen : Option Seen) (room : ℕ) →
    len ≡ option_map (λ s. s.len) seen → IfSome seen (IsOfEntry block kept.newest room) →
    IfSome seen (IsOfEntry block (cond (is_some len) kept (record kept { newest = None })).newest room)
confirmed_seen block kept None None room e h = tt
confirmed_seen block kept (Some n) None room e h = tt
confirmed_seen block kept None (Some seen) room e h = absurd cc
confirmed_seen block kept (Some n) (Some seen) room e h = h

-- ---- a record that was seen, by its entry

kept_of_look :
    (kept : Option Seen) (seen : Seen) (P : Seen → Type 0) → IfSome kept (λ k. k ≡ seen) → P seen →
    IfSome kept P
kept_of_look None seen P e h = tt
kept_of_look (Some k) seen P e h = subst P (sym e) h

pub of_entry :
    (block : Block) (newest : Option Entry) (entry : Entry) (room held : ℕ) (seen : Seen)
    (look : Look) →
    newest ≡ Some entry → 16 ≤ block.page → IsEntryIn block entry → seen.len ≡ entry.len - 8 →
    IsSeenIn entry.at (entry.len - 8) room seen → room ≡ held →
    IfSome look.seen (λ kept. kept ≡ seen) → IfSome look.seen (IsOfEntry block newest held)
of_entry block newest entry room held seen look is least inside len of same kept =
    let whole : entry.len ≡ seen.len + 8 = omega (arith, least, inside.some) in
    let given : IsOfEntry block newest held seen = record {
      entry =
          is ∙ ap (λ at. Some (let e : Entry = record { at = at; len = entry.len } in e)) (sym of.placed)
          ∙ ap (λ n. Some (let e : Entry = record { at = seen.at; len = n } in e)) whole;
      inside = record {
        placed = refl;
        inside = of.inside;
        fits = omega (arith, of.fits, inside.inside, inside.some);
        held = omega (arith, of.held);
      };
    } in
    kept_of_look look.seen seen (IsOfEntry block newest held) kept given

not_lost : (b : Bool) (entry : Entry) → cond b None (Some entry) ≡ Some entry → b ≡ false
not_lost true entry e = absurd cc
not_lost false entry e = refl

-- the entry that is kept is the newest
newest_is :
    (page : ℕ) (old : Image) (kept : Option Kept) (entry : Entry) →
    agrees_with page kept old ≡ true → newest_kept kept ≡ Some entry →
    newest_of page old ≡ Some entry
newest_is page old None entry h e = absurd cc
newest_is page old (Some kept) entry h e =
    ap (λ (k : Kept). k.newest) (sym (same_kept_is kept (kept_of page old) h)) ∙ e

some_same : (a b : List ℕ) → Some a ≡ Some b → a ≡ b
some_same a b e = cc

pub first_agrees : (a b : Bool) → (a && b) ≡ true → a ≡ true
first_agrees true b e = refl
first_agrees false b e = absurd cc

-- it lies in its block
pub kept_entry :
    (block : Block) (kept : Option Kept) (entry : Entry) → IfSome kept (IsKeptIn block) →
    newest_kept kept ≡ Some entry → IsEntryIn block entry
kept_entry block None entry h e = absurd cc
kept_entry block (Some kept) entry h e =
    subst (λ (newest : Option Entry). IfSome newest (IsEntryIn block)) e h.newest

record IsSeenEntry (page : ℕ) (old : Image) (seen : Seen) : Type 0 where
  pub alive : is_lost (health_of page old seen.at (seen.len + 8)) ≡ false
  pub candidate : circular_candidate page old ≡ Some (take seen.len (drop seen.at old.bytes))

seen_entry :
    (page room : ℕ) (block : Block) (old : Image) (kept : Option Kept) (seen : Seen) →
    agrees_with page kept old ≡ true → IsOfEntry block (newest_kept kept) room seen →
    IsSeenEntry page old seen
seen_entry page room block old kept seen h of =
    let entry : Entry = record { at = seen.at; len = seen.len + 8 } in
    let newest = newest_is page old kept entry h of.entry in
    let twice =
    readable_twice page old
    (closed_entry page (written_pages page old) (page_at page old (written_pages page old - 1))) in
    let len : seen.len + 8 - 8 ≡ seen.len = omega arith in
    record {
      alive =
          not_lost _ entry
          (sym (ap (option_and_then (readable page old)) newest) ∙ twice ∙ newest);
      candidate =
          ap (option_map (record_of old)) newest
          ∙ ap (λ n. Some (take n (drop seen.at old.bytes))) len;
    }

pub entry_readable :
    (page room : ℕ) (block : Block) (old : Image) (kept : Option Kept) (memory : List ℕ)
    (seen : Seen) →
    16 ≤ page → page ≡ block.page → room ≡ length memory →
    IfSome kept (IsKeptIn block) → IsOfEntry block (newest_kept kept) room seen →
    IsTrue (agrees_with page kept old && is_sight_of (sight_in memory (Some seen)) (circular_candidate page old)) →
    IsReadable page old memory seen
entry_readable page room block old kept memory seen least same whole inside of h =
    let both = and_parts _ _ h in
    let seen_is = seen_entry page room block old kept seen both.0 of in
    let entry = kept_entry block kept (record { at = seen.at; len = seen.len + 8 }) inside of.entry in
    let told =
    sight_told (circular_candidate page old) (take seen.len (drop seen.at old.bytes)) memory seen
    seen_is.candidate (omega (arith, of.inside.held)) both.1 in
    let len : seen.len + 8 - 8 ≡ seen.len = omega arith in
    let short : health_of page old seen.at seen.len ≡ health_of page old seen.at (seen.len + 8) =
    ap (health_of page old seen.at) (sym len)
    ∙ health_of-record page old seen.at (seen.len + 8) least
    (ap (λ p. seen.at % p) same ∙ entry.aligned) (ap (λ p. (seen.len + 8) % p) same ∙ entry.pages)
    (omega (arith, entry.some)) in
    record {
      alive = λ lost. lost_or_kept _ seen_is.alive (sym short ∙ lost);
      piece =
          told.piece
          ∙ within_part seen.at seen.from seen.count seen.len old.bytes (omega (arith, of.inside.inside));
    }

pub entry_piece :
    (page room : ℕ) (block : Block) (old : Image) (kept : Option Kept) (out : List ℕ)
    (seen : Seen) (from : ℕ) →
    IsOfEntry block (newest_kept kept) room seen → agrees_with page kept old ≡ true →
    from + length out ≤ seen.len → out ≡ take (length out) (drop (seen.at + from) old.bytes) →
    IsPieceOf (circular_candidate page old) from out
entry_piece page room block old kept out seen from of h reaches e = λ bytes is.
    let seen_is = seen_entry page room block old kept seen h of in
    let same : bytes ≡ take seen.len (drop seen.at old.bytes) =
    some_same _ _ (sym is ∙ seen_is.candidate) in
    e
    ∙ sym
    (ap (λ l. take (length out) (drop from l)) same
    ∙ within_part seen.at from (length out) seen.len old.bytes reaches)
