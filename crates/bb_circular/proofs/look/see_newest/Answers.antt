use Rattle.std.proofs.Common.{◌≡◌, ℕ, ◌-◌, List, Option, Some, option_map, length, drop, sym, ap, ◌∙◌, subst, arith, refl, length-drop}
use Rattle.std.specs.Prelude.{IfSome}
use Rattle.std.specs.Option.{option_and_then}
use Rattle.std.proofs.lemmas.List.{length-take-le, with_items_is}
use Rattle.bb_flash.specs.Image.{Image, health_of}
use Rattle.bb_bucket.specs.BlockLaws.{block_lies_on, block_of}
use Rattle.bb_bucket.specs.Kind.{part_of}
use Rattle.bb_bucket.specs.Seen.{IsLookOf, IsReadThrough}
use Rattle.bb_bucket.specs.declared.seen.Look.{Look}
use Rattle.bb_bucket.proofs.Sights.{sight_seen, within_part}
use Rattle.bb_circular.specs.declared.kept.Entry.{Entry}
use Rattle.bb_circular.specs.Circular.{IsEntryIn, readable, record_of}
use Rattle.bb_circular.specs.Looking.{worn_of}
use Rattle.bb_circular.proofs.Keeping.{entry_seen, health_of-record, of_entry}
use Rattle.bb_circular.proofs.Looks.{lost_or_kept}
use Rattle.bb_circular.proofs.look.see_newest.Goals as goal

pub read_pieces-requires-clause-lies : goal.read_pieces-requires-clause-lies
read_pieces-requires-clause-lies g c = block_lies_on c.args.block (g.F.Flash.device c.args.flash.now).geometry (block_of c.args.block (g.F.Flash.device c.args.flash.now).geometry c.requires.held)

pub returns-clause-seen : goal.returns-clause-seen
returns-clause-seen g c =
    let pieces = c.in_ok-pieces.ensures in
    let entry : Entry = c.in-Some.entry in
    let inside : IsEntryIn c.args.block entry = subst (λ (newest : Option Entry). IfSome newest (IsEntryIn c.args.block)) c.in-Some.is c.requires.inside in
    let held = block_of c.args.block (g.F.Flash.device c.args.flash.now).geometry c.requires.held in
    let items = with_items_is c.args.memory.now c.read_pieces.new.memory (omega (arith, pieces.seen.held, c.read_pieces.ensures.memory)) in
    of_entry c.args.block c.args.newest entry _ _ c.in_ok-pieces.pieces.seen c.look_with.result
    c.in-Some.is held.page_least inside pieces.len pieces.seen
    (sym (ap (λ (l : List ℕ). length l) items ∙ c.read_pieces.ensures.memory)) c.look_with.ensures.seen

pub returns-clause-done : goal.returns-clause-done
returns-clause-done g c = λ image told.
    let held = block_of c.args.block (g.F.Flash.device c.args.flash.now).geometry c.requires.held in
    let page : ℕ = c.args.block.page in
    let old : Image = part_of page c.args.block.region image in
    let entry : Entry = c.in-Some.entry in
    let seen = c.in_ok-pieces.pieces.seen in
    let memory : List ℕ = c.read_pieces.new.memory in
    let pieces = c.in_ok-pieces.ensures in
    let inside : IsEntryIn c.args.block entry = subst (λ (newest : Option Entry). IfSome newest (IsEntryIn c.args.block)) c.in-Some.is c.requires.inside in
    let read = subst (λ (p : ℕ). IsReadThrough p (part_of p c.args.block.region image) c.args.block.region.size entry.at (entry.len - 8) memory c.in_ok-pieces.pieces) held.page (pieces.done image told) in
    let size_is = read.size_is in
    let long : length (record_of old entry) ≡ entry.len - 8 = length-take-le (entry.len - 8) (drop entry.at old.bytes) (omega (arith, length-drop entry.at old.bytes, inside.inside)) in
    let is : health_of page old entry.at entry.len ≡ c.in_ok-pieces.pieces.health =
    sym (health_of-record page old entry.at entry.len held.page_least inside.aligned inside.pages inside.some) ∙ sym read.health_is in
    let look = entry_seen page old entry memory seen c.in_ok-pieces.pieces.health is (pieces.len ∙ sym long)
    (λ kept.
    sight_seen (Some (record_of old entry)) (record_of old entry) memory seen refl (pieces.len ∙ sym long) (omega (arith, pieces.seen.held, c.read_pieces.ensures.memory))
    (read.exact (lost_or_kept c.in_ok-pieces.pieces.health kept)
    ∙ sym (within_part entry.at seen.from seen.count (entry.len - 8) old.bytes (omega (arith, pieces.seen.inside, pieces.len))))) in
    let items = with_items_is c.args.memory.now memory (omega (arith, pieces.seen.held, c.read_pieces.ensures.memory)) in
    let found : Option Entry → List ℕ → Look → Type 0 = λ newest kept it.
    IsLookOf (option_map (record_of old) (option_and_then (readable page old) newest))
    (worn_of page old (option_and_then (readable page old) newest)) kept it in
    subst (λ (kept : List ℕ). found c.args.newest kept c.look_with.result) (sym items)
    (subst (λ (newest : Option Entry). found newest memory c.look_with.result) (sym c.in-Some.is)
    (subst (λ (it : Look). found (Some entry) memory it) (sym c.look_with.ensures.value) look))
