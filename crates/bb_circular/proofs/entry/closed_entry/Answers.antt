use Rattle.std.proofs.Common.{◌≡◌, ℕ, ◌-◌, ◌*◌, ◌&&◌, List, drop, leb, not, sym, ◌∙◌, subst}
use Rattle.std.proofs.lemmas.Bool.{and_parts}
use Rattle.std.proofs.lemmas.List.{take_rest}
use Rattle.bb_bucket.specs.Front.{is_lost}
use Rattle.bb_circular.specs.Circular.{IsEntryIn}
use Rattle.bb_circular.specs.Entries.{closes, closing_len_of}
use Rattle.bb_circular.proofs.Looks.{entry_in}
use Rattle.bb_circular.proofs.entry.closed_entry.Goals as goal

pub returns-then-ends_entry-clause-inside : goal.returns-then-ends_entry-clause-inside
returns-then-ends_entry-clause-inside c =
    let words : List ℕ = drop (c.args.block.page - 8) c.args.page.now in
    let end : ℕ = c.args.last.pages * c.args.block.page in
    let some = and_parts (leb 1 c.args.last.pages) (not (is_lost c.args.last.health) && closes c.args.block.page end words) (simp take_rest at (sym c.ends_entry.ensures ∙ c.if-ends_entry.true)) in
    let closing = and_parts (not (is_lost c.args.last.health)) (closes c.args.block.page end words) some.1 in
    let len_is : c.read_u32-len.result ≡ closing_len_of words = simp take_rest at c.read_u32-len.ensures in
    subst (λ n. IsEntryIn c.args.block (record { at = end - n; len = n })) (sym len_is)
    (entry_in c.args.block c.args.last.pages words c.requires.least c.requires.pages c.requires.inside closing.1)
