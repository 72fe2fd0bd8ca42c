use Rattle.std.proofs.Common.{◌≡◌, ◌+◌, ◌-◌, ◌≤◌, ◌++◌, length, take, drop, sym, ap, ◌∙◌, subst, arith}
use Rattle.std.proofs.Math.Seq.{take-append_seam}
use Rattle.std.proofs.lemmas.List.{length-take-le}
use Rattle.bb_bucket.specs.Blocks.{filled_to}
use Rattle.bb_bucket.proofs.Pages.{filled_fits}
use Rattle.bb_circular.specs.Entries.{closing_words}
use Rattle.bb_circular.proofs.entry.pack_entry.Goals as goal

pub whole_pages-len-requires-clause-small : goal.whole_pages-len-requires-clause-small
whole_pages-len-requires-clause-small c =
    let fits = filled_fits c.args.block.page (length c.args.rec.now + 8) c.args.block.region.size (omega (arith, c.requires.least)) c.requires.pages c.requires.room in
    omega (arith, fits, c.requires.small)

pub slice_bounds-write_entry-end : goal.slice_bounds-write_entry-end
slice_bounds-write_entry-end c =
    let fits = filled_fits c.args.block.page (length c.args.rec.now + 8) (length c.args.memory.now) (omega (arith, c.requires.least)) c.requires.whole c.requires.memory in
    subst (λ n. n ≤ length c.args.memory.now) (sym c.whole_pages-len.ensures.value) fits

pub slice_bounds-write_entry-end-2 : goal.slice_bounds-write_entry-end-2
slice_bounds-write_entry-end-2 c =
    let fits = filled_fits c.args.block.page (length c.args.rec.now + 8) (length c.args.memory.now) (omega (arith, c.requires.least)) c.requires.whole c.requires.memory in
    let room : c.whole_pages-len.result ≤ length c.args.memory.now = omega (arith, fits, c.whole_pages-len.ensures.value) in
    sym (length-take-le c.whole_pages-len.result c.args.memory.now room)

pub returns-clause-inside : goal.returns-clause-inside
returns-clause-inside c =
    let fits = filled_fits c.args.block.page (length c.args.rec.now + 8) c.args.block.region.size (omega (arith, c.requires.least)) c.requires.pages c.requires.room in
    subst (λ n. n ≤ c.args.block.region.size) (sym c.whole_pages-len.ensures.value) fits

pub returns-clause-held : goal.returns-clause-held
returns-clause-held c =
    let fits = filled_fits c.args.block.page (length c.args.rec.now + 8) (length c.args.memory.now) (omega (arith, c.requires.least)) c.requires.whole c.requires.memory in
    subst (λ n. n ≤ length c.args.memory.now) (sym c.whole_pages-len.ensures.value) fits

pub returns-clause-entry : goal.returns-clause-entry
returns-clause-entry c =
    let fits = filled_fits c.args.block.page (length c.args.rec.now + 8) (length c.args.memory.now) (omega (arith, c.requires.least)) c.requires.whole c.requires.memory in
    let room : c.whole_pages-len.result ≤ length c.args.memory.now = omega (arith, fits, c.whole_pages-len.ensures.value) in
    let old : length (take c.whole_pages-len.result c.args.memory.now) ≡ c.whole_pages-len.result = length-take-le c.whole_pages-len.result c.args.memory.now room in
    let long : length c.write_entry.new.out ≡ c.whole_pages-len.result = c.write_entry.auto.out ∙ old in
    ap (λ n. take n (c.write_entry.new.out ++ drop c.whole_pages-len.result c.args.memory.now)) (sym long)
    ∙ take-append_seam c.write_entry.new.out (drop c.whole_pages-len.result c.args.memory.now)
    ∙ c.write_entry.ensures
    ∙ ap (λ n. filled_to (n - 8) c.args.rec.now ++ closing_words n) (old ∙ c.whole_pages-len.ensures.value)
