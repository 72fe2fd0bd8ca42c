use Rattle.std.proofs.Common.{◌≡◌, ◌∙◌, arith, ℕ, ◌++◌, drop, length, subst, take}
use Rattle.std.proofs.lemmas.Bool.{lt-leb}
use Rattle.std.proofs.lemmas.List.{length-take-le}
use Rattle.bb_raw.specs.Feeding.{parts_agree}
use Rattle.bb_raw.specs.Raw.{RawKind, code_len}
use Rattle.bb_raw.specs.Laws.{code_few}
use Rattle.bb_raw.proofs.Parts.{come_is, too_short}
use Rattle.bb_raw.proofs.raw.has_come.Goals as goal

pub returns-then-whole-feed : goal.returns-then-whole-feed
returns-then-whole-feed c =
    let key = c.args.key.now in
    let kind : RawKind = record { magic = c.args.magic; key = key } in
    let n = c.code_len-code_len.ensures in
    let len = c.args.len in
    let area = c.args.area.now in
    let feed = c.args.feed.now in
    let code = c.code_after-code.result in
    let whole = length-take-le (code_len key) feed.code (omega (arith, code_few key)) in
    come_is kind feed area code len c.agrees.result (omega (arith, n))
    (subst (λ (k : ℕ). take k code ≡ take k (drop len (area ++ take (code_len key) feed.code))) whole
    (subst (λ (k : ℕ). take (length (take k feed.code)) code ≡ take (length (take k feed.code)) (drop len (area ++ take k feed.code))) n c.code_after-code.ensures))
    (subst (λ (k : ℕ). c.agrees.result ≡ parts_agree kind feed.header (take len area) (take k code)) n c.agrees.ensures)

pub returns-else-whole-feed : goal.returns-else-whole-feed
returns-else-whole-feed c =
    let kind : RawKind = record { magic = c.args.magic; key = c.args.key.now } in
    let n = c.code_len-code_len.ensures in
    lt-leb _ _ c.if-whole-feed.false ∙ too_short kind c.args.feed.now c.args.area.now c.args.len (omega (arith, n))
