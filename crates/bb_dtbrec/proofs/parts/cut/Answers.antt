use Rattle.std.proofs.Common.{◌≡◌, List, ℕ, ap, ◌∙◌, arith, take, drop, length, min}
use Rattle.std.proofs.lemmas.List.{drop_min, take_min}
use Rattle.bb_dtbrec.proofs.parts.cut.Goals as goal

pub returns-clause-front : goal.returns-clause-front
returns-clause-front c =
    let bytes : List ℕ = c.args.bytes.now in
    let least : c.min.result ≡ min c.args.most (length bytes) = omega arith in
    c.split_at.ensures.front ∙ ap (λ n. take n bytes) least ∙ take_min c.args.most bytes

pub returns-clause-back : goal.returns-clause-back
returns-clause-back c =
    let bytes : List ℕ = c.args.bytes.now in
    let least : c.min.result ≡ min c.args.most (length bytes) = omega arith in
    c.split_at.ensures.back ∙ ap (λ n. drop n bytes) least ∙ drop_min c.args.most bytes
