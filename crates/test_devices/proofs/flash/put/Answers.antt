use Rattle.std.proofs.Common.{◌%◌, ◌∙◌, ap, arith}
use Rattle.std.proofs.Math.Nat.{mod-one}
use Rattle.test_devices.proofs.flash.put.Goals as goal

pub program-requires : goal.program-requires
program-requires c =
    let block = ap (λ geometry. geometry.block) c.requires.small in
    let size = ap (λ geometry. geometry.size) c.requires.small in
    record {
      some = omega arith;
      inside = omega arith;
      aligned = ap (λ page. c.args.at % page) (ap (λ geometry. geometry.page) c.requires.small) ∙ mod-one c.args.at;
      whole = ap (λ page. 1 % page) (ap (λ geometry. geometry.page) c.requires.small);
      blank = λ some. absurd (omega arith);
    }
