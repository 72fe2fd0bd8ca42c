use Rattle.std.proofs.Common.{◌-◌, arith}
use Rattle.bb_history.proofs.Backwards.{as_long, at_back}
use Rattle.bb_history.proofs.places.Places.at.Goals as goal

pub overflow_sub-last : goal.overflow_sub-last
overflow_sub-last c =
    let long = as_long c.self.inside.found.items _ c.self.view_is in
    omega (arith, long, c.requires, c.len-count.ensures, c.self.inside.found.ok)

pub overflow_sub-place : goal.overflow_sub-place
overflow_sub-place c =
    let long = as_long c.self.inside.found.items _ c.self.view_is in
    omega (arith, long, c.requires, c.len-count.ensures, c.self.inside.found.ok)

pub index-requires : goal.index-requires
index-requires c =
    let long = as_long c.self.inside.found.items _ c.self.view_is in
    omega (arith, long, c.requires, c.len-count.ensures, c.self.inside.found.ok)

pub returns : goal.returns
returns c =
    at_back c.self.inside.found.items _ c.args.number (c.len-count.result - 1 - c.args.number) _ c.self.view_is
    c.requires (omega (arith, c.len-count.ensures, c.self.inside.found.ok)) c.index.ensures
