use Rattle.std.proofs.Common.{◌≡◌, false, length, ◌+◌, arith}
use Rattle.std.proofs.lemmas.Grind.{common_steps}
use Rattle.bb_tree.specs.Blob.{has_name}
use Rattle.bb_tree.specs.Texts.{texts_in}
use Rattle.bb_fdt.specs.Names.{found_names}
use Rattle.bb_fdt.proofs.NamesLemmas.{none_lookup, more_placed}
use Rattle.bb_fdt.proofs.names.Names.add.Goals as goal

pub add_last-requires : goal.add_last-requires
add_last-requires c =
    let none : has_name (found_names c.self.inside) c.args.name.now ≡ false = grind (arith, common_steps) in
    none_lookup c.args.name.now (texts_in c.self.inside.places.entries) none

pub invariant_of-self-2 : goal.invariant_of-self-2
invariant_of-self-2 c =
    let longer : c.in-Some.len ≡ c.self.inside.len + (length c.args.name.now + 1) = grind (arith, common_steps) in
    let more = more_placed (texts_in c.self.inside.places.entries) (texts_in c.add_last.new.places.entries) c.args.name.now c.self.inside.len c.in-Some.len c.self.invariant.places c.self.invariant.len c.in_ok-add_last.ensures.ok longer in
    record { places = more.0; len = more.1 }
