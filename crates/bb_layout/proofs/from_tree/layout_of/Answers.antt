use Rattle.bb_layout.specs.Refusals.{question_of}
use Rattle.bb_layout.proofs.Refusing.{missing_exactly, bad_prop_exactly, no_state_exactly, bad_type_exactly, bad_reg_exactly, overlap_exactly, no_backend_exactly, too_small_exactly, unaligned_exactly, out_of_device_exactly, area_too_long_exactly, name_twice_exactly}
use Rattle.bb_layout.proofs.from_tree.layout_of.Goals as goal

pub returns-clause-no_state : goal.returns-clause-no_state
returns-clause-no_state c =
    no_state_exactly (question_of c.args.tree.now c.args.name c.args.geometry) c.named_layout.result
    (record { ok = c.named_layout.ensures.ok; refused = c.named_layout.ensures.refused })

pub returns-clause-bad_type : goal.returns-clause-bad_type
returns-clause-bad_type c =
    bad_type_exactly _ _ (record { ok = c.named_layout.ensures.ok; refused = c.named_layout.ensures.refused })

pub returns-clause-bad_reg : goal.returns-clause-bad_reg
returns-clause-bad_reg c =
    bad_reg_exactly _ _ (record { ok = c.named_layout.ensures.ok; refused = c.named_layout.ensures.refused })

pub returns-clause-overlap : goal.returns-clause-overlap
returns-clause-overlap c =
    overlap_exactly _ _ (record { ok = c.named_layout.ensures.ok; refused = c.named_layout.ensures.refused })

pub returns-clause-no_backend : goal.returns-clause-no_backend
returns-clause-no_backend c =
    no_backend_exactly _ _ (record { ok = c.named_layout.ensures.ok; refused = c.named_layout.ensures.refused })

pub returns-clause-too_small : goal.returns-clause-too_small
returns-clause-too_small c =
    too_small_exactly _ _ (record { ok = c.named_layout.ensures.ok; refused = c.named_layout.ensures.refused })

pub returns-clause-unaligned : goal.returns-clause-unaligned
returns-clause-unaligned c =
    unaligned_exactly _ _ (record { ok = c.named_layout.ensures.ok; refused = c.named_layout.ensures.refused })

pub returns-clause-out_of_device : goal.returns-clause-out_of_device
returns-clause-out_of_device c =
    out_of_device_exactly _ _ (record { ok = c.named_layout.ensures.ok; refused = c.named_layout.ensures.refused })

pub returns-clause-area_too_long : goal.returns-clause-area_too_long
returns-clause-area_too_long c =
    area_too_long_exactly _ _ (record { ok = c.named_layout.ensures.ok; refused = c.named_layout.ensures.refused })

pub returns-clause-name_twice : goal.returns-clause-name_twice
returns-clause-name_twice c =
    name_twice_exactly _ _ (record { ok = c.named_layout.ensures.ok; refused = c.named_layout.ensures.refused })

pub returns-clause-missing : goal.returns-clause-missing
returns-clause-missing c =
    missing_exactly _ _ (record { ok = c.named_layout.ensures.ok; refused = c.named_layout.ensures.refused })

pub returns-clause-bad_prop : goal.returns-clause-bad_prop
returns-clause-bad_prop c =
    bad_prop_exactly _ _ (record { ok = c.named_layout.ensures.ok; refused = c.named_layout.ensures.refused })
