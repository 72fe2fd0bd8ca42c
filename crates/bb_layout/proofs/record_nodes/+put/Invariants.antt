use Rattle.bb_layout.proofs.record_nodes.+put.Given as goal

abbrev pub decreases-put : goal.decreases-put
decreases-put l = l.shared
