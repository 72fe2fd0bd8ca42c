use Rattle.bb_vars.proofs.TableRanges.{slice_range-table_with, get_or-table_with}
use Rattle.bb_vars.proofs.law.law_set_changes_its_range.Goals as goal

pub returns : goal.returns
returns c = record { inside = slice_range-table_with; outside = get_or-table_with }
