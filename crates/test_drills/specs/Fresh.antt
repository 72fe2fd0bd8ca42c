-- No copy of the small store passes on a fresh board.
use Rattle.std.specs.Prelude.{◌≡◌, None, refl}
use Rattle.bb_drill.specs.Board.{fresh_bytes, fresh_image}
use Rattle.test_drills.specs.Store.{passed_by, store_rules}

pub fresh_finds_none : store_rules.found fresh_image ≡ None
unfolding passed_by fresh_image fresh_bytes
fresh_finds_none = refl
