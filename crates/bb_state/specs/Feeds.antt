-- What came of a record of any format.
use Rattle.std.specs.Prelude.{ℕ, List}
use Rattle.bb_dtbrec.specs.Feeding.{dtb_holds}
use Rattle.bb_raw.specs.Feeding.{raw_holds}
use Rattle.bb_state.specs.declared.any_format.AnyFeed.{AnyFeed}
use Rattle.bb_state.specs.declared.any_format.AnyFeed.TheVariants as feeds
use Rattle.bb_state.specs.declared.any_format.AnyFormat.{AnyFormat}
use Rattle.bb_state.specs.declared.any_format.AnyFormat.TheVariants.{Dtb, Raw}

-- a feed is one of the format that it was started with
abbrev pub any_holds : AnyFormat → AnyFeed → List ℕ → List ℕ → Type 0
any_holds (Raw raw) (feeds.Raw feed) fed area = raw_holds raw feed fed area
any_holds (Raw raw) (feeds.Dtb feed) fed area = ⊥
any_holds (Dtb pattern) (feeds.Raw feed) fed area = ⊥
any_holds (Dtb pattern) (feeds.Dtb feed) fed area = dtb_holds pattern feed fed area
