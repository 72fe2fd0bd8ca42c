-- Tables that areas show.
use Rattle.std.proofs.Common.{◌≡◌, ℕ, List, Option, inl, inr, length, subst, sym}
use Rattle.bb_copies.specs.StandsFor.{EachPassesOrNothing, IsAreaOrNone}
use Rattle.bb_layout.proofs.Converting.{convert_same}
use Rattle.bb_layout.specs.Convert.{convert}
use Rattle.bb_layout.specs.Kept.{IsLaid}
use Rattle.bb_layout.specs.Layout.{Laid}
use Rattle.bb_state.proofs.Tables.{table_sized}
use Rattle.bb_state.specs.Shows.{EachShowsOrNothing, IsOwn, ShowsOrNothing}
use Rattle.bb_state.specs.State.{laid_of}
use Rattle.bb_state.specs.declared.state.State.{State}

-- an area of the layout's length shows itself
pub own_sized : (layout : Laid) (table : List ℕ) → IsLaid layout → length table ≡ layout.area_len → IsOwn layout table
own_sized layout table facts sized = convert_same layout.area_len layout.vars table facts.vars_are sized

pub state_own : (state : State) → IsOwn (laid_of state) state.table
state_own state = own_sized (laid_of state) state.table state.facts (table_sized state)

-- where each copy passes an area that shows a table, or nothing, each shows it or nothing
each_of : (layout : Laid) (area table : List ℕ) (passes : Option (List ℕ)) → convert layout area ≡ table → IsAreaOrNone area passes → ShowsOrNothing layout table passes
each_of layout area table passes shows (inl is) = subst (ShowsOrNothing layout table) (sym is) shows
each_of layout area table passes shows (inr none) = subst (ShowsOrNothing layout table) (sym none) tt

pub all_show : (layout : Laid) (area table : List ℕ) (passed : List (Option (List ℕ))) → convert layout area ≡ table → EachPassesOrNothing area passed → EachShowsOrNothing layout table passed
all_show layout area table passed shows each = λ k d inside. each_of layout area table _ shows (each k d inside)

-- so it is where each passes the table, which is one of the layout
pub each_shows : (layout : Laid) (table : List ℕ) (passed : List (Option (List ℕ))) → IsOwn layout table → EachPassesOrNothing table passed → EachShowsOrNothing layout table passed
each_shows layout table passed own each = all_show layout table table passed own each
