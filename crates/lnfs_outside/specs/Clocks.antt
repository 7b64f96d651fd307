-- What a clock in memory may give; and a lemma, `given_valid`, which stands here since an `impl` of `Clock` names it.
use Rattle.std.specs.Prelude.{◌≡◌, Bool, true, List, Contains}
use Rattle.lnfs_types.specs.declared.event.Moment.{Moment}
use Rattle.lnfs_types.specs.Moments.{is_moment}

-- a clock over this list may give its moments, each within its bounds
abbrev pub MayGive : List Moment → Moment → Type 0
MayGive moments m = Contains moments m × (is_moment m.secs m.nanos ≡ true)

pub given_valid : (moments : List Moment) (m : Moment) → MayGive moments m → is_moment m.secs m.nanos ≡ true
given_valid moments m may = may.1
