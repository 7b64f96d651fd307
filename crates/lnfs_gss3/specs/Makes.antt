-- Of what contexts can be made.
use Rattle.std.specs.Prelude.{◌<◌, ◌^◌, List}
use Rattle.std.specs.List.{AllByRecursion}
use Rattle.lnfs_world.specs.World.{Id, Context}
use Rattle.lnfs_counts.specs.Counted.{AreNumbered}
use Rattle.lnfs_gss3.specs.Listed.{own_id}

pub record MakesContexts (contexts : List Context) (lasts : List Id) : Type 0 where
  pub numbered : AreNumbered own_id contexts lasts
  pub parents : AllByRecursion (λ x. x.parent < 2 ^ 32) contexts
