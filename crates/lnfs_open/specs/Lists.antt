-- The opens of a world: what of it is kept here.
use Rattle.std.specs.Prelude.{[], List}
use Rattle.lnfs_world.specs.World.{Id, Open, World}
use Rattle.lnfs_world.specs.Change.{Change, apply}

pub record Lists : Type 0 where
  -- in the order of their identifiers
  pub opens : List Open
  -- the last number that each level was given
  pub lasts : List Id

abbrev pub no_lists : Lists
no_lists = record { opens = []; lasts = [] }

-- the world that has these and nothing else
abbrev pub world_of : Lists → World
world_of s = record {
  clients = [];
  sessions = [];
  contexts = [];
  nodes = [];
  entries = [];
  opens = s.opens;
  lasts = record { clients = []; sessions = []; contexts = []; nodes = []; opens = s.lasts };
}

-- those of a world
abbrev pub lists_of : World → Lists
lists_of w = record { opens = w.opens; lasts = w.lasts.opens }

-- after a change
abbrev pub ran : Change → Lists → Lists
ran change s = lists_of (apply change (world_of s))
