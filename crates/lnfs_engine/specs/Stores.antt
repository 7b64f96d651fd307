-- The world whose rows are kept.
use Rattle.std.specs.Prelude.{[], not, List, filter, Option, Some, None, Result, Ok, Err}
use Rattle.lnfs_world.specs.World.{Id, Open, World, same_id}
use Rattle.lnfs_world.specs.Change.{is_open_of}
use Rattle.lnfs_operations.specs.declared.Refusal.{Refusal}
use Rattle.lnfs_session.specs.Standing.{Lists, standing}
use Rattle.lnfs_tree.specs.Rows.{Rows}
use Rattle.lnfs_tree.specs.Changed.{Gone}
use Rattle.lnfs_open.specs.Lists as opens
use Rattle.lnfs_files.specs.Worlds.{with_opens}
use Rattle.lnfs_gss3.specs.Contexts as contexts

-- the nodes and names of a tree, and contexts, without clients and opens
abbrev pub beside : Rows → contexts.Lists → World
beside rows c = record {
  clients = [];
  sessions = [];
  contexts = c.contexts;
  nodes = rows.nodes;
  entries = rows.entries;
  opens = [];
  lasts = record { clients = []; sessions = []; contexts = c.lasts; nodes = rows.lasts; opens = [] };
}

-- the nodes and names of a tree alone
abbrev pub only_tree : Rows → World
only_tree rows = beside rows contexts.no_lists

-- clients and sessions, nodes and names, opens, and contexts
abbrev pub stored : Lists → Rows → opens.Lists → contexts.Lists → World
stored lists rows s c = standing (with_opens (beside rows c) s) lists

-- ---- opens that stay

-- where a client goes
abbrev pub opens_left : Option Id → List Open → List Open
opens_left None opens = opens
opens_left (Some client) opens = filter (λ o. not (is_open_of client o)) opens

-- where a node goes
abbrev pub opens_without : Option Gone → opens.Lists → opens.Lists
opens_without None s = s
opens_without (Some g) s = record s { opens = filter (λ o. not (same_id g.node o.node)) s.opens }

-- where a node may have gone
abbrev pub opens_past : {A : Type 0} → (A → Option Gone) → Result A Refusal → opens.Lists → opens.Lists
opens_past gone (Ok a) s = opens_without (gone a) s
opens_past gone (Err why) s = s
