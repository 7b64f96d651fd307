-- What the code's values stand for.
use Rattle.std.specs.Prelude.{◌≡◌, ℕ, List}
use Rattle.std.specs.List.{AllByRecursion}
use Rattle.std.specs.Borrow.{Bor}
use Rattle.lnfs_world.specs.World.{Id, Open}
use Rattle.lnfs_open.specs.declared.keys.ClientKey.{ClientKey}
use Rattle.lnfs_open.specs.declared.keys.NodeKey.{NodeKey}
use Rattle.lnfs_open.specs.declared.keys.OpenRef.{OpenRef}
use Rattle.lnfs_open.specs.declared.keys.OpenRow.{OpenRow}
use Rattle.lnfs_open.specs.declared.keys.Key.{Key}

abbrev pub id_of : Key → Id
id_of k = record { level = k.level; number = k.number }

abbrev pub key_of : Id → Key
key_of i = record { level = i.level; number = i.number }

abbrev pub client_id : ClientKey → Id
client_id k = record { level = k.level.0; number = k.number }

abbrev pub node_id : NodeKey → Id
node_id k = record { level = k.level.0; number = k.number }

abbrev pub open_id : OpenRef → Id
open_id k = record { level = k.level.0; number = k.number }

-- the open of an identifier
abbrev pub row_of : Id → OpenRow → Open
row_of i r = record {
  id = i;
  client = r.client.number;
  owner = r.owner;
  node = node_id r.node;
  access = r.access;
  deny = r.deny;
  sequence = r.seq;
}

abbrev pub open_of : Key × OpenRow → Open
open_of e = row_of (id_of e.0) e.1

-- each open is of the level of its client
abbrev pub AreOwn : List (Key × OpenRow) → Type 0
AreOwn es = AllByRecursion (λ e. e.1.client.level.0 ≡ e.0.level) es

-- a client and the name of an owner
abbrev pub owner_of : ClientKey × Bor (List ℕ) → Id × List ℕ
owner_of p = (client_id p.0, p.1.now)
