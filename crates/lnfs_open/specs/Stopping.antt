-- What a subject asks of a file, beside the opens that are kept.
use Rattle.std.specs.Prelude.{◌^◌, ◌<◌, ◌≡◌, ◌&&◌, ℕ, Bool, List, map, option_map}
use Rattle.std.specs.BTreeMap.{BTreeMap}
use Rattle.lnfs_world.specs.Rows.{Rising}
use Rattle.lnfs_world.specs.World.{Id, Open, open_order, same_id}
use Rattle.lnfs_world.specs.Opens.{stands_in_way, gives_way}
use Rattle.lnfs_calipso.specs.Label.{dom_of}
use Rattle.lnfs_open.specs.declared.keys.Key.{Key}
use Rattle.lnfs_open.specs.declared.keys.ClientKey.{ClientKey}
use Rattle.lnfs_open.specs.declared.keys.OpenRow.{OpenRow}
use Rattle.lnfs_open.specs.declared.groups.Groups.{Groups}
use Rattle.lnfs_open.specs.declared.revoking.Asked.{Asked}
use Rattle.lnfs_open.specs.declared.shares.Share.{Share}
use Rattle.lnfs_open.specs.declared.tallies.Tally.{Tally}
use Rattle.lnfs_open.specs.Groups.{holds}
use Rattle.lnfs_open.specs.Indexed.{open_at, passes}
use Rattle.lnfs_open.specs.Listed.{client_id, open_of, owner_of, AreOwn}
use Rattle.lnfs_open.specs.Tallies.{may_clash}

abbrev pub opens_in : BTreeMap Key OpenRow → List Open
opens_in rows = map open_of rows.entries

-- What is told of clients: whether the lease of each is over.
abbrev pub Tells : (ClientKey → Bool → Type 0) → (over : Id → Bool) → Type 0
Tells told over = (client : ClientKey) (answer : Bool) → client.level.0 < 2 ^ 32 → client.number < 2 ^ 32 → told client answer → answer ≡ over (client_id client)

-- whether an open of the file stands in the way
abbrev pub stopped_by : Share → (over : Id → Bool) → Open → Bool
stopped_by s over o = stands_in_way (dom_of s.lattice.now) s.subject.0 (option_map owner_of s.own) o.node s.access s.deny over o

-- whether an open of a level may, as far as it is told how many have which bit
abbrev pub may_stop : Share → (level : ℕ) → Tally → Bool
may_stop s level tally = dom_of s.lattice.now s.subject.0 level && may_clash s.access s.deny tally

-- the opens of a node are found by it
pub record AreFound (rows : BTreeMap Key OpenRow) (groups : Groups) : Type 0 where
  pub own : AreOwn rows.entries
  pub rise : Rising open_order (opens_in rows)
  pub grouped : (n i : Id) → holds groups n i ≡ passes (λ o. same_id n o.node) (open_at (opens_in rows) i)

-- whether an open of the file gives way to what is asked of it
abbrev pub gives_way_to : Asked → (over : Id → Bool) → Open → Bool
gives_way_to s over o = gives_way s.subject.0 (client_id s.client, s.owner.now) o.node s.access s.deny over o

-- and is of the file
abbrev pub yields_to : Asked → (node : Id) → (over : Id → Bool) → Open → Bool
yields_to s node over o = same_id node o.node && gives_way_to s over o
