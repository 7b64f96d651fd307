-- What opens are found by, and how it changes with an open.
use Rattle.std.specs.Prelude.{◌≡◌, ℕ, ◌&&◌, ◌||◌, not, cond, List, Some, None}
use Rattle.std.specs.Str.{bytes_eq}
use Rattle.lnfs_world.specs.World.{Id, same_id}
use Rattle.lnfs_counts.specs.Counters.{Counters, last_at, count_at}
use Rattle.lnfs_open.specs.declared.finder.Finder.{Finder}
use Rattle.lnfs_open.specs.declared.finder.Filing.{Filing}
use Rattle.lnfs_open.specs.Listed.{id_of}
use Rattle.lnfs_open.specs.Groups.{holds}
use Rattle.lnfs_open.specs.Owners.{number_at}
use Rattle.lnfs_open.specs.Indexed.{Index}

-- what an open is found by
pub record Filed : Type 0 where
  pub id : Id
  pub client : Id
  pub node : Id
  pub owner : List ℕ

abbrev pub filed_of : Filing → Filed
filed_of f = record { id = id_of f.id; client = id_of f.client; node = id_of f.node; owner = f.owner.now }

pub record IsEntered (f : Filed) (a b : Finder) : Type 0 where
  pub nodes : (n i : Id) → holds b.nodes n i ≡ (same_id f.node n && same_id f.id i || holds a.nodes n i)
  pub clients : (c i : Id) → holds b.clients c i ≡ (same_id f.client c && same_id f.id i || holds a.clients c i)
  pub numbers : (c n : Id) (o : List ℕ) → number_at b.owners c n o ≡ cond ((same_id f.client c && same_id f.node n) && bytes_eq f.owner o) (Some f.id.number) (number_at a.owners c n o)

pub record IsLeft (f : Filed) (a b : Finder) : Type 0 where
  pub nodes : (n i : Id) → holds b.nodes n i ≡ (not (same_id f.node n && same_id f.id i) && holds a.nodes n i)
  pub clients : (c i : Id) → holds b.clients c i ≡ (not (same_id f.client c && same_id f.id i) && holds a.clients c i)
  pub numbers : (c n : Id) (o : List ℕ) → number_at b.owners c n o ≡ cond ((same_id f.client c && same_id f.node n) && bytes_eq f.owner o) None (number_at a.owners c n o)

-- two states by which the same is found
pub record FindSame (a b : Finder) : Type 0 where
  pub nodes : (n i : Id) → holds b.nodes n i ≡ holds a.nodes n i
  pub clients : (c i : Id) → holds b.clients c i ≡ holds a.clients c i
  pub numbers : (c n : Id) (o : List ℕ) → number_at b.owners c n o ≡ number_at a.owners c n o

-- what is kept beside the opens
abbrev pub index_of : Counters → Finder → Index
index_of counters finder = record {
  last = last_at counters;
  opens = count_at counters;
  nodes = holds finder.nodes;
  clients = holds finder.clients;
  number = number_at finder.owners;
}
