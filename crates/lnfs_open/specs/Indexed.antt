-- Opens with what is kept to find them and to count them.
use Rattle.std.specs.Prelude.{◌≡◌, ℕ, ◌==◌, ◌&&◌, Bool, true, false, List, Option, Some, None}
use Rattle.std.specs.List.{find}
use Rattle.lnfs_world.specs.World.{Id, Open, same_id}
use Rattle.lnfs_world.specs.Change.{is_open_of}
use Rattle.std.specs.Str.{bytes_eq}
use Rattle.lnfs_counts.specs.Counted.{IsCounted}
use Rattle.lnfs_open.specs.Lists.{Lists}

abbrev pub own_id : Open → Id
own_id o = o.id

abbrev pub open_at : List Open → Id → Option Open
open_at opens i = find (λ o. same_id i o.id) opens

-- whether there is one that passes a test
abbrev pub passes : (Open → Bool) → Option Open → Bool
passes test None = false
passes test (Some o) = test o

-- whether an open is of a client, a node and an owner's name
abbrev pub is_matter : (client node : Id) → List ℕ → Open → Bool
is_matter client node name o = client.level == o.id.level && (client.number == o.client && (bytes_eq name o.owner && same_id node o.node))

-- what is kept beside the opens
pub record Index : Type 0 where
  -- of each level, the last number that it was given, and how many opens it has
  pub last : ℕ → ℕ
  pub opens : ℕ → ℕ
  -- whether an open is of a node, and of a client
  pub nodes : (node i : Id) → Bool
  pub clients : (client i : Id) → Bool
  -- the number of a client's open of a node under the name of an owner
  pub number : (client node : Id) → List ℕ → Option ℕ

pub record IsIndexed (s : Lists) (ix : Index) : Type 0 where
  pub counted : IsCounted own_id s.opens s.lasts ix.last ix.opens
  pub nodes : (node i : Id) → ix.nodes node i ≡ passes (λ o. same_id node o.node) (open_at s.opens i)
  pub clients : (client i : Id) → ix.clients client i ≡ passes (is_open_of client) (open_at s.opens i)
  -- an open's number is the one that its client, node and owner lead to, and each such number is that of an open
  pub filed : (i : Id) (o : Open) → open_at s.opens i ≡ Some o → ix.number (record { level = o.id.level; number = o.client }) o.node o.owner ≡ Some i.number
  pub there : (client node : Id) (name : List ℕ) (number : ℕ) → ix.number client node name ≡ Some number →
      passes (is_matter client node name) (open_at s.opens (record { level = client.level; number = number })) ≡ true
