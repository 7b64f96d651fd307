-- What is asked of each list of a world, beside the others, and of each of its rows.
use Rattle.std.specs.Prelude.{◌≡◌, ◌≤◌, ◌==◌, ◌&&◌, ℕ, Bool, true, List, length, count_by, is_some, IfSome}
use Rattle.std.specs.List.{AllByRecursion, list_any}
use Rattle.lnfs_arguments.specs.declared.numbers.TheConstants.{OWNER_LIMIT}
use Rattle.lnfs_world.specs.World.{Id, Client, Slot, Session, Context, Open, open_order, same_id, is_given}
use Rattle.lnfs_world.specs.Facts.{ClientFacts, SessionFacts, ContextFacts, has_confirmed, same_opening}
use Rattle.lnfs_world.specs.Rows.{Rising, Apart}
use Rattle.lnfs_world.specs.Outcome.{Site}
use Rattle.lnfs_world.specs.declared.numbers.TheConstants.{LAST_SEQUENCE, OPENS_OF_A_LEVEL}
use Rattle.lnfs_operations.specs.declared.numbers.TheConstants.{CLIENTS_OF_A_LEVEL, SESSIONS_OF_A_LEVEL, MOST_CREATED, OPEN4_SHARE_ACCESS_BOTH}
use Rattle.lnfs_operations.specs.Sizes.{IsBetween, IsGranted, SlotFits, SessionFits, ClientFits}
use Rattle.lnfs_operations.specs.Bounds.{IsGivenBy, ClientBounds, SessionBounds, ContextBounds, OpenBounds}
use Rattle.lnfs_rows.specs.Lasts.{given_of}

-- ---- rows, but for their identifiers

pub record IsFitClient (c : Client) : Type 0 where
  pub owner : length c.owner ≤ OWNER_LIMIT
  pub verifier : length c.verifier ≡ 8
  pub sequence : c.sequence ≤ LAST_SEQUENCE
  pub kept : IfSome c.kept (λ kept. length kept.reply ≤ MOST_CREATED)
  pub seen : c.confirmed ≡ true → is_some c.seen ≡ true

pub record IsFitSlot (most : ℕ) (slot : Slot) : Type 0 where
  pub sequence : slot.sequence ≤ LAST_SEQUENCE
  pub kept : SlotFits most slot

pub record IsFitSession (x : Session) : Type 0 where
  pub granted : IsGranted x.channel
  pub slots : length x.slots ≡ x.channel.max_requests
  pub each : AllByRecursion (IsFitSlot x.channel.max_response) x.slots

pub record IsFitOpen (o : Open) : Type 0 where
  pub owner : length o.owner ≤ OWNER_LIMIT
  pub access : IsBetween 1 OPEN4_SHARE_ACCESS_BOTH o.access
  pub deny : o.deny ≤ OPEN4_SHARE_ACCESS_BOTH
  pub sequence : IsBetween 1 LAST_SEQUENCE o.sequence

-- ---- lists, with the last numbers of levels

pub record AreClients (site : Site) (last : List ℕ) (clients : List Client) : Type 0 where
  pub facts : ClientFacts clients (given_of last)
  pub sizes : AllByRecursion ClientFits clients
  pub bounds : AllByRecursion (ClientBounds site) clients
  pub lasts : AllByRecursion (IsGivenBy site) (given_of last)
  pub few : (level : ℕ) → count_by (λ c. c.id.level == level) clients ≤ CLIENTS_OF_A_LEVEL

pub record AreSessions (site : Site) (clients : List Client) (last : List ℕ) (sessions : List Session) : Type 0 where
  pub facts : SessionFacts clients sessions (given_of last)
  pub sizes : AllByRecursion SessionFits sessions
  pub bounds : AllByRecursion (SessionBounds site) sessions
  pub lasts : AllByRecursion (IsGivenBy site) (given_of last)
  pub few : (level : ℕ) → count_by (λ x. x.id.level == level) sessions ≤ SESSIONS_OF_A_LEVEL

pub record AreContexts (site : Site) (last : List ℕ) (contexts : List Context) : Type 0 where
  pub facts : ContextFacts contexts (given_of last)
  pub bounds : AllByRecursion (ContextBounds site) contexts
  pub lasts : AllByRecursion (IsGivenBy site) (given_of last)

abbrev pub is_among : List Id → Id → Bool
is_among ids i = list_any (λ j. same_id i j) ids

-- its node is there, and its level dominates the node's home
abbrev pub has_node : (ℕ → ℕ → Bool) → (node_ids : List Id) → (id node : Id) → Bool
has_node dom node_ids id node = dom id.level node.level && is_among node_ids node

-- what is asked of opens beside clients and nodes, and of any two of them
pub record FitOthers (site : Site) (clients : List Client) (node_ids : List Id) (opens : List Open) : Type 0 where
  pub behind : AllByRecursion (λ o. has_confirmed clients o.id.level o.client ≡ true) opens
  pub nodes : AllByRecursion (λ o. has_node site.dom node_ids o.id o.node ≡ true) opens
  pub apart : Apart same_opening opens

-- Of nodes no more is asked than which there are.
pub record AreOpens (site : Site) (clients : List Client) (node_ids : List Id) (last : List ℕ) (opens : List Open) : Type 0 where
  pub rise : Rising open_order opens
  pub given : AllByRecursion (λ o. is_given (given_of last) o.id ≡ true) opens
  pub others : FitOthers site clients node_ids opens
  pub bounds : AllByRecursion (OpenBounds site) opens
  pub lasts : AllByRecursion (IsGivenBy site) (given_of last)
  pub few : (level : ℕ) → count_by (λ o. o.id.level == level) opens ≤ OPENS_OF_A_LEVEL
