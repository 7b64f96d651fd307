-- Sizes that hold of every world that the server keeps: what its sessions grant, how long the results are that it
-- keeps, and the labels and the texts of links that its nodes have; and that a confirmed client has a lease.
use Rattle.std.specs.Prelude.{◌≡◌, ◌≤◌, ◌+◌, ◌==◌, ℕ, Bool, true, cond, nat_lt, List, length, is_some, IfSome}
use Rattle.std.specs.List.{AllByRecursion}
use Rattle.lnfs_xdr.specs.Format.{padding}
use Rattle.lnfs_arguments.specs.declared.numbers.TheConstants.{OWNER_LIMIT}
use Rattle.lnfs_arguments.specs.declared.types.Op.{Op}
use Rattle.lnfs_arguments.specs.declared.types.Op.TheVariants as ops
use Rattle.lnfs_arguments.specs.declared.types.Compound.{Compound}
use Rattle.lnfs_world.specs.World.{Client, Channel, Slot, Session, Stored, Node, World}
use Rattle.lnfs_world.specs.Outcome.{LevelOf, Site}
use Rattle.lnfs_types.specs.declared.limits.TheConstants.{LABEL_LIMIT}
use Rattle.lnfs_operations.specs.declared.numbers.TheConstants.{LEAST_SIZE, MOST_SIZE, MOST_OPERATIONS, MOST_REQUESTS, LARGEST_WRAPPING, MOST_CREATED, MOST_TEXT}
use Rattle.lnfs_operations.specs.Lookup.{is_link}
use Rattle.lnfs_operations.specs.Open.{verifier_of}

abbrev pub IsBetween : (least most : ℕ) → ℕ → Type 0
IsBetween least most n = (least ≤ n) × (n ≤ most)

-- what a channel grants is within the limits of the server
pub record IsGranted (x : Channel) : Type 0 where
  pub request : IsBetween LEAST_SIZE MOST_SIZE x.max_request
  pub response : IsBetween LEAST_SIZE MOST_SIZE x.max_response
  pub cached : IsBetween LEAST_SIZE MOST_SIZE x.max_cached
  pub operations : IsBetween 1 MOST_OPERATIONS x.max_operations
  pub requests : IsBetween 1 MOST_REQUESTS x.max_requests

-- A result leaves room for its wrapping in a response of so many bytes. As the body of a signed reply it has pad bytes
-- (RFC 2203 section 5.3.2.2).
abbrev pub FitsResponse : (most : ℕ) → (result : List ℕ) → Type 0
FitsResponse most result = length result + padding (length result) + LARGEST_WRAPPING ≤ most

-- the result that a slot keeps
abbrev pub SlotFits : (most : ℕ) → Slot → Type 0
SlotFits most slot = IfSome slot.kept (λ kept. FitsResponse most kept.reply)

pub record SessionFits (x : Session) : Type 0 where
  pub granted : IsGranted x.channel
  -- a slot for each request
  pub slots : length x.slots ≡ x.channel.max_requests
  pub kept : AllByRecursion (SlotFits x.channel.max_response) x.slots

pub record ClientFits (c : Client) : Type 0 where
  -- the result of a CREATE_SESSION that the record keeps is short
  pub kept : IfSome c.kept (λ kept. length kept.reply ≤ MOST_CREATED)
  -- CREATE_SESSION, which confirms a record, renews its lease (RFC 8881 section 8.3)
  pub seen : c.confirmed ≡ true → is_some c.seen ≡ true

pub record NodeFits (n : Node) : Type 0 where
  -- the label, where it is stored as it was given
  pub stored : IfSome n.inner.stored (λ stored. length stored.bytes ≤ LABEL_LIMIT)
  -- the text of a symbolic link
  pub text : is_link n.kind ≡ true → length n.inner.content ≤ MOST_TEXT

pub record Sizes (w : World) : Type 0 where
  pub sessions : AllByRecursion SessionFits w.sessions
  pub clients : AllByRecursion ClientFits w.clients
  pub nodes : AllByRecursion NodeFits w.nodes

-- A level of the site. Where labels are carried alone all rows are of level 0.
abbrev pub is_level : Site → (level : ℕ) → Bool
is_level site level = cond site.limited (level == 0) (nat_lt level site.levels)

-- Labels are short, and those that are read are of levels of the site.
pub record LabelsFit (site : Site) : Type 0 where
  -- the spelling of each level
  pub spelling : (level : ℕ) → length (site.spelling level).bytes ≤ LABEL_LIMIT
  -- where labels are carried alone, each that is taken
  pub taken : site.limited ≡ true → (spelled : Stored) (level : ℕ) → site.reading spelled ≡ LevelOf level → length spelled.bytes ≤ LABEL_LIMIT
  pub levels : (spelled : Stored) (level : ℕ) → site.reading spelled ≡ LevelOf level → is_level site level ≡ true

-- the arguments of an operation as they are read, as far as rows keep them untested: verifiers have eight bytes, and owners
-- are short
abbrev pub IsOpRead : Op → Type 0
IsOpRead (ops.ExchangeId verifier owner flags implementation) = (length verifier ≡ 8) × (length owner ≤ OWNER_LIMIT)
IsOpRead (ops.Open seqid access deny client owner making claim) = (length owner ≤ OWNER_LIMIT) × IfSome making (λ m. IfSome (verifier_of m) (λ bytes. length bytes ≡ 8))
IsOpRead op = Unit {0}

-- A COMPOUND that was read: its tag is short, it has no more operations than it counts, and each was read.
pub record IsRead (c : Compound) : Type 0 where
  pub tag : length c.tag ≤ 1024
  pub operations : length c.ops ≤ c.count
  pub arguments : AllByRecursion IsOpRead c.ops
