-- State ids (RFC 8881 section 8.2): those with a meaning of their own, and the opens that the others name.
use Rattle.std.specs.Prelude.{ℕ, ◌==◌, ◌&&◌, ◌||◌, Bool, false, not, List, Option, Some, None, nat_le, if◌then◌else◌}
use Rattle.std.specs.List.{list_all, find}
use Rattle.lnfs_arguments.specs.declared.stateid.StateId.{StateId}
use Rattle.lnfs_arguments.specs.declared.statuses.TheConstants.{NFS4ERR_LOCKED, NFS4ERR_OLD_STATEID, NFS4ERR_BAD_STATEID, NFS4ERR_OPENMODE}
use Rattle.lnfs_world.specs.World.{Id, Node, Open, World, same_id}
use Rattle.lnfs_world.specs.Leases.{over_at}
use Rattle.lnfs_world.specs.Opens.{has_any, conflicts}
use Rattle.lnfs_world.specs.Outcome.{Site, Place, Outcome}
use Rattle.lnfs_monitor.specs.declared.rule.Rule.TheVariants.{M9}
use Rattle.lnfs_operations.specs.declared.Gate.TheVariants as gates
use Rattle.lnfs_world.specs.declared.numbers.TheConstants.{LAST_SEQUENCE}
use Rattle.lnfs_operations.specs.declared.numbers.TheConstants.{OPEN4_SHARE_ACCESS_READ, OPEN4_SHARE_ACCESS_WRITE}
use Rattle.lnfs_operations.specs.Chain.{Answer, refuse, demand, where_there}
use Rattle.lnfs_operations.specs.Handles.{handle_of, handle_named}

-- ---- special state ids (RFC 8881 section 8.2.3)

pub data Special : Type 0 where
  -- of no open
  Anonymous : Special
  -- of no open, and past what is denied where it reads
  Bypass : Special
  -- the one before it in the COMPOUND, which isn't served
  Current : Special

abbrev pub are_all : (byte : ℕ) → List ℕ → Bool
are_all byte bytes = list_all (λ b. b == byte) bytes

abbrev pub special : StateId → Option Special
special id =
    if are_all 0 id.other && id.seqid == 0 then Some Anonymous else
    if are_all 255 id.other && id.seqid == LAST_SEQUENCE then Some Bypass else
    if are_all 0 id.other && id.seqid == 1 then Some Current else
    None

-- ---- opens

-- The state id of an open. Its level and its number are spelled like those of a file handle.
abbrev pub state_of : Open → StateId
state_of o = record { seqid = o.sequence; other = handle_of o.id }

abbrev pub is_client : Option ℕ → ℕ → Bool
is_client None client = false
is_client (Some number) client = number == client

-- the open of an identifier that is of the client under which the operation came, and of a node
abbrev pub open_at : Place → World → Node → Id → Option Open
open_at p w n i = find (λ o. same_id i o.id && (is_client p.client o.client && same_id n.id o.node)) w.opens

-- The open that a state id names, in its present state (RFC 8881 section 8.2.2): the sequence 0 stands for any.
abbrev pub where_open : {R : Type 0} → Place → World → Node → StateId → (Open → Outcome (Answer R)) → Outcome (Answer R)
where_open p w n id next =
    demand ((handle_named id.other).level == p.subject) (refuse p (gates.Monitor M9) NFS4ERR_BAD_STATEID) (
    where_there (open_at p w n (handle_named id.other))
    (λ o.
    demand (nat_le id.seqid o.sequence) (refuse p gates.Open NFS4ERR_BAD_STATEID) (
    demand (id.seqid == 0 || id.seqid == o.sequence) (refuse p gates.Open NFS4ERR_OLD_STATEID) (
    next o)))
    (refuse p gates.Open NFS4ERR_BAD_STATEID))

-- ---- what a state id allows (RFC 8881 section 9.1.2)

pub data Way : Type 0 where
  Reading : Way
  -- of data, and of the size
  Writing : Way

abbrev pub bit_of : Way → ℕ
bit_of Reading = OPEN4_SHARE_ACCESS_READ
bit_of Writing = OPEN4_SHARE_ACCESS_WRITE

-- whether an open stands in the way of a use without an open (RFC 8881 section 9.1.2)
abbrev pub is_denied : Site → Place → World → Node → Way → Bool
is_denied site p w n way = conflicts site.dom p.subject None n.id (bit_of way) 0 (over_at w.clients p.moment) w.opens

abbrev pub where_undenied : {R : Type 0} → Site → Place → World → Node → Way → Outcome (Answer R) → Outcome (Answer R)
where_undenied site p w n way next = demand (not (is_denied site p w n way)) (refuse p gates.Open NFS4ERR_LOCKED) next

abbrev pub where_usable_by : {R : Type 0} → Option Special → Site → Place → World → Node → StateId → Way → Outcome (Answer R) → Outcome (Answer R)
where_usable_by (Some Anonymous) site p w n id way next = where_undenied site p w n way next
where_usable_by (Some Bypass) site p w n id Reading next = next
where_usable_by (Some Bypass) site p w n id Writing next = where_undenied site p w n Writing next
where_usable_by (Some Current) site p w n id way next = refuse p gates.Open NFS4ERR_BAD_STATEID
where_usable_by None site p w n id way next =
    where_open p w n id (λ o. demand (has_any o.access (bit_of way)) (refuse p gates.Open NFS4ERR_OPENMODE) next)

abbrev pub where_usable : {R : Type 0} → Site → Place → World → Node → StateId → Way → Outcome (Answer R) → Outcome (Answer R)
where_usable site p w n id way next = where_usable_by (special id) site p w n id way next
