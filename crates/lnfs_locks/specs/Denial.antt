-- Which lock stands in whose way, and what is told of it (RFC 8881 sections 18.10.3 and 18.11.3).
use Rattle.std.specs.Prelude.{ℕ, ◌+◌, ◌-◌, ◌==◌, ◌&&◌, Bool, not, cond, List, [], ◌∷◌, ◌++◌, Option, None, find}
use Rattle.std.specs.Option.{option_map, option_or}
use Rattle.std.specs.Str.{bytes_eq}
use Rattle.lnfs_xdr.specs.Canon.{word, long, opaque}
use Rattle.lnfs_types.specs.declared.event.Moment.{Moment}
use Rattle.lnfs_arguments.specs.Identifiers.{client_id}
use Rattle.lnfs_world.specs.Leases.{over_at}
use Rattle.lnfs_world.specs.World.{Id, World, same_id}
use Rattle.lnfs_ranges.specs.declared.range.LockRange.{LockRange}
use Rattle.lnfs_ranges.specs.Modes.{conflicts}
use Rattle.lnfs_locks.specs.declared.numbers.TheConstants.{LAST_OFFSET, READ_LT, WRITE_LT}
use Rattle.lnfs_locks.specs.Locks.{Lock, client_of, is_live}

-- who asks: a subject, and its client and owner
pub record Asker : Type 0 where
  pub subject : ℕ
  pub client : Id
  pub owner : List ℕ

-- a lock of the client and the owner themselves, under whichever open
abbrev pub is_own : Asker → Lock → Bool
is_own a l = same_id a.client (client_of l) && bytes_eq l.owner a.owner

-- whether its client's lease isn't over
abbrev pub is_leased : World → Moment → Lock → Bool
is_leased w moment l = not (over_at w.clients moment (client_of l))

-- Another's lock that counts, of a level that the subject dominates.
abbrev pub is_rival : (dom : ℕ → ℕ → Bool) → (counts : Lock → Bool) → Asker → Lock → Bool
is_rival dom counts a l = dom a.subject l.id.level && (not (is_own a l) && counts l)

-- a lock, and the range of it that stands in the way
pub record Denial : Type 0 where
  pub lock : Lock
  pub range : LockRange

-- the first of what is told of the elements
abbrev pub first_of : {X Y : Type 0} → (X → Option Y) → List X → Option Y
first_of f [] = None
first_of f (x ∷ xs) = option_or (f x) (first_of f xs)

-- what a lock denies: its first range in the way
abbrev pub denied_by : (rival : Lock → Bool) → (first last : ℕ) → (write : Bool) → Lock → Option Denial
denied_by rival first last write l = cond (rival l) (option_map (λ r. record { lock = l; range = r }) (find (conflicts first last write) l.ranges)) None

-- The first lock of a node that stands in the way, by level and number, with its first range that does.
abbrev pub denial : (rival : Lock → Bool) → (node : Id) → (first last : ℕ) → (write : Bool) → List Lock → Option Denial
denial rival node first last write locks = first_of (λ l. cond (same_id node l.node) (denied_by rival first last write l) None) locks

-- The locks that stand in the way of others: those whose open is there and whose client's lease isn't over.
abbrev pub counts_at : World → Moment → Lock → Bool
counts_at w moment l = is_live w l && is_leased w moment l

-- ---- LOCK4denied (RFC 8881 section 18.10.2)

-- a length of all ones, where the range has the last offset
abbrev pub length_told : LockRange → ℕ
length_told r = cond (r.last == LAST_OFFSET) LAST_OFFSET (r.last - r.first + 1)

abbrev pub kind_told : LockRange → ℕ
kind_told r = cond r.write WRITE_LT READ_LT

unfoldable pub denial_text : Denial → List ℕ
denial_text d = long d.range.first ++ long (length_told d.range) ++ word (kind_told d.range) ++ long (client_id d.lock.id.level d.lock.client) ++ opaque d.lock.owner
