-- Which locks count, and which go, as the opens and the clients that are kept tell it.
use Rattle.std.specs.Prelude.{ℕ, ◌&&◌, ◌||◌, Bool, not, List, is_some, find}
use Rattle.lnfs_types.specs.declared.event.Moment.{Moment}
use Rattle.lnfs_world.specs.Leases.{over_at}
use Rattle.lnfs_world.specs.World.{Id, Client, Open, same_id}
use Rattle.lnfs_open.specs.Opening.{open_named}
use Rattle.lnfs_ranges.specs.Modes.{conflicts}
use Rattle.lnfs_locks.specs.Locks.{Lock, client_of, opening_id}
use Rattle.lnfs_locks.specs.Denial.{Asker, is_own}

-- Whether its open is there: one of that identifier, of its client and of its node.
abbrev pub is_found : List Open → Lock → Bool
is_found opens l = is_some (open_named opens (client_of l) l.node (opening_id l))

-- whether its client's lease isn't over
abbrev pub is_leased_by : List Client → Moment → Lock → Bool
is_leased_by clients moment l = not (over_at clients moment (client_of l))

-- a lock that stands in the way of others
abbrev pub counts_by : List Open → List Client → Moment → Lock → Bool
counts_by opens clients moment l = is_found opens l && is_leased_by clients moment l

-- One of another client or owner that would stand in the way of a range if it counted.
abbrev pub is_in_way : Asker → (node : Id) → (first last : ℕ) → (write : Bool) → Lock → Bool
is_in_way who node first last write l = same_id node l.node && (not (is_own who l) && is_some (find (conflicts first last write) l.ranges))

-- A lock that goes where another is taken: one whose open has ended, or one that is in the way but for its client's lease.
abbrev pub goes_by : List Open → List Client → Moment → Asker → (node : Id) → (first last : ℕ) → (write : Bool) → Lock → Bool
goes_by opens clients moment who node first last write l =
    not (is_found opens l) || (not (is_leased_by clients moment l) && is_in_way who node first last write l)
