-- The next state of a lock, by the parts that the code has of it.
use Rattle.std.proofs.Common.{◌≡◌, ℕ, Bool, true, false, ◌&&◌, List, [], Option, Some, None, length, refl, sym, ap, subst, ◌∙◌}
use Rattle.std.specs.Prelude.{nat_le}
use Rattle.lnfs_world.specs.Effects.{next_id}
use Rattle.lnfs_world.specs.Opens.{sequence_after}
use Rattle.lnfs_world.specs.World.{Id, Node, World}
use Rattle.lnfs_world.specs.Outcome.{Place}
use Rattle.lnfs_world.specs.declared.numbers.TheConstants.{LAST_NUMBER}
use Rattle.lnfs_open.specs.Listed.{node_id}
use Rattle.lnfs_ranges.specs.declared.range.LockRange.{LockRange}
use Rattle.lnfs_ranges.specs.Modes.{set}
use Rattle.lnfs_locks.specs.Arguments.{Asked}
use Rattle.lnfs_locks.specs.Locks.{Lock, Locks}
use Rattle.lnfs_locks.specs.Ranges.{for_write, last_asked}
use Rattle.lnfs_locks.specs.Effects.{locked, has_lock_left, has_ranges_left}
use Rattle.lnfs_locking.specs.Keys.{id_of}
use Rattle.lnfs_locking.specs.Rows.{lock_at}
use Rattle.lnfs_byte_locks.specs.declared.holders.Holder.{Holder}
use Rattle.lnfs_byte_locks.specs.declared.naming.Told.{Told}
use Rattle.lnfs_byte_locks.specs.declared.taking.Taken.{Taken}
use Rattle.lnfs_byte_locks.specs.Holders.{lock_by, lock_held, id_by, sequence_by, ranges_by, opening_by, IsKeptBy, IsLockOf}
use Rattle.lnfs_byte_locks.specs.Taking.{IsBefore, IsTaken}

module _ (own : Locks) (p : Place) (client : ℕ) (n : Node) (x : Holder) where
  id_is : (lock : Option Told) → (lock_by own p client n x lock).id ≡ id_by own p.subject lock
  id_is None = refl
  id_is (Some told) = refl

  sequence_is : (lock : Option Told) → (lock_by own p client n x lock).sequence ≡ sequence_by lock
  sequence_is None = refl
  sequence_is (Some told) = refl

  ranges_are : (lock : Option Told) → (lock_by own p client n x lock).ranges ≡ ranges_by lock
  ranges_are None = refl
  ranges_are (Some told) = refl

  level_of : (lock : Option Told) → IsKeptBy own p.subject lock → (id_by own p.subject lock).level ≡ p.subject
  level_of None kept = refl
  level_of (Some told) kept = kept.0

  -- the lock before, as it is kept or as it comes
  before : (y : Taken) → y.client.number ≡ client → node_id y.node ≡ n.id → y.owner ≡ x.owner.now →
      (lock : Option Told) → IsKeptBy own p.subject lock → id_of y.id ≡ id_by own p.subject lock → IsBefore own p.subject y (opening_by x lock) (lock_by own p client n x lock)
  before y number node owner None kept id =
      (id, (λ i. record { id = sym id i; client = sym number i; opening = x.opening; owner = sym owner i; node = sym node i; sequence = 0; ranges = [] }))
  before y number node owner (Some told) kept id = ap (lock_at own.locks) id ∙ kept.1

  module _ (w : World) (a : Asked) (is : IsLockOf own p w client n x) where
    abbrev held : Lock
    held = lock_held own p client n x

    abbrev has_room : Bool
    has_room = has_lock_left w (locked a held) own.locks && has_ranges_left w (locked a held) own.locks

    -- no number is left for one that comes
    pub no_number : nat_le (id_by own p.subject x.lock).number LAST_NUMBER ≡ false → has_room ≡ false
    no_number past = by _ _ _ (ap (λ (i : Id). nat_le i.number LAST_NUMBER) (id_is x.lock) ∙ past)
      where
        by : (a b c : Bool) → b ≡ false → ((a && b) && c) ≡ false
        by true true c e = absurd (cc)
        by true false c e = refl
        by false b c e = refl

    abbrev next_ranges : List LockRange
    next_ranges = set (ranges_by x.lock) a.offset (last_asked a) (Some (for_write a))

    pub room : (i : Id) (ranges : List LockRange) (result : Bool) → i ≡ id_by own p.subject x.lock → ranges ≡ next_ranges →
        ((l : Lock) → l.id ≡ i → length l.ranges ≡ length ranges → result ≡ (has_lock_left w l own.locks && has_ranges_left w l own.locks)) → has_room ≡ result
    room i ranges result same next told =
        sym (told (locked a held) (id_is x.lock ∙ sym same)
        (ap (λ (rs : List LockRange). length (set rs a.offset (last_asked a) (Some (for_write a)))) (ranges_are x.lock) ∙ ap length (sym next)))

    pub is_taken : (y : Taken) (ranges : List LockRange) → id_of y.id ≡ id_by own p.subject x.lock → ranges ≡ next_ranges → y.seq ≡ sequence_after (sequence_by x.lock) →
        y.client.level.0 ≡ p.subject → y.client.number ≡ client → node_id y.node ≡ n.id → y.owner ≡ x.owner.now → y.opening ≡ opening_by x x.lock →
        y.wanted.first ≡ a.offset → y.wanted.last ≡ last_asked a → y.wanted.write ≡ for_write a → IsTaken a own p w client n held y ranges
    is_taken y ranges id next seq level number node owner opening first last write = record {
      before = subst (λ (o : Option ℕ). IsBefore own p.subject y o held) (sym opening) (before y number node owner x.lock is.kept id);
      id = id_is x.lock ∙ sym id;
      level = ap (λ (i : Id). i.level) id ∙ level_of x.lock is.kept;
      client_level = level;
      asking = number;
      client_is = is.client_is ∙ sym number;
      node = node;
      owner = is.owner_is ∙ sym owner;
      found = is.found;
      first = first;
      last = last;
      write = write;
      state = (λ i. record held {
        sequence = (ap sequence_after (sequence_is x.lock) ∙ sym seq) i;
        ranges = (ap (λ (rs : List LockRange). set rs a.offset (last_asked a) (Some (for_write a))) (ranges_are x.lock) ∙ sym next) i;
      });
    }
