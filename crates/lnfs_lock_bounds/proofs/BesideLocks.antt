-- Locks stay within their bounds where other further operations are served beside them, which leave the locks as they are.
use Rattle.std.proofs.Common.{◌≡◌, ℕ, Bool, true, false, cond, List, ◌⊎◌, sym, subst}
use Rattle.lnfs_world.specs.Both.{Both, both, BothStand}
use Rattle.lnfs_world.specs.Outcome.{Site, Place}
use Rattle.lnfs_operations.specs.Bounds.{Bounds}
use Rattle.lnfs_operations.specs.Extra.{After, Extra, spot_of, further_deed}
use Rattle.lnfs_operations.specs.Sizes.{is_level}
use Rattle.lnfs_beside.specs.Sides.{Deed, lefts, rights, left, right, beside}
use Rattle.lnfs_beside.proofs.SidesLaws.{lefts-both}
use Rattle.lnfs_locks.specs.Facts.{AreKept}
use Rattle.lnfs_locks.specs.Locks.{Row, locks_of}
use Rattle.lnfs_locks.specs.Outcome.{locking}
use Rattle.lnfs_lock_rows.specs.Bounds.{LocksBounded}
use Rattle.lnfs_lock_bounds.proofs.BoundLocks.{deed_bounds}
use Rattle.lnfs_lock_bounds.proofs.OwnRows.{KeepsOwn}

module _ (B : Extra) (site : Site) where
  -- of the rows of both
  abbrev pub AreBounded : List (Row ⊎ B.Row) → Type 0
  AreBounded rows = LocksBounded site (locks_of (lefts rows))

  -- what is left by whichever serves the number
  abbrev chosen : (number : ℕ) (arguments : List ℕ) → Place → Both (Row ⊎ B.Row) → Bool → After (Both (Row ⊎ B.Row))
  chosen number arguments p b t = cond {A = Deed (Row ⊎ B.Row)} t (left (locking.outcome site number arguments)) (right (B.outcome site number arguments)) (spot_of p) b

  module _ (number : ℕ) (arguments : List ℕ) (p : Place) (b : Both (Row ⊎ B.Row)) (stands : BothStand (beside locking B).Fact site.dom p b) (level : is_level site p.subject ≡ true) (bounds : Bounds site b.world) (bounded : AreBounded b.own) where
    stands_first : BothStand AreKept site.dom p (both b.world (lefts b.own))
    stands_first = record { world = stands.world; own = stands.own.0 }

    chosen_bounds : (t : Bool) → AreBounded (chosen number arguments p b t).state.own
    chosen_bounds true = subst (λ rows. LocksBounded site (locks_of rows)) (sym (lefts-both (further_deed locking site number arguments p (both b.world (lefts b.own))).state.own (rights b.own))) (deed_bounds site number arguments p (both b.world (lefts b.own)) stands_first level bounds bounded)
    chosen_bounds false = subst (λ rows. LocksBounded site (locks_of rows)) (sym (lefts-both (lefts b.own) (further_deed B site number arguments p (both b.world (rights b.own))).state.own)) bounded

  pub sides_bounds : KeepsOwn (beside locking B) site AreBounded
  sides_bounds number arguments p b stands level bounds bounded = chosen_bounds number arguments p b stands level bounds bounded (locking.grammar.serves number)
