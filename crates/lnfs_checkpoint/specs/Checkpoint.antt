-- The bytes of a checkpoint: the layout of a world and its locks under a policy, after so many events.
use Rattle.std.specs.Prelude.{ℕ, List, Option}
use Rattle.sha2.specs.Sha256.{sha256}
use Rattle.lnfs_policy.specs.Policy.{Policy}
use Rattle.lnfs_site.specs.Site.{site_of}
use Rattle.lnfs_world.specs.World.{World}
use Rattle.lnfs_operations.specs.Bounds.{IsSound}
use Rattle.lnfs_step.specs.ContextBounds.{ContextsFit}
use Rattle.lnfs_locks.specs.Locks.{Locks}
use Rattle.lnfs_lock_rows.specs.Bounds.{LocksFit}
use Rattle.lnfs_xdr.specs.Message.{Message}
use Rattle.lnfs_layout.specs.Texts.{layout_text}
use Rattle.lnfs_layout.specs.Whole.{Told, layout}

-- of the policy's canonical text
abbrev pub digest_of : Policy → List ℕ
digest_of p = sha256 p.text

unfoldable pub checkpoint_text : Policy → (events : ℕ) → World → Locks → List ℕ
checkpoint_text p events w own = layout_text (site_of p).levels (digest_of p) events w own

-- what the bytes of a checkpoint under a policy are
abbrev pub checkpoint : Policy → Message (Option Told)
checkpoint p = layout (site_of p).levels (digest_of p)

-- all that holds of every world that a server of this policy has, with its locks
pub record IsFit (p : Policy) (w : World) (own : Locks) : Type 0 where
  pub sound : IsSound (site_of p) w
  pub contexts : ContextsFit p w
  pub locks : LocksFit (site_of p) w own
