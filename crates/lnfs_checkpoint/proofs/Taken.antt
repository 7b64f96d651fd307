-- A fit state is told, and what is told is that state.
use Rattle.std.proofs.Common.{◌≡◌, ◌≤◌, ◌<◌, ℕ, List, length, Some, refl}
use Rattle.std.specs.Prelude.{Option}
use Rattle.sha2.proofs.Facts256.{length-sha256}
use Rattle.lnfs_types.specs.declared.event.Event.{Event}
use Rattle.lnfs_policy.specs.Policy.{Policy, dominance}
use Rattle.lnfs_policy.specs.PolicyText.{IsPolicy}
use Rattle.lnfs_world.specs.World.{World}
use Rattle.lnfs_site.specs.Site.{site_of}
use Rattle.lnfs_locks.specs.Locks.{Locks}
use Rattle.lnfs_xdr.specs.Message.{Tells}
use Rattle.lnfs_layout.specs.declared.numbers.TheConstants.{DIGEST, MOST_EVENTS}
use Rattle.lnfs_layout.specs.Fits.{NumbersFit, WorldLastsFit, RowsFit, LockRowsFit}
use Rattle.lnfs_layout.specs.Lasts.{AreEach, AreOfLevels}
use Rattle.lnfs_layout.specs.Texts.{layout_text}
use Rattle.lnfs_layout.specs.Whole.{Told, layout}
use Rattle.lnfs_step.proofs.SiteLevels.{some_level}
use Rattle.lnfs_checkpoint.specs.Checkpoint.{checkpoint, checkpoint_text, digest_of, IsFit}
use Rattle.lnfs_checkpoint.proofs.Lasts.{lasts_are, lasts_fit, lock_lasts_are, lock_lasts_fit}

-- each state that fits a layout is told
abbrev IsWritten : Type 0
IsWritten = (levels : ℕ) (digest : List ℕ) (events : ℕ) (w : World) (own : Locks) → length digest ≡ DIGEST → events ≤ MOST_EVENTS → AreOfLevels levels w.lasts → AreEach levels own.lasts → WorldLastsFit w.lasts → NumbersFit own.lasts → RowsFit w → LockRowsFit own
    → Tells (layout levels digest) (Some (record { events = events; world = w; locks = own })) (layout_text levels digest events w own)

pub taken : IsWritten → (p : Policy) → IsPolicy p → (w : World) (own : Locks) → IsFit p w own → RowsFit w → LockRowsFit own → (n : ℕ) → n ≤ MOST_EVENTS
    → Tells (checkpoint p) (Some (record { events = n; world = w; locks = own })) (checkpoint_text p n w own)
unfolding checkpoint_text
taken written p spelled w own fit rows lock_rows n few =
    let site = site_of p in
    let some : 0 < site.levels = some_level p p.text spelled in
    written site.levels (digest_of p) n w own (length-sha256 p.text) few (lasts_are site w some fit.sound) (lock_lasts_are site w own some fit.locks)
    (lasts_fit site w fit.sound) (lock_lasts_fit site w own fit.locks) rows lock_rows
