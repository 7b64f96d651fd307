use Rattle.std.proofs.Common.{◌≡◌, ◌<◌, ℕ, sym, subst}
use Rattle.lnfs_site.specs.Site.{site_of}
use Rattle.lnfs_layout.specs.Lasts.{AreEach, AreOfLevels}
use Rattle.lnfs_checkpoint.proofs.Lasts.{lasts_are, lock_lasts_are}
use Rattle.lnfs_checkpoint.proofs.telling.bytes_of.Goals as goal

pub lists_of-requires : goal.lists_of-requires
lists_of-requires c =
    let site = site_of c.args.policy.now in
    let world = c.args.store.now in
    let levels : c.levels_of-levels.result ≡ site.levels = c.levels_of-levels.ensures.value in
    let some : 0 < site.levels = subst (λ (n : ℕ). 0 < n) levels c.levels_of-levels.ensures.some in
    subst (λ (n : ℕ). AreOfLevels n world.lasts) (sym levels) (lasts_are site world some c.requires.sound)

pub lock_rows_of-requires : goal.lock_rows_of-requires
lock_rows_of-requires c =
    let site = site_of c.args.policy.now in
    let own = c.args.locks.now in
    let levels : c.levels_of-levels.result ≡ site.levels = c.levels_of-levels.ensures.value in
    let some : 0 < site.levels = subst (λ (n : ℕ). 0 < n) levels c.levels_of-levels.ensures.some in
    subst (λ (n : ℕ). AreEach n own.lasts) (sym levels) (lock_lasts_are site c.args.store.now own some c.requires.locks)
