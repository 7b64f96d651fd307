use Rattle.std.proofs.Common.{◌<◌, ◌+◌, ℕ, sym, ap, subst, arith}
use Rattle.std.proofs.lemmas.List.{length-map}
use Rattle.lnfs_site.specs.Site.{site_of}
use Rattle.lnfs_locks.specs.Locks.{Lock}
use Rattle.lnfs_lock_rows.specs.Told.{lock_of}
use Rattle.lnfs_lock_fit.specs.RowsOf.{locks_of}
use Rattle.lnfs_lock_fit.proofs.Sums.{level_within}
use Rattle.lnfs_lock_fit.proofs.limits.level_at.Goals as goal

pub returns-clause-within : goal.returns-clause-within
returns-clause-within c =
    let site = site_of c.args.site.now in
    let locks = locks_of c.args.rows.now in
    subst (λ (n : ℕ). n < site.levels + 1) (sym (ap (λ (l : Lock). l.id.level) c.row_at.ensures))
    (level_within site locks c.requires.site c.args.place (omega (arith, length-map c.args.rows.now lock_of, c.requires.place)))
