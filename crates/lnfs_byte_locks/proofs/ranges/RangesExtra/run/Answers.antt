use Rattle.std.proofs.Common.{sym, subst}
use Rattle.lnfs_site.specs.Site.{site_of}
use Rattle.lnfs_locks.specs.Locks.{Locks}
use Rattle.lnfs_locks.specs.Facts.{LockFacts}
use Rattle.lnfs_byte_locks.proofs.Concluded.{facts_of, run_is}
use Rattle.lnfs_byte_locks.proofs.ranges.RangesExtra.run.Goals as goal

pub serve-requires : goal.serve-requires
serve-requires c = record { facts = subst (λ (own : Locks). LockFacts c.args.store.now own) (sym c.self.view_is) (facts_of c.args.store.now c.args.self.now c.requires.stands.own) }

pub returns : goal.returns
returns c = record {
  outcome = run_is (site_of c.args.at.now.site.now) c.args.number c.args.args.now c.serve.result c.args.at.now c.args.store.now c.args.self.now c.self.inside.locks c.serve.new.locks c.self.view_is c.serve.ensures;
}
