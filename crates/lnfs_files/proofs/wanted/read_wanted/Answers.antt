use Rattle.std.proofs.Common.{◌≡◌, sym, subst, Option}
use Rattle.std.specs.Prelude.{IfOk}
use Rattle.lnfs_attrs.specs.declared.raw.RawAttrs.{RawAttrs}
use Rattle.lnfs_arguments.specs.declared.types.Making.{Making}
use Rattle.lnfs_world.specs.Outcome.{Place, Outcome}
use Rattle.lnfs_site.specs.Site.{site_of}
use Rattle.lnfs_operations.specs.Chain.{Answer}
use Rattle.lnfs_operations.specs.Open as operation
use Rattle.lnfs_nodes.specs.Acts.{checked}
use Rattle.lnfs_files.specs.Openings.{wanted_of, where_given}
use Rattle.lnfs_files.proofs.Listed.{IsListedLabel, held_listed}
use Rattle.lnfs_files.proofs.wanted.read_wanted.Goals as goal

pub returns-in-None-clause-listed : goal.returns-in-None-clause-listed
returns-in-None-clause-listed c = held_listed c.nothing.result.label (subst (λ (x : operation.Wanted). IsListedLabel x.label) (sym c.nothing.ensures) tt)

pub returns-in-Some-clause-tests : goal.returns-in-Some-clause-tests
returns-in-Some-clause-tests c =
    subst (λ (making : Option Making). IfOk c.read_given.result (λ told. (p : Place) (next : operation.Wanted → Outcome (Answer operation.Opened)) → operation.where_wanted (site_of c.args.site.now) p making next ≡ checked {R = operation.Opened} p told (λ x. next (wanted_of x)))) (sym c.in-Some.is)
    (subst (λ (attrs : RawAttrs). IfOk c.read_given.result (λ told. (p : Place) (next : operation.Wanted → Outcome (Answer operation.Opened)) → where_given (site_of c.args.site.now) p attrs next ≡ checked {R = operation.Opened} p told (λ x. next (wanted_of x)))) c.attrs_of.ensures c.read_given.ensures.tests)
