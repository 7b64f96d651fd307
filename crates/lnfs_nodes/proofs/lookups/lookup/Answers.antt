use Rattle.std.proofs.Common.{ap, option_map}
use Rattle.lnfs_operations.specs.declared.Gate.TheVariants.{Argument}
use Rattle.lnfs_site.specs.Site.{site_of}
use Rattle.lnfs_tree.specs.Rows.{id_of, kind_of}
use Rattle.lnfs_nodes.specs.Told.{refusal}
use Rattle.lnfs_nodes.proofs.LookedUp.{read_off, found, absent}
use Rattle.lnfs_nodes.proofs.lookups.lookup.Goals as goal

pub returns-in-Some-denied : goal.returns-in-Some-denied
returns-in-Some-denied c = λ p rest.
    read_off (site_of c.args.site.now) (record p { subject = c.args.subject.0; current = option_map id_of c.args.current }) rest c.args.tree.now c.args.name.now (ap (option_map (refusal Argument)) c.in_default.ensures) c.in_ok-dir.dir c.in_ok-dir.ensures (ap kind_of c.in-Dir.is) c.in-Some-denied.why c.in-Some-denied.ensures

pub returns-in-Ok : goal.returns-in-Ok
returns-in-Ok c = λ p rest.
    found (site_of c.args.site.now) (record p { subject = c.args.subject.0; current = option_map id_of c.args.current }) rest c.args.tree.now c.args.name.now (ap (option_map (refusal Argument)) c.in_default.ensures) c.in_ok-dir.dir c.in_ok-dir.ensures (ap kind_of c.in-Dir.is) c.in_default-denied.ensures (id_of c.in-Ok.id) c.in-Ok.ensures

pub returns-in-Err : goal.returns-in-Err
returns-in-Err c = λ p rest.
    absent (site_of c.args.site.now) (record p { subject = c.args.subject.0; current = option_map id_of c.args.current }) rest c.args.tree.now c.args.name.now (ap (option_map (refusal Argument)) c.in_default.ensures) c.in_ok-dir.dir c.in_ok-dir.ensures (ap kind_of c.in-Dir.is) c.in_default-denied.ensures c.in-Err.field-0 c.in-Err.ensures c.namespace-in-Err.result c.namespace-in-Err.ensures
