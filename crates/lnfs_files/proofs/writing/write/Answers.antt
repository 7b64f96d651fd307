use Rattle.std.proofs.Common.{refl}
use Rattle.lnfs_world.specs.Outcome.{Place}
use Rattle.lnfs_site.specs.Site.{site_of}
use Rattle.lnfs_operations.specs.declared.numbers.TheConstants.{FILE_SYNC4}
use Rattle.lnfs_operations.specs.Write.{Arguments}
use Rattle.lnfs_nodes.specs.Acts.{placed}
use Rattle.lnfs_files.proofs.Writes.{up_to, each_ok, not_usable, usable}
use Rattle.lnfs_files.proofs.writing.write.Goals as goal

pub returns-in-Ok-clause-acts : goal.returns-in-Ok-clause-acts
returns-in-Ok-clause-acts g c = each_ok c.put.result c.put.ensures.acts (λ told acts p rest tells client.
    let at : Place = placed p c.args.caller.now in
    let args : Arguments = record { id = c.args.id.now; offset = c.args.offset; stable = c.args.stable; content = c.args.content.now } in
    usable (site_of c.args.site.now) at rest c.args.tree.now c.args.opens.now args (up_to c.args.stable FILE_SYNC4 c.if-stable-gt-FILE_SYNC4.false) c.put.new.tree c.in-Ok.held told c.in-Ok.ensures.held (c.in-Ok.ensures.refused p rest tells client)
    (λ n holds. acts n p rest c.args.opens.now c.args.id.now c.args.stable holds))

pub returns-in-Err-clause-acts : goal.returns-in-Err-clause-acts
returns-in-Err-clause-acts g c = λ p rest tells client.
    let at : Place = placed p c.args.caller.now in
    let args : Arguments = record { id = c.args.id.now; offset = c.args.offset; stable = c.args.stable; content = c.args.content.now } in
    record {
      outcome = not_usable (site_of c.args.site.now) at rest c.args.tree.now c.args.opens.now args (up_to c.args.stable FILE_SYNC4 c.if-stable-gt-FILE_SYNC4.false) c.in-Err.why (c.in-Err.ensures.refused p rest tells client);
      tree = refl;
      opens = refl;
    }
