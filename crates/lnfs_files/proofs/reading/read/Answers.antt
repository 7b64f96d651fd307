use Rattle.std.proofs.Common.{refl}
use Rattle.lnfs_results.specs.declared.types.OpResult.TheVariants as results
use Rattle.lnfs_world.specs.Outcome.{Place}
use Rattle.lnfs_site.specs.Site.{site_of}
use Rattle.lnfs_operations.specs.StateIds.{Reading}
use Rattle.lnfs_operations.specs.Read.{Data}
use Rattle.lnfs_nodes.specs.Trees.{refusal_of}
use Rattle.lnfs_nodes.specs.Acts.{placed}
use Rattle.lnfs_nodes.proofs.Written.{refused_writes}
use Rattle.lnfs_files.specs.Worlds.{with_opens, with_files}
use Rattle.lnfs_files.proofs.Uses.{unused}
use Rattle.lnfs_files.proofs.FileReads.{file_read}
use Rattle.lnfs_files.proofs.WriteOn.{is_there, no_data}
use Rattle.lnfs_files.proofs.reading.read.Goals as goal

pub returns-in-Err-clause-writes : goal.returns-in-Err-clause-writes
returns-in-Err-clause-writes g c = λ p rest tells client.
    let at : Place = placed p c.args.caller.now in
    refused_writes c.args.out.now c.args.out.now (λ (d : Data). results.Read d.eof d.content) at (with_files rest c.args.tree.now c.args.opens.now) _ c.in-Err.why
    (unused (site_of c.args.site.now) at rest c.args.tree.now c.args.opens.now c.args.id.now Reading _ (refusal_of c.in-Err.why) (c.in-Err.ensures.refused p rest tells client)) refl

pub unreachable-requires : goal.unreachable-requires
unreachable-requires g c =
    let t = c.args.tree.now in
    let h = c.in-Ok.held in
    let x = is_there t _ h c.in-Ok.ensures.held in
    no_data t x.0 h _ x.1 c.in-Ok.ensures.file c.in_default.ensures

pub returns-clause-writes : goal.returns-clause-writes
returns-clause-writes g c = λ p rest tells client.
    let at : Place = placed p c.args.caller.now in
    file_read (site_of c.args.site.now) at rest c.args.tree.now c.set_accessed.new.tree c.args.opens.now (record { id = c.args.id.now; offset = c.args.offset; count = c.args.count }) c.in-Ok.held c.in-Ok-file.content.now c.args.out.now c.put_data.new.out c.min.result
    c.in-Ok.ensures.held (c.in-Ok.ensures.refused p rest tells client) c.in-Ok-file.ensures c.min.ensures c.in_ok-put_data.ensures
    (λ n holds. c.set_accessed.ensures n p (with_opens rest c.args.opens.now) holds)
