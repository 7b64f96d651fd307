use Rattle.std.proofs.Common.{ap, sym, ◌∙◌}
use Rattle.std.proofs.lemmas.Result.{IfOk-weaker}
use Rattle.lnfs_world.specs.World.{World}
use Rattle.lnfs_world.specs.Outcome.{Place}
use Rattle.lnfs_site.specs.Site.{site_of}
use Rattle.lnfs_arguments.specs.declared.stateid.Cinfo.{Cinfo}
use Rattle.lnfs_operations.specs.Open as operation
use Rattle.lnfs_operations.specs.Open.{Arguments, Wanted}
use Rattle.lnfs_nodes.specs.Acts.{placed}
use Rattle.lnfs_files.specs.Worlds.{with_files}
use Rattle.lnfs_files.specs.Openings.{args_of, wanted_of}
use Rattle.lnfs_files.proofs.Leads.{current}
use Rattle.lnfs_files.proofs.OpenFiles.{moved}
use Rattle.lnfs_files.proofs.opening.open_handle.Goals as goal

pub returns-clause-acts : goal.returns-clause-acts
returns-clause-acts g c = IfOk-weaker c.open_present.result _ _ (λ told acts. λ p rest tells.
    let at : Place = placed p c.args.opener.now.caller.now in
    let t = c.args.tree.now in
    let s = c.args.opens.now in
    let w : World = with_files rest t s in
    let site = site_of c.args.opener.now.site.now in
    let args : Arguments = args_of c.args.opener.now.args.now in
    let number = c.args.opener.now.client.number in
    let wanted : Wanted = wanted_of c.args.wanted.now in
    let x = current at rest t s c.in-Ok.held c.in-Ok.ensures in
    moved at rest t c.open_present.new.tree s c.open_present.new.opens _ (operation.open_present site args at w number wanted c.no_change.result x.0) told
    (x.1.1 (operation.open_present site args at w number wanted operation.no_change) ∙ ap (λ (info : Cinfo). operation.open_present site args at w number wanted info x.0) (sym c.no_change.ensures))
    (acts p rest x.0 tells x.1.0)) c.open_present.ensures.acts
