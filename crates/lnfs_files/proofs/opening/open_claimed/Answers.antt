use Rattle.std.proofs.Common.{ap, sym, ◌∙◌, ℕ}
use Rattle.std.proofs.lemmas.Result.{IfOk-weaker}
use Rattle.lnfs_world.specs.World.{World}
use Rattle.lnfs_world.specs.Outcome.{Place}
use Rattle.lnfs_site.specs.Site.{site_of}
use Rattle.lnfs_operations.specs.Open as operation
use Rattle.lnfs_operations.specs.Open.{Arguments, Wanted}
use Rattle.lnfs_nodes.specs.Acts.{placed}
use Rattle.lnfs_files.specs.Worlds.{with_files}
use Rattle.lnfs_files.specs.Openings.{args_of, wanted_of}
use Rattle.std.specs.Prelude.{List}
use Rattle.lnfs_files.proofs.OpenFiles.{moved}
use Rattle.lnfs_files.proofs.opening.open_claimed.Goals as goal

pub returns-in-Name-clause-acts : goal.returns-in-Name-clause-acts
returns-in-Name-clause-acts g c = IfOk-weaker c.open_name.result _ _ (λ told acts. λ p rest tells.
    let at : Place = placed p c.args.opener.now.caller.now in
    let w : World = with_files rest c.args.tree.now c.args.opens.now in
    let site = site_of c.args.opener.now.site.now in
    let args : Arguments = args_of c.args.opener.now.args.now in
    let number = c.args.opener.now.client.number in
    let wanted : Wanted = wanted_of c.args.wanted in
    moved at rest c.args.tree.now c.open_name.new.tree c.args.opens.now c.open_name.new.opens _ _ told
    (ap (operation.open_claimed site args at w number wanted) c.in-Name.is ∙ ap (λ (name : List ℕ). operation.open_name site args at w number wanted name) (sym c.as_slice.ensures))
    (acts p rest tells)) c.open_name.ensures.acts

pub returns-in-Handle-clause-acts : goal.returns-in-Handle-clause-acts
returns-in-Handle-clause-acts g c = IfOk-weaker c.open_handle.result _ _ (λ told acts. λ p rest tells.
    let at : Place = placed p c.args.opener.now.caller.now in
    let w : World = with_files rest c.args.tree.now c.args.opens.now in
    let site = site_of c.args.opener.now.site.now in
    let args : Arguments = args_of c.args.opener.now.args.now in
    let number = c.args.opener.now.client.number in
    let wanted : Wanted = wanted_of c.args.wanted in
    moved at rest c.args.tree.now c.open_handle.new.tree c.args.opens.now c.open_handle.new.opens _ _ told
    (ap (operation.open_claimed site args at w number wanted) c.in-Handle.is)
    (acts p rest tells)) c.open_handle.ensures.acts
