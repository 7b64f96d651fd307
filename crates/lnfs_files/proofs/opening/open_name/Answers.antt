use Rattle.std.proofs.Common.{◌≡◌, refl, ap, sym, ◌∙◌, true}
use Rattle.std.proofs.lemmas.Result.{IfOk-weaker}
use Rattle.lnfs_world.specs.World.{World, is_directory}
use Rattle.lnfs_world.specs.Outcome.{Place, begins_at}
use Rattle.lnfs_site.specs.Site.{site_of}
use Rattle.lnfs_arguments.specs.declared.stateid.Cinfo.{Cinfo}
use Rattle.lnfs_operations.specs.Open as operation
use Rattle.lnfs_operations.specs.Open.{Arguments, Wanted}
use Rattle.lnfs_nodes.specs.Acts.{placed}
use Rattle.lnfs_files.specs.Worlds.{with_files}
use Rattle.lnfs_files.specs.Openings.{args_of, wanted_of}
use Rattle.lnfs_files.proofs.WriteOn.{is_there}
use Rattle.lnfs_files.proofs.OpenFiles.{moved}
use Rattle.lnfs_files.proofs.opening.open_name.Goals as goal

pub returns-in-Err-clause-acts : goal.returns-in-Err-clause-acts
returns-in-Err-clause-acts g c = λ p rest tells. record { outcome = c.in-Err.ensures.leads p rest c.args.opens.now _; tree = refl; opens = refl }

pub returns-in-Err-find_name-clause-acts : goal.returns-in-Err-find_name-clause-acts
returns-in-Err-find_name-clause-acts g c = λ p rest tells.
    let at : Place = placed p c.args.opener.now.caller.now in
    let l = c.in-Ok.ensures.leads p rest c.args.opens.now in
    let directory : is_directory l.0.kind ≡ true = ap is_directory (sym l.1.0.tells.kind) ∙ c.in-Ok.ensures.kind in
    record { outcome = l.1.1 _ ∙ c.in-Err-find_name.ensures at l.0 l.1.0 directory _ _; tree = refl; opens = refl }

pub open_present-requires-clause-there : goal.open_present-requires-clause-there
open_present-requires-clause-there g c =
    let at : Place = begins_at 0 c.args.opener.now.caller.now.moment in
    let x = is_there c.args.tree.now _ c.in-Ok.dir c.in-Ok.ensures.held in
    let directory : is_directory x.0.kind ≡ true = ap is_directory (sym x.1.tells.kind) ∙ c.in-Ok.ensures.kind in
    let f = (rw c.in-Some.is at c.in-Ok-find_name.ensures) at x.0 x.1 directory in
    (f.0, f.1.0)

pub open_absent-requires-clause-there : goal.open_absent-requires-clause-there
open_absent-requires-clause-there g c =
    let at : Place = begins_at 0 c.args.opener.now.caller.now.moment in
    let x = is_there c.args.tree.now _ c.in-Ok.dir c.in-Ok.ensures.held in
    let directory : is_directory x.0.kind ≡ true = ap is_directory (sym x.1.tells.kind) ∙ c.in-Ok.ensures.kind in
    let f = (rw c.in-None.is at c.in-Ok-find_name.ensures) at x.0 x.1 directory in
    (x.0, (x.1, directory, f.0))

pub returns-in-Some-clause-acts : goal.returns-in-Some-clause-acts
returns-in-Some-clause-acts g c = IfOk-weaker c.open_present.result _ _ (λ told acts. λ p rest tells.
    let at : Place = placed p c.args.opener.now.caller.now in
    let t = c.args.tree.now in
    let s = c.args.opens.now in
    let w : World = with_files rest t s in
    let site = site_of c.args.opener.now.site.now in
    let args : Arguments = args_of c.args.opener.now.args.now in
    let number = c.args.opener.now.client.number in
    let wanted : Wanted = wanted_of c.args.wanted in
    let l = c.in-Ok.ensures.leads p rest s in
    let directory : is_directory l.0.kind ≡ true = ap is_directory (sym l.1.0.tells.kind) ∙ c.in-Ok.ensures.kind in
    let f = (rw c.in-Some.is at c.in-Ok-find_name.ensures) at l.0 l.1.0 directory in
    moved at rest t c.open_present.new.tree s c.open_present.new.opens _ (operation.open_present site args at w number wanted c.unchanged-info.result f.0) told
    (l.1.1 _ ∙ f.1.1 (operation.open_present site args at w number wanted _) (operation.open_absent site args at w number l.0 c.args.name.now wanted args.making)
    ∙ ap (λ (info : Cinfo). operation.open_present site args at w number wanted info f.0) (sym (c.unchanged-info.ensures l.0 l.1.0.tells.change)))
    (acts p rest f.0 tells f.1.0)) c.open_present.ensures.acts

pub returns-in-None-clause-acts : goal.returns-in-None-clause-acts
returns-in-None-clause-acts g c = IfOk-weaker c.open_absent.result _ _ (λ told acts. λ p rest tells.
    let at : Place = placed p c.args.opener.now.caller.now in
    let t = c.args.tree.now in
    let s = c.args.opens.now in
    let l = c.in-Ok.ensures.leads p rest s in
    let directory : is_directory l.0.kind ≡ true = ap is_directory (sym l.1.0.tells.kind) ∙ c.in-Ok.ensures.kind in
    let f = (rw c.in-None.is at c.in-Ok-find_name.ensures) at l.0 l.1.0 directory in
    moved at rest t c.open_absent.new.tree s c.open_absent.new.opens _ _ told (l.1.1 _ ∙ f.1 _ _) (acts p rest l.0 l.1.0)) c.open_absent.ensures.acts
