use Rattle.std.proofs.Common.{◌∙◌}
use Rattle.std.proofs.lemmas.Result.{IfOk-weaker}
use Rattle.lnfs_world.specs.World.{World}
use Rattle.lnfs_world.specs.Outcome.{Place}
use Rattle.lnfs_site.specs.Site.{site_of}
use Rattle.lnfs_operations.specs.Open.{Arguments}
use Rattle.lnfs_nodes.specs.Acts.{placed}
use Rattle.lnfs_files.specs.Worlds.{with_files}
use Rattle.lnfs_files.specs.Openings.{args_of}
use Rattle.lnfs_files.proofs.OpenFiles.{moved, by_words, behind_words, behind_claim, claimed}
use Rattle.lnfs_files.proofs.opening.open.Goals as goal

pub open_claimed-requires-clause-listed : goal.open_claimed-requires-clause-listed
open_claimed-requires-clause-listed g c = rw c.in-Ok.is at c.in_ok-wanted.ensures.listed

pub returns-clause-acts : goal.returns-clause-acts
returns-clause-acts g c = IfOk-weaker c.open_claimed.result _ _ (λ told acts. λ p rest tells client.
    let at : Place = placed p c.args.caller.now in
    let w : World = with_files rest c.args.tree.now c.args.opens.now in
    let site = site_of c.args.site.now in
    let args : Arguments = args_of c.args.args.now in
    let number = c.in-Some.number in
    moved at rest c.args.tree.now c.open_claimed.new.tree c.args.opens.now c.open_claimed.new.opens _ _ told
    (by_words site args at w number (client ∙ c.in-Some.is) _
    (c.in_default-check_words.ensures at (behind_words site args at w number) ∙ c.in_default-check_claim.ensures at (behind_claim site args at w number) ∙ (rw c.in-Ok.is at c.in_ok-wanted.ensures.tests) at (claimed site args at w number)))
    (acts p rest tells)) c.open_claimed.ensures.acts
