use Rattle.std.proofs.Common.{rules, refl, ◌≡◌, ◌∙◌, ap}
use Rattle.lnfs_world.specs.Leases.{over_at}
use Rattle.lnfs_world.specs.Outcome.{Place}
use Rattle.lnfs_site.specs.Site.{site_of}
use Rattle.lnfs_operations.specs.Extra.{place_at}
use Rattle.lnfs_operations.specs.StateIds.{where_usable}
use Rattle.lnfs_open.specs.Listed.{client_id}
use Rattle.lnfs_open.specs.Lists.{Lists}
use Rattle.lnfs_nodes.specs.Acts.{placed}
use Rattle.lnfs_files.specs.Worlds.{with_opens}
use Rattle.lnfs_files.specs.Tests.{passed, refusal_in}
use Rattle.lnfs_files.specs.Uses.{way_of}
use Rattle.lnfs_engine.specs.Further.{spot_of}
use Rattle.lnfs_engine.proofs.Told.{told_at}
use Rattle.lnfs_sparse.proofs.files.check_state.Goals as goal

-- The leases are those of the clients of the world.
pub returns : goal.returns
returns c = λ n same.
    let w = c.args.store.now in
    let p : Place = place_at (spot_of c.args.at.now) in
    let is = c.caller-caller.ensures in
    c.check_usable.ensures p w n (told_at _ w p c.caller-caller.result is (λ client answer known few told. let now : answer ≡ over_at w.clients p.moment (client_id client) = search rules in now)) refl same
    ∙ ap (λ (s : Lists). refusal_in (where_usable (site_of c.args.at.now.site.now) (placed p c.caller-caller.result) (with_opens w s) n c.args.id.now (way_of c.args.way) (passed (placed p c.caller-caller.result)))) c.opens.ensures
    ∙ ap (λ (q : Place). refusal_in (where_usable (site_of c.args.at.now.site.now) q w n c.args.id.now (way_of c.args.way) (passed q))) is
