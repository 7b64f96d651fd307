use Rattle.std.proofs.Common.{◌≡◌, sym, subst, rules, arith}
use Rattle.std.proofs.lemmas.Grind.{common_steps}
use Rattle.lnfs_client.specs.Names.{AreNames}
use Rattle.lnfs_client.specs.Requests.{names_of}
use Rattle.lnfs_client.proofs.NamesFit.{names_fit}
use Rattle.lnfs_client.proofs.paths.names_of.Goals as goal

pub returns-clause-fit : goal.returns-clause-fit
returns-clause-fit c =
    let same : c.loop-name.names.items ≡ names_of c.args.action.now = first_of (search rules, grind (arith, common_steps)) in
    subst AreNames (sym same) (names_fit c.args.action.now c.requires)
