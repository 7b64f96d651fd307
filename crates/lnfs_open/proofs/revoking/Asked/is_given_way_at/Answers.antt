use Rattle.std.proofs.Common.{◌≡◌, option_map, sym, ap, subst, ◌∙◌}
use Rattle.std.specs.Prelude.{IfSome}
use Rattle.lnfs_open.specs.Listed.{id_of, row_of}
use Rattle.lnfs_open.specs.Indexed.{passes}
use Rattle.lnfs_open.specs.Stopping.{yields_to}
use Rattle.lnfs_open.proofs.revoking.Asked.is_given_way_at.Goals as goal

pub returns-in-Some-clause-exact : goal.returns-in-Some-clause-exact
returns-in-Some-clause-exact g c = λ told tells.
    let id = c.args.id in
    let test = yields_to c.args.self.now (id_of c.args.node) told in
    c.is_given_way.ensures told tells id.number
    ∙ ap (λ l. test (row_of (record { level = l; number = id.number }) c.in-Some.row.now)) (subst (λ o. IfSome o (λ x. x.now.client.level.0 ≡ id.level)) c.in-Some.is (c.row_at.ensures.own c.requires.own))
    ∙ ap (passes test) (ap (option_map (λ x. row_of (id_of id) x.now)) (sym c.in-Some.is) ∙ c.row_at.ensures.row)
