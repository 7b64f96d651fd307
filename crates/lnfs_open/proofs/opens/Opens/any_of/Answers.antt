use Rattle.std.proofs.Common.{ap, ◌∙◌}
use Rattle.std.specs.List.{list_any}
use Rattle.lnfs_world.specs.Change.{is_open_of}
use Rattle.lnfs_open.specs.Listed.{id_of}
use Rattle.lnfs_open.proofs.Grouped.{is_any}
use Rattle.lnfs_open.proofs.opens.Opens.any_of.Goals as goal

pub returns : goal.returns
returns c =
    let opens = c.args.self.now.opens in
    let first = c.first_of_client.ensures in
    c.is_some.ensures
    ∙ is_any (is_open_of (id_of c.key.result)) opens c.first_of_client.result first.there first.only first.none
    ∙ ap (λ i. list_any (is_open_of i) opens) c.key.ensures
