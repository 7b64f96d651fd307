use Rattle.std.proofs.Common.{not, Some, sym, ◌∙◌}
use Rattle.std.specs.Prelude.{◌==◌}
use Rattle.lnfs_world.specs.World.{same_id}
use Rattle.lnfs_world.specs.Opens.{is_own, clashes}
use Rattle.lnfs_open.specs.Listed.{id_of, client_id, node_id, row_of}
use Rattle.lnfs_open.proofs.Yielding.{passes_last, fails_first}
use Rattle.lnfs_open.proofs.revoking.Asked.is_given_way.Goals as goal

pub returns-then-is_in_way : goal.returns-then-is_in_way
returns-then-is_in_way g c = λ told tells number.
    let self = c.args.self.now in
    let row = c.args.row.now in
    let o = row_of (record { level = row.client.level.0; number = number }) row in
    let same = same_id (id_of c.args.node) (node_id row.node) in
    let own = row.client.level.0 == self.subject.0 in
    let other = not (is_own (Some (client_id self.client, self.owner.now)) (node_id row.node) o) in
    let clash = clashes self.access self.deny o in
    let over = told (client_id row.client) in
    c.is_over.ensures told tells ∙ passes_last same own other clash over (sym (c.is_in_way.ensures number) ∙ c.if-is_in_way.true)

pub returns-else-is_in_way : goal.returns-else-is_in_way
returns-else-is_in_way g c = λ told tells number.
    let self = c.args.self.now in
    let row = c.args.row.now in
    let o = row_of (record { level = row.client.level.0; number = number }) row in
    let same = same_id (id_of c.args.node) (node_id row.node) in
    let own = row.client.level.0 == self.subject.0 in
    let other = not (is_own (Some (client_id self.client, self.owner.now)) (node_id row.node) o) in
    let clash = clashes self.access self.deny o in
    let over = told (client_id row.client) in
    c.if-is_in_way.false ∙ fails_first same own other clash over (sym (c.is_in_way.ensures number) ∙ c.if-is_in_way.false)
