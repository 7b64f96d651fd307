use Rattle.std.proofs.Common.{◌&&◌, Some, sym, ◌∙◌}
use Rattle.std.specs.Prelude.{◌==◌}
use Rattle.lnfs_world.specs.World.{same_id}
use Rattle.lnfs_world.specs.Opens.{is_own, clashes}
use Rattle.lnfs_open.specs.Listed.{id_of, client_id, node_id, row_of}
use Rattle.lnfs_open.proofs.Yielding.{own_stops, other_clashes}
use Rattle.lnfs_open.proofs.revoking.Asked.is_in_way.Goals as goal

pub returns-then-is_own : goal.returns-then-is_own
returns-then-is_own c = λ number.
    let self = c.args.self.now in
    let row = c.args.row.now in
    let o = row_of (record { level = row.client.level.0; number = number }) row in
    let beside = same_id (id_of c.args.node) (node_id row.node) && row.client.level.0 == self.subject.0 in
    let mine = is_own (Some (client_id self.client, self.owner.now)) (node_id row.node) o in
    let clash = clashes self.access self.deny o in
    own_stops beside mine clash (sym (c.is_own.ensures number) ∙ c.if-is_own.true)

pub returns : goal.returns
returns c = λ number.
    let self = c.args.self.now in
    let row = c.args.row.now in
    let o = row_of (record { level = row.client.level.0; number = number }) row in
    let beside = same_id (id_of c.args.node) (node_id row.node) && row.client.level.0 == self.subject.0 in
    let mine = is_own (Some (client_id self.client, self.owner.now)) (node_id row.node) o in
    let clash = clashes self.access self.deny o in
    c.clashes.ensures (record { level = row.client.level.0; number = number })
    ∙ other_clashes beside mine clash (sym c.is_beside.ensures ∙ c.if-not-is_beside.false) (sym (c.is_own.ensures number) ∙ c.if-is_own.false)
