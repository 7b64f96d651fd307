use Rattle.std.proofs.Common.{◌≡◌, true, false, option_map, sym, ap, ◌∙◌, arith}
use Rattle.lnfs_open.specs.Listed.{id_of, client_id, node_id, row_of}
use Rattle.lnfs_open.specs.Kept.{lists_in}
use Rattle.lnfs_open.proofs.Naming.{chosen, chosen_row, told_named}
use Rattle.lnfs_open.proofs.opens.Opens.named.Goals as goal

pub returns-in_err-row-clause-row : goal.returns-in_err-row-clause-row
returns-in_err-row-clause-row c = told_named (lists_in c.self.inside.rows.entries c.self.inside.counters) c.args.self.now (client_id c.args.client) (node_id c.args.node) (id_of c.args.id) _ c.self.view_is c.self.invariant.indexed.counted.rise (ap (option_map (λ row. row_of (id_of c.args.id) row.now)) c.from_residual.ensures ∙ ap (chosen (client_id c.args.client) (node_id c.args.node)) c.in_err-row.ensures.row)

pub returns-then-not-is_of-clause-row : goal.returns-then-not-is_of-clause-row
returns-then-not-is_of-clause-row c =
    let other : c.is_of.result ≡ false = grind (arith, c.if-not-is_of.true) in
    told_named (lists_in c.self.inside.rows.entries c.self.inside.counters) c.args.self.now (client_id c.args.client) (node_id c.args.node) (id_of c.args.id) _ c.self.view_is c.self.invariant.indexed.counted.rise
    (chosen_row (client_id c.args.client) (node_id c.args.node) (id_of c.args.id) c.in_ok-row.row.now false (c.in_ok-row.ensures.own c.self.invariant.own) (sym c.is_of.ensures.exact ∙ other) ∙ ap (chosen (client_id c.args.client) (node_id c.args.node)) c.in_ok-row.ensures.row)

pub returns-clause-row : goal.returns-clause-row
returns-clause-row c =
    told_named (lists_in c.self.inside.rows.entries c.self.inside.counters) c.args.self.now (client_id c.args.client) (node_id c.args.node) (id_of c.args.id) _ c.self.view_is c.self.invariant.indexed.counted.rise
    (chosen_row (client_id c.args.client) (node_id c.args.node) (id_of c.args.id) c.in_ok-row.row.now true (c.in_ok-row.ensures.own c.self.invariant.own) (sym c.is_of.ensures.exact ∙ c.if-not-is_of.false) ∙ ap (chosen (client_id c.args.client) (node_id c.args.node)) c.in_ok-row.ensures.row)
