use Rattle.std.proofs.Common.{sym, subst}
use Rattle.lnfs_quota.specs.Totals.{AreTotals}
use Rattle.lnfs_tree.specs.Changed.{move_of}
use Rattle.lnfs_tree.specs.Rows.{Rows, id_of}
use Rattle.lnfs_data.proofs.SetOnce.{kept, move_sets}
use Rattle.lnfs_data.proofs.setting.copy_within.Goals as goal

pub returns-in_err-copy_within-clause-counts : goal.returns-in_err-copy_within-clause-counts
returns-in_err-copy_within-clause-counts c =
    let t = c.args.tree.now in
    let u = c.copy_within.new.self in
    subst (λ (r : Rows). AreTotals c.args.quota.now r.nodes) (sym (kept t u (move_of t (id_of c.args.id) c.args.from c.args.to c.args.count c.args.at) c.in_err-copy_within.field-0.0 c.in_err-copy_within.ensures)) c.requires

pub settle-requires : goal.settle-requires
settle-requires c = record {
  before = c.args.tree.now;
  totals = c.requires;
  rising = c.law_order.ensures;
  charged = c.charge_of-before.ensures.value;
  sets = move_sets c.args.tree.now c.copy_within.new.self (id_of c.args.id) c.args.from c.args.to c.args.count c.args.at c.in_ok-copy_within.field-0 c.in_ok-copy_within.ensures;
}
