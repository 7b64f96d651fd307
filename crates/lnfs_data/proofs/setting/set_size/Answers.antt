use Rattle.std.proofs.Common.{sym, subst}
use Rattle.lnfs_quota.specs.Totals.{AreTotals}
use Rattle.lnfs_tree.specs.Changed.{set_size_of}
use Rattle.lnfs_tree.specs.Rows.{Rows, id_of}
use Rattle.lnfs_data.proofs.SetOnce.{kept, size_sets}
use Rattle.lnfs_data.proofs.setting.set_size.Goals as goal

pub returns-in_err-set_size-clause-counts : goal.returns-in_err-set_size-clause-counts
returns-in_err-set_size-clause-counts c =
    let t = c.args.tree.now in
    let u = c.set_size.new.self in
    subst (λ (r : Rows). AreTotals c.args.quota.now r.nodes) (sym (kept t u (set_size_of t (id_of c.args.id) c.args.size c.args.at) c.in_err-set_size.field-0.0 c.in_err-set_size.ensures.does)) c.requires

pub settle-requires : goal.settle-requires
settle-requires c = record {
  before = c.args.tree.now;
  totals = c.requires;
  rising = c.law_order.ensures;
  charged = c.charge_of-before.ensures.value;
  sets = size_sets c.args.tree.now c.set_size.new.self (id_of c.args.id) c.args.size c.args.at c.in_ok-set_size.field-0 c.in_ok-set_size.ensures.does;
}
