use Rattle.std.proofs.Common.{sym, subst}
use Rattle.lnfs_quota.specs.Totals.{AreTotals}
use Rattle.lnfs_tree.specs.Changed.{copy_of}
use Rattle.lnfs_tree.specs.Rows.{Rows, id_of}
use Rattle.lnfs_data.proofs.SetOnce.{kept, copy_sets}
use Rattle.lnfs_data.proofs.setting.copy.Goals as goal

pub returns-in_err-copy-clause-counts : goal.returns-in_err-copy-clause-counts
returns-in_err-copy-clause-counts c =
    let t = c.args.tree.now in
    let u = c.copy.new.self in
    subst (λ (r : Rows). AreTotals c.args.quota.now r.nodes) (sym (kept t u (copy_of t (id_of c.args.from) (id_of c.args.to) c.args.source c.args.target c.args.count c.args.at) c.in_err-copy.field-0.0 c.in_err-copy.ensures)) c.requires.counts

pub settle-requires : goal.settle-requires
settle-requires c = record {
  before = c.args.tree.now;
  totals = c.requires.counts;
  rising = c.law_order.ensures;
  charged = c.charge_of-before.ensures.value;
  sets = copy_sets c.args.tree.now c.copy.new.self (id_of c.args.to) (id_of c.args.from) c.args.source c.args.target c.args.count c.args.at c.in_ok-copy.field-0 c.in_ok-copy.ensures;
}
