use Rattle.std.proofs.Common.{sym, subst}
use Rattle.lnfs_quota.specs.Totals.{AreTotals}
use Rattle.lnfs_tree.specs.Changed.{write_of}
use Rattle.lnfs_tree.specs.Rows.{Rows, id_of}
use Rattle.lnfs_data.proofs.SetOnce.{kept, write_sets}
use Rattle.lnfs_data.proofs.setting.write.Goals as goal

pub returns-in_err-write-clause-counts : goal.returns-in_err-write-clause-counts
returns-in_err-write-clause-counts c =
    let t = c.args.tree.now in
    let u = c.write.new.self in
    subst (λ (r : Rows). AreTotals c.args.quota.now r.nodes) (sym (kept t u (write_of t (id_of c.args.id) c.args.offset c.args.bytes.now c.args.at) c.in_err-write.field-0.0 c.in_err-write.ensures)) c.requires

pub settle-requires : goal.settle-requires
settle-requires c = record {
  before = c.args.tree.now;
  totals = c.requires;
  rising = c.law_order.ensures;
  charged = c.charge_of-before.ensures.value;
  sets = write_sets c.args.tree.now c.write.new.self (id_of c.args.id) c.args.offset c.args.bytes.now c.args.at c.in_ok-write.field-0 c.in_ok-write.ensures;
}
