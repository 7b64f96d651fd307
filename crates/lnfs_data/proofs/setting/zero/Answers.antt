use Rattle.lnfs_tree.specs.Rows.{id_of}
use Rattle.lnfs_data.proofs.SetOnce.{zero_sets}
use Rattle.lnfs_data.proofs.setting.zero.Goals as goal

pub settle-requires : goal.settle-requires
settle-requires c = record {
  before = c.args.tree.now;
  totals = c.requires;
  rising = c.law_order.ensures;
  charged = c.charge_of-before.ensures.value;
  sets = zero_sets c.args.tree.now c.zero.new.self (id_of c.args.id) c.args.first c.args.end c.args.at c.in_ok-zero.field-0 c.in_ok-zero.ensures.does;
}
