use Rattle.std.proofs.Common.{◌≡◌, ◌∙◌, sym, subst, List, length, ap}
use Rattle.lnfs_quota.specs.declared.quota.Row.{Row}
use Rattle.lnfs_quota.specs.Quota.{resized}
use Rattle.lnfs_quota.specs.Totals.{AreTotals}
use Rattle.lnfs_files.specs.Charges.{AreBytesHeld, released}
use Rattle.lnfs_files.proofs.Charged.{released_levels, credited_bytes, less_totals}
use Rattle.lnfs_files.proofs.charging.credit.Goals as goal

pub credit_node-requires : goal.credit_node-requires
credit_node-requires c = record { known = c.requires.node.0; held = c.requires.node.1 }

pub credit_bytes-requires : goal.credit_bytes-requires
credit_bytes-requires c =
    let held = subst (λ (rows : List Row). AreBytesHeld rows c.args.label.0 c.args.bytes) (sym c.credit_node.ensures) (credited_bytes c.args.quota.now c.args.home.0 c.args.label.0 c.args.bytes c.requires.bytes) in
    record { known = held.0; held = held.1 }

pub returns : goal.returns
returns c =
    let rows = c.args.quota.now in
    let is : c.credit_bytes.new.self ≡ released rows c.args.home.0 c.args.label.0 c.args.bytes =
    c.credit_bytes.ensures ∙ ap (λ (x : List Row). resized x c.args.label.0 c.args.bytes 0) c.credit_node.ensures in
    record {
      value = is;
      levels = ap (λ (x : List Row). length x) is ∙ released_levels rows c.args.home.0 c.args.label.0 c.args.bytes;
      counts = λ before after totals less. subst (λ (x : List Row). AreTotals x after) (sym is) (less_totals rows before after c.args.home.0 c.args.label.0 c.args.bytes totals less);
    }
