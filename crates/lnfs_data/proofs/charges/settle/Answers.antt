use Rattle.std.proofs.Common.{ℕ, List, sym, ap, subst, arith}
use Rattle.std.specs.Option.{option_map}
use Rattle.lnfs_calipso.specs.declared.Level.{Level}
use Rattle.lnfs_quota.specs.declared.quota.Row.{Row}
use Rattle.lnfs_quota.specs.Totals.{AreTotals}
use Rattle.lnfs_tree.specs.Places.{world_of}
use Rattle.lnfs_tree.specs.Rows.{id_of}
use Rattle.lnfs_data.proofs.Settled.{no_file_after, size_stays, resized_totals}
use Rattle.lnfs_data.proofs.charges.settle.Goals as goal

pub returns-in_default-charge_of : goal.returns-in_default-charge_of
returns-in_default-charge_of c = no_file_after c.args.quota.now (id_of c.args.id) c.args.tree.now (option_map (λ (x : Level × ℕ). (x.0.0, x.1)) c.args.before) c.requires c.in_default-charge_of.ensures.value

pub returns-then-old-new : goal.returns-then-old-new
returns-then-old-new c =
    let i = id_of c.args.id in
    size_stays c.args.quota.now i c.args.tree.now (option_map (λ (x : Level × ℕ). (x.0.0, x.1)) c.args.before) c.requires c.in-Some.label.0 c.in-Some.old c.in-Some-charge_of.field-0-0.0 c.in-Some-charge_of.new
    (ap (option_map (λ (x : Level × ℕ). (x.0.0, x.1))) (sym c.in-Some.is)) c.in-Some-charge_of.ensures.value (omega (arith, c.if-old-new.true))
    (λ n inner found alike. c.law_totals.ensures.touched_alike c.args.quota.now i inner n (world_of c.requires.before) c.requires.totals found alike)

pub returns : goal.returns
returns c =
    let i = id_of c.args.id in
    subst (λ (rows : List Row). AreTotals rows c.args.tree.now.nodes) (sym c.resize.ensures)
    (resized_totals c.args.quota.now i c.args.tree.now (option_map (λ (x : Level × ℕ). (x.0.0, x.1)) c.args.before) c.requires c.in-Some.label.0 c.in-Some.old c.in-Some-charge_of.field-0-0.0 c.in-Some-charge_of.new
    (ap (option_map (λ (x : Level × ℕ). (x.0.0, x.1))) (sym c.in-Some.is)) c.in-Some-charge_of.ensures.value (λ e. omega (arith, e, c.if-old-new.false)) c.in-Some-charge_of.ensures.few
    (λ n inner found small. c.law_totals.ensures.touched c.args.quota.now i inner n (world_of c.requires.before) c.requires.totals found small c.law_numbered.ensures))
