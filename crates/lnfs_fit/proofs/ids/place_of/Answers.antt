use Rattle.std.proofs.Common.{◌≡◌, ◌<◌, length, sym, ap, ◌∙◌, arith, ◌+◌, ◌-◌, ◌/◌}
use Rattle.std.proofs.lemmas.List.{length-map}
use Rattle.std.specs.declared.cmp.Ordering.TheVariants.{Less}
use Rattle.lnfs_world.specs.World.{id_order}
use Rattle.lnfs_rows.specs.Told.{id_of}
use Rattle.lnfs_fit.specs.Ids.{nth_id}
use Rattle.lnfs_fit.specs.RowsOf.{ids_of}
use Rattle.lnfs_fit.proofs.Risen.{all_before, all_behind}
use Rattle.lnfs_decide.proofs.Rows.{is_less}
use Rattle.lnfs_fit.proofs.ids.place_of.Goals as goal

pub halve-preserved-then-is_before : goal.halve-preserved-then-is_before
halve-preserved-then-is_before c =
    let inv = c.halve.invariant in
    let len = length-map c.args.ids.now id_of in
    let inside : c.halve.low + (c.halve.high - c.halve.low) / 2 < length (ids_of c.args.ids.now) = omega (arith, len, inv.within, c.halve-test.true) in
    let less : id_order (nth_id (ids_of c.args.ids.now) (c.halve.low + (c.halve.high - c.halve.low) / 2)) (id_of c.args.id) ≡ Less =
    ap (λ i. id_order i (id_of c.args.id)) (sym c.id_at-here.ensures) ∙ is_less (id_order (id_of c.id_at-here.result) (id_of c.args.id)) (sym c.is_before.ensures ∙ c.if-is_before.true) in
    record {
      order = omega (arith, c.halve-test.true);
      within = inv.within;
      before = all_before (ids_of c.args.ids.now) c.requires (id_of c.args.id) _ inside less;
      behind = inv.behind;
    }

pub halve-preserved : goal.halve-preserved
halve-preserved c =
    let inv = c.halve.invariant in
    let len = length-map c.args.ids.now id_of in
    let inside : c.halve.low + (c.halve.high - c.halve.low) / 2 < length (ids_of c.args.ids.now) = omega (arith, len, inv.within, c.halve-test.true) in
    let less : id_order (id_of c.args.id) (nth_id (ids_of c.args.ids.now) (c.halve.low + (c.halve.high - c.halve.low) / 2)) ≡ Less =
    ap (id_order (id_of c.args.id)) (sym c.id_at-here.ensures) ∙ is_less (id_order (id_of c.args.id) (id_of c.id_at-here.result)) (sym c.is_before-else-is_before.ensures ∙ c.if-is_before-2.true) in
    record {
      order = omega arith;
      within = omega (arith, inv.within, c.halve-test.true);
      before = inv.before;
      behind = λ k from k_in. all_behind (ids_of c.args.ids.now) c.requires (id_of c.args.id) _ inside less k from (omega (arith, len, k_in));
    }
