use Rattle.std.proofs.Common.{List, map, sym, ap, ◌∙◌}
use Rattle.std.proofs.lemmas.Result.{IfOk-weaker}
use Rattle.lnfs_calipso.specs.declared.Level.{Level}
use Rattle.lnfs_quota.specs.Totals.{AreTotals}
use Rattle.lnfs_engine.proofs.counted.counted.Goals as goal

pub returns : goal.returns
returns c =
    let nodes = c.args.tree.now.nodes in
    IfOk-weaker c.counted_homes.result _ (λ quota. AreTotals quota nodes)
    (λ quota totals. totals nodes (sym c.in_ok-homes.ensures ∙ ap (λ (homes : List Level). map (λ l. l.0) homes) (sym c.deref.ensures.value)) c.requires.empty c.requires.bounds)
    c.counted_homes.ensures
