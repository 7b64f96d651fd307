use Rattle.std.proofs.Common.{List, subst}
use Rattle.lnfs_layout.specs.declared.lasts.LastRow.{LastRow}
use Rattle.lnfs_layout.specs.Lasts.{IsSplit}
use Rattle.lnfs_layout.proofs.Splits.{lasts_read, are_of}
use Rattle.lnfs_layout.proofs.lasts.read_lasts.Goals as goal

pub returns-clause-reads : goal.returns-clause-reads
returns-clause-reads c =
    let split = subst (λ (r : List LastRow). IsSplit r c.in_ok-split_rows.field-0.0 c.in_ok-split_rows.field-0.1.items) c.as_slice.ensures.value c.in_ok-split_rows.ensures in
    (lasts_read _ _ _ _ _ _ c.in_ok-rows.ensures.0 split, c.in_ok-rows.ensures.1)

pub returns-clause-each : goal.returns-clause-each
returns-clause-each c =
    let split = subst (λ (r : List LastRow). IsSplit r c.in_ok-split_rows.field-0.0 c.in_ok-split_rows.field-0.1.items) c.as_slice.ensures.value c.in_ok-split_rows.ensures in
    are_of _ _ _ _ _ _ c.in_ok-rows.ensures.0 split
