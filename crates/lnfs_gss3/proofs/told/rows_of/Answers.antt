use Rattle.std.proofs.Common.{map}
use Rattle.lnfs_rows.specs.declared.sessions.ContextRow.{ContextRow}
use Rattle.lnfs_rows.specs.Told as told
use Rattle.lnfs_gss3.specs.Listed.{context_of}
use Rattle.lnfs_counts.proofs.Telling.{one_told}
use Rattle.lnfs_gss3.proofs.told.rows_of.Goals as goal

pub loop-id-preserved : goal.loop-id-preserved
loop-id-preserved c =
    let id = c.in-Some.id.now in
    let row : ContextRow = record { id = record { level = id.level; number = id.number }; parent = c.from.result } in
    one_told told.context_of context_of c.loop-id.rows.items c.push.new.self.items row (id, c.in-Some.parent.now) c.next.new.self c.loop-id.id-iterator (map context_of c.args.contexts.now.entries)
    c.loop-id.invariant c.in-Some.ensures.steps (λ t. record { id = record { level = id.level; number = id.number }; parent = c.from.ensures t }) c.in_ok-push.ensures.items
