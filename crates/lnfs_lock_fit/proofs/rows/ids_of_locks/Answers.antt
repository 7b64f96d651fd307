use Rattle.std.proofs.Common.{ap, ◌∙◌, arith}
use Rattle.std.proofs.lemmas.List.{length-map}
use Rattle.lnfs_fit.specs.RowsOf.{ids_of}
use Rattle.lnfs_sound.proofs.Listed.{one_more_id, all_ids}
use Rattle.lnfs_lock_rows.specs.Told.{lock_of}
use Rattle.lnfs_lock_fit.specs.RowsOf.{no_lock, locks_of}
use Rattle.lnfs_lock_fit.proofs.rows.ids_of_locks.Goals as goal

pub loop-place-preserved : goal.loop-place-preserved
loop-place-preserved c =
    ap ids_of c.in_ok-push.ensures.items
    ∙ one_more_id (λ x. x.id) (locks_of c.args.rows.now) no_lock c.loop-place.ids.items c.loop-place.place c.id_at.result (omega (arith, length-map c.args.rows.now lock_of, c.loop-place-test.true)) c.id_at.ensures c.loop-place.invariant

pub returns : goal.returns
returns c = all_ids (λ x. x.id) (locks_of c.args.rows.now) c.loop-place.ids.items c.loop-place.place (omega (arith, length-map c.args.rows.now lock_of, c.loop-place.auto.place-end, c.loop-place-test.false)) c.loop-place.invariant
