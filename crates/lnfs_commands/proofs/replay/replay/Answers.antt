use Rattle.std.proofs.Common.{rules, List, [], ◌∷◌, ◌++◌, length, refl, sym, ap, ◌∙◌, append_assoc, append-nil}
use Rattle.std.specs.Prelude.{Ok}
use Rattle.std.specs.declared.option.Option.TheVariants.{Some, None}
use Rattle.lnfs_types.specs.declared.event.Event.{Event}
use Rattle.lnfs_traffic.specs.Pieces.{IsNext}
use Rattle.lnfs_commands.proofs.Replaying.{begins_reading, fits_next, goes_on, stops_in, stops_reading, goes_on_reading, ends_at_last, ends_early, was_more, was_none}
use Rattle.lnfs_vault.specs.Kept.{Kept}
use Rattle.lnfs_commands.proofs.Turns.{served_falls, fed_falls}
use Rattle.lnfs_commands.proofs.replay.replay.Goals as goal

pub turns-init : goal.turns-init
turns-init g c = ([], sym (append-nil c.args.vault.now.journal), refl, begins_reading _ _ _ _ (g.O.Outside.seen c.args.outside.now) c.new-reader.ensures.reads)

pub serve_event-requires : goal.serve_event-requires
serve_event-requires g c =
    let n : IsNext (Ok (Some c.in-Ok-Some.event)) c.turns.reader c.next.new.self = rw c.in-Ok-Some.field-0-is at c.in-Ok-Some.ensures in
    record { fits = fits_next c.turns.reader c.turns.invariant.3 c.in-Ok-Some.event c.next.new.self n }

pub returns-in_err-serve_event : goal.returns-in_err-serve_event
returns-in_err-serve_event g c =
    let n : IsNext (Ok (Some c.in-Ok-Some.event)) c.turns.reader c.next.new.self = rw c.in-Ok-Some.field-0-is at c.in-Ok-Some.ensures in
    stops_in c.turns.reader c.turns.invariant.3 c.in-Ok-Some.event c.next.new.self n c.in_err-serve_event.field-0.0 (search rules) (rw (c.turns.invariant.1, c.turns.invariant.2) at c.in_err-serve_event.ensures.does)

pub returns-in_err-feed_piece-in-Ok-None : goal.returns-in_err-feed_piece-in-Ok-None
returns-in_err-feed_piece-in-Ok-None g c = stops_reading c.turns.reader c.turns.invariant.3 c.in_err-feed_piece-in-Ok-None.field-0.0 (search rules) c.in_err-feed_piece-in-Ok-None.ensures.does

pub returns-then-not-branch : goal.returns-then-not-branch
returns-then-not-branch g c =
    let n : IsNext (Ok None) c.turns.reader c.next.new.self = rw c.in-Ok-None.field-0-is at c.in-Ok-None.ensures in
    let f = c.in_ok-feed_piece-in-Ok-None.ensures in
    rw c.ending_of.ensures (ends_at_last c.turns.reader c.turns.invariant.3 _ f.does f.piece f.was_read c.finish.result c.next.new.self c.feed_piece.new.reader n (was_none _ _ c.in_ok-feed_piece-in-Ok-None.field-0 (search rules) f.fed) c.finish.ensures)

pub returns-in-Err : goal.returns-in-Err
returns-in-Err g c = rw c.ending_of-in-Err.ensures (ends_early c.turns.reader c.turns.invariant.3 c.in-Err.error c.next.new.self c.in-Err.ensures)

pub turns-preserved : goal.turns-preserved
turns-preserved g c =
    let n : IsNext (Ok (Some c.in-Ok-Some.event)) c.turns.reader c.next.new.self = rw c.in-Ok-Some.field-0-is at c.in-Ok-Some.ensures in
    let did = c.in_ok-serve_event.ensures in
    let events = c.turns.invariant.0 in
    let event = c.in-Ok-Some.event in
    rw did.state (
      events ++ event ∷ [],
      ap (λ (j : List Event). j ++ event ∷ []) c.turns.invariant.1 ∙ append_assoc c.args.vault.now.journal events (event ∷ []),
      c.turns.invariant.2,
      goes_on c.turns.reader c.turns.invariant.3 event c.next.new.self n _ did.left (rw (c.turns.invariant.1, c.turns.invariant.2) at did.does),
    )

pub turns-preserved-in-Ok-None : goal.turns-preserved-in-Ok-None
turns-preserved-in-Ok-None g c =
    let n : IsNext (Ok None) c.turns.reader c.next.new.self = rw c.in-Ok-None.field-0-is at c.in-Ok-None.ensures in
    let f = c.in_ok-feed_piece-in-Ok-None.ensures in (
      c.turns.invariant.0,
      c.turns.invariant.1,
      c.turns.invariant.2,
      goes_on_reading c.turns.reader c.turns.invariant.3 _ f.does f.piece f.was_read c.next.new.self c.feed_piece.new.reader n.1 (was_more _ _ c.in_ok-feed_piece-in-Ok-None.field-0 (search rules) f.fed).1,
    )

pub turns-smaller : goal.turns-smaller
turns-smaller g c =
    let did = c.in_ok-serve_event.ensures in
    served_falls c.turns.vault.journal c.serve_event.new.vault.journal c.in-Ok-Some.event c.turns.reader.rest c.next.new.self.rest (ap (λ (v : Kept). v.journal) did.state) did.few

pub turns-smaller-in-Ok-None : goal.turns-smaller-in-Ok-None
turns-smaller-in-Ok-None g c =
    let n : IsNext (Ok None) c.turns.reader c.next.new.self = rw c.in-Ok-None.field-0-is at c.in-Ok-None.ensures in
    let f = c.in_ok-feed_piece-in-Ok-None.ensures in
    let more = was_more _ _ c.in_ok-feed_piece-in-Ok-None.field-0 (search rules) f.fed in
    fed_falls (length c.turns.vault.journal) c.turns.reader c.next.new.self c.feed_piece.new.reader f.piece n more.0 more.1
