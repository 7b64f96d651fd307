use Rattle.std.proofs.Common.{rules, ◌∙◌, ◌≡◌, ◌<◌, ◌≤◌, length, sym, arith}
use Rattle.std.proofs.lemmas.Bool.Decides.{nat_tests}
use Rattle.std.specs.Prelude.{Ok}
use Rattle.std.specs.declared.option.Option.TheVariants.{Some, None}
use Rattle.lnfs_traffic.specs.Pieces.{IsNext}
use Rattle.lnfs_checkpointing.proofs.Served.{on_ok}
use Rattle.lnfs_checkpointing.proofs.Feeding.{begins, fits_next, server_few, goes_on, goes_on_fed, stops_in, stops_short, ends_by, ends_behind, ends_early, ends_few}
use Rattle.lnfs_checkpointing.proofs.Turns.{served_falls, fed_falls}
use Rattle.lnfs_checkpointing.proofs.serving.serve_all.Goals as goal

pub turns-init : goal.turns-init
turns-init g c = begins _ _ _ _ _ c.new-reader.ensures.reads

pub returns-then-fed-total-clause-does : goal.returns-then-fed-total-clause-does
returns-then-fed-total-clause-does g c =
    let n : IsNext (Ok None) c.turns.reader c.next.new.self = rw c.in-Ok-None.field-0-is at c.in-Ok-None.ensures in
    rw c.ending_of.ensures (ends_by _ _ _ c.turns.reader c.turns.invariant c.next.new.self n (c.if-fed-total.true ∙ c.length_of-total.ensures.is) c.finish.result c.finish.ensures)

pub returns-then-fed-total-clause-behind : goal.returns-then-fed-total-clause-behind
returns-then-fed-total-clause-behind g c =
    let n : IsNext (Ok None) c.turns.reader c.next.new.self = rw c.in-Ok-None.field-0-is at c.in-Ok-None.ensures in
    on_ok c.ending_of.result (ends_behind _ _ _ c.turns.reader c.turns.invariant c.next.new.self n (c.if-fed-total.true ∙ c.length_of-total.ensures.is))

pub returns-then-fed-total-clause-few : goal.returns-then-fed-total-clause-few
returns-then-fed-total-clause-few g c =
    let n : IsNext (Ok None) c.turns.reader c.next.new.self = rw c.in-Ok-None.field-0-is at c.in-Ok-None.ensures in
    on_ok c.ending_of.result (ends_few _ _ _ c.turns.reader c.turns.invariant c.next.new.self n (c.if-fed-total.true ∙ c.length_of-total.ensures.is) c.length_of-total.ensures.fits)

pub returns-in_err-fed-in-Ok-None-clause-does : goal.returns-in_err-fed-in-Ok-None-clause-does
returns-in_err-fed-in-Ok-None-clause-does g c = stops_short _ _ _ c.turns.reader c.turns.invariant (search rules)

pub returns-in-Err-clause-does : goal.returns-in-Err-clause-does
returns-in-Err-clause-does g c = rw c.ending_of-in-Err.ensures (ends_early _ _ _ c.turns.reader c.turns.invariant c.in-Err.error c.next.new.self c.in-Err.ensures)

pub serve_event-requires-clause-fits : goal.serve_event-requires-clause-fits
serve_event-requires-clause-fits g c =
    let n : IsNext (Ok (Some c.in-Ok-Some.event)) c.turns.reader c.next.new.self = rw c.in-Ok-Some.field-0-is at c.in-Ok-Some.ensures in
    fits_next _ _ _ c.turns.reader c.turns.invariant c.in-Ok-Some.event c.next.new.self n

pub serve_event-requires-clause-few : goal.serve_event-requires-clause-few
serve_event-requires-clause-few g c = server_few _ _ _ c.turns.reader c.turns.invariant c.requires c.length_of-total.ensures.fits

pub returns-in_err-serve_event-clause-does : goal.returns-in_err-serve_event-clause-does
returns-in_err-serve_event-clause-does g c =
    let n : IsNext (Ok (Some c.in-Ok-Some.event)) c.turns.reader c.next.new.self = rw c.in-Ok-Some.field-0-is at c.in-Ok-Some.ensures in
    stops_in _ _ _ c.turns.reader c.turns.invariant c.in-Ok-Some.event c.next.new.self n c.in_err-serve_event.field-0.0 (search rules) c.in_err-serve_event.ensures.does

pub turns-preserved : goal.turns-preserved
turns-preserved g c =
    let n : IsNext (Ok (Some c.in-Ok-Some.event)) c.turns.reader c.next.new.self = rw c.in-Ok-Some.field-0-is at c.in-Ok-Some.ensures in
    let did = c.in_ok-serve_event.ensures in
    goes_on _ _ _ c.turns.reader c.turns.invariant c.in-Ok-Some.event c.next.new.self n _ _ did.does did.behind

pub turns-preserved-in-Ok-None : goal.turns-preserved-in-Ok-None
turns-preserved-in-Ok-None g c =
    let n : IsNext (Ok None) c.turns.reader c.next.new.self = rw c.in-Ok-None.field-0-is at c.in-Ok-None.ensures in
    goes_on_fed _ _ _ c.turns.reader c.turns.invariant _ c.next.new.self c.feed_piece.new.reader n.1 c.in_ok-fed-in-Ok-None.ensures

pub turns-smaller : goal.turns-smaller
turns-smaller g c =
    served_falls c.turns.server.events c.serve_event.new.server.events c.turns.fed c.in_ok-serve_event.ensures.behind.count
    (server_few _ _ _ c.turns.reader c.turns.invariant c.requires c.length_of-total.ensures.fits)

pub turns-smaller-in-Ok-None : goal.turns-smaller-in-Ok-None
turns-smaller-in-Ok-None g c =
    let all = length c.args.traffic.now in
    let within : c.turns.fed ≤ all = c.turns.invariant.within in
    let rest : c.turns.fed < all = grind (arith, nat_tests, c.if-fed-total.false, c.length_of-total.ensures.is, within) in
    fed_falls c.turns.server.events c.turns.fed _ all c.in_ok-fed-in-Ok-None.ensures.on rest c.length_of-total.ensures.fits
