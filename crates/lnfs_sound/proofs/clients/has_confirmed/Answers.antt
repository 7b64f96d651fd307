use Rattle.std.proofs.Common.{◌<◌, length, sym, ap, ◌∙◌, arith}
use Rattle.std.proofs.lemmas.List.{length-map}
use Rattle.lnfs_world.specs.Facts.{is_confirmed}
use Rattle.lnfs_rows.specs.Told.{client_of}
use Rattle.lnfs_fit.proofs.Mapped.{ids_len, id_nth, rows_rise}
use Rattle.lnfs_sound.specs.RowsOf.{clients_of, no_client}
use Rattle.lnfs_sound.proofs.Found.{found_at, missing_at}
use Rattle.lnfs_sound.proofs.clients.has_confirmed.Goals as goal

pub is_confirmed_at-requires : goal.is_confirmed_at-requires
is_confirmed_at-requires c = omega (arith, ids_len (λ x. x.id) (clients_of c.args.rows.now) c.args.ids.now c.requires.ids, length-map c.args.rows.now client_of, c.in-Some.ensures.found.0)

pub returns-in-Some : goal.returns-in-Some
returns-in-Some c =
    let rows = clients_of c.args.rows.now in
    let found = c.in-Some.ensures.found in
    let inside : c.in-Some.place < length rows = omega (arith, ids_len (λ x. x.id) rows c.args.ids.now c.requires.ids, found.0) in
    let is = sym (id_nth (λ x. x.id) rows c.args.ids.now c.requires.ids no_client c.in-Some.place inside) ∙ found.1 in
    c.is_confirmed_at.ensures ∙ sym (ap is_confirmed (found_at (λ x. x.id) no_client rows (rows_rise (λ x. x.id) rows c.args.ids.now c.requires.ids c.requires.rise) c.in-Some.place inside (record { level = c.args.level; number = c.args.number }) is))

pub returns-in-None : goal.returns-in-None
returns-in-None c =
    let rows = clients_of c.args.rows.now in
    sym (ap is_confirmed (missing_at (λ x. x.id) no_client rows (record { level = c.args.level; number = c.args.number })
    (λ k k_in is. c.in-None.ensures.missing k (omega (arith, ids_len (λ x. x.id) rows c.args.ids.now c.requires.ids, k_in)) (id_nth (λ x. x.id) rows c.args.ids.now c.requires.ids no_client k k_in ∙ is))))
