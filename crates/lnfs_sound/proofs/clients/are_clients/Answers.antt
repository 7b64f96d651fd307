use Rattle.std.proofs.Common.{sym, ◌∙◌, arith}
use Rattle.std.proofs.lemmas.List.{length-map}
use Rattle.std.proofs.lemmas.Bool.{false≢true}
use Rattle.lnfs_site.specs.Site.{site_of}
use Rattle.lnfs_rows.specs.Told.{client_of}
use Rattle.lnfs_fit.proofs.Tail.{told_as}
use Rattle.lnfs_sound.specs.RowsOf.{clients_of}
use Rattle.lnfs_sound.proofs.OfClients.{to_clients, clients_given, clients_few, clients_fit}
use Rattle.lnfs_sound.proofs.clients.are_clients.Goals as goal

pub returns-then-not-ids_fit : goal.returns-then-not-ids_fit
returns-then-not-ids_fit c = (
  λ never. absurd (false≢true never),
  λ sound. sym c.if-not-ids_fit.true ∙ c.ids_fit.ensures.1 (clients_given (site_of c.args.site.now) c.args.last.now (clients_of c.args.rows.now) c.args.ids.now c.requires sound),
)

pub few_of_a_level-requires : goal.few_of_a_level-requires
few_of_a_level-requires c = (c.ids_fit.ensures.0 c.if-not-ids_fit.false).bounds

pub returns-then-not-few : goal.returns-then-not-few
returns-then-not-few c = (
  λ never. absurd (false≢true never),
  λ sound. sym c.if-not-few.true ∙ c.in_ok-few.ensures.1 (clients_few (site_of c.args.site.now) c.args.last.now (clients_of c.args.rows.now) c.args.ids.now c.requires sound),
)

pub returns-then-not-each_fits : goal.returns-then-not-each_fits
returns-then-not-each_fits c = (
  λ never. absurd (false≢true never),
  λ sound. sym c.if-not-each_fits.true ∙ c.each_fits.ensures.1 (λ k k_in. clients_fit (site_of c.args.site.now) c.args.last.now (clients_of c.args.rows.now) c.args.ids.now c.requires sound k (omega (arith, length-map c.args.rows.now client_of, k_in))),
)

pub returns : goal.returns
returns c =
    let len = length-map c.args.rows.now client_of in
    told_as c.rivals_differ.result _ _ c.rivals_differ.ensures
    (λ apart. to_clients (site_of c.args.site.now) c.args.last.now (clients_of c.args.rows.now) c.args.ids.now c.requires (c.ids_fit.ensures.0 c.if-not-ids_fit.false) (c.in_ok-few.ensures.0 c.if-not-few.false) (λ k k_in. c.each_fits.ensures.0 c.if-not-each_fits.false k (omega (arith, len, k_in))) apart)
    (λ sound. sound.facts.rivals)
