use Rattle.std.proofs.Common.{◌≡◌, true, sym, ◌∙◌, arith}
use Rattle.std.proofs.lemmas.List.{length-map}
use Rattle.std.proofs.lemmas.Bool.{false≢true}
use Rattle.lnfs_site.specs.Site.{site_of}
use Rattle.lnfs_world.specs.Facts.{has_confirmed}
use Rattle.lnfs_rows.specs.Told.{open_of}
use Rattle.lnfs_fit.specs.RowsOf.{ids_of}
use Rattle.lnfs_fit.proofs.Indexed.{all_at, at_all}
use Rattle.lnfs_fit.proofs.Tail.{told_as}
use Rattle.lnfs_sound.specs.Parts.{has_node}
use Rattle.lnfs_sound.specs.RowsOf.{clients_of, opens_of, no_open}
use Rattle.lnfs_sound.proofs.opens.fit_others.Goals as goal

pub returns-then-not-have_clients : goal.returns-then-not-have_clients
returns-then-not-have_clients c = (
  λ never. absurd (false≢true never),
  λ sound. sym c.if-not-have_clients.true ∙ c.have_clients.ensures.1 (λ k k_in. all_at no_open (λ o. has_confirmed (clients_of c.args.clients.now) o.id.level o.client ≡ true) (opens_of c.args.rows.now) sound.behind k (omega (arith, length-map c.args.rows.now open_of, k_in))),
)

pub returns-then-not-have_nodes : goal.returns-then-not-have_nodes
returns-then-not-have_nodes c = (
  λ never. absurd (false≢true never),
  λ sound. sym c.if-not-have_nodes.true ∙ c.have_nodes.ensures.1 (λ k k_in. all_at no_open (λ o. has_node (site_of c.args.site.now).dom (ids_of c.args.node_ids.now) o.id o.node ≡ true) (opens_of c.args.rows.now) sound.nodes k (omega (arith, length-map c.args.rows.now open_of, k_in))),
)

pub returns : goal.returns
returns c =
    let len = length-map c.args.rows.now open_of in
    told_as c.openings_differ.result _ _ c.openings_differ.ensures
    (λ apart. record {
      behind = at_all no_open (λ o. has_confirmed (clients_of c.args.clients.now) o.id.level o.client ≡ true) (opens_of c.args.rows.now) (λ k k_in. c.have_clients.ensures.0 c.if-not-have_clients.false k (omega (arith, len, k_in)));
      nodes = at_all no_open (λ o. has_node (site_of c.args.site.now).dom (ids_of c.args.node_ids.now) o.id o.node ≡ true) (opens_of c.args.rows.now) (λ k k_in. c.have_nodes.ensures.0 c.if-not-have_nodes.false k (omega (arith, len, k_in)));
      apart = apart;
    })
    (λ fit. fit.apart)
