use Rattle.std.proofs.Common.{sym, ◌∙◌}
use Rattle.std.proofs.lemmas.Bool.{false≢true}
use Rattle.lnfs_site.specs.Site.{site_of}
use Rattle.lnfs_rows.specs.World.{world_of}
use Rattle.lnfs_fit.proofs.Mapped.{ids_rise}
use Rattle.lnfs_fit.proofs.Tail.{told_as}
use Rattle.lnfs_sound.proofs.Joined as joined
use Rattle.lnfs_sound.proofs.Joined.{clients_of_sound, sessions_of_sound, contexts_of_sound, nodes_of_sound, opens_of_sound}
use Rattle.lnfs_sound.proofs.whole.fit_by_ids.Goals as goal

pub returns-then-not-clients : goal.returns-then-not-clients
returns-then-not-clients c = (
  λ never. absurd (false≢true never),
  λ sound. sym c.if-not-clients.true ∙ c.in_ok-clients.ensures.1 (clients_of_sound (site_of c.args.site.now) c.args.lists.now c.args.node_ids.now c.requires.node_ids sound),
)

pub sessions_are-requires : goal.sessions_are-requires
sessions_are-requires c = record {
  ids = c.requires.ids;
  rise = ids_rise (λ x. x.id) (world_of c.args.lists.now).clients c.args.ids.now c.requires.ids (c.in_ok-clients.ensures.0 c.if-not-clients.false).facts.rise;
}

pub returns-then-not-sessions : goal.returns-then-not-sessions
returns-then-not-sessions c = (
  λ never. absurd (false≢true never),
  λ sound. sym c.if-not-sessions.true ∙ c.in_ok-sessions.ensures.1 (sessions_of_sound (site_of c.args.site.now) c.args.lists.now c.args.node_ids.now c.requires.node_ids sound),
)

pub returns-then-not-contexts : goal.returns-then-not-contexts
returns-then-not-contexts c = (
  λ never. absurd (false≢true never),
  λ sound. sym c.if-not-contexts.true ∙ c.in_ok-contexts.ensures.1 (contexts_of_sound (site_of c.args.site.now) c.args.lists.now c.args.node_ids.now c.requires.node_ids sound),
)

pub returns-then-not-nodes : goal.returns-then-not-nodes
returns-then-not-nodes c = (
  λ never. absurd (false≢true never),
  λ sound. sym c.if-not-nodes.true ∙ c.in_ok-nodes.ensures.1 (nodes_of_sound (site_of c.args.site.now) c.args.lists.now c.args.node_ids.now c.requires.node_ids sound),
)

pub opens_are-requires : goal.opens_are-requires
opens_are-requires c = record {
  ids = c.requires.ids;
  rise = ids_rise (λ x. x.id) (world_of c.args.lists.now).clients c.args.ids.now c.requires.ids (c.in_ok-clients.ensures.0 c.if-not-clients.false).facts.rise;
  nodes_rise = ids_rise (λ x. x.id) (world_of c.args.lists.now).nodes c.args.node_ids.now c.requires.node_ids (c.in_ok-nodes.ensures.0 c.if-not-nodes.false).facts.rise;
}

pub returns : goal.returns
returns c =
    told_as c.opens_are.result _ _ c.opens_are.ensures
    (λ opens. joined.sound (site_of c.args.site.now) c.args.lists.now c.args.node_ids.now c.requires.node_ids (c.in_ok-clients.ensures.0 c.if-not-clients.false) (c.in_ok-sessions.ensures.0 c.if-not-sessions.false) (c.in_ok-contexts.ensures.0 c.if-not-contexts.false) (c.in_ok-nodes.ensures.0 c.if-not-nodes.false) opens)
    (λ is. opens_of_sound (site_of c.args.site.now) c.args.lists.now c.args.node_ids.now c.requires.node_ids is)
