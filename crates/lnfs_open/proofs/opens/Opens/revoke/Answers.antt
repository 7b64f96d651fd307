use Rattle.std.proofs.Common.{◌<◌, Bool, length, not, filter, sym, ap, ◌∙◌, subst}
use Rattle.lnfs_world.specs.World.{Open}
use Rattle.lnfs_world.specs.Opens.{gives_way}
use Rattle.lnfs_counts.proofs.Rows.{gone_first, fewer, none_filtered}
use Rattle.lnfs_open.specs.Lists.{Lists}
use Rattle.lnfs_open.specs.Listed.{id_of, node_id, owner_of}
use Rattle.lnfs_open.specs.Indexed.{own_id}
use Rattle.lnfs_open.specs.Stopping.{yields_to}
use Rattle.lnfs_open.proofs.Yielding.{left_by_node}
use Rattle.lnfs_open.proofs.opens.Opens.revoke.Goals as goal

pub loop-id-smaller : goal.loop-id-smaller
loop-id-smaller g c =
    let opens = c.loop-id.self.opens in
    subst (λ (k : Lists). length k.opens < length opens) (sym c.take_out.ensures) (fewer own_id (id_of c.in-Some.id) opens c.in-Some.ensures.there)

pub loop-id-preserved : goal.loop-id-preserved
loop-id-preserved g c = record {
  opens = λ told tells.
      let test : Open → Bool = yields_to (record { subject = c.args.subject; client = c.args.own.0; owner = c.args.own.1; access = c.args.access; deny = c.args.deny }) (id_of c.key-file.result) told in
      ap (λ (k : Lists). filter (λ o. not (test o)) k.opens) c.take_out.ensures ∙ gone_first own_id test (id_of c.in-Some.id) c.loop-id.self.opens (c.in-Some.ensures.only told tells) ∙ c.loop-id.invariant.opens told tells;
  lasts = ap (λ (k : Lists). k.lasts) c.take_out.ensures ∙ c.loop-id.invariant.lasts;
}

pub returns : goal.returns
returns g c = λ told tells.
    let test : Open → Bool = yields_to (record { subject = c.args.subject; client = c.args.own.0; owner = c.args.own.1; access = c.args.access; deny = c.args.deny }) (id_of c.key-file.result) told in
    let left = sym (none_filtered test c.loop-id.self.opens (c.in_default.ensures.none told tells)) ∙ c.loop-id.invariant.opens told tells in
    (λ t. record { opens = left t; lasts = c.loop-id.invariant.lasts t })
    ∙ (λ t. record c.args.self.now { opens = filter (λ o. not (yields_to (record { subject = c.args.subject; client = c.args.own.0; owner = c.args.own.1; access = c.args.access; deny = c.args.deny }) (c.key-file.ensures t) told o)) c.args.self.now.opens })
    ∙ (λ t. record c.args.self.now { opens = left_by_node (node_id c.args.node) (λ n o. gives_way c.args.subject.0 (owner_of c.args.own) n c.args.access c.args.deny told o) c.args.self.now.opens t })
