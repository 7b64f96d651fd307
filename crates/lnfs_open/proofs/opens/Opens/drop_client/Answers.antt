use Rattle.std.proofs.Common.{◌<◌, Bool, length, not, filter, sym, ap, ◌∙◌, subst}
use Rattle.lnfs_world.specs.World.{Open}
use Rattle.lnfs_world.specs.Change.{is_open_of}
use Rattle.lnfs_counts.proofs.Rows.{gone_first, fewer, none_filtered}
use Rattle.lnfs_open.specs.Lists.{Lists}
use Rattle.lnfs_open.specs.Listed.{id_of}
use Rattle.lnfs_open.specs.Indexed.{own_id}
use Rattle.lnfs_open.proofs.opens.Opens.drop_client.Goals as goal

pub loop-id-smaller : goal.loop-id-smaller
loop-id-smaller c =
    let opens = c.loop-id.self.opens in
    subst (λ (k : Lists). length k.opens < length opens) (sym c.take_out.ensures) (fewer own_id (id_of c.in-Some.id) opens c.in-Some.ensures.there)

pub loop-id-preserved : goal.loop-id-preserved
loop-id-preserved c =
    let test : Open → Bool = (is_open_of (id_of c.key-client.result)) in
    record {
      opens = ap (λ (k : Lists). filter (λ o. not (test o)) k.opens) c.take_out.ensures ∙ gone_first own_id test (id_of c.in-Some.id) c.loop-id.self.opens c.in-Some.ensures.only ∙ c.loop-id.invariant.opens;
      lasts = ap (λ (k : Lists). k.lasts) c.take_out.ensures ∙ c.loop-id.invariant.lasts;
    }

pub returns : goal.returns
returns c =
    let test : Open → Bool = (is_open_of (id_of c.key-client.result)) in
    let left = sym (none_filtered test c.loop-id.self.opens c.in_default.ensures.none) ∙ c.loop-id.invariant.opens in
    (λ t. record { opens = left t; lasts = c.loop-id.invariant.lasts t })
    ∙ (λ t. record c.args.self.now { opens = filter (λ o. not (is_open_of (c.key-client.ensures t) o)) c.args.self.now.opens })
