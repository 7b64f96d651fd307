use Rattle.std.proofs.Common.{◌≡◌, refl, ap, sym, ◌∙◌, Bool, Err, arith}
use Rattle.lnfs_calipso.specs.declared.Level.{Level}
use Rattle.lnfs_arguments.specs.declared.statuses.TheConstants.{NFS4ERR_NOSPC}
use Rattle.lnfs_world.specs.World.{Id}
use Rattle.lnfs_world.specs.Leases.{over_at}
use Rattle.lnfs_world.specs.Outcome.{Place}
use Rattle.lnfs_operations.specs.declared.Gate.TheVariants.{Quota}
use Rattle.lnfs_operations.specs.Open.{Arguments, Wanted}
use Rattle.lnfs_open.specs.Opening.{Wish, opened_of}
use Rattle.lnfs_open.specs.Listed.{node_id}
use Rattle.lnfs_open.specs.declared.keys.OpenError.TheVariants.{Full}
use Rattle.lnfs_nodes.specs.Acts.{placed}
use Rattle.lnfs_nodes.proofs.Refusing.{refused_as}
use Rattle.lnfs_files.specs.Openings.{args_of, wanted_of}
use Rattle.lnfs_files.specs.Passing.{wish_of, Passes, Fails}
use Rattle.lnfs_files.proofs.WriteOn.{is_counted}
use Rattle.lnfs_files.proofs.Sizes.{held_bytes}
use Rattle.lnfs_files.proofs.Opens.{wish, wished_so, with_own, refused_so, only_full, is_full, after_cut, succeeds}
use Rattle.lnfs_files.proofs.present.open_present.Goals.{then-sized, else-sized}
use Rattle.lnfs_files.proofs.present.open_present.Goals as goal

pub put_size-requires-clause-resizes : goal.put_size-requires-clause-resizes
put_size-requires-clause-resizes g c =
    let t = c.args.tree.now in
    let h = c.args.held.now in
    record {
      held = is_counted c.args.quota.now t h _ c.requires.there (λ n holds. held_bytes t n h holds c.in_default.ensures.file) c.requires.counts (c.law_totals.ensures.held_bytes c.args.quota.now t.nodes) (c.law_totals.ensures.held_bounds c.args.quota.now t.nodes);
      fits = λ grows. absurd (grind (arith, grows));
    }

pub returns-in-Full-clause-acts : goal.returns-in-Full-clause-acts
returns-in-Full-clause-acts g c = λ p rest n tells holds.
    let at : Place = placed p c.args.opener.now.caller.now in
    let args : Arguments = args_of c.args.opener.now.args.now in
    let t = c.args.tree.now in
    let s = c.args.opens.now in
    let v = c.open_past.new.opens in
    let number = c.args.opener.now.client.number in
    let w : Wanted = wanted_of c.args.wanted.now in
    let fails : Fails (wish args at rest t s number n) s v Full =
    wished_so (λ (x : Wish). Fails x s v Full) c.args.opener.now.client.level.0 at.subject number args (node_id c.node_key-node.result) n.id (ap (λ (l : Level). l.0) c.requires.level) (c.node_key-node.ensures ∙ holds.id) (rw c.in-Full.is at c.in-Err-open_past.ensures.refused) in
    let told : (opened_of s (wish args at rest t s number n) ≡ Err Full) × (v ≡ s) = refused_so s v (opened_of s (wish args at rest t s number n)) Full (λ e. cc) fails in
    record {
      outcome =
          c.in_default.ensures.checked p rest t n (with_own args at rest t s number n w c.args.info) tells holds
          ∙ (is_full args at rest t s number n w c.args.info Full told.0).1
          ∙ refused_as at c.no_space.result (record { gate = Quota; status = NFS4ERR_NOSPC }) c.no_space.ensures;
      tree = refl;
      opens = told.1;
    }

pub unreachable-requires : goal.unreachable-requires
unreachable-requires g c =
    let opener = c.args.opener.now in
    only_full c.args.opens.now c.open_past.new.opens (wish_of opener (node_id c.node_key-node.result)) c.in-Err-open_past.error c.in_default-error.not-Memory c.in-Err-open_past.ensures.refused c.in_default-error.not-Full

pub returns-clause-acts : goal.returns-clause-acts
returns-clause-acts g c = λ p rest n tells holds.
    let at : Place = placed p c.args.opener.now.caller.now in
    let args : Arguments = args_of c.args.opener.now.args.now in
    let t = c.args.tree.now in
    let s = c.args.opens.now in
    let v = c.open_past.new.opens in
    let number = c.args.opener.now.client.number in
    let w : Wanted = wanted_of c.args.wanted.now in
    let told : Id → Bool = over_at rest.clients at.moment in
    succeeds args at rest t s number n c.if-sized.tree v w c.args.info c.in-Ok.id _ _
    (c.in_default.ensures.checked p rest t n (with_own args at rest t s number n w c.args.info) tells holds)
    (wished_so (λ (x : Wish). Passes x told s v c.in-Ok.id) c.args.opener.now.client.level.0 at.subject number args (node_id c.node_key-node.result) n.id (ap (λ (l : Level). l.0) c.requires.level) (c.node_key-node.ensures ∙ holds.id) (c.in-Ok.ensures.opened told tells))
    (elim c.if-sized.branch [
      | then-sized b ↦ b.tree-is ∙ b.put_size.ensures.done n holds ∙ ap (λ (x : Bool). after_cut args at rest t s number n (record w { sized = x })) (sym b.if-sized.true)
      | else-sized b ↦ b.tree-is ∙ ap (λ (x : Bool). after_cut args at rest t s number n (record w { sized = x })) (sym b.if-sized.false)
    ])
    c.state_id_of.ensures holds.id refl c.cut_set.ensures
