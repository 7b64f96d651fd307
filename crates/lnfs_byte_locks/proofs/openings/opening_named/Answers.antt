use Rattle.std.proofs.Common.{◌≡◌, ℕ, not, refl, sym, ap, ◌∙◌, Some}
use Rattle.std.specs.Prelude.{is_some}
use Rattle.lnfs_world.specs.World.{Id, Node, Open}
use Rattle.lnfs_world.specs.Outcome.{Place, Outcome}
use Rattle.lnfs_operations.specs.Chain.{Answer, refuse}
use Rattle.lnfs_operations.specs.Chain as chain
use Rattle.lnfs_operations.specs.Extra.{place_at}
use Rattle.lnfs_operations.specs.StateIds.{special}
use Rattle.lnfs_open.specs.Lists.{Lists}
use Rattle.lnfs_open.specs.Listed.{row_of, client_id, node_id, open_id}
use Rattle.lnfs_nodes.proofs.Tests.{passed, barred}
use Rattle.lnfs_files.proofs.Ends.{no_meaning}
use Rattle.lnfs_files.proofs.NamedOpens.{told}
use Rattle.lnfs_engine.specs.Further.{spot_of}
use Rattle.lnfs_locks.specs.Effects.{Came}
use Rattle.lnfs_byte_locks.proofs.NamedOpenings.{open_refused, named_in_state, named_there, has_meaning, err_finds}
use Rattle.lnfs_byte_locks.proofs.openings.opening_named.Goals as goal

pub returns-then-is_some : goal.returns-then-is_some
returns-then-is_some c = λ n node next.
    let p : Place = place_at (spot_of c.args.at.now) in
    barred (not (is_some (special c.args.id.now))) _ _ (has_meaning c.meaning.result (special c.args.id.now) c.meaning.ensures (sym c.is_some.ensures ∙ c.if-is_some.true))
    ∙ ap (λ (x : chain.Refusal). refuse p x.gate x.status) (sym c.refused_by.ensures)

pub returns-in_err-named : goal.returns-in_err-named
returns-in_err-named c = λ n node.
    let p : Place = place_at (spot_of c.args.at.now) in
    err_finds p c.args.store.now n c.args.id.now c.from_residual.result c.in_err-named.field-0.0 c.from_residual.ensures.1 (λ next.
    passed (not (is_some (special c.args.id.now))) _ _ (no_meaning c.meaning.result (special c.args.id.now) c.meaning.ensures (sym c.is_some.ensures ∙ c.if-is_some.false))
    ∙ open_refused p c.args.store.now n c.args.id.now _ _ next
    (c.in_err-named.ensures p c.args.store.now n _ refl refl (sym (ap (λ (l : Lists). l.opens) c.opens-opens.ensures))))

pub returns-in-Ok : goal.returns-in-Ok
returns-in-Ok c = λ n node.
    let p : Place = place_at (spot_of c.args.at.now) in
    let refers = c.in_ok-named.ensures in
    let own : c.in_ok-named.named.id.level.0 ≡ p.subject = refers.own in
    record {
      found = λ client is.
          let number = refers.number in
          let same : c.in_ok-named.named.client.number ≡ client = cc in
          named_there c.opens-opens.result.now.opens c.args.store.now.opens (client_id c.in_ok-named.named.client) (record { level = p.subject; number = client }) (node_id c.node_key.result) n.id (open_id c.in_ok-named.named.id) (record { level = p.subject; number = c.in_ok-named.named.id.number }) c.in-Ok.row.now
          (ap (λ (l : Lists). l.opens) c.opens-opens.ensures)
          (λ t. record { level = refers.level t; number = same t })
          (c.node_key.ensures ∙ node)
          (λ t. record { level = own t; number = c.in_ok-named.named.id.number })
          (named_in_state c.in_ok-named.named.id.seq _ _ c.in-Ok.ensures.row);
      leads = λ next.
          passed (not (is_some (special c.args.id.now))) _ _ (no_meaning c.meaning.result (special c.args.id.now) c.meaning.ensures (sym c.is_some.ensures ∙ c.if-is_some.false))
          ∙ told p c.args.store.now n c.args.id.now next c.args.at.now.client c.opens-opens.result.now.opens c.in_ok-named.named _ _ refers refl (sym (ap (λ (l : Lists). l.opens) c.opens-opens.ensures)) (c.node_key.ensures ∙ node) c.in-Ok.ensures.row
          ∙ ap (λ (level : ℕ). next (row_of (record { level = level; number = c.in_ok-named.named.id.number }) c.in-Ok.row.now)) own;
    }

pub returns-in-Err : goal.returns-in-Err
returns-in-Err c = λ n node next.
    let p : Place = place_at (spot_of c.args.at.now) in
    passed (not (is_some (special c.args.id.now))) _ _ (no_meaning c.meaning.result (special c.args.id.now) c.meaning.ensures (sym c.is_some.ensures ∙ c.if-is_some.false))
    ∙ told p c.args.store.now n c.args.id.now next c.args.at.now.client c.opens-opens.result.now.opens c.in_ok-named.named _ _ c.in_ok-named.ensures refl (sym (ap (λ (l : Lists). l.opens) c.opens-opens.ensures)) (c.node_key.ensures ∙ node) c.in-Err.ensures.row
    ∙ ap (λ (x : chain.Refusal). refuse p x.gate x.status) (sym c.refused_by-in-Err.ensures)
