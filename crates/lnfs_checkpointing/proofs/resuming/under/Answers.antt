use Rattle.std.proofs.Common.{rules, ℕ, List, subst}
use Rattle.std.specs.Prelude.{Ok, Err}
use Rattle.lnfs_checkpointing.specs.Servings.{IsServer}
use Rattle.lnfs_checkpointing.proofs.Verdicts.{unread_checkpoint, refused, taken}
use Rattle.lnfs_checkpointing.proofs.resuming.under.Goals as goal

pub returns-in_err-bytes : goal.returns-in_err-bytes
returns-in_err-bytes g c = let a = c.args.asked.now in unread_checkpoint c.args.policy a.checkpoint.now a.traffic.now _ (search rules) c.in_err-bytes.ensures

pub returns-in_err-server : goal.returns-in_err-server
returns-in_err-server g c =
    let a = c.args.asked.now in
    let s = subst (λ (l : List ℕ). IsServer c.args.policy l (Err c.in_err-server.field-0.0)) c.deref.ensures.value c.in_err-server.ensures.server in
    refused c.args.policy a.checkpoint.now a.traffic.now _ c.in_ok-bytes.ensures _ s.0 (search rules) s.1 s.2

pub returns : goal.returns
returns g c =
    let a = c.args.asked.now in
    let s = subst (λ (l : List ℕ). IsServer c.args.policy l (Ok c.in_ok-server.server)) c.deref.ensures.value c.in_ok-server.ensures.server in
    taken c.args.policy a.checkpoint.now a.traffic.now _ c.in_ok-bytes.ensures c.in_ok-server.server s.0 s.1 c.go_on.ensures
