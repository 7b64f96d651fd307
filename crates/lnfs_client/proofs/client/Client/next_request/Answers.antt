use Rattle.std.proofs.Common.{◌≡◌, Option, ap, ◌∙◌, rules}
use Rattle.std.specs.Prelude.{is_some}
use Rattle.lnfs_asking.specs.declared.sent.Sent.{Sent}
use Rattle.lnfs_client.specs.Machine.{asked, asked_with}
use Rattle.lnfs_client.proofs.Bounds.{made_where}
use Rattle.lnfs_client.proofs.Guarding.{changes_guarded}
use Rattle.lnfs_client.proofs.client.Client.next_request.Goals as goal

pub returns-in_err-sent-clause-guarded : goal.returns-in_err-sent-clause-guarded
returns-in_err-sent-clause-guarded g c = changes_guarded c.args.policy.now c.args.self.now c.requires.site.ready

pub returns-clause-made : goal.returns-clause-made
returns-clause-made g c =
    let told : c.is_some-made.result ≡ is_some c.in_ok-sent.sent = first_of (cc, search rules) in
    rw (← c.self.view_is) (told ∙ ap (λ (o : Option Sent). is_some o) c.in_ok-sent.ensures.request ∙ made_where g.M.Mechanism.signing c.args.policy.now c.self.inside.known)

pub returns-clause-client : goal.returns-clause-client
unfolding asked
returns-clause-client g c = rw (← c.self.view_is) (c.post.ensures ∙ ap (asked_with c.self.inside.known) c.in_ok-sent.ensures.request)

pub returns-clause-guarded : goal.returns-clause-guarded
returns-clause-guarded g c = changes_guarded c.args.policy.now c.args.self.now c.requires.site.ready
