use Rattle.std.proofs.Common.{◌≡◌, ◌+◌, true, false, Option, Some, None, sym, ap, ◌∙◌, subst, rules}
use Rattle.std.specs.Prelude.{IfSome, is_some}
use Rattle.lnfs_asking.specs.declared.sent.Sent.{Sent}
use Rattle.lnfs_asking.specs.Sending.{PlanFits, PlanIsShort, sent_of}
use Rattle.lnfs_client.specs.declared.known.Running.{Running}
use Rattle.lnfs_client.specs.Fits.{RunningFits}
use Rattle.lnfs_client.specs.Machine.{speaker_of}
use Rattle.lnfs_client.specs.Requests.{plan}
use Rattle.lnfs_client.proofs.Asking.{none_running, one_awaited, none_awaited}
use Rattle.lnfs_client.proofs.Records.{stage_short}
use Rattle.lnfs_client.proofs.making.request.Goals as goal

pub returns-in_default-clause-request : goal.returns-in_default-clause-request
returns-in_default-clause-request g c =
    let k = c.args.known.now in
    let none : k.running ≡ None = first_of (cc, search rules) in
    sym (none_running g.M.Mechanism.signing c.args.policy.now k none)

pub returns-then-is_some-clause-request : goal.returns-then-is_some-clause-request
returns-then-is_some-clause-request g c =
    let k = c.args.known.now in
    let r = c.in-Some.running in
    let one : k.running ≡ Some r = first_of (cc, search rules) in
    let waits : is_some r.awaited ≡ true = first_of (cc, search rules) in
    sym (one_awaited g.M.Mechanism.signing c.args.policy.now k r one waits)

pub returns-clause-request : goal.returns-clause-request
returns-clause-request g c =
    let m = g.M.Mechanism.signing in
    let p = c.args.policy.now in
    let k = c.args.known.now in
    let r = c.in-Some.running in
    let one : k.running ≡ Some r = first_of (cc, search rules) in
    let free : is_some r.awaited ≡ false = first_of (cc, search rules) in
    let made : c.in_ok-sent.sent ≡ sent_of m (speaker_of p k) (k.sent + 1) (plan p k r) = first_of (cc, search rules) in
    ap (λ (s : Sent). Some s) made ∙ sym (none_awaited m p k r one free)

pub returns-clause-short : goal.returns-clause-short
returns-clause-short g c =
    let p = c.args.policy.now in
    let k = c.args.known.now in
    let r = c.in-Some.running in
    let one : k.running ≡ Some r = first_of (cc, search rules) in
    let fits : RunningFits r = subst (λ (o : Option Running). IfSome o RunningFits) one c.requires.fits.running in
    let same : c.in_ok-plan.plan ≡ plan p k r = c.in_ok-plan.ensures.plan in
    c.in_ok-sent.ensures.short (subst PlanIsShort (sym same) (stage_short p k r r.stage (subst PlanFits same c.in_ok-plan.ensures.fits) c.requires.fits.owner fits))
