-- Which request is made.
use Rattle.std.proofs.Common.{◌≡◌, ◌+◌, ◌≤◌, length, true, false, Option, Some, None, refl, ap, ◌∙◌, subst, sym}
use Rattle.std.specs.Prelude.{IfSome, is_some}
use Rattle.lnfs_types.specs.declared.limits.TheConstants.{RECORD_LIMIT}
use Rattle.lnfs_policy.specs.Policy.{Policy}
use Rattle.lnfs_gss3.specs.Mechanism.{Signing}
use Rattle.lnfs_asking.specs.declared.sent.Sent.{Sent}
use Rattle.lnfs_asking.specs.Sending.{sent_of}
use Rattle.lnfs_client.specs.declared.known.Known.{Known}
use Rattle.lnfs_client.specs.declared.known.Running.{Running}
use Rattle.lnfs_client.specs.Requests.{plan}
use Rattle.lnfs_client.specs.Machine.{speaker_of, awaited, awaited_in, request_by, request_for, request_in, posted, asked_with}

pub none_running : (m : Signing) (p : Policy) (k : Known) → k.running ≡ None → request_in m p k ≡ None
unfolding request_in
none_running m p k e = ap (request_for m p k) e

by_awaited : (m : Signing) (p : Policy) (k : Known) (r : Running) (o : Option Sent) → is_some o ≡ true → request_by m p k r o ≡ None
by_awaited m p k r None e = absurd cc
by_awaited m p k r (Some sent) e = refl

pub one_awaited : (m : Signing) (p : Policy) (k : Known) (r : Running) → k.running ≡ Some r → is_some r.awaited ≡ true → request_in m p k ≡ None
unfolding request_in
one_awaited m p k r e a = ap (request_for m p k) e ∙ by_awaited m p k r r.awaited a

by_none : (m : Signing) (p : Policy) (k : Known) (r : Running) (o : Option Sent) → is_some o ≡ false → request_by m p k r o ≡ Some (sent_of m (speaker_of p k) (k.sent + 1) (plan p k r))
by_none m p k r None e = refl
by_none m p k r (Some sent) e = absurd cc

pub none_awaited : (m : Signing) (p : Policy) (k : Known) (r : Running) → k.running ≡ Some r → is_some r.awaited ≡ false → request_in m p k ≡ Some (sent_of m (speaker_of p k) (k.sent + 1) (plan p k r))
unfolding request_in
none_awaited m p k r e a = ap (request_for m p k) e ∙ by_none m p k r r.awaited a

-- ---- the request that is unanswered then

posted_room : (k : Known) (sent : Sent) (o : Option Running) → k.running ≡ o → length sent.message ≤ RECORD_LIMIT → IfSome (awaited (posted k sent o)) (λ (s : Sent). length s.message ≤ RECORD_LIMIT)
posted_room k sent None e room = subst (λ (o : Option Running). IfSome (awaited_in o) (λ (s : Sent). length s.message ≤ RECORD_LIMIT)) (sym e) tt
posted_room k sent (Some r) e room = room

pub asked_room : (k : Known) (sent : Option Sent) → is_some sent ≡ true → IfSome sent (λ (s : Sent). length s.message ≤ RECORD_LIMIT) → IfSome (awaited (asked_with k sent)) (λ (s : Sent). length s.message ≤ RECORD_LIMIT)
asked_room k None made room = absurd cc
asked_room k (Some sent) made room = posted_room k sent k.running refl room
