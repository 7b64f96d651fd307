-- A client keeps its bounds, and goes on to suit its policy.
use Rattle.std.proofs.Common.{◌≡◌, ℕ, ◌≤◌, ◌<◌, List, length, Option, Some, None, refl, sym, subst}
use Rattle.std.specs.Prelude.{IfSome, is_some, is_none}
use Rattle.lnfs_arguments.specs.declared.numbers.TheConstants.{OWNER_LIMIT}
use Rattle.lnfs_policy.specs.Policy.{Policy}
use Rattle.lnfs_gss3.specs.Mechanism.{Signing}
use Rattle.lnfs_script.specs.Fits.{ActionFits, ActionSuits, IdentitySuits}
use Rattle.lnfs_calipso.specs.declared.Level.{Level}
use Rattle.lnfs_asking.specs.declared.sent.Sent.{Sent}
use Rattle.lnfs_client.specs.declared.known.Known.{Known}
use Rattle.lnfs_client.specs.declared.known.Running.{Running}
use Rattle.lnfs_client.specs.Fits.{KnownFits, RunningFits, RunningSuits, Suits}
use Rattle.lnfs_client.specs.Machine.{asked_with, posted, request_by, request_for, request_in, may_ask_in, may_ask}
use Rattle.lnfs_client.specs.Promises.{ReadyIn}
use Rattle.lnfs_client.proofs.Ready.{Ready, posted_ready}
use Rattle.lnfs_client.proofs.Steps.{SameAction, Keeps, posted_keeps}

running_fits : (r : Running) (o : Option Running) → RunningFits r → IfSome o (SameAction r) → IfSome o RunningFits
running_fits r None fits same = tt
running_fits r (Some s) fits same = (subst ActionFits (sym same.0) fits.0, same.1)

pub kept_fits : (k n : Known) (r : Running) → KnownFits k → RunningFits r → Keeps k r n → KnownFits n
kept_fits k n r known fits kept = record {
  owner = subst (λ (o : List ℕ). length o ≤ OWNER_LIMIT) (sym kept.client.2) known.owner;
  running = running_fits r n.running fits kept.running;
}

running_suits : (p : Policy) (r : Running) (o : Option Running) → ActionSuits p r.action → IfSome o (SameAction r) → RunningSuits p o
running_suits p r None suits same = tt
running_suits p r (Some s) suits same = subst (ActionSuits p) (sym same.0) suits

pub kept_suits : (p : Policy) (k n : Known) (r : Running) → Suits p k → ActionSuits p r.action → Ready p n → Keeps k r n → Suits p n
kept_suits p k n r suits action ready kept = record {
  level = subst (λ (l : Level). l.0 < length p.labels) (sym kept.client.0) suits.level;
  identity = subst (IdentitySuits p) (sym kept.client.1) suits.identity;
  action = running_suits p r n.running action kept.running;
  ready = ready;
}

-- ---- requests

posted_fits : (k : Known) (sent : Sent) (o : Option Running) → KnownFits k → IfSome o RunningFits → KnownFits (posted k sent o)
posted_fits k sent None known fits = known
posted_fits k sent (Some r) known fits = kept_fits k (posted k sent (Some r)) r known fits (posted_keeps k sent r fits.1)

pub asked_fits : (k : Known) (sent : Option Sent) → KnownFits k → KnownFits (asked_with k sent)
asked_fits k None known = known
asked_fits k (Some sent) known = posted_fits k sent k.running known known.running

posted_suits : (p : Policy) (k : Known) (sent : Sent) (o : Option Running) → Suits p k → IfSome o RunningFits → RunningSuits p o → ReadyIn p k.level o → Suits p (posted k sent o)
posted_suits p k sent None suits fits action ready = suits
posted_suits p k sent (Some r) suits fits action ready = kept_suits p k (posted k sent (Some r)) r suits action (posted_ready p k sent r ready) (posted_keeps k sent r fits.1)

pub asked_suits : (p : Policy) (k : Known) (sent : Option Sent) → KnownFits k → Suits p k → Suits p (asked_with k sent)
asked_suits p k None known suits = suits
asked_suits p k (Some sent) known suits = posted_suits p k sent k.running suits known.running suits.action suits.ready

-- a request is made exactly where one may be
made_by : (m : Signing) (p : Policy) (k : Known) (r : Running) (o : Option Sent) → is_some (request_by m p k r o) ≡ is_none o
made_by m p k r None = refl
made_by m p k r (Some sent) = refl

made_for : (m : Signing) (p : Policy) (k : Known) (o : Option Running) → is_some (request_for m p k o) ≡ may_ask_in o
made_for m p k None = refl
made_for m p k (Some r) = made_by m p k r r.awaited

pub made_where : (m : Signing) (p : Policy) (k : Known) → is_some (request_in m p k) ≡ may_ask k
unfolding request_in
made_where m p k = made_for m p k k.running
