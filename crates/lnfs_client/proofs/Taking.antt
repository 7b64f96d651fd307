-- What a record leads to, for whoever hands it over.
use Rattle.std.proofs.Common.{◌≡◌, ℕ, List, Option, Some, None, Result, Ok, Err, refl, sym, ap, ◌∙◌, subst}
use Rattle.std.specs.Prelude.{IfSome}
use Rattle.lnfs_policy.specs.Policy.{Policy}
use Rattle.lnfs_gss3.specs.Mechanism.{Signing}
use Rattle.lnfs_answers.specs.declared.request.Heard.{Heard}
use Rattle.lnfs_client.specs.declared.known.Known.{Known}
use Rattle.lnfs_client.specs.declared.known.Running.{Running}
use Rattle.lnfs_client.specs.declared.answer.Progress.{Progress}
use Rattle.lnfs_client.specs.declared.answer.Refusal.{Refusal}
use Rattle.lnfs_client.specs.declared.answer.Refusal.TheVariants as refusals
use Rattle.lnfs_client.specs.Machine.{Turn, Turns, ended, heard_by, next, turn_by, turn}
use Rattle.lnfs_client.specs.Promises.{ReadyIn, IfShown, IsShownOf}
use Rattle.lnfs_client.specs.Fits.{KnownFits, RunningFits, RunningSuits, Suits, UnlessMemory, IfMemory}
use Rattle.lnfs_client.proofs.Steps.{next_keeps}
use Rattle.lnfs_client.proofs.Ready.{next_ready}
use Rattle.lnfs_client.proofs.Bounds.{kept_fits, kept_suits}
use Rattle.lnfs_client.proofs.Showing.{shown_of}
use Rattle.lnfs_client.proofs.Ending.{Ends, turn_ends}
use Rattle.lnfs_client.proofs.Suiting.{ended_suits}

-- the client afterwards keeps its bounds, and the policy suits it
abbrev pub Goes : Policy → Known → Type 0
Goes p n = KnownFits n × Suits p n

pub ended_fits : (k : Known) → KnownFits k → KnownFits (ended k)
ended_fits k fits = record { owner = fits.owner; running = tt }

next_goes : (p : Policy) (k : Known) (r : Running) (h : Heard) → Goes p k → RunningFits r → RunningSuits p (Some r) → ReadyIn p k.level (Some r) → Goes p (next p (ended k) r h).client
next_goes p k r h goes fits own ready =
    let kept = next_keeps p (ended k) r h fits.1 in
    let n = (next p (ended k) r h).client in
    (kept_fits (ended k) n r (ended_fits k goes.0) fits kept, kept_suits p (ended k) n r (ended_suits p k goes.1) own (next_ready p (ended k) r h ready) kept)

turn_goes : (p : Policy) (k : Known) (h : Heard) (o : Option Running) → Goes p k → IfSome o RunningFits → RunningSuits p o → ReadyIn p k.level o → Goes p (turn_by p k h o).client
turn_goes p k h None goes fits own ready = goes
turn_goes p k h (Some r) goes fits own ready = next_goes p k r h goes fits own ready

-- all that is promised of a record that is taken
pub record IsTaken (m : Signing) (p : Policy) (k : Known) (bytes : List ℕ) (result : Result Progress Refusal) (n : Known) : Type 0 where
  pub told : UnlessMemory result (result ≡ (turn m p k bytes).told)
  pub client : UnlessMemory result (n ≡ (turn m p k bytes).client)
  pub memory : IfMemory result (n ≡ ended k)
  pub same_reply : IfShown result (IsShownOf m p k bytes)
  pub ends : Ends k n result
  pub goes : Goes p n

-- a result other than want of memory is that of the definition
exact : (m : Signing) (p : Policy) (k : Known) (bytes : List ℕ) (n : Known) (result : Result Progress Refusal) (t : Turn) → t ≡ turn m p k bytes → n ≡ t.client → result ≡ t.told → Goes p t.client → Ends k t.client t.told → Ends k n result × (n ≡ (turn m p k bytes).client) × (result ≡ (turn m p k bytes).told) × IfShown result (IsShownOf m p k bytes) × Goes p n
exact m p k bytes n result t e client told goes ends =
    let own : Turn → Known = λ t. t.client in
    let said : Turn → Result Progress Refusal = λ t. t.told in
    let P : Known → Type 0 = λ x. Ends k x t.told in
    let Q : Result Progress Refusal → Type 0 = λ x. Ends k n x in
    let S : Result Progress Refusal → Type 0 = λ x. IfShown x (IsShownOf m p k bytes) in
    let all : result ≡ (turn m p k bytes).told = told ∙ ap said e in
    (subst Q (sym told) (subst P (sym client) ends), client ∙ ap own e, all, subst S (sym all) (shown_of m p k bytes), subst (Goes p) (sym client) goes)

taken_by : (m : Signing) (p : Policy) (k : Known) (bytes : List ℕ) (n : Known) (result : Result Progress Refusal) (t : Turn) → t ≡ turn m p k bytes → Turns result k n t → Goes p k → Goes p t.client → Ends k t.client t.told → IsTaken m p k bytes result n
taken_by m p k bytes n (Err refusals.Memory) t e h before goes ends = record {
  told = tt;
  client = tt;
  memory = h;
  same_reply = tt;
  ends = (let P : Known → Type 0 = λ x. Ends k x (Err refusals.Memory) in subst P (sym h) (refl, refl));
  goes = subst (Goes p) (sym h) (ended_fits k before.0, ended_suits p k before.1);
}
taken_by m p k bytes n (Err refusals.NotDominated) t e h before goes ends = let all = exact m p k bytes n (Err refusals.NotDominated) t e h.0 h.1 goes ends in record { told = all.2; client = all.1; memory = tt; same_reply = tt; ends = all.0; goes = all.4 }
taken_by m p k bytes n (Err refusals.UnknownLabel) t e h before goes ends = let all = exact m p k bytes n (Err refusals.UnknownLabel) t e h.0 h.1 goes ends in record { told = all.2; client = all.1; memory = tt; same_reply = tt; ends = all.0; goes = all.4 }
taken_by m p k bytes n (Err refusals.NotEqual) t e h before goes ends = let all = exact m p k bytes n (Err refusals.NotEqual) t e h.0 h.1 goes ends in record { told = all.2; client = all.1; memory = tt; same_reply = tt; ends = all.0; goes = all.4 }
taken_by m p k bytes n (Err (refusals.ServerSaid status)) t e h before goes ends = let all = exact m p k bytes n (Err (refusals.ServerSaid status)) t e h.0 h.1 goes ends in record { told = all.2; client = all.1; memory = tt; same_reply = tt; ends = all.0; goes = all.4 }
taken_by m p k bytes n (Err (refusals.Denied auth)) t e h before goes ends = let all = exact m p k bytes n (Err (refusals.Denied auth)) t e h.0 h.1 goes ends in record { told = all.2; client = all.1; memory = tt; same_reply = tt; ends = all.0; goes = all.4 }
taken_by m p k bytes n (Err (refusals.BadReply at)) t e h before goes ends = let all = exact m p k bytes n (Err (refusals.BadReply at)) t e h.0 h.1 goes ends in record { told = all.2; client = all.1; memory = tt; same_reply = tt; ends = all.0; goes = all.4 }
taken_by m p k bytes n (Ok progress) t e h before goes ends = let all = exact m p k bytes n (Ok progress) t e h.0 h.1 goes ends in record { told = all.2; client = all.1; memory = tt; same_reply = all.3; ends = all.0; goes = all.4 }

turn_is : (m : Signing) (p : Policy) (k : Known) (bytes : List ℕ) (h : Heard) → h ≡ heard_by m p k bytes → turn_by p k h k.running ≡ turn m p k bytes
unfolding turn
turn_is m p k bytes h e = ap (λ (x : Heard). turn_by p k x k.running) e

pub taken : (m : Signing) (p : Policy) (k : Known) (bytes : List ℕ) (h : Heard) (result : Result Progress Refusal) (n : Known) → KnownFits k → Suits p k → h ≡ heard_by m p k bytes → Turns result k n (turn_by p k h k.running) → IsTaken m p k bytes result n
taken m p k bytes h result n fits suits e t =
    taken_by m p k bytes n result (turn_by p k h k.running) (turn_is m p k bytes h e) t (fits, suits) (turn_goes p k h k.running (fits, suits) fits.running suits.action suits.ready) (turn_ends p k h k.running)

-- where the record was not even heard
pub none_heard : (m : Signing) (p : Policy) (k : Known) (bytes : List ℕ) → KnownFits k → Suits p k → IsTaken m p k bytes (Err refusals.Memory) (ended k)
none_heard m p k bytes fits suits = taken m p k bytes (heard_by m p k bytes) (Err refusals.Memory) (ended k) fits suits refl refl
