-- What is due of a service, and what a call did of it.
use Rattle.std.specs.Prelude.{◌≡◌, ◌≤◌, ◌-◌, ◌^◌, ℕ, List, [], ◌∷◌, ◌++◌, map, min, Result, IfErr}
use Rattle.std.specs.declared.option.Option.{Option}
use Rattle.std.specs.declared.option.Option.TheVariants.{Some, None}
use Rattle.lnfs_types.specs.declared.event.Event.{Event}
use Rattle.lnfs_types.specs.declared.event.Moment.{Moment}
use Rattle.lnfs_outside.specs.Causes.{Rose}
use Rattle.lnfs_policy.specs.Policy.{Policy}
use Rattle.lnfs_policy.specs.PolicyText.{policy_of}
use Rattle.lnfs_operations.specs.Extra.{Extra}
use Rattle.lnfs_gss3.specs.Mechanism.{Signing, keyed_digest}
use Rattle.lnfs_traffic.specs.Texts.{recording_text}
use Rattle.lnfs_stage.specs.declared.status.Status.{Status}
use Rattle.lnfs_stage.specs.declared.status.Status.TheVariants as status
use Rattle.lnfs_stage.specs.declared.stop.Stop.{Stop}
use Rattle.lnfs_stage.specs.declared.stop.Stop.TheVariants as stop
use Rattle.lnfs_stage.specs.Seen.{Seen}
use Rattle.lnfs_stage.specs.Writes.{to_out, to_audit}
use Rattle.lnfs_stage.specs.Ending.{status_of}
use Rattle.lnfs_stage.specs.Due.{Due, written, given}
use Rattle.lnfs_stage.specs.Does.{DoesBy, Holds}
use Rattle.lnfs_commands.specs.Commands.{judged}
use Rattle.lnfs_commands.specs.Events.{audit_with, each_line}
use Rattle.lnfs_further.specs.Further.{further}
use Rattle.lnfs_service.specs.Handed.{Dealings, Deals, IsSpelled, IsService, AreServed}
use Rattle.lnfs_service.specs.Session.{Session, IsSession, link_lines}

-- The recording of the events that were served behind a journal, then each of their lines, then the line of each link. Where nobody was served nothing is written.
abbrev pub served : (X : Extra) → Signing → Policy → (before : List Event) → Option Session → Due
served X m policy before None = written []
served X m policy before (Some session) = written (to_out (recording_text session.journal) ∷ map to_audit (each_line (audit_with X m policy) before session.journal ++ link_lines 0 session.ends))

-- under the policy of a name, in a server that was given no event
abbrev pub service_due : (name : List ℕ) → (policy : Option (List ℕ)) → Option Session → Due
service_due name policy session = given policy name (λ text. judged (policy_of text) (λ rules. served further keyed_digest rules [] session))

-- a count of 64 bits hasn't fallen
abbrev pub Remains : ℕ → ℕ → Type 0
Remains before after = min before (2 ^ 64 - 1) ≤ after

-- a call of the net alone gave up
abbrev pub NetStop : Stop → ℕ → ℕ → Type 0
NetStop stop.NetFault net net' = Rose net net'
NetStop stop.Memory net net' = Unit {0}
NetStop (stop.Ends ending) net net' = ⊥
NetStop stop.ReadFault net net' = ⊥
NetStop stop.WriteFault net net' = ⊥

pub record NetOnly {T : Type 0} (result : Result T Stop) (net net' : ℕ) : Type 0 where
  pub later : Remains net net'
  pub excused : IfErr result (λ cause. NetStop cause net net')

-- a call that tells of a service gave up
abbrev pub IsUntold : Stop → Type 0
IsUntold stop.WriteFault = Unit {0}
IsUntold stop.Memory = Unit {0}
IsUntold stop.NetFault = ⊥
IsUntold (stop.Ends ending) = ⊥
IsUntold stop.ReadFault = ⊥

-- The net where a service is asked for. One may have begun where the run ends well or by a stream, memory or the net; any other ending comes before, and leaves the net as it was.
abbrev pub IsIdleBefore : {N : Type 0} → Status → (net net' : N) → Type 0
IsIdleBefore status.Ok net net' = Unit {0}
IsIdleBefore status.WriteFault net net' = Unit {0}
IsIdleBefore status.Memory net net' = Unit {0}
IsIdleBefore status.NetFault net net' = Unit {0}
IsIdleBefore (status.Ends ending) net net' = net' ≡ net
IsIdleBefore status.ReadFault net net' = net' ≡ net

-- a service under a policy that was read and behind a journal, with a link of each of the classes, of callers who sign by a mechanism
pub record Serves (X : Extra) (may : Moment → Type 0) (m : Signing) (policy : Policy) (journal : List Event) (classes : List ℕ) (result : Result (Unit {0}) Stop) (before after : Seen) (net net' : ℕ) (d : Dealings) : Type 0 where
  pub session : Option Session
  pub does : DoesBy net net' result before after (served X m policy journal session)
  pub links : Deals d (AreServed (Unit {0}) (IsSession X may m policy journal) session (status_of result) classes)
  pub later : Remains net net'

-- the same under the policy of a name, up to what is due by `finish`
pub record Offers (may : Moment → Type 0) (name : List ℕ) (classes : List ℕ) (result : Result (Unit {0}) Stop) (before after : Seen) (net net' : ℕ) (d : Dealings) (finish : Due → Due) : Type 0 where
  pub policy : Option (List ℕ)
  pub session : Option Session
  pub held : Holds before.content name policy
  pub does : DoesBy net net' result before after (finish (service_due name policy session))
  pub links : Deals d (AreServed (IsSpelled policy) (IsService may policy) session (status_of result) classes)
  pub later : Remains net net'
