-- What is due of a client's script, and what a call did of it.
use Rattle.std.specs.Prelude.{◌≡◌, ◌<◌, ℕ, cond, nat_lt, List, [], ◌∷◌, length, Result, Ok, Err, IfOk, IfSome}
use Rattle.std.specs.declared.option.Option.{Option}
use Rattle.std.specs.declared.option.Option.TheVariants.{Some, None}
use Rattle.lnfs_outside.specs.Nets.{Deal, Back}
use Rattle.lnfs_policy.specs.Policy.{Policy}
use Rattle.lnfs_policy.specs.PolicyText.{policy_of}
use Rattle.lnfs_gss3.specs.Mechanism.{Signing, keyed_digest}
use Rattle.lnfs_script.specs.Script.{script_of}
use Rattle.lnfs_script.specs.declared.script.Script.{Script}
use Rattle.lnfs_stage.specs.declared.ending.Ending.{Ending}
use Rattle.lnfs_stage.specs.declared.ending.Ending.TheVariants.{Usage, LinkClosed, ScriptRefused}
use Rattle.lnfs_stage.specs.declared.status.Status.{Status}
use Rattle.lnfs_stage.specs.declared.status.Status.TheVariants as status
use Rattle.lnfs_stage.specs.declared.stop.Stop.{Stop}
use Rattle.lnfs_stage.specs.Seen.{Seen}
use Rattle.lnfs_stage.specs.Ending.{status_of}
use Rattle.lnfs_stage.specs.Due.{Due, written, ends, given}
use Rattle.lnfs_stage.specs.Does.{Does, DoesBy, Holds}
use Rattle.lnfs_stage.specs.Contents.{Contents, first, others, AllHold}
use Rattle.lnfs_commands.specs.Commands.{judged}
use Rattle.lnfs_commands.specs.Rules.{IsTaken}
use Rattle.lnfs_service.specs.Handed.{Dealings, Deals}
use Rattle.lnfs_service.specs.Serves.{Remains}
use Rattle.lnfs_service.specs.Session.{Nothing, began}
use Rattle.lnfs_talk.specs.Talk.{talk}
use Rattle.lnfs_talk.specs.Talks.{IsTalk, due_of}

-- ---- what is due

-- where the level is one of the policy
abbrev pub at_level : Policy → (level : ℕ) → Due → Due
at_level p level next = cond (nat_lt level (length p.labels)) next (ends Usage)

-- where a text spells a script
abbrev pub scripted : Result Script ℕ → (Script → Due) → Due
scripted (Err line) next = ends (ScriptRefused line)
scripted (Ok s) next = next s

-- what the client shows when these records have come; where it had no link it shows nothing
abbrev pub spoken : Signing → Policy → (level : ℕ) → Script → (records : Option (List (List ℕ))) → Due
spoken m p level s None = written []
spoken m p level s (Some records) = due_of (talk m p level s records)

-- under the policy of a name, by the script of a name: the policy is read first, then the level is judged, then the script is read
abbrev pub visit_due : (policy : List ℕ) → (level : ℕ) → (script : List ℕ) → Contents → (records : Option (List (List ℕ))) → Due
visit_due policy level script files records = given (first files) policy (λ text. judged (policy_of text) (λ p.
    at_level p level (given (first (others files)) script (λ lines. scripted (script_of p lines) (λ s. spoken keyed_digest p level s records)))))

-- ---- the script

-- a text spells a script under a policy, of which something is said
pub record IsSpoken (p : Policy) (script : Option (List ℕ)) (Say : Script → Type 0) : Type 0 where
  pub text : List ℕ
  pub spelled : Script
  pub is_text : script ≡ Some text
  pub is_script : script_of p text ≡ Ok spelled
  pub say : Say spelled

-- it gave the script that the file of the name spells, or told that there is no such file, or the first line that is refused
pub record ScriptIn (p : Policy) (result : Result Script Stop) (before after : Seen) (name : List ℕ) : Type 0 where
  pub script : Option (List ℕ)
  pub held : Holds before.content name script
  pub does : Does result before after (given script name (λ text. scripted (script_of p text) (λ s. written [])))
  pub taken : IfOk result (λ s. IsSpoken p script (λ spelled. spelled ≡ s))

-- ---- the link

-- A link of the script's class, that had taken nothing when it was dealt, and what it was when it was handed back.
pub record IsVisited (m : Signing) (p : Policy) (level : ℕ) (s : Script) (ending : Status) (records : List (List ℕ)) (deal : Deal) (back : Back) : Type 0 where
  pub class : deal.class ≡ s.class
  pub fresh : IfSome deal.taken (λ bytes. bytes ≡ [])
  pub talk : IsTalk m p level s ending (began deal) back records

-- one link was dealt, and the same was handed back
pub record OneLink (deals : List Deal) (backs : List Back) (Say : Deal → Back → Type 0) : Type 0 where
  pub deal : Deal
  pub back : Back
  pub dealt : deals ≡ deal ∷ []
  pub handed : backs ≡ back ∷ []
  pub say : Say deal back

-- The links of a visit, by the records that came over its link, if it had one, and the status. The net is asked for a link only where a script may be talked through.
abbrev pub AreVisited : (May : Type 0) (Is : Status → List (List ℕ) → Deal → Back → Type 0) → (records : Option (List (List ℕ))) → Status → List Deal → List Back → Type 0
AreVisited May Is (Some records) ending deals backs = OneLink deals backs (Is ending records)
AreVisited May Is None status.Ok deals backs = ⊥
AreVisited May Is None status.NetFault deals backs = May × Nothing deals backs
AreVisited May Is None status.Memory deals backs = Nothing deals backs
AreVisited May Is None status.WriteFault deals backs = Nothing deals backs
AreVisited May Is None status.ReadFault deals backs = Nothing deals backs
AreVisited May Is None (status.Ends ending) deals backs = Nothing deals backs

-- a policy and a script that two texts spell, with the level, of which something is said
abbrev pub IsVisitBy : Contents → (level : ℕ) → (Say : Policy → Script → Type 0) → Type 0
IsVisitBy files level Say = IsTaken (first files) (λ p. (level < length p.labels) × IsSpoken p (first (others files)) (Say p))

abbrev pub MayVisit : Contents → (level : ℕ) → Type 0
MayVisit files level = IsVisitBy files level (λ p s. Unit {0})

abbrev pub IsVisit : Contents → (level : ℕ) → Status → List (List ℕ) → Deal → Back → Type 0
IsVisit files level ending records deal back = IsVisitBy files level (λ p s. IsVisited keyed_digest p level s ending records deal back)

-- ---- what a call did

-- of a script that was read, under a policy that was read
pub record Dials (m : Signing) (p : Policy) (level : ℕ) (s : Script) (result : Result (Unit {0}) Stop) (before after : Seen) (net net' : ℕ) (d : Dealings) : Type 0 where
  pub records : Option (List (List ℕ))
  pub does : DoesBy net net' result before after (spoken m p level s records)
  pub links : Deals d (AreVisited (Unit {0}) (IsVisited m p level s) records (status_of result))
  pub later : Remains net net'

-- the same of two names, up to what is due by `finish`
pub record Visits (policy : List ℕ) (level : ℕ) (script : List ℕ) (result : Result (Unit {0}) Stop) (before after : Seen) (net net' : ℕ) (d : Dealings) (finish : Due → Due) : Type 0 where
  pub contents : Contents
  pub records : Option (List (List ℕ))
  pub held : AllHold before.content (policy ∷ script ∷ []) contents
  pub does : DoesBy net net' result before after (finish (visit_due policy level script contents records))
  pub links : Deals d (AreVisited (MayVisit contents level) (IsVisit contents level) records (status_of result))
  pub later : Remains net net'

abbrev pub IsIdleFor : {N : Type 0} → Ending → (net net' : N) → Type 0
IsIdleFor LinkClosed net net' = Unit {0}
IsIdleFor ending net net' = net' ≡ net

-- The net of a visit. A link may have been dialled where the run ends well or by it, or by a stream, memory or the net; any other ending comes before, and leaves the net as it was.
abbrev pub IsIdleTill : {N : Type 0} → Status → (net net' : N) → Type 0
IsIdleTill status.Ok net net' = Unit {0}
IsIdleTill status.WriteFault net net' = Unit {0}
IsIdleTill status.Memory net net' = Unit {0}
IsIdleTill status.NetFault net net' = Unit {0}
IsIdleTill (status.Ends ending) net net' = IsIdleFor ending net net'
IsIdleTill status.ReadFault net net' = net' ≡ net
