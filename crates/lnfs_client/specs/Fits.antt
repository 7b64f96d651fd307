-- What holds of every client, and what a policy has to hold for its calls.
use Rattle.std.specs.Prelude.{◌<◌, ◌≤◌, Bool, true, false, Option, Some, None, length, IfSome, Result, Ok, Err}
use Rattle.lnfs_arguments.specs.declared.numbers.TheConstants.{OWNER_LIMIT}
use Rattle.lnfs_policy.specs.Policy.{Policy}
use Rattle.lnfs_script.specs.Fits.{ActionFits, ActionSuits, IdentitySuits}
use Rattle.lnfs_asking.specs.Labels.{IsShort}
use Rattle.lnfs_client.specs.declared.known.Known.{Known}
use Rattle.lnfs_client.specs.declared.known.Running.{Running}
use Rattle.lnfs_client.specs.Promises.{ReadyIn}
use Rattle.lnfs_client.specs.declared.answer.Answer.TheVariants as answers
use Rattle.lnfs_client.specs.declared.answer.Progress.{Progress}
use Rattle.lnfs_client.specs.declared.answer.Progress.TheVariants.{More, Done}
use Rattle.lnfs_client.specs.declared.answer.Refusal.{Refusal}
use Rattle.lnfs_client.specs.declared.answer.Refusal.TheVariants as refusals

abbrev pub RunningFits : Running → Type 0
RunningFits r = ActionFits r.action × IfSome r.label IsShort

pub record KnownFits (k : Known) : Type 0 where
  pub owner : length k.owner ≤ OWNER_LIMIT
  pub running : IfSome k.running RunningFits

abbrev pub RunningSuits : Policy → Option Running → Type 0
RunningSuits p None = Unit {0}
RunningSuits p (Some r) = ActionSuits p r.action

-- The policy is that of the earlier calls: it has the client's level, its parent and the levels of its action, and a label that
-- is kept for a change tells in it the client's level.
pub record Suits (p : Policy) (k : Known) : Type 0 where
  pub level : k.level.0 < length p.labels
  pub identity : IdentitySuits p k.identity
  pub action : RunningSuits p k.running
  pub ready : ReadyIn p k.level k.running

-- a fact unless memory was wanting
abbrev pub UnlessMemory : Result Progress Refusal → Type 0 → Type 0
UnlessMemory (Err refusals.Memory) fact = Unit {0}
UnlessMemory result fact = fact

abbrev pub IfMemory : Result Progress Refusal → Type 0 → Type 0
IfMemory (Err refusals.Memory) fact = fact
IfMemory result fact = Unit {0}

-- a fact where an action has ended
abbrev pub IfEnded : Result Progress Refusal → Type 0 → Type 0
IfEnded (Ok More) fact = Unit {0}
IfEnded (Ok (Done answer)) fact = fact
IfEnded (Err cause) fact = fact

-- whether the client is mounted: from the answer of a Mount until a Leave is answered or another Mount begins
abbrev pub mounted_by : Result Progress Refusal → (before : Bool) → Bool
mounted_by (Ok (Done answers.Mounted)) before = true
mounted_by (Ok (Done answers.Left)) before = false
mounted_by told before = before
