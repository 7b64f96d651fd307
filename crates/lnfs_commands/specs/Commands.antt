-- The table of the commands: the files that each names, and what is due of it for what these hold.
use Rattle.std.specs.Prelude.{ℕ, cond, List, [], ◌∷◌, ◌++◌, Result, Ok, Err}
use Rattle.std.specs.declared.option.Option.{Option}
use Rattle.std.specs.declared.option.Option.TheVariants.{Some, None}
use Rattle.hex.specs.Hex.{encode_lower}
use Rattle.lnfs_policy.specs.Policy.{Policy}
use Rattle.lnfs_policy.specs.PolicyText.{Refused, policy_of}
use Rattle.lnfs_policy.specs.Migrated.{in_version_2}
use Rattle.lnfs_map.specs.Translated.{translated}
use Rattle.lnfs_map.specs.declared.table.MapError.{MapError}
use Rattle.lnfs_map.specs.declared.table.MapError.TheVariants as error
use Rattle.lnfs_types.specs.declared.event.Event.{Event}
use Rattle.lnfs_operations.specs.Extra.{Extra}
use Rattle.lnfs_gss3.specs.Mechanism.{Signing, keyed_digest}
use Rattle.lnfs_step.specs.Journal.{answer_with}
use Rattle.lnfs_traffic.specs.Parts.{recorded, is_recording, place_of}
use Rattle.lnfs_traffic.specs.Generated.{generated}
use Rattle.lnfs_stage.specs.declared.ending.Ending.TheVariants.{Usage, PolicyRefused, TrafficDamaged, Untranslated}
use Rattle.lnfs_stage.specs.declared.ending.MapCause.TheVariants as cause
use Rattle.lnfs_stage.specs.declared.stop.Stop.{Stop}
use Rattle.lnfs_stage.specs.declared.stop.Stop.TheVariants.{Ends, Memory}
use Rattle.lnfs_stage.specs.Writes.{to_out}
use Rattle.lnfs_stage.specs.Due.{Due, written, ends, given}
use Rattle.lnfs_stage.specs.Contents.{Contents, first, others}
use Rattle.lnfs_commands.specs.Events.{audit_with, writes_after}
use Rattle.lnfs_commands.specs.Summary.{summary}
use Rattle.lnfs_further.specs.Further.{further}
use Rattle.lnfs_commands.specs.Words.{Task, check, migrate, replay, translate, generate, Form, help, version, under, help_text, version_text}

-- a text on standard output
abbrev pub shown : List ℕ → Due
shown text = written (to_out text ∷ [])

-- where a text spells a policy
abbrev pub judged : Result Policy Refused → (Policy → Due) → Due
judged (Err refused) next = ends (PolicyRefused refused.line refused.cause)
judged (Ok policy) next = next policy

-- ---- replay: with further operations, under a meaning of signatures and after a journal, the replies and lines of the
-- events, up to the end or up to the damage

abbrev pub replayed : (X : Extra) → Signing → Policy → (before : List Event) → (traffic : List ℕ) → Due
replayed X m policy before traffic = record {
  writes = writes_after (answer_with X m policy) (audit_with X m policy) before (recorded traffic);
  ending = cond (is_recording traffic) None (Some (TrafficDamaged (place_of traffic)));
}

-- ---- translate: the bytes in hex of lower case, or the cause; `translated` isn't short of memory (`laws::translation`)

abbrev pub stop_of : MapError → Stop
stop_of error.WrongLfs = Ends (Untranslated cause.WrongLfs)
stop_of error.BadLabel = Ends (Untranslated cause.BadLabel)
stop_of error.NoRow = Ends (Untranslated cause.NoRow)
stop_of error.Memory = Memory

abbrev pub ends_by : Stop → Due
ends_by (Ends ending) = ends ending
ends_by stop = written []

abbrev pub spelled : Result (List ℕ) MapError → Due
spelled (Ok bytes) = shown (encode_lower bytes ++ 10 ∷ [])
spelled (Err error) = ends_by (stop_of error)

-- ---- generate: what generated events come to

abbrev pub generation_due : (X : Extra) → Signing → Policy → (before : List Event) → (seed count : ℕ) → Due
generation_due X m policy before seed count = shown (summary X m policy before (generated policy seed count))

-- ---- the table: in a server that was given no event

abbrev pub files_under : Task → List (List ℕ)
files_under check = []
files_under migrate = []
files_under (replay traffic) = traffic ∷ []
files_under (generate seed count) = []
files_under (translate source target bytes) = []

abbrev pub due_under : Policy → Task → Contents → Due
due_under policy check files = shown policy.text
due_under policy migrate files = shown (in_version_2 policy.text)
due_under policy (replay traffic) files = given (first files) traffic (replayed further keyed_digest policy [])
due_under policy (generate seed count) files = generation_due further keyed_digest policy [] seed count
due_under policy (translate source target bytes) files = spelled (translated policy.formats policy.labels source target bytes)

-- the files that a form names
abbrev pub files_of : Option Form → List (List ℕ)
files_of None = []
files_of (Some help) = []
files_of (Some version) = []
files_of (Some (under name task)) = name ∷ files_under task

abbrev pub due : Option Form → Contents → Due
due None files = ends Usage
due (Some help) files = shown help_text
due (Some version) files = shown version_text
due (Some (under name task)) files = given (first files) name (λ text. judged (policy_of text) (λ rules. due_under rules task (others files)))
