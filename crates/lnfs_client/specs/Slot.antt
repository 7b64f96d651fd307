-- The numbers that the requests of a run use in the slot of their session (RFC 8881 section 2.10.6.1).
use Rattle.std.specs.Prelude.{◌≡◌, ◌<◌, Bool, true, false, ◌&&◌, ◌==◌, List, [], ◌∷◌, ◌++◌, Option, Some, None, is_none, nat_lt, if◌then◌else◌}
use Rattle.lnfs_policy.specs.Policy.{Policy}
use Rattle.lnfs_gss3.specs.Mechanism.{Signing}
use Rattle.lnfs_arguments.specs.declared.types.Sequence.{Sequence}
use Rattle.lnfs_arguments.specs.declared.types.Op.{Op}
use Rattle.lnfs_arguments.specs.declared.types.Op.TheVariants as ops
use Rattle.lnfs_results.specs.declared.types.OpResult.TheVariants as results
use Rattle.lnfs_answers.specs.declared.types.Told.{Told}
use Rattle.lnfs_answers.specs.declared.types.Told.TheVariants as told
use Rattle.lnfs_answers.specs.declared.request.Heard.{Heard}
use Rattle.lnfs_answers.specs.declared.request.Heard.TheVariants as heards
use Rattle.lnfs_asking.specs.declared.plan.Plan.{Plan}
use Rattle.lnfs_asking.specs.declared.plan.Plan.TheVariants.{Assert, Ask, End}
use Rattle.lnfs_client.specs.declared.stage.Stage.{Stage}
use Rattle.lnfs_client.specs.declared.stage.Stage.TheVariants.{Creating}
use Rattle.lnfs_client.specs.declared.known.Known.{Known}
use Rattle.lnfs_client.specs.declared.known.Running.{Running}
use Rattle.lnfs_client.specs.Told.{last_in}
use Rattle.lnfs_client.specs.Requests.{plan}
use Rattle.lnfs_client.specs.Machine.{heard_by}
use Rattle.lnfs_client.specs.Runs.{Deed, begins, asks, takes, most_requests, after}

-- ---- a request

-- the SEQUENCE with which operations begin
abbrev pub sequence_in : List Op → List Sequence
sequence_in (ops.Sequence s ∷ more) = s ∷ []
sequence_in asked = []

abbrev pub sequence_of : Plan → List Sequence
sequence_of (Ask asked) = sequence_in asked
sequence_of (Assert label) = []
sequence_of End = []

-- what the next request uses, ahead of what earlier ones have used
abbrev pub used_by : Policy → Known → Option Running → List Sequence → List Sequence
used_by p k None earlier = earlier
used_by p k (Some r) earlier = if is_none r.awaited then sequence_of (plan p k r) ++ earlier else earlier

-- ---- a record that comes

abbrev pub tells_session : Option Told → Bool
tells_session (Some (told.Other (results.CreateSession session sequence flags fore back))) = true
tells_session last = false

abbrev pub makes_at : Stage → Option Told → Bool
makes_at Creating last = tells_session last
makes_at stage last = false

-- whether it is the answer to a CREATE_SESSION, which tells a new session
abbrev pub makes_session_in : Stage → Heard → Bool
makes_session_in stage (heards.Said s) = s.status == 0 && makes_at stage (last_in s.results)
makes_session_in stage heard = false

abbrev pub makes_session : Option Running → Heard → Bool
makes_session None heard = false
makes_session (Some r) heard = makes_session_in r.stage heard

-- ---- a run

abbrev pub used_after : Signing → Policy → Known → Deed → List Sequence → List Sequence
used_after m p k (begins action) earlier = earlier
used_after m p k asks earlier = if nat_lt k.sent most_requests then used_by p k k.running earlier else earlier
used_after m p k (takes bytes) earlier = if makes_session k.running (heard_by m p k bytes) then [] else earlier

-- What the requests of a run have used since the latest session was made, the latest first. A new session has a slot of its own,
-- whatever the server calls it.
unfoldable pub used : Signing → Policy → Known → List Deed → List Sequence → List Sequence
used m p k [] earlier = earlier
used m p k (deed ∷ deeds) earlier = used m p (after m p k deed) deeds (used_after m p k deed earlier)

-- Both are of one slot of one session, and the later has the higher number.
pub record Follows (later earlier : Sequence) : Type 0 where
  pub session : later.session ≡ earlier.session
  pub slot : later.slot ≡ earlier.slot
  pub number : earlier.sequence < later.sequence
