-- What is due of an audit: recorded replies, judged under the policy of a name.
use Rattle.std.specs.Prelude.{◌≡◌, ℕ, Bool, true, false, cond, List, [], ◌∷◌, ◌++◌, codes, All, Result, Ok, Err}
use Rattle.std.specs.Fmt.{decimal}
use Rattle.std.specs.Global.{Vec}
use Rattle.lnfs_types.specs.declared.event.Event.{Event}
use Rattle.lnfs_types.specs.Moments.{Fits}
use Rattle.lnfs_policy.specs.Policy.{Policy}
use Rattle.lnfs_policy.specs.PolicyText.{policy_of}
use Rattle.lnfs_policy.specs.declared.mode.Mode.{Mode}
use Rattle.lnfs_policy.specs.declared.mode.Mode.TheVariants.{Enforcing, Limited}
use Rattle.lnfs_gss3.specs.Mechanism.{keyed_digest}
use Rattle.lnfs_traffic.specs.Parts.{recorded, is_recording, place_of}
use Rattle.lnfs_audit.specs.declared.finding.Finding.{Finding}
use Rattle.lnfs_audit.specs.declared.finding.Finding.TheVariants.{Faithful, Differs, Surplus}
use Rattle.lnfs_audit.specs.Found.{found_of}
use Rattle.lnfs_audit.specs.Replies.{answers_to}
use Rattle.lnfs_stage.specs.declared.ending.Ending.TheVariants.{Usage, TrafficDamaged}
use Rattle.lnfs_stage.specs.declared.stop.Stop.{Stop}
use Rattle.lnfs_stage.specs.declared.stop.Stop.TheVariants as stop
use Rattle.lnfs_stage.specs.Due.{Due, ends, given}
use Rattle.lnfs_stage.specs.Contents.{Contents, first, others}
use Rattle.lnfs_commands.specs.Commands.{judged, shown}
use Rattle.lnfs_further.specs.Further.{further}

-- ---- what is shown

-- a finding, in words
abbrev pub finding_line : Finding → List ℕ
finding_line (Faithful events) = codes "faithful " ++ decimal events ++ 10 ∷ []
finding_line (Differs event) = codes "differs " ++ decimal event ++ 10 ∷ []
finding_line (Surplus at) = codes "surplus " ++ decimal at ++ 10 ∷ []

-- What is found of recorded replies to events, by the answers that are due: each is the reply that its requester would get
-- with every event outside its dominance purged. It is the finding of the laws `one_finding` and `some_finding`.
abbrev pub finding_of : Policy → List Event → (records : List ℕ) → Finding
finding_of p events records = found_of (answers_to further keyed_digest p events) records

abbrev pub found_due : Policy → List Event → (records : List ℕ) → Due
found_due p events records = shown (finding_line (finding_of p events records))

-- ---- what is due

-- the events of a text, where it is a recording
abbrev pub events_in : (traffic : List ℕ) → (List Event → Due) → Due
events_in traffic next = cond (is_recording traffic) (next (recorded traffic)) (ends (TrafficDamaged (place_of traffic)))

-- replies are told level by level where the server enforces the labels
abbrev pub is_permitted : (purged : Bool) → Mode → Bool
is_permitted false mode = true
is_permitted true Enforcing = true
is_permitted true Limited = false

abbrev pub permitted : (purged : Bool) → Mode → Due → Due
permitted purged mode next = cond (is_permitted purged mode) next (ends Usage)

-- the replies of a name, to events
abbrev pub compared : Policy → List Event → (replies : List ℕ) → Contents → Due
compared p events replies files = given (first files) replies (λ records. found_due p events records)

-- the replies of a name, to the recording of a name
abbrev pub audited : Policy → (traffic replies : List ℕ) → Contents → Due
audited p traffic replies files = given (first files) traffic (λ text. events_in text (λ events. compared p events replies (others files)))

-- Under the policy of a name. Each file is judged before the next one is read, and nothing is shown but the finding.
abbrev pub audit_due : (policy traffic replies : List ℕ) → (purged : Bool) → Contents → Due
audit_due policy traffic replies purged files = given (first files) policy (λ text. judged (policy_of text) (λ p.
    permitted purged p.mode (audited p traffic replies (others files))))

-- ---- what calls answer

-- the events that are recorded in a text, or where it is damaged
abbrev pub IsRead : Result (Vec Event) Stop → (traffic : List ℕ) → Type 0
IsRead (Ok events) traffic = (is_recording traffic ≡ true) × (events.items ≡ recorded traffic) × All Fits events.items
IsRead (Err (stop.Ends ending)) traffic = (is_recording traffic ≡ false) × (ending ≡ TrafficDamaged (place_of traffic))
IsRead (Err stop.Memory) traffic = Unit {0}
IsRead (Err stop.ReadFault) traffic = ⊥
IsRead (Err stop.WriteFault) traffic = ⊥
IsRead (Err stop.NetFault) traffic = ⊥

-- this finding, unless there was no memory
abbrev pub IsFound : Result Finding Stop → Finding → Type 0
IsFound (Ok finding) found = finding ≡ found
IsFound (Err cause) found = cause ≡ stop.Memory
