-- The request of each stage, a line each (RFC 8881 section 18). Slot 0 alone is used; state ids are anonymous, but CLOSE sends the one that its OPEN gave.
use Rattle.std.specs.Prelude.{ℕ, ◌-◌, Bool, true, false, List, [], ◌∷◌, ◌++◌, length, take, map, replicate, Some, None, unwrap_or, slice_get}
use Rattle.lnfs_policy.specs.Policy.{Policy}
use Rattle.lnfs_attrs.specs.Bitmaps.{no_attributes}
use Rattle.lnfs_attrs.specs.declared.raw.RawAttrs.{RawAttrs}
use Rattle.lnfs_arguments.specs.declared.channel.Channel.{Channel}
use Rattle.lnfs_arguments.specs.declared.stateid.StateId.{StateId}
use Rattle.lnfs_arguments.specs.declared.types.What.TheVariants.{Dir}
use Rattle.lnfs_arguments.specs.declared.types.Making.TheVariants.{Guarded}
use Rattle.lnfs_arguments.specs.declared.types.Claim.TheVariants.{Name}
use Rattle.lnfs_arguments.specs.declared.types.Op.{Op}
use Rattle.lnfs_arguments.specs.declared.types.Op.TheVariants as ops
use Rattle.lnfs_script.specs.declared.action.Action.{Action}
use Rattle.lnfs_script.specs.declared.action.Action.TheVariants as actions
use Rattle.lnfs_script.specs.Paths.{components}
use Rattle.lnfs_asking.specs.Labels.{spelled, unspelled, label_alone, error_and_label, as_attributes}
use Rattle.lnfs_asking.specs.declared.plan.Plan.{Plan}
use Rattle.lnfs_asking.specs.declared.plan.Plan.TheVariants.{Assert, Ask, End}
use Rattle.lnfs_client.specs.declared.stage.Stage.{Stage}
use Rattle.lnfs_client.specs.declared.stage.Stage.TheVariants.{Asserting, Exchanging, Creating, Reclaiming, Asking, Changing, Closing, EndingSession, EndingClient, EndingContext}
use Rattle.lnfs_client.specs.declared.known.Known.{Known}
use Rattle.lnfs_client.specs.declared.known.Running.{Running}

-- ---- parts

-- both channels of the session
abbrev pub channel : Channel
channel = record { headerpad = 0; maxrequest = 65536; maxresponse = 65536; cached = 65536; operations = 32; requests = 16; ird = None }

-- the anonymous state id (RFC 8881 section 8.2.3)
abbrev pub anonymous : StateId
anonymous = record { seqid = 0; other = replicate 12 0 }

abbrev pub no_attrs : RawAttrs
no_attrs = record { mask = no_attributes; list = [] }

-- the most bytes of the entries of one READDIR
abbrev pub listing_size : ℕ
listing_size = 32768

-- how a WRITE is to be kept: FILE_SYNC4
abbrev pub file_sync : ℕ
file_sync = 2

-- OPEN4_SHARE_ACCESS_WRITE
abbrev pub access_write : ℕ
access_write = 2

-- each COMPOUND in the session begins so
abbrev pub in_session : Known → Op
in_session k = ops.Sequence (record { session = k.session; sequence = k.sequence; slot = 0; highest = 0; cachethis = true })

-- the walk to a node, a name after the other
abbrev pub walk : List (List ℕ) → List Op
walk names = ops.PutRootFh ∷ map ops.Lookup names

-- ---- the names of an action

abbrev pub path_of : Action → List ℕ
path_of actions.Mount = []
path_of (actions.List path) = path
path_of (actions.Read path offset count) = path
path_of (actions.Write path offset content) = path
path_of (actions.Make path) = path
path_of (actions.Mkdir path level) = path
path_of (actions.Remove path) = path
path_of (actions.Raise path level) = path
path_of actions.Leave = []

-- whether it acts on the directory in which the last name stands, or is to stand
abbrev pub is_on_parent : Action → Bool
is_on_parent (actions.Make path) = true
is_on_parent (actions.Mkdir path level) = true
is_on_parent (actions.Remove path) = true
is_on_parent action = false

abbrev pub names_of : Action → List (List ℕ)
names_of action = components (path_of action)

abbrev pub last_name : Action → List ℕ
last_name action = unwrap_or (slice_get (names_of action) (length (names_of action) - 1)) []

-- the walk to the node that the action is enforced on
abbrev pub walked : (on_parent : Bool) → List (List ℕ) → List (List ℕ)
walked true names = take (length names - 1) names
walked false names = names

abbrev pub to_target : Action → List Op
to_target action = walk (walked (is_on_parent action) (names_of action))

-- ---- what is asked at the target, and what is changed there

abbrev pub asking : Action → (cookie : ℕ) → List Op
asking (actions.List path) cookie = ops.GetAttr label_alone ∷ ops.ReadDir cookie (replicate 8 0) listing_size listing_size error_and_label ∷ []
asking (actions.Read path offset count) cookie = ops.GetAttr label_alone ∷ ops.Read anonymous offset count ∷ []
asking action cookie = ops.GetAttr label_alone ∷ []

abbrev pub change : Policy → Known → Action → List Op
change p k (actions.Write path offset content) = ops.Write anonymous offset file_sync content ∷ []
change p k (actions.Make path) = ops.Open 0 access_write 0 k.client k.owner (Some (Guarded no_attrs)) (Name (last_name (actions.Make path))) ∷ []
change p k (actions.Mkdir path level) = ops.Create Dir (last_name (actions.Mkdir path level)) (as_attributes (spelled p level.0)) ∷ []
change p k (actions.Remove path) = ops.Remove (last_name (actions.Remove path)) ∷ []
change p k (actions.Raise path level) = ops.SetAttr anonymous (as_attributes (spelled p level.0)) ∷ []
change p k action = []

-- the label that was read, in its one spelling with zero pad bytes
abbrev pub guard : Running → Op
guard r = ops.Verify (as_attributes (unwrap_or r.label unspelled))

-- ---- the table

unfoldable pub ops_of : Policy → Known → Running → Stage → List Op
ops_of p k r Asserting = []
ops_of p k r Exchanging = ops.ExchangeId (replicate 8 0) k.owner 0 None ∷ []
ops_of p k r Creating = ops.CreateSession (record { client = k.client; sequence = k.creating; flags = 0; fore = channel; back = channel; program = 0; callbacks = [] }) ∷ []
ops_of p k r Reclaiming = in_session k ∷ ops.ReclaimComplete false ∷ []
ops_of p k r Asking = in_session k ∷ to_target r.action ++ asking r.action r.cookie
ops_of p k r Changing = in_session k ∷ to_target r.action ++ guard r ∷ change p k r.action
ops_of p k r Closing = in_session k ∷ walk (names_of r.action) ++ ops.Close 0 r.opened ∷ []
ops_of p k r EndingSession = ops.DestroySession k.session ∷ []
ops_of p k r EndingClient = ops.DestroyClientId k.client ∷ []
ops_of p k r EndingContext = []

abbrev pub plan_in : Policy → Known → Running → Stage → Plan
plan_in p k r Asserting = Assert (spelled p k.level.0)
plan_in p k r EndingContext = End
plan_in p k r stage = Ask (ops_of p k r stage)

abbrev pub plan : Policy → Known → Running → Plan
plan p k r = plan_in p k r r.stage
