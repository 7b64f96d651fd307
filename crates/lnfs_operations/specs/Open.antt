-- OPEN (RFC 8881 section 18.16): of a name in the current directory, or of the current file.
use Rattle.std.specs.Prelude.{ℕ, ◌==◌, ◌%◌, ◌&&◌, ◌||◌, Bool, true, false, not, cond, List, [], ◌∷◌, ◌++◌, Option, Some, None, is_some, count_by, nat_le, nat_lt}
use Rattle.std.specs.List.{find}
use Rattle.std.specs.Str.{bytes_eq}
use Rattle.lnfs_attrs.specs.declared.bitmap.Bitmap.{Bitmap}
use Rattle.lnfs_attrs.specs.declared.raw.RawAttrs.{RawAttrs}
use Rattle.lnfs_attrs.specs.declared.numbers.TheConstants.{SIZE}
use Rattle.lnfs_attrs.specs.Bitmaps.{has_attr}
use Rattle.lnfs_arguments.specs.declared.stateid.StateId.{StateId}
use Rattle.lnfs_arguments.specs.declared.stateid.Cinfo.{Cinfo}
use Rattle.lnfs_arguments.specs.declared.types.Making.{Making}
use Rattle.lnfs_arguments.specs.declared.types.Making.TheVariants.{Unchecked, Guarded, Exclusive}
use Rattle.lnfs_arguments.specs.declared.types.Claim.{Claim}
use Rattle.lnfs_arguments.specs.declared.types.Claim.TheVariants.{Name, Handle}
use Rattle.lnfs_arguments.specs.declared.statuses.TheConstants.{NFS4ERR_NOENT, NFS4ERR_EXIST, NFS4ERR_INVAL, NFS4ERR_NOSPC, NFS4ERR_SHARE_DENIED, NFS4ERR_OP_NOT_IN_SESSION}
use Rattle.lnfs_world.specs.declared.numbers.TheConstants.{OPENS_OF_A_LEVEL}
use Rattle.lnfs_world.specs.World.{Id, File, Node, Open, World, node_at}
use Rattle.lnfs_world.specs.Names.{entry_at}
use Rattle.lnfs_world.specs.Change.{Change, Touch, Make, AddOpen, SetOpen}
use Rattle.lnfs_world.specs.Facts.{same_opening}
use Rattle.lnfs_world.specs.Effects.{name_added, next_entry, has_number, next_id, data_changed}
use Rattle.lnfs_world.specs.Leases.{over_at}
use Rattle.lnfs_world.specs.Opens.{has_any, that_give_way, ended}
use Rattle.lnfs_world.specs.Opens as opens
use Rattle.lnfs_world.specs.Outcome.{Site, Place, Outcome, Act}
use Rattle.lnfs_monitor.specs.Rules as rules
use Rattle.lnfs_operations.specs.declared.Gate.TheVariants as gates
use Rattle.lnfs_operations.specs.declared.numbers.TheConstants.{FILE_MODE, OPEN4_SHARE_ACCESS_READ, OPEN4_SHARE_ACCESS_WRITE, OPEN4_SHARE_ACCESS_BOTH}
use Rattle.lnfs_operations.specs.Chain.{Answer, refuse, done, demand, where_there}
use Rattle.lnfs_operations.specs.Judged.{where_allowed, where_asked}
use Rattle.lnfs_operations.specs.Handles.{with_current}
use Rattle.lnfs_operations.specs.Names.{where_named}
use Rattle.lnfs_operations.specs.NewNames.{where_directory, changed, unchanged}
use Rattle.lnfs_operations.specs.Shown.{bitmap_of}
use Rattle.lnfs_operations.specs.Given.{where_values, where_mode, GivenLabel, where_label, level_or, kept_label, set_of}
use Rattle.lnfs_operations.specs.Create.{new_inner, has_room}
use Rattle.lnfs_operations.specs.StateIds.{state_of}
use Rattle.lnfs_operations.specs.Files.{where_file}

-- what the operation looks at of its arguments: neither the sequence nor the client id
pub record Arguments : Type 0 where
  pub access : ℕ
  pub deny : ℕ
  pub owner : List ℕ
  -- how a file is made, if it is to be
  pub making : Option Making
  pub claim : Claim

pub record Opened : Type 0 where
  pub id : StateId
  pub info : Cinfo
  -- the attributes that were set
  pub set : Bitmap

-- The share access is the low two bits of its word; the others want delegations, which aren't given.
abbrev pub access_of : Arguments → ℕ
access_of args = args.access % 4

-- ---- the attributes of a file that is made

-- what is wanted of a file by the attributes that come with it
pub record Wanted : Type 0 where
  -- a size of 0 was given
  pub sized : Bool
  pub mode : Option ℕ
  pub label : Option GivenLabel
  -- all that were given
  pub set : Bitmap

abbrev pub attrs_of : Making → RawAttrs
attrs_of (Unchecked attrs) = attrs
attrs_of (Guarded attrs) = attrs
attrs_of (Exclusive verifier attrs) = attrs

abbrev pub verifier_of : Making → Option (List ℕ)
verifier_of (Unchecked attrs) = None
verifier_of (Guarded attrs) = None
verifier_of (Exclusive verifier attrs) = Some verifier

abbrev pub no_bits : Bitmap
no_bits = bitmap_of (λ n. false)

abbrev pub nothing_wanted : Wanted
nothing_wanted = record { sized = false; mode = None; label = None; set = no_bits }

-- a file begins without bytes, so that no other size can be given
abbrev pub is_no_size : Option ℕ → Bool
is_no_size None = true
is_no_size (Some size) = size == 0

abbrev pub where_wanted : {R : Type 0} → Site → Place → Option Making → (Wanted → Outcome (Answer R)) → Outcome (Answer R)
where_wanted site p None next = next nothing_wanted
where_wanted site p (Some making) next =
    where_values p (attrs_of making) (λ values.
    demand (is_no_size values.size) (refuse p gates.Argument NFS4ERR_INVAL) (
    where_mode p values.mode (
    where_label site p values.label (λ label.
    next (record { sized = is_some values.size; mode = values.mode; label = label; set = set_of (attrs_of making) })))))

-- ---- opens

-- whether a size is among the attributes
abbrev pub gives_size : Option Making → Bool
gives_size None = false
gives_size (Some making) = has_attr (attrs_of making).mask SIZE

abbrev pub is_of_handle : Claim → Bool
is_of_handle (Name name) = false
is_of_handle Handle = true

abbrev pub where_claim : {R : Type 0} → Place → Claim → Outcome (Answer R) → Outcome (Answer R)
where_claim p (Name name) next = where_named p name next
where_claim p Handle next = next

-- the open that is asked, as it is where it is a new one
abbrev pub new_open : Arguments → Place → World → (client : ℕ) → (node : Id) → Open
new_open args p w client node = record {
  id = next_id w.lasts.opens p.subject;
  client = client;
  owner = args.owner;
  node = node;
  access = access_of args;
  deny = args.deny;
  sequence = 1;
}

-- what the client and the owner have open of a node already
abbrev pub own_open : Arguments → Place → World → (client : ℕ) → (node : Id) → Option Open
own_open args p w client node = find (same_opening (new_open args p w client node)) w.opens

-- with what is asked in addition
abbrev pub joined : Arguments → Open → Open
joined args o = opens.joined (access_of args) args.deny o

-- who opens: a client of the subject's level, and an owner
abbrev pub opener : Arguments → Place → (client : ℕ) → Id × List ℕ
opener args p client = (record { level = p.subject; number = client }, args.owner)

-- whether another's open stands in the way of what is asked (RFC 8881 section 9.7)
abbrev pub conflicts : Site → Arguments → Place → World → (client : ℕ) → Node → Bool
conflicts site args p w client n =
    opens.conflicts site.dom p.subject (Some (opener args p client)) n.id (access_of args) args.deny (over_at w.clients p.moment) w.opens

-- Opens of the subject's own level that give way end (RFC 8881 section 8.4.3). Those of other levels stay.
abbrev pub passed_over : Arguments → Place → World → (client : ℕ) → Node → List Open
passed_over args p w client n =
    that_give_way p.subject (opener args p client) n.id (access_of args) args.deny (over_at w.clients p.moment) w.opens

-- whether the subject's level may have one more open, and has a number for it
abbrev pub has_open_left : Place → World → Bool
has_open_left p w = nat_lt (count_by (λ o. o.id.level == p.subject) w.opens) OPENS_OF_A_LEVEL && has_number w.lasts.opens p.subject

-- the rules of labels for what an open is for, and what it denies
abbrev pub where_shared : {R : Type 0} → Site → Place → Arguments → (label : ℕ) → Outcome (Answer R) → Outcome (Answer R)
where_shared site p args label next =
    where_asked (has_any (access_of args) OPEN4_SHARE_ACCESS_READ) site p (rules.Read label) (
    where_asked (has_any (access_of args) OPEN4_SHARE_ACCESS_WRITE) site p (rules.Write label) (
    where_asked (not (args.deny == 0)) site p (rules.Deny label) next))

-- ---- a new file

abbrev pub file_mode : Option ℕ → ℕ
file_mode None = FILE_MODE
file_mode (Some mode) = mode

abbrev pub new_file : Site → Place → World → Making → Wanted → (directory : Node) → Node
new_file site p w making wanted d = record {
  id = next_id w.lasts.nodes d.label;
  kind = File;
  label = level_or d.label wanted.label;
  verifier = verifier_of making;
  inner = new_inner p.moment (kept_label site p d wanted.label) (file_mode wanted.mode) [];
}

abbrev pub made : Arguments → Place → World → (client : ℕ) → (directory : Node) → (name : List ℕ) → (set : Bitmap) → Node → Outcome (Answer Opened)
made args p w client d name set n =
    let o = new_open args p w client n.id in
    done (record p { current = Some n.id }) (record { id = state_of o; info = changed d; set = set }) (
    Touch d.id (name_added p.moment d.inner) ∷ Make n (next_entry d name n.id) ∷ AddOpen o ∷ [])

abbrev pub open_absent : Site → Arguments → Place → World → (client : ℕ) → (directory : Node) → (name : List ℕ) → Wanted → Option Making → Outcome (Answer Opened)
open_absent site args p w client d name wanted None = refuse p gates.Namespace NFS4ERR_NOENT
open_absent site args p w client d name wanted (Some making) =
    where_allowed site p (rules.Change d.label) (
    where_allowed site p (rules.Child d.label (level_or d.label wanted.label)) (
    where_shared site p args (level_or d.label wanted.label) (
    demand (has_room site w d) (refuse p gates.Quota NFS4ERR_NOSPC) (
    demand (has_open_left p w) (refuse p gates.Quota NFS4ERR_NOSPC) (
    made args p w client d name wanted.set (new_file site p w making wanted d))))))

-- ---- a file that is there

abbrev pub has_verifier : List ℕ → Option (List ℕ) → Bool
has_verifier verifier None = false
has_verifier verifier (Some kept) = bytes_eq kept verifier

-- A guarded create finds no file, and an exclusive one only that which it made itself (RFC 8881 section 18.16.3).
abbrev pub may_be_there : Option Making → Node → Bool
may_be_there None n = true
may_be_there (Some (Unchecked attrs)) n = true
may_be_there (Some (Guarded attrs)) n = false
may_be_there (Some (Exclusive verifier attrs)) n = has_verifier verifier n.verifier

-- a size that is given cuts the file
abbrev pub cut : Place → Wanted → Node → List Change
cut p wanted n = cond wanted.sized (Touch n.id (data_changed p.moment [] n.inner) ∷ []) []

abbrev pub opened_with : Place → Wanted → Node → Cinfo → Open → List Change → Outcome (Answer Opened)
opened_with p wanted n info o changes =
    done (record p { current = Some n.id }) (record { id = state_of o; info = info; set = bitmap_of (λ attr. wanted.sized && attr == SIZE) }) (
    cut p wanted n ++ changes)

-- The open of the client and the owner is joined, or there is a new one, for which there is room beside those that end.
abbrev pub opened : Arguments → Place → World → (client : ℕ) → Wanted → Cinfo → Node → Option Open → Outcome (Answer Opened)
opened args p w client wanted info n (Some o) = opened_with p wanted n info (joined args o) (SetOpen (joined args o) ∷ ended (passed_over args p w client n))
opened args p w client wanted info n None =
    demand (has_open_left p w) (refuse p gates.Quota NFS4ERR_NOSPC) (
    let o = new_open args p w client n.id in
    opened_with p wanted n info o (AddOpen o ∷ ended (passed_over args p w client n)))

abbrev pub open_present : Site → Arguments → Place → World → (client : ℕ) → Wanted → Cinfo → Node → Outcome (Answer Opened)
open_present site args p w client wanted info n =
    where_file p n (
    demand (may_be_there args.making n) (refuse p gates.Namespace NFS4ERR_EXIST) (
    where_shared site p args n.label (
    where_asked wanted.sized site p (rules.Write n.label) (
    demand (not (conflicts site args p w client n)) (refuse p gates.Open NFS4ERR_SHARE_DENIED) (
    opened args p w client wanted info n (own_open args p w client n.id))))))

-- ---- the operation

abbrev pub open_name : Site → Arguments → Place → World → (client : ℕ) → Wanted → (name : List ℕ) → Outcome (Answer Opened)
open_name site args p w client wanted name =
    with_current p w (λ d.
    where_directory p d (
    where_allowed site p (rules.Read d.label) (
    where_there (entry_at w.entries d.id name)
    (λ e. where_there (node_at w.nodes e.node) (open_present site args p w client wanted (unchanged d)) (refuse p gates.Namespace NFS4ERR_NOENT))
    (open_absent site args p w client d name wanted args.making))))

-- no directory changes
abbrev pub no_change : Cinfo
no_change = record { before = 0; after = 0 }

abbrev pub open_claimed : Site → Arguments → Place → World → (client : ℕ) → Wanted → Claim → Outcome (Answer Opened)
open_claimed site args p w client wanted (Name name) = open_name site args p w client wanted name
open_claimed site args p w client wanted Handle = with_current p w (open_present site args p w client wanted no_change)

abbrev pub open_file : Site → Arguments → Act (Answer Opened)
open_file site args p w =
    where_there p.client
    (λ client.
    demand (not (access_of args == 0)) (refuse p gates.Argument NFS4ERR_INVAL) (
    demand (nat_le args.deny OPEN4_SHARE_ACCESS_BOTH) (refuse p gates.Argument NFS4ERR_INVAL) (
    demand (not (is_of_handle args.claim && is_some args.making)) (refuse p gates.Argument NFS4ERR_INVAL) (
    demand (not (gives_size args.making) || has_any (access_of args) OPEN4_SHARE_ACCESS_WRITE) (refuse p gates.Argument NFS4ERR_INVAL) (
    where_claim p args.claim (
    where_wanted site p args.making (λ wanted.
    open_claimed site args p w client wanted args.claim)))))))
    (refuse p gates.Session NFS4ERR_OP_NOT_IN_SESSION)
