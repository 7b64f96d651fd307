-- What an operation of the table is refused with.
use Rattle.std.proofs.Common.{◌≡◌, ℕ, Bool, true, false, cond, not, ◌&&◌, List, Option, Some, None, Ok, Err, refl}
use Rattle.std.specs.Prelude.{◌==◌, Result}
use Rattle.lnfs_arguments.specs.declared.types.Op.{Op}
use Rattle.lnfs_arguments.specs.declared.types.Op.TheVariants as ops
use Rattle.lnfs_arguments.specs.declared.types.CreateSession.{CreateSession}
use Rattle.lnfs_arguments.specs.declared.types.Sequence.{Sequence}
use Rattle.lnfs_arguments.specs.declared.stateid.StateId.{StateId}
use Rattle.lnfs_arguments.specs.declared.types.What.{What}
use Rattle.lnfs_arguments.specs.declared.statuses.TheConstants.{NFS4ERR_STALE}
use Rattle.lnfs_monitor.specs.declared.rule.Rule.TheVariants.{M8}
use Rattle.lnfs_world.specs.World.{Stored, Node, Entry, World}
use Rattle.lnfs_world.specs.Change.{Change}
use Rattle.lnfs_world.specs.Outcome.{LabelRead, LevelOf, WrongFormat, BadLabel, Site, Place, Outcome}
use Rattle.lnfs_operations.specs.declared.Gate.{Gate}
use Rattle.lnfs_operations.specs.declared.Gate.TheVariants as gates
use Rattle.lnfs_operations.specs.Chain.{Answer, Done, Refused, refuse, done, where_there}
use Rattle.lnfs_operations.specs.ExchangeId.{Arguments, exchange_id}
use Rattle.lnfs_operations.specs.CreateSession.{create_session}
use Rattle.lnfs_operations.specs.DestroySession.{destroy_session}
use Rattle.lnfs_operations.specs.DestroyClientId.{destroy_clientid}
use Rattle.lnfs_operations.specs.ReclaimComplete.{reclaim_complete}
use Rattle.lnfs_operations.specs.Sequence.{Sent, sequence}
use Rattle.lnfs_operations.specs.FileHandles.{put_fh, get_fh, save_fh, restore_fh}
use Rattle.lnfs_operations.specs.Lookup.{lookup, lookup_parent}
use Rattle.lnfs_operations.specs.GetAttr.{get_attr, verify, nverify}
use Rattle.lnfs_operations.specs.Access.{access}
use Rattle.lnfs_operations.specs.ReadDir.{Listed, finished, read_dir}
use Rattle.lnfs_operations.specs.ReadLink.{read_link}
use Rattle.lnfs_operations.specs.Create.{create}
use Rattle.lnfs_operations.specs.Link.{link}
use Rattle.lnfs_operations.specs.Remove.{remove}
use Rattle.lnfs_operations.specs.Rename.{Mover, moved_onto, rename}
use Rattle.lnfs_operations.specs.SetAttr.{where_size, set_on, set_attr}
use Rattle.lnfs_operations.specs.Open.{Arguments as OpenArguments, Wanted, nothing_wanted, where_wanted, where_claim, where_shared, open_absent, opened, open_present, open_claimed, open_file}
use Rattle.lnfs_arguments.specs.declared.types.Making.{Making}
use Rattle.lnfs_arguments.specs.declared.types.Claim.{Claim}
use Rattle.lnfs_arguments.specs.declared.types.Claim.TheVariants.{Name, Handle}
use Rattle.lnfs_operations.specs.Given.{where_parsed, where_read, where_label, GivenLabel, spelled_by}
use Rattle.lnfs_operations.specs.StateIds.{Special, Anonymous, Bypass, Current, Way, Reading, Writing, where_usable_by}
use Rattle.lnfs_operations.specs.Close.{close}
use Rattle.lnfs_operations.specs.Read.{read}
use Rattle.lnfs_operations.specs.Write.{write, commit}
use Rattle.lnfs_step.specs.Lines.{is_denied_by}

-- A gate refuses with a status of its own, and never with 0.
abbrev pub is_denial : Gate → ℕ → Bool
is_denial gate status = not (status == 0) && is_denied_by gate status

-- an operation that is outside is refused with a status of its gate
abbrev pub OutsideIs : Op → Type 0
OutsideIs (ops.Outside number status) = is_denial gates.Outside status ≡ true
OutsideIs op = Unit {0}

abbrev pub IsDenial : {R : Type 0} → Answer R → Type 0
IsDenial (Done r) = Unit {0}
IsDenial (Refused why) = is_denial why.gate why.status ≡ true

pub record Denies {R : Type 0} (o : Outcome (Answer R)) : Type 0 where
  pub is : IsDenial o.answer

-- ---- chains of tests

done_denies : {R : Type 0} (q : Place) (r : R) (changes : List Change) → Denies (done q r changes)
done_denies q r changes = record { is = tt }

refuse_denies : {R : Type 0} (p : Place) (gate : Gate) (status : ℕ) → is_denial gate status ≡ true → Denies {R = R} (refuse p gate status)
refuse_denies p gate status is = record { is = is }

cond_denies : {R : Type 0} (b : Bool) (x y : Outcome (Answer R)) → Denies x → Denies y → Denies (cond b x y)
cond_denies true x y a b = a
cond_denies false x y a b = b

where_denies : {X R : Type 0} (o : Option X) (found : X → Outcome (Answer R)) (absent : Outcome (Answer R)) → ((x : X) → Denies (found x)) → Denies absent → Denies (where_there o found absent)
where_denies None found absent a b = b
where_denies (Some x) found absent a b = a x

ruleset walk = (where_denies, cond_denies, done_denies, refuse_denies)

-- ---- operations

pub exchange_id_denies : (args : Arguments) (p : Place) (w : World) → Denies (exchange_id args p w)
exchange_id_denies args p w = search walk depth 40 fits 4000

pub destroy_session_denies : (session : List ℕ) (p : Place) (w : World) → Denies (destroy_session session p w)
destroy_session_denies session p w = search walk depth 40 fits 4000

pub destroy_clientid_denies : (client : ℕ) (p : Place) (w : World) → Denies (destroy_clientid client p w)
destroy_clientid_denies client p w = search walk depth 40 fits 4000

pub reclaim_complete_denies : (one_fs : Bool) (p : Place) (w : World) → Denies (reclaim_complete one_fs p w)
reclaim_complete_denies one_fs p w = search walk depth 40 fits 4000

-- a node of a home that isn't dominated is stale, by a rule of labels or without one
home_denies : {R : Type 0} (limited : Bool) (p : Place) → Denies {R = R} (refuse p (cond limited gates.Namespace (gates.Monitor M8)) NFS4ERR_STALE)
home_denies true p = record { is = refl }
home_denies false p = record { is = refl }

pub put_fh_denies : (site : Site) (handle : List ℕ) (p : Place) (w : World) → Denies (put_fh site handle p w)
put_fh_denies site handle p w = search (home_denies, walk) depth 40 fits 4000

pub get_fh_denies : (p : Place) (w : World) → Denies (get_fh p w)
get_fh_denies p w = search walk depth 40 fits 4000

pub save_fh_denies : (p : Place) (w : World) → Denies (save_fh p w)
save_fh_denies p w = search walk depth 40 fits 4000

pub restore_fh_denies : (p : Place) (w : World) → Denies (restore_fh p w)
restore_fh_denies p w = search walk depth 40 fits 4000

pub lookup_denies : (site : Site) (name : List ℕ) (p : Place) (w : World) → Denies (lookup site name p w)
lookup_denies site name p w = search walk depth 40 fits 4000

pub lookup_parent_denies : (site : Site) (p : Place) (w : World) → Denies (lookup_parent site p w)
lookup_parent_denies site p w = search walk depth 40 fits 4000

pub get_attr_denies : (site : Site) (asked : _) (p : Place) (w : World) → Denies (get_attr site asked p w)
get_attr_denies site asked p w = search walk depth 40 fits 4000

pub verify_denies : (site : Site) (given : _) (p : Place) (w : World) → Denies (verify site given p w)
verify_denies site given p w = search walk depth 40 fits 4000

pub nverify_denies : (site : Site) (given : _) (p : Place) (w : World) → Denies (nverify site given p w)
nverify_denies site given p w = search walk depth 40 fits 4000

pub access_denies : (site : Site) (bits : ℕ) (p : Place) (w : World) → Denies (access site bits p w)
access_denies site bits p w = search walk depth 40 fits 4000

pub read_link_denies : (site : Site) (p : Place) (w : World) → Denies (read_link site p w)
read_link_denies site p w = search walk depth 40 fits 4000

pub link_denies : (site : Site) (name : List ℕ) (p : Place) (w : World) → Denies (link site name p w)
link_denies site name p w = search walk depth 40 fits 4000

pub remove_denies : (site : Site) (name : List ℕ) (p : Place) (w : World) → Denies (remove site name p w)
remove_denies site name p w = search walk depth 40 fits 4000

pub commit_denies : (site : Site) (p : Place) (w : World) → Denies (commit site p w)
commit_denies site p w = search walk depth 40 fits 4000

pub sequence_denies : (args : Sequence) (sent : Sent) (p : Place) (w : World) → Denies (sequence args sent p w)
sequence_denies args sent p w = search walk depth 40 fits 4000

pub create_session_denies : (args : CreateSession) (arguments : List ℕ) (p : Place) (w : World) → Denies (create_session args arguments p w)
create_session_denies args arguments p w = search walk depth 40 fits 4000

-- ---- tests that go by what is given

where_parsed_denies : {R : Type 0} (p : Place) (r : Result _ (List ℕ)) (next : _ → Outcome (Answer R)) → ((set : _) → Denies (next set)) → Denies (where_parsed p r next)
where_parsed_denies p (Ok set) next a = a set
where_parsed_denies p (Err stuck) next a = record { is = refl }

where_read_denies : {R : Type 0} (p : Place) (spelled : Stored) (l : LabelRead) (next : Option GivenLabel → Outcome (Answer R)) → ((o : Option GivenLabel) → Denies (next o)) → Denies (where_read p spelled l next)
where_read_denies p spelled (LevelOf level) next a = a (Some (record { level = level; spelled = spelled }))
where_read_denies p spelled WrongFormat next a = record { is = refl }
where_read_denies p spelled BadLabel next a = record { is = refl }

where_label_denies : {R : Type 0} (site : Site) (p : Place) (o : Option _) (next : Option GivenLabel → Outcome (Answer R)) → ((o : Option GivenLabel) → Denies (next o)) → Denies (where_label site p o next)
where_label_denies site p None next a = a None
where_label_denies site p (Some v) next a = where_read_denies p (spelled_by v) (site.reading (spelled_by v)) next a

usable_by_denies : {R : Type 0} (o : Option Special) (site : Site) (p : Place) (w : World) (n : Node) (id : StateId) (way : Way) (next : Outcome (Answer R)) → Denies next → Denies (where_usable_by o site p w n id way next)
usable_by_denies (Some Anonymous) site p w n id way next a = search walk depth 40
usable_by_denies (Some Bypass) site p w n id Reading next a = a
usable_by_denies (Some Bypass) site p w n id Writing next a = search walk depth 40
usable_by_denies (Some Current) site p w n id way next a = record { is = refl }
usable_by_denies None site p w n id way next a = search walk depth 40

ruleset given = (where_parsed_denies, where_label_denies, usable_by_denies)

-- ---- operations of files and names

pub close_denies : (id : StateId) (p : Place) (w : World) → Denies (close id p w)
close_denies id p w = search walk depth 40 fits 4000

pub read_denies : (site : Site) (args : _) (p : Place) (w : World) → Denies (read site args p w)
read_denies site args p w = search (given, walk) depth 40 fits 4000

pub write_denies : (site : Site) (args : _) (p : Place) (w : World) → Denies (write site args p w)
write_denies site args p w = search (given, walk) depth 40 fits 4000

pub create_denies : (site : Site) (what : What) (name : List ℕ) (attrs : _) (p : Place) (w : World) → Denies (create site what name attrs p w)
create_denies site what name attrs p w = search (given, walk) depth 60 fits 6000

finished_denies : (site : Site) (p : Place) (d : Node) (size : ℕ) (o : Option Listed) → Denies (finished site p d size o)
finished_denies site p d size None = record { is = refl }
finished_denies site p d size (Some found) = search walk depth 40

pub read_dir_denies : (site : Site) (args : _) (p : Place) (w : World) → Denies (read_dir site args p w)
read_dir_denies site args p w = search (finished_denies, walk) depth 40 fits 4000

moved_onto_denies : (site : Site) (new : List ℕ) (p : Place) (w : World) (m : Mover) (o : Option Entry) → Denies (moved_onto site new p w m o)
moved_onto_denies site new p w m None = search walk depth 40
moved_onto_denies site new p w m (Some other) = search walk depth 40 fits 4000

pub rename_denies : (site : Site) (old new : List ℕ) (p : Place) (w : World) → Denies (rename site old new p w)
rename_denies site old new p w = search (moved_onto_denies, walk) depth 60 fits 6000

where_size_denies : {R : Type 0} (site : Site) (id : StateId) (p : Place) (w : World) (n : Node) (o : Option ℕ) (next : Outcome (Answer R)) → Denies next → Denies (where_size site id p w n o next)
where_size_denies site id p w n None next a = a
where_size_denies site id p w n (Some size) next a = search (given, walk) depth 40

set_on_denies : (site : Site) (id : StateId) (p : Place) (w : World) (n : Node) (values : _) (o : Option GivenLabel) (set : _) → Denies (set_on site id p w n values o set)
set_on_denies site id p w n values None set = search (where_size_denies, walk) depth 40
set_on_denies site id p w n values (Some label) set = search walk depth 40

pub set_attr_denies : (site : Site) (id : StateId) (attrs : _) (p : Place) (w : World) → Denies (set_attr site id attrs p w)
set_attr_denies site id attrs p w = search (set_on_denies, given, walk) depth 60 fits 6000

-- ---- OPEN

where_wanted_denies : {R : Type 0} (site : Site) (p : Place) (o : Option Making) (next : Wanted → Outcome (Answer R)) → ((wanted : Wanted) → Denies (next wanted)) → Denies (where_wanted site p o next)
where_wanted_denies site p None next a = a nothing_wanted
where_wanted_denies site p (Some making) next a = search (given, walk, a) depth 40 fits 4000

where_claim_denies : {R : Type 0} (p : Place) (claim : Claim) (next : Outcome (Answer R)) → Denies next → Denies (where_claim p claim next)
where_claim_denies p (Name name) next a = search walk depth 40
where_claim_denies p Handle next a = a

shared_denies : {R : Type 0} (site : Site) (p : Place) (args : OpenArguments) (label : ℕ) (next : Outcome (Answer R)) → Denies next → Denies (where_shared site p args label next)
shared_denies site p args label next a = search walk depth 40

absent_denies : (site : Site) (args : OpenArguments) (p : Place) (w : World) (client : ℕ) (d : Node) (name : List ℕ) (wanted : Wanted) (o : Option Making) → Denies (open_absent site args p w client d name wanted o)
absent_denies site args p w client d name wanted None = record { is = refl }
absent_denies site args p w client d name wanted (Some making) = search (shared_denies, walk) depth 40

opened_denies : (args : OpenArguments) (p : Place) (w : World) (client : ℕ) (wanted : Wanted) (info : _) (n : Node) (o : Option _) → Denies (opened args p w client wanted info n o)
opened_denies args p w client wanted info n None = search walk depth 40
opened_denies args p w client wanted info n (Some o) = search walk depth 40

present_denies : (site : Site) (args : OpenArguments) (p : Place) (w : World) (client : ℕ) (wanted : Wanted) (info : _) (n : Node) → Denies (open_present site args p w client wanted info n)
present_denies site args p w client wanted info n = search (shared_denies, opened_denies, walk) depth 40 fits 4000

claimed_denies : (site : Site) (args : OpenArguments) (p : Place) (w : World) (client : ℕ) (wanted : Wanted) (claim : Claim) → Denies (open_claimed site args p w client wanted claim)
claimed_denies site args p w client wanted (Name name) = search (present_denies, absent_denies, walk) depth 40 fits 4000
claimed_denies site args p w client wanted Handle = search (present_denies, walk) depth 40 fits 4000

pub open_denies : (site : Site) (args : OpenArguments) (p : Place) (w : World) → Denies (open_file site args p w)
open_denies site args p w = search (where_claim_denies, where_wanted_denies, claimed_denies, walk) depth 60 fits 6000
