-- The operations that are served: what each answers in its COMPOUND, and whether the result of the whole
-- COMPOUND is kept.
use Rattle.std.specs.Prelude.{ℕ, ◌-◌, cond, List, replicate, Option, Some, None}
use Rattle.lnfs_arguments.specs.declared.types.Op.{Op}
use Rattle.lnfs_arguments.specs.declared.types.Op.TheVariants as ops
use Rattle.lnfs_arguments.specs.declared.types.Compound.{Compound}
use Rattle.lnfs_arguments.specs.declared.types.CreateSession.{CreateSession}
use Rattle.lnfs_arguments.specs.declared.types.Sequence.{Sequence}
use Rattle.lnfs_arguments.specs.declared.channel.Channel.{Channel as Sizes}
use Rattle.lnfs_arguments.specs.declared.statuses.TheConstants.{NFS4ERR_NOTSUPP}
use Rattle.lnfs_arguments.specs.Identifiers.{session_id}
use Rattle.lnfs_results.specs.declared.types.OpResult.{OpResult}
use Rattle.lnfs_results.specs.declared.types.OpResult.TheVariants as results
use Rattle.lnfs_world.specs.World.{Channel, World}
use Rattle.lnfs_world.specs.Outcome.{Site, Place, Outcome, Act}
use Rattle.lnfs_world.specs.Lawful.{Turn, Deed, deed_of}
use Rattle.lnfs_world.specs.Both.{Both, on_world}
use Rattle.lnfs_operations.specs.declared.Gate.TheVariants.{Outside}
use Rattle.lnfs_operations.specs.Chain.{Refusal, Answer, Done, Refused, refuse}
use Rattle.lnfs_operations.specs.Identifiers.{client_named}
use Rattle.lnfs_operations.specs.ExchangeId.{Told, exchange_id}
use Rattle.lnfs_operations.specs.CreateSession.{Created, New as Made, Again as MadeBefore, create_session, is_next_created}
use Rattle.lnfs_operations.specs.DestroySession.{destroy_session}
use Rattle.lnfs_operations.specs.Sequence.{Sent, Sequenced, New, Again, sequence}
use Rattle.lnfs_operations.specs.DestroyClientId.{destroy_clientid}
use Rattle.lnfs_operations.specs.ReclaimComplete.{reclaim_complete}
use Rattle.lnfs_operations.specs.FileHandles.{put_fh, put_root_fh, get_fh, save_fh, restore_fh}
use Rattle.lnfs_operations.specs.Lookup.{lookup, lookup_parent}
use Rattle.lnfs_operations.specs.GetAttr.{get_attr, verify, nverify}
use Rattle.lnfs_operations.specs.Access.{access}
use Rattle.lnfs_operations.specs.ReadDir.{read_dir}
use Rattle.lnfs_operations.specs.ReadLink.{read_link}
use Rattle.lnfs_operations.specs.Create.{create}
use Rattle.lnfs_operations.specs.Link.{link}
use Rattle.lnfs_operations.specs.Remove.{remove}
use Rattle.lnfs_operations.specs.Rename.{rename}
use Rattle.lnfs_operations.specs.SetAttr.{set_attr}
use Rattle.lnfs_operations.specs.Open.{Opened, open_file}
use Rattle.lnfs_operations.specs.Close.{closed, close}
use Rattle.lnfs_operations.specs.Read.{read}
use Rattle.lnfs_operations.specs.Write.{write, commit}
use Rattle.lnfs_operations.specs.Extra.{Said, Extra, further_deed}
use Rattle.lnfs_operations.specs.Results.{Answered, failed, told_result, said_result}
use Rattle.lnfs_operations.specs.Admission.{admission}
use Rattle.lnfs_operations.specs.declared.numbers.TheConstants.{FILE_SYNC4, OPEN4_RESULT_LOCKTYPE_POSIX}

-- where the result of a COMPOUND is kept
pub data Keeper : Type 0 where
  Nowhere : Keeper
  -- in a slot of its session, under a sequence
  Slot : (slot sequence : ℕ) → Keeper
  -- in the record of a client
  Record : (client : ℕ) → Keeper

pub data Reply : Type 0 where
  -- the operation's own result
  Own : Answered → Keeper → Reply
  -- the whole COMPOUND is answered as it was the first time
  Kept : (reply : List ℕ) → Reply

-- ---- results

abbrev pub success : OpResult → Keeper → Reply
success result keeper = Own (record { result = result; refusal = None }) keeper

abbrev pub failure : Op → Refusal → Reply
failure op why = Own (record { result = failed op why.status; refusal = Some why }) Nowhere

abbrev pub told_reply : ℕ → Told → Reply
told_reply level t = success (told_result level t) Nowhere

-- what a channel grants, without a padding of headers and without RDMA
abbrev pub sizes_of : Channel → Sizes
sizes_of granted = record {
  headerpad = 0;
  maxrequest = granted.max_request;
  maxresponse = granted.max_response;
  cached = granted.max_cached;
  operations = granted.max_operations;
  requests = granted.max_requests;
  ird = None;
}

-- the back channel as it was asked
abbrev pub created_reply : ℕ → CreateSession → Created → Reply
created_reply level args (Made session granted) = success (results.CreateSession (session_id level session) args.sequence 0 (sizes_of granted) (record args.back { ird = None })) Nowhere
created_reply level args (MadeBefore reply) = Kept reply

abbrev pub sequence_reply : Sequence → Sequenced → Reply
sequence_reply args (New x) = success (results.Sequence args.session args.sequence args.slot (x.channel.max_requests - 1) (x.channel.max_requests - 1) 0) (Slot args.slot args.sequence)
sequence_reply args (Again reply) = Kept reply

-- ---- outcomes

abbrev pub reply_of : {R : Type 0} → Op → (R → Reply) → Answer R → Reply
reply_of op reply (Done r) = reply r
reply_of op reply (Refused why) = failure op why

abbrev pub replied : {R : Type 0} → Op → (R → Reply) → Outcome (Answer R) → Outcome Reply
replied op reply o = record { answer = reply_of op reply o.answer; place = o.place; changes = o.changes }

abbrev pub under : Keeper → Reply → Reply
under keeper (Own a other) = Own a keeper
under keeper (Kept reply) = Kept reply

-- A CREATE_SESSION that brings the next sequence of its record is kept there, be it refused or not.
abbrev pub created_keeper : CreateSession → Place → World → Keeper
created_keeper args p w = cond (is_next_created args p w) (Record (client_named args.client).number) Nowhere

abbrev pub create_session_in : Sent → CreateSession → Act Reply
create_session_in sent args p w =
    let o = replied (ops.CreateSession args) (created_reply p.subject args) (create_session args sent.arguments p w) in
    record o { answer = under (created_keeper args p w) o.answer }

abbrev pub plainly : OpResult → Unit {0} → Reply
plainly result it = success result Nowhere

abbrev pub zeros : ℕ → List ℕ
zeros n = replicate n 0

-- the flag that tells of locks as POSIX has them, and no delegation
abbrev pub opened_reply : Opened → Reply
opened_reply o = success (results.Open o.id o.info OPEN4_RESULT_LOCKTYPE_POSIX o.set 0) Nowhere

-- what an operation of the table answers
abbrev pub row : Site → Sent → Op → Act Reply
row site sent (ops.ExchangeId verifier owner flags implementation) p w =
    replied (ops.ExchangeId verifier owner flags implementation) (told_reply p.subject) (exchange_id (record { verifier = verifier; owner = owner; flags = flags }) p w)
row site sent (ops.CreateSession args) p w = create_session_in sent args p w
row site sent (ops.DestroySession session) p w = replied (ops.DestroySession session) (λ _. success results.DestroySession Nowhere) (destroy_session session p w)
row site sent (ops.Sequence args) p w = replied (ops.Sequence args) (sequence_reply args) (sequence args sent p w)
row site sent (ops.DestroyClientId client) p w = replied (ops.DestroyClientId client) (λ _. success results.DestroyClientId Nowhere) (destroy_clientid client p w)
row site sent (ops.ReclaimComplete one_fs) p w = replied (ops.ReclaimComplete one_fs) (λ _. success results.ReclaimComplete Nowhere) (reclaim_complete one_fs p w)
row site sent (ops.PutFh handle) p w = replied (ops.PutFh handle) (plainly results.PutFh) (put_fh site handle p w)
row site sent ops.PutRootFh p w = replied ops.PutRootFh (plainly results.PutRootFh) (put_root_fh p w)
row site sent ops.GetFh p w = replied ops.GetFh (λ handle. success (results.GetFh handle) Nowhere) (get_fh p w)
row site sent ops.SaveFh p w = replied ops.SaveFh (plainly results.SaveFh) (save_fh p w)
row site sent ops.RestoreFh p w = replied ops.RestoreFh (plainly results.RestoreFh) (restore_fh p w)
row site sent (ops.Lookup name) p w = replied (ops.Lookup name) (plainly results.Lookup) (lookup site name p w)
row site sent ops.LookupP p w = replied ops.LookupP (plainly results.LookupP) (lookup_parent site p w)
row site sent (ops.GetAttr asked) p w = replied (ops.GetAttr asked) (λ given. success (results.GetAttr given) Nowhere) (get_attr site asked p w)
row site sent (ops.Verify given) p w = replied (ops.Verify given) (plainly results.Verify) (verify site given p w)
row site sent (ops.NVerify given) p w = replied (ops.NVerify given) (plainly results.NVerify) (nverify site given p w)
row site sent (ops.Access bits) p w = replied (ops.Access bits) (λ told. success (results.Access told.supported told.granted) Nowhere) (access site bits p w)
row site sent (ops.ReadDir cookie verifier dircount maxcount asked) p w =
    replied (ops.ReadDir cookie verifier dircount maxcount asked) (λ found. success (results.ReadDir (zeros 8) found.entries found.eof) Nowhere) (read_dir site (record { cookie = cookie; maxcount = maxcount; asked = asked }) p w)
row site sent ops.ReadLink p w = replied ops.ReadLink (λ text. success (results.ReadLink text) Nowhere) (read_link site p w)
row site sent (ops.Create what name given) p w = replied (ops.Create what name given) (λ made. success (results.Create made.info made.set) Nowhere) (create site what name given p w)
row site sent (ops.Link name) p w = replied (ops.Link name) (λ info. success (results.Link info) Nowhere) (link site name p w)
row site sent (ops.Remove name) p w = replied (ops.Remove name) (λ info. success (results.Remove info) Nowhere) (remove site name p w)
row site sent (ops.Rename old new) p w = replied (ops.Rename old new) (λ renamed. success (results.Rename renamed.source renamed.target) Nowhere) (rename site old new p w)
row site sent (ops.SetAttr id given) p w = replied (ops.SetAttr id given) (λ set. success (results.SetAttr 0 set) Nowhere) (set_attr site id given p w)
row site sent (ops.Open seqid access deny client owner making claim) p w =
    replied (ops.Open seqid access deny client owner making claim) opened_reply (open_file site (record { access = access; deny = deny; owner = owner; making = making; claim = claim }) p w)
row site sent (ops.Close seqid id) p w = replied (ops.Close seqid id) (plainly (results.Close closed)) (close id p w)
row site sent (ops.Read id offset count) p w = replied (ops.Read id offset count) (λ found. success (results.Read found.eof found.content) Nowhere) (read site (record { id = id; offset = offset; count = count }) p w)
row site sent (ops.Write id offset stable content) p w =
    replied (ops.Write id offset stable content) (λ many. success (results.Write many FILE_SYNC4 (zeros 8)) Nowhere) (write site (record { id = id; offset = offset; stable = stable; content = content }) p w)
row site sent (ops.Commit offset count) p w = replied (ops.Commit offset count) (plainly (results.Commit (zeros 8))) (commit site p w)
row site sent (ops.Outside number status) p w = replied (ops.Outside number status) (told_reply p.subject) (refuse p Outside status)
-- one that no further operation serves
row site sent (ops.Extra number arguments) p w = replied (ops.Extra number arguments) (told_reply p.subject) (refuse p Outside NFS4ERR_NOTSUPP)

-- ---- with further operations

abbrev pub said_reply : ℕ → Said → Reply
said_reply number said = Own (said_result number said) Nowhere

abbrev pub further_reply : {S : Type 0} → ℕ → Deed Said S → Deed Reply S
further_reply number deed p a = record { answer = said_reply number (deed p a).answer; place = (deed p a).place; state = (deed p a).state }

abbrev pub row_in : (X : Extra) → Site → Sent → Op → Deed Reply (Both X.Row)
row_in X site sent (ops.Extra number arguments) =
    cond (X.grammar.serves number) (further_reply number (further_deed X site number arguments)) (on_world (deed_of (row site sent (ops.Extra number arguments))))
row_in X site sent op = on_world (deed_of (row site sent op))

-- ---- in a COMPOUND

abbrev pub admitted : {S : Type 0} → Op → Place → S → Option Refusal → Turn Reply S → Turn Reply S
admitted op p a None t = t
admitted op p a (Some why) t = record { answer = failure op why; place = p; state = a }

abbrev pub where_admitted : (X : Extra) → Compound → (so_far : List OpResult) → Op → Deed Reply (Both X.Row) → Deed Reply (Both X.Row)
where_admitted X c so_far op deed p b = admitted op p b (admission X.grammar c so_far op p b.world) (deed p b)

-- An operation behind the results so far: the tests of place and of room, and then its own.
abbrev pub operation : (X : Extra) → Site → Sent → Compound → (so_far : List OpResult) → Op → Deed Reply (Both X.Row)
operation X site sent c so_far op = where_admitted X c so_far op (row_in X site sent op)
