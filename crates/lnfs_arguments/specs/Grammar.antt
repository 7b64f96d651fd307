-- The arguments of operations, one block each (RFC 8881 section 18), and the table by number.
use Rattle.std.specs.Prelude.{ℕ, List, [], ◌∷◌, Option, Some, None, ◌==◌, if◌then◌else◌}
use Rattle.lnfs_xdr.specs.Format.{Word, Long, Boolean, Opaque, Fixed, Outside, Done, ◌>>=◌, when◌then◌else◌, array, optional}
use Rattle.lnfs_xdr.specs.AuthSys.{auth_sys}
use Rattle.lnfs_attrs.specs.Parsing.{Args}
use Rattle.lnfs_attrs.specs.Bitmaps.{bitmap}
use Rattle.lnfs_arguments.specs.declared.types.Sequence.{Sequence}
use Rattle.lnfs_arguments.specs.declared.types.What.{What}
use Rattle.lnfs_arguments.specs.declared.types.What.TheVariants.{Dir, Symlink}
use Rattle.lnfs_arguments.specs.declared.types.Making.{Making}
use Rattle.lnfs_arguments.specs.declared.types.Making.TheVariants.{Unchecked, Guarded, Exclusive}
use Rattle.lnfs_arguments.specs.declared.types.Claim.{Claim}
use Rattle.lnfs_arguments.specs.declared.types.Claim.TheVariants.{Name, Handle}
use Rattle.lnfs_arguments.specs.declared.types.Callback.{Callback}
use Rattle.lnfs_arguments.specs.declared.types.Callback.TheVariants.{Nothing, Sys, Gss}
use Rattle.lnfs_arguments.specs.declared.types.CreateSession.{CreateSession}
use Rattle.lnfs_arguments.specs.declared.types.Implementation.{Implementation}
use Rattle.lnfs_arguments.specs.declared.types.Op.{Op}
use Rattle.lnfs_arguments.specs.declared.types.Op.TheVariants as ops
use Rattle.lnfs_arguments.specs.Numbers.{op_access, op_close, op_commit, op_create, op_getattr, op_getfh, op_link, op_lookup, op_lookupp, op_nverify, op_open, op_putfh, op_putrootfh, op_read, op_readdir, op_readlink, op_remove, op_rename, op_restorefh, op_savefh, op_setattr, op_verify, op_write, op_exchange_id, op_create_session, op_destroy_session, op_sequence, op_destroy_clientid, op_reclaim_complete, is_operation}
use Rattle.lnfs_arguments.specs.declared.numbers.TheConstants.{DATA_LIMIT}
use Rattle.lnfs_arguments.specs.declared.statuses.TheConstants.{NFS4ERR_INVAL, NFS4ERR_NOTSUPP, NFS4ERR_BADTYPE, NFS4ERR_OP_ILLEGAL}
use Rattle.lnfs_arguments.specs.Shared.{attrs, state_id, channel}

-- ---- names and handles

-- component4
abbrev pub name : Args (List ℕ)
name = Opaque 65536

-- section 18.1
unfoldable pub access : Args Op
access = do
  bits ← Word
  Done (ops.Access bits)

-- section 18.4: a directory, or a symbolic link with its text
unfoldable pub what : Args What
what = do
  kind ← Word
  when kind == 5 then (do
    text ← name
    Done (Symlink text))
      else when kind == 2 then Done Dir
      else Outside (op_create, NFS4ERR_BADTYPE)

unfoldable pub create : Args Op
create = do
  made ← what
  called ← name
  given ← attrs
  Done (ops.Create made called given)

-- section 18.7
unfoldable pub getattr : Args Op
getattr = do
  asked ← bitmap
  Done (ops.GetAttr asked)

-- sections 18.9, 18.13 and 18.25
unfoldable pub link : Args Op
link = do
  called ← name
  Done (ops.Link called)

unfoldable pub lookup : Args Op
lookup = do
  called ← name
  Done (ops.Lookup called)

unfoldable pub remove : Args Op
remove = do
  called ← name
  Done (ops.Remove called)

-- sections 18.15, 18.30 and 18.31
unfoldable pub nverify : Args Op
nverify = do
  given ← attrs
  Done (ops.NVerify given)

unfoldable pub verify : Args Op
verify = do
  given ← attrs
  Done (ops.Verify given)

unfoldable pub setattr : Args Op
setattr = do
  id ← state_id
  given ← attrs
  Done (ops.SetAttr id given)

-- section 18.19
unfoldable pub putfh : Args Op
putfh = do
  handle ← Opaque 128
  Done (ops.PutFh handle)

-- section 18.23
unfoldable pub readdir : Args Op
readdir = do
  cookie ← Long
  verifier ← Fixed 8
  dircount ← Word
  maxcount ← Word
  asked ← bitmap
  Done (ops.ReadDir cookie verifier dircount maxcount asked)

-- section 18.26
unfoldable pub rename : Args Op
rename = do
  old ← name
  new ← name
  Done (ops.Rename old new)

-- ---- contents

-- section 18.2
unfoldable pub close : Args Op
close = do
  seqid ← Word
  id ← state_id
  Done (ops.Close seqid id)

-- section 18.3
unfoldable pub commit : Args Op
commit = do
  offset ← Long
  count ← Word
  Done (ops.Commit offset count)

-- section 18.22
unfoldable pub reading : Args Op
reading = do
  id ← state_id
  offset ← Long
  count ← Word
  Done (ops.Read id offset count)

-- section 18.32
unfoldable pub writing : Args Op
writing = do
  id ← state_id
  offset ← Long
  stable ← Word
  content ← Opaque DATA_LIMIT
  Done (ops.Write id offset stable content)

-- ---- section 18.16

-- the attributes of what is made, behind the mode of making
unfoldable pub created : Args Making
created = do
  mode ← Word
  when mode == 0 then (do
    given ← attrs
    Done (Unchecked given))
      else when mode == 1 then (do
        given ← attrs
        Done (Guarded given))
      else when mode == 2 then Outside (op_open, NFS4ERR_NOTSUPP)
      else when mode == 3 then (do
        verifier ← Fixed 8
        given ← attrs
        Done (Exclusive verifier given))
      else Outside (op_open, NFS4ERR_INVAL)

unfoldable pub making : Args (Option Making)
making = do
  kind ← Word
  when kind == 0 then Done None
      else when kind == 1 then (do
        made ← created
        Done (Some made))
      else Outside (op_open, NFS4ERR_INVAL)

unfoldable pub claim : Args Claim
claim = do
  kind ← Word
  when kind == 0 then (do
    called ← name
    Done (Name called))
      else when kind == 4 then Done Handle
      else Outside (op_open, NFS4ERR_NOTSUPP)

unfoldable pub opening : Args Op
opening = do
  seqid ← Word
  access ← Word
  deny ← Word
  client ← Long
  owner ← Opaque 1024
  how ← making
  target ← claim
  Done (ops.Open seqid access deny client owner how target)

-- ---- clients and sessions

unfoldable pub implementation : Args Implementation
implementation = do
  domain ← Opaque 1024
  called ← Opaque 1024
  secs ← Long
  nanos ← Word
  Done (record { domain = domain; name = called; secs = secs; nanos = nanos })

unfoldable pub who_made : Args (Option Implementation)
who_made = optional implementation

-- section 18.35; of state protection only none
unfoldable pub exchange_id : Args Op
exchange_id = do
  verifier ← Fixed 8
  owner ← Opaque 1024
  flags ← Word
  how ← Word
  when how == 0 then (do
    made ← who_made
    Done (ops.ExchangeId verifier owner flags made))
      else Outside (op_exchange_id, NFS4ERR_INVAL)

-- section 18.36
unfoldable pub callback : Args Callback
callback = do
  flavor ← Word
  when flavor == 0 then Done Nothing
      else when flavor == 1 then (do
        body ← auth_sys
        Done (Sys body.stamp body.machine body.uid body.gid body.gids))
      else when flavor == 6 then (do
        service ← Word
        server ← Opaque 1024
        client ← Opaque 1024
        Done (Gss service server client))
      else Outside (op_create_session, NFS4ERR_INVAL)

unfoldable pub create_session : Args CreateSession
create_session = do
  client ← Long
  number ← Word
  flags ← Word
  fore ← channel
  back ← channel
  program ← Word
  callbacks ← array 16 callback
  Done (record { client = client; sequence = number; flags = flags; fore = fore; back = back; program = program; callbacks = callbacks })

unfoldable pub making_session : Args Op
making_session = do
  x ← create_session
  Done (ops.CreateSession x)

-- section 18.37
unfoldable pub destroy_session : Args Op
destroy_session = do
  session ← Fixed 16
  Done (ops.DestroySession session)

-- section 18.46
unfoldable pub sequence : Args Sequence
sequence = do
  session ← Fixed 16
  number ← Word
  slot ← Word
  highest ← Word
  cachethis ← Boolean
  Done (record { session = session; sequence = number; slot = slot; highest = highest; cachethis = cachethis })

unfoldable pub sequencing : Args Op
sequencing = do
  x ← sequence
  Done (ops.Sequence x)

-- section 18.50
unfoldable pub destroy_clientid : Args Op
destroy_clientid = do
  client ← Long
  Done (ops.DestroyClientId client)

-- section 18.51
unfoldable pub reclaim_complete : Args Op
reclaim_complete = do
  one_fs ← Boolean
  Done (ops.ReclaimComplete one_fs)

-- ---- the table

abbrev pub table : List (ℕ × Args Op)
table = (op_access, access)
    ∷ (op_close, close)
    ∷ (op_commit, commit)
    ∷ (op_create, create)
    ∷ (op_getattr, getattr)
    ∷ (op_getfh, Done ops.GetFh)
    ∷ (op_link, link)
    ∷ (op_lookup, lookup)
    ∷ (op_lookupp, Done ops.LookupP)
    ∷ (op_nverify, nverify)
    ∷ (op_open, opening)
    ∷ (op_putfh, putfh)
    ∷ (op_putrootfh, Done ops.PutRootFh)
    ∷ (op_read, reading)
    ∷ (op_readdir, readdir)
    ∷ (op_readlink, Done ops.ReadLink)
    ∷ (op_remove, remove)
    ∷ (op_rename, rename)
    ∷ (op_restorefh, Done ops.RestoreFh)
    ∷ (op_savefh, Done ops.SaveFh)
    ∷ (op_setattr, setattr)
    ∷ (op_verify, verify)
    ∷ (op_write, writing)
    ∷ (op_exchange_id, exchange_id)
    ∷ (op_create_session, making_session)
    ∷ (op_destroy_session, destroy_session)
    ∷ (op_sequence, sequencing)
    ∷ (op_destroy_clientid, destroy_clientid)
    ∷ (op_reclaim_complete, reclaim_complete)
    ∷ []

-- an operation of minor version 2 that isn't served, or none at all; the number is kept as it was sent
abbrev pub unserved : ℕ → Args Op
unserved number = Outside (number, if is_operation number then NFS4ERR_NOTSUPP else NFS4ERR_OP_ILLEGAL)

-- the entry of a number
abbrev pub entry : List (ℕ × Args Op) → ℕ → Args Op
entry [] number = unserved number
entry ((n, f) ∷ more) number = when number == n then f else entry more number

-- the arguments of the operation of a number
unfoldable pub arguments : ℕ → Args Op
arguments number = entry table number
