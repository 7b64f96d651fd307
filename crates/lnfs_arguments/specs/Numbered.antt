-- The number of an operation (RFC 8881 section 16.2.1), and of its result.
use Rattle.std.specs.Prelude.{ℕ, if◌then◌else◌}
use Rattle.lnfs_arguments.specs.declared.types.Op.{Op}
use Rattle.lnfs_arguments.specs.declared.types.Op.TheVariants as ops
use Rattle.lnfs_arguments.specs.Numbers.{op_access, op_close, op_commit, op_create, op_getattr, op_getfh, op_link, op_lookup, op_lookupp, op_nverify, op_open, op_putfh, op_putrootfh, op_read, op_readdir, op_readlink, op_remove, op_rename, op_restorefh, op_savefh, op_setattr, op_verify, op_write, op_exchange_id, op_create_session, op_destroy_session, op_sequence, op_destroy_clientid, op_reclaim_complete, is_operation, op_illegal}

abbrev pub number_of : Op → ℕ
number_of (ops.Access bits) = op_access
number_of (ops.Close seqid id) = op_close
number_of (ops.Commit offset count) = op_commit
number_of (ops.Create what name attrs) = op_create
number_of (ops.GetAttr asked) = op_getattr
number_of ops.GetFh = op_getfh
number_of (ops.Link name) = op_link
number_of (ops.Lookup name) = op_lookup
number_of ops.LookupP = op_lookupp
number_of (ops.NVerify attrs) = op_nverify
number_of (ops.Open seqid access deny client owner making claim) = op_open
number_of (ops.PutFh handle) = op_putfh
number_of ops.PutRootFh = op_putrootfh
number_of (ops.Read id offset count) = op_read
number_of (ops.ReadDir cookie verifier dircount maxcount asked) = op_readdir
number_of ops.ReadLink = op_readlink
number_of (ops.Remove name) = op_remove
number_of (ops.Rename old new) = op_rename
number_of ops.RestoreFh = op_restorefh
number_of ops.SaveFh = op_savefh
number_of (ops.SetAttr id attrs) = op_setattr
number_of (ops.Verify attrs) = op_verify
number_of (ops.Write id offset stable content) = op_write
number_of (ops.ExchangeId verifier owner flags implementation) = op_exchange_id
number_of (ops.CreateSession args) = op_create_session
number_of (ops.DestroySession session) = op_destroy_session
number_of (ops.Sequence args) = op_sequence
number_of (ops.DestroyClientId client) = op_destroy_clientid
number_of (ops.ReclaimComplete one_fs) = op_reclaim_complete
number_of (ops.Outside number status) = number
number_of (ops.Extra number args) = number

-- The number in the operation's result, whatever status it is answered with: its own, and ILLEGAL of one that the protocol doesn't have (RFC 8881 section 18.52).
abbrev pub result_number : Op → ℕ
result_number (ops.Outside number status) = if is_operation number then number else op_illegal
result_number op = number_of op
