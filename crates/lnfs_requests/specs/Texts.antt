-- The canonical spelling of arguments: one line an operation. That of the body of an AUTH_SYS credential (RFC 5531 appendix A) is among them, as a callback has one.
use Rattle.std.specs.Prelude.{ℕ, List, [], ◌++◌, length, Option, Some, None}
use Rattle.std.specs.List.{flat_map}
use Rattle.lnfs_xdr.specs.AuthSys.{AuthSys}
use Rattle.lnfs_xdr.specs.Canon.{word, long, flag, padded, opaque}
use Rattle.lnfs_attrs.specs.Bitmaps.{bitmap_text, words_text}
use Rattle.lnfs_arguments.specs.declared.types.Sequence.{Sequence}
use Rattle.lnfs_arguments.specs.declared.types.What.{What}
use Rattle.lnfs_arguments.specs.declared.types.What.TheVariants.{Dir, Symlink}
use Rattle.lnfs_arguments.specs.declared.types.Making.{Making}
use Rattle.lnfs_arguments.specs.declared.types.Making.TheVariants.{Unchecked, Guarded, Exclusive}
use Rattle.lnfs_arguments.specs.declared.types.Claim.{Claim}
use Rattle.lnfs_arguments.specs.declared.types.Claim.TheVariants.{Name, Handle}
use Rattle.lnfs_arguments.specs.declared.types.Callback.{Callback}
use Rattle.lnfs_arguments.specs.declared.types.Callback.TheVariants.{Nothing, Sys, Gss}
use Rattle.lnfs_arguments.specs.declared.types.CreateSession.{CreateSession}
use Rattle.lnfs_arguments.specs.declared.types.Implementation.{Implementation}
use Rattle.lnfs_arguments.specs.declared.types.Compound.{Compound}
use Rattle.lnfs_arguments.specs.declared.types.Op.{Op}
use Rattle.lnfs_arguments.specs.declared.types.Op.TheVariants as ops
use Rattle.lnfs_arguments.specs.Numbers.{op_access, op_close, op_commit, op_create, op_getattr, op_getfh, op_link, op_lookup, op_lookupp, op_nverify, op_open, op_putfh, op_putrootfh, op_read, op_readdir, op_readlink, op_remove, op_rename, op_restorefh, op_savefh, op_setattr, op_verify, op_write, op_exchange_id, op_create_session, op_destroy_session, op_sequence, op_destroy_clientid, op_reclaim_complete}
use Rattle.lnfs_arguments.specs.SharedTexts.{attrs_text, state_id_text, channel_text}

unfoldable pub what_text : What → List ℕ
what_text (Symlink text) = word 5 ++ opaque text
what_text Dir = word 2

unfoldable pub making_text : Option Making → List ℕ
making_text None = word 0
making_text (Some (Unchecked a)) = word 1 ++ word 0 ++ attrs_text a
making_text (Some (Guarded a)) = word 1 ++ word 1 ++ attrs_text a
making_text (Some (Exclusive v a)) = word 1 ++ word 3 ++ padded v ++ attrs_text a

unfoldable pub claim_text : Claim → List ℕ
claim_text (Name n) = word 0 ++ opaque n
claim_text Handle = word 4

unfoldable pub implementation_text : Option Implementation → List ℕ
implementation_text None = word 0
implementation_text (Some i) = word 1 ++ opaque i.domain ++ opaque i.name ++ long i.secs ++ word i.nanos

unfoldable pub sys_text : AuthSys → List ℕ
sys_text s = word s.stamp ++ opaque s.machine ++ word s.uid ++ word s.gid ++ words_text s.gids

unfoldable pub callback_text : Callback → List ℕ
callback_text Nothing = word 0
callback_text (Sys stamp machine uid gid gids) = word 1 ++ sys_text (record { stamp = stamp; machine = machine; uid = uid; gid = gid; gids = gids })
callback_text (Gss service server client) = word 6 ++ word service ++ opaque server ++ opaque client

unfoldable pub create_session_text : CreateSession → List ℕ
create_session_text x = long x.client ++ word x.sequence ++ word x.flags ++ channel_text x.fore ++ channel_text x.back ++ word x.program ++ word (length x.callbacks) ++ flat_map callback_text x.callbacks

unfoldable pub sequence_text : Sequence → List ℕ
sequence_text s = padded s.session ++ word s.sequence ++ word s.slot ++ word s.highest ++ flag s.cachethis

-- the number and the arguments
unfoldable pub op_text : Op → List ℕ
op_text (ops.Access bits) = word op_access ++ word bits
op_text (ops.Close seqid id) = word op_close ++ word seqid ++ state_id_text id
op_text (ops.Commit offset count) = word op_commit ++ long offset ++ word count
op_text (ops.Create made called given) = word op_create ++ what_text made ++ opaque called ++ attrs_text given
op_text (ops.GetAttr asked) = word op_getattr ++ bitmap_text asked
op_text ops.GetFh = word op_getfh
op_text (ops.Link called) = word op_link ++ opaque called
op_text (ops.Lookup called) = word op_lookup ++ opaque called
op_text ops.LookupP = word op_lookupp
op_text (ops.NVerify given) = word op_nverify ++ attrs_text given
op_text (ops.Open seqid access deny client owner how target) = word op_open ++ word seqid ++ word access ++ word deny ++ long client ++ opaque owner ++ making_text how ++ claim_text target
op_text (ops.PutFh handle) = word op_putfh ++ opaque handle
op_text ops.PutRootFh = word op_putrootfh
op_text (ops.Read id offset count) = word op_read ++ state_id_text id ++ long offset ++ word count
op_text (ops.ReadDir cookie verifier dircount maxcount asked) = word op_readdir ++ long cookie ++ padded verifier ++ word dircount ++ word maxcount ++ bitmap_text asked
op_text ops.ReadLink = word op_readlink
op_text (ops.Remove called) = word op_remove ++ opaque called
op_text (ops.Rename old new) = word op_rename ++ opaque old ++ opaque new
op_text ops.RestoreFh = word op_restorefh
op_text ops.SaveFh = word op_savefh
op_text (ops.SetAttr id given) = word op_setattr ++ state_id_text id ++ attrs_text given
op_text (ops.Verify given) = word op_verify ++ attrs_text given
op_text (ops.Write id offset stable content) = word op_write ++ state_id_text id ++ long offset ++ word stable ++ opaque content
op_text (ops.ExchangeId verifier owner flags made) = word op_exchange_id ++ padded verifier ++ opaque owner ++ word flags ++ word 0 ++ implementation_text made
op_text (ops.CreateSession x) = word op_create_session ++ create_session_text x
op_text (ops.DestroySession session) = word op_destroy_session ++ padded session
op_text (ops.Sequence x) = word op_sequence ++ sequence_text x
op_text (ops.DestroyClientId client) = word op_destroy_clientid ++ long client
op_text (ops.ReclaimComplete one_fs) = word op_reclaim_complete ++ flag one_fs
op_text (ops.Outside number status) = []
op_text (ops.Extra number args) = []

unfoldable pub compound_text : Compound → List ℕ
compound_text c = opaque c.tag ++ word c.minor ++ word c.count ++ flat_map op_text c.ops
