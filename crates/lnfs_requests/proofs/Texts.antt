-- The canonical text of arguments is a spelling of them.
use Rattle.std.proofs.Common.{ℕ, ◌≤◌, eqb, List, [], ◌∷◌, ◌++◌, length, All, Option, Some, None, append_assoc, arith}
use Rattle.lnfs_xdr.specs.Format.{Word, Opaque, Then}
use Rattle.lnfs_xdr.specs.Canon.{word, opaque}
use Rattle.lnfs_xdr.specs.AuthSys.{AuthSys, auth_sys}
use Rattle.lnfs_xdr.specs.declared.limits.TheConstants.{MACHINE_LIMIT, GROUP_LIMIT}
use Rattle.lnfs_xdr.proofs.Spelled.{Spelled, word_spelled, long_spelled, flag_spelled, count_spelled, fixed_spelled, opaque_spelled, done_spelled, ◌▸◌, last, grouped, on_true, on_false, array_spelled}
use Rattle.lnfs_attrs.specs.Parsing.{Args}
use Rattle.lnfs_attrs.specs.Bitmaps.{IsWord}
use Rattle.lnfs_attrs.proofs.Words.{bitmap_spelled}
use Rattle.lnfs_arguments.specs.declared.types.Sequence.{Sequence}
use Rattle.lnfs_arguments.specs.declared.types.What.{What}
use Rattle.lnfs_arguments.specs.declared.types.What.TheVariants.{Dir, Symlink}
use Rattle.lnfs_arguments.specs.declared.types.Making.{Making}
use Rattle.lnfs_arguments.specs.declared.types.Making.TheVariants.{Unchecked, Guarded, Exclusive}
use Rattle.lnfs_arguments.specs.declared.types.Claim.{Claim}
use Rattle.lnfs_arguments.specs.declared.types.Claim.TheVariants.{Name, Handle}
use Rattle.lnfs_arguments.specs.declared.types.Callback.{Callback}
use Rattle.lnfs_arguments.specs.declared.types.Callback.TheVariants.{Nothing, Sys, Gss}
use Rattle.lnfs_arguments.specs.declared.types.CreateSession.{CreateSession}
use Rattle.lnfs_arguments.specs.declared.types.Implementation.{Implementation}
use Rattle.lnfs_arguments.specs.declared.types.Op.{Op}
use Rattle.lnfs_arguments.specs.declared.types.Op.TheVariants as ops
use Rattle.lnfs_arguments.specs.Numbers.{op_access, op_close, op_commit, op_create, op_getattr, op_getfh, op_link, op_lookup, op_lookupp, op_nverify, op_open, op_putfh, op_putrootfh, op_read, op_readdir, op_readlink, op_remove, op_rename, op_restorefh, op_savefh, op_setattr, op_verify, op_write, op_exchange_id, op_create_session, op_destroy_session, op_sequence, op_destroy_clientid, op_reclaim_complete}
use Rattle.lnfs_arguments.specs.Grammar.{name, access, what, create, getattr, link, lookup, remove, nverify, verify, setattr, putfh, readdir, rename, close, commit, reading, writing, created, making, claim, opening, implementation, who_made, exchange_id, callback, create_session, making_session, destroy_session, sequence, sequencing, destroy_clientid, reclaim_complete, table, unserved, entry, arguments}
use Rattle.lnfs_arguments.specs.declared.numbers.TheConstants.{DATA_LIMIT}
use Rattle.lnfs_requests.specs.Texts.{what_text, making_text, claim_text, implementation_text, sys_text, callback_text, create_session_text, sequence_text, op_text}
use Rattle.lnfs_requests.specs.Fits.{WhatFits, MakingFits, ClaimFits, ImplementationFits, CallbackFits, CreateSessionFits, SequenceFits, OpFits}
use Rattle.lnfs_arguments.proofs.Shared.{tag, picked, on_chosen, attrs_spelled, state_id_spelled, channel_spelled}

-- ---- the parts of arguments

name_spelled : (v : List ℕ) → length v ≤ 65536 → Spelled name v (opaque v)
name_spelled v le = opaque_spelled 65536 v le (omega (arith, le))

owner_spelled : (v : List ℕ) → length v ≤ 1024 → Spelled {E = ℕ × ℕ} (Opaque 1024) v (opaque v)
owner_spelled v le = opaque_spelled 1024 v le (omega (arith, le))

what_spelled : (w : What) → WhatFits w → Spelled what w (what_text w)
unfolding what what_text
what_spelled (Symlink text) fits = tag 5 (omega arith) ▸ on_true (last (name_spelled text fits) (done_spelled (Symlink text)))
what_spelled Dir fits = last (tag 2 (omega arith)) (on_false (on_true (done_spelled Dir)))

making_spelled : (m : Option Making) → MakingFits m → Spelled making m (making_text m)
unfolding making created making_text
making_spelled None fits = last (tag 0 (omega arith)) (on_true (done_spelled None))
making_spelled (Some (Unchecked a)) fits = grouped (tag 1 (omega arith) ▸ on_false (on_true (last (tag 0 (omega arith) ▸ on_true (last (attrs_spelled a fits) (done_spelled (Unchecked a)))) (done_spelled (Some (Unchecked a)))))) (simp append_assoc)
making_spelled (Some (Guarded a)) fits = grouped (tag 1 (omega arith) ▸ on_false (on_true (last (tag 1 (omega arith) ▸ on_false (on_true (last (attrs_spelled a fits) (done_spelled (Guarded a))))) (done_spelled (Some (Guarded a)))))) (simp append_assoc)
making_spelled (Some (Exclusive v a)) fits = grouped (tag 1 (omega arith) ▸ on_false (on_true (last (tag 3 (omega arith) ▸ on_false (on_false (on_false (on_true (fixed_spelled 8 v fits.0 ▸ last (attrs_spelled a fits.1) (done_spelled (Exclusive v a))))))) (done_spelled (Some (Exclusive v a)))))) (simp append_assoc)

claim_spelled : (x : Claim) → ClaimFits x → Spelled claim x (claim_text x)
unfolding claim claim_text
claim_spelled (Name n) fits = tag 0 (omega arith) ▸ on_true (last (name_spelled n fits) (done_spelled (Name n)))
claim_spelled Handle fits = last (tag 4 (omega arith)) (on_false (on_true (done_spelled Handle)))

who_made_spelled : (o : Option Implementation) → ImplementationFits o → Spelled who_made o (implementation_text o)
unfolding who_made implementation implementation_text
who_made_spelled None fits = last (count_spelled 1 0 (omega arith) (omega arith)) (on_true (done_spelled None))
who_made_spelled (Some i) fits = grouped (count_spelled 1 1 (omega arith) (omega arith) ▸ on_false (last (owner_spelled i.domain fits.0 ▸ owner_spelled i.name fits.1 ▸ long_spelled _ fits.2 ▸ last (word_spelled _ fits.3) (done_spelled i)) (done_spelled (Some i)))) (simp append_assoc)

pub auth_sys_spelled : {E : Type 0} (body : AuthSys) → IsWord body.stamp → length body.machine ≤ MACHINE_LIMIT → IsWord body.uid → IsWord body.gid → length body.gids ≤ GROUP_LIMIT → All IsWord body.gids
    → Spelled {E = E} auth_sys body (sys_text body)
unfolding auth_sys sys_text
auth_sys_spelled body stamp machine uid gid few gids = grouped (word_spelled _ stamp ▸ opaque_spelled MACHINE_LIMIT body.machine machine (omega (arith, machine)) ▸ word_spelled _ uid ▸ word_spelled _ gid
    ▸ last (array_spelled GROUP_LIMIT Word word IsWord (λ n lt. word_spelled n lt) body.gids few (omega arith) gids) (done_spelled body)) (simp append_assoc)

callback_spelled : (x : Callback) → CallbackFits x → Spelled callback x (callback_text x)
unfolding callback callback_text
callback_spelled Nothing fits = last (tag 0 (omega arith)) (on_true (done_spelled Nothing))
callback_spelled (Sys stamp machine uid gid gids) fits = tag 1 (omega arith) ▸ on_false (on_true (last (auth_sys_spelled (record { stamp = stamp; machine = machine; uid = uid; gid = gid; gids = gids }) fits.0 fits.1 fits.2 fits.3 fits.4 fits.5) (done_spelled (Sys stamp machine uid gid gids))))
callback_spelled (Gss service server client) fits = grouped (tag 6 (omega arith) ▸ on_false (on_false (on_true (word_spelled _ fits.0 ▸ owner_spelled server fits.1 ▸ last (owner_spelled client fits.2) (done_spelled (Gss service server client)))))) (simp append_assoc)

create_session_spelled : (x : CreateSession) → CreateSessionFits x → Spelled create_session x (create_session_text x)
unfolding create_session create_session_text
create_session_spelled x fits = grouped (long_spelled _ fits.client ▸ word_spelled _ fits.sequence ▸ word_spelled _ fits.flags ▸ channel_spelled x.fore fits.fore ▸ channel_spelled x.back fits.back ▸ word_spelled _ fits.program
    ▸ last (array_spelled 16 callback callback_text CallbackFits callback_spelled x.callbacks fits.few (omega arith) fits.callbacks) (done_spelled x)) (simp append_assoc)

sequence_spelled : (s : Sequence) → SequenceFits s → Spelled sequence s (sequence_text s)
unfolding sequence sequence_text
sequence_spelled s fits = grouped (fixed_spelled 16 s.session fits.0 ▸ word_spelled _ fits.1 ▸ word_spelled _ fits.2 ▸ word_spelled _ fits.3 ▸ last (flag_spelled s.cachethis) (done_spelled s)) (simp append_assoc)

-- ---- the entry of a number

in_table : (rows : List (ℕ × Args Op)) (number : ℕ) (op : Op) (bytes : List ℕ) → Spelled (picked rows number (unserved number)) op bytes → Spelled (entry rows number) op bytes
in_table [] number op bytes p = p
in_table ((n, f) ∷ more) number op bytes p = on_chosen (eqb number n) f (picked more number (unserved number)) (entry more number) op bytes (in_table more number op bytes) p

row : (number : ℕ) {op : Op} {bytes : List ℕ} → Spelled (picked table number (unserved number)) op bytes → Spelled (arguments number) op bytes
unfolding arguments
row number {op} {bytes} p = in_table table number op bytes p

-- ---- each operation

-- a number, and the arguments of its entry
abbrev SpelledOp : Op → Type 0
SpelledOp op = Spelled {E = ℕ × ℕ} (Then Word arguments) op (op_text op)

pub op_spelled : (op : Op) → OpFits op → SpelledOp op
unfolding op_text access close commit create getattr link lookup nverify opening putfh reading readdir remove rename setattr verify writing exchange_id making_session destroy_session sequencing destroy_clientid reclaim_complete
op_spelled (ops.Access bits) fits = tag op_access (omega arith) ▸ row op_access (last (word_spelled _ fits) (done_spelled (ops.Access bits)))
op_spelled (ops.Close seqid id) fits = grouped (tag op_close (omega arith) ▸ row op_close (word_spelled _ fits.0 ▸ last (state_id_spelled id fits.1) (done_spelled (ops.Close seqid id)))) (simp append_assoc)
op_spelled (ops.Commit offset count) fits = grouped (tag op_commit (omega arith) ▸ row op_commit (long_spelled _ fits.0 ▸ last (word_spelled _ fits.1) (done_spelled (ops.Commit offset count)))) (simp append_assoc)
op_spelled (ops.Create made called given) fits = grouped (tag op_create (omega arith) ▸ row op_create (what_spelled made fits.0 ▸ name_spelled called fits.1 ▸ last (attrs_spelled given fits.2) (done_spelled (ops.Create made called given)))) (simp append_assoc)
op_spelled (ops.GetAttr asked) fits = tag op_getattr (omega arith) ▸ row op_getattr (last (bitmap_spelled asked fits) (done_spelled (ops.GetAttr asked)))
op_spelled ops.GetFh fits = last (tag op_getfh (omega arith)) (row op_getfh (done_spelled ops.GetFh))
op_spelled (ops.Link called) fits = tag op_link (omega arith) ▸ row op_link (last (name_spelled called fits) (done_spelled (ops.Link called)))
op_spelled (ops.Lookup called) fits = tag op_lookup (omega arith) ▸ row op_lookup (last (name_spelled called fits) (done_spelled (ops.Lookup called)))
op_spelled ops.LookupP fits = last (tag op_lookupp (omega arith)) (row op_lookupp (done_spelled ops.LookupP))
op_spelled (ops.NVerify given) fits = tag op_nverify (omega arith) ▸ row op_nverify (last (attrs_spelled given fits) (done_spelled (ops.NVerify given)))
op_spelled (ops.Open seqid access deny client owner how target) fits = grouped (tag op_open (omega arith) ▸ row op_open (word_spelled _ fits.0 ▸ word_spelled _ fits.1 ▸ word_spelled _ fits.2 ▸ long_spelled _ fits.3 ▸ owner_spelled owner fits.4 ▸ making_spelled how fits.5 ▸ last (claim_spelled target fits.6) (done_spelled (ops.Open seqid access deny client owner how target)))) (simp append_assoc)
op_spelled (ops.PutFh handle) fits = tag op_putfh (omega arith) ▸ row op_putfh (last (opaque_spelled 128 handle fits (omega (arith, fits))) (done_spelled (ops.PutFh handle)))
op_spelled ops.PutRootFh fits = last (tag op_putrootfh (omega arith)) (row op_putrootfh (done_spelled ops.PutRootFh))
op_spelled (ops.Read id offset count) fits = grouped (tag op_read (omega arith) ▸ row op_read (state_id_spelled id fits.0 ▸ long_spelled _ fits.1 ▸ last (word_spelled _ fits.2) (done_spelled (ops.Read id offset count)))) (simp append_assoc)
op_spelled (ops.ReadDir cookie verifier dircount maxcount asked) fits = grouped (tag op_readdir (omega arith) ▸ row op_readdir (long_spelled _ fits.0 ▸ fixed_spelled 8 verifier fits.1 ▸ word_spelled _ fits.2 ▸ word_spelled _ fits.3 ▸ last (bitmap_spelled asked fits.4) (done_spelled (ops.ReadDir cookie verifier dircount maxcount asked)))) (simp append_assoc)
op_spelled ops.ReadLink fits = last (tag op_readlink (omega arith)) (row op_readlink (done_spelled ops.ReadLink))
op_spelled (ops.Remove called) fits = tag op_remove (omega arith) ▸ row op_remove (last (name_spelled called fits) (done_spelled (ops.Remove called)))
op_spelled (ops.Rename old new) fits = grouped (tag op_rename (omega arith) ▸ row op_rename (name_spelled old fits.0 ▸ last (name_spelled new fits.1) (done_spelled (ops.Rename old new)))) (simp append_assoc)
op_spelled ops.RestoreFh fits = last (tag op_restorefh (omega arith)) (row op_restorefh (done_spelled ops.RestoreFh))
op_spelled ops.SaveFh fits = last (tag op_savefh (omega arith)) (row op_savefh (done_spelled ops.SaveFh))
op_spelled (ops.SetAttr id given) fits = grouped (tag op_setattr (omega arith) ▸ row op_setattr (state_id_spelled id fits.0 ▸ last (attrs_spelled given fits.1) (done_spelled (ops.SetAttr id given)))) (simp append_assoc)
op_spelled (ops.Verify given) fits = tag op_verify (omega arith) ▸ row op_verify (last (attrs_spelled given fits) (done_spelled (ops.Verify given)))
op_spelled (ops.Write id offset stable content) fits = grouped (tag op_write (omega arith) ▸ row op_write (state_id_spelled id fits.0 ▸ long_spelled _ fits.1 ▸ word_spelled _ fits.2 ▸ last (opaque_spelled DATA_LIMIT content fits.3 (omega (arith, fits.3))) (done_spelled (ops.Write id offset stable content)))) (simp append_assoc)
op_spelled (ops.ExchangeId verifier owner flags made) fits = grouped (tag op_exchange_id (omega arith) ▸ row op_exchange_id (fixed_spelled 8 verifier fits.0 ▸ owner_spelled owner fits.1 ▸ word_spelled _ fits.2 ▸ tag 0 (omega arith) ▸ on_true (last (who_made_spelled made fits.3) (done_spelled (ops.ExchangeId verifier owner flags made))))) (simp append_assoc)
op_spelled (ops.CreateSession x) fits = tag op_create_session (omega arith) ▸ row op_create_session (last (create_session_spelled x fits) (done_spelled (ops.CreateSession x)))
op_spelled (ops.DestroySession session) fits = tag op_destroy_session (omega arith) ▸ row op_destroy_session (last (fixed_spelled 16 session fits) (done_spelled (ops.DestroySession session)))
op_spelled (ops.Sequence x) fits = tag op_sequence (omega arith) ▸ row op_sequence (last (sequence_spelled x fits) (done_spelled (ops.Sequence x)))
op_spelled (ops.DestroyClientId client) fits = tag op_destroy_clientid (omega arith) ▸ row op_destroy_clientid (last (long_spelled _ fits) (done_spelled (ops.DestroyClientId client)))
op_spelled (ops.ReclaimComplete one_fs) fits = tag op_reclaim_complete (omega arith) ▸ row op_reclaim_complete (last (flag_spelled one_fs) (done_spelled (ops.ReclaimComplete one_fs)))
op_spelled (ops.Outside number status) fits = absurd fits
op_spelled (ops.Extra number args) fits = absurd fits
