-- How long the arguments of a COMPOUND can be.
use Rattle.std.proofs.Common.{◌≤◌, ◌<◌, ◌+◌, ◌*◌, ◌^◌, ℕ, List, [], ◌∷◌, length, All, Option, Some, None, codes, refl, arith, lit<, length-append}
use Rattle.std.specs.List.{flat_map, AllByRecursion}
use Rattle.std.proofs.lemmas.List.Concat.{flat_map-cons}
use Rattle.std.proofs.lemmas.List.Elements.{recursion_from_All, All-from_recursion}
use Rattle.lnfs_xdr.specs.Canon.{word, padded, opaque}
use Rattle.lnfs_xdr.proofs.Sizes.{length-word, length-long, length-flag, length-padded, length-opaque, length-words}
use Rattle.lnfs_attrs.specs.declared.bitmap.Bitmap.{Bitmap}
use Rattle.lnfs_attrs.specs.declared.raw.RawAttrs.{RawAttrs}
use Rattle.lnfs_attrs.specs.declared.view.LabelValue.{LabelValue}
use Rattle.lnfs_attrs.specs.Bitmaps.{BitmapFits, IsWord, bitmap_text, trimmed}
use Rattle.lnfs_attrs.proofs.Words.{trimmed_short}
use Rattle.lnfs_arguments.specs.declared.numbers.TheConstants.{OP_LIMIT}
use Rattle.lnfs_arguments.specs.declared.stateid.StateId.{StateId}
use Rattle.lnfs_arguments.specs.declared.channel.Channel.{Channel}
use Rattle.lnfs_arguments.specs.declared.types.Op.{Op}
use Rattle.lnfs_arguments.specs.declared.types.Op.TheVariants as ops
use Rattle.lnfs_arguments.specs.declared.types.What.{What}
use Rattle.lnfs_arguments.specs.declared.types.What.TheVariants.{Dir, Symlink}
use Rattle.lnfs_arguments.specs.declared.types.Making.{Making}
use Rattle.lnfs_arguments.specs.declared.types.Making.TheVariants.{Unchecked, Guarded, Exclusive}
use Rattle.lnfs_arguments.specs.declared.types.Claim.{Claim}
use Rattle.lnfs_arguments.specs.declared.types.Claim.TheVariants.{Name, Handle}
use Rattle.lnfs_arguments.specs.declared.types.Callback.{Callback}
use Rattle.lnfs_arguments.specs.declared.types.Callback.TheVariants.{Nothing, Sys, Gss}
use Rattle.lnfs_arguments.specs.declared.types.CreateSession.{CreateSession}
use Rattle.lnfs_arguments.specs.declared.types.Implementation.{Implementation}
use Rattle.lnfs_arguments.specs.declared.types.Sequence.{Sequence}
use Rattle.lnfs_arguments.specs.SharedTexts.{attrs_text, state_id_text, channel_text, optional_word, AttrsFit, StateIdFits}
use Rattle.lnfs_requests.specs.Texts.{what_text, making_text, claim_text, implementation_text, sys_text, callback_text, create_session_text, sequence_text, op_text, compound_text}
use Rattle.lnfs_requests.specs.Fits.{WhatFits, MakingFits, ClaimFits, ImplementationFits, CallbackFits, CreateSessionFits, SequenceFits, OpFits}
use Rattle.lnfs_asking.specs.Labels.{IsShort, label_alone, as_attributes}
use Rattle.lnfs_asking.specs.Sending.{compound_of}

-- ---- items

opaque_short : (v : List ℕ) (most : ℕ) → length v ≤ most → length (opaque v) ≤ most + 7
opaque_short v most short = omega (arith, length-opaque v)

padded_short : (v : List ℕ) (most : ℕ) → length v ≤ most → length (padded v) ≤ most + 3
padded_short v most short = omega (arith, length-padded v)

bitmap_short : (b : Bitmap) → BitmapFits b → length (bitmap_text b) ≤ 36
unfolding bitmap_text
bitmap_short b fits =
    let e = fits.0 in
    omega (arith, length-append (word (length (trimmed b.words))) (flat_map word (trimmed b.words)), length-word (length (trimmed b.words)), length-words (trimmed b.words), trimmed_short b.words)

attrs_short : (a : RawAttrs) → AttrsFit a → length (attrs_text a) ≤ 65579
unfolding attrs_text
attrs_short a fits = simp length-append (omega (arith, bitmap_short a.mask fits.0, opaque_short a.list 65536 fits.1))

state_id_short : (s : StateId) → StateIdFits s → length (state_id_text s) ≤ 19
unfolding state_id_text
state_id_short s fits = simp (length-append, length-word) (omega (arith, padded_short s.other 12 (omega (arith, fits.1))))

optional_short : (n : Option ℕ) → length (optional_word n) ≤ 8
optional_short None = omega (arith, length-word 0)
optional_short (Some n) = simp (length-append, length-word) (omega arith)

channel_short : (c : Channel) → length (channel_text c) ≤ 32
unfolding channel_text
channel_short c = simp (length-append, length-word) (omega (arith, optional_short c.ird))

-- ---- parts of operations

what_short : (w : What) → WhatFits w → length (what_text w) ≤ 65547
unfolding what_text
what_short (Symlink text) fits = simp (length-append, length-word) (omega (arith, opaque_short text 65536 fits))
what_short Dir fits = omega (arith, length-word 2)

making_short : (m : Option Making) → MakingFits m → length (making_text m) ≤ 65598
unfolding making_text
making_short None fits = omega (arith, length-word 0)
making_short (Some (Unchecked a)) fits = simp (length-append, length-word) (omega (arith, attrs_short a fits))
making_short (Some (Guarded a)) fits = simp (length-append, length-word) (omega (arith, attrs_short a fits))
making_short (Some (Exclusive v a)) fits = simp (length-append, length-word) (omega (arith, padded_short v 8 (omega (arith, fits.0)), attrs_short a fits.1))

claim_short : (c : Claim) → ClaimFits c → length (claim_text c) ≤ 65547
unfolding claim_text
claim_short (Name n) fits = simp (length-append, length-word) (omega (arith, opaque_short n 65536 fits))
claim_short Handle fits = omega (arith, length-word 4)

implementation_short : (i : Option Implementation) → ImplementationFits i → length (implementation_text i) ≤ 2078
unfolding implementation_text
implementation_short None fits = omega (arith, length-word 0)
implementation_short (Some i) fits = simp (length-append, length-word, length-long) (omega (arith, opaque_short i.domain 1024 fits.0, opaque_short i.name 1024 fits.1))

callback_short : (c : Callback) → CallbackFits c → length (callback_text c) ≤ 2070
unfolding callback_text sys_text
callback_short Nothing fits = omega (arith, length-word 0)
callback_short (Sys stamp machine uid gid gids) fits = simp (length-append, length-word, length-words) (omega (arith, opaque_short machine 255 fits.1, fits.4))
callback_short (Gss service server client) fits = simp (length-append, length-word) (omega (arith, opaque_short server 1024 fits.1, opaque_short client 1024 fits.2))

callbacks_short : (cs : List Callback) → AllByRecursion CallbackFits cs → length (flat_map callback_text cs) ≤ 2070 * length cs
callbacks_short [] fit = omega arith
callbacks_short (c ∷ cs) fit = rw flat_map-cons (simp length-append (omega (arith, callback_short c fit.0, callbacks_short cs fit.1)))

create_session_short : (x : CreateSession) → CreateSessionFits x → length (create_session_text x) ≤ 40000
unfolding create_session_text
create_session_short x fits = simp (length-append, length-word, length-long) (omega (arith, channel_short x.fore, channel_short x.back, fits.few, callbacks_short x.callbacks (recursion_from_All CallbackFits x.callbacks fits.callbacks)))

sequence_short : (s : Sequence) → SequenceFits s → length (sequence_text s) ≤ 40
unfolding sequence_text
sequence_short s fits = simp (length-append, length-word, length-flag) (omega (arith, padded_short s.session 16 (omega (arith, fits.0))))

-- ---- operations

op_short : (op : Op) → OpFits op → length (op_text op) ≤ 262144
unfolding op_text
op_short (ops.Access bits) fits = simp (length-append, length-word) (omega arith)
op_short (ops.Close seqid id) fits = simp (length-append, length-word) (omega (arith, state_id_short id fits.1))
op_short (ops.Commit offset count) fits = simp (length-append, length-word, length-long) (omega arith)
op_short (ops.Create made called given) fits = simp (length-append, length-word) (omega (arith, what_short made fits.0, opaque_short called 65536 fits.1, attrs_short given fits.2))
op_short (ops.GetAttr asked) fits = simp (length-append, length-word) (omega (arith, bitmap_short asked fits))
op_short ops.GetFh fits = simp length-word (omega arith)
op_short (ops.Link called) fits = simp (length-append, length-word) (omega (arith, opaque_short called 65536 fits))
op_short (ops.Lookup called) fits = simp (length-append, length-word) (omega (arith, opaque_short called 65536 fits))
op_short ops.LookupP fits = simp length-word (omega arith)
op_short (ops.NVerify given) fits = simp (length-append, length-word) (omega (arith, attrs_short given fits))
op_short (ops.Open seqid access deny client owner how target) fits = simp (length-append, length-word, length-long) (omega (arith, opaque_short owner 1024 fits.4, making_short how fits.5, claim_short target fits.6))
op_short (ops.PutFh handle) fits = simp (length-append, length-word) (omega (arith, opaque_short handle 128 fits))
op_short ops.PutRootFh fits = simp length-word (omega arith)
op_short (ops.Read id offset count) fits = simp (length-append, length-word, length-long) (omega (arith, state_id_short id fits.0))
op_short (ops.ReadDir cookie verifier dircount maxcount asked) fits = simp (length-append, length-word, length-long) (omega (arith, padded_short verifier 8 (omega (arith, fits.1)), bitmap_short asked fits.4))
op_short ops.ReadLink fits = simp length-word (omega arith)
op_short (ops.Remove called) fits = simp (length-append, length-word) (omega (arith, opaque_short called 65536 fits))
op_short (ops.Rename old new) fits = simp (length-append, length-word) (omega (arith, opaque_short old 65536 fits.0, opaque_short new 65536 fits.1))
op_short ops.RestoreFh fits = simp length-word (omega arith)
op_short ops.SaveFh fits = simp length-word (omega arith)
op_short (ops.SetAttr id given) fits = simp (length-append, length-word) (omega (arith, state_id_short id fits.0, attrs_short given fits.1))
op_short (ops.Verify given) fits = simp (length-append, length-word) (omega (arith, attrs_short given fits))
op_short (ops.Write id offset stable content) fits = simp (length-append, length-word, length-long) (omega (arith, state_id_short id fits.0, opaque_short content 131072 fits.3))
op_short (ops.ExchangeId verifier owner flags made) fits = simp (length-append, length-word) (omega (arith, padded_short verifier 8 (omega (arith, fits.0)), opaque_short owner 1024 fits.1, implementation_short made fits.3))
op_short (ops.CreateSession x) fits = simp (length-append, length-word) (omega (arith, create_session_short x fits))
op_short (ops.DestroySession session) fits = simp (length-append, length-word) (omega (arith, padded_short session 16 (omega (arith, fits))))
op_short (ops.Sequence x) fits = simp (length-append, length-word) (omega (arith, sequence_short x fits))
op_short (ops.DestroyClientId client) fits = simp (length-append, length-word, length-long) (omega arith)
op_short (ops.ReclaimComplete one_fs) fits = simp (length-append, length-word, length-flag) (omega arith)
op_short (ops.Outside number status) fits = absurd fits
op_short (ops.Extra number args) fits = absurd fits

ops_short : (xs : List Op) → AllByRecursion OpFits xs → length (flat_map op_text xs) ≤ 262144 * length xs
ops_short [] fit = omega arith
ops_short (op ∷ xs) fit = rw flat_map-cons (simp length-append (omega (arith, op_short op fit.0, ops_short xs fit.1)))

pub compound_short : (xs : List Op) → All OpFits xs → length xs ≤ OP_LIMIT → length (compound_text (compound_of xs)) < 2 ^ 31
unfolding compound_text
compound_short xs fit few = simp (length-append, length-word) (omega (arith, opaque_short [] 0 (omega arith), ops_short xs (recursion_from_All OpFits xs fit)))

-- ---- what is compared or set, and the credential of a guest

alone_fits : BitmapFits label_alone
alone_fits = (refl, All-from_recursion IsWord label_alone.words (lit< tt, (lit< tt, (lit< tt, (lit< tt, (lit< tt, (lit< tt, (lit< tt, (lit< tt, tt)))))))))

pub attributes_fit : (v : LabelValue) → IsShort v → AttrsFit (as_attributes v)
attributes_fit v short = (alone_fits, simp (length-append, length-word) (omega (arith, opaque_short v.bytes 1024 short)))

pub guest_short : (uid : ℕ) → length (sys_text (record { stamp = 0; machine = codes "client"; uid = uid; gid = 0; gids = [] })) < 2 ^ 32
unfolding sys_text
guest_short uid = simp (length-append, length-word, length-words) (omega (arith, opaque_short (codes "client") 6 (omega arith)))
