-- The records of generated events are short.
use Rattle.std.proofs.Common.{◌≡◌, ℕ, ◌+◌, ◌/◌, ◌%◌, ◌^◌, ◌<◌, ◌≤◌, Bool, true, false, cond, ◌==◌, List, [], ◌∷◌, ◌++◌, length, replicate, codes, decimal, None, refl, ap, arith, length-append}
use Rattle.std.specs.List.{flat_map}
use Rattle.std.proofs.lemmas.List.{length-replicate}
use Rattle.std.proofs.lemmas.List.Concat.{flat_map-cons}
use Rattle.std.proofs.lemmas.Fmt.{length-decimal-le}
use Rattle.lnfs_xdr.specs.Canon.{word, padded, opaque}
use Rattle.lnfs_xdr.proofs.Sizes.{length-word, length-long, length-flag, length-padded, length-opaque, length-words}
use Rattle.lnfs_attrs.specs.declared.bitmap.Bitmap.{Bitmap}
use Rattle.lnfs_attrs.specs.Bitmaps.{no_attributes, bitmap_text, trimmed}
use Rattle.lnfs_attrs.proofs.Words.{trimmed_short}
use Rattle.lnfs_arguments.specs.declared.types.Op.{Op}
use Rattle.lnfs_arguments.specs.declared.types.Op.TheVariants as ops
use Rattle.lnfs_arguments.specs.SharedTexts.{attrs_text, state_id_text, channel_text}
use Rattle.lnfs_arguments.specs.Identifiers.{session_id}
use Rattle.lnfs_requests.specs.Texts.{op_text, sys_text, create_session_text, sequence_text, making_text, claim_text, implementation_text, compound_text}
use Rattle.lnfs_rpc.specs.Numbers.{last_procedure}
use Rattle.lnfs_traffic.specs.declared.guests.Row.{Row}
use Rattle.lnfs_traffic.specs.declared.turns.Turn.{Turn}
use Rattle.lnfs_calls.specs.CallTexts.{auth_text, header_text, call_text}
use Rattle.lnfs_traffic.specs.Generated.{channel, type_and_size, type_and_label, anonymous, name, open_op, root_ops, ops_of, content, compound_of, credential, no_verifier, message}

-- ---- names and items

pub name_short : (pick : ℕ) → length (name pick) ≤ 3
name_short pick =
    let small : pick / 4 % 100 < 100 = omega arith in
    omega (arith, length-append (codes "g") (decimal (pick / 4 % 100)), length-decimal-le 2 (pick / 4 % 100) (omega arith) (omega arith) (omega arith))

pub owner_short : (place : ℕ) → place < 2 ^ 32 → length (codes "gen" ++ decimal place) ≤ 13
owner_short place small =
    omega (arith, length-append (codes "gen") (decimal place), length-decimal-le 10 place (omega arith) (omega arith) (omega arith))

opaque_short : (v : List ℕ) (most : ℕ) → length v ≤ most → length (opaque v) ≤ most + 7
opaque_short v most short = omega (arith, length-opaque v)

padded_short : (v : List ℕ) (most : ℕ) → length v ≤ most → length (padded v) ≤ most + 3
padded_short v most short = omega (arith, length-padded v)

bitmap_short : (b : Bitmap) → length b.words ≡ 8 → length (bitmap_text b) ≤ 36
unfolding bitmap_text
bitmap_short b e =
    omega (arith, length-append (word (length (trimmed b.words))) (flat_map word (trimmed b.words)), length-word (length (trimmed b.words)), length-words (trimmed b.words), trimmed_short b.words)

-- ---- operations

exchange_short : (owner : List ℕ) → length owner ≤ 13 → length (op_text (ops.ExchangeId (replicate 8 0) owner 0 None)) ≤ 60
unfolding op_text implementation_text
exchange_short owner short = simp (length-append, length-word) (omega (arith, padded_short (replicate 8 0) 8 (omega (arith, length-replicate {A = ℕ} 8 0)), opaque_short owner 13 short))

create_session_short : (client : ℕ) → length (op_text (ops.CreateSession (record { client = client; sequence = 1; flags = 0; fore = channel; back = channel; program = 0; callbacks = [] }))) ≤ 100
unfolding op_text create_session_text channel_text
create_session_short client = simp (length-append, length-word, length-long) (omega arith)

sequence_short : (session : List ℕ) (number : ℕ) → length session ≡ 16 → length (op_text (ops.Sequence (record { session = session; sequence = number; slot = 0; highest = 0; cachethis = true }))) ≤ 40
unfolding op_text sequence_text
sequence_short session number e = simp (length-append, length-word, length-flag) (omega (arith, padded_short session 16 (omega arith)))

putrootfh_short : length (op_text ops.PutRootFh) ≤ 4
unfolding op_text
putrootfh_short = simp length-word (omega arith)

readdir_short : length (op_text (ops.ReadDir 0 (replicate 8 0) 4096 4096 type_and_label)) ≤ 80
unfolding op_text
readdir_short = simp (length-append, length-word, length-long) (omega (arith, padded_short (replicate 8 0) 8 (omega (arith, length-replicate {A = ℕ} 8 0)), bitmap_short type_and_label refl))

open_short : (client pick : ℕ) → length (op_text (open_op client pick)) ≤ 120
unfolding op_text making_text claim_text attrs_text
open_short client pick = simp (length-append, length-word, length-long) (omega (arith, opaque_short (codes "o") 1 (omega arith), opaque_short [] 0 (omega arith), opaque_short (name pick) 3 (name_short pick), bitmap_short no_attributes refl))

lookup_short : (pick : ℕ) → length (op_text (ops.Lookup (name pick))) ≤ 14
unfolding op_text
lookup_short pick = simp (length-append, length-word) (omega (arith, opaque_short (name pick) 3 (name_short pick)))

getattr_short : length (op_text (ops.GetAttr type_and_size)) ≤ 40
unfolding op_text
getattr_short = simp (length-append, length-word) (omega (arith, bitmap_short type_and_size refl))

write_short : (bytes : List ℕ) → length bytes ≤ 64 → length (op_text (ops.Write anonymous 0 0 bytes)) ≤ 110
unfolding op_text state_id_text
write_short bytes short = simp (length-append, length-word, length-long) (omega (arith, padded_short (replicate 12 0) 12 (omega (arith, length-replicate {A = ℕ} 12 0)), opaque_short bytes 64 short))

-- ---- lists of operations

record AreShort (most : ℕ) (all : List Op) : Type 0 where
  pub within : length (flat_map op_text all) ≤ most

none_short : AreShort 0 []
none_short = record { within = omega arith }

more_short : (op : Op) (all : List Op) (m n : ℕ) → length (op_text op) ≤ m → AreShort n all → AreShort (m + n) (op ∷ all)
more_short op all m n first others = record { within = omega (arith, ap length (flat_map-cons op_text op all), length-append (op_text op) (flat_map op_text all), others.within) }

looser : (m n : ℕ) (all : List Op) → AreShort m all → m ≤ n → AreShort n all
looser m n all short le = record { within = omega (arith, short.within) }

either : (b : Bool) (most : ℕ) (xs ys : List Op) → AreShort most xs → AreShort most ys → AreShort most (cond b xs ys)
either true most xs ys x y = x
either false most xs ys x y = y

root_short : (client : ℕ) (bytes : List ℕ) (pick : ℕ) → length bytes ≤ 64 → AreShort 124 (root_ops client bytes pick)
root_short client bytes pick short =
    either (pick % 4 == 0) 124 _ _ (looser 80 124 _ (more_short _ _ 80 0 readdir_short none_short) (omega arith))
    (either (pick % 4 == 1) 124 _ _ (looser 120 124 _ (more_short _ _ 120 0 (open_short client pick) none_short) (omega arith))
    (either (pick % 4 == 2) 124 _ _ (looser 54 124 _ (more_short _ _ 14 40 (lookup_short pick) (more_short _ _ 40 0 getattr_short none_short)) (omega arith))
    (more_short _ _ 14 110 (lookup_short pick) (more_short _ _ 110 0 (write_short bytes short) none_short))))

session_length : (level number : ℕ) → length (session_id level number) ≡ 16
session_length level number = simp (length-append, length-word, length-long) refl

all_short : (row : Row) (turn : Turn) (bytes : List ℕ) → turn.place < 2 ^ 32 → length bytes ≤ 64 → AreShort 168 (ops_of row turn bytes)
all_short row turn bytes small short =
    either (turn.past.events == 0) 168 _ _ (looser 60 168 _ (more_short _ _ 60 0 (exchange_short _ (owner_short turn.place small)) none_short) (omega arith))
    (either (turn.past.events == 1) 168 _ _ (looser 100 168 _ (more_short _ _ 100 0 (create_session_short _) none_short) (omega arith))
    (more_short _ _ 40 128 (sequence_short _ _ (session_length row.level turn.past.session))
    (more_short _ _ 4 124 putrootfh_short (root_short _ bytes turn.pick short))))

-- ---- records

pub sys_length : (uid : ℕ) → length (credential uid).body ≤ 27
unfolding sys_text
sys_length uid = simp (length-append, length-word) (omega (arith, opaque_short (codes "gen") 3 (omega arith)))

call_short : (xid uid : ℕ) (arguments : List ℕ) → length (call_text xid last_procedure (credential uid) no_verifier arguments) ≤ 73 + length arguments
unfolding call_text header_text auth_text
call_short xid uid arguments = simp (length-append, length-word) (omega (arith, opaque_short (credential uid).body 27 (sys_length uid), opaque_short [] 0 (omega arith)))

compound_short : (all : List Op) → AreShort 168 all → length (compound_text (compound_of all)) ≤ 183
unfolding compound_text
compound_short all short = simp (length-append, length-word) (omega (arith, short.within, opaque_short [] 0 (omega arith)))

-- the arguments of the code are the definition's
pub made : (tag : List ℕ) (count : ℕ) (all ops : List Op) → tag ≡ [] → count ≡ length all → all ≡ ops → record { tag = tag; minor = 2; count = count; ops = all } ≡ compound_of ops
made tag count all ops t n e = rw (t, n, e) refl

pub message_short : (row : Row) (turn : Turn) → turn.place < 2 ^ 32 → length (message row turn) ≤ 131072
unfolding message
message_short row turn small =
    let bytes : List ℕ = content turn.event in
    let short : AreShort 168 (ops_of row turn bytes) = all_short row turn bytes small (omega (arith, length-replicate {A = ℕ} 64 (turn.event % 256))) in
    omega (arith, call_short turn.event row.uid (compound_text (compound_of (ops_of row turn bytes))), compound_short (ops_of row turn bytes) short)
