-- The lengths of results.
use Rattle.std.proofs.Common.{◌≡◌, ◌≤◌, ◌+◌, ℕ, List, [], ◌∷◌, ◌++◌, length, None, refl, ap, ◌∙◌, arith}
use Rattle.std.specs.List.{flat_map}
use Rattle.std.proofs.lemmas.Grind.{flat_map-append}
use Rattle.std.proofs.lemmas.List.{length-append}
use Rattle.std.proofs.lemmas.List.Concat.{flat_map-cons}
use Rattle.lnfs_xdr.specs.Canon.{word, opaque}
use Rattle.lnfs_attrs.specs.Bitmaps.{no_attributes, bitmap_text, trimmed, words_text}
use Rattle.lnfs_arguments.specs.declared.types.Op.{Op}
use Rattle.lnfs_arguments.specs.declared.types.Op.TheVariants as ops
use Rattle.lnfs_arguments.specs.declared.types.Compound.{Compound}
use Rattle.lnfs_results.specs.declared.types.OpResult.{OpResult}
use Rattle.lnfs_results.specs.declared.types.OpResult.TheVariants as results
use Rattle.lnfs_xdr.proofs.Sizes.{length-word, length-long, length-padded, length-opaque}
use Rattle.lnfs_results.specs.Texts.{result_text, fields_text, results_text}
use Rattle.lnfs_arguments.specs.declared.channel.Channel.{Channel}
use Rattle.lnfs_operations.specs.declared.numbers.TheConstants.{MOST_CREATED}
use Rattle.lnfs_arguments.specs.Identifiers.{session_id}
use Rattle.lnfs_operations.specs.Results.{failed, told_result, server_name}
use Rattle.lnfs_operations.specs.Admission.{used}
use Rattle.lnfs_operations.specs.ExchangeId.{Told}
use Rattle.lnfs_arguments.specs.SharedTexts.{channel_text}

pub text_length : (status : ℕ) (tag : List ℕ) (rs : List OpResult) → length (results_text (record { status = status; tag = tag; results = rs })) ≡ 8 + length (opaque tag) + length (flat_map result_text rs)
unfolding results_text
text_length status tag rs = simp (length-append, length-word) (omega arith)

pub used_more : (c : Compound) (rs : List OpResult) (r : OpResult) → used c (rs ++ r ∷ []) ≡ used c rs + length (result_text r)
used_more c rs r = omega (arith, text_length 0 c.tag (rs ++ r ∷ []), text_length 0 c.tag rs, ap length (flat_map-append result_text rs (r ∷ [])), length-append (flat_map result_text rs) (flat_map result_text (r ∷ [])), ap length (flat_map-cons result_text r []), length-append (result_text r) [])

no_words : trimmed no_attributes.words ≡ []
unfolding trimmed
no_words = refl

no_attributes_short : length (bitmap_text no_attributes) ≡ 4
unfolding bitmap_text
no_attributes_short = ap (λ ws. length (words_text ws)) no_words ∙ length-append (word 0) [] ∙ ap (λ n. n + 0) (length-word 0)

pub failed_short : (op : Op) (status : ℕ) → length (result_text (failed op status)) ≤ 12
unfolding result_text fields_text
failed_short (ops.SetAttr id attrs) status = simp (length-append, length-word) (omega (arith, no_attributes_short))
failed_short op status = simp (length-append, length-word) (omega arith)

pub said_short : (number status : ℕ) (bytes : List ℕ) (room : ℕ) → length bytes + 8 ≤ room → length (result_text (results.Extra number status bytes)) ≤ room
unfolding result_text fields_text
said_short number status bytes room within = simp (length-append, length-word) (omega (arith, within))

pub reclaimed_short : length (result_text results.ReclaimComplete) ≤ 8
unfolding result_text fields_text
reclaimed_short = simp (length-append, length-word) (omega arith)

pub sequence_short : (session : List ℕ) (a b d e f : ℕ) → length session ≡ 16 → length (result_text (results.Sequence session a b d e f)) ≤ 47
unfolding result_text fields_text
sequence_short session a b d e f is = simp (length-append, length-word) (omega (arith, is, length-padded session))

pub told_short : (level : ℕ) (t : Told) → length (result_text (told_result level t)) ≤ 96
unfolding result_text fields_text
told_short level t = simp (length-append, length-word, length-long) (omega (arith, length-opaque server_name))

channel_short : (c : Channel) → c.ird ≡ None → length (channel_text c) ≡ 28
unfolding channel_text
channel_short c none = rw none (simp (length-append, length-word) (omega arith))

session_id_length : (level number : ℕ) → length (session_id level number) ≡ 16
session_id_length level number = simp (length-append, length-word, length-long) (omega arith)

pub created_short : (level number step flags : ℕ) (fore back : Channel) → fore.ird ≡ None → back.ird ≡ None → length (result_text (results.CreateSession (session_id level number) step flags fore back)) ≤ 96
unfolding result_text fields_text
created_short level number step flags fore back f b = simp (length-append, length-word) (omega (arith, channel_short fore f, channel_short back b, length-padded (session_id level number), session_id_length level number))

pub destroyed_short : length (result_text results.DestroySession) ≤ 96
unfolding result_text fields_text
destroyed_short = simp (length-append, length-word) (omega arith)

pub ended_short : length (result_text results.DestroyClientId) ≤ 96
unfolding result_text fields_text
ended_short = simp (length-append, length-word) (omega arith)

tag_short : (tag : List ℕ) → length tag ≤ 1024 → length (opaque tag) ≤ 1028
tag_short tag short = omega (arith, short, length-opaque tag)

-- the result of a COMPOUND of one operation
pub one_short : (status : ℕ) (tag : List ℕ) (result : OpResult) → length tag ≤ 1024 → length (result_text result) ≤ 96 → length (results_text (record { status = status; tag = tag; results = result ∷ [] })) ≤ MOST_CREATED
one_short status tag result short one = omega (arith, one, tag_short tag short, text_length status tag (result ∷ []), ap length (flat_map-cons result_text result []), length-append (result_text result) [])

pub none_short : (status : ℕ) (tag : List ℕ) → length tag ≤ 1024 → length (results_text (record { status = status; tag = tag; results = [] })) ≤ MOST_CREATED
none_short status tag short = omega (arith, tag_short tag short, text_length status tag [])
