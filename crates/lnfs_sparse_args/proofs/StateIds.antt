-- A state id is the same structure in the formats of the table and in those of sparse files: they differ in how a format may be left.
use Rattle.std.proofs.Common.{◌≡◌, ℕ, List, [], Ok, Err, Result, refl, sym, ap, ◌∙◌}
use Rattle.lnfs_xdr.specs.declared.error.XdrError.{XdrError}
use Rattle.lnfs_xdr.specs.declared.error.XdrError.TheVariants.{Short}
use Rattle.lnfs_xdr.specs.Reading.{Item, Read, Fault, Leaves, after, here, read, number_at, padded_at}
use Rattle.lnfs_xdr.specs.Cursor.{Cursor, Parses}
use Rattle.lnfs_arguments.specs.declared.stateid.StateId.{StateId}
use Rattle.lnfs_arguments.specs.Shared as shared
use Rattle.lnfs_sparse_ops.specs.Arguments.{state_id}
use Rattle.std.specs.Int.{w32}

-- what no format leaves is read alike
abbrev unleft : {A : Type 0} → Read (ℕ × ℕ) A → Read ⊥ A
unleft (Ok x) = Ok x
unleft (Err (Fault c stuck)) = Err (Fault c stuck)
unleft (Err (Leaves e)) = Err (Fault Short [])

abbrev made : {E : Type 0} → ℕ → List ℕ → List ℕ → Read E StateId
made seqid other end = Ok (record { seqid = seqid; other = other }, end)

abbrev behind : {E : Type 0} → Item (List ℕ) → ℕ → List ℕ → Read E StateId
behind second seqid rest = after (here rest second) (made seqid)

abbrev items : {E : Type 0} → Item ℕ → (List ℕ → Item (List ℕ)) → List ℕ → Read E StateId
items first second bytes = after (here bytes first) (λ seqid rest. behind (second rest) seqid rest)

behind_alike : (second : Item (List ℕ)) (seqid : ℕ) (rest : List ℕ) → unleft {A = StateId} (behind second seqid rest) ≡ behind second seqid rest
behind_alike (Ok x) seqid rest = refl
behind_alike (Err c) seqid rest = refl

alike : (first : Item ℕ) (second : List ℕ → Item (List ℕ)) (bytes : List ℕ) → unleft {A = StateId} (items first second bytes) ≡ items first second bytes
alike (Ok x) second bytes = behind_alike (second x.1) x.0 x.1
alike (Err c) second bytes = refl

same : (bytes : List ℕ) → unleft {A = StateId} (read shared.state_id bytes) ≡ read state_id bytes
unfolding shared.state_id state_id
same bytes = alike (number_at w32 bytes) (λ rest. padded_at 12 rest) bytes

pub taken : (result : Result StateId XdrError) (old new : Cursor) → Parses (λ x. x) result old new (read shared.state_id old.rest) → Parses (λ x. x) result old new (read state_id old.rest)
taken (Ok x) old new p = (sym (same old.rest) ∙ ap (unleft {A = StateId}) p.0, p.1)
taken (Err e) old new p = (sym (same old.rest) ∙ ap (unleft {A = StateId}) p.0, p.1)
