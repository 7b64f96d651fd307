-- Streams that are cut.
use Rattle.std.proofs.Common.{◌≡◌, ℕ, List, [], ◌∷◌, ◌++◌, refl, sym, subst, ◌∙◌}
use Rattle.lnfs_xdr.proofs.Laws.{one_spelling}
use Rattle.lnfs_rpc.specs.Formats.{whole_record}
use Rattle.lnfs_rpc.specs.CallGrammar.{Begins}
use Rattle.lnfs_rpc.specs.Records.{Stream}

-- one record more
pub stream_push : (bytes : List ℕ) (records : List (List ℕ)) (rest r new : List ℕ) → Stream bytes records rest → Begins whole_record r rest (λ more. more ≡ new) → Stream bytes (records ++ r ∷ []) new
stream_push bytes [] rest r new s b = subst (λ (l : List ℕ). Stream l (r ∷ []) new) (sym s) b
stream_push bytes (x ∷ records) rest r new s b = (s.0, s.1, s.2, s.3, stream_push s.1 records rest r new s.4 b)

-- some records, and then the others
pub stream_parts : (bytes : List ℕ) (rs ss : List (List ℕ)) (end : List ℕ) → Stream bytes (rs ++ ss) end → (between : List ℕ) × Stream bytes rs between × Stream between ss end
stream_parts bytes [] ss end s = (bytes, refl, s)
stream_parts bytes (r ∷ rs) ss end s =
    let more = stream_parts s.1 rs ss end s.4 in
    (more.0, (s.0, s.1, s.2, s.3, more.1), more.2)

-- records leave one rest
pub one_rest : (bytes : List ℕ) (rs : List (List ℕ)) (a b : List ℕ) → Stream bytes rs a → Stream bytes rs b → a ≡ b
one_rest bytes [] a b s t = sym s ∙ t
one_rest bytes (r ∷ rs) a b s t =
    let same = one_spelling whole_record r r s.0 t.0 s.1 t.1 s.2 t.2 (sym s.3 ∙ t.3) in
    one_rest s.1 rs a b s.4 (subst (λ (x : List ℕ). Stream x rs b) (sym same.1) t.4)
