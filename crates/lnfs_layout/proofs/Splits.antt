-- Rows of last numbers and their columns.
use Rattle.std.proofs.Common.{◌≡◌, ℕ, zero, suc, List, [], ◌∷◌, length, Ok, refl, ap, sym, ◌∙◌, arith}
use Rattle.std.proofs.lemmas.List.{length-map}
use Rattle.lnfs_xdr.specs.Format.{Done, ◌>>=◌, times}
use Rattle.lnfs_xdr.specs.Reading.{after, read}
use Rattle.lnfs_xdr.proofs.Fields.{after_ok}
use Rattle.lnfs_rows.specs.declared.lists.Lasts.{Lasts}
use Rattle.lnfs_world.specs.World as world
use Rattle.lnfs_world.specs.World.{Id}
use Rattle.lnfs_rows.specs.Lasts.{given_of}
use Rattle.lnfs_rows.specs.World.{AreOf, lasts_of}
use Rattle.lnfs_layout.specs.declared.lasts.LastRow.{LastRow}
use Rattle.lnfs_layout.specs.Grammar.{Rows, last_row}
use Rattle.lnfs_layout.specs.Lasts.{IsSplit}
use Rattle.lnfs_layout.specs.Whole.{lasts_told, lock_lasts_told, last_numbers}

-- so many rows are so many
times_length : {A : Type 0} (f : Rows A) (n : ℕ) (bytes : List ℕ) (x : List A × List ℕ) → read (times n f) bytes ≡ Ok x → length x.0 ≡ n
times_length f zero bytes x e = let same : ([], bytes) ≡ x = cc in ap (λ (p : List _ × List ℕ). length p.0) (sym same)
times_length f (suc n) bytes x e =
    let a = after_ok (read f bytes) (λ y rest. read (times n f >>= λ ys. Done (y ∷ ys)) rest) x e in
    let b = after_ok (read (times n f) a.0.1) (λ ys rest. read (Done (a.0.0 ∷ ys)) rest) x a.2 in
    let same : (a.0.0 ∷ b.0.0, b.0.1) ≡ x = (let is = b.2 in cc) in
    omega (arith, times_length f n a.0.1 b.0 b.1, ap (λ (p : List _ × List ℕ). length p.0) same)

split_told : (rows : List LastRow) (l : Lasts) (locks : List ℕ) → IsSplit rows l locks → lasts_told rows ≡ lasts_of l
split_told rows l locks s = rw (s.clients, s.sessions, s.contexts, s.nodes, s.opens) refl

abbrev beside : world.Lasts → List Id → world.Lasts × List Id
beside l locks = (l, locks)

both_told : (rows : List LastRow) (l : Lasts) (locks : List ℕ) → IsSplit rows l locks → beside (lasts_told rows) (lock_lasts_told rows) ≡ beside (lasts_of l) (given_of locks)
both_told rows l locks s = ap (λ (x : world.Lasts). beside x (lock_lasts_told rows)) (split_told rows l locks s) ∙ ap (λ (ns : List ℕ). beside (lasts_of l) (given_of ns)) (sym s.locks)

pub lasts_read : (levels : ℕ) (bytes rest : List ℕ) (rows : List LastRow) (l : Lasts) (locks : List ℕ) → read (times levels last_row) bytes ≡ Ok (rows, rest) → IsSplit rows l locks
    → read (last_numbers levels) bytes ≡ Ok ((lasts_of l, given_of locks), rest)
unfolding last_numbers
lasts_read levels bytes rest rows l locks e s = ap (λ r. after r (λ x end. Ok (beside (lasts_told x) (lock_lasts_told x), end))) e ∙ ap (λ (x : world.Lasts × List Id). Ok (x, rest)) (both_told rows l locks s)

pub are_of : (levels : ℕ) (bytes rest : List ℕ) (rows : List LastRow) (l : Lasts) (locks : List ℕ) → read (times levels last_row) bytes ≡ Ok (rows, rest) → IsSplit rows l locks → AreOf levels l × (length locks ≡ levels)
are_of levels bytes rest rows l locks e s =
    let size : length rows ≡ levels = times_length last_row levels bytes (rows, rest) e in
    let each : AreOf levels l = record {
      clients = ap length s.clients ∙ length-map rows (λ r. r.clients) ∙ size;
      sessions = ap length s.sessions ∙ length-map rows (λ r. r.sessions) ∙ size;
      contexts = ap length s.contexts ∙ length-map rows (λ r. r.contexts) ∙ size;
      nodes = ap length s.nodes ∙ length-map rows (λ r. r.nodes) ∙ size;
      opens = ap length s.opens ∙ length-map rows (λ r. r.opens) ∙ size;
    } in
    (each, ap length s.locks ∙ length-map rows (λ r. r.locks) ∙ size)
