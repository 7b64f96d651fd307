-- Bytes that begin with others.
use Rattle.std.proofs.Common.{◌≡◌, ◌≤◌, ◌+◌, ℕ, List, ◌++◌, length, take, drop, ap, sym, subst, ◌∙◌, length-take, arith}
use Rattle.std.proofs.lemmas.List.{take-append-drop, take-append-le}
use Rattle.std.proofs.Math.Seq.{take-append_seam}
use Rattle.lnfs_xdr.specs.Written.{Extends}
use Rattle.lnfs_nodes.specs.Walks.{Grows}
use Rattle.lnfs_nodes.specs.declared.entries.Entered.{Entered}
use Rattle.lnfs_nodes.specs.declared.entries.Entered.TheVariants.{Taken}

pub longer : (a b : List ℕ) → Extends a b → length a ≤ length b
longer a b e = omega (arith, ap length e, length-take (length a) b)

pub appended : (a more b : List ℕ) → b ≡ a ++ more → Extends a b
appended a more b is = ap (take (length a)) is ∙ take-append_seam a more

pub extends_on : (a b c : List ℕ) → Extends a b → Extends b c → Extends a c
extends_on a b c first second =
    let rest : List ℕ = drop (length b) c in
    let whole : b ++ rest ≡ c = ap (λ (x : List ℕ). x ++ rest) (sym second) ∙ take-append-drop (length b) c in
    ap (take (length a)) (sym whole) ∙ take-append-le (length a) b rest (longer a b first) ∙ first

-- what was appended leaves room
pub grows_within : (old new : List ℕ) (room : ℕ) (x : Entered) → x ≡ Taken → Grows old new room x → length new ≤ length old + room
grows_within old new room x is grows = subst (Grows old new room) is grows
