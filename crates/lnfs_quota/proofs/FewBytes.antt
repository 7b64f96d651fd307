-- The bytes of nodes in bounds are few.
use Rattle.std.proofs.Common.{◌≡◌, ◌+◌, ◌*◌, ◌<◌, ◌≤◌, ◌==◌, ℕ, Bool, true, false, cond, List, [], ◌∷◌, refl, arith}
use Rattle.std.specs.Prelude.{nat_lt}
use Rattle.std.specs.Ordering.{nat_cmp, ordering_then}
use Rattle.std.specs.declared.cmp.Ordering.{Ordering}
use Rattle.std.specs.declared.cmp.Ordering.TheVariants.{Less, Equal, Greater}
use Rattle.std.specs.List.{AllByRecursion}
use Rattle.std.proofs.lemmas.Bool.Decides.{nat_tests}
use Rattle.std.proofs.lemmas.List.Sums.{sum_by-cons}
use Rattle.lnfs_world.specs.Rows.{Rising}
use Rattle.lnfs_world.specs.World.{Id, Node, node_order, id_order}
use Rattle.lnfs_world.specs.Usage.{bytes_used, bytes_of}
use Rattle.lnfs_world.proofs.Rows.{all_weaker}
use Rattle.lnfs_quota.specs.Totals.{IsInBounds, label_share}

-- where an identifier stands among all that a level may give to a file
abbrev key : Id → ℕ
key i = 4294967296 * i.level + i.number

-- identifiers in their order have keys in theirs
key_less : (a b : Id) → a.number ≤ 4294967295 → id_order a b ≡ Less → key a + 1 ≤ key b
key_less a b number less = at (nat_cmp a.level b.level) refl less
  where
    at : (o : Ordering) → nat_cmp a.level b.level ≡ o → ordering_then o (nat_cmp a.number b.number) ≡ Less → key a + 1 ≤ key b
    at Less is e = let lower : a.level + 1 ≤ b.level = grind (arith, nat_tests, is) in omega arith
    at Equal is e = let same : a.level ≡ b.level = grind (arith, nat_tests, is) in let lower : a.number + 1 ≤ b.number = grind (arith, nat_tests, e) in omega arith
    at Greater is e = absurd cc

-- files from a key on
abbrev From : (a : ℕ) → Node → Type 0
From a n = 0 < bytes_of n n.kind → a ≤ key n.id

share_bound : (n : Node) (k : ℕ) → IsInBounds n → label_share n k ≤ 16777216
share_bound n k b = at (n.label == k)
  where
    at : (own : Bool) → cond own (bytes_of n n.kind) 0 ≤ 16777216
    at true = b.bytes
    at false = omega arith

share_none : (n : Node) (k : ℕ) → bytes_of n n.kind ≡ 0 → label_share n k ≡ 0
share_none n k none = at (n.label == k)
  where
    at : (own : Bool) → cond own (bytes_of n n.kind) 0 ≡ 0
    at true = none
    at false = refl

-- each file takes a key of its own, and there are 2 ^ 37 of them
few_from : (k a : ℕ) (nodes : List Node) → AllByRecursion IsInBounds nodes → Rising node_order nodes → AllByRecursion (From a) nodes → a ≤ 137438953472 → bytes_used nodes k + 16777216 * a ≤ 2305843009213693952
few_from k a [] bounds rise above fits = omega arith
few_from k a (n ∷ ns) bounds rise above fits = rw (sum_by-cons (λ (m : Node). label_share m k) n ns) (at (nat_lt 0 (bytes_of n n.kind)) refl (λ b from few. few_from k b ns bounds.1 rise.1 from few))
  where
    at : (b : Bool) → nat_lt 0 (bytes_of n n.kind) ≡ b → ((b : ℕ) → AllByRecursion (From b) ns → b ≤ 137438953472 → bytes_used ns k + 16777216 * b ≤ 2305843009213693952) → label_share n k + bytes_used ns k + 16777216 * a ≤ 2305843009213693952
    at false is rest_from =
        let none : bytes_of n n.kind ≡ 0 = grind (arith, nat_tests, is) in
        let here : label_share n k ≡ 0 = share_none n k none in
        let rest : bytes_used ns k + 16777216 * a ≤ 2305843009213693952 = rest_from a above.1 fits in
        omega arith
    at true is rest_from =
        let some : 0 < bytes_of n n.kind = grind (arith, nat_tests, is) in
        let number : n.id.number ≤ 4294967295 = bounds.0.number some in
        let home : n.id.level < 32 = bounds.0.home in
        let first : a ≤ key n.id = above.0 some in
        let later : AllByRecursion (From (key n.id + 1)) ns = all_weaker (λ (m : Node). node_order n m ≡ Less) (From (key n.id + 1)) (λ m less with_bytes. key_less n.id m.id number less) ns rise.0 in
        let here : label_share n k ≤ 16777216 = share_bound n k bounds.0 in
        let last : key n.id + 1 ≤ 137438953472 = omega arith in
        let rest : bytes_used ns k + 16777216 * (key n.id + 1) ≤ 2305843009213693952 = rest_from (key n.id + 1) later last in
        omega arith

from_nothing : (nodes : List Node) → AllByRecursion (From 0) nodes
from_nothing [] = tt
from_nothing (n ∷ ns) = ((λ some. omega arith), from_nothing ns)

pub bytes_few : (k : ℕ) (nodes : List Node) → AllByRecursion IsInBounds nodes → Rising node_order nodes → bytes_used nodes k ≤ 2305843009213693952
bytes_few k nodes bounds rise = let few : bytes_used nodes k + 16777216 * 0 ≤ 2305843009213693952 = few_from k 0 nodes bounds rise (from_nothing nodes) (omega arith) in omega arith
