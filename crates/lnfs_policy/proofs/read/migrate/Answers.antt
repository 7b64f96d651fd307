use Rattle.std.proofs.Common.{◌≡◌, ◌≤◌, ◌-◌, ℕ, List, length, take, drop, ◌++◌, [], sym, ap, subst, arith, ◌∙◌}
use Rattle.std.proofs.Math.Seq.{take-length}
use Rattle.std.proofs.lemmas.List.{length-drop}
use Rattle.lnfs_policy.specs.Policy.{Policy}
use Rattle.lnfs_policy.specs.PolicyText.{IsPolicy}
use Rattle.lnfs_policy.specs.Migrated.{version_2, IsMigrated}
use Rattle.lnfs_policy.proofs.Migrating.{migrated, version_there}
use Rattle.lnfs_policy.proofs.read.migrate.Goals as goal

-- the bytes of a policy's text go on behind its version line
there : (p : Policy) (bytes : List ℕ) → IsPolicy p → bytes ≡ p.text → 14 ≤ length bytes
there p bytes is same = subst (λ (t : List ℕ). 14 ≤ length t) (sym same) (version_there p is)

pub slice_bounds-extend_from_slice-count : goal.slice_bounds-extend_from_slice-count
slice_bounds-extend_from_slice-count c = there c.args.policy.now c.deref.result.now c.law_policy.ensures (c.deref.ensures.value ∙ ap (λ (p : Policy). p.text) c.policy.view_is)

pub slice_bounds-extend_from_slice-start : goal.slice_bounds-extend_from_slice-start
slice_bounds-extend_from_slice-start c = there c.args.policy.now c.deref.result.now c.law_policy.ensures (c.deref.ensures.value ∙ ap (λ (p : Policy). p.text) c.policy.view_is)

behind : (p : Policy) (items front bytes : List ℕ) → IsPolicy p → bytes ≡ p.text → front ≡ version_2 → items ≡ front ++ take (length bytes - 14) (drop 14 bytes) → IsMigrated p items
behind p items front bytes is same first all =
    subst (λ (t : List ℕ). IsMigrated p t) (sym (all ∙ ap (λ (t : List ℕ). front ++ t) rest ∙ ap (λ (f : List ℕ). f ++ drop 14 bytes) first ∙ ap (λ (t : List ℕ). version_2 ++ drop 14 t) same)) (migrated p is)
  where
    rest : take (length bytes - 14) (drop 14 bytes) ≡ drop 14 bytes
    rest = ap (λ (n : ℕ). take n (drop 14 bytes)) (sym (length-drop 14 bytes)) ∙ take-length (drop 14 bytes)

pub returns : goal.returns
returns c =
    behind c.args.policy.now c.extend_from_slice-2.new.self.items c.extend_from_slice.new.self.items c.deref.result.now c.law_policy.ensures
    (c.deref.ensures.value ∙ ap (λ (p : Policy). p.text) c.policy.view_is)
    (c.in_ok-extend_from_slice.ensures.items ∙ ap (λ (t : List ℕ). t ++ version_2) c.in_ok-text.ensures.items)
    c.in_ok-extend_from_slice-2.ensures.items
