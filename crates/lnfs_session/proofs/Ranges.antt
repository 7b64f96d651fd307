-- The entries of a level, which lie beside each other in a map.
use Rattle.std.proofs.Common.{◌≡◌, ℕ, ◌≤◌, Bool, true, false, cond, List, [], ◌∷◌, refl, sym, ap, ◌∙◌, arith}
use Rattle.std.specs.Prelude.{◌==◌, nat_le, filter}
use Rattle.std.specs.Ordering.{is_le}
use Rattle.std.specs.declared.cmp.Ordering.{Ordering}
use Rattle.std.specs.declared.cmp.Ordering.TheVariants.{Less}
use Rattle.std.specs.declared.ops.Bound.TheVariants.{Included, Unbounded}
use Rattle.std.specs.BTreeMap.Range.{entries_between}
use Rattle.std.specs.List.{AllByRecursion}
use Rattle.std.specs.List.Sorted.{IsStrictlySortedBy}
use Rattle.std.specs.Map.{keys_of}
use Rattle.std.proofs.lemmas.Map.Keys.{sorted_head, sorted_tail}
use Rattle.std.proofs.lemmas.Bool.Decides.{nat_tests}
use Rattle.lnfs_world.specs.World as world
use Rattle.lnfs_world.specs.World.{id_order}
use Rattle.lnfs_counts.proofs.Entries.{AreKeys}

from_level : (level : ℕ) (i : world.Id) → is_le (id_order (record { level = level; number = 0 }) i) ≡ nat_le level i.level
from_level level i = grind (arith, nat_tests)

levels_rise : (i j : world.Id) → id_order i j ≡ Less → i.level ≤ j.level
levels_rise i j less = grind (arith, nat_tests)

-- the first entries, up to one of another level
abbrev pub level_run : {K V : Type 0} → (K → world.Id) → ℕ → List (K × V) → List (K × V)
level_run name level [] = []
level_run name level (e ∷ es) = cond ((name e.0).level == level) (e ∷ level_run name level es) []

module _ {K V : Type 0} (name : K → world.Id) (k_cmp : K → K → Ordering) (keys : AreKeys name k_cmp) (level : ℕ) where
  none_above : (k : K) → nat_le level (name k).level ≡ true → ((name k).level == level) ≡ false → (es : List (K × V)) → AllByRecursion (λ q. k_cmp k q ≡ Less) (keys_of es) → filter (λ e. (name e.0).level == level) es ≡ []
  none_above k from other [] all = refl
  none_above k from other (e ∷ es) all = grind (arith, nat_tests, none_above k from other es all.1, levels_rise (name k) (name e.0) (keys.order k e.0 ∙ all.0))

  pub of_level : (first : K) → name first ≡ record { level = level; number = 0 } → (es : List (K × V)) → IsStrictlySortedBy k_cmp (keys_of es) → level_run name level (entries_between k_cmp (Included first) Unbounded es) ≡ filter (λ e. (name e.0).level == level) es
  of_level first is [] sorted = refl
  of_level first is (e ∷ es) sorted = at (nat_le level (name e.0).level) ((name e.0).level == level) refl refl (of_level first is es (sorted_tail k_cmp e.0 (keys_of es) sorted))
    where
      test : is_le (k_cmp first e.0) ≡ nat_le level (name e.0).level
      test = ap is_le (sym (keys.order first e.0) ∙ ap (λ i. id_order i (name e.0)) is) ∙ from_level level (name e.0)

      at : (from same : Bool) → nat_le level (name e.0).level ≡ from → ((name e.0).level == level) ≡ same → level_run name level (entries_between k_cmp (Included first) Unbounded es) ≡ filter (λ q. (name q.0).level == level) es → level_run name level (entries_between k_cmp (Included first) Unbounded (e ∷ es)) ≡ filter (λ q. (name q.0).level == level) (e ∷ es)
      at true true from same rest = let yes = test ∙ from in rw (yes, same) (ap (λ r. e ∷ r) rest)
      at true false from same rest = let yes = test ∙ from in rw (yes, same) (sym (none_above e.0 from same es (sorted_head k_cmp e.0 (keys_of es) sorted)))
      at false true from same rest = absurd (grind (arith, nat_tests))
      at false false from same rest = let no = test ∙ from in rw (no, same) rest
