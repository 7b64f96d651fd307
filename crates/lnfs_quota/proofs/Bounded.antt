-- What each change of the nodes leaves in bounds.
use Rattle.std.proofs.Common.{◌≡◌, ◌<◌, ◌≤◌, ℕ, Bool, true, false, cond, List, [], ◌∷◌, Some, refl, sym, ◌∙◌, subst, arith}
use Rattle.std.specs.Prelude.{filter}
use Rattle.std.specs.List.{AllByRecursion}
use Rattle.lnfs_calipso.specs.declared.lattice.TheConstants.{MAX_LEVELS}
use Rattle.lnfs_world.specs.declared.numbers.TheConstants.{LAST_NUMBER, MOST_FILE}
use Rattle.lnfs_world.specs.Rows.{inserted, updated}
use Rattle.lnfs_world.specs.World.{Id, Kind, File, Directory, SymbolicLink, Inner, Node, node_order, same_id, node_at}
use Rattle.lnfs_world.specs.Usage.{bytes_of}
use Rattle.lnfs_world.proofs.Rows.{all_weaker, all_filter, all_find}
use Rattle.lnfs_world.proofs.Sorted.{all_inserted}
use Rattle.lnfs_quota.specs.Totals.{IsInBounds}

-- what is found
pub bounds_found : (i : Id) (n : Node) (nodes : List Node) → AllByRecursion IsInBounds nodes → node_at nodes i ≡ Some n → IsInBounds n
bounds_found i n nodes all found = (all_find IsInBounds (λ x. same_id i x.id) nodes n all found).0

pub bounds_made : (n : Node) (nodes : List Node) → IsInBounds n → AllByRecursion IsInBounds nodes → AllByRecursion IsInBounds (inserted node_order n nodes)
bounds_made n nodes here all = all_inserted node_order IsInBounds n nodes here all

pub bounds_left : (q : Node → Bool) (nodes : List Node) → AllByRecursion IsInBounds nodes → AllByRecursion IsInBounds (filter q nodes)
bounds_left q nodes all = all_weaker (λ x. (q x ≡ true) × IsInBounds x) IsInBounds (λ x both. both.1) (filter q nodes) (all_filter IsInBounds q nodes all)

-- only the first node that is found is changed
pub bounds_updated : (g : Node → Node) (i : Id) (n : Node) (nodes : List Node) → node_at nodes i ≡ Some n → IsInBounds (g n) → AllByRecursion IsInBounds nodes → AllByRecursion IsInBounds (updated (λ x. same_id i x.id) g nodes)
bounds_updated g i n [] found now all = tt
bounds_updated g i n (x ∷ xs) found now all = at (same_id i x.id) found (λ later. bounds_updated g i n xs later now all.1)
  where
    at : (b : Bool) → cond b (Some x) (node_at xs i) ≡ Some n → (node_at xs i ≡ Some n → AllByRecursion IsInBounds (updated (λ y. same_id i y.id) g xs)) → AllByRecursion IsInBounds (cond b (g x ∷ xs) (x ∷ updated (λ y. same_id i y.id) g xs))
    at true e rest = let is : x ≡ n = cc in (subst (λ (m : Node). IsInBounds (g m)) (sym is) now, all.1)
    at false e rest = (all.0, rest e)

-- a new node without bytes
pub empty_bounds : (n : Node) → n.id.level < MAX_LEVELS → n.label < MAX_LEVELS → bytes_of n n.kind ≡ 0 → IsInBounds n
empty_bounds n home label none = record {
  home = home;
  label = label;
  bytes = subst (λ (b : ℕ). b ≤ MOST_FILE) (sym none) (omega arith);
  number = λ some. absurd (omega (arith, some, none));
}

-- another content
pub bounds_touched : (n : Node) (inner : Inner) → IsInBounds n → bytes_of (record n { inner = inner }) n.kind ≤ MOST_FILE → n.id.number ≤ LAST_NUMBER → IsInBounds (record n { inner = inner })
bounds_touched n inner was few number = record { home = was.home; label = was.label; bytes = few; number = λ some. number }

-- a content of the same length, and maybe another label
bounds_alike : (n m : Node) → IsInBounds n → m.id ≡ n.id → bytes_of m m.kind ≡ bytes_of n n.kind → m.label < MAX_LEVELS → IsInBounds m
bounds_alike n m was id same label = record {
  home = subst (λ (i : Id). i.level < MAX_LEVELS) (sym id) was.home;
  label = label;
  bytes = subst (λ (b : ℕ). b ≤ MOST_FILE) (sym same) was.bytes;
  number = λ some. subst (λ (i : Id). i.number ≤ LAST_NUMBER) (sym id) (was.number (subst (λ (b : ℕ). 0 < b) same some));
}

pub bounds_kept : (n : Node) (inner : Inner) → IsInBounds n → bytes_of (record n { inner = inner }) n.kind ≡ bytes_of n n.kind → IsInBounds (record n { inner = inner })
bounds_kept n inner was same = bounds_alike n (record n { inner = inner }) was refl same was.label

pub bounds_relabelled : (n : Node) (label : ℕ) (inner : Inner) → IsInBounds n → label < MAX_LEVELS → bytes_of (record n { inner = inner }) n.kind ≡ bytes_of n n.kind → IsInBounds (record n { label = label; inner = inner })
bounds_relabelled n label inner was known same = bounds_alike n (record n { label = label; inner = inner }) was refl (by n.kind ∙ same) known
  where
    by : (kind : Kind) → bytes_of (record n { label = label; inner = inner }) kind ≡ bytes_of (record n { inner = inner }) kind
    by File = refl
    by Directory = refl
    by SymbolicLink = refl
