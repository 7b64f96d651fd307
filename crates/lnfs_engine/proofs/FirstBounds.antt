-- The first world has directories alone, of levels of its policy.
use Rattle.std.proofs.Common.{◌≡◌, ◌<◌, ◌≤◌, ◌+◌, ℕ, Bool, true, false, cond, List, [], ◌∷◌, length, map, Some, refl, arith}
use Rattle.std.specs.Prelude.{Ok}
use Rattle.std.specs.List.{AllByRecursion}
use Rattle.lnfs_calipso.specs.declared.lattice.TheConstants.{MAX_LEVELS}
use Rattle.lnfs_policy.specs.Policy.{Policy, dominance}
use Rattle.lnfs_policy.specs.PolicyText.{policy_of}
use Rattle.lnfs_policy.specs.declared.rows.DirLine.{DirLine}
use Rattle.lnfs_policy.proofs.DirLines.{DirsFit, dirs_fit}
use Rattle.lnfs_world.specs.World.{Kind, File, Directory, SymbolicLink, Inner, Node, World, node_at}
use Rattle.lnfs_world.specs.Usage.{bytes_of}
use Rattle.lnfs_world.specs.Change.{apply_all, touched}
use Rattle.lnfs_world.specs.First.{FirstDir, made_in}
use Rattle.lnfs_world.proofs.FirstTrees.{first_keeps}
use Rattle.lnfs_site.specs.Site.{is_limited, first_label, first_dir, first_world}
use Rattle.lnfs_quota.specs.Totals.{IsInBounds}
use Rattle.lnfs_quota.proofs.Bounded.{bounds_found, bounds_made, bounds_updated, bounds_kept, empty_bounds}

abbrev IsListedDir : FirstDir → Type 0
IsListedDir dir = dir.level < MAX_LEVELS

abbrev AreInBounds : World → Type 0
AreInBounds w = AllByRecursion IsInBounds w.nodes

-- another cookie counter keeps the content
same_bytes : (n : Node) (cookies : ℕ) (k : Kind) → bytes_of (record n { inner = record n.inner { cookies = cookies } }) k ≡ bytes_of n k
same_bytes n cookies File = refl
same_bytes n cookies Directory = refl
same_bytes n cookies SymbolicLink = refl

makes : (w : World) (dir : FirstDir) (name : List ℕ) (n : Node) → IsListedDir dir → node_at w.nodes n.id ≡ Some n → AreInBounds w → AreInBounds (apply_all (made_in w dir name n) w)
makes w dir name n listed there all =
    let here : IsInBounds n = bounds_found n.id n w.nodes all there in
    let inner : Inner = record n.inner { cookies = n.inner.cookies + 1 } in
    let kept : IsInBounds (record n { inner = inner }) = bounds_kept n inner here (same_bytes n (n.inner.cookies + 1) n.kind) in
    bounds_made _ (touched n.id inner w.nodes) (empty_bounds _ here.label listed refl) (bounds_updated (λ x. record x { inner = inner }) n.id n w.nodes there kept all)

none_is_listed : 0 < MAX_LEVELS
none_is_listed = let below : 0 < 32 = omega arith in below

lines_listed : (p : Policy) (before dirs : List DirLine) → length p.labels ≤ MAX_LEVELS → DirsFit p.labels before dirs → AllByRecursion IsListedDir (map (first_dir p) dirs)
lines_listed p before [] few fit = tt
lines_listed p before (line ∷ lines) few fit = (at (is_limited p.mode), lines_listed p _ lines few fit.1)
  where
    at : (b : Bool) → cond b 0 line.level.0 < MAX_LEVELS
    at true = none_is_listed
    at false = let known : line.level.0 < length p.labels = fit.0.known in omega arith

pub first_bounds : (text : List ℕ) (p : Policy) → policy_of text ≡ Ok p → length p.labels ≤ MAX_LEVELS → AreInBounds (first_world p)
unfolding first_world
first_bounds text p e few =
    first_keeps (dominance p) IsListedDir AreInBounds (λ w dir name n listed there within all. makes w dir name n listed there all) (first_label p 0) (map (first_dir p) p.dirs)
    (lines_listed p [] p.dirs few (dirs_fit text p e)) (empty_bounds _ none_is_listed none_is_listed refl, tt)
