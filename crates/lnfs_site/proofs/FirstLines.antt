-- Each directory line of a policy has its directory in the first world, since it keeps its rules after the lines before
-- it.
use Rattle.std.proofs.Common.{◌≡◌, ◌+◌, ℕ, Bool, true, false, cond, ◌||◌, List, [], ◌∷◌, ◌++◌, map, length, Option, Some, None, refl, ap, subst, ◌∙◌, arith}
use Rattle.std.specs.Prelude.{Ok, option_map, find}
use Rattle.std.specs.List.{list_any, AllByRecursion}
use Rattle.std.specs.Str.{bytes_eq}
use Rattle.std.proofs.lemmas.Bool.{false≢true}
use Rattle.std.proofs.lemmas.List.{map-append, length-map}
use Rattle.lnfs_calipso.specs.Label.{IsPreorderWithBottom}
use Rattle.lnfs_words.specs.Words.{is_empty}
use Rattle.lnfs_words.specs.Paths.{is_path, parent_of}
use Rattle.lnfs_policy.specs.Fits.{is_above, level_at}
use Rattle.lnfs_policy.specs.Policy.{Policy, dominance}
use Rattle.lnfs_policy.specs.PolicyText.{policy_of}
use Rattle.lnfs_policy.specs.declared.mode.Mode.{Mode}
use Rattle.lnfs_policy.specs.declared.mode.Mode.TheVariants.{Enforcing, Limited}
use Rattle.lnfs_policy.specs.declared.rows.DirLine.{DirLine}
use Rattle.lnfs_policy.proofs.DirLines.{DirFits, DirsFit, dirs_fit}
use Rattle.lnfs_policy.proofs.Site.{preordered}
use Rattle.lnfs_world.specs.First.{FirstDir, HasDirectory, InOrder, root_dir}
use Rattle.lnfs_world.proofs.FirstDirs.{has_path, FitsBehind, AllFit, HasAll, all_stand}
use Rattle.lnfs_site.specs.Site.{is_limited, spelling, first_label, first_dir, first_world}

empty_is : (text : List ℕ) → is_empty text ≡ true → text ≡ []
empty_is [] e = refl
empty_is (b ∷ text) e = absurd (false≢true e)

some_is : (text : List ℕ) → is_empty text ≡ false → bytes_eq [] text ≡ false
some_is [] e = e
some_is (b ∷ text) e = refl

path_is : (path : List ℕ) → is_path path ≡ true → bytes_eq [] path ≡ false
unfolding is_path
path_is [] e = absurd (false≢true e)
path_is (b ∷ path) e = refl

module _ (p : Policy) (lattice : IsPreorderWithBottom (dominance p)) where
  abbrev root_line : FirstDir
  root_line = root_dir (first_label p 0)

  -- ---- the lines as directories that are to stand

  path_mapped : (path : List ℕ) (lines : List DirLine) → has_path (map (first_dir p) lines) path ≡ list_any (λ d. bytes_eq d.path path) lines
  path_mapped path [] = refl
  path_mapped path (line ∷ lines) = ap (λ b. bytes_eq line.path path || b) (path_mapped path lines)

  find_mapped : (path : List ℕ) (lines : List DirLine) → find (λ d. bytes_eq d.path path) (map (first_dir p) lines) ≡ option_map (first_dir p) (find (λ d. bytes_eq d.path path) lines)
  find_mapped path [] = refl
  find_mapped path (line ∷ lines) = at (bytes_eq line.path path) (find_mapped path lines)
    where
      at : (b : Bool) → find (λ d. bytes_eq d.path path) (map (first_dir p) lines) ≡ option_map (first_dir p) (find (λ d. bytes_eq d.path path) lines)
          → cond b (Some (first_dir p line)) (find (λ d. bytes_eq d.path path) (map (first_dir p) lines)) ≡ option_map (first_dir p) (cond b (Some line) (find (λ d. bytes_eq d.path path) lines))
      at true e = refl
      at false e = e

  -- dominance of levels is that of the levels of nodes
  above_limited : (limited : Bool) (a b : ℕ) → dominance p a b ≡ true → dominance p (cond limited 0 a) (cond limited 0 b) ≡ true
  above_limited true a b e = lattice.reflexive 0
  above_limited false a b e = e

  fits_behind : (before : List DirLine) (line : DirLine) → DirFits p.labels before line → FitsBehind (dominance p) (root_line ∷ map (first_dir p) before) (first_dir p line)
  fits_behind before line one = by_parent (is_empty (parent_of line.path)) refl
    where
      new : has_path (root_line ∷ map (first_dir p) before) line.path ≡ false
      new = (λ k. path_is line.path one.path k || path_mapped line.path before k) ∙ one.new

      in_line : (o : Option DirLine) → find (λ d. bytes_eq d.path (parent_of line.path)) before ≡ o → bytes_eq [] (parent_of line.path) ≡ false
          → is_above p.labels line.level.0 (option_map (λ d. d.level.0) o) ≡ true → FitsBehind (dominance p) (root_line ∷ map (first_dir p) before) (first_dir p line)
      in_line None found some above = absurd (false≢true above)
      in_line (Some d) found some above = record {
        path = one.path;
        new = new;
        parent = first_dir p d;
        there =
            ap (λ b. cond b (Some root_line) (find (λ d. bytes_eq d.path (parent_of line.path)) (map (first_dir p) before))) some
            ∙ find_mapped (parent_of line.path) before ∙ ap (option_map (first_dir p)) found;
        above = above_limited (is_limited p.mode) line.level.0 d.level.0 above;
      }

      by_parent : (b : Bool) → is_empty (parent_of line.path) ≡ b → FitsBehind (dominance p) (root_line ∷ map (first_dir p) before) (first_dir p line)
      by_parent true is = record {
        path = one.path;
        new = new;
        parent = root_line;
        there = ap (λ (path : List ℕ). find (λ d. bytes_eq d.path path) (root_line ∷ map (first_dir p) before)) (empty_is (parent_of line.path) is);
        above = lattice.bottom (first_dir p line).level;
      }
      by_parent false is = in_line (find (λ d. bytes_eq d.path (parent_of line.path)) before) refl (some_is (parent_of line.path) is) (ap (is_above p.labels line.level.0) (at_some before (parent_of line.path) is) ∙ one.above)
        where
          at_some : (dirs : List DirLine) (path : List ℕ) → is_empty path ≡ false → option_map (λ d. d.level.0) (find (λ d. bytes_eq d.path path) dirs) ≡ level_at dirs path
          at_some dirs path e = rw e refl

  all_fit : (before lines : List DirLine) → DirsFit p.labels before lines → AllFit (dominance p) (root_line ∷ map (first_dir p) before) (map (first_dir p) lines)
  all_fit before [] fit = tt
  all_fit before (line ∷ lines) fit = (
    fits_behind before line fit.0,
    subst (λ (ds : List FirstDir). AllFit (dominance p) (root_line ∷ ds) (map (first_dir p) lines)) (map-append (first_dir p) before (line ∷ [])) (all_fit (before ++ line ∷ []) lines fit.1),
  )

-- ---- the first world

has_all : (text : List ℕ) (p : Policy) → policy_of text ≡ Ok p → HasAll (first_world p) (root_dir (first_label p 0) ∷ map (first_dir p) p.dirs)
unfolding first_world
has_all text p e = let lattice = preordered p in all_stand (dominance p) lattice (first_label p 0) (map (first_dir p) p.dirs) (all_fit p lattice [] p.dirs (dirs_fit text p e))

all_mapped : {X Y : Type 0} (f : X → Y) (P : Y → Type 0) (Q : X → Type 0) → ((x : X) → P (f x) → Q x) → (xs : List X) → AllByRecursion P (map f xs) → AllByRecursion Q xs
all_mapped f P Q each [] all = tt
all_mapped f P Q each (x ∷ xs) all = (each x all.0, all_mapped f P Q each xs all.1)

-- a directory line under a mode
dir_under : (p : Policy) (mode : Mode) → p.mode ≡ mode → (line : DirLine) → HasDirectory (first_world p) (first_dir p line)
    → HasDirectory (first_world p) (record { path = line.path; level = cond (is_limited mode) 0 line.level.0; stored = cond (is_limited mode) (Some (spelling p line.level.0)) None })
dir_under p mode is line has = subst (λ (m : Mode). HasDirectory (first_world p) (record { path = line.path; level = cond (is_limited m) 0 line.level.0; stored = cond (is_limited m) (Some (spelling p line.level.0)) None })) is has

pub enforced : (text : List ℕ) (p : Policy) → policy_of text ≡ Ok p → p.mode ≡ Enforcing → AllByRecursion (λ line. HasDirectory (first_world p) (record { path = line.path; level = line.level.0; stored = None })) p.dirs
enforced text p e is = all_mapped (first_dir p) (HasDirectory (first_world p)) _ (λ line has. dir_under p Enforcing is line has) p.dirs (has_all text p e).directories.1

pub limited : (text : List ℕ) (p : Policy) → policy_of text ≡ Ok p → p.mode ≡ Limited → AllByRecursion (λ line. HasDirectory (first_world p) (record { path = line.path; level = 0; stored = Some (spelling p line.level.0) })) p.dirs
limited text p e is = all_mapped (first_dir p) (HasDirectory (first_world p)) _ (λ line has. dir_under p Limited is line has) p.dirs (has_all text p e).directories.1

pub has_root : (text : List ℕ) (p : Policy) → policy_of text ≡ Ok p → HasDirectory (first_world p) (root_dir (first_label p 0))
has_root text p e = (has_all text p e).directories.0

paths_mapped : (p : Policy) (lines : List DirLine) → map (λ d. d.path) (map (first_dir p) lines) ≡ map (λ line. line.path) lines
paths_mapped p [] = refl
paths_mapped p (line ∷ lines) = ap (λ (paths : List (List ℕ)). line.path ∷ paths) (paths_mapped p lines)

pub in_order : (text : List ℕ) (p : Policy) → policy_of text ≡ Ok p → InOrder (first_world p) ([] ∷ map (λ line. line.path) p.dirs)
in_order text p e = subst (λ (paths : List (List ℕ)). InOrder (first_world p) ([] ∷ paths)) (paths_mapped p p.dirs) (has_all text p e).order

pub counted : (text : List ℕ) (p : Policy) → policy_of text ≡ Ok p → length (first_world p).nodes ≡ 1 + length p.dirs
counted text p e = omega (arith, (has_all text p e).count, length-map p.dirs (first_dir p))
