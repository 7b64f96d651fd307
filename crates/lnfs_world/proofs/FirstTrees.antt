-- The first world has all facts of a world, and nothing but directories.
use Rattle.std.proofs.Common.{◌≡◌, ℕ, Bool, true, false, cond, ◌||◌, List, [], ◌∷◌, Option, Some, None, refl, ap, ◌∙◌}
use Rattle.std.specs.Prelude.{◌==◌, ◌+◌, option_map}
use Rattle.std.specs.List.{fold, AllByRecursion}
use Rattle.lnfs_calipso.specs.Label.{IsPreorderWithBottom}
use Rattle.lnfs_words.specs.Words.{split, slash}
use Rattle.lnfs_world.specs.World.{Id, Stored, Node, Directory, World, node_order, same_id, node_at, directory_at, is_given}
use Rattle.lnfs_world.specs.Tree.{Tree, root, has_name}
use Rattle.lnfs_world.specs.Change.{apply_all}
use Rattle.lnfs_world.specs.Within.{all_within}
use Rattle.lnfs_world.specs.Facts.{Facts, NodeFacts}
use Rattle.lnfs_world.specs.Usage.{bytes_of}
use Rattle.lnfs_world.proofs.Rows.{all_weaker, all_updated}
use Rattle.lnfs_world.proofs.Sorted.{all_inserted}
use Rattle.lnfs_world.proofs.Keys.{id_same}
use Rattle.lnfs_world.proofs.Seen.{node_at-id}
use Rattle.lnfs_world.proofs.Seals.{seal}
use Rattle.lnfs_world.proofs.Within.{within_all}
use Rattle.lnfs_world.proofs.Lawfulness.{keeps_all}
use Rattle.lnfs_world.specs.First.{FirstDir, first_directory, root_world, below_root, made_in, made_under, made_at, with_dir, first_tree}

-- ---- the root alone

-- what is told of any node but the root
only_root : {A : Type 0} (f : Node → A) (stored : Option Stored) (i : Id) (x : A) → option_map f (node_at (root_world stored).nodes i) ≡ Some x → (i ≡ root) × (x ≡ f (first_directory stored root 0))
only_root f stored i x told = at (same_id i root) refl told
  where
    at : (b : Bool) → same_id i root ≡ b → option_map f (cond b (Some (first_directory stored root 0)) None) ≡ Some x → (i ≡ root) × (x ≡ f (first_directory stored root 0))
    at true is told = (id_same i root is, cc)
    at false is told = absurd cc

module _ (dom : ℕ → ℕ → Bool) (lattice : IsPreorderWithBottom dom) (stored : Option Stored) where
  root_tree : Tree (directory_at (root_world stored).nodes) []
  root_tree = record {
    begins = refl;
    free = refl;
    joined = tt;
    named = λ i d is. ap (λ j. same_id root j || has_name [] j) (only_root _ stored i d is).0;
    once = tt;
    ends = λ i is. (0, ap Some (only_root _ stored i true is).0);
  }

  root_nodes : NodeFacts dom (root_world stored).nodes [] (root ∷ [])
  root_nodes = record {
    rise = (tt, tt);
    lasts_rise = (tt, tt);
    given = λ i l is. ap (is_given (root ∷ [])) (only_root _ stored i l is).0;
    entries_rise = tt;
    cookies = tt;
    names = tt;
    tree = seal root_tree;
    labels = λ i l is. (let only = only_root _ stored i l is in (λ k. dom (only.1 k) (only.0 k).level)) ∙ lattice.reflexive 0;
    fit = tt;
    held = λ i l is. let only = only_root _ stored i l is in ap (λ b. b || false) ((λ k. only.1 k == (only.0 k).level) ∙ refl);
  }

  pub root_facts : Facts dom (root_world stored)
  root_facts = record {
    clients = record { rise = tt; lasts_rise = tt; given = tt; rivals = tt };
    sessions = record { rise = tt; lasts_rise = tt; given = tt; behind = tt };
    contexts = record { rise = tt; lasts_rise = tt; given = tt };
    nodes = root_nodes;
    opens = record { rise = tt; lasts_rise = tt; given = tt; behind = tt; nodes = tt; apart = tt };
  }

-- ---- the lines

-- what holds of the world before a directory, and of what may be made in it, holds after it
module _ (dom : ℕ → ℕ → Bool) (Q : FirstDir → Type 0) (P : World → Type 0) (makes : (w : World) (dir : FirstDir) (name : List ℕ) (n : Node) → Q dir → node_at w.nodes n.id ≡ Some n → all_within dom n.label w (made_in w dir name n) ≡ true → P w → P (apply_all (made_in w dir name n) w)) where
  with_dir_keeps : (w : World) (dir : FirstDir) → Q dir → P w → P (with_dir dom w dir)
  with_dir_keeps w dir is holds = at (below_root w.entries (split slash dir.path))
    where
      chosen : (name : List ℕ) (n : Node) (b : Bool) → node_at w.nodes n.id ≡ Some n → all_within dom n.label w (made_in w dir name n) ≡ b → P (cond b (apply_all (made_in w dir name n) w) w)
      chosen name n true there within = makes w dir name n is there within holds
      chosen name n false there within = holds

      under : (name : List ℕ) (i : Id) (o : Option Node) → node_at w.nodes i ≡ o → P (made_under dom w dir name o)
      under name i None there = holds
      under name i (Some n) there = chosen name n (all_within dom n.label w (made_in w dir name n)) (ap (node_at w.nodes) (node_at-id i w.nodes n there) ∙ there) refl

      at : (o : Option (Id × List ℕ)) → P (made_at dom w dir o)
      at None = holds
      at (Some (i, name)) = under name i (node_at w.nodes i) refl

  lines_keep : (dirs : List FirstDir) (w : World) → AllByRecursion Q dirs → P w → P (fold (with_dir dom) w dirs)
  lines_keep [] w are holds = holds
  lines_keep (dir ∷ dirs) w are holds = lines_keep dirs (with_dir dom w dir) are.1 (with_dir_keeps w dir are.0 holds)

  pub first_keeps : (stored : Option Stored) (dirs : List FirstDir) → AllByRecursion Q dirs → P (root_world stored) → P (first_tree dom stored dirs)
  unfolding first_tree
  first_keeps stored dirs are holds = lines_keep dirs (root_world stored) are holds

any_dirs : (dirs : List FirstDir) → AllByRecursion (λ dir. Unit {0}) dirs
any_dirs [] = tt
any_dirs (dir ∷ dirs) = (tt, any_dirs dirs)

pub first_facts : (dom : ℕ → ℕ → Bool) → IsPreorderWithBottom dom → (stored : Option Stored) (dirs : List FirstDir) → Facts dom (first_tree dom stored dirs)
first_facts dom lattice stored dirs = first_keeps dom (λ dir. Unit {0}) (Facts dom) (λ w line name n is there within facts. keeps_all dom lattice n.label (made_in w line name n) w facts (within_all dom n.label (made_in w line name n) w within)) stored dirs (any_dirs dirs) (root_facts dom lattice stored)

-- nothing but nodes and entries
pub record IsBare (w : World) : Type 0 where
  pub clients : w.clients ≡ []
  pub sessions : w.sessions ≡ []
  pub contexts : w.contexts ≡ []
  pub opens : w.opens ≡ []
  pub last_clients : w.lasts.clients ≡ []
  pub last_sessions : w.lasts.sessions ≡ []
  pub last_contexts : w.lasts.contexts ≡ []
  pub last_opens : w.lasts.opens ≡ []

pub first_bare : (dom : ℕ → ℕ → Bool) (stored : Option Stored) (dirs : List FirstDir) → IsBare (first_tree dom stored dirs)
first_bare dom stored dirs = first_keeps dom (λ dir. Unit {0}) IsBare
    (λ w line name n is there within bare. record { clients = bare.clients; sessions = bare.sessions; contexts = bare.contexts; opens = bare.opens; last_clients = bare.last_clients; last_sessions = bare.last_sessions; last_contexts = bare.last_contexts; last_opens = bare.last_opens })
    stored dirs (any_dirs dirs) (record { clients = refl; sessions = refl; contexts = refl; opens = refl; last_clients = refl; last_sessions = refl; last_contexts = refl; last_opens = refl })

-- none but directories, which have no bytes
abbrev AreDirectories : World → Type 0
AreDirectories w = AllByRecursion (λ n. n.kind ≡ Directory) w.nodes

pub first_empty : (dom : ℕ → ℕ → Bool) (stored : Option Stored) (dirs : List FirstDir) → AllByRecursion (λ n. bytes_of n n.kind ≡ 0) (first_tree dom stored dirs).nodes
first_empty dom stored dirs = all_weaker (λ n. n.kind ≡ Directory) (λ n. bytes_of n n.kind ≡ 0) (λ n is. ap (bytes_of n) is) (first_tree dom stored dirs).nodes
    (first_keeps dom (λ dir. Unit {0}) AreDirectories
    (λ w line name n is there within are. all_inserted node_order (λ x. x.kind ≡ Directory) _ _ refl (all_updated (λ x. x.kind ≡ Directory) (λ x. same_id n.id x.id) (λ x. record x { inner = record n.inner { cookies = n.inner.cookies + 1 } }) w.nodes (λ x same kind. kind) are))
    stored dirs (any_dirs dirs) (refl, tt))
