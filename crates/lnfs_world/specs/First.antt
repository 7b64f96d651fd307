-- The first world of a site: the root, and the directories that stand from the beginning, each behind its parent.
use Rattle.std.specs.Prelude.{◌≡◌, ◌==◌, ◌||◌, ℕ, ◌+◌, Bool, true, false, not, cond, nat_lt, List, [], ◌∷◌, Option, Some, None, option_and_then}
use Rattle.std.specs.List.{fold, AllByRecursion}
use Rattle.lnfs_words.specs.Words.{split, slash}
use Rattle.lnfs_world.specs.declared.numbers.TheConstants.{FIRST_MODE, FIRST_COOKIE}
use Rattle.lnfs_world.specs.World.{Id, Stored, Inner, Node, Directory, Entry, World, node_at, last_of}
use Rattle.lnfs_world.specs.Names.{entry_at}
use Rattle.lnfs_world.specs.Tree.{root}
use Rattle.lnfs_world.specs.Change.{Change, Touch, Make, apply_all}
use Rattle.lnfs_world.specs.Within.{all_within}

-- A directory that is to stand: its path, its level, and its label as it is stored, where it is.
pub record FirstDir : Type 0 where
  pub path : List ℕ
  pub level : ℕ
  pub stored : Option Stored

-- ---- directories

-- made at the beginning of time, and empty
abbrev pub first_inner : Option Stored → Inner
first_inner stored = record {
  stored = stored;
  mode = FIRST_MODE;
  content = [];
  change = 1;
  accessed = record { secs = 0; nanos = 0 };
  metadata = record { secs = 0; nanos = 0 };
  modified = record { secs = 0; nanos = 0 };
  cookies = FIRST_COOKIE;
}

abbrev pub first_directory : Option Stored → Id → (level : ℕ) → Node
first_directory stored id level = record { id = id; kind = Directory; label = level; verifier = None; inner = first_inner stored }

-- the root alone
abbrev pub root_world : Option Stored → World
root_world stored = record {
  clients = [];
  sessions = [];
  contexts = [];
  nodes = first_directory stored root 0 ∷ [];
  entries = [];
  opens = [];
  lasts = record { clients = []; sessions = []; contexts = []; nodes = root ∷ []; opens = [] };
}

-- ---- below the root

-- Below a directory: the directory that the names but the last lead to, and the last name.
abbrev pub led_to : List Entry → Id → List (List ℕ) → Option (Id × List ℕ)
led_to entries i [] = None
led_to entries i (name ∷ []) = Some (i, name)
led_to entries i (name ∷ names) = option_and_then (λ e. led_to entries e.node names) (entry_at entries i name)

-- a path is names, each behind a slash
abbrev pub below_root : List Entry → List (List ℕ) → Option (Id × List ℕ)
below_root entries [] = None
below_root entries (front ∷ names) = led_to entries root names

-- A new directory in a directory: its home is the label of that directory, of which it takes the next number and the
-- next cookie.
abbrev pub made_in : World → FirstDir → List ℕ → Node → List Change
made_in w dir name n =
    let id : Id = record { level = n.label; number = last_of n.label w.lasts.nodes + 1 } in
    Touch n.id (record n.inner { cookies = n.inner.cookies + 1 }) ∷
    Make (first_directory dir.stored id dir.level) (record { directory = n.id; cookie = n.inner.cookies; name = name; node = id }) ∷ []

-- It is made where a subject of its home may make it, as for each line of a policy that is read.
abbrev pub with_changes : (ℕ → ℕ → Bool) → World → (home : ℕ) → List Change → World
with_changes dom w home changes = cond (all_within dom home w changes) (apply_all changes w) w

abbrev pub made_under : (ℕ → ℕ → Bool) → World → FirstDir → List ℕ → Option Node → World
made_under dom w dir name None = w
made_under dom w dir name (Some n) = with_changes dom w n.label (made_in w dir name n)

abbrev pub made_at : (ℕ → ℕ → Bool) → World → FirstDir → Option (Id × List ℕ) → World
made_at dom w dir None = w
made_at dom w dir (Some (i, name)) = made_under dom w dir name (node_at w.nodes i)

abbrev pub with_dir : (ℕ → ℕ → Bool) → World → FirstDir → World
with_dir dom w dir = made_at dom w dir (below_root w.entries (split slash dir.path))

-- the root with its stored label, and each directory in turn
unfoldable pub first_tree : (ℕ → ℕ → Bool) → Option Stored → List FirstDir → World
first_tree dom stored dirs = fold (with_dir dom) (root_world stored) dirs

-- ---- what stands then

-- the node that names lead to from a directory, each of them in the directory that those before it lead to
abbrev pub walk : List Entry → Id → List (List ℕ) → Option Id
walk entries i [] = Some i
walk entries i (name ∷ names) = option_and_then (λ e. walk entries e.node names) (entry_at entries i name)

abbrev pub walk_below : List Entry → List (List ℕ) → Option Id
walk_below entries [] = None
walk_below entries (front ∷ names) = walk entries root names

-- the node that a path leads to; the path without bytes leads to the root
abbrev pub id_at : World → (path : List ℕ) → Option Id
id_at w path = walk_below w.entries (split slash path)

-- The path leads to a directory of the level, with the label as it is stored.
pub record HasDirectory (w : World) (dir : FirstDir) : Type 0 where
  pub node : Node
  pub leads : option_and_then (node_at w.nodes) (id_at w dir.path) ≡ Some node
  pub kind : node.kind ≡ Directory
  pub level : node.label ≡ dir.level
  pub stored : node.inner.stored ≡ dir.stored

-- Two nodes are there. They have two homes, or the first has the lower number.
abbrev pub is_before : Option Id → Option Id → Bool
is_before (Some a) (Some b) = not (a.level == b.level) || nat_lt a.number b.number
is_before _ _ = false

-- numbers are given in the order of the paths
abbrev pub InOrder : World → (paths : List (List ℕ)) → Type 0
InOrder w [] = Unit {0}
InOrder w (path ∷ paths) = AllByRecursion (λ later. is_before (id_at w path) (id_at w later) ≡ true) paths × InOrder w paths

-- the root as a directory that is to stand
abbrev pub root_dir : Option Stored → FirstDir
root_dir stored = record { path = []; level = 0; stored = stored }
