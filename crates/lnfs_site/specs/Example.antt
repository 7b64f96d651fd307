-- A policy with `dir` lines, and its first world as a table.
use Rattle.std.specs.Prelude.{ℕ, List, [], ◌∷◌, codes}
use Rattle.lnfs_calipso.specs.Label.{Label}
use Rattle.lnfs_policy.specs.Policy.{Policy}
use Rattle.lnfs_policy.specs.declared.mode.Mode.TheVariants.{Enforcing}
use Rattle.lnfs_policy.specs.declared.rows.DirLine.{DirLine}
use Rattle.lnfs_world.specs.World.{Id, Node, Entry}

abbrev label : (sens : ℕ) → List ℕ → Label
label sens comps = record { doi = 1; sens = sens; comps = comps }

abbrev line : List ℕ → (level : ℕ) → DirLine
line path level = record { path = path; level = record { 0 = level } }

abbrev pub site : Policy
site = record {
  text = [];
  version = 1;
  mode = Enforcing;
  labels = label 0 [] ∷ label 1 (0 ∷ []) ∷ label 1 (1 ∷ []) ∷ label 3 (0 ∷ 1 ∷ 2 ∷ 5 ∷ []) ∷ [];
  formats = [];
  parents = [];
  guests = [];
  quotas = [];
  dirs = line (codes "/one") 1 ∷ line (codes "/two") 2 ∷ line (codes "/top") 3 ∷ line (codes "/one/up") 3 ∷ [];
}

-- home, number, label
abbrev pub Row : Type 0
Row = ℕ × ℕ × ℕ

abbrev pub row_of : Node → Row
row_of n = (n.id.level, n.id.number, n.label)

abbrev pub rows : List Row
rows = (0, 1, 0) ∷ (0, 2, 1) ∷ (0, 3, 2) ∷ (0, 4, 3) ∷ (1, 1, 3) ∷ []

-- directory, cookie, name, node
abbrev pub Name : Type 0
Name = Id × ℕ × List ℕ × Id

abbrev id : ℕ → ℕ → Id
id level number = record { level = level; number = number }

abbrev pub name_of : Entry → Name
name_of e = (e.directory, e.cookie, e.name, e.node)

abbrev pub names : List Name
names = (id 0 1, 3, codes "one", id 0 2) ∷ (id 0 1, 4, codes "two", id 0 3) ∷ (id 0 1, 5, codes "top", id 0 4) ∷ (id 0 2, 3, codes "up", id 1 1) ∷ []

abbrev pub last_numbers : List Id
last_numbers = id 0 4 ∷ id 1 1 ∷ []
