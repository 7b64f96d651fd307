-- The rules of labels: who may read, write and name what (Bell-LaPadula; that a subject writes at its own level
-- alone is this project's own rule).
use Rattle.std.specs.Prelude.{ℕ, ◌==◌, ◌&&◌, Bool, not, List}
use Rattle.std.specs.List.{list_all}
use Rattle.lnfs_words.specs.Words.{is_empty}
use Rattle.lnfs_monitor.specs.declared.rule.Rule.{Rule}
use Rattle.lnfs_monitor.specs.declared.rule.Rule.TheVariants as rules

-- What a subject asks to do, with the labels that it comes to, all of them levels.
pub data Asks : Type 0 where
  -- to read what is at a label, or to write it
  Read : (label : ℕ) → Asks
  Write : (label : ℕ) → Asks
  -- to change the names of a directory
  Change : (directory : ℕ) → Asks
  -- to put a child into a directory
  Child : (directory child : ℕ) → Asks
  -- to raise a label, of a node in directories of labels
  Raise : (old : ℕ) (parents : List ℕ) (new : ℕ) → Asks
  -- to take out a child
  Drop : (child : ℕ) → Asks
  -- to deny others an open of what is at a label
  Deny : (label : ℕ) → Asks
  -- to name a node
  Home : (home : ℕ) → Asks
  -- to use an identifier of a level
  Own : (level : ℕ) → Asks

-- by dominance of the levels
abbrev pub allows : (ℕ → ℕ → Bool) → (subject : ℕ) → Asks → Bool
allows dom s (Read label) = dom s label
allows dom s (Write label) = s == label
allows dom s (Change directory) = s == directory
allows dom s (Child directory child) = dom child directory
allows dom s (Raise old parents new) = s == old && (list_all (λ parent. s == parent) parents && (not (is_empty parents) && dom new old))
allows dom s (Drop child) = s == child
allows dom s (Deny label) = s == label
allows dom s (Home home) = dom s home
allows dom s (Own level) = s == level

abbrev pub rule_of : Asks → Rule
rule_of (Read label) = rules.M1
rule_of (Write label) = rules.M2
rule_of (Change directory) = rules.M3
rule_of (Child directory child) = rules.M4
rule_of (Raise old parents new) = rules.M5
rule_of (Drop child) = rules.M6
rule_of (Deny label) = rules.M7
rule_of (Home home) = rules.M8
rule_of (Own level) = rules.M9
