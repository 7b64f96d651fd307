use Rattle.std.proofs.Common.{◌≡◌, ◌≤◌, ◌+◌, ◌&&◌, nat_le, length}
use Rattle.std.specs.List.{list_all}
use Rattle.lnfs_words.specs.Paths.{is_path, is_component}
use Rattle.lnfs_words.specs.declared.paths.TheConstants.{MAX_COMPONENTS}
use Rattle.lnfs_words.proofs.paths.is_path.Given as goal

-- the names that are left decide
abbrev pub invariant-loop-name : goal.invariant-loop-name
invariant-loop-name l =
    (is_path l.path ≡ (nat_le 1 (l.count + length l.names) && nat_le (l.count + length l.names) MAX_COMPONENTS && list_all is_component l.names))
    × (l.count ≤ MAX_COMPONENTS)

abbrev pub decreases-loop-name : goal.decreases-loop-name
decreases-loop-name l = length l.names
