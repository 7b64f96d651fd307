use Rattle.std.proofs.Common.{◌≡◌, ◌++◌, map, drop}
use Rattle.lnfs_world.specs.Given.{dir_of}
use Rattle.lnfs_site.specs.Site.{first_dir}
use Rattle.lnfs_site.proofs.first.first_dirs.Given as goal

-- the directories with those of the lines that are left
abbrev pub invariant-loop-line : goal.invariant-loop-line
invariant-loop-line l = map dir_of l.dirs.items ++ map (first_dir l.site) (drop l.line-index l.site.dirs) ≡ map (first_dir l.site) l.site.dirs
