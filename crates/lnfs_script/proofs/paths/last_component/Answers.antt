use Rattle.std.proofs.Common.{◌≡◌, ◌≤◌, ◌+◌, ◌-◌, ◌++◌, [], ◌∷◌, ℕ, List, length, take, drop, ap, arith}
use Rattle.std.proofs.lemmas.List.{take_rest, length-append}
use Rattle.lnfs_words.specs.Words.{slash}
use Rattle.lnfs_words.specs.Paths.{parent_of}
use Rattle.lnfs_script.specs.Paths.{components}
use Rattle.lnfs_script.proofs.Named.{HasLast, last_of, behind_parent}
use Rattle.lnfs_script.proofs.paths.last_component.Goals as goal

-- there is a slash behind the directory's path
room : (path parent : List ℕ) → HasLast path → parent ≡ parent_of path → length parent + 1 ≤ length path
room path parent h e =
    let whole : length path ≡ length (parent_of path ++ slash ∷ h.name) = ap length h.text in
    omega (arith, length-append {A = ℕ}, whole, ap length e)

told : (path parent : List ℕ) → HasLast path → parent ≡ parent_of path
    → components path ≡ components (parent_of path) ++ take (length path - (length parent + 1)) (drop (length parent + 1) path) ∷ []
told path parent h e =
    rw (take_rest, e, behind_parent path h.name h.text) h.components

pub slice_bounds-result-count : goal.slice_bounds-result-count
slice_bounds-result-count c = room c.args.path.now c.parent_of.result.now (last_of c.args.path.now c.requires) c.parent_of.ensures

pub slice_bounds-result-start : goal.slice_bounds-result-start
slice_bounds-result-start c = room c.args.path.now c.parent_of.result.now (last_of c.args.path.now c.requires) c.parent_of.ensures

pub returns : goal.returns
returns c = told c.args.path.now c.parent_of.result.now (last_of c.args.path.now c.requires) c.parent_of.ensures
