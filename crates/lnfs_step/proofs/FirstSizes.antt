-- The sizes of the first world: it has no sessions and no clients, and what is stored of labels is short.
use Rattle.std.proofs.Common.{◌≡◌, ◌≤◌, ℕ, Bool, true, false, cond, List, [], ◌∷◌, length, map, Option, Some, None, refl, sym, subst, arith}
use Rattle.std.specs.Prelude.{IfSome, nat_le, slice_get}
use Rattle.std.specs.List.{AllByRecursion}
use Rattle.std.proofs.lemmas.Bool.Decides.{nat_tests}
use Rattle.lnfs_calipso.specs.Label.{label_at}
use Rattle.lnfs_format.specs.Kinds.{writes}
use Rattle.lnfs_format.specs.LevelRead.{level_read}
use Rattle.lnfs_format.specs.declared.formats.TheConstants.{MAX_SPELLING}
use Rattle.lnfs_format.specs.declared.formats.FormatEntry.{FormatEntry}
use Rattle.lnfs_policy.specs.Policy.{Policy, dominance}
use Rattle.lnfs_policy.specs.declared.rows.DirLine.{DirLine}
use Rattle.lnfs_world.specs.World.{Id, Stored, Node, World, same_id, node_at, node_order}
use Rattle.lnfs_world.specs.First.{FirstDir, first_directory, made_in}
use Rattle.lnfs_world.specs.Change.{apply_all}
use Rattle.lnfs_world.specs.Tree.{root}
use Rattle.lnfs_world.specs.Outcome.{LevelOf, BadLabel}
use Rattle.lnfs_world.proofs.Rows.{all_find}
use Rattle.lnfs_world.proofs.Sorted.{all_inserted}
use Rattle.lnfs_world.proofs.FirstTrees.{first_keeps}
use Rattle.lnfs_types.specs.declared.limits.TheConstants.{LABEL_LIMIT}
use Rattle.lnfs_operations.specs.Sizes.{SessionFits, ClientFits, NodeFits, Sizes, LabelsFit}
use Rattle.lnfs_operations.proofs.ReadingRows.{all_found}
use Rattle.lnfs_site.specs.Site.{is_limited, told_by, carried, unspelled, spelled_as, spelled_in, spelling, site_of, first_label, first_dir, first_world}
use Rattle.lnfs_site.proofs.FirstWorlds.{first_bare}
use Rattle.lnfs_step.proofs.SiteLevels.{read_level}

-- ---- labels

abbrev chosen : FormatEntry → List ℕ → Bool → Stored
chosen entry bytes b = cond b (record { lfs = entry.lfs; pi = entry.pi; bytes = bytes }) unspelled

chosen_short : (entry : FormatEntry) (bytes : List ℕ) (b : Bool) → nat_le (length bytes) MAX_SPELLING ≡ b → length (chosen entry bytes b).bytes ≤ LABEL_LIMIT
chosen_short entry bytes true is = grind (arith, nat_tests, is)
chosen_short entry bytes false is = omega arith

as_short : (entry : FormatEntry) (o : Option (List ℕ)) → length (spelled_as entry o).bytes ≤ LABEL_LIMIT
as_short entry None = omega arith
as_short entry (Some bytes) = chosen_short entry bytes (nat_le (length bytes) MAX_SPELLING) refl

in_short : (p : Policy) (level : ℕ) (o : Option FormatEntry) → length (spelled_in p level o).bytes ≤ LABEL_LIMIT
in_short p level None = omega arith
in_short p level (Some entry) = as_short entry (writes entry.kind (label_at p.labels level))

spelling_short : (p : Policy) (level : ℕ) → length (spelling p level).bytes ≤ LABEL_LIMIT
unfolding spelling
spelling_short p level = in_short p level (slice_get p.formats 0)

carried_short : (spelled : Stored) (level : ℕ) (b : Bool) → nat_le (length spelled.bytes) MAX_SPELLING ≡ b → cond b (LevelOf 0) BadLabel ≡ LevelOf level → length spelled.bytes ≤ LABEL_LIMIT
carried_short spelled level true short taken = grind (arith, nat_tests, short)
carried_short spelled level false long taken = absurd cc

taken_short : (p : Policy) (spelled : Stored) (level : ℕ) (limited : Bool) → limited ≡ true → cond limited (carried spelled) (told_by (level_read p.formats p.labels spelled.lfs spelled.pi spelled.bytes)) ≡ LevelOf level → length spelled.bytes ≤ LABEL_LIMIT
taken_short p spelled level true is taken = carried_short spelled level (nat_le (length spelled.bytes) MAX_SPELLING) refl taken
taken_short p spelled level false is taken = absurd cc

-- what a site writes of labels is short, and what it takes where they are carried alone; and it reads those of its levels
pub labels_fit : (p : Policy) → LabelsFit (site_of p)
labels_fit p = record { spelling = spelling_short p; taken = λ limited spelled level taken. taken_short p spelled level (is_limited p.mode) limited taken; levels = read_level p }

abbrev IsShort : Option Stored → Type 0
IsShort stored = IfSome stored (λ s. length s.bytes ≤ LABEL_LIMIT)

label_short : (p : Policy) (level : ℕ) → IsShort (first_label p level)
label_short p level = at (is_limited p.mode)
  where
    at : (b : Bool) → IsShort (cond b (Some (spelling p level)) None)
    at true = spelling_short p level
    at false = tt

dirs_short : (p : Policy) (lines : List DirLine) → AllByRecursion (λ (dir : FirstDir). IsShort dir.stored) (map (first_dir p) lines)
dirs_short p [] = tt
dirs_short p (line ∷ lines) = (label_short p line.level.0, dirs_short p lines)

-- ---- nodes

directory_fits : (stored : Option Stored) (id : Id) (level : ℕ) → IsShort stored → NodeFits (first_directory stored id level)
directory_fits stored id level short = record { stored = short; text = λ link. absurd cc }

made_fits : (w : World) (dir : FirstDir) (name : List ℕ) (n : Node) → IsShort dir.stored → node_at w.nodes n.id ≡ Some n → AllByRecursion NodeFits w.nodes → AllByRecursion NodeFits (apply_all (made_in w dir name n) w).nodes
made_fits w dir name n short there fits =
    let found = (all_find NodeFits (λ m. same_id n.id m.id) w.nodes n fits there).0 in
    all_inserted node_order NodeFits _ _ (directory_fits dir.stored _ dir.level short)
    (all_found NodeFits (λ m. same_id n.id m.id) _ w.nodes n there (record { stored = found.stored; text = found.text }) fits)

first_nodes : (p : Policy) → AllByRecursion NodeFits (first_world p).nodes
unfolding first_world
first_nodes p = first_keeps (dominance p) (λ dir. IsShort dir.stored) (λ w. AllByRecursion NodeFits w.nodes)
    (λ w dir name n short there within fits. made_fits w dir name n short there fits)
    (first_label p 0) (map (first_dir p) p.dirs) (dirs_short p p.dirs) (directory_fits (first_label p 0) root 0 (label_short p 0), tt)

-- the sizes of the world before all events
pub first_sizes : (p : Policy) → Sizes (first_world p)
first_sizes p = let bare = first_bare p in record {
  sessions = subst (AllByRecursion SessionFits) (sym bare.sessions) tt;
  clients = subst (AllByRecursion ClientFits) (sym bare.clients) tt;
  nodes = first_nodes p;
}
