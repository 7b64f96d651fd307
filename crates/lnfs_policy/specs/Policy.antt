-- The policy of a site, as its text spells it.
use Rattle.std.specs.Prelude.{◌==◌, ◌&&◌, ℕ, Bool, true, false, List, [], Option, Some, None, option_map, find, codes}
use Rattle.std.specs.Ordering.{nat_cmp}
use Rattle.std.specs.BTreeMap.{insert_entry, is_at}
use Rattle.std.specs.Map.{lookup}
use Rattle.std.specs.List.{fold}
use Rattle.std.specs.Option.{unwrap_or}
use Rattle.lnfs_calipso.specs.Label.{Label, dom_of}
use Rattle.lnfs_format.specs.declared.formats.FormatEntry.{FormatEntry}
use Rattle.lnfs_policy.specs.Line.{Line}
use Rattle.lnfs_policy.specs.Rows.{version_of, mode_of, labels_of, formats_of, parents_of, guests_of, quotas_of, dirs_of}
use Rattle.lnfs_policy.specs.declared.mode.Mode.{Mode}
use Rattle.lnfs_policy.specs.declared.mode.Mode.TheVariants.{Enforcing}
use Rattle.lnfs_policy.specs.declared.rows.Parent.{Parent}
use Rattle.lnfs_policy.specs.declared.rows.Guest.{Guest}
use Rattle.lnfs_policy.specs.declared.rows.Limit.{Limit}
use Rattle.lnfs_policy.specs.declared.rows.Quota.{Quota}
use Rattle.lnfs_policy.specs.declared.rows.DirLine.{DirLine}
use Rattle.lnfs_policy.specs.declared.cause.Cause.{Cause}
use Rattle.lnfs_policy.specs.declared.cause.Cause.TheVariants as because

-- The canonical text; the version; the labels, in the order of the levels; and what the lines of the other kinds give, in the
-- order of the lines, the parents by their numbers.
pub record Policy : Type 0 where
  pub text : List ℕ
  pub version : ℕ
  pub mode : Mode
  pub labels : List Label
  pub formats : List FormatEntry
  pub parents : List (ℕ × Parent)
  pub guests : List Guest
  pub quotas : List Quota
  pub dirs : List DirLine

abbrev pub with_parent : List (ℕ × Parent) → Parent → List (ℕ × Parent)
with_parent entries parent = insert_entry nat_cmp entries parent.number parent

abbrev pub by_number : List Parent → List (ℕ × Parent)
by_number parents = fold with_parent [] parents

-- the policy of a canonical text and of what its lines say
abbrev pub policy_in : List ℕ → List Line → Policy
policy_in text lines = record {
  text = text;
  version = unwrap_or (version_of lines) 1;
  mode = unwrap_or (mode_of lines) Enforcing;
  labels = labels_of lines;
  formats = formats_of lines;
  parents = by_number (parents_of lines);
  guests = guests_of lines;
  quotas = quotas_of lines;
  dirs = dirs_of lines;
}

-- dominance of the levels
abbrev pub dominance : Policy → ℕ → ℕ → Bool
dominance p = dom_of p.labels

-- ---- guests

-- a guest line without a uid is for all, and one with a uid for those who have it
abbrev pub admits : Option ℕ → Option ℕ → Bool
admits None asked = true
admits (Some uid) None = false
admits (Some uid) (Some asked) = uid == asked

abbrev pub is_for : ℕ → Option ℕ → Guest → Bool
is_for class uid guest = guest.class == class && admits guest.uid uid

-- the level of the first guest line that fits
abbrev pub guest_level : Policy → (class : ℕ) → (uid : Option ℕ) → Option ℕ
guest_level p class uid = option_map (λ guest. guest.level.0) (find (is_for class uid) p.guests)

-- ---- parents and quotas

-- the parent of a number
abbrev pub parent_at : Policy → (number : ℕ) → Option Parent
parent_at p number = lookup (is_at (nat_cmp number)) p.parents

-- the limit of a level without a quota line
abbrev pub default_limit : Limit
default_limit = record { nodes = 4096; bytes = 67108864 }

abbrev pub limit_of : Policy → (level : ℕ) → Limit
limit_of p level = unwrap_or (option_map (λ quota. quota.limit) (find (λ quota. quota.level.0 == level) p.quotas)) default_limit

-- the text of a cause
abbrev pub cause_name : Cause → List ℕ
cause_name because.Version = codes "Version"
cause_name because.Words = codes "Words"
cause_name because.Number = codes "Number"
cause_name because.Order = codes "Order"
cause_name because.Level = codes "Level"
cause_name because.Format = codes "Format"
cause_name because.Name = codes "Name"
cause_name because.Parent = codes "Parent"
cause_name because.Guest = codes "Guest"
cause_name because.Quota = codes "Quota"
cause_name because.Dir = codes "Dir"
cause_name because.Missing = codes "Missing"
