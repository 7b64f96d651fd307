-- What holds of the actions of a script.
use Rattle.std.specs.Prelude.{◌≤◌, ◌<◌, length, IsSome, IsTrue}
use Rattle.lnfs_words.specs.Paths.{is_path}
use Rattle.lnfs_policy.specs.Policy.{Policy, parent_at}
use Rattle.lnfs_calipso.specs.declared.Level.{Level}
use Rattle.lnfs_script.specs.Paths.{is_root_or_path}
use Rattle.lnfs_script.specs.declared.action.Action.{Action}
use Rattle.lnfs_script.specs.declared.action.Action.TheVariants as action
use Rattle.lnfs_script.specs.declared.identity.Identity.{Identity}
use Rattle.lnfs_script.specs.declared.identity.Identity.TheVariants as identity
use Rattle.lnfs_script.specs.declared.limits.TheConstants.{MAX_OFFSET, MAX_COUNT, MAX_CONTENT}

-- the bounds of a line of a script
abbrev pub ActionFits : Action → Type 0
ActionFits action.Mount = Unit {0}
ActionFits (action.List path) = IsTrue (is_root_or_path path)
ActionFits (action.Read path offset count) = IsTrue (is_root_or_path path) × (offset ≤ MAX_OFFSET) × (count ≤ MAX_COUNT)
ActionFits (action.Write path offset content) = IsTrue (is_root_or_path path) × (offset ≤ MAX_OFFSET) × (length content ≤ MAX_CONTENT)
ActionFits (action.Make path) = IsTrue (is_path path)
ActionFits (action.Mkdir path level) = IsTrue (is_path path)
ActionFits (action.Remove path) = IsTrue (is_path path)
ActionFits (action.Raise path level) = IsTrue (is_path path)
ActionFits action.Leave = Unit {0}

-- a level of the policy
abbrev pub IsLevelOf : Policy → Level → Type 0
IsLevelOf p level = level.0 < length p.labels

-- each level that an action names is one of the policy
abbrev pub ActionSuits : Policy → Action → Type 0
ActionSuits p (action.Mkdir path level) = IsLevelOf p level
ActionSuits p (action.Raise path level) = IsLevelOf p level
ActionSuits p asked = Unit {0}

-- a parent that is named is one of the policy
abbrev pub IdentitySuits : Policy → Identity → Type 0
IdentitySuits p (identity.Guest uid) = Unit {0}
IdentitySuits p (identity.Full parent) = IsSome (parent_at p parent)

-- what a line may ask for: neither mount nor leave, which no line names
abbrev pub IsOfLine : Action → Type 0
IsOfLine action.Mount = ⊥
IsOfLine action.Leave = ⊥
IsOfLine asked = Unit {0}
