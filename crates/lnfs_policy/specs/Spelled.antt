-- The one spelling of a line of the policy file.
use Rattle.std.specs.Prelude.{◌≡◌, ◌⊎◌, ◌<◌, ◌+◌, ◌^◌, ℕ, List, [], ◌∷◌, Option, Some, None, IfSome, codes}
use Rattle.std.specs.Fmt.{decimal}
use Rattle.lnfs_policy.specs.Line.{Line, version_line, mode_line, level_line, format_line, name_line, parent_line, guest_line, quota_line, dir_line}
use Rattle.lnfs_policy.specs.declared.mode.Mode.TheVariants.{Enforcing, Limited}

-- `*` is any user id, and none
abbrev pub uid_word : Option ℕ → List ℕ
uid_word None = codes "*"
uid_word (Some uid) = decimal uid

-- the words of a line
abbrev pub spelled : Line → List (List ℕ)
spelled (version_line version) = codes "lnfs-policy" ∷ decimal version ∷ []
spelled (mode_line Enforcing) = codes "mode" ∷ codes "enforcing" ∷ []
spelled (mode_line Limited) = codes "mode" ∷ codes "limited" ∷ []
spelled (level_line place doi sens comps) = codes "level" ∷ decimal place ∷ decimal doi ∷ decimal sens ∷ comps ∷ []
spelled (format_line lfs pi kind) = codes "format" ∷ decimal lfs ∷ decimal pi ∷ kind ∷ []
spelled (name_line lfs pi level hex) = codes "name" ∷ decimal lfs ∷ decimal pi ∷ decimal level ∷ hex ∷ []
spelled (parent_line number hex level) = codes "parent" ∷ decimal number ∷ hex ∷ decimal level ∷ []
spelled (guest_line class uid level) = codes "guest" ∷ decimal class ∷ uid_word uid ∷ decimal level ∷ []
spelled (quota_line level nodes bytes) = codes "quota" ∷ decimal level ∷ decimal nodes ∷ decimal bytes ∷ []
spelled (dir_line path level) = codes "dir" ∷ path ∷ decimal level ∷ []

-- a number of 32 bits
abbrev pub Fits32 : ℕ → Type 0
Fits32 n = n < 2 ^ 32

-- a number of a quota, at most 2^62
abbrev pub FitsQuota : ℕ → Type 0
FitsQuota n = n < 2 ^ 62 + 1

-- each number of a line fits
abbrev pub HasNumbers : Line → Type 0
HasNumbers (version_line version) = (version ≡ 1) ⊎ (version ≡ 2)
HasNumbers (mode_line mode) = Unit {0}
HasNumbers (level_line place doi sens comps) = Fits32 place × Fits32 doi × Fits32 sens
HasNumbers (format_line lfs pi kind) = Fits32 lfs × Fits32 pi
HasNumbers (name_line lfs pi level hex) = Fits32 lfs × Fits32 pi × Fits32 level
HasNumbers (parent_line number hex level) = Fits32 number × Fits32 level
HasNumbers (guest_line class uid level) = Fits32 class × IfSome uid Fits32 × Fits32 level
HasNumbers (quota_line level nodes bytes) = Fits32 level × FitsQuota nodes × FitsQuota bytes
HasNumbers (dir_line path level) = Fits32 level
