-- The policy of a text in version 2.
use Rattle.std.specs.Prelude.{◌≡◌, ℕ, List, ◌∷◌, ◌++◌, drop, length, codes, Ok}
use Rattle.lnfs_words.specs.Words.{newline}
use Rattle.lnfs_policy.specs.Policy.{Policy}
use Rattle.lnfs_policy.specs.PolicyText.{policy_of}

-- a line with its newline
abbrev pub version_2 : List ℕ
version_2 = codes "lnfs-policy 2" ++ newline ∷ codes ""

-- the text of a policy with the version line of version 2
abbrev pub in_version_2 : List ℕ → List ℕ
in_version_2 text = version_2 ++ drop (length version_2) text

-- The text is that of the policy but for its first line. It spells a policy of version 2, with the same mode, labels, formats,
-- parents, guests, limits and directories.
pub record IsMigrated (p : Policy) (text : List ℕ) : Type 0 where
  pub lines : text ≡ in_version_2 p.text
  pub spells : policy_of text ≡ Ok (record p { text = text; version = 2 })
