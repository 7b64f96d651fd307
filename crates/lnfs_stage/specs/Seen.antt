-- The outside as one value.
use Rattle.std.specs.Prelude.{◌≡◌, ◌≤◌, ◌⊎◌, ℕ, List, []}
use Rattle.std.specs.declared.option.Option.{Option}
use Rattle.lnfs_outside.specs.Bytes.{Told}
use Rattle.lnfs_outside.specs.Causes.{Rose}

-- a stream: what it took, where it is told, what it holds back, and how often a call of it failed
pub record Stream : Type 0 where
  pub taken : Option (List ℕ)
  pub waiting : List ℕ
  pub faults : ℕ

-- the files, by their names, and what is still to come of the current one, where they are told, and how often a call of them failed; the two streams; and the references that all is reached by
pub record Seen : Type 0 where
  pub content : Told
  pub left : Option (List ℕ)
  pub faults : ℕ
  pub out : Stream
  pub audit : Stream
  pub names : ℕ × ℕ × ℕ

abbrev pub stream : Option (List ℕ) → List ℕ → ℕ → Stream
stream taken waiting faults = record { taken = taken; waiting = waiting; faults = faults }

abbrev pub world : Told → Option (List ℕ) → ℕ → Stream → Stream → ℕ × ℕ × ℕ → Seen
world content left faults out audit names = record { content = content; left = left; faults = faults; out = out; audit = audit; names = names }

-- no file has changed, no count has fallen, and it is reached by the same references
pub record Stays (before after : Seen) : Type 0 where
  pub content : after.content ≡ before.content
  pub names : after.names ≡ before.names
  pub files : before.faults ≤ after.faults
  pub out : before.out.faults ≤ after.out.faults
  pub audit : before.audit.faults ≤ after.audit.faults

-- a stream holds nothing back, or a call of it has failed
abbrev pub HandsOn : (waiting : List ℕ) → (before after : ℕ) → Type 0
HandsOn waiting before after = (waiting ≡ []) ⊎ Rose before after
