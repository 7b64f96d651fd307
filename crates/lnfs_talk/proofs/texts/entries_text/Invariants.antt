use Rattle.std.proofs.Common.{◌≡◌, ◌++◌, drop}
use Rattle.std.specs.List.{flat_map}
use Rattle.lnfs_talk.specs.Texts.{entry_text}
use Rattle.lnfs_talk.proofs.texts.entries_text.Given as goal

-- the entries so far, and those that are left
abbrev pub invariant-loop-entry : goal.invariant-loop-entry
invariant-loop-entry l = l.text.items ++ flat_map entry_text (drop l.entry-index l.entries) ≡ flat_map entry_text l.entries
