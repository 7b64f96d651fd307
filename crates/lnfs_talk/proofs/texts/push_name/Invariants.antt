use Rattle.std.proofs.Common.{◌≡◌, ◌++◌, map, drop}
use Rattle.lnfs_talk.specs.Texts.{shown_byte}
use Rattle.lnfs_talk.proofs.texts.push_name.Given as goal

-- what is appended so far, and the bytes that are left
abbrev pub invariant-loop-byte : goal.invariant-loop-byte
invariant-loop-byte l = l.text.items ++ map shown_byte (drop l.byte-index l.name) ≡ l.initial.text.items ++ map shown_byte l.name
