-- What is shown of an action: its answer, or why it has none.
use Rattle.std.specs.Prelude.{ℕ, Bool, ◌&&◌, nat_le, if◌then◌else◌, List, [], ◌∷◌, ◌++◌, map, Option, Some, None, codes}
use Rattle.std.specs.Fmt.{decimal}
use Rattle.std.specs.List.{flat_map}
use Rattle.hex.specs.Hex.{encode_lower}
use Rattle.lnfs_calipso.specs.declared.Level.{Level}
use Rattle.lnfs_client.specs.declared.answer.Shown.{Shown}
use Rattle.lnfs_client.specs.declared.answer.Answer.{Answer}
use Rattle.lnfs_client.specs.declared.answer.Answer.TheVariants as answers
use Rattle.lnfs_client.specs.declared.answer.Refusal.{Refusal}
use Rattle.lnfs_client.specs.declared.answer.Refusal.TheVariants as refusals

-- printable ASCII, with the space
abbrev pub is_printable : ℕ → Bool
is_printable byte = nat_le 32 byte && nat_le byte 126

abbrev pub shown_byte : ℕ → ℕ
shown_byte byte = if is_printable byte then byte else 63

-- a name, in which every other byte is a question mark
abbrev pub name_text : List ℕ → List ℕ
name_text name = map shown_byte name

-- a label of no level is a question mark
abbrev pub level_text : Option Level → List ℕ
level_text None = codes "?"
level_text (Some level) = decimal level.0

abbrev pub entry_text : Shown → List ℕ
entry_text entry = codes "entry " ++ name_text entry.name ++ 32 ∷ level_text entry.level ++ 10 ∷ []

abbrev pub answer_text : Answer → List ℕ
answer_text answers.Mounted = codes "mounted\n"
answer_text (answers.Entries entries) = flat_map entry_text entries ++ codes "end\n"
answer_text (answers.Data bytes) = codes "data " ++ encode_lower bytes ++ 10 ∷ []
answer_text (answers.Wrote count) = codes "wrote " ++ decimal count ++ 10 ∷ []
answer_text answers.Made = codes "made\n"
answer_text answers.Removed = codes "removed\n"
answer_text answers.Raised = codes "raised\n"
answer_text answers.Left = codes "left\n"

-- Of want of memory nothing is shown.
abbrev pub refusal_text : Refusal → List ℕ
refusal_text refusals.NotDominated = codes "refused NotDominated\n"
refusal_text refusals.UnknownLabel = codes "refused UnknownLabel\n"
refusal_text refusals.NotEqual = codes "refused NotEqual\n"
refusal_text (refusals.ServerSaid status) = codes "server " ++ decimal status ++ 10 ∷ []
refusal_text (refusals.Denied auth) = codes "denied " ++ decimal auth ++ 10 ∷ []
refusal_text (refusals.BadReply at) = codes "bad reply " ++ decimal at ++ 10 ∷ []
refusal_text refusals.Memory = []
