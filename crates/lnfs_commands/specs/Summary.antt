-- What events come to that are served one after another, behind a journal: how many get a reply, how many are refused, and a digest of the replies.
use Rattle.std.specs.Prelude.{ℕ, ◌+◌, List, [], ◌∷◌, ◌++◌, length, codes}
use Rattle.std.specs.Fmt.{decimal}
use Rattle.std.specs.declared.option.Option.{Option}
use Rattle.std.specs.declared.option.Option.TheVariants.{Some, None}
use Rattle.sha2.specs.Sha256.{sha256}
use Rattle.hex.specs.Hex.{encode_lower}
use Rattle.lnfs_types.specs.declared.event.Event.{Event}
use Rattle.lnfs_policy.specs.Policy.{Policy}
use Rattle.lnfs_operations.specs.Extra.{Extra}
use Rattle.lnfs_gss3.specs.Mechanism.{Signing}
use Rattle.lnfs_step.specs.Journal.{answer_with, line_with}
use Rattle.lnfs_commands.specs.Events.{frames_after}

abbrev pub one_of : {A : Type 0} → Option A → ℕ
one_of None = 0
one_of (Some told) = 1

-- how many events are told something, where the journal came before them
unfoldable pub count_after : {A : Type 0} → (told : List Event → Event → Option A) → (journal events : List Event) → ℕ
count_after told journal [] = 0
count_after told journal (event ∷ events) = one_of (told journal event) + count_after told (journal ++ event ∷ []) events

-- a word, a value and a newline
abbrev pub row : (word value : List ℕ) → List ℕ
row word value = word ++ value ++ 10 ∷ []

-- The four lines of so many events, replies and refusals, and of the frames of the replies.
abbrev pub told : (events replies failed : ℕ) → (frames : List ℕ) → List ℕ
told events replies failed frames =
    row (codes "events ") (decimal events)
    ++ row (codes "replies ") (decimal replies)
    ++ row (codes "failed ") (decimal failed)
    ++ row (codes "digest ") (encode_lower (sha256 frames))

abbrev pub summary : (X : Extra) → Signing → Policy → (before events : List Event) → List ℕ
summary X m p before events =
    told (length events) (count_after (answer_with X m p) before events) (count_after (line_with X m p) before events) (frames_after (answer_with X m p) before events)
