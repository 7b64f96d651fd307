-- What is written for events that are served, one after another.
use Rattle.std.specs.Prelude.{ℕ, ◌+◌, List, [], ◌∷◌, ◌++◌, length, unwrap_or}
use Rattle.std.specs.Option.{option_map}
use Rattle.std.specs.declared.option.Option.{Option}
use Rattle.std.specs.declared.option.Option.TheVariants.{Some, None}
use Rattle.lnfs_types.specs.declared.event.Event.{Event}
use Rattle.lnfs_policy.specs.Policy.{Policy}
use Rattle.lnfs_rpc.specs.Formats.{frame_of}
use Rattle.lnfs_operations.specs.Extra.{Extra}
use Rattle.lnfs_gss3.specs.Mechanism.{Signing}
use Rattle.lnfs_step.specs.Journal.{line_with, text_of}
use Rattle.lnfs_stage.specs.Writes.{Write, to_out, to_audit}

-- the audit line of an event after a journal, with its place there, from 1
unfoldable pub audit_with : (X : Extra) → Signing → Policy → (journal : List Event) → Event → Option (List ℕ)
audit_with X m p journal event = text_of (length journal + 1) (line_with X m p journal event)

-- nothing is written where no reply is due
abbrev pub framed : Option (List ℕ) → List ℕ
framed reply = unwrap_or (option_map frame_of reply) []

-- the reply's frame, and then the audit line
abbrev pub answer_writes : Option (List ℕ) → Option (List ℕ) → List Write
answer_writes reply line = to_out (framed reply) ∷ to_audit (unwrap_or line []) ∷ []

-- what is written for events, one after another, where the journal came before them
unfoldable pub writes_after : (reply line : List Event → Event → Option (List ℕ)) → List Event → List Event → List Write
writes_after reply line journal [] = []
writes_after reply line journal (event ∷ events) = answer_writes (reply journal event) (line journal event) ++ writes_after reply line (journal ++ event ∷ []) events

-- the frames of the replies alone, and the lines alone
unfoldable pub frames_after : (reply : List Event → Event → Option (List ℕ)) → List Event → List Event → List ℕ
frames_after reply journal [] = []
frames_after reply journal (event ∷ events) = framed (reply journal event) ++ frames_after reply (journal ++ event ∷ []) events

unfoldable pub lines_after : (line : List Event → Event → Option (List ℕ)) → List Event → List Event → List ℕ
lines_after line journal [] = []
lines_after line journal (event ∷ events) = unwrap_or (line journal event) [] ++ lines_after line (journal ++ event ∷ []) events

-- the same lines, each by itself
abbrev pub lone : Option (List ℕ) → List (List ℕ)
lone None = []
lone (Some text) = text ∷ []

unfoldable pub each_line : (line : List Event → Event → Option (List ℕ)) → List Event → List Event → List (List ℕ)
each_line line journal [] = []
each_line line journal (event ∷ events) = lone (line journal event) ++ each_line line (journal ++ event ∷ []) events
