-- The entries of a journal, and what a link is written for its entries.
use Rattle.std.specs.Prelude.{ℕ, List, [], ◌∷◌, ◌++◌, Option, Some, None}
use Rattle.lnfs_types.specs.declared.event.Event.{Event}
use Rattle.lnfs_policy.specs.Policy.{Policy}
use Rattle.lnfs_operations.specs.Extra.{Extra}
use Rattle.lnfs_gss3.specs.Mechanism.{Signing}
use Rattle.lnfs_rpc.specs.Formats.{frame_of}
use Rattle.lnfs_step.specs.Journal.{reply_with}
use Rattle.lnfs_history.specs.declared.entry.Entry.{Entry}
use Rattle.lnfs_history.specs.Entries.{entry}

-- each event with the reply that it gets after the events before it
abbrev pub entries_from : (X : Extra) → Signing → Policy → (before journal : List Event) → List Entry
entries_from X m p before [] = []
entries_from X m p before (e ∷ es) = entry e (reply_with X m p before e) ∷ entries_from X m p (before ++ e ∷ []) es

abbrev pub entries_of : (X : Extra) → Signing → Policy → (journal : List Event) → List Entry
entries_of X m p journal = entries_from X m p [] journal

-- the records, in order
abbrev pub messages : List Entry → List (List ℕ)
messages [] = []
messages (e ∷ es) = e.event.message ∷ messages es

-- nothing is written where no reply is due
abbrev pub framed : Option (List ℕ) → List ℕ
framed None = []
framed (Some reply) = frame_of reply

-- the frames of the replies, one after the other
abbrev pub transcript : List Entry → List ℕ
transcript [] = []
transcript (e ∷ es) = framed e.reply ++ transcript es
