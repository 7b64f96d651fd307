-- The replies that are due of events, and the records that they are sent as.
use Rattle.std.specs.Prelude.{ℕ, List, [], ◌∷◌, ◌++◌, Option, filter_map}
use Rattle.lnfs_types.specs.declared.event.Event.{Event}
use Rattle.lnfs_policy.specs.Policy.{Policy}
use Rattle.lnfs_operations.specs.Extra.{Extra}
use Rattle.lnfs_gss3.specs.Mechanism.{Signing}
use Rattle.lnfs_step.specs.Journal.{answer_with}

-- the replies to events, one after another, where a journal came before them
unfoldable pub replies_after : (reply : List Event → Event → Option (List ℕ)) → List Event → List Event → List (Option (List ℕ))
replies_after reply journal [] = []
replies_after reply journal (event ∷ events) = reply journal event ∷ replies_after reply (journal ++ event ∷ []) events

-- The answers to events: each is the reply that its requester would get with every event outside its dominance purged.
abbrev pub answers_to : (X : Extra) → Signing → Policy → List Event → List (Option (List ℕ))
answers_to X m p events = replies_after (answer_with X m p) [] events

-- the records of replies: one for each that is due
abbrev pub records_of : List (Option (List ℕ)) → List (List ℕ)
records_of replies = filter_map (λ reply. reply) replies
