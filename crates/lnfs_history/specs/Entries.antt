-- Entries of a history, and what a keeper and a place know of it.
use Rattle.std.specs.Prelude.{ℕ, ◌==◌, Option, if◌then◌else◌, List, [], ◌∷◌}
use Rattle.lnfs_types.specs.declared.event.Event.{Event}
use Rattle.lnfs_history.specs.declared.entry.Entry.{Entry}

abbrev pub entry : Event → Option (List ℕ) → Entry
entry event reply = record { event = event; reply = reply }

-- the entries of a link, in order
abbrev pub of : ℕ → List Entry → List Entry
of link [] = []
of link (e ∷ es) = if link == e.event.link then e ∷ of link es else of link es

-- what the keeper knows: the whole history, and how many places were made
pub record Known : Type 0 where
  pub log : List Entry
  pub made : ℕ

-- what a place knows: its link, and that link's entries
pub record Part : Type 0 where
  pub link : ℕ
  pub entries : List Entry

abbrev pub known : List Entry → ℕ → Known
known log made = record { log = log; made = made }

abbrev pub part : ℕ → List Entry → Part
part link entries = record { link = link; entries = entries }
