-- What a walk over the entries of a directory appends.
use Rattle.std.specs.Prelude.{◌≡◌, ◌<◌, ◌≤◌, ◌+◌, ℕ, Bool, true, false, List, [], ◌∷◌, ◌++◌, length, Option, Some, None, Result, Ok, Err, replicate}
use Rattle.std.specs.List.{flat_map}
use Rattle.lnfs_xdr.specs.Canon.{word, flag, padded}
use Rattle.lnfs_arguments.specs.Numbers.{op_readdir}
use Rattle.lnfs_attrs.specs.declared.bitmap.Bitmap.{Bitmap}
use Rattle.lnfs_attrs.specs.declared.view.View.{View}
use Rattle.lnfs_results.specs.declared.types.DirEntry.{DirEntry}
use Rattle.lnfs_results.specs.declared.types.OpResult.{OpResult}
use Rattle.lnfs_results.specs.declared.types.OpResult.TheVariants as results
use Rattle.lnfs_results.specs.Texts.{entry_text, result_text}
use Rattle.lnfs_world.specs.World.{Id, Node, World, node_at, entry_order, is_directory}
use Rattle.lnfs_world.specs.Names.{entries_above}
use Rattle.lnfs_world.specs.Outcome.{Site, Place}
use Rattle.lnfs_world.specs.Rows.{Rising}
use Rattle.lnfs_operations.specs.declared.Refusal.{Refusal}
use Rattle.lnfs_operations.specs.Chain.{Answer, Done}
use Rattle.lnfs_operations.specs.Chain as chain
use Rattle.lnfs_operations.specs.Shown.{answer_to}
use Rattle.lnfs_operations.specs.ReadDir.{Listed, taken, shown_entry, listed}
use Rattle.lnfs_tree.specs.Rows.{Rows}
use Rattle.lnfs_nodes.specs.Trees.{refusal_of}
use Rattle.lnfs_nodes.specs.declared.entries.Entered.{Entered}
use Rattle.lnfs_nodes.specs.declared.entries.Entered.TheVariants.{Taken, Left, Denied}
use Rattle.lnfs_nodes.specs.declared.entries.Walked.{Walked}
use Rattle.lnfs_nodes.specs.declared.entries.Walked.TheVariants.{Ended, Refused}

-- an entry with what its node shows
abbrev pub entry_as : Bitmap → (cookie : ℕ) → (name : List ℕ) → (inner : Bool) → View → DirEntry
entry_as asked cookie name inner view = record { cookie = cookie; name = name; attrs = answer_to asked inner view }

-- an entry, behind the word for TRUE
abbrev pub entry_written : DirEntry → List ℕ
entry_written d = flag true ++ entry_text d

-- What came of an entry, where so many bytes are left: it is appended, or it doesn't fit, or it may not be shown.
abbrev pub Enters : (old new : List ℕ) → (room : ℕ) → Option DirEntry → Entered → Type 0
Enters old new room (Some d) Taken = (new ≡ old ++ entry_written d) × (taken d ≤ room)
Enters old new room (Some d) Left = (new ≡ old) × (room < taken d)
Enters old new room None Denied = Unit {0}
Enters old new room _ _ = ⊥

-- how much it appends
abbrev pub Grows : (old new : List ℕ) → (room : ℕ) → Entered → Type 0
Grows old new room Taken = length new ≤ length old + room
Grows old new room Left = new ≡ old
Grows old new room Denied = Unit {0}

abbrev pub has_any : List DirEntry → Bool
has_any [] = false
has_any (d ∷ entries) = true

-- what came of the entries
abbrev pub Walks : (old new : List ℕ) → Option Listed → Walked → Type 0
Walks old new (Some found) (Ended any eof) = (new ≡ old ++ flat_map entry_written found.entries) × (any ≡ has_any found.entries) × (eof ≡ found.eof)
Walks old new None Refused = Unit {0}
Walks old new _ _ = ⊥

-- the entries of a directory behind a cookie as a subject is shown them, as far as they fit
abbrev pub listed_in : Site → Place → World → Bitmap → Id → (cookie room : ℕ) → Option Listed
listed_in site p w asked directory cookie room = listed (λ e. shown_entry site p w asked e (node_at w.nodes e.node)) room (entries_above w.entries directory cookie)

-- a directory, and names in the order of their cookies
pub record IsListable (t : Rows) (directory : Id) : Type 0 where
  pub node : Node
  pub node_is : node_at t.nodes directory ≡ Some node
  pub kind : is_directory node.kind ≡ true
  pub rise : Rising entry_order t.entries

-- what stands before the entries
abbrev pub listing_head : List ℕ
listing_head = word op_readdir ++ word 0 ++ padded (replicate 8 0)

-- the result that lists entries
abbrev pub listing_result : Listed → OpResult
listing_result found = results.ReadDir (replicate 8 0) found.entries found.eof

-- A listing is appended, or refused.
abbrev pub Lists : (old new : List ℕ) → Answer Listed → Result (Unit {0}) Refusal → Type 0
Lists old new (Done found) (Ok it) = new ≡ old ++ result_text (listing_result found)
Lists old new (chain.Refused why) (Err e) = refusal_of e ≡ why
Lists old new _ _ = ⊥
