-- What the service of links came to.
use Rattle.std.specs.Prelude.{◌≡◌, ◌≢◌, ◌≤◌, ℕ, ◌+◌, List, [], ◌∷◌, ◌++◌, length, map, codes, All, IfSome}
use Rattle.std.specs.Fmt.{decimal}
use Rattle.lnfs_outside.specs.Nets.{Deal, Back}
use Rattle.lnfs_types.specs.declared.event.Event.{Event}
use Rattle.lnfs_types.specs.declared.event.Moment.{Moment}
use Rattle.lnfs_policy.specs.Policy.{Policy}
use Rattle.lnfs_operations.specs.Extra.{Extra}
use Rattle.lnfs_gss3.specs.Mechanism.{Signing}
use Rattle.lnfs_step.specs.Journal.{answer_with}
use Rattle.lnfs_history.specs.declared.entry.Entry.{Entry}
use Rattle.lnfs_history.specs.Entries.{entry, of}
use Rattle.lnfs_workers.specs.Links.{IsServed}
use Rattle.lnfs_workers.specs.Pairs.{EachAt}
use Rattle.lnfs_workers.specs.declared.line.LinkEnd.{LinkEnd}
use Rattle.lnfs_incoming.specs.declared.ending.Ending.{Ending}
use Rattle.lnfs_incoming.specs.declared.ending.Ending.TheVariants.{Closed, Cut, ReadFault, WriteFault, TooLong, Budget, Memory}

-- the events that it served, and the ends of the links in their order, each with what is told of the link when it is handed back
pub record Session : Type 0 where
  pub journal : List Event
  pub ends : List (LinkEnd Back)

abbrev pub ending_name : Ending → List ℕ
ending_name Closed = codes "Closed"
ending_name Cut = codes "Cut"
ending_name ReadFault = codes "ReadFault"
ending_name WriteFault = codes "WriteFault"
ending_name TooLong = codes "TooLong"
ending_name Budget = codes "Budget"
ending_name Memory = codes "Memory"

-- the line of a link: its number, how its service ended, and how many of its records were served
abbrev pub link_line : {L : Type 0} → ℕ → LinkEnd L → List ℕ
link_line number end = codes "link " ++ decimal number ++ 32 ∷ ending_name end.ending ++ 32 ∷ decimal end.records ++ 10 ∷ []

-- the lines of links that are numbered from here on
abbrev pub link_lines : {L : Type 0} → ℕ → List (LinkEnd L) → List (List ℕ)
link_lines number [] = []
link_lines number (end ∷ ends) = link_line number end ∷ link_lines (number + 1) ends

-- each event with the reply that its requester would get with every event outside its dominance purged from the journal before it
abbrev pub answered_after : (X : Extra) → Signing → Policy → (before journal : List Event) → List Entry
answered_after X m policy before [] = []
answered_after X m policy before (e ∷ es) = entry e (answer_with X m policy before e) ∷ answered_after X m policy (before ++ e ∷ []) es

-- its service found memory
abbrev pub FoundMemory : {L : Type 0} → LinkEnd L → Type 0
FoundMemory end = end.ending ≢ Memory

-- a link when it is dealt: no call of it has failed
abbrev pub began : Deal → Back
began deal = record { left = deal.left; taken = deal.taken; read_faults = 0; write_faults = 0 }

-- A service behind a journal, with a link of each of the classes, and the links that were dealt and handed back for it. `IsServed` says ReadFault or WriteFault only where that count of the link isn't 0.
pub record IsSession (X : Extra) (may : Moment → Type 0) (m : Signing) (policy : Policy) (before : List Event) (session : Session) (classes : List ℕ) (deals : List Deal) (backs : List Back) : Type 0 where
  -- one link of each class was dealt, in their order, and had taken nothing
  pub dealt : map (λ deal. deal.class) deals ≡ classes
  pub fresh : All (λ deal. IfSome deal.taken (λ bytes. bytes ≡ [])) deals
  -- link by link, the events of the journal are what it gave, at moments of the clock, and it took the frames of the replies that their requesters would get with every event outside their dominance purged
  pub links : EachAt (λ n deal end. IsServed (λ back. back) may deal.class (began deal) end (of n (answered_after X m policy before session.journal))) 0 deals session.ends
  -- the journal has no other events
  pub others : (link : ℕ) → length deals ≤ link → of link (answered_after X m policy before session.journal) ≡ []
  -- they were handed back in their order
  pub handed : backs ≡ map (λ end. end.link) session.ends

-- A service that didn't begin: fewer links were dealt than there are classes, and each was handed back as it came.
pub record IsRefused (classes : List ℕ) (deals : List Deal) (backs : List Back) : Type 0 where
  pub class : ℕ
  pub others : List ℕ
  pub dealt : classes ≡ map (λ deal. deal.class) deals ++ class ∷ others
  pub handed : backs ≡ map began deals

-- One that found no memory behind its links: one of each of the classes was dealt and had taken nothing, and none was handed back.
pub record IsShort (classes : List ℕ) (deals : List Deal) (backs : List Back) : Type 0 where
  pub dealt : map (λ deal. deal.class) deals ≡ classes
  pub fresh : All (λ deal. IfSome deal.taken (λ bytes. bytes ≡ [])) deals
  pub kept : backs ≡ []

-- no link was dealt, and none was handed back
pub record Nothing (deals : List Deal) (backs : List Back) : Type 0 where
  pub dealt : deals ≡ []
  pub handed : backs ≡ []
