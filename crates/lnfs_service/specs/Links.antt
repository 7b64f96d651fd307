-- What the calls on the links of a service come to.
use Rattle.std.specs.Prelude.{◌≡◌, ◌≤◌, ◌+◌, ℕ, List, ◌∷◌, ◌++◌, length, map, All}
use Rattle.std.specs.declared.option.Option.{Option}
use Rattle.std.specs.declared.option.Option.TheVariants.{Some, None}
use Rattle.lnfs_outside.specs.Nets.{Deal, Back, IsFresh}
use Rattle.lnfs_workers.specs.declared.line.LinkEnd.{LinkEnd}
use Rattle.lnfs_stage.specs.declared.stop.Stop.{Stop}
use Rattle.lnfs_stage.specs.declared.stop.Stop.TheVariants as stop
use Rattle.lnfs_service.specs.Handed.{Adds, Dealings}
use Rattle.lnfs_service.specs.Session.{IsRefused, Nothing}

-- by what a link tells: the link as it was dealt, with its class
abbrev pub deal_of : {L : Type 0} → (L → Back) → ℕ × L → Deal
deal_of tell link = record { class = link.0; left = (tell link.1).left; taken = (tell link.1).taken }

-- it has taken nothing, and no call of it has failed
abbrev pub IsNew : Back → Type 0
IsNew link = IsFresh link.taken link.read_faults link.write_faults

-- and the end of a service, with what is told of its link
abbrev pub told_end : {L : Type 0} → (L → Back) → LinkEnd L → LinkEnd Back
told_end tell end = record { class = end.class; link = tell end.link; ending = end.ending; records = end.records }

-- some are the first of all, and not the whole
abbrev pub IsCut : (all some : List ℕ) → Type 0
IsCut all some = (next : ℕ) × (others : List ℕ) × (all ≡ some ++ next ∷ others)

-- where both are told, so many more links were given than were handed back
abbrev pub Owes : ℕ → Option (List Deal) → Option (List Back) → Type 0
Owes n None backs = Unit {0}
Owes n (Some deals) None = Unit {0}
Owes n (Some deals) (Some backs) = length backs + n ≤ length deals

-- new links of these classes were dealt, and none was handed back
pub record Came {L : Type 0} (tell : L → Back) (classes : List ℕ) (links : List (ℕ × L)) (net : Dealings) : Type 0 where
  pub all : map (λ link. link.0) links ≡ classes
  pub new : All (λ link. IsNew (tell link.1)) links
  pub dealt : Adds net.dealt net.dealt_after (map (deal_of tell) links)
  pub kept : net.backs_after ≡ net.backs
  pub owes : Owes (length links) net.dealt_after net.backs_after

-- the links of a service for which they didn't all come, by what stopped it
abbrev pub AreUnserved : Stop → (classes : List ℕ) → List Deal → List Back → Type 0
AreUnserved stop.NetFault classes deals backs = IsRefused classes deals backs
AreUnserved stop.Memory classes deals backs = Nothing deals backs
AreUnserved cause classes deals backs = ⊥
