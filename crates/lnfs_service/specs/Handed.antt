-- The links that a run was dealt, and those that it handed back.
use Rattle.std.specs.Prelude.{◌≡◌, ◌⊎◌, ℕ, List, [], ◌++◌, All}
use Rattle.std.specs.declared.option.Option.{Option}
use Rattle.std.specs.declared.option.Option.TheVariants.{Some, None}
use Rattle.lnfs_outside.specs.Nets.{Deal, Back}
use Rattle.lnfs_types.specs.declared.event.Moment.{Moment}
use Rattle.lnfs_gss3.specs.Mechanism.{keyed_digest}
use Rattle.lnfs_stage.specs.declared.status.Status.{Status}
use Rattle.lnfs_stage.specs.declared.status.Status.TheVariants as status
use Rattle.lnfs_further.specs.Further.{further}
use Rattle.lnfs_commands.specs.Rules.{IsTaken}
use Rattle.lnfs_service.specs.Session.{Session, FoundMemory, IsSession, IsRefused, IsShort, Nothing}

-- the links that a net gave and those that were handed back to it, before and after, where they are told
pub record Dealings : Type 0 where
  pub dealt : Option (List Deal)
  pub dealt_after : Option (List Deal)
  pub backs : Option (List Back)
  pub backs_after : Option (List Back)

abbrev pub dealings : (dealt dealt' : Option (List Deal)) → (backs backs' : Option (List Back)) → Dealings
dealings dealt dealt' backs backs' = record { dealt = dealt; dealt_after = dealt'; backs = backs; backs_after = backs' }

-- a list grows by some; one that isn't told stays so
abbrev pub Adds : {X : Type 0} → Option (List X) → Option (List X) → List X → Type 0
Adds None new xs = new ≡ None
Adds (Some olds) new xs = new ≡ Some (olds ++ xs)

-- what is said of the links that a call was dealt, and of those that it handed back
pub record Deals (d : Dealings) (Say : List Deal → List Back → Type 0) : Type 0 where
  pub deals : List Deal
  pub backs : List Back
  pub dealt : Adds d.dealt d.dealt_after deals
  pub handed : Adds d.backs d.backs_after backs
  pub say : Say deals backs

-- a text spells a policy
abbrev pub IsSpelled : (policy : Option (List ℕ)) → Type 0
IsSpelled policy = IsTaken policy (λ rules. Unit {0})

-- a service under the policy that a text spells, in a server that was given no event
abbrev pub IsService : (may : Moment → Type 0) (policy : Option (List ℕ)) → Session → (classes : List ℕ) → List Deal → List Back → Type 0
IsService may policy session classes deals backs = IsTaken policy (λ rules. IsSession further may keyed_digest rules [] session classes deals backs)

-- The links that were to be served, by what the service came to, if it began, and the status. The net is asked for links only where a service may begin.
abbrev pub AreServed : (May : Type 0) (Is : Session → List ℕ → List Deal → List Back → Type 0) → Option Session → Status → (classes : List ℕ) → List Deal → List Back → Type 0
AreServed May Is (Some session) status.Ok classes deals backs = Is session classes deals backs × All FoundMemory session.ends
AreServed May Is (Some session) status.WriteFault classes deals backs = Is session classes deals backs
AreServed May Is (Some session) status.Memory classes deals backs = Is session classes deals backs
AreServed May Is (Some session) (status.Ends ending) classes deals backs = ⊥
AreServed May Is (Some session) status.ReadFault classes deals backs = ⊥
AreServed May Is (Some session) status.NetFault classes deals backs = ⊥
AreServed May Is None status.Ok classes deals backs = ⊥
AreServed May Is None status.NetFault classes deals backs = May × IsRefused classes deals backs
AreServed May Is None status.Memory classes deals backs = Nothing deals backs ⊎ (May × IsShort classes deals backs)
AreServed May Is None (status.Ends ending) classes deals backs = Nothing deals backs
AreServed May Is None status.ReadFault classes deals backs = Nothing deals backs
AreServed May Is None status.WriteFault classes deals backs = Nothing deals backs
