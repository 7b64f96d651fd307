-- The links of a service, by its status.
use Rattle.std.proofs.Common.{◌≡◌, ◌⊎◌, ℕ, true, false, List, [], All, refl, sym, subst, inl, inr}
use Rattle.std.specs.Prelude.{Result, Ok, Err, OnOk, IfErr, IsSome}
use Rattle.std.specs.declared.option.Option.{Option}
use Rattle.std.specs.declared.option.Option.TheVariants.{Some, None}
use Rattle.lnfs_outside.specs.Nets.{Deal, Back}
use Rattle.lnfs_stage.specs.declared.status.Status.{Status}
use Rattle.lnfs_stage.specs.declared.status.Status.TheVariants as status
use Rattle.lnfs_stage.specs.declared.stop.Stop.{Stop}
use Rattle.lnfs_stage.specs.declared.stop.Stop.TheVariants as stops
use Rattle.lnfs_stage.specs.Seen.{Seen}
use Rattle.lnfs_stage.specs.Ending.{status_of, told_by}
use Rattle.lnfs_stage.specs.Does.{Becomes, IsExcused, IsLate}
use Rattle.lnfs_stage.proofs.Staying.{no_rise}
use Rattle.lnfs_service.specs.Handed.{AreServed}
use Rattle.lnfs_service.specs.Links.{AreUnserved}
use Rattle.lnfs_service.specs.Serves.{IsIdleBefore, IsUntold, NetStop}
use Rattle.lnfs_service.specs.Session.{Session, FoundMemory, IsShort, Nothing}
use Rattle.lnfs_service.proofs.Dealing.{nothing}

untold : {A : Type 0} → false ≡ true → A
untold t = let h : ⊥ = cc in absurd h

module _ (May : Type 0) (Is : Session → List ℕ → List Deal → List Back → Type 0) (classes : List ℕ) where
  -- the policy wasn't read, or its text spells none
  pub unread_is : (stop : Stop) (s t : Seen) → IsExcused 0 0 stop s t → AreServed May Is None (status_of {T = Unit {0}} (Err stop)) classes [] []
  unread_is (stops.Ends ending) s t e = nothing
  unread_is stops.ReadFault s t e = nothing
  unread_is stops.WriteFault s t e = nothing
  unread_is stops.Memory s t e = inl nothing
  unread_is stops.NetFault s t e = no_rise e

  -- the links of a service that may begin didn't come
  pub unserved_is : May → (stop : Stop) (deals : List Deal) (backs : List Back) → AreUnserved stop classes deals backs → AreServed May Is None (status_of {T = Unit {0}} (Err stop)) classes deals backs
  unserved_is may (stops.Ends ending) deals backs u = absurd u
  unserved_is may stops.ReadFault deals backs u = absurd u
  unserved_is may stops.WriteFault deals backs u = absurd u
  unserved_is may stops.Memory deals backs u = inl u
  unserved_is may stops.NetFault deals backs u = (may, u)

  -- they were served, and then it was told, or a stream failed, or there was no memory
  pub served_is : (session : Session) (deals : List Deal) (backs : List Back) (result : Result (Unit {0}) Stop) → Is session classes deals backs → OnOk result (All FoundMemory session.ends) → IfErr result IsUntold → AreServed May Is (Some session) (status_of result) classes deals backs
  served_is session deals backs (Ok value) is found e = (is, found)
  served_is session deals backs (Err (stops.Ends ending)) is found e = absurd e
  served_is session deals backs (Err stops.ReadFault) is found e = absurd e
  served_is session deals backs (Err stops.WriteFault) is found e = is
  served_is session deals backs (Err stops.Memory) is found e = is
  served_is session deals backs (Err stops.NetFault) is found e = absurd e

  -- it was told, and then a stream failed, or there was no memory
  module _ (deals : List Deal) (backs : List Back) where
    late_some : (session : Session) (b : Status) → IsLate b → Is session classes deals backs → AreServed May Is (Some session) b classes deals backs
    late_some session status.Ok e is = absurd e
    late_some session (status.Ends ending) e is = absurd e
    late_some session status.ReadFault e is = absurd e
    late_some session status.WriteFault e is = is
    late_some session status.Memory e is = is
    late_some session status.NetFault e is = absurd e

    late_none : (b : Status) → IsLate b → Nothing deals backs → AreServed May Is None b classes deals backs
    late_none status.Ok e n = absurd e
    late_none (status.Ends ending) e n = absurd e
    late_none status.ReadFault e n = absurd e
    late_none status.WriteFault e n = n
    late_none status.Memory e n = inl n
    late_none status.NetFault e n = absurd e

    late : (session : Option Session) (a b : Status) → IsSome (told_by a) → IsLate b → AreServed May Is session a classes deals backs → AreServed May Is session b classes deals backs
    late (Some session) status.Ok b t e a = late_some session b e a.0
    late (Some session) (status.Ends ending) b t e a = absurd a
    late (Some session) status.ReadFault b t e a = absurd a
    late (Some session) status.WriteFault b t e a = untold t
    late (Some session) status.Memory b t e a = untold t
    late (Some session) status.NetFault b t e a = absurd a
    late None status.Ok b t e a = absurd a
    late None (status.Ends ending) b t e a = late_none b e a
    late None status.ReadFault b t e a = untold t
    late None status.WriteFault b t e a = untold t
    late None status.Memory b t e a = untold t
    late None status.NetFault b t e a = untold t

    pub served_becomes : (session : Option Session) (a b : Status) → Becomes a b → AreServed May Is session a classes deals backs → AreServed May Is session b classes deals backs
    served_becomes session a b (inl e) p = subst (λ (s : Status). AreServed May Is session s classes deals backs) (sym e) p
    served_becomes session a b (inr l) p = late session a b l.0 l.1 p

-- ---- the net

module _ {N : Type 0} (net net' : N) where
  late_idle : (b : Status) → IsLate b → IsIdleBefore b net net'
  late_idle status.Ok e = absurd e
  late_idle (status.Ends ending) e = absurd e
  late_idle status.ReadFault e = absurd e
  late_idle status.WriteFault e = tt
  late_idle status.Memory e = tt
  late_idle status.NetFault e = absurd e

  pub idle_becomes : (a b : Status) → Becomes a b → IsIdleBefore a net net' → IsIdleBefore b net net'
  idle_becomes a b (inl e) i = subst (λ (s : Status). IsIdleBefore s net net') (sym e) i
  idle_becomes a b (inr l) i = late_idle b l.1

  -- a service gives up for want of memory or by the net, before it is told
  idle_stop : (stop : Stop) (n n' : ℕ) → NetStop stop n n' → IsIdleBefore (status_of {T = Unit {0}} (Err stop)) net net'
  idle_stop (stops.Ends ending) n n' e = absurd e
  idle_stop stops.ReadFault n n' e = absurd e
  idle_stop stops.WriteFault n n' e = absurd e
  idle_stop stops.Memory n n' e = tt
  idle_stop stops.NetFault n n' e = tt

  pub idle_stopped : (stop : Stop) {result : Result (Unit {0}) Stop} (n n' : ℕ) → result ≡ Err stop → NetStop stop n n' → IsIdleBefore (status_of result) net net'
  idle_stopped stop n n' is e = rw is (idle_stop stop n n' e)

  pub idle_told : (result : Result (Unit {0}) Stop) → IfErr result IsUntold → IsIdleBefore (status_of result) net net'
  idle_told (Ok value) e = tt
  idle_told (Err (stops.Ends ending)) e = absurd e
  idle_told (Err stops.ReadFault) e = absurd e
  idle_told (Err stops.WriteFault) e = tt
  idle_told (Err stops.Memory) e = tt
  idle_told (Err stops.NetFault) e = absurd e

-- a call that isn't given the net
pub idle_same : {N : Type 0} (net : N) (s : Status) → IsIdleBefore s net net
idle_same net status.Ok = tt
idle_same net (status.Ends ending) = refl
idle_same net status.ReadFault = refl
idle_same net status.WriteFault = tt
idle_same net status.Memory = tt
idle_same net status.NetFault = tt

-- from what is said of a service, and of where one may begin, to what follows
module _ (May Might : Type 0) (Is To : Session → List ℕ → List Deal → List Back → Type 0) (begins : May → Might) (from : (session : Session) (classes : List ℕ) (deals : List Deal) (backs : List Back) → Is session classes deals backs → To session classes deals backs) where
  short_to : (classes : List ℕ) (deals : List Deal) (backs : List Back) → Nothing deals backs ⊎ (May × IsShort classes deals backs) → Nothing deals backs ⊎ (Might × IsShort classes deals backs)
  short_to classes deals backs (inl none) = inl none
  short_to classes deals backs (inr short) = inr (begins short.0, short.1)

  pub served_to : (session : Option Session) (s : Status) (classes : List ℕ) (deals : List Deal) (backs : List Back) → AreServed May Is session s classes deals backs → AreServed Might To session s classes deals backs
  served_to (Some session) status.Ok classes deals backs a = (from session classes deals backs a.0, a.1)
  served_to (Some session) (status.Ends ending) classes deals backs a = absurd a
  served_to (Some session) status.ReadFault classes deals backs a = absurd a
  served_to (Some session) status.WriteFault classes deals backs a = from session classes deals backs a
  served_to (Some session) status.Memory classes deals backs a = from session classes deals backs a
  served_to (Some session) status.NetFault classes deals backs a = absurd a
  served_to None status.Ok classes deals backs a = absurd a
  served_to None (status.Ends ending) classes deals backs a = a
  served_to None status.ReadFault classes deals backs a = a
  served_to None status.WriteFault classes deals backs a = a
  served_to None status.Memory classes deals backs a = short_to classes deals backs a
  served_to None status.NetFault classes deals backs a = (begins a.0, a.1)
