-- A visit, and its link when the ending was told.
use Rattle.std.proofs.Common.{ℕ, List, [], refl, sym, subst, inl, inr}
use Rattle.std.specs.Prelude.{Err, IfSome, IsSome}
use Rattle.std.specs.declared.option.Option.{Option}
use Rattle.std.specs.declared.option.Option.TheVariants.{Some, None}
use Rattle.lnfs_outside.specs.Nets.{Deal, Back}
use Rattle.lnfs_policy.specs.Policy.{Policy}
use Rattle.lnfs_gss3.specs.Mechanism.{Signing, keyed_digest}
use Rattle.lnfs_script.specs.declared.script.Script.{Script}
use Rattle.lnfs_stage.specs.declared.ending.Ending.{Ending}
use Rattle.lnfs_stage.specs.declared.ending.Ending.TheVariants.{LinkClosed}
use Rattle.lnfs_stage.specs.declared.status.Status.{Status}
use Rattle.lnfs_stage.specs.declared.status.Status.TheVariants as status
use Rattle.lnfs_stage.specs.declared.stop.Stop.{Stop}
use Rattle.lnfs_stage.specs.declared.stop.Stop.TheVariants as stops
use Rattle.lnfs_stage.specs.Seen.{Seen}
use Rattle.lnfs_stage.specs.Contents.{Contents}
use Rattle.lnfs_stage.specs.Ending.{status_of, told_by}
use Rattle.lnfs_stage.specs.Does.{Becomes, IsExcused, IsLate}
use Rattle.lnfs_stage.proofs.Staying.{no_rise}
use Rattle.lnfs_service.proofs.Dealing.{nothing}
use Rattle.lnfs_talk.specs.Talks.{IsTalk, EndsAs}
use Rattle.lnfs_dialling.specs.Visits.{AreVisited, IsIdleFor, IsIdleTill, IsVisited, IsVisit}

-- ---- told late

late_sent : (X : Type 0) (b : Status) → IsLate b → IfSome (told_by b) (λ told. X)
late_sent X status.Ok e = absurd e
late_sent X (status.Ends ending) e = absurd e
late_sent X status.ReadFault e = absurd e
late_sent X status.WriteFault e = tt
late_sent X status.Memory e = tt
late_sent X status.NetFault e = absurd e

late_ends : (left : Option (List ℕ)) (records : List (List ℕ)) (pending : List ℕ) (b : Status) → IsLate b → EndsAs b left records pending
late_ends left records pending status.Ok e = absurd e
late_ends left records pending (status.Ends ending) e = absurd e
late_ends left records pending status.ReadFault e = absurd e
late_ends left records pending status.WriteFault e = tt
late_ends left records pending status.Memory e = tt
late_ends left records pending status.NetFault e = absurd e

module _ (m : Signing) (p : Policy) (level : ℕ) (s : Script) (records : List (List ℕ)) where
  talk_becomes : (a b : Status) (old now : Back) → Becomes a b → IsTalk m p level s a old now records → IsTalk m p level s b old now records
  talk_becomes a b old now (inl e) t = subst (λ (x : Status). IsTalk m p level s x old now records) (sym e) t
  talk_becomes a b old now (inr l) t = record {
    pending = t.pending;
    read = t.read;
    few = t.few;
    reads = t.reads;
    cuts = t.cuts;
    sent = late_sent _ b l.1;
    begun = t.begun;
    ends = late_ends now.left records t.pending b l.1;
    reading = t.reading;
    writing = t.writing;
  }

  pub visited_late : (a b : Status) (deal : Deal) (back : Back) → Becomes a b → IsVisited m p level s a records deal back → IsVisited m p level s b records deal back
  visited_late a b deal back e v = record { class = v.class; fresh = v.fresh; talk = talk_becomes a b _ back e v.talk }

-- of a policy and a script that two texts spell
pub visit_late : (files : Contents) (level : ℕ) (a b : Status) (records : List (List ℕ)) (deal : Deal) (back : Back) → Becomes a b → IsVisit files level a records deal back → IsVisit files level b records deal back
visit_late files level a b records deal back e v = record {
  text = v.text;
  rules = v.rules;
  is_text = v.is_text;
  is_rules = v.is_rules;
  say = (
    v.say.0,
    record {
      text = v.say.1.text;
      spelled = v.say.1.spelled;
      is_text = v.say.1.is_text;
      is_script = v.say.1.is_script;
      say = visited_late keyed_digest v.rules level v.say.1.spelled records a b deal back e v.say.1.say;
    },
  );
}

-- ---- the links of a visit

module _ (May : Type 0) (Is : Status → List (List ℕ) → Deal → Back → Type 0) where
  -- the call that stopped asked the net for nothing
  pub unasked : (stop : Stop) (s t : Seen) → IsExcused 0 0 stop s t → AreVisited May Is None (status_of {T = Unit {0}} (Err stop)) [] []
  unasked (stops.Ends ending) s t e = nothing
  unasked stops.ReadFault s t e = nothing
  unasked stops.WriteFault s t e = nothing
  unasked stops.Memory s t e = nothing
  unasked stops.NetFault s t e = no_rise e

  module _ (later : (a b : Status) (records : List (List ℕ)) (deal : Deal) (back : Back) → Becomes a b → Is a records deal back → Is b records deal back) (deals : List Deal) (backs : List Back) where
    late_none : (a b : Status) → IsSome (told_by a) → IsLate b → AreVisited May Is None a deals backs → AreVisited May Is None b deals backs
    late_none status.Ok b t e v = absurd v
    late_none (status.Ends ending) status.WriteFault t e v = v
    late_none (status.Ends ending) status.Memory t e v = v
    late_none (status.Ends ending) status.Ok t e v = absurd e
    late_none (status.Ends ending) (status.Ends other) t e v = absurd e
    late_none (status.Ends ending) status.ReadFault t e v = absurd e
    late_none (status.Ends ending) status.NetFault t e v = absurd e
    late_none status.ReadFault b t e v = let h : ⊥ = cc in absurd h
    late_none status.WriteFault b t e v = let h : ⊥ = cc in absurd h
    late_none status.Memory b t e v = let h : ⊥ = cc in absurd h
    late_none status.NetFault b t e v = let h : ⊥ = cc in absurd h

    pub visited_becomes : (records : Option (List (List ℕ))) (a b : Status) → Becomes a b → AreVisited May Is records a deals backs → AreVisited May Is records b deals backs
    visited_becomes (Some records) a b e v = record { deal = v.deal; back = v.back; dealt = v.dealt; handed = v.handed; say = later a b records v.deal v.back e v.say }
    visited_becomes None a b (inl e) v = subst (λ (x : Status). AreVisited May Is None x deals backs) (sym e) v
    visited_becomes None a b (inr l) v = late_none a b l.0 l.1 v

-- from what is said of a visit to what follows
pub visited_to : (Might : Type 0) (Is To : Status → List (List ℕ) → Deal → Back → Type 0) → Might → ((ending : Status) (records : List (List ℕ)) (deal : Deal) (back : Back) → Is ending records deal back → To ending records deal back)
    → (records : Option (List (List ℕ))) (ending : Status) (deals : List Deal) (backs : List Back) → AreVisited (Unit {0}) Is records ending deals backs → AreVisited Might To records ending deals backs
visited_to Might Is To may from (Some records) ending deals backs v = record { deal = v.deal; back = v.back; dealt = v.dealt; handed = v.handed; say = from ending records v.deal v.back v.say }
visited_to Might Is To may from None status.Ok deals backs v = absurd v
visited_to Might Is To may from None status.NetFault deals backs v = (may, v.1)
visited_to Might Is To may from None status.Memory deals backs v = v
visited_to Might Is To may from None status.WriteFault deals backs v = v
visited_to Might Is To may from None status.ReadFault deals backs v = v
visited_to Might Is To may from None (status.Ends ending) deals backs v = v

-- ---- the net

module _ {N : Type 0} (net net' : N) where
  late_idle : (b : Status) → IsLate b → IsIdleTill b net net'
  late_idle status.Ok e = absurd e
  late_idle (status.Ends ending) e = absurd e
  late_idle status.ReadFault e = absurd e
  late_idle status.WriteFault e = tt
  late_idle status.Memory e = tt
  late_idle status.NetFault e = absurd e

  pub idle_becomes : (a b : Status) → Becomes a b → IsIdleTill a net net' → IsIdleTill b net net'
  idle_becomes a b (inl e) i = subst (λ (x : Status). IsIdleTill x net net') (sym e) i
  idle_becomes a b (inr l) i = late_idle b l.1

idle_for : {N : Type 0} (net : N) (ending : Ending) → IsIdleFor ending net net
idle_for net LinkClosed = tt
idle_for net ending = refl

pub idle_same : {N : Type 0} (net : N) (a : Status) → IsIdleTill a net net
idle_same net status.Ok = tt
idle_same net (status.Ends ending) = idle_for net ending
idle_same net status.ReadFault = refl
idle_same net status.WriteFault = tt
idle_same net status.Memory = tt
idle_same net status.NetFault = tt
