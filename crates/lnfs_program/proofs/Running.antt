-- A run, from its parts.
use Rattle.std.proofs.Common.{◌≡◌, ℕ, Bool, List, [], ◌∷◌, refl, ◌∙◌, arith, inl}
use Rattle.std.specs.Prelude.{Result, Ok, Err, IfSome, IfErr}
use Rattle.std.specs.declared.option.Option.{Option}
use Rattle.std.specs.declared.option.Option.TheVariants.{Some, None}
use Rattle.lnfs_types.specs.declared.event.Moment.{Moment}
use Rattle.lnfs_outside.specs.Nets.{Deal, Back}
use Rattle.lnfs_stage.specs.declared.ending.Ending.{Ending}
use Rattle.lnfs_stage.specs.declared.ending.Ending.TheVariants.{LinkClosed}
use Rattle.lnfs_stage.specs.declared.status.Status.{Status}
use Rattle.lnfs_stage.specs.declared.status.Status.TheVariants as status
use Rattle.lnfs_stage.specs.declared.stop.Stop.{Stop}
use Rattle.lnfs_stage.specs.declared.stop.Stop.TheVariants as stops
use Rattle.lnfs_stage.specs.Seen.{Seen}
use Rattle.lnfs_stage.specs.Writes.{Write, Takes}
use Rattle.lnfs_stage.specs.Ending.{status_of}
use Rattle.lnfs_stage.specs.Due.{Due, written, line_for, told}
use Rattle.lnfs_stage.specs.Does.{Does, IsExcused, HandedOn, ended}
use Rattle.lnfs_stage.proofs.Writing.{front_first}
use Rattle.lnfs_stage.proofs.Staying.{no_rise}
use Rattle.lnfs_stage.proofs.Doing.{beside_net}
use Rattle.lnfs_stage.specs.Contents.{Contents, Follows}
use Rattle.lnfs_stage.proofs.Reading.{unread, unread_held}
use Rattle.lnfs_commands.specs.Commands.{due}
use Rattle.lnfs_commands.specs.Runs.{RunsQuietly}
use Rattle.lnfs_commands.specs.Words.{Asked, alone, serve, talk, judge, save, resume}
use Rattle.lnfs_service.specs.Handed.{Dealings, dealings}
use Rattle.lnfs_service.specs.Serves.{Offers, IsIdleBefore}
use Rattle.lnfs_service.proofs.Dealing.{untouched, nothing}
use Rattle.lnfs_service.proofs.Handing.{idle_same as idle_before}
use Rattle.lnfs_dialling.specs.Visits.{Visits, IsIdleFor, IsIdleTill}
use Rattle.lnfs_program.specs.Runs.{Met, Runs, RunsAsked, WithoutNet, HasReason, counts, streams, due_asked}
use Rattle.lnfs_auditing.specs.Audits.{audit_due}
use Rattle.lnfs_checkpointing.specs.Checkpoints.{saving_due, resumption_due, IsJudged, IsSaved, Resumes, Saves}
use Rattle.lnfs_program.specs.Idle.{IsIdle}

-- nothing was met
abbrev nobody : Met
nobody = record { session = None; records = None; verdict = None }

-- no verdict where there was no memory to judge
none_judged : (files : Contents) → IsJudged files status.Memory None
none_judged files = record { said = λ text bytes p is_text is_policy is_bytes. refl }

-- and no checkpoint where there was none to write it
none_saved : (files : Contents) → IsSaved files status.Memory
none_saved files = record { again = λ text traffic p e is_text is_policy is_traffic. let h : ⊥ = cc in absurd h }

-- a call that isn't given the net doesn't say that it failed
without_net : (result : Result (Unit {0}) Stop) (s t : Seen) → IfErr result (λ stop. IsExcused 0 0 stop s t) → WithoutNet (status_of result)
without_net (Ok value) s t e = tt
without_net (Err (stops.Ends ending)) s t e = tt
without_net (Err stops.ReadFault) s t e = tt
without_net (Err stops.WriteFault) s t e = tt
without_net (Err stops.Memory) s t e = tt
without_net (Err stops.NetFault) s t e = no_rise e

module _ (may : Moment → Type 0) (result : Result (Unit {0}) Stop) (s t : Seen) (n : ℕ) (dealt : Option (List Deal)) (backs : Option (List Back)) where
  -- there was no memory to begin a service
  short_asked : (policy links : List ℕ) (workers : ℕ) → result ≡ Err stops.Memory → Does {T = Unit {0}} (Err stops.Memory) s t (written []) → RunsAsked may (Err stops.Memory) (Some (serve policy links workers)) s t n n (dealings dealt dealt backs backs)
  short_asked policy links workers is p = record {
    contents = unread s.content (policy ∷ []);
    met = nobody;
    held = unread_held s.content (policy ∷ []);
    does = record { whole = tt; begun = front_first [] (told (due_asked (Some (serve policy links workers)) (unread s.content (policy ∷ [])) nobody)).writes p.begun; stays = p.stays; excused = tt };
    links = untouched dealt backs (inl nothing);
    judged = tt;
    later = omega arith;
  }

  -- and none to begin a client
  short_visit : (policy : List ℕ) (level : ℕ) (script : List ℕ) → Does {T = Unit {0}} (Err stops.Memory) s t (written []) → RunsAsked may (Err stops.Memory) (Some (talk policy level script)) s t n n (dealings dealt dealt backs backs)
  short_visit policy level script p = let names : List (List ℕ) = policy ∷ script ∷ [] in record {
    contents = unread s.content names;
    met = nobody;
    held = unread_held s.content names;
    does = record { whole = tt; begun = front_first [] (told (due_asked (Some (talk policy level script)) (unread s.content names) nobody)).writes p.begun; stays = p.stays; excused = tt };
    links = untouched dealt backs nothing;
    judged = tt;
    later = omega arith;
  }

  -- and none to begin an audit
  short_audit : (policy traffic replies : List ℕ) (purged : Bool) → Does {T = Unit {0}} (Err stops.Memory) s t (written []) → RunsAsked may (Err stops.Memory) (Some (judge policy traffic replies purged)) s t n n (dealings dealt dealt backs backs)
  short_audit policy traffic replies purged p = let names : List (List ℕ) = policy ∷ traffic ∷ replies ∷ [] in record {
    contents = unread s.content names;
    met = nobody;
    held = unread_held s.content names;
    does = record { whole = tt; begun = front_first [] (told (due_asked (Some (judge policy traffic replies purged)) (unread s.content names) nobody)).writes p.begun; stays = p.stays; excused = tt };
    links = untouched dealt backs (tt, nothing);
    judged = tt;
    later = omega arith;
  }

  -- an audit that was asked for
  pub audited_asked : {asked : Option Asked} {policy traffic replies : List ℕ} {purged : Bool} → asked ≡ Some (judge policy traffic replies purged) → Follows result s t (policy ∷ traffic ∷ replies ∷ []) (λ files. told (audit_due policy traffic replies purged files)) → RunsAsked may result asked s t n n (dealings dealt dealt backs backs)
  audited_asked is p = rw is (record {
    contents = p.contents;
    met = nobody;
    held = p.held;
    does = beside_net n n p.does;
    links = untouched dealt backs (without_net result s t p.does.excused, nothing);
    judged = tt;
    later = omega arith;
  })

  -- and none to begin with a checkpoint
  short_saving : (policy traffic : List ℕ) → Does {T = Unit {0}} (Err stops.Memory) s t (written []) → RunsAsked may (Err stops.Memory) (Some (save policy traffic)) s t n n (dealings dealt dealt backs backs)
  short_saving policy traffic p = let names : List (List ℕ) = policy ∷ traffic ∷ [] in record {
    contents = unread s.content names;
    met = nobody;
    held = unread_held s.content names;
    does = record { whole = tt; begun = front_first [] (told (due_asked (Some (save policy traffic)) (unread s.content names) nobody)).writes p.begun; stays = p.stays; excused = tt };
    links = untouched dealt backs (tt, nothing);
    judged = none_saved (unread s.content names);
    later = omega arith;
  }

  short_resumption : (policy checkpoint traffic : List ℕ) → Does {T = Unit {0}} (Err stops.Memory) s t (written []) → RunsAsked may (Err stops.Memory) (Some (resume policy checkpoint traffic)) s t n n (dealings dealt dealt backs backs)
  short_resumption policy checkpoint traffic p = let names : List (List ℕ) = policy ∷ checkpoint ∷ traffic ∷ [] in record {
    contents = unread s.content names;
    met = nobody;
    held = unread_held s.content names;
    does = record { whole = tt; begun = front_first [] (told (due_asked (Some (resume policy checkpoint traffic)) (unread s.content names) nobody)).writes p.begun; stays = p.stays; excused = tt };
    links = untouched dealt backs (tt, nothing);
    judged = none_judged (unread s.content names);
    later = omega arith;
  }

  -- a checkpoint that was asked for
  pub saved_asked : {asked : Option Asked} {policy traffic : List ℕ} → asked ≡ Some (save policy traffic) → Saves result s t (policy ∷ traffic ∷ []) IsSaved (λ files. told (saving_due policy traffic files)) → RunsAsked may result asked s t n n (dealings dealt dealt backs backs)
  saved_asked is p = rw is (record {
    contents = p.follows.contents;
    met = nobody;
    held = p.follows.held;
    does = beside_net n n p.follows.does;
    links = untouched dealt backs (without_net result s t p.follows.does.excused, nothing);
    judged = p.kept;
    later = omega arith;
  })

  -- and what is behind one
  pub resumed_asked : {asked : Option Asked} {policy checkpoint traffic : List ℕ} → asked ≡ Some (resume policy checkpoint traffic) → Resumes result s t (policy ∷ checkpoint ∷ traffic ∷ []) IsJudged (λ verdict files. told (resumption_due policy checkpoint traffic verdict files)) → RunsAsked may result asked s t n n (dealings dealt dealt backs backs)
  resumed_asked is p = rw is (record {
    contents = p.follows.contents;
    met = record { session = None; records = None; verdict = p.verdict };
    held = p.follows.held;
    does = beside_net n n p.follows.does;
    links = untouched dealt backs (without_net result s t p.follows.does.excused, nothing);
    judged = p.judged;
    later = omega arith;
  })

  -- a run without links
  pub quiet_asked : (asked : Option Asked) → RunsQuietly result asked s t → RunsAsked may result asked s t n n (dealings dealt dealt backs backs)
  quiet_asked None p = record {
    contents = p.follows.contents;
    met = nobody;
    held = p.follows.held;
    does = beside_net n n p.follows.does;
    links = untouched dealt backs (without_net result s t p.follows.does.excused, nothing);
    judged = tt;
    later = omega arith;
  }
  quiet_asked (Some (alone form)) p = record {
    contents = p.follows.contents;
    met = nobody;
    held = p.follows.held;
    does = beside_net n n p.follows.does;
    links = untouched dealt backs (without_net result s t p.follows.does.excused, nothing);
    judged = tt;
    later = omega arith;
  }
  quiet_asked (Some (serve policy links workers)) p = rw p.memory (short_asked policy links workers p.memory (rw p.memory at p.does))
  quiet_asked (Some (talk policy level script)) p = rw p.memory (short_visit policy level script (rw p.memory at p.does))
  quiet_asked (Some (judge policy traffic replies purged)) p = rw p.memory (short_audit policy traffic replies purged (rw p.memory at p.does))
  quiet_asked (Some (save policy traffic)) p = rw p.memory (short_saving policy traffic (rw p.memory at p.does))
  quiet_asked (Some (resume policy checkpoint traffic)) p = rw p.memory (short_resumption policy checkpoint traffic (rw p.memory at p.does))

  pub quiet_handed : (asked : Option Asked) → RunsQuietly result asked s t → HandedOn result s t
  quiet_handed None p = p.handed
  quiet_handed (Some (alone form)) p = p.handed
  quiet_handed (Some (serve policy links workers)) p = p.handed
  quiet_handed (Some (talk policy level script)) p = p.handed
  quiet_handed (Some (judge policy traffic replies purged)) p = p.handed
  quiet_handed (Some (save policy traffic)) p = p.handed
  quiet_handed (Some (resume policy checkpoint traffic)) p = p.handed

-- a service that was asked for
module _ {asked : Option Asked} {policy links : List ℕ} {workers : ℕ} (is : asked ≡ Some (serve policy links workers)) where
  pub served_asked : {may : Moment → Type 0} {result : Result (Unit {0}) Stop} {s s' t : Seen} {n n' : ℕ} {d : Dealings} → s' ≡ s → Offers may policy links result s' t n n' d told → RunsAsked may result asked s t n n' d
  served_asked same p = let q = rw same at p in rw is (record { contents = q.policy ∷ []; met = record { session = q.session; records = None; verdict = None }; held = (q.held, tt); does = q.does; links = q.links; judged = tt; later = q.later })

  pub served_idle : {N : Type 0} (result : Result (Unit {0}) Stop) (net net' : N) → IsIdleBefore (status_of result) net net' → IsIdle asked (status_of result) net net'
  served_idle result net net' i = rw is i

-- a client that was asked for
module _ {asked : Option Asked} {policy : List ℕ} {level : ℕ} {script : List ℕ} (is : asked ≡ Some (talk policy level script)) where
  pub visited_asked : {may : Moment → Type 0} {result : Result (Unit {0}) Stop} {s s' t : Seen} {n n' : ℕ} {d : Dealings} → s' ≡ s → Visits policy level script result s' t n n' d told → RunsAsked may result asked s t n n' d
  visited_asked same p = let q = rw same at p in rw is (record { contents = q.contents; met = record { session = None; records = q.records; verdict = None }; held = q.held; does = q.does; links = q.links; judged = tt; later = q.later })

  pub visited_idle : {N : Type 0} (result : Result (Unit {0}) Stop) (net net' : N) → IsIdleTill (status_of result) net net' → IsIdle asked (status_of result) net net'
  visited_idle result net net' i = rw is i

-- what was asked for over links, where nothing was done before
pub asked_so : {may : Moment → Type 0} {result : Result (Unit {0}) Stop} {asked : Option Asked} {over : Asked} {s s' t : Seen} {n n' : ℕ} {d : Dealings} → asked ≡ Some over → s' ≡ s → RunsAsked may result (Some over) s' t n n' d → RunsAsked may result asked s t n n' d
asked_so is same p = rw is (rw same at p)

idle_till : {N : Type 0} (net : N) (ending : Ending) → IsIdleFor ending net net
idle_till net LinkClosed = tt
idle_till net ending = refl

visit_same : {N : Type 0} (net : N) (s : Status) → IsIdleTill s net net
visit_same net status.Ok = tt
visit_same net (status.Ends ending) = idle_till net ending
visit_same net status.ReadFault = refl
visit_same net status.WriteFault = tt
visit_same net status.Memory = tt
visit_same net status.NetFault = tt

pub idle_same : {N : Type 0} (asked : Option Asked) (result : Result (Unit {0}) Stop) (net : N) → IsIdle asked (status_of result) net net
idle_same None result net = refl
idle_same (Some (alone form)) result net = refl
idle_same (Some (serve policy links workers)) result net = idle_before net (status_of result)
idle_same (Some (talk policy level script)) result net = visit_same net (status_of result)
idle_same (Some (judge policy traffic replies purged)) result net = refl
idle_same (Some (save policy traffic)) result net = refl
idle_same (Some (resume policy checkpoint traffic)) result net = refl

-- ---- told of the objects one by one

told_ending : (writes : List Write) (o : Option Ending) → (line_for writes o).ending ≡ o
told_ending writes None = refl
told_ending writes (Some ending) = refl

told_whole : (o : Option (Option Ending)) (s t s' t' : Seen) (due : Due) → IfSome o (λ e. (e ≡ (told due).ending) × Takes s t (told due).writes) → (Takes s t (told due).writes → Takes s' t' (told due).writes) → IfSome o (λ e. (e ≡ due.ending) × Takes s' t' (told due).writes)
told_whole None s t s' t' due p f = tt
told_whole (Some e) s t s' t' due p f = (p.0 ∙ told_ending due.writes due.ending, f p.1)

as_streams : (s t : Seen) (writes : List Write) → Takes s t writes → Takes (streams s.out.taken s.audit.taken) (streams t.out.taken t.audit.taken) writes
as_streams s t writes p = record { out_took = p.out_took; audit_took = p.audit_took }

module _ {may : Moment → Type 0} {asked : Option Asked} {s t : Seen} {n n' : ℕ} {d : Dealings} where
  pub runs_of : (result : Result (Unit {0}) Stop) → RunsAsked may result asked s t n n' d → Runs s.content may asked (status_of result) (streams s.out.taken s.audit.taken) (streams t.out.taken t.audit.taken) d
  runs_of result p = let due : Due = due_asked asked p.contents p.met in record {
    contents = p.contents;
    met = p.met;
    held = p.held;
    told_all = told_whole (ended result) s t (streams s.out.taken s.audit.taken) (streams t.out.taken t.audit.taken) due p.does.whole (as_streams s t (told due).writes);
    begun = record { whole = p.does.begun.whole; part = p.does.begun.part; takes = as_streams s t _ p.does.begun.takes };
    links = p.links;
    judged = p.judged;
  }

  pub reason_of : (result : Result (Unit {0}) Stop) → RunsAsked may result asked s t n n' d → HasReason (status_of result) s.faults t.faults n n' (counts s.out.faults s.audit.faults) (counts t.out.faults t.audit.faults)
  reason_of (Ok value) p = tt
  reason_of (Err (stops.Ends ending)) p = tt
  reason_of (Err stops.ReadFault) p = p.does.excused
  reason_of (Err stops.WriteFault) p = p.does.excused
  reason_of (Err stops.Memory) p = tt
  reason_of (Err stops.NetFault) p = p.does.excused
