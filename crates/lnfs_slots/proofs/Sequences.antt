-- A COMPOUND whose SEQUENCE is not new: the state stays, and nothing is kept.
use Rattle.std.proofs.Common.{◌≡◌, ℕ, ◌+◌, ◌≤◌, Bool, true, false, cond, List, [], ◌∷◌, drop, Option, Some, None, refl, ◌∙◌, ap, arith}
use Rattle.std.specs.Prelude.{◌==◌}
use Rattle.std.specs.Str.{bytes_eq}
use Rattle.std.proofs.lemmas.Bool.Decides.{nat_tests}
use Rattle.lnfs_types.specs.declared.event.Moment.{Moment}
use Rattle.lnfs_arguments.specs.declared.types.Op.{Op}
use Rattle.lnfs_arguments.specs.declared.types.Op.TheVariants as ops
use Rattle.lnfs_arguments.specs.declared.types.Compound.{Compound}
use Rattle.lnfs_arguments.specs.declared.types.Sequence.{Sequence}
use Rattle.lnfs_arguments.specs.declared.statuses.TheConstants.{NFS4ERR_BADSESSION, NFS4ERR_SEQ_FALSE_RETRY, NFS4ERR_SEQ_MISORDERED}
use Rattle.lnfs_monitor.specs.declared.rule.Rule.TheVariants.{M9}
use Rattle.lnfs_world.specs.World.{Kept as Stored, World, session_at}
use Rattle.lnfs_world.specs.Outcome.{Site, Place, Outcome, begins_at}
use Rattle.lnfs_world.specs.Lawful.{Turn}
use Rattle.lnfs_world.specs.Both.{Both}
use Rattle.lnfs_world.specs.declared.numbers.TheConstants.{LAST_SEQUENCE}
use Rattle.lnfs_operations.specs.declared.Gate.TheVariants as gates
use Rattle.lnfs_operations.specs.Chain.{Answer as Answered, refuse, done, demand, where_there}
use Rattle.lnfs_operations.specs.Identifiers.{session_named}
use Rattle.lnfs_operations.specs.InOrder.{in_order}
use Rattle.lnfs_operations.specs.Keeping.{next_sequence}
use Rattle.lnfs_operations.specs.Sequence.{Sent, Sequenced, Again, under_session, sequence}
use Rattle.lnfs_operations.specs.Extra.{Extra}
use Rattle.lnfs_operations.specs.Results.{failed}
use Rattle.lnfs_operations.specs.Served.{operation}
use Rattle.lnfs_operations.specs.SlotRule.{Answer, Ran, new_result, run_all, kept_after, served}
use Rattle.lnfs_operations.proofs.Retries.{chosen_true, chosen_false, begun, by_sequence}
use Rattle.lnfs_slots.specs.OneClient.{is_keeping}

-- an outcome that is old: a refusal, or the reply that was kept
pub data IsOld (p : Place) (o : Outcome (Answered Sequenced)) : Type 0 where
  refusal : (status : ℕ) → o ≡ refuse p gates.Session status → IsOld p o
  kept : (reply : List ℕ) → o ≡ done p (Again reply) [] → IsOld p o

-- a sequence that is not above the last is old
pub old_order : (p : Place) (last : ℕ) (k : Option Stored) (s : ℕ) (arguments : List ℕ) (new : Outcome (Answered Sequenced)) → s ≤ last → last + 1 ≤ LAST_SEQUENCE → IsOld p (in_order p last (next_sequence last) k s arguments (λ reply. done p (Again reply) []) new)
old_order p last k s arguments new below soon = at (cond (s == last) k None)
  where
    not_next : (s == next_sequence last) ≡ false
    not_next = grind (arith, nat_tests, below, soon)

    either : (b : Bool) (reply : List ℕ) → IsOld p (cond b (done p (Again reply) []) (refuse p gates.Session NFS4ERR_SEQ_FALSE_RETRY))
    either true reply = kept reply refl
    either false reply = refusal NFS4ERR_SEQ_FALSE_RETRY refl

    at : (o : Option Stored) → IsOld p (where_there o (λ j. demand (bytes_eq j.arguments arguments) (refuse p gates.Session NFS4ERR_SEQ_FALSE_RETRY) (done p (Again j.reply) [])) (demand (s == next_sequence last) (refuse p gates.Session NFS4ERR_SEQ_MISORDERED) new))
    at None = refusal NFS4ERR_SEQ_MISORDERED (chosen_false (s == next_sequence last) new (refuse p gates.Session NFS4ERR_SEQ_MISORDERED) not_next)
    at (Some j) = either (bytes_eq j.arguments arguments) j.reply

-- the SEQUENCE of an unknown session of its own level
pub no_session : (level : ℕ) (moment : Moment) (w : World) (args : Sequence) (sent : Sent) → (session_named args.session).level ≡ level → session_at w.sessions (session_named args.session) ≡ None → sequence args sent (begins_at level moment) w ≡ refuse (begins_at level moment) gates.Session NFS4ERR_BADSESSION
no_session level moment w args sent own none =
    let p = begins_at level moment in
    chosen_true ((session_named args.session).level == level) _ (refuse p (gates.Monitor M9) NFS4ERR_BADSESSION) (grind (arith, nat_tests, own))
    ∙ ap (λ o. where_there o (under_session args sent p w) (refuse p gates.Session NFS4ERR_BADSESSION)) (under (bytes_eq (drop 12 args.session) (0 ∷ 0 ∷ 0 ∷ 0 ∷ [])))
  where
    under : (b : Bool) → cond b (session_at w.sessions (session_named args.session)) None ≡ None
    under true = none
    under false = refl

module _ (X : Extra) (site : Site) (sent : Sent) (c : Compound) (level : ℕ) (moment : Moment) (b : Both X.Row) (args : Sequence) (rest : List Op) (minor : c.minor ≡ 2) (first : c.ops ≡ ops.Sequence args ∷ rest) where
  abbrev p : Place
  p = begins_at level moment

  pub record IsQuiet : Type 0 where
    pub state : (served X site sent c p b).state ≡ b
    pub keeps : is_keeping (run_all (operation X site sent c) c p b).keeper ≡ false

  ran_as : (o : Outcome (Answered Sequenced)) → sequence args sent p b.world ≡ o → run_all (operation X site sent c) c p b ≡ begun X site sent c args rest b o
  ran_as o is = by_sequence X site sent c level moment b args rest minor first ∙ ap (begun X site sent c args rest b) is

  served_as : (o : Outcome (Answered Sequenced)) → sequence args sent p b.world ≡ o → served X site sent c p b ≡ kept_after sent c (begun X site sent c args rest b o)
  unfolding served
  served_as o is = ap (kept_after sent c) (ran_as o is)

  -- a refusal stays what it is
  pub refused_result : (status : ℕ) → sequence args sent p b.world ≡ refuse p gates.Session status → (served X site sent c p b).answer.result ≡ new_result c (failed (ops.Sequence args) status ∷ [])
  unfolding begun
  refused_result status is = ap (λ (t : Turn Answer (Both X.Row)). t.answer.result) (served_as (refuse p gates.Session status) is)

  pub old_quiet : (o : Outcome (Answered Sequenced)) → sequence args sent p b.world ≡ o → IsOld p o → IsQuiet
  unfolding begun
  old_quiet o is (refusal status e) = record {
    state = ap (λ (t : Turn Answer (Both X.Row)). t.state) (served_as (refuse p gates.Session status) (is ∙ e));
    keeps = ap (λ (r : Ran (Both X.Row)). is_keeping r.keeper) (ran_as (refuse p gates.Session status) (is ∙ e));
  }
  old_quiet o is (kept reply e) = record {
    state = ap (λ (t : Turn Answer (Both X.Row)). t.state) (served_as (done p (Again reply) []) (is ∙ e));
    keeps = ap (λ (r : Ran (Both X.Row)). is_keeping r.keeper) (ran_as (done p (Again reply) []) (is ∙ e));
  }
