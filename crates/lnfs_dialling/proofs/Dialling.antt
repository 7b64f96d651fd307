-- A link that is dialled, talked over and handed back.
use Rattle.std.proofs.Common.{◌≡◌, ◌≤◌, ◌+◌, ℕ, Bool, true, false, cond, nat_eq, List, [], ◌∷◌, refl, sym, subst, arith}
use Rattle.std.proofs.lemmas.List.{length_push}
use Rattle.std.proofs.lemmas.Bool.Decides.{nat_tests}
use Rattle.std.specs.Prelude.{Result, Ok, Err, IfErr, IfSome}
use Rattle.std.specs.declared.option.Option.{Option}
use Rattle.std.specs.declared.option.Option.TheVariants.{Some, None}
use Rattle.lnfs_outside.specs.Calls.{next}
use Rattle.lnfs_outside.specs.Causes.{Rose}
use Rattle.lnfs_outside.specs.Nets.{Deal, Back, Fewer, Grows, NoMore, after_return}
use Rattle.lnfs_policy.specs.Policy.{Policy}
use Rattle.lnfs_gss3.specs.Mechanism.{Signing}
use Rattle.lnfs_script.specs.declared.script.Script.{Script}
use Rattle.lnfs_stage.specs.declared.ending.Ending.{Ending}
use Rattle.lnfs_stage.specs.declared.ending.Ending.TheVariants.{LinkClosed}
use Rattle.lnfs_stage.specs.declared.stop.Stop.{Stop}
use Rattle.lnfs_stage.specs.declared.stop.Stop.TheVariants as stop
use Rattle.lnfs_stage.specs.Seen.{Seen}
use Rattle.lnfs_stage.specs.Ending.{status_of}
use Rattle.lnfs_stage.specs.Does.{IsExcused}
use Rattle.lnfs_stage.proofs.Staying.{stays_same}
use Rattle.lnfs_stage.proofs.Writing.{front_none}
use Rattle.lnfs_service.specs.Handed.{dealings}
use Rattle.lnfs_service.specs.Session.{began}
use Rattle.lnfs_service.proofs.Dealing.{adds_none, adds_more, nothing, stays_returned, untouched}
use Rattle.lnfs_talk.specs.Talk.{talk}
use Rattle.lnfs_talk.specs.Talks.{Talks}
use Rattle.lnfs_dialling.specs.Visits.{Dials, IsIdleFor, IsIdleTill}

-- ---- a link that was given may be handed back

pub fewer_dealt : (d d' : Option (List Deal)) (b b' : Option (List Back)) (deal : Deal) → NoMore d b → Grows d d' deal → b' ≡ b → Fewer d' b'
fewer_dealt None d' b b' deal n grown kept = rw grown tt
fewer_dealt (Some deals) d' None b' deal n grown kept = rw (grown, kept) tt
fewer_dealt (Some deals) d' (Some backs) b' deal n grown kept = rw (grown, kept) (omega (arith, n, length_push deals deal))

-- ---- faults

-- a fault of the link is one of the net, when it is handed back
returned_by : (n n' r w : ℕ) (b : Bool) → nat_eq (r + w) 0 ≡ b → n ≤ n' → Rose 0 (r + w) → Rose n (cond b n' (next n'))
returned_by n n' r w true e later rose = grind (arith, nat_tests, e, rose)
returned_by n n' r w false e later rose = omega (arith, later)

returned : (n n' r w : ℕ) → n ≤ n' → Rose 0 (r + w) → Rose n (after_return n' r w)
returned n n' r w later rose = returned_by n n' r w (nat_eq (r + w) 0) refl later rose

excused_so : (result : Result (Unit {0}) Stop) (n n' r w : ℕ) (s t : Seen) → n ≤ n' → IfErr result (λ cause. IsExcused 0 (r + w) cause s t) → IfErr result (λ cause. IsExcused n (after_return n' r w) cause s t)
excused_so (Ok value) n n' r w s t later e = tt
excused_so (Err (stop.Ends ending)) n n' r w s t later e = tt
excused_so (Err stop.ReadFault) n n' r w s t later e = e
excused_so (Err stop.WriteFault) n n' r w s t later e = e
excused_so (Err stop.NetFault) n n' r w s t later e = returned n n' r w later e
excused_so (Err stop.Memory) n n' r w s t later e = tt

module _ (m : Signing) (p : Policy) (level : ℕ) (s : Script) {dealt dealt' : Option (List Deal)} {backs backs' : Option (List Back)} {n n' : ℕ} where
  -- no link was given
  pub dials_refused : {result : Result (Unit {0}) Stop} (before : Seen) → result ≡ Err stop.NetFault → dealt' ≡ dealt → backs' ≡ backs → Rose n n' → n ≤ n' → Dials m p level s result before before n n' (dealings dealt dealt' backs backs')
  dials_refused before is e f rose later = rw (is, e, f) (record {
    records = None;
    does = record { whole = tt; begun = front_none before []; stays = stays_same before; excused = rose };
    links = untouched dealt backs (tt, nothing);
    later = omega (arith, later);
  })

  -- it was talked over
  pub dials_talked : (result : Result (Unit {0}) Stop) (before after : Seen) (deal : Deal) (now : Back) {backs'' : Option (List Back)} {n'' : ℕ} → deal.class ≡ s.class → IfSome deal.taken (λ bytes. bytes ≡ []) → Talks m p level s result before after (began deal) now
      → Grows dealt dealt' deal → backs' ≡ backs → Grows backs' backs'' now → n ≤ n' → n'' ≡ after_return n' now.read_faults now.write_faults → Dials m p level s result before after n n'' (dealings dealt dealt' backs backs'')
  dials_talked result before after deal now {backs''} {n''} class fresh t grown kept given later is = rw is (record {
    records = Some t.records;
    does = record { whole = t.does.whole; begun = t.does.begun; stays = t.does.stays; excused = excused_so result n n' now.read_faults now.write_faults before after later t.does.excused };
    links = record {
      deals = deal ∷ [];
      backs = now ∷ [];
      dealt = adds_more dealt dealt dealt' [] deal (adds_none dealt) grown;
      handed = adds_more backs backs backs'' [] now (adds_none backs) (subst (λ (b : Option (List Back)). Grows b backs'' now) kept given);
      say = record { deal = deal; back = now; dealt = refl; handed = refl; say = record { class = class; fresh = fresh; talk = t.link } };
    };
    later = stays_returned n n' now.read_faults now.write_faults (omega (arith, later)) refl;
  })

-- ---- the net

-- it told the ending that is due: there is one alone
closed_is : (is_over : Bool) (ending : Ending) → Some ending ≡ cond is_over None (Some LinkClosed) → ending ≡ LinkClosed
closed_is true ending e = let h : ⊥ = cc in absurd h
closed_is false ending e = cc

module _ (m : Signing) (p : Policy) (level : ℕ) (s : Script) {N : Type 0} (net net' : N) where
  -- no ending is told of a dialogue that leaves the net alone
  pub idle_talked : (result : Result (Unit {0}) Stop) {before after : Seen} {old now : Back} → Talks m p level s result before after old now → IsIdleTill (status_of result) net net'
  idle_talked (Ok value) t = tt
  idle_talked (Err (stop.Ends ending)) t = subst (λ (e : Ending). IsIdleFor e net net') (sym (closed_is (talk m p level s t.records).state.is_over ending t.does.whole.0)) tt
  idle_talked (Err stop.ReadFault) t = absurd t.link.ends
  idle_talked (Err stop.WriteFault) t = tt
  idle_talked (Err stop.NetFault) t = tt
  idle_talked (Err stop.Memory) t = tt
