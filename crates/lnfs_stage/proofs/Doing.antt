-- Calls, one after another: what was done of what is due.
use Rattle.std.proofs.Common.{◌≡◌, ℕ, List, [], ◌∷◌, ◌++◌, refl, ap, subst}
use Rattle.std.specs.Prelude.{Result, Ok, Err, IfSome, IfErr}
use Rattle.std.specs.declared.option.Option.{Option}
use Rattle.std.specs.declared.option.Option.TheVariants.{Some, None}
use Rattle.lnfs_stage.specs.declared.ending.Ending.{Ending}
use Rattle.lnfs_stage.specs.declared.stop.Stop.{Stop}
use Rattle.lnfs_stage.specs.declared.stop.Stop.TheVariants.{Ends, ReadFault, WriteFault, NetFault, Memory}
use Rattle.lnfs_stage.specs.Seen.{Seen, Stays}
use Rattle.lnfs_stage.specs.Writes.{Write, to_out, to_audit, Takes, TakesFront}
use Rattle.lnfs_stage.specs.Due.{Due, written, ends, follow, and_then}
use Rattle.lnfs_stage.specs.Does.{Does, DoesBy, IsExcused, ended}
use Rattle.lnfs_stage.proofs.Writing.{takes_none, takes_then, front_none, front_first, front_then}
use Rattle.lnfs_stage.proofs.Staying.{stays_same, stays_then, excused_later, excused_before}

-- nothing was due before the ending
pub does_nothing : {T : Type 0} (value : T) (s : Seen) → Does (Ok value) s s (written [])
does_nothing value s = record { whole = (refl, takes_none s); begun = front_none s []; stays = stays_same s; excused = tt }

-- the ending is told
pub does_end : {T : Type 0} {result : Result T Stop} (ending : Ending) (s : Seen) → result ≡ Err (Ends ending) → Does result s s (ends ending)
does_end ending s is = rw is (record { whole = (refl, takes_none s); begun = front_none s []; stays = stays_same s; excused = tt })

-- there was no memory
pub does_short : {T : Type 0} {result : Result T Stop} (s : Seen) (due : Due) → result ≡ Err Memory → Does result s s due
does_short s due is = rw is (record { whole = tt; begun = front_none s due.writes; stays = stays_same s; excused = tt })

-- a front of the first of two things
front_in : {s t : Seen} (writes : List Write) (ending : Option Ending) (next : Due) → TakesFront s t writes → TakesFront s t (follow writes ending next).writes
front_in writes None next p = front_first writes next.writes p
front_in writes (Some ending) next p = p

whole_in : (s t : Seen) (stop : Stop) (writes : List Write) (ending : Option Ending) (next : Due) → IfSome (ended {T = ℕ} (Err stop)) (λ e. (e ≡ ending) × Takes s t writes)
    → IfSome (ended {T = ℕ} (Err stop)) (λ e. (e ≡ (follow writes ending next).ending) × Takes s t (follow writes ending next).writes)
whole_in s t (Ends e) writes None next p = let h : ⊥ = cc in absurd h
whole_in s t (Ends e) writes (Some ending) next p = p
whole_in s t ReadFault writes ending next p = tt
whole_in s t WriteFault writes ending next p = tt
whole_in s t NetFault writes ending next p = tt
whole_in s t Memory writes ending next p = tt

-- the call stopped within the first of two things
pub does_first : {S T : Type 0} (stop : Stop) {result : Result T Stop} {s t : Seen} (due next : Due) → Does {T = S} (Err stop) s t due → result ≡ Err stop → Does result s t (and_then due next)
does_first stop due next p is = rw is (record {
  whole = whole_in _ _ stop due.writes due.ending next p.whole;
  begun = front_in due.writes due.ending next p.begun;
  stays = p.stays;
  excused = p.excused;
})

-- a result's ending doesn't hang on its type
excused_so : {T : Type 0} (result : Result T Stop) (r s t : Seen) → Stays r s → IfErr result (λ stop. IsExcused 0 0 stop s t) → IfErr result (λ stop. IsExcused 0 0 stop r t)
excused_so (Ok value) r s t p e = tt
excused_so (Err stop) r s t p e = excused_later 0 0 stop r s t p e

whole_then : (r s t : Seen) (told : Option (Option Ending)) (writes : List Write) (next : Due) → Takes r s writes → IfSome told (λ e. (e ≡ next.ending) × Takes s t next.writes)
    → IfSome told (λ e. (e ≡ next.ending) × Takes r t (writes ++ next.writes))
whole_then r s t None writes next p q = tt
whole_then r s t (Some e) writes next p q = (q.0, takes_then writes next.writes p q.1)

after_none : (due next : Due) → None ≡ due.ending → record { writes = due.writes ++ next.writes; ending = next.ending } ≡ and_then due next
after_none due next e = ap (λ o. follow due.writes o next) e

-- the first was done, and then the call did the second
pub does_then : {S T : Type 0} (value : S) {result : Result T Stop} {r s t : Seen} (due next : Due) → Does {T = S} (Ok value) r s due → Does result s t next → Does result r t (and_then due next)
does_then value {result} {r} {s} {t} due next p q = subst (λ (d : Due). Does result r t d) (after_none due next p.whole.0) (record {
  whole = whole_then r s t (ended result) due.writes next p.whole.1 q.whole;
  begun = front_then due.writes next.writes p.whole.1 q.begun;
  stays = stays_then p.stays q.stays;
  excused = excused_so result r s t p.stays q.excused;
})

-- one write, and then others
module _ {w : Write} {ws : List Write} {o : Option Ending} where
  pub write_stop : {S T : Type 0} (stop : Stop) {result : Result T Stop} {s t : Seen} → result ≡ Err stop → Does {T = S} (Err stop) s t (written (w ∷ [])) → Does result s t (record { writes = w ∷ ws; ending = o })
  write_stop stop is p = does_first stop (written (w ∷ [])) (record { writes = ws; ending = o }) p is

  pub write_then : {S T : Type 0} (value : S) {result : Result T Stop} {r s t : Seen} → Does {T = S} (Ok value) r s (written (w ∷ [])) → Does result s t (record { writes = ws; ending = o }) → Does result r t (record { writes = w ∷ ws; ending = o })
  write_then value p q = does_then value (written (w ∷ [])) (record { writes = ws; ending = o }) p q

-- the same of a text that is spelled otherwise
pub put_as : {T : Type 0} {result : Result T Stop} {s t : Seen} {text put : List ℕ} → put ≡ text → Does result s t (written (to_out put ∷ [])) → Does result s t (written (to_out text ∷ []))
put_as {T} {result} {s} {t} e p = subst (λ (l : List ℕ). Does result s t (written (to_out l ∷ []))) e p

pub line_as : {T : Type 0} {result : Result T Stop} {s t : Seen} {line put : List ℕ} → put ≡ line → Does result s t (written (to_audit put ∷ [])) → Does result s t (written (to_audit line ∷ []))
line_as {T} {result} {s} {t} e p = subst (λ (l : List ℕ). Does result s t (written (to_audit l ∷ []))) e p

-- the call gave another value
pub as_value : {S T : Type 0} (value : S) (other : T) {s t : Seen} {due : Due} → Does {T = S} (Ok value) s t due → Does {T = T} (Ok other) s t due
as_value value other p = record { whole = p.whole; begun = p.begun; stays = p.stays; excused = tt }

-- it gave up as another call
pub as_stop : {S T : Type 0} (stop : Stop) {result : Result T Stop} {s t : Seen} {due : Due} → result ≡ Err stop → Does {T = S} (Err stop) s t due → Does result s t due
as_stop stop is p = rw is (record { whole = p.whole; begun = p.begun; stays = p.stays; excused = p.excused })

-- ---- what is done without the net is done beside it

net_excused : {T : Type 0} (n n' : ℕ) (result : Result T Stop) (s t : Seen) → IfErr result (λ stop. IsExcused 0 0 stop s t) → IfErr result (λ stop. IsExcused n n' stop s t)
net_excused n n' (Ok value) s t e = tt
net_excused n n' (Err stop) s t e = excused_later n n' stop s s t (stays_same s) e

pub beside_net : {T : Type 0} {result : Result T Stop} {s t : Seen} {due : Due} (n n' : ℕ) → Does result s t due → DoesBy n n' result s t due
beside_net {T} {result} {s} {t} {due} n n' p = record { whole = p.whole; begun = p.begun; stays = p.stays; excused = net_excused n n' result s t p.excused }

excused_by : {T : Type 0} (n n' : ℕ) (result : Result T Stop) (r s t : Seen) → Stays r s → IfErr result (λ stop. IsExcused n n' stop s t) → IfErr result (λ stop. IsExcused n n' stop r t)
excused_by n n' (Ok value) r s t p e = tt
excused_by n n' (Err stop) r s t p e = excused_before n n' stop r s t p e

-- some writes, and then what the call did beside the net
pub then_by : {S T : Type 0} (n n' : ℕ) (value : S) {result : Result T Stop} {r s t : Seen} (writes : List Write) (next : Due) → Does {T = S} (Ok value) r s (written writes) → DoesBy n n' result s t next → DoesBy n n' result r t (and_then (written writes) next)
then_by n n' value {result} {r} {s} {t} writes next p q = record {
  whole = whole_then r s t (ended result) writes next p.whole.1 q.whole;
  begun = front_then writes next.writes p.whole.1 q.begun;
  stays = stays_then p.stays q.stays;
  excused = excused_by n n' result r s t p.stays q.excused;
}
