-- The line of an ending, and what is handed on.
use Rattle.std.proofs.Common.{◌≡◌, ◌≤◌, inl, inr, ℕ, List, [], ◌∷◌, ◌++◌, refl, sym, ap, subst}
use Rattle.std.specs.Prelude.{Result, Ok, Err, IfSome}
use Rattle.std.specs.declared.option.Option.{Option}
use Rattle.std.specs.declared.option.Option.TheVariants.{Some, None}
use Rattle.lnfs_stage.specs.declared.ending.Ending.{Ending}
use Rattle.lnfs_stage.specs.declared.stop.Stop.{Stop}
use Rattle.lnfs_stage.specs.declared.stop.Stop.TheVariants.{Ends, ReadFault, WriteFault, NetFault, Memory}
use Rattle.lnfs_stage.specs.declared.status.Status.{Status}
use Rattle.lnfs_stage.specs.Seen.{Seen, Stays, HandsOn}
use Rattle.lnfs_stage.specs.Writes.{Write, to_audit, Takes, TakesFront}
use Rattle.lnfs_stage.specs.Ending.{fault_line}
use Rattle.lnfs_stage.specs.Due.{Due, written, told, line_for}
use Rattle.lnfs_stage.specs.Does.{Does, DoesBy, HandedOn, Becomes, IsLate, ended}
use Rattle.lnfs_stage.proofs.Writing.{takes_then, front_first, front_then, front_whole_of}
use Rattle.lnfs_stage.proofs.Doing.{line_as}
use Rattle.lnfs_stage.proofs.Staying.{stays_then, excused_later, rose_later}

-- all went well: there is no line
told_well : {n n' : ℕ} {T : Type 0} (value : T) {r s : Seen} (writes : List Write) (ending : Option Ending) → DoesBy n n' (Ok value) r s (record { writes = writes; ending = ending }) → DoesBy n n' (Ok value) r s (line_for writes ending)
told_well value writes None p = p
told_well value writes (Some ending) p = let h : ⊥ = cc (p.whole.0) in absurd h

pub told_ok : {n n' : ℕ} {T : Type 0} (value : T) {r s : Seen} (due : Due) → DoesBy n n' (Ok value) r s due → DoesBy n n' (Ok value) r s (told due)
told_ok value due p = told_well value due.writes due.ending p

-- it gave up before
begun_line : {r s : Seen} (writes : List Write) (ending : Option Ending) → TakesFront r s writes → TakesFront r s (line_for writes ending).writes
begun_line writes None p = p
begun_line writes (Some ending) p = front_first writes (to_audit (fault_line ending) ∷ []) p

pub gave_up : {n n' : ℕ} {S T : Type 0} (stop : Stop) {result : Result T Stop} {r s : Seen} (due : Due) → ended {T = S} (Err stop) ≡ None → result ≡ Err stop → DoesBy {T = S} n n' (Err stop) r s due → DoesBy n n' result r s (told due)
gave_up {S} {T} stop {result} {r} {s} due e is p = rw is (record {
  whole = subst (λ (o : Option (Option Ending)). IfSome o (λ ending. (ending ≡ (told due).ending) × Takes r s (told due).writes)) (sym e) tt;
  begun = begun_line due.writes due.ending p.begun;
  stays = p.stays;
  excused = p.excused;
})

-- there was no memory for the line
pub told_short : {n n' : ℕ} {S T : Type 0} (ending : Ending) {result : Result T Stop} {r s : Seen} (due : Due) → result ≡ Err Memory → DoesBy {T = S} n n' (Err (Ends ending)) r s due → DoesBy n n' result r s (told due)
told_short ending due is p = rw is (record { whole = tt; begun = begun_line due.writes due.ending p.begun; stays = p.stays; excused = tt })

-- the ending that is due
line_is : (ending : Ending) (due : Due) → Some ending ≡ due.ending → told due ≡ record { writes = due.writes ++ to_audit (fault_line ending) ∷ []; ending = Some ending }
line_is ending due e = ap (λ o. line_for due.writes o) (sym e)

not_told : {T : Type 0} (stop : Stop) {s t : Seen} (line : List ℕ) → Does {T = T} (Err stop) s t (written (to_audit line ∷ [])) → ended {T = T} (Err stop) ≡ None
not_told (Ends other) line q = let h : ⊥ = cc (q.whole.0) in absurd h
not_told ReadFault line q = refl
not_told WriteFault line q = refl
not_told NetFault line q = refl
not_told Memory line q = refl

module _ {n n' : ℕ} (ending : Ending) {r s t : Seen} (due : Due) {line : List ℕ} where
  pub told_line : {S T U : Type 0} {result : Result U Stop} (value : T) → line ≡ fault_line ending → result ≡ Err (Ends ending) → DoesBy {T = S} n n' (Err (Ends ending)) r s due → Does {T = T} (Ok value) s t (written (to_audit line ∷ [])) → DoesBy n n' result r t (told due)
  told_line {S} {T} {U} {result} value e is p q = rw (is, line_is ending due p.whole.0) (let l = line_as e q in
      let took = takes_then due.writes (to_audit (fault_line ending) ∷ []) p.whole.1 l.whole.1 in
      record { whole = (refl, took); begun = front_whole_of took; stays = stays_then p.stays q.stays; excused = tt })

  -- it gave up within the line
  pub told_cut : {S T U : Type 0} {result : Result U Stop} (stop : Stop) → line ≡ fault_line ending → result ≡ Err stop → DoesBy {T = S} n n' (Err (Ends ending)) r s due → Does {T = T} (Err stop) s t (written (to_audit line ∷ [])) → DoesBy n n' result r t (told due)
  told_cut {S} {T} {U} {result} stop e is p q = rw (is, line_is ending due p.whole.0) (let l = line_as e q in record {
    whole = subst (λ (o : Option (Option Ending)). IfSome o (λ e. (e ≡ Some ending) × Takes r t (due.writes ++ to_audit (fault_line ending) ∷ []))) (sym (not_told stop line q)) tt;
    begun = front_then due.writes (to_audit (fault_line ending) ∷ []) p.whole.1 l.begun;
    stays = stays_then p.stays q.stays;
    excused = excused_later n n' stop r s t p.stays q.excused;
  })

-- ---- over a longer time

hands_later : (waiting : List ℕ) (a b c : ℕ) → a ≤ b → HandsOn waiting b c → HandsOn waiting a c
hands_later waiting a b c p h = elim h [ inl e ↦ inl e | inr r ↦ inr (rose_later a b c p r) ]

pub handed_later : {T : Type 0} {result : Result T Stop} {r s t : Seen} → Stays r s → HandedOn result s t → HandedOn result r t
handed_later {T} {result} {r} {s} {t} p h = record { all = h.all; out = hands_later t.out.waiting r.out.faults s.out.faults t.out.faults p.out h.out; audit = hands_later t.audit.waiting r.audit.faults s.audit.faults t.audit.faults p.audit h.audit }

pub becomes_then : (a b c : Status) → Becomes a b → Becomes b c → Becomes a c
becomes_then a b c (inl e) q = subst (λ (s : Status). Becomes s c) e q
becomes_then a b c (inr p) (inl f) = inr (p.0, subst IsLate (sym f) p.1)
becomes_then a b c (inr p) (inr q) = inr (p.0, q.1)
