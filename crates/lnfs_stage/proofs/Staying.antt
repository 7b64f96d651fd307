-- Files that don't change, counts that don't fall, and why a call gave up.
use Rattle.std.proofs.Common.{◌≤◌, ◌⊎◌, inl, inr, ℕ, refl, ◌∙◌, arith}
use Rattle.lnfs_outside.specs.Causes.{Rose}
use Rattle.lnfs_stage.specs.declared.stop.Stop.{Stop}
use Rattle.lnfs_stage.specs.declared.stop.Stop.TheVariants.{Ends, ReadFault, WriteFault, NetFault, Memory}
use Rattle.lnfs_stage.specs.Seen.{Seen, Stays}
use Rattle.lnfs_stage.specs.Does.{IsExcused}

pub stays_same : (s : Seen) → Stays s s
stays_same s = record { content = refl; names = refl; files = omega arith; out = omega arith; audit = omega arith }

pub stays_then : {r s t : Seen} → Stays r s → Stays s t → Stays r t
stays_then p q = record { content = q.content ∙ p.content; names = q.names ∙ p.names; files = omega arith; out = omega arith; audit = omega arith }

pub rose_later : (a b c : ℕ) → a ≤ b → Rose b c → Rose a c
rose_later a b c p q = omega arith

either : {A B C D : Type 0} → (A → C) → (B → D) → A ⊎ B → C ⊎ D
either f g h = elim h [ inl a ↦ inl (f a) | inr b ↦ inr (g b) ]

-- a cause is one over a longer time; without a net there is none of the net
pub no_rise : {A : Type 0} → Rose 0 0 → A
no_rise e = absurd (omega (arith, e))

pub excused_later : (n n' : ℕ) (stop : Stop) (r s t : Seen) → Stays r s → IsExcused 0 0 stop s t → IsExcused n n' stop r t
excused_later n n' (Ends ending) r s t p e = tt
excused_later n n' ReadFault r s t p e = rose_later r.faults s.faults t.faults p.files e
excused_later n n' WriteFault r s t p e = either (rose_later r.out.faults s.out.faults t.out.faults p.out) (rose_later r.audit.faults s.audit.faults t.audit.faults p.audit) e
excused_later n n' NetFault r s t p e = no_rise e
excused_later n n' Memory r s t p e = tt

-- the same of a call beside the net
pub excused_before : (n n' : ℕ) (stop : Stop) (r s t : Seen) → Stays r s → IsExcused n n' stop s t → IsExcused n n' stop r t
excused_before n n' (Ends ending) r s t p e = tt
excused_before n n' ReadFault r s t p e = rose_later r.faults s.faults t.faults p.files e
excused_before n n' WriteFault r s t p e = either (rose_later r.out.faults s.out.faults t.out.faults p.out) (rose_later r.audit.faults s.audit.faults t.audit.faults p.audit) e
excused_before n n' NetFault r s t p e = e
excused_before n n' Memory r s t p e = tt
