-- What a state id allows, as tests of a definition.
use Rattle.std.proofs.Common.{◌≡◌, refl, ap, sym, ℕ, Bool, true, false, not, ◌||◌, Option, Some, None, bit_and, arith}
use Rattle.std.specs.Prelude.{◌==◌, nat_le}
use Rattle.lnfs_arguments.specs.declared.stateid.StateId.{StateId}
use Rattle.lnfs_world.specs.World.{Node, Open, World}
use Rattle.lnfs_world.specs.Outcome.{Site, Place, Outcome}
use Rattle.lnfs_arguments.specs.declared.statuses.TheConstants.{NFS4ERR_BAD_STATEID, NFS4ERR_OLD_STATEID, NFS4ERR_LOCKED, NFS4ERR_OPENMODE}
use Rattle.lnfs_operations.specs.declared.Gate.TheVariants as gates
use Rattle.lnfs_monitor.specs.declared.rule.Rule.TheVariants.{M9}
use Rattle.lnfs_operations.specs.Handles.{handle_named}
use Rattle.lnfs_operations.specs.Chain.{Answer, refuse, demand, where_there}
use Rattle.lnfs_world.specs.Opens.{has_any}
use Rattle.lnfs_operations.specs.StateIds.{Special, Anonymous, Bypass, Current, Way, Reading, Writing, special, bit_of, open_at, is_denied, where_open, where_undenied, where_usable, where_usable_by}
use Rattle.lnfs_files.specs.Tests.{passed, refusal_in, tested}
use Rattle.lnfs_files.proofs.Stages.{demand_stage}

-- whether an open is for a use
module _ (p : Place) (access bit asked : ℕ) (same : bit ≡ asked) where
  abbrev for_use : Outcome (Answer (Unit {0}))
  for_use = demand (has_any access asked) (refuse p gates.Open NFS4ERR_OPENMODE) (passed p)

  pub mode_off : bit_and access bit ≡ 0 → Some (record { gate = gates.Open; status = NFS4ERR_OPENMODE }) ≡ refusal_in for_use
  mode_off e = let off : has_any access asked ≡ false = grind (arith, same, e) in ap (λ (b : Bool). refusal_in (demand b (refuse p gates.Open NFS4ERR_OPENMODE) (passed p))) (sym off)

  pub mode_on : (bit_and access bit ≡ 0 → ⊥) → None ≡ refusal_in for_use
  mode_on e = let on : has_any access asked ≡ true = grind (arith, same, e) in ap (λ (b : Bool). refusal_in (demand b (refuse p gates.Open NFS4ERR_OPENMODE) (passed p))) (sym on)

-- whether an open denies a use
module _ (site : Site) (p : Place) (w : World) (n : Node) (way : Way) where
  pub use_denied : is_denied site p w n way ≡ true → Some (record { gate = gates.Open; status = NFS4ERR_LOCKED }) ≡ refusal_in (where_undenied site p w n way (passed p))
  use_denied e = ap (λ (b : Bool). refusal_in (demand (not b) (refuse p gates.Open NFS4ERR_LOCKED) (passed p))) (sym e)

  pub use_left : is_denied site p w n way ≡ false → None ≡ refusal_in (where_undenied site p w n way (passed p))
  use_left e = ap (λ (b : Bool). refusal_in (demand (not b) (refuse p gates.Open NFS4ERR_LOCKED) (passed p))) (sym e)

module _ {R : Type 0} (p : Place) (w : World) (n : Node) (id : StateId) (next : Outcome (Answer R)) where
  abbrev in_state : {A : Type 0} → (a b : Bool) → Outcome (Answer A) → Outcome (Answer A)
  in_state a b x = demand a (refuse p gates.Open NFS4ERR_BAD_STATEID) (demand b (refuse p gates.Open NFS4ERR_OLD_STATEID) x)

  abbrev of_open : {A : Type 0} → (Open → Outcome (Answer A)) → Open → Outcome (Answer A)
  of_open h o = in_state (nat_le id.seqid o.sequence) (id.seqid == 0 || id.seqid == o.sequence) (h o)

  -- an open that has to stand a test
  pub open_tested : (f : Open → Outcome (Answer R)) (g : Open → Outcome (Answer (Unit {0}))) → ((o : Open) → f o ≡ tested p (refusal_in (g o)) next) → where_open p w n id f ≡ tested p (refusal_in (where_open p w n id g)) next
  open_tested f g each = at ((handle_named id.other).level == p.subject) (open_at p w n (handle_named id.other))
    where
      both : (o : Open) (a b : Bool) → in_state a b (f o) ≡ tested p (refusal_in (in_state a b (g o))) next
      both o true true = each o
      both o true false = refl
      both o false b = refl

      at : (b : Bool) (found : Option Open) → demand b (refuse p (gates.Monitor M9) NFS4ERR_BAD_STATEID) (where_there found (of_open f) (refuse p gates.Open NFS4ERR_BAD_STATEID))
          ≡ tested p (refusal_in (demand b (refuse p (gates.Monitor M9) NFS4ERR_BAD_STATEID) (where_there found (of_open g) (refuse p gates.Open NFS4ERR_BAD_STATEID)))) next
      at true (Some o) = both o (nat_le id.seqid o.sequence) (id.seqid == 0 || id.seqid == o.sequence)
      at true None = refl
      at false found = refl

  pub undenied_tested : (site : Site) (way : Way) → where_undenied site p w n way next ≡ tested p (refusal_in (where_undenied site p w n way (passed p))) next
  undenied_tested site way = demand_stage p next (not (is_denied site p w n way)) gates.Open NFS4ERR_LOCKED next (passed p) refl

  pub usable_tested : (site : Site) (way : Way) → where_usable site p w n id way next ≡ tested p (refusal_in (where_usable site p w n id way (passed p))) next
  usable_tested site way = at (special id) way
    where
      at : (meaning : Option Special) (way : Way) → where_usable_by meaning site p w n id way next ≡ tested p (refusal_in (where_usable_by meaning site p w n id way (passed p))) next
      at (Some Anonymous) way = undenied_tested site way
      at (Some Bypass) Reading = refl
      at (Some Bypass) Writing = undenied_tested site Writing
      at (Some Current) way = refl
      at None way =
          open_tested (λ o. demand (has_any o.access (bit_of way)) (refuse p gates.Open NFS4ERR_OPENMODE) next) (λ o. demand (has_any o.access (bit_of way)) (refuse p gates.Open NFS4ERR_OPENMODE) (passed p))
          (λ o. demand_stage p next (has_any o.access (bit_of way)) gates.Open NFS4ERR_OPENMODE next (passed p) refl)
