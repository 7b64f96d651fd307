-- Bytes that are read, piece by piece, until a record is whole.
use Rattle.std.proofs.Common.{◌≡◌, ◌≤◌, ℕ, List, [], ◌++◌, sym, ap, ◌∙◌, subst, append_assoc, append-nil, arith}
use Rattle.std.specs.Prelude.{Option, Some, None, Ok, Err}
use Rattle.std.specs.Io.KnownBytes.{Consumes}
use Rattle.std.proofs.KnownBytes.{Consumes-nil, Consumes-trans}
use Rattle.lnfs_stage.specs.declared.stop.Stop.{Stop}
use Rattle.lnfs_stage.specs.declared.stop.Stop.TheVariants as stop
use Rattle.lnfs_talk.specs.Exchange.{Looks, Receives, SaysNone, IsCut}

-- no record is whole yet, and this was read
pub record Waits (had left : Option (List ℕ)) (old new : List ℕ) : Type 0 where
  pub piece : List ℕ
  pub reads : Consumes had left piece
  pub pending : new ≡ old ++ piece

pub waits_first : (had : Option (List ℕ)) (old : List ℕ) → Waits had had old old
waits_first had old = record { piece = []; reads = Consumes-nil had; pending = sym (append-nil old) }

together : (old between first second : List ℕ) → between ≡ old ++ first → between ++ second ≡ old ++ (first ++ second)
together old between first second e = ap (λ (l : List ℕ). l ++ second) e ∙ append_assoc old first second

pub waits_on : {had mid left : Option (List ℕ)} {before now : ℕ} {old between new : List ℕ} → Waits had mid old between → Looks (Ok None) mid left before now between new → Waits had left old new
waits_on {had} {mid} {left} {before} {now} {old} {between} {new} w l = record {
  piece = w.piece ++ l.piece;
  reads = Consumes-trans had mid left w.piece l.piece w.reads l.reads;
  pending = l.says ∙ together old between w.piece l.piece w.pending;
}

pub received : (message : List ℕ) (start : ℕ) {had mid left : Option (List ℕ)} {before now : ℕ} {old between new : List ℕ} → Waits had mid old between → Looks (Ok (Some message)) mid left before now between new → Receives (Ok message) had left start now old new
received message start {had} {mid} {left} {before} {now} {old} {between} {new} w l = record {
  piece = w.piece ++ l.piece;
  reads = Consumes-trans had mid left w.piece l.piece w.reads l.reads;
  says = subst (λ (all : List ℕ). IsCut message all new) (together old between w.piece l.piece w.pending) l.says;
}

none_since : (cause : Stop) (left : Option (List ℕ)) (start before now : ℕ) (all : List ℕ) → start ≤ before → SaysNone cause left before now all → SaysNone cause left start now all
none_since (stop.Ends ending) left start before now all later s = s
none_since stop.NetFault left start before now all later s = omega (arith, s)
none_since stop.Memory left start before now all later s = tt
none_since stop.ReadFault left start before now all later s = absurd s
none_since stop.WriteFault left start before now all later s = absurd s

pub not_received : (cause : Stop) (start : ℕ) {had mid left : Option (List ℕ)} {before now : ℕ} {old between new : List ℕ} → start ≤ before → Waits had mid old between → Looks (Err cause) mid left before now between new → Receives (Err cause) had left start now old new
not_received cause start {had} {mid} {left} {before} {now} {old} {between} {new} later w l = record {
  piece = w.piece ++ l.piece;
  reads = Consumes-trans had mid left w.piece l.piece w.reads l.reads;
  says = subst (λ (all : List ℕ). SaysNone cause left start now all) (together old between w.piece l.piece w.pending) (none_since cause left start before now (between ++ l.piece) later l.says);
}
