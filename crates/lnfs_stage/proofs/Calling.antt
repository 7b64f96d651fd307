-- Calls of one stream or of the files, as calls of the outside.
use Rattle.std.proofs.Common.{◌≡◌, ◌≤◌, ◌⊎◌, inl, inr, ℕ, List, [], ◌∷◌, refl, sym, ap, ◌∙◌, arith}
use Rattle.std.specs.Prelude.{true, Result, Ok, Err, IfErr, IfOk, IfSome, IsSome}
use Rattle.std.specs.Global.{Vec}
use Rattle.std.specs.Io.{ReadsAtMost}
use Rattle.std.specs.Io.KnownBytes.{ReadConsumes}
use Rattle.std.specs.declared.option.Option.{Option}
use Rattle.std.specs.declared.option.Option.TheVariants.{Some, None}
use Rattle.lnfs_outside.specs.Bytes.{Told, Puts, Opens}
use Rattle.lnfs_outside.specs.Causes.{Rose}
use Rattle.lnfs_stage.specs.declared.stop.Stop.{Stop}
use Rattle.lnfs_stage.specs.declared.stop.Stop.TheVariants.{Ends, ReadFault, WriteFault, NetFault, Memory}
use Rattle.lnfs_stage.specs.Seen.{Seen, Stream, Stays, stream, world}
use Rattle.lnfs_stage.specs.Writes.{to_out, to_audit}
use Rattle.lnfs_stage.specs.Due.{written, given}
use Rattle.lnfs_stage.specs.Does.{Does, Holds, Reads, ReadsIn, Finding, OpensIn, ReadsPiece, Finds, FindsOr, HandsAll, PutsLine}
use Rattle.lnfs_stage.proofs.Writing.{takes_nothing, takes_out, takes_audit, front_nothing, front_out, front_audit}
use Rattle.lnfs_stage.proofs.Staying.{rose_later}

module _ {T : Type 0} (s t : Seen) (stays : Stays s t) where
  out_in : (result : Result T Stop) (text : List ℕ) → t.audit.taken ≡ s.audit.taken → Puts s.out.taken t.out.taken result text → IfErr result (λ stop. (stop ≡ WriteFault) × Rose s.out.faults t.out.faults) → Does result s t (written (to_out text ∷ []))
  out_in (Ok value) text same p e = record { whole = (refl, takes_out text same p.whole); begun = front_out text same p.front; stays = stays; excused = tt }
  out_in (Err stop) text same p e = record { whole = rw e.0 tt; begun = front_out text same p.front; stays = stays; excused = rw e.0 (inl e.1) }

  audit_in : (result : Result T Stop) (text : List ℕ) → t.out.taken ≡ s.out.taken → Puts s.audit.taken t.audit.taken result text → IfErr result (λ stop. (stop ≡ WriteFault) × (Rose s.out.faults t.out.faults ⊎ Rose s.audit.faults t.audit.faults)) → Does result s t (written (to_audit text ∷ []))
  audit_in (Ok value) text same p e = record { whole = (refl, takes_audit text same p.whole); begun = front_audit text same p.front; stays = stays; excused = tt }
  audit_in (Err stop) text same p e = record { whole = rw e.0 tt; begun = front_audit text same p.front; stays = stays; excused = rw e.0 e.1 }

  module _ (same_out : t.out.taken ≡ s.out.taken) (same_audit : t.audit.taken ≡ s.audit.taken) where
    kept_in : (result : Result T Stop) → IfErr result (λ stop. (stop ≡ WriteFault) × (Rose s.out.faults t.out.faults ⊎ Rose s.audit.faults t.audit.faults)) → Does result s t (written [])
    kept_in (Ok value) e = record { whole = (refl, takes_nothing same_out same_audit); begun = front_nothing [] same_out same_audit; stays = stays; excused = tt }
    kept_in (Err stop) e = record { whole = rw e.0 tt; begun = front_nothing [] same_out same_audit; stays = stays; excused = rw e.0 e.1 }

    stopped_in : (stop : Stop) (name : List ℕ) (found : Option (List ℕ)) → FindsOr stop name found s.faults t.faults → Does {T = T} (Err stop) s t (given found name (λ text. written []))
    stopped_in (Ends ending) name found e = rw (e.0, e.1) (record { whole = (refl, takes_nothing same_out same_audit); begun = front_nothing [] same_out same_audit; stays = stays; excused = tt })
    stopped_in ReadFault name found e = record { whole = tt; begun = front_nothing (given found name (λ text. written [])).writes same_out same_audit; stays = stays; excused = e }
    stopped_in WriteFault name found e = absurd e
    stopped_in NetFault name found e = absurd e
    stopped_in Memory name found e = record { whole = tt; begun = front_nothing (given found name (λ text. written [])).writes same_out same_audit; stays = stays; excused = tt }

module _ {content : Told} {left : Option (List ℕ)} {faults : ℕ} {names : ℕ × ℕ × ℕ} {o o' : Option (List ℕ)} {w w' : List ℕ} {n n' : ℕ} {other : Stream} where
  pub does_out : {T : Type 0} (result : Result T Stop) (text : List ℕ) → Puts o o' result text → n ≤ n' → IfErr result (λ stop. (stop ≡ WriteFault) × Rose n n')
      → Does result (world content left faults (stream o w n) other names) (world content left faults (stream o' w' n') other names) (written (to_out text ∷ []))
  does_out result text p later e = out_in _ _ (record { content = refl; names = refl; files = omega arith; out = later; audit = omega arith }) result text refl p e

second_rose : {T : Type 0} (result : Result T Stop) (A B : Type 0) → IfErr result (λ stop. (stop ≡ WriteFault) × B) → IfErr result (λ stop. (stop ≡ WriteFault) × (A ⊎ B))
second_rose (Ok value) A B e = tt
second_rose (Err stop) A B e = (e.0, inr e.1)

module _ {content : Told} {left : Option (List ℕ)} {faults : ℕ} {names : ℕ × ℕ × ℕ} {out out' audit audit' : Stream} where
  hands : {T : Type 0} (result : Result T Stop) → out'.taken ≡ out.taken → audit'.taken ≡ audit.taken → out.faults ≤ out'.faults → audit.faults ≤ audit'.faults
      → IfErr result (λ stop. (stop ≡ WriteFault) × (Rose out.faults out'.faults ⊎ Rose audit.faults audit'.faults))
      → Does result (world content left faults out audit names) (world content left faults out' audit' names) (written [])
  hands result e f p q x = kept_in _ _ (record { content = refl; names = refl; files = omega arith; out = p; audit = q }) e f result x

  -- the first stream failed, or only the second may have
  pub hands_first : {S T U : Type 0} (stop : Stop) {result : Result T Stop} {second : Result U Stop} → result ≡ Err stop → HandsAll {T = S} (Err stop) out out' → HandsAll second audit audit' → Does result (world content left faults out audit names) (world content left faults out' audit' names) (written [])
  hands_first stop {result} is p q = hands result p.taken q.taken p.later q.later (rw is (p.excused.0, inl p.excused.1))

  pub does_line : {T : Type 0} (result : Result T Stop) (line : List ℕ) → PutsLine result out audit out' audit' line → Does result (world content left faults out audit names) (world content left faults out' audit' names) (written (to_audit line ∷ []))
  does_line result line p = audit_in _ _ (record { content = refl; names = refl; files = omega arith; out = p.out_later; audit = p.audit_later }) result line p.kept p.puts p.excused

  pub hands_second : {S T : Type 0} (first : Result S Stop) (result : Result T Stop) → HandsAll first out out' → HandsAll result audit audit' → Does result (world content left faults out audit names) (world content left faults out' audit' names) (written [])
  hands_second first result p q = hands result p.taken q.taken p.later q.later (second_rose result (Rose out.faults out'.faults) (Rose audit.faults audit'.faults) q.excused)

module _ {content content' : Told} {left left' : Option (List ℕ)} {faults faults' : ℕ} {names : ℕ × ℕ × ℕ} {out audit : Stream} (name : List ℕ) where
  reads_does : (result : Result (Vec ℕ) Stop) (found : Option (List ℕ)) → IfOk result (λ bytes. found ≡ Some bytes.items) → IfErr result (λ stop. FindsOr stop name found faults faults') → Stays (world content left faults out audit names) (world content' left' faults' out audit names)
      → Does result (world content left faults out audit names) (world content' left' faults' out audit names) (given found name (λ text. written []))
  reads_does (Ok bytes) found text e stays = rw text (record { whole = (refl, takes_nothing refl refl); begun = front_nothing [] refl refl; stays = stays; excused = tt })
  reads_does (Err stop) found text e stays = stopped_in _ _ stays refl refl stop name found e

  pub reads_in : (result : Result (Vec ℕ) Stop) → Reads result content faults content' faults' name → ReadsIn result (world content left faults out audit names) (world content' left' faults' out audit names) name
  reads_in result p = record {
    found = p.found;
    held = p.held;
    text = p.text;
    does = reads_does result p.found p.text p.excused (record { content = p.content; names = refl; files = p.later; out = omega arith; audit = omega arith });
  }

-- a file was opened, or the next bytes of one were read
opened_in : {T : Type 0} (value : T) (s t : Seen) → Stays s t → t.out.taken ≡ s.out.taken → t.audit.taken ≡ s.audit.taken → (found : Option (List ℕ)) (name : List ℕ) → IsSome found → Does (Ok value) s t (given found name (λ text. written []))
opened_in value s t stays e f None name some = let h : ⊥ = cc in absurd h
opened_in value s t stays e f (Some text) name some = record { whole = (refl, takes_nothing e f); begun = front_nothing [] e f; stays = stays; excused = tt }

read_in : {T : Type 0} (result : Result T Stop) (s t : Seen) → Stays s t → t.out.taken ≡ s.out.taken → t.audit.taken ≡ s.audit.taken → IfErr result (λ stop. Finds stop s.faults t.faults) → Does result s t (written [])
read_in (Ok value) s t stays e f x = record { whole = (refl, takes_nothing e f); begun = front_nothing [] e f; stays = stays; excused = tt }
read_in (Err (Ends ending)) s t stays e f x = absurd x
read_in (Err ReadFault) s t stays e f x = record { whole = tt; begun = front_nothing [] e f; stays = stays; excused = x }
read_in (Err WriteFault) s t stays e f x = absurd x
read_in (Err NetFault) s t stays e f x = absurd x
read_in (Err Memory) s t stays e f x = record { whole = tt; begun = front_nothing [] e f; stays = stays; excused = tt }

module _ {content content' : Told} {left left' : Option (List ℕ)} {faults faults' : ℕ} {names : ℕ × ℕ × ℕ} {out audit : Stream} where
  open_does : {T : Type 0} (result : Result T Stop) (name : List ℕ) (found : Option (List ℕ)) → IfOk result (λ done. IsSome found × IfSome content (λ look. found ≡ left')) → IfErr result (λ stop. FindsOr stop name found faults faults') → Stays (world content left faults out audit names) (world content' left' faults' out audit names)
      → Does result (world content left faults out audit names) (world content' left' faults' out audit names) (given found name (λ text. written []))
  open_does (Ok value) name found some e stays = opened_in value _ _ stays refl refl found name some.0
  open_does (Err stop) name found some e stays = stopped_in _ _ stays refl refl stop name found e

  pub opens_in : {T : Type 0} (result : Result T Stop) (name : List ℕ) → Finding result content faults content' left' faults' name → OpensIn result (world content left faults out audit names) (world content' left' faults' out audit names) name
  opens_in result name p = record {
    found = p.found;
    held = p.held;
    some = p.some;
    does = open_does result name p.found p.some p.excused (record { content = p.content; names = refl; files = p.later; out = omega arith; audit = omega arith });
  }

  pub piece_in : (result : Result ℕ Stop) (buf : List ℕ) → ReadsAtMost result buf → ReadConsumes left left' result buf → content' ≡ content → faults ≤ faults' → IfErr result (λ stop. Finds stop faults faults')
      → ReadsPiece result (world content left faults out audit names) (world content' left' faults' out audit names) buf
  piece_in result buf bound bytes is later e = record {
    does = read_in result _ _ (record { content = is; names = refl; files = later; out = omega arith; audit = omega arith }) refl refl e;
    bound = bound;
    bytes = bytes;
  }

-- what a name stands for, as far as contents are told
pub seen : Told → List ℕ → Option (List ℕ)
seen None name = None
seen (Some look) name = look name

pub seen_held : (content : Told) (name : List ℕ) → Holds content name (seen content name)
unfolding seen
seen_held None name = tt
seen_held (Some look) name = refl

pub same_text : (found left : Option (List ℕ)) (items : List ℕ) → found ≡ left → IsSome left → IfSome left (λ l. items ≡ l) → found ≡ Some items
same_text found None items e some is = let h : ⊥ = cc in absurd h
same_text found (Some l) items e some is = e ∙ ap Some (sym is)

held_text : (content : Told) (name : List ℕ) (left : Option (List ℕ)) (items : List ℕ) → Opens content name left true → IfSome left (λ l. items ≡ l) → Holds content name (Some items)
held_text None name left items opens is = tt
held_text (Some look) name left items opens is = same_text (look name) left items opens.0 opens.1 is

finds_or : (stop : Stop) (name : List ℕ) (found : Option (List ℕ)) (b a b' a' : ℕ) → b ≤ b' → Finds stop b' a' → a ≡ a' → FindsOr stop name found b a
finds_or (Ends ending) name found b a b' a' p e q = absurd e
finds_or ReadFault name found b a b' a' p e q = rw q (rose_later b b' a' p e)
finds_or WriteFault name found b a b' a' p e q = absurd e
finds_or NetFault name found b a b' a' p e q = absurd e
finds_or Memory name found b a b' a' p e q = tt

-- the file was opened, and then read to its end
pub reads_opened : (result : Result (Vec ℕ) Stop) {content mid content' : Told} {faults middle faults' : ℕ} {name : List ℕ} (left : Option (List ℕ)) → Opens content name left true → mid ≡ content → faults ≤ middle
    → IfOk result (λ bytes. IfSome left (λ l. bytes.items ≡ l)) → IfErr result (λ stop. Finds stop middle faults') → content' ≡ mid → middle ≤ faults' → Reads result content faults content' faults' name
reads_opened (Ok bytes) {content} {mid} {content'} {faults} {middle} {faults'} {name} left opens is p text e is' q = record {
  found = Some bytes.items;
  held = held_text content name left bytes.items opens text;
  text = refl;
  excused = tt;
  later = omega arith;
  content = is' ∙ is;
}
reads_opened (Err stop) {content} {mid} {content'} {faults} {middle} {faults'} {name} left opens is p text e is' q = record {
  found = seen content name;
  held = seen_held content name;
  text = tt;
  excused = finds_or stop name (seen content name) faults faults' middle faults' p e refl;
  later = omega arith;
  content = is' ∙ is;
}

pub reads_failed : {content content' : Told} {faults faults' : ℕ} {name : List ℕ} → content' ≡ content → faults ≤ faults' → Rose faults faults' → Reads (Err ReadFault) content faults content' faults' name
reads_failed {content} {content'} {faults} {faults'} {name} is p e = record { found = seen content name; held = seen_held content name; text = tt; excused = e; later = p; content = is }

-- the file was opened, or the call failed
pub finding_some : {T : Type 0} (value : T) (content : Told) (name : List ℕ) (left : Option (List ℕ)) {content' : Told} {faults faults' : ℕ} → Opens content name left true → content' ≡ content → faults ≤ faults' → Finding (Ok value) content faults content' left faults' name
finding_some value None name left opens is p = record { found = Some []; held = tt; some = (refl, tt); excused = tt; later = p; content = is }
finding_some value (Some look) name left opens is p = record { found = left; held = opens.0; some = (opens.1, refl); excused = tt; later = p; content = is }

pub finding_failed : {T : Type 0} {content content' : Told} {left : Option (List ℕ)} {faults faults' : ℕ} {name : List ℕ} → content' ≡ content → faults ≤ faults' → Rose faults faults' → Finding {T = T} (Err ReadFault) content faults content' left faults' name
finding_failed {T} {content} {content'} {left} {faults} {faults'} {name} is p e = record { found = seen content name; held = seen_held content name; some = tt; excused = e; later = p; content = is }
