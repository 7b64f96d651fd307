use Rattle.std.proofs.Common.{◌≡◌, ℕ, ◌+◌, ◌≤◌, Bool, true, false, List, length, drop, Some, None, ap, sym, subst, ◌∙◌, arith}
use Rattle.std.specs.Prelude.{◌↔◌}
use Rattle.std.proofs.lemmas.List.{drop-drop, length-drop}
use Rattle.lnfs_xdr.proofs.Laws.{one_spelling}
use Rattle.lnfs_rpc.specs.Formats.{whole_record}
use Rattle.lnfs_rpc.specs.CallGrammar.{Begins}
use Rattle.lnfs_audit.specs.Places.{IsBehindRecord}
use Rattle.lnfs_audit.proofs.comparing.behind_record.Goals as goal

module _ (bytes rest x r : List ℕ) (at : ℕ) (is_rest : rest ≡ drop at bytes) (same : Bool) (is_same : (same ≡ true) ↔ (x ≡ r)) where
  -- a record at the front of the rest is one at the place
  at_place : (count : ℕ) → same ≡ true → at ≤ length bytes → count ≤ length rest → Begins whole_record x rest (λ more. more ≡ drop count rest) → IsBehindRecord bytes at r (Some (at + count))
  at_place count equal within there b =
      let same_record : x ≡ r = is_same.0 equal in
      let left : length rest ≡ length (drop at bytes) = ap length is_rest in (
        omega (arith, there, left, within, length-drop at bytes),
        subst (λ (l : List ℕ). Begins whole_record l (drop at bytes) (λ more. more ≡ drop (at + count) bytes)) same_record
            (b.0, b.1, b.2, sym is_rest ∙ b.3, b.4 ∙ ap (drop count) is_rest ∙ drop-drop count at bytes),
      )

  -- another record is at the front
  not_it : (Follows : List ℕ → Type 0) → same ≡ false → Begins whole_record x rest Follows → IsBehindRecord bytes at r None
  not_it Follows unequal b i =
      let equal : same ≡ true = is_same.1 (one_spelling whole_record x r b.0 i.0 b.1 i.1 b.2 i.2 (sym b.3 ∙ is_rest ∙ i.3)).0 in
      let e : true ≡ false = sym equal ∙ unequal in
      absurd cc

pub returns-then-is_reply : goal.returns-then-is_reply
returns-then-is_reply c =
    let cut = rw c.in-Ok-Some.field-0-is at c.in-Ok-Some.ensures in
    let same : (c.is_reply.result ≡ true) ↔ (c.in-Ok-Some.field-0-0.record.items ≡ c.args.reply.now) = rw c.as_slice.ensures.value at c.is_reply.ensures in
    at_place c.args.records.now c.split_at.result.1.now c.in-Ok-Some.field-0-0.record.items c.args.reply.now c.args.at c.split_at.ensures.back c.is_reply.result same c.in-Ok-Some.field-0-0.length c.if-is_reply.true c.requires cut.1 cut.0

pub returns-in-Ok-Some : goal.returns-in-Ok-Some
returns-in-Ok-Some c =
    let cut = rw c.in-Ok-Some.field-0-is at c.in-Ok-Some.ensures in
    let same : (c.is_reply.result ≡ true) ↔ (c.in-Ok-Some.field-0-0.record.items ≡ c.args.reply.now) = rw c.as_slice.ensures.value at c.is_reply.ensures in
    not_it c.args.records.now c.split_at.result.1.now c.in-Ok-Some.field-0-0.record.items c.args.reply.now c.args.at c.split_at.ensures.back c.is_reply.result same _ c.if-is_reply.false cut.0
