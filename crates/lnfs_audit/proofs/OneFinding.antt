-- One thing is found of replies and bytes, and no other.
use Rattle.std.proofs.Common.{◌≡◌, ℕ, ◌+◌, ◌<◌, ◌≤◌, List, [], ◌∷◌, ◌++◌, length, Option, Some, sym, ap, subst, ◌∙◌, arith}
use Rattle.std.proofs.lemmas.List.Elements.{filter_map-append}
use Rattle.lnfs_rpc.specs.Records.{Stream}
use Rattle.lnfs_audit.specs.declared.finding.Finding.{Finding}
use Rattle.lnfs_audit.specs.declared.finding.Finding.TheVariants.{Faithful, Differs, Surplus}
use Rattle.lnfs_audit.specs.Findings.{IsOther, DiffersAt, IsLeft, IsFinding}
use Rattle.lnfs_audit.specs.Replies.{records_of}
use Rattle.lnfs_audit.proofs.Cuts.{stream_parts, one_rest}

-- a shorter front is a front of the longer one
longer : {R : Type 0} (xs ys : List R) (x y : R) (after after' : List R) → xs ++ x ∷ after ≡ ys ++ y ∷ after' → length xs < length ys → (mid : List R) × (ys ≡ xs ++ x ∷ mid)
longer [] [] x y after after' e less = absurd (omega arith)
longer [] (b ∷ ys) x y after after' e less = (ys, let first : b ≡ x = cc in ap (λ z. z ∷ ys) first)
longer (a ∷ xs) [] x y after after' e less = absurd (omega arith)
longer (a ∷ xs) (b ∷ ys) x y after after' e less =
    let first : a ≡ b = cc in
    let others : xs ++ x ∷ after ≡ ys ++ y ∷ after' = cc in
    let more = longer xs ys x y after after' others (omega arith) in
    (more.0, ap (λ zs. b ∷ zs) more.1 ∙ ap (λ z. z ∷ (xs ++ x ∷ more.0)) (sym first))

module _ (bytes : List ℕ) where
  -- what isn't the next record isn't among the records
  never : (before after : List (Option (List ℕ))) (reply rest end : List ℕ) → Stream bytes (records_of (before ++ Some reply ∷ after)) end → Stream bytes (records_of before) rest → IsOther reply rest → ⊥
  never before after reply rest end all front other =
      let parts = stream_parts bytes (records_of before) (reply ∷ records_of after) end (subst (λ rs. Stream bytes rs end) (filter_map-append (λ r. r) before (Some reply ∷ after)) all) in
      let next = parts.2 in
      let same : parts.0 ≡ rest = one_rest bytes (records_of before) parts.0 rest parts.1 front in
      other (next.0, next.1, next.2, sym same ∙ next.3, tt)

  module _ (replies : List (Option (List ℕ))) where
    never_there : (event : ℕ) → DiffersAt replies bytes event → (end : List ℕ) → Stream bytes (records_of replies) end → ⊥
    never_there event d end all = never d.before d.after d.reply d.rest end (subst (λ rs. Stream bytes (records_of rs) end) d.split all) d.same d.other

    -- of two places where they differ neither is before the other
    module _ (a b : ℕ) (d : DiffersAt replies bytes a) (e : DiffersAt replies bytes b) where
      not_before : length d.before < length e.before → ⊥
      not_before less =
          let mid = longer d.before e.before (Some d.reply) (Some e.reply) d.after e.after (sym d.split ∙ e.split) less in
          never d.before mid.0 d.reply d.rest e.rest (subst (λ rs. Stream bytes (records_of rs) e.rest) mid.1 e.same) d.same d.other

    one_place : (a b : ℕ) → DiffersAt replies bytes a → DiffersAt replies bytes b → a ≡ b
    one_place a b d e =
        let left : length e.before ≤ length d.before = omega (arith, not_before a b d e) in
        let right : length d.before ≤ length e.before = omega (arith, not_before b a e d) in
        omega (arith, left, right, d.place, e.place)

    one_end : (a b : List ℕ) → Stream bytes (records_of replies) a → Stream bytes (records_of replies) b → length a ≡ length b
    one_end a b s t = ap length (one_rest bytes (records_of replies) a b s t)

    nothing_left : (at : ℕ) → IsLeft replies bytes at → Stream bytes (records_of replies) [] → ⊥
    nothing_left at l s = let none : length l.rest ≡ 0 = one_end l.rest [] l.same s in omega (arith, none, l.some)

pub one_finding : (replies : List (Option (List ℕ))) (bytes : List ℕ) (a b : Finding) → IsFinding replies bytes a → IsFinding replies bytes b → a ≡ b
one_finding replies bytes (Faithful n) (Faithful m) p q = ap Faithful (p.0 ∙ sym q.0)
one_finding replies bytes (Faithful n) (Differs b) p q = absurd (never_there bytes replies b q [] p.1)
one_finding replies bytes (Faithful n) (Surplus b) p q = absurd (nothing_left bytes replies b q p.1)
one_finding replies bytes (Differs a) (Faithful m) p q = absurd (never_there bytes replies a p [] q.1)
one_finding replies bytes (Differs a) (Differs b) p q = ap Differs (one_place bytes replies a b p q)
one_finding replies bytes (Differs a) (Surplus b) p q = absurd (never_there bytes replies a p q.rest q.same)
one_finding replies bytes (Surplus a) (Faithful m) p q = absurd (nothing_left bytes replies a p q.1)
one_finding replies bytes (Surplus a) (Differs b) p q = absurd (never_there bytes replies b q p.rest p.same)
one_finding replies bytes (Surplus a) (Surplus b) p q =
    let same : length p.rest ≡ length q.rest = one_end bytes replies p.rest q.rest p.same q.same in
    ap Surplus (omega (arith, same, p.place, q.place))
