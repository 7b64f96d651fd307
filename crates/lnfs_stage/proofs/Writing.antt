-- Writes that were taken, one after another.
use Rattle.std.proofs.Common.{◌≡◌, ℕ, zero, suc, List, [], ◌∷◌, ◌++◌, length, take, refl, sym, ap, ◌∙◌, arith, append_assoc, append-nil, subst}
use Rattle.std.specs.Io.KnownBytes.{Appends}
use Rattle.std.specs.declared.option.Option.{Option}
use Rattle.std.proofs.lemmas.Grind.{common_steps}
use Rattle.lnfs_outside.specs.Bytes.{AppendsPart}
use Rattle.lnfs_outside.proofs.Parts.{nothing, then_more}
use Rattle.lnfs_stage.specs.Seen.{Seen}
use Rattle.lnfs_stage.specs.Writes.{Write, to_out, to_audit, on_out, on_audit, front, Takes, TakesFront}

out_join : (xs ys : List Write) → on_out (xs ++ ys) ≡ on_out xs ++ on_out ys
out_join [] ys = refl
out_join (to_out text ∷ xs) ys = ap (λ l. text ++ l) (out_join xs ys) ∙ sym (append_assoc text (on_out xs) (on_out ys))
out_join (to_audit text ∷ xs) ys = out_join xs ys

audit_join : (xs ys : List Write) → on_audit (xs ++ ys) ≡ on_audit xs ++ on_audit ys
audit_join [] ys = refl
audit_join (to_out text ∷ xs) ys = audit_join xs ys
audit_join (to_audit text ∷ xs) ys = ap (λ l. text ++ l) (audit_join xs ys) ∙ sym (append_assoc text (on_audit xs) (on_audit ys))

-- no writes
pub takes_none : (s : Seen) → Takes s s []
takes_none s = record { out_took = nothing s.out.taken; audit_took = nothing s.audit.taken }

-- some, and then others
pub takes_then : {r s t : Seen} (xs ys : List Write) → Takes r s xs → Takes s t ys → Takes r t (xs ++ ys)
takes_then {r} {s} {t} xs ys p q = record {
  out_took = subst (λ text. Appends r.out.taken t.out.taken text) (sym (out_join xs ys)) (then_more r.out.taken s.out.taken t.out.taken (on_out xs) (on_out ys) p.out_took q.out_took);
  audit_took = subst (λ text. Appends r.audit.taken t.audit.taken text) (sym (audit_join xs ys)) (then_more r.audit.taken s.audit.taken t.audit.taken (on_audit xs) (on_audit ys) p.audit_took q.audit_took);
}

-- the writes, and then a front of others
abbrev past : List Write → ℕ → ℕ
past [] k = k
past (x ∷ xs) k = suc (past xs k)

front_past : (xs ys : List Write) (k n : ℕ) → front (past xs k) n (xs ++ ys) ≡ xs ++ front k n ys
front_past [] ys k n = refl
front_past (x ∷ xs) ys k n = ap (λ l. x ∷ l) (front_past xs ys k n)

pub front_then : {r s t : Seen} (xs ys : List Write) → Takes r s xs → TakesFront s t ys → TakesFront r t (xs ++ ys)
front_then {r} {s} {t} xs ys p q = record {
  whole = past xs q.whole;
  part = q.part;
  takes = subst (λ ws. Takes r t ws) (sym (front_past xs ys q.whole q.part)) (takes_then xs (front q.whole q.part ys) p q.takes);
}

-- a front with the same texts
record Same (xs ys : List Write) : Type 0 where
  pub out : on_out xs ≡ on_out ys
  pub audit : on_audit xs ≡ on_audit ys

takes_same : {s t : Seen} (xs ys : List Write) → Same xs ys → Takes s t ys → Takes s t xs
takes_same {s} {t} xs ys e p = record {
  out_took = subst (λ text. Appends s.out.taken t.out.taken text) (sym e.out) p.out_took;
  audit_took = subst (λ text. Appends s.audit.taken t.audit.taken text) (sym e.audit) p.audit_took;
}

-- nothing is a front
front_zero : (xs : List Write) → Same (front 0 0 xs) []
front_zero [] = record { out = refl; audit = refl }
front_zero (to_out text ∷ xs) = record { out = refl; audit = refl }
front_zero (to_audit text ∷ xs) = record { out = refl; audit = refl }

pub front_none : (s : Seen) (xs : List Write) → TakesFront s s xs
front_none s xs = record { whole = 0; part = 0; takes = takes_same (front 0 0 xs) [] (front_zero xs) (takes_none s) }

-- and so is the whole
front_whole : (xs ys : List Write) → Same (front (past xs 0) 0 (xs ++ ys)) xs
front_whole [] ys = front_zero ys
front_whole (to_out text ∷ xs) ys = let s = front_whole xs ys in record { out = ap (λ l. text ++ l) s.out; audit = s.audit }
front_whole (to_audit text ∷ xs) ys = let s = front_whole xs ys in record { out = s.out; audit = ap (λ l. text ++ l) s.audit }

pub front_all : {s t : Seen} (xs ys : List Write) → Takes s t xs → TakesFront s t (xs ++ ys)
front_all xs ys p = record { whole = past xs 0; part = 0; takes = takes_same (front (past xs 0) 0 (xs ++ ys)) xs (front_whole xs ys) p }

-- a front of the first of two lists of writes is one of both
record Wider (xs ys : List Write) (k n : ℕ) : Type 0 where
  pub whole : ℕ
  pub part : ℕ
  pub same : Same (front whole part (xs ++ ys)) (front k n xs)

wider : (xs ys : List Write) (k n : ℕ) → Wider xs ys k n
wider [] ys k n = record { whole = 0; part = 0; same = front_zero ys }
wider (x ∷ xs) ys zero n = record { whole = 0; part = n; same = record { out = refl; audit = refl } }
wider (to_out text ∷ xs) ys (suc k) n = let w = wider xs ys k n in record { whole = suc w.whole; part = w.part; same = record { out = ap (λ l. text ++ l) w.same.out; audit = w.same.audit } }
wider (to_audit text ∷ xs) ys (suc k) n = let w = wider xs ys k n in record { whole = suc w.whole; part = w.part; same = record { out = w.same.out; audit = ap (λ l. text ++ l) w.same.audit } }

pub front_first : {s t : Seen} (xs ys : List Write) → TakesFront s t xs → TakesFront s t (xs ++ ys)
front_first xs ys p =
    let w = wider xs ys p.whole p.part in
    record { whole = w.whole; part = w.part; takes = takes_same (front w.whole w.part (xs ++ ys)) (front p.whole p.part xs) w.same p.takes }

-- all of the writes are a front of them
pub front_whole_of : {s t : Seen} {xs : List Write} → Takes s t xs → TakesFront s t xs
front_whole_of {s} {t} {xs} p = subst (λ ws. TakesFront s t ws) (append-nil xs) (front_all xs [] p)

-- a stream took nothing
pub nothing_as : {o o' : Option (List ℕ)} → o' ≡ o → Appends o o' []
nothing_as {o} {o'} e = subst (λ x. Appends o x []) (sym e) (nothing o)

pub takes_nothing : {s t : Seen} → t.out.taken ≡ s.out.taken → t.audit.taken ≡ s.audit.taken → Takes s t []
takes_nothing e f = record { out_took = nothing_as e; audit_took = nothing_as f }

cut_is : (text part rest : List ℕ) → text ≡ part ++ rest → part ≡ take (length part) text
cut_is text part rest e = grind (arith, common_steps, e)

part_is : {o o' : Option (List ℕ)} (text : List ℕ) (t : AppendsPart o o' text) → Appends o o' (take (length t.part) text)
part_is {o} {o'} text t = subst (λ l. Appends o o' l) (cut_is text t.part t.rest t.parts) t.appended

-- one write on one stream, whole or in part
module _ {s t : Seen} (text : List ℕ) where
  pub takes_out : t.audit.taken ≡ s.audit.taken → Appends s.out.taken t.out.taken text → Takes s t (to_out text ∷ [])
  takes_out e a = record { out_took = subst (λ l. Appends s.out.taken t.out.taken l) (sym (append-nil text)) a; audit_took = nothing_as e }

  pub takes_audit : t.out.taken ≡ s.out.taken → Appends s.audit.taken t.audit.taken text → Takes s t (to_audit text ∷ [])
  takes_audit e a = record { out_took = nothing_as e; audit_took = subst (λ l. Appends s.audit.taken t.audit.taken l) (sym (append-nil text)) a }

pub front_out : {s t : Seen} (text : List ℕ) → t.audit.taken ≡ s.audit.taken → AppendsPart s.out.taken t.out.taken text → TakesFront s t (to_out text ∷ [])
front_out text e a = record { whole = 0; part = length a.part; takes = takes_out (take (length a.part) text) e (part_is text a) }

pub front_audit : {s t : Seen} (text : List ℕ) → t.out.taken ≡ s.out.taken → AppendsPart s.audit.taken t.audit.taken text → TakesFront s t (to_audit text ∷ [])
front_audit text e a = record { whole = 0; part = length a.part; takes = takes_audit (take (length a.part) text) e (part_is text a) }

pub front_nothing : {s t : Seen} (xs : List Write) → t.out.taken ≡ s.out.taken → t.audit.taken ≡ s.audit.taken → TakesFront s t xs
front_nothing xs e f = record { whole = 0; part = 0; takes = takes_same (front 0 0 xs) [] (front_zero xs) (takes_nothing e f) }
