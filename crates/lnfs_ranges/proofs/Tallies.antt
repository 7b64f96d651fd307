-- What a tally tells when one more range is counted.
use Rattle.std.proofs.Common.{◌≡◌, ℕ, ◌+◌, ◌<◌, true, false, List, [], ◌∷◌, ◌++◌, length, take, get_or, length-append, refl, ap, sym, ◌∙◌, subst, append_assoc, append-nil}
use Rattle.std.specs.Prelude.{Option, Some, None}
use Rattle.std.specs.List.{flat_map}
use Rattle.std.proofs.lemmas.Bool.{cond-true, cond-false}
use Rattle.lnfs_ranges.specs.declared.range.LockRange.{LockRange}
use Rattle.lnfs_ranges.specs.declared.tally.Tally.{Tally}
use Rattle.lnfs_ranges.specs.Modes.{touches, joined, AreApart}
use Rattle.lnfs_ranges.specs.Tallying.{Tells}
use Rattle.lnfs_ranges.proofs.Joins.{joined_apart, apart_joined}
use Rattle.lnfs_ranges.proofs.Ends.{at_end, one_more}
use Rattle.lnfs_ranges.proofs.Parts.{no_range}

one_longer : (xs : List LockRange) (r : LockRange) → length (xs ++ r ∷ []) ≡ length xs + 1
one_longer xs r = length-append xs (r ∷ [])

pub tells_joined : (n : ℕ) (p r : LockRange) (xs : List LockRange) → touches p r ≡ true → AreApart xs → Tells (record { len = n; end = Some p }) xs →
    Tells (record { len = n; end = Some (record { first = p.first; last = r.last; write = r.write }) }) (joined (xs ++ r ∷ []))
tells_joined n p r xs t apart h =
    let front = h.end.0 in
    let grown : LockRange = record { first = p.first; last = r.last; write = r.write } in
    let made : joined (xs ++ r ∷ []) ≡ front ++ grown ∷ [] =
    ap (λ ys. joined (ys ++ r ∷ [])) h.end.1 ∙ (ap joined (append_assoc front (p ∷ []) (r ∷ []))
    ∙ (at_end front p r (subst AreApart h.end.1 apart) ∙ cond-true (touches p r) (front ++ grown ∷ []) (front ++ p ∷ r ∷ []) t)) in
    record {
      long = h.long ∙ (ap length h.end.1 ∙ (one_longer front p ∙ sym (ap length made ∙ one_longer front grown)));
      end = (front, made);
    }

pub tells_apart : (n : ℕ) (p r : LockRange) (xs : List LockRange) → touches p r ≡ false → AreApart xs → Tells (record { len = n; end = Some p }) xs →
    Tells (record { len = n + 1; end = Some r }) (joined (xs ++ r ∷ []))
tells_apart n p r xs t apart h =
    let front = h.end.0 in
    let made : joined (xs ++ r ∷ []) ≡ xs ++ r ∷ [] =
    ap (λ ys. joined (ys ++ r ∷ [])) h.end.1 ∙ (ap joined (append_assoc front (p ∷ []) (r ∷ []))
    ∙ (at_end front p r (subst AreApart h.end.1 apart) ∙ (cond-false (touches p r) (front ++ record r { first = p.first } ∷ []) (front ++ p ∷ r ∷ []) t
    ∙ (sym (append_assoc front (p ∷ []) (r ∷ [])) ∙ ap (λ ys. ys ++ r ∷ []) (sym h.end.1))))) in
    record { long = ap (λ m. m + 1) h.long ∙ sym (ap length made ∙ one_longer xs r); end = (xs, made) }

pub tells_first : (n : ℕ) (r : LockRange) (xs : List LockRange) → Tells (record { len = n; end = None }) xs →
    Tells (record { len = n + 1; end = Some r }) (joined (xs ++ r ∷ []))
tells_first n r xs h =
    let made : joined (xs ++ r ∷ []) ≡ xs ++ r ∷ [] = ap (λ ys. joined (ys ++ r ∷ [])) h.end ∙ ap (λ ys. ys ++ r ∷ []) (sym h.end) in
    record { long = ap (λ m. m + 1) h.long ∙ sym (ap length made ∙ one_longer xs r); end = (xs, made) }

pub tells_same : (t : Tally) (xs : List LockRange) → AreApart xs → Tells t xs → Tells t (joined (xs ++ []))
tells_same t xs apart h = subst (Tells t) (sym (ap joined (append-nil xs) ∙ joined_apart xs apart)) h

-- one more turn of a loop that counts the parts of each range
pub turn_told : (f : LockRange → List LockRange) (start rs parts : List LockRange) (old new : Tally) (i : ℕ) → i < length rs →
    Tells old (joined (start ++ flat_map f (take i rs))) → f (get_or rs i no_range) ≡ parts →
    ((xs : List LockRange) → AreApart xs → Tells old xs → Tells new (joined (xs ++ parts))) →
    Tells new (joined (start ++ flat_map f (take (i + 1) rs)))
turn_told f start rs parts old new i within told part counted =
    let whole = joined (start ++ flat_map f (take i rs)) in
    subst (Tells new) (one_more f start rs whole (joined (whole ++ parts)) i no_range within refl (ap (λ ys. joined (whole ++ ys)) (sym part)))
    (counted whole (apart_joined (start ++ flat_map f (take i rs))) told)

pub none_left : {X : Type 0} (o : Option X) → ((x : X) → o ≡ Some x → ⊥) → o ≡ None
none_left None h = refl
none_left (Some x) h = absurd (h x refl)
