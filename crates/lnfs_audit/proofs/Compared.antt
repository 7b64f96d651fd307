-- How far replies were compared with recorded records.
use Rattle.std.proofs.Common.{◌≡◌, ℕ, ◌+◌, ◌<◌, ◌≤◌, List, [], ◌∷◌, ◌++◌, length, take, drop, get_or, Option, Some, None, refl, sym, ap, subst, ◌∙◌, arith, inl, inr}
use Rattle.std.proofs.lemmas.Bool.{cases_lt}
use Rattle.std.proofs.lemmas.List.{append-nil, drop_all, drop_more, take_all, take_more, take-append-drop, length-take-le, length-drop}
use Rattle.std.proofs.lemmas.List.Elements.{filter_map-append}
use Rattle.lnfs_rpc.specs.Records.{Stream}
use Rattle.lnfs_audit.specs.declared.finding.Finding.{Finding}
use Rattle.lnfs_audit.specs.declared.finding.Finding.TheVariants.{Faithful, Surplus}
use Rattle.lnfs_audit.specs.Findings.{DiffersAt, IsFinding}
use Rattle.lnfs_audit.specs.Places.{IsBehind}
use Rattle.lnfs_audit.specs.Replies.{records_of}
use Rattle.lnfs_audit.proofs.Cuts.{stream_push}

-- The first so many replies are the records up to a place.
pub record AreSame (all : List (Option (List ℕ))) (bytes : List ℕ) (count at : ℕ) : Type 0 where
  pub same : Stream bytes (records_of (take count all)) (drop at bytes)
  pub within : at ≤ length bytes

module _ (all : List (Option (List ℕ))) (bytes : List ℕ) where
  pub none_compared : AreSame all bytes 0 0
  none_compared = record { same = refl; within = omega arith }

  -- a reply at a place, in the list of the records
  one_more : (i : ℕ) (reply : Option (List ℕ)) → i < length all → get_or all i reply ≡ reply → records_of (take (i + 1) all) ≡ records_of (take i all) ++ records_of (reply ∷ [])
  one_more i reply within is =
      ap records_of (take_more all i reply within ∙ ap (λ (r : Option (List ℕ)). take i all ++ r ∷ []) is) ∙ filter_map-append (λ r. r) (take i all) (reply ∷ [])

  module _ (i at : ℕ) (reply : Option (List ℕ)) (within : i < length all) (is : get_or all i reply ≡ reply) (before : AreSame all bytes i at) where
    pub goes_on : (next : ℕ) → IsBehind bytes at reply (Some next) → AreSame all bytes (i + 1) next
    goes_on next behind = at_reply reply is behind
      where
        at_reply : (r : Option (List ℕ)) → get_or all i r ≡ r → IsBehind bytes at r (Some next) → AreSame all bytes (i + 1) next
        at_reply None is b =
            let stays : next ≡ at = cc in
            let none : records_of (take (i + 1) all) ≡ records_of (take i all) = one_more i None within is ∙ append-nil (records_of (take i all)) in
            record {
              same = subst (λ (rs : List (List ℕ)). Stream bytes rs (drop next bytes)) (sym none) (subst (λ (n : ℕ). Stream bytes (records_of (take i all)) (drop n bytes)) (sym stays) before.same);
              within = subst (λ (n : ℕ). n ≤ length bytes) (sym stays) before.within;
            }
        at_reply (Some x) is b = record {
          same = subst (λ (rs : List (List ℕ)). Stream bytes rs (drop next bytes)) (sym (one_more i (Some x) within is)) (stream_push bytes (records_of (take i all)) (drop at bytes) x (drop next bytes) before.same b.1);
          within = b.0;
        }

    pub differs : IsBehind bytes at reply None → DiffersAt all bytes (i + 1)
    differs behind = at_reply reply is behind
      where
        at_reply : (r : Option (List ℕ)) → get_or all i r ≡ r → IsBehind bytes at r None → DiffersAt all bytes (i + 1)
        at_reply None is b = absurd cc
        at_reply (Some x) is b = record {
          before = take i all;
          reply = x;
          after = drop (i + 1) all;
          rest = drop at bytes;
          split = sym (take-append-drop i all) ∙ ap (λ (rs : List (Option (List ℕ))). take i all ++ rs) (drop_more all i (Some x) within ∙ ap (λ (r : Option (List ℕ)). r ∷ drop (i + 1) all) is);
          place = let count : length (take i all) ≡ i = length-take-le i all (omega (arith, within)) in omega (arith, count);
          same = before.same;
          other = b;
        }

  -- all were compared
  module _ (count at n : ℕ) (all_of_them : length all ≤ count) (is : n ≡ length all) (before : AreSame all bytes count at) where
    whole : Stream bytes (records_of all) (drop at bytes)
    whole = subst (λ (rs : List (Option (List ℕ))). Stream bytes (records_of rs) (drop at bytes)) (take_all count all all_of_them) before.same

    is_faithful : at ≡ length bytes → IsFinding all bytes (Faithful n)
    is_faithful end = (is, subst (λ (rest : List ℕ). Stream bytes (records_of all) rest) (drop_all at bytes (omega (arith, end))) whole)

    is_surplus : at < length bytes → IsFinding all bytes (Surplus at)
    is_surplus more =
        let left : length (drop at bytes) + at ≡ length bytes = omega (arith, more, length-drop at bytes) in
        record { rest = drop at bytes; same = whole; some = omega (arith, left, more); place = omega (arith, left) }

    pub found_all : (result : Finding) → (at ≡ length bytes → result ≡ Faithful n) → (at < length bytes → result ≡ Surplus at) → IsFinding all bytes result
    found_all result faithful surplus =
        elim (cases_lt at (length bytes)) [
          | inl more ↦ subst (IsFinding all bytes) (sym (surplus more)) (is_surplus more)
          | inr end ↦ (let same : at ≡ length bytes = omega (arith, end, before.within) in subst (IsFinding all bytes) (sym (faithful same)) (is_faithful same))
        ]
