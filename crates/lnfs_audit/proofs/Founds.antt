-- What is found by reading is what the definition says.
use Rattle.std.proofs.Common.{◌≡◌, ℕ, ◌+◌, ◌-◌, Bool, true, false, cond, List, [], ◌∷◌, ◌++◌, length, Option, Some, None, Ok, Err, refl, sym, ap, subst, ◌∙◌, arith, append_assoc}
use Rattle.std.specs.Str.{bytes_eq}
use Rattle.std.proofs.lemmas.Bool.Decides.{not_from_Decides}
use Rattle.std.proofs.lemmas.List.{append-nil, length-append, length_push}
use Rattle.std.proofs.lemmas.List.Elements.{filter_map-append}
use Rattle.std.proofs.lemmas.Slice.Eq.{bytes_eq-Decides}
use Rattle.lnfs_xdr.specs.Reading.{Read, read}
use Rattle.lnfs_xdr.proofs.Fields.{IsBytes}
use Rattle.lnfs_xdr.proofs.Laws.{found, none_at, one_spelling}
use Rattle.lnfs_rpc.specs.CallGrammar.{Begins}
use Rattle.lnfs_rpc.specs.Formats.{whole_record}
use Rattle.lnfs_rpc.specs.Records.{Stream}
use Rattle.lnfs_audit.specs.declared.finding.Finding.{Finding}
use Rattle.lnfs_audit.specs.declared.finding.Finding.TheVariants.{Differs}
use Rattle.lnfs_audit.specs.Findings.{IsOther, DiffersAt, IsFinding}
use Rattle.lnfs_audit.specs.Found.{found_behind, found_by, found_from, found_of}
use Rattle.lnfs_audit.specs.Replies.{records_of}
use Rattle.lnfs_audit.proofs.Cuts.{stream_push}

-- Some replies are the first records, and this rest is left, behind so many bytes.
record AreBehind (before : List (Option (List ℕ))) (bytes : List ℕ) (at : ℕ) (rest : List ℕ) : Type 0 where
  pub same : Stream bytes (records_of before) rest
  pub place : at + length rest ≡ length bytes

module _ (bytes : List ℕ) where
  at_end : (before : List (Option (List ℕ))) (at : ℕ) (rest : List ℕ) → AreBehind before bytes at rest → IsFinding (before ++ []) bytes (found_behind (length before) at rest)
  at_end before at [] b =
      let none : before ++ [] ≡ before = append-nil before in
      (ap length (sym none), subst (λ (rs : List (Option (List ℕ))). Stream bytes (records_of rs) []) (sym none) b.same)
  at_end before at (x ∷ rest) b = record {
    rest = x ∷ rest;
    same = subst (λ (rs : List (Option (List ℕ))). Stream bytes (records_of rs) (x ∷ rest)) (sym (append-nil before)) b.same;
    some = omega arith;
    place = b.place;
  }

  module _ (before : List (Option (List ℕ))) (at : ℕ) (rest : List ℕ) (b : AreBehind before bytes at rest) where
    one_none : AreBehind (before ++ None ∷ []) bytes at rest
    one_none = record {
      same = subst (λ (rs : List (List ℕ)). Stream bytes rs rest) (sym (filter_map-append (λ r. r) before (None ∷ []) ∙ append-nil (records_of before))) b.same;
      place = b.place;
    }

    one_record : (reply more : List ℕ) → Begins whole_record reply rest (λ behind. behind ≡ more) → AreBehind (before ++ Some reply ∷ []) bytes (at + (length rest - length more)) more
    one_record reply more r =
        let left : length r.0 + length more ≡ length rest = sym (ap length r.3 ∙ length-append r.0 r.1 ∙ ap (λ (l : List ℕ). length r.0 + length l) r.4) in
        record {
          same = subst (λ (rs : List (List ℕ)). Stream bytes rs more) (sym (filter_map-append (λ r. r) before (Some reply ∷ []))) (stream_push bytes (records_of before) rest reply more b.same r);
          place = omega (arith, left, b.place);
        }

    other_record : (reply : List ℕ) (replies : List (Option (List ℕ))) → IsOther reply rest → DiffersAt (before ++ Some reply ∷ replies) bytes (length before + 1)
    other_record reply replies other = record {
      before = before;
      reply = reply;
      after = replies;
      rest = rest;
      split = refl;
      place = refl;
      same = b.same;
      other = other;
    }

    -- a record was read, or none could be
    module _ (fits : IsBytes rest) (reply : List ℕ) (replies : List (Option (List ℕ))) (next : List ℕ → Finding)
        (follows : (more : List ℕ) → IsBytes more → AreBehind (before ++ Some reply ∷ []) bytes (at + (length rest - length more)) more → IsFinding (before ++ Some reply ∷ replies) bytes (next more)) where
      by_equal : (x : List ℕ × List ℕ) → read whole_record rest ≡ Ok x → (equal : Bool) → bytes_eq x.0 reply ≡ equal → IsFinding (before ++ Some reply ∷ replies) bytes (cond equal (next x.1) (Differs (length before + 1)))
      by_equal x is true equal =
          let t = found whole_record rest x fits is in
          let same : x.0 ≡ reply = (bytes_eq-Decides x.0 reply).0 equal in
          let begins : Begins whole_record reply rest (λ behind. behind ≡ x.1) = subst (λ (r : List ℕ). Begins whole_record r rest (λ behind. behind ≡ x.1)) same (t.front, x.1, t.spelled, t.takes.parts, refl) in
          follows x.1 t.takes.rest_fits (one_record reply x.1 begins)
      by_equal x is false unequal =
          let t = found whole_record rest x fits is in
          let other = not_from_Decides (bytes_eq x.0 reply) (bytes_eq-Decides x.0 reply) unequal in
          other_record reply replies (λ i. other (one_spelling whole_record x.0 reply t.front i.0 x.1 i.1 t.spelled i.2 (sym t.takes.parts ∙ i.3)).0)

      by_read : (r : Read (Unit {0}) (List ℕ)) → read whole_record rest ≡ r → IsFinding (before ++ Some reply ∷ replies) bytes (found_by (length before + 1) reply r next)
      by_read (Ok x) is = by_equal x is (bytes_eq x.0 reply) refl
      by_read (Err stop) is = other_record reply replies (λ i. none_at whole_record rest stop is reply i.0 i.1 i.2 i.3)

  from : (replies before : List (Option (List ℕ))) (at : ℕ) (rest : List ℕ) → IsBytes rest → AreBehind before bytes at rest → IsFinding (before ++ replies) bytes (found_from (length before) at replies rest)
  unfolding found_from
  from [] before at rest fits b = at_end before at rest b
  from (None ∷ replies) before at rest fits b =
      let more = from replies (before ++ None ∷ []) at rest fits (one_none before at rest b) in
      subst (λ (rs : List (Option (List ℕ))). IsFinding rs bytes (found_from (length before + 1) at replies rest)) (append_assoc before (None ∷ []) replies)
      (subst (λ (n : ℕ). IsFinding ((before ++ None ∷ []) ++ replies) bytes (found_from n at replies rest)) (length_push before None) more)
  from (Some reply ∷ replies) before at rest fits b =
      by_read before at rest b fits reply replies (λ more. found_from (length before + 1) (at + (length rest - length more)) replies more)
      (λ more fits behind.
      let place : ℕ = at + (length rest - length more) in
      let later = from replies (before ++ Some reply ∷ []) place more fits behind in
      subst (λ (rs : List (Option (List ℕ))). IsFinding rs bytes (found_from (length before + 1) place replies more)) (append_assoc before (Some reply ∷ []) replies)
      (subst (λ (n : ℕ). IsFinding ((before ++ Some reply ∷ []) ++ replies) bytes (found_from n place replies more)) (length_push before (Some reply)) later))
      (read whole_record rest) refl

  pub found_is : IsBytes bytes → (replies : List (Option (List ℕ))) → IsFinding replies bytes (found_of replies bytes)
  found_is fits replies = from replies [] 0 bytes fits (record { same = refl; place = omega arith })
