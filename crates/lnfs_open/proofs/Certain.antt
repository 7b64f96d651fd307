-- An open that stands in the way has a bit that is counted.
use Rattle.std.proofs.Common.{◌≡◌, ℕ, zero, suc, Bool, true, false, not, ◌&&◌, ◌||◌, List, Option, Some, refl, sym, ap, ◌∙◌, arith}
use Rattle.std.specs.Prelude.{◌<◌, ◌*◌, ◌/◌, ◌%◌, ◌==◌, bit_and}
use Rattle.std.proofs.lemmas.Bool.{false≢true}
use Rattle.std.proofs.lemmas.Bool.Decides.{nat_tests}
use Rattle.std.proofs.lemmas.Nat.{and_comm, and_mask}
use Rattle.std.proofs.lemmas.Nat.Bits.{shr_and_one, and_pow}
use Rattle.std.specs.List.{list_any}
use Rattle.lnfs_world.specs.Opens.{has_any, is_own, clashes, client_of, stands_in_way}
use Rattle.lnfs_world.specs.Rows.{Rising}
use Rattle.lnfs_world.specs.World.{Id, Open, open_order, same_id}
use Rattle.lnfs_world.proofs.Keys.{id_itself, id_same}
use Rattle.lnfs_world.proofs.Rows.{all_weaker, all_none}
use Rattle.lnfs_counts.proofs.Rows.{each_at}
use Rattle.lnfs_open.specs.declared.revoking.Asked.{Asked}
use Rattle.lnfs_open.specs.declared.bits.TheConstants.{READING, WRITING}
use Rattle.lnfs_open.specs.Indexed.{own_id, open_at}
use Rattle.lnfs_open.specs.Listed.{client_id}
use Rattle.lnfs_open.specs.Stopping.{yields_to}
use Rattle.lnfs_open.specs.Tallies.{in_layer, with_any, tally_of, may_have, may_clash}
use Rattle.lnfs_open.proofs.Tallying.{positive}

-- the lowest two bits, one by one
both_bits : (d : ℕ) → has_any d 3 ≡ true → (has_any d 1 || has_any d 2) ≡ true
both_bits d some =
    let both : bit_and d 3 ≡ d % 4 = and_mask d 2 in
    let one : bit_and d 1 ≡ d % 2 = and_mask d 1 in
    let two : bit_and d 2 ≡ (d / 2 % 2) * 2 = and_pow d 1 ∙ ap (λ (b : ℕ). b * 2) (sym (shr_and_one d 1) ∙ and_mask (d / 2) 1) in
    grind (arith, nat_tests, both, one, two)

-- where some have a bit of these, the counts tell it
told_bits : (d bits first second : ℕ) → has_any d bits ≡ true → (has_any d 1 ≡ true → 0 < first) → (has_any d 2 ≡ true → 0 < second) → may_have bits first second ≡ true
told_bits d zero first second some f g = absurd (false≢true (sym (ap (λ (n : ℕ). not (n == 0)) (and_comm d 0)) ∙ some))
told_bits d (suc zero) first second some f g = let one = f some in grind (arith, nat_tests, one)
told_bits d (suc (suc zero)) first second some f g = let two = g some in grind (arith, nat_tests, two)
told_bits d (suc (suc (suc zero))) first second some f g = by (has_any d 1) refl (both_bits d some)
  where
    by : (b : Bool) → has_any d 1 ≡ b → (b || has_any d 2) ≡ true → may_have 3 first second ≡ true
    by true is either = let one = f is in grind (arith, nat_tests, one)
    by false is either = let two = g either in grind (arith, nat_tests, two)
told_bits d (suc (suc (suc (suc n)))) first second some f g = grind (arith, nat_tests)

first_part : (a b : Bool) → (a && b) ≡ true → a ≡ true
first_part true b both = refl
first_part false b both = both

second_part : (a b : Bool) → (a && b) ≡ true → b ≡ true
second_part true b both = both
second_part false b both = absurd (false≢true both)

or_true : (a : Bool) → (a || true) ≡ true
or_true true = refl
or_true false = refl

module _ (opens : List Open) (rise : Rising open_order opens) where
  module _ (access deny : ℕ) (o : Open) (found : open_at opens o.id ≡ Some o) where
    counted : (of : Open → ℕ) (bits : ℕ) → has_any (of o) bits ≡ true → 0 < with_any of bits o.node o.id.level opens
    counted of bits has = positive o.id o opens rise found (λ x. in_layer o.node o.id.level x && has_any (of x) bits) (grind (arith, nat_tests, id_itself o.node, has))

    bits_told : (of : Open → ℕ) (bits : ℕ) → has_any (of o) bits ≡ true → may_have bits (with_any of READING o.node o.id.level opens) (with_any of WRITING o.node o.id.level opens) ≡ true
    bits_told of bits some = told_bits (of o) bits _ _ some (counted of READING) (counted of WRITING)

    -- one that clashes with what is asked is told
    clash : clashes access deny o ≡ true → may_clash access deny (tally_of opens o.node o.id.level) ≡ true
    clash both = by (has_any o.deny access) refl
      where
        by : (b : Bool) → has_any o.deny access ≡ b → may_clash access deny (tally_of opens o.node o.id.level) ≡ true
        by true is = let denied = bits_told (λ x. x.deny) access is in rw denied refl
        by false is =
            let used : has_any o.access deny ≡ true = ap (λ b. b || has_any o.access deny) (sym is) ∙ both in
            let uses = bits_told (λ x. x.access) deny used in
            rw uses (or_true (may_have access (tally_of opens o.node o.id.level).reading_denied (tally_of opens o.node o.id.level).writing_denied))

  pub certain : (dom : ℕ → ℕ → Bool) (subject : ℕ) (own : Option (Id × List ℕ)) (access deny : ℕ) (over : Id → Bool) (o : Open) → open_at opens o.id ≡ Some o →
      stands_in_way dom subject own o.node access deny over o ≡ true → (dom subject o.id.level && may_clash access deny (tally_of opens o.node o.id.level)) ≡ true
  certain dom subject own access deny over o found stops =
      let dominated : dom subject o.id.level ≡ true = first_part (dom subject o.id.level) _ stops in
      let other = second_part (dom subject o.id.level) _ stops in
      let both : clashes access deny o ≡ true = first_part (clashes access deny o) (not (over (client_of o))) (second_part (not (is_own own o.node o)) _ other) in
      let told = clash access deny o found both in
      rw (dominated, told) refl

  -- where none may clash, none gives way
  module _ (s : Asked) (node : Id) (over : Id → Bool) (none : may_clash s.access s.deny (tally_of opens node s.subject.0) ≡ false) where
    stays : (o : Open) → open_at opens o.id ≡ Some o → (b : Bool) → yields_to s node over o ≡ b → b ≡ false
    stays o found false is = refl
    stays o found true is =
        let here : same_id node o.node ≡ true = first_part (same_id node o.node) _ is in
        let behind = second_part (same_id node o.node) _ is in
        let own : (o.id.level == s.subject.0) ≡ true = first_part (o.id.level == s.subject.0) _ behind in
        let level : s.subject.0 ≡ o.id.level = grind (arith, nat_tests, own) in
        let other = second_part (o.id.level == s.subject.0) _ behind in
        let both : clashes s.access s.deny o ≡ true = first_part (clashes s.access s.deny o) (over (client_of o)) (second_part (not (is_own (Some (client_id s.client, s.owner.now)) o.node o)) _ other) in
        absurd (false≢true (sym none ∙ (λ i. may_clash s.access s.deny (tally_of opens (id_same node o.node here i) (level i))) ∙ clash s.access s.deny o found both))

    pub none_yields : list_any (yields_to s node over) opens ≡ false
    none_yields = all_none (yields_to s node over) opens (all_weaker _ _ (λ o found. stays o found (yields_to s node over o) refl) opens (each_at own_id opens rise))
