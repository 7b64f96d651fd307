-- One turn of the reader.
use Rattle.std.proofs.Common.{◌≡◌, ◌+◌, ℕ, Bool, true, false, not, ◌&&◌, List, [], ◌∷◌, sym, ap, ◌∙◌}
use Rattle.std.specs.Prelude.{Result, Ok}
use Rattle.lnfs_words.specs.Words.{is_empty}
use Rattle.lnfs_policy.specs.Policy.{Policy}
use Rattle.lnfs_policy.specs.PolicyText.{Refused, told_at, IsRefusal}
use Rattle.lnfs_policy.specs.Reading.{Read, judge, finish, read_from, IsStop, error_at}
use Rattle.lnfs_policy.specs.declared.cause.Stop.{Stop}
use Rattle.lnfs_policy.specs.declared.cause.Stop.TheVariants as stop

abbrev pub Said : Type 0
Said = Result Policy Refused

abbrev finally : ℕ → Read → Said
finally n r = told_at n (finish r) Ok

module _ (whole : Said) (n : ℕ) (r : Read) where
  -- behind the last line
  pub gone : (lines : List (List ℕ)) → lines ≡ [] → whole ≡ read_from n r lines → whole ≡ finally n r
  unfolding read_from
  gone lines e h = rw e at h

  module _ (text : List ℕ) (others lines : List (List ℕ)) (last : Bool) (first : lines ≡ text ∷ others) (l : last ≡ is_empty others) (h : whole ≡ read_from n r lines) where
    pub done : true ≡ (is_empty text && last) → whole ≡ finally n r
    unfolding read_from
    done t = let e : (is_empty text && is_empty others) ≡ true = ap (λ b. is_empty text && b) (sym l) ∙ sym t in rw e at (rw first at h)

    taken : false ≡ (is_empty text && last) → whole ≡ told_at n (judge r (not last) text) (λ next. read_from (n + 1) next others)
    unfolding read_from
    taken f = let e : (is_empty text && is_empty others) ≡ false = ap (λ b. is_empty text && b) (sym l) ∙ sym f in rw l (rw e at (rw first at h))

    pub turn : (new : Read) → false ≡ (is_empty text && last) → judge r (not last) text ≡ Ok new → whole ≡ read_from (n + 1) new others
    turn new f j = taken f ∙ ap (λ x. told_at n x (λ next. read_from (n + 1) next others)) j

    pub refused : (s : Stop) → false ≡ (is_empty text && last) → IsStop (judge r (not last) text) s → IsRefusal whole (error_at n s)
    refused (stop.Broken cause) f j = taken f ∙ ap (λ x. told_at n x (λ next. read_from (n + 1) next others)) j
    refused stop.Memory f j = tt

  pub lacking : (s : Stop) → whole ≡ finally n r → IsStop (finish r) s → IsRefusal whole (error_at n s)
  lacking (stop.Broken cause) e j = e ∙ ap (λ x. told_at n x Ok) j
  lacking stop.Memory e j = tt

  pub given : (p : Policy) → whole ≡ finally n r → finish r ≡ Ok p → whole ≡ Ok p
  given p e j = e ∙ ap (λ x. told_at n x Ok) j
