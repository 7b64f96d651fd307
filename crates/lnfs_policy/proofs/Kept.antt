-- What holds of no lines, and is kept by each line that fits, holds of all lines of a policy.
use Rattle.std.proofs.Common.{◌≡◌, ◌+◌, ℕ, Bool, true, not, ◌&&◌, List, [], ◌∷◌, ◌++◌, refl, subst, inl, inr}
use Rattle.std.specs.Prelude.{Result, Ok, Err}
use Rattle.std.proofs.lemmas.Bool.{cases_Bool}
use Rattle.lnfs_words.specs.Words.{is_empty, split, newline, words, is_ascii, is_worded}
use Rattle.lnfs_policy.specs.Line.{◌>>=◌, demand, Line, line_of, in_order, cause_of}
use Rattle.lnfs_policy.specs.Fits.{fits}
use Rattle.lnfs_policy.specs.Policy.{Policy, policy_in}
use Rattle.lnfs_policy.specs.PolicyText.{version_in_place, said_after, lines_after, is_skipped, is_complete, Refused, told_at, is_end, lines_from, canonical, policy_from, policy_of}
use Rattle.lnfs_policy.specs.declared.cause.Cause.{Cause}
use Rattle.lnfs_policy.specs.declared.cause.Cause.TheVariants as because
use Rattle.lnfs_policy.proofs.Outcomes.{ended, went, same_ok, not_ok}

module _ (Q : List Line → Type 0) (step : (ls : List Line) (ws : List (List ℕ)) (line : Line) → Q ls → line_of ws ≡ Ok line → fits ls line ≡ true → Q (ls ++ line ∷ [])) where
  judged : (ls : List Line) (ws : List (List ℕ)) (new : List Line) (r : Result Line Cause) → Q ls → line_of ws ≡ r
      → (((r >>= (λ line. demand (in_order ls line) because.Order >>= (λ _. demand (fits ls line) (cause_of line) >>= (λ _. went line))))) >>= (λ line. went (ls ++ line ∷ []))) ≡ went new → Q new
  judged ls ws new (Ok line) q h e =
      elim (cases_Bool (in_order ls line)) [
        | inl t ↦ let f = rw t at e in elim (cases_Bool (fits ls line)) [
          | inl u ↦ subst Q (same_ok (ls ++ line ∷ []) new (rw u at f)) (step ls ws line q h u)
          | inr n ↦ absurd (not_ok _ new (rw n at f))
        ]
        | inr n ↦ absurd (not_ok _ new (rw n at e))
      ]
  judged ls ws new (Err cause) q h e = absurd (not_ok cause new e)

  said : (ls new : List Line) (ended : Bool) (text : List ℕ) → Q ls → (said_after ls ended text >>= (λ line. went (ls ++ line ∷ []))) ≡ went new → Q new
  said ls new ended text q e =
      elim (cases_Bool (version_in_place (is_empty ls) text)) [
        | inl t ↦ let f = rw t at e in elim (cases_Bool (ended && is_worded text)) [
          | inl u ↦ judged ls (words text) new (line_of (words text)) q refl (rw u at f)
          | inr n ↦ absurd (not_ok _ new (rw n at f))
        ]
        | inr n ↦ absurd (not_ok _ new (rw n at e))
      ]

  more : (ls new : List Line) (ended : Bool) (text : List ℕ) → Q ls → lines_after ls ended text ≡ went new → Q new
  more ls new ended text q e =
      elim (cases_Bool (is_skipped text)) [
        | inl t ↦ let f = rw t at e in elim (cases_Bool (ended && is_ascii text)) [
          | inl u ↦ subst Q (same_ok ls new (rw u at f)) q
          | inr n ↦ absurd (not_ok _ new (rw n at f))
        ]
        | inr n ↦ said ls new ended text q (rw n at e)
      ]

  at_end : (n : ℕ) (ls lines : List Line) → Q ls → told_at n (demand (is_complete ls) because.Missing) (λ _. ended Refused ls) ≡ ended Refused lines → Q lines
  at_end n ls lines q e =
      elim (cases_Bool (is_complete ls)) [
        | inl t ↦ subst Q (same_ok ls lines (rw t at e)) q
        | inr f ↦ absurd (not_ok _ lines (rw f at e))
      ]

  pub kept_by : (n : ℕ) (ls lines : List Line) (parts : List (List ℕ)) → Q ls → lines_from n ls parts ≡ Ok lines → Q lines
  unfolding lines_from
  kept_by n ls lines [] q e = at_end n ls lines q e
  kept_by n ls lines (text ∷ others) q e =
      elim (cases_Bool (is_end text others)) [
        | inl t ↦ at_end n ls lines q (rw t at e)
        | inr f ↦ next (λ new r d. kept_by (n + 1) new lines others r d) (lines_after ls (not (is_empty others)) text) refl (rw f at e)
      ]
    where
      next : ((new : List Line) → Q new → lines_from (n + 1) new others ≡ ended Refused lines → Q lines)
          → (r : Result (List Line) Cause) → lines_after ls (not (is_empty others)) text ≡ r
          → told_at n r (λ lines. lines_from (n + 1) lines others) ≡ ended Refused lines → Q lines
      next rest (Ok new) h d = rest new (more ls new (not (is_empty others)) text q h) d
      next rest (Err cause) h d = absurd (not_ok _ lines d)

  -- the lines of a policy
  pub lines_of : (text : List ℕ) (p : Policy) → Q [] → policy_of text ≡ Ok p → (ls : List Line) × Q ls × (policy_in (canonical text) ls ≡ p)
  unfolding policy_of
  lines_of text p q e = of (lines_from 1 [] (split newline text)) refl e
    where
      of : (r : Result (List Line) Refused) → lines_from 1 [] (split newline text) ≡ r → policy_from (canonical text) r ≡ Ok p → (ls : List Line) × Q ls × (policy_in (canonical text) ls ≡ p)
      of (Ok ls) h f = (ls, kept_by 1 [] ls (split newline text) q h, cc)
      of (Err refused) h f = absurd (not_ok refused p f)
