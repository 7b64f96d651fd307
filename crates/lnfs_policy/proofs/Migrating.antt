-- The text of a policy with the first line of version 2 spells the same policy, in version 2.
use Rattle.std.proofs.Common.{◌≡◌, ◌<◌, ◌≤◌, ◌+◌, ◌==◌, ℕ, Bool, true, false, not, cond, ◌&&◌, ◌||◌, ◌⊎◌, List, [], ◌∷◌, ◌++◌, length, drop, nat_lt, refl, sym, ap, subst, ◌∙◌, append_assoc, length-append, inl, inr, arith}
use Rattle.std.specs.Prelude.{Result, Ok, Err, Option, Some, None, codes, filter}
use Rattle.std.specs.List.{list_all, flat_map}
use Rattle.std.specs.Str.{bytes_eq}
use Rattle.std.proofs.lemmas.Bool.{cases_Bool, and_parts, or_cases, false≢true}
use Rattle.std.proofs.lemmas.Slice.Eq.{bytes_eq-Decides}
use Rattle.lnfs_calipso.specs.Label.{Label}
use Rattle.lnfs_words.proofs.Splits.{not_done}
use Rattle.lnfs_words.specs.Words.{is_empty, newline, split, words, is_ascii, is_worded}
use Rattle.lnfs_policy.specs.Line.{◌>>=◌, demand, Line, version_line, mode_line, level_line, format_line, name_line, parent_line, guest_line, quota_line, dir_line, line_of, in_order, cause_of}
use Rattle.lnfs_policy.specs.Rows.{label_of, spelling_of, labels_of, rows_of}
use Rattle.lnfs_policy.specs.Fits.{fits, is_next, is_narrow, in_version, level_fits, is_old, kind_fits, format_fits}
use Rattle.lnfs_policy.specs.Policy.{Policy, policy_in}
use Rattle.lnfs_policy.specs.PolicyText.{is_version, version_in_place, said_after, lines_after, is_skipped, is_complete, Refused, told_at, is_end, lines_from, kept, canonical, policy_from, policy_of, IsPolicy}
use Rattle.lnfs_policy.specs.Migrated.{version_2, IsMigrated}
use Rattle.lnfs_policy.specs.declared.rows.Spelling.{Spelling}
use Rattle.lnfs_policy.specs.declared.cause.Cause.{Cause}
use Rattle.lnfs_policy.specs.declared.cause.Cause.TheVariants as because
use Rattle.lnfs_policy.proofs.Outcomes.{ended, went, same_ok, not_ok}
use Rattle.lnfs_policy.proofs.Again.{is_clean, clean_split, split_clean, not_ended}

-- ---- version 2 takes what an earlier version takes

module _ (v : ℕ) where
  wider : (a : Bool) (x : Bool) → (a && in_version (Some v) x) ≡ true → (a && in_version (Some 2) x) ≡ true
  wider true x e = refl
  wider false x e = e

  level_wider : (labels : List Label) (place : ℕ) (o : Option Label) → level_fits (Some v) labels place o ≡ true → level_fits (Some 2) labels place o ≡ true
  level_wider labels place None e = e
  level_wider labels place (Some label) e = wider (place == length labels && is_next labels label) (is_narrow labels label) e

  kind_wider : (o : Option Spelling) (b : Bool) → (kind_fits (Some v) o && b) ≡ true → (kind_fits (Some 2) o && b) ≡ true
  kind_wider None b e = e
  kind_wider (Some s) b e = (and_parts (in_version (Some v) (is_old s)) b e).1

  fits_wider : (ls : List Line) (line : Line) → fits (version_line v ∷ ls) line ≡ true → fits (version_line 2 ∷ ls) line ≡ true
  fits_wider ls (level_line place doi sens comps) e = level_wider (labels_of ls) place (label_of doi sens comps) e
  fits_wider ls (format_line lfs pi word) e = kind_wider (spelling_of word) (format_fits (rows_of ls) lfs pi) e
  fits_wider ls (version_line version) e = e
  fits_wider ls (mode_line mode) e = e
  fits_wider ls (name_line lfs pi level hex) e = e
  fits_wider ls (parent_line number hex level) e = e
  fits_wider ls (guest_line class uid level) e = e
  fits_wider ls (quota_line level nodes bytes) e = e
  fits_wider ls (dir_line path level) e = e

  -- one line more, after the version line
  record IsMore (ls : List Line) (old new : List Line) (r : Result (List Line) Cause) : Type 0 where
    others : List Line
    old_is : old ≡ version_line v ∷ others
    new_is : r ≡ went (version_line 2 ∷ others)

  judged : (ls : List Line) (new : List Line) (r : Result Line Cause)
      → ((r >>= (λ line. demand (in_order (version_line v ∷ ls) line) because.Order >>= (λ _. demand (fits (version_line v ∷ ls) line) (cause_of line) >>= (λ _. went line)))) >>= (λ line. went (version_line v ∷ ls ++ line ∷ []))) ≡ went new
      → IsMore ls new new ((r >>= (λ line. demand (in_order (version_line 2 ∷ ls) line) because.Order >>= (λ _. demand (fits (version_line 2 ∷ ls) line) (cause_of line) >>= (λ _. went line)))) >>= (λ line. went (version_line 2 ∷ ls ++ line ∷ [])))
  judged ls new (Err cause) e = absurd (not_ok cause new e)
  judged ls new (Ok line) e =
      elim (cases_Bool (in_order (version_line v ∷ ls) line)) [
        | inr n ↦ absurd (not_ok _ new (rw n at e))
        | inl t ↦ let f = rw t at e in elim (cases_Bool (fits (version_line v ∷ ls) line)) [
          | inr n ↦ absurd (not_ok _ new (rw n at f))
          | inl u ↦ record {
            others = ls ++ line ∷ [];
            old_is = sym (same_ok (version_line v ∷ ls ++ line ∷ []) new (rw u at f));
            new_is = rw (t, fits_wider ls line u) refl;
          }
        ]
      ]

  -- a worded line that isn't a version line is judged
  is_judged : (ls new : List Line) (done : Bool) (text : List ℕ) → is_version text ≡ false → (done && is_worded text) ≡ true
      → ((line_of (words text) >>= (λ line. demand (in_order (version_line 2 ∷ ls) line) because.Order >>= (λ _. demand (fits (version_line 2 ∷ ls) line) (cause_of line) >>= (λ _. went line)))) >>= (λ line. went (version_line 2 ∷ ls ++ line ∷ []))) ≡ went new
      → (said_after (version_line 2 ∷ ls) done text >>= (λ line. went (version_line 2 ∷ ls ++ line ∷ []))) ≡ went new
  is_judged ls new done text n u e = rw (n, u) e

  said : (ls new : List Line) (done : Bool) (text : List ℕ)
      → (said_after (version_line v ∷ ls) done text >>= (λ line. went (version_line v ∷ ls ++ line ∷ []))) ≡ went new
      → IsMore ls new new (said_after (version_line 2 ∷ ls) done text >>= (λ line. went (version_line 2 ∷ ls ++ line ∷ [])))
  said ls new done text e =
      elim (cases_Bool (is_version text)) [
        | inl t ↦ absurd (not_ok _ new (rw t at e))
        | inr n ↦ let f = rw n at e in elim (cases_Bool (done && is_worded text)) [
          | inr m ↦ absurd (not_ok _ new (rw m at f))
          | inl u ↦
              (let more = judged ls new (line_of (words text)) (rw u at f) in
              record { others = more.others; old_is = more.old_is; new_is = is_judged ls (version_line 2 ∷ more.others) done text n u more.new_is })
        ]
      ]

  is_said : (ls new : List Line) (done : Bool) (text : List ℕ) → is_skipped text ≡ false
      → (said_after (version_line 2 ∷ ls) done text >>= (λ line. went (version_line 2 ∷ ls ++ line ∷ []))) ≡ went new
      → lines_after (version_line 2 ∷ ls) done text ≡ went new
  is_said ls new done text n e = rw n e

  one_more : (ls new : List Line) (done : Bool) (text : List ℕ) → lines_after (version_line v ∷ ls) done text ≡ went new → IsMore ls new new (lines_after (version_line 2 ∷ ls) done text)
  one_more ls new done text e =
      elim (cases_Bool (is_skipped text)) [
        | inr n ↦ (let more = said ls new done text (rw n at e) in record { others = more.others; old_is = more.old_is; new_is = is_said ls (version_line 2 ∷ more.others) done text n more.new_is })
        | inl t ↦ let f = rw t at e in elim (cases_Bool (done && is_ascii text)) [
          | inr n ↦ absurd (not_ok _ new (rw n at f))
          | inl u ↦ record { others = ls; old_is = sym (same_ok (version_line v ∷ ls) new (rw u at f)); new_is = rw (t, u) refl }
        ]
      ]

  -- what all lines give
  record AreMore (lines : List Line) (r : Result (List Line) Refused) : Type 0 where
    others : List Line
    old_is : lines ≡ version_line v ∷ others
    new_is : r ≡ ended Refused (version_line 2 ∷ others)

  at_end : (n : ℕ) (ls lines : List Line) → told_at n (demand (is_complete (version_line v ∷ ls)) because.Missing) (λ _. ended Refused (version_line v ∷ ls)) ≡ ended Refused lines
      → AreMore lines (told_at n (demand (is_complete (version_line 2 ∷ ls)) because.Missing) (λ _. ended Refused (version_line 2 ∷ ls)))
  at_end n ls lines e =
      elim (cases_Bool (is_complete (version_line v ∷ ls))) [
        | inr f ↦ absurd (not_ok _ lines (rw f at e))
        | inl t ↦ record { others = ls; old_is = sym (same_ok (version_line v ∷ ls) lines (rw t at e)); new_is = rw t refl }
      ]

  all_lines : (n : ℕ) (ls lines : List Line) (parts : List (List ℕ)) → lines_from n (version_line v ∷ ls) parts ≡ ended Refused lines → AreMore lines (lines_from n (version_line 2 ∷ ls) parts)
  unfolding lines_from
  all_lines n ls lines [] e = at_end n ls lines e
  all_lines n ls lines (text ∷ parts) e =
      elim (cases_Bool (is_end text parts)) [
        | inl t ↦ (let end = at_end n ls lines (rw t at e) in record { others = end.others; old_is = end.old_is; new_is = rw t end.new_is })
        | inr f ↦
            (let next = then_all (λ more h. all_lines (n + 1) more lines parts h) (lines_after (version_line v ∷ ls) (not (is_empty parts)) text) refl (rw f at e) in
            record { others = next.others; old_is = next.old_is; new_is = rw f next.new_is })
      ]
    where
      then_all : ((more : List Line) → lines_from (n + 1) (version_line v ∷ more) parts ≡ ended Refused lines → AreMore lines (lines_from (n + 1) (version_line 2 ∷ more) parts))
          → (r : Result (List Line) Cause) → lines_after (version_line v ∷ ls) (not (is_empty parts)) text ≡ r
          → told_at n r (λ lines. lines_from (n + 1) lines parts) ≡ ended Refused lines
          → AreMore lines (told_at n (lines_after (version_line 2 ∷ ls) (not (is_empty parts)) text) (λ lines. lines_from (n + 1) lines parts))
      then_all rest (Err cause) h d = absurd (not_ok _ lines d)
      then_all rest (Ok new) h d =
          let more = one_more ls new (not (is_empty parts)) text h in
          let deeper = rest more.others (subst (λ (ls : List Line). lines_from (n + 1) ls parts ≡ ended Refused lines) more.old_is d) in
          record { others = deeper.others; old_is = deeper.old_is; new_is = rw more.new_is deeper.new_is }

-- ---- the first line

-- a text goes on behind its first line
module _ (v : ℕ) (rest : List ℕ) where
  goes_on : (first : List ℕ) → lines_after [] true first ≡ went (version_line v ∷ []) → is_empty first ≡ false → is_clean first ≡ true
      → lines_from 1 [] (split newline (first ++ newline ∷ rest)) ≡ lines_from 2 (version_line v ∷ []) (split newline rest)
  unfolding lines_from
  goes_on first said some clean =
      ap (lines_from 1 []) (split_clean first rest clean)
      ∙ ap (λ (b : Bool). cond (b && is_empty (split newline rest)) (told_at 1 (demand (is_complete []) because.Missing) (λ _. ended Refused [])) (told_at 1 (lines_after [] (not (is_empty (split newline rest))) first) (λ lines. lines_from 2 lines (split newline rest)))) some
      ∙ ap (λ (b : Bool). told_at 1 (lines_after [] (not b) first) (λ lines. lines_from 2 lines (split newline rest))) (sym (not_done newline rest))
      ∙ ap (λ (r : Result (List Line) Cause). told_at 1 r (λ lines. lines_from 2 lines (split newline rest))) said

says_1 : lines_after [] true (codes "lnfs-policy 1") ≡ went (version_line 1 ∷ [])
unfolding line_of
says_1 = refl

says_2 : lines_after [] true (codes "lnfs-policy 2") ≡ went (version_line 2 ∷ [])
unfolding line_of
says_2 = refl

-- ---- lines that aren't skipped

abbrev is_kept : List ℕ → Bool
is_kept text = not (is_skipped text)

head_kept : (parts : List (List ℕ)) (first : List ℕ) (others : List (List ℕ)) → filter is_kept parts ≡ first ∷ others → is_skipped first ≡ false
head_kept [] first others e = absurd (none e)
  where
    none : [] ≡ first ∷ others → ⊥
    none e = cc
head_kept (text ∷ parts) first others e =
    elim (cases_Bool (is_skipped text)) [
      | inl t ↦ head_kept parts first others (rw t at e)
      | inr f ↦ subst (λ (x : List ℕ). is_skipped x ≡ false) (same (rw f at e)) f
    ]
  where
    same : text ∷ filter is_kept parts ≡ first ∷ others → text ≡ first
    same e = cc

head_clean : (parts : List (List ℕ)) (first : List ℕ) (others : List (List ℕ)) → list_all is_clean parts ≡ true → filter is_kept parts ≡ first ∷ others → is_clean first ≡ true
head_clean [] first others all e = absurd (none e)
  where
    none : [] ≡ first ∷ others → ⊥
    none e = cc
head_clean (text ∷ parts) first others all e =
    let both = and_parts (is_clean text) (list_all is_clean parts) all in
    elim (cases_Bool (is_skipped text)) [
      | inl t ↦ head_clean parts first others both.1 (rw t at e)
      | inr f ↦ subst (λ (x : List ℕ). is_clean x ≡ true) (same (rw f at e)) both.0
    ]
  where
    same : text ∷ filter is_kept parts ≡ first ∷ others → text ≡ first
    same e = cc

same_rest : (front a b : List ℕ) → front ++ a ≡ front ++ b → a ≡ b
same_rest [] a b e = e
same_rest (x ∷ front) a b e = same_rest front a b (tail e)
  where
    tail : x ∷ (front ++ a) ≡ x ∷ (front ++ b) → front ++ a ≡ front ++ b
    tail e = cc

-- what a policy's text is made of
record IsMade (p : Policy) : Type 0 where
  version : ℕ
  first : List ℕ
  rest : List ℕ
  lines : List Line
  text : p.text ≡ first ++ newline ∷ rest
  first_is : (version ≡ 1) × (first ≡ codes "lnfs-policy 1") ⊎ (version ≡ 2) × (first ≡ codes "lnfs-policy 2")
  said : lines_from 2 (version_line version ∷ []) (split newline rest) ≡ ended Refused lines
  policy : policy_in p.text lines ≡ p
  rest_is : kept (split newline rest) ≡ rest

module _ (p : Policy) where
  made_with : (v : ℕ) (first rest : List ℕ) (lines : List Line) → p.text ≡ first ++ newline ∷ rest
      → ((v ≡ 1) × (first ≡ codes "lnfs-policy 1") ⊎ (v ≡ 2) × (first ≡ codes "lnfs-policy 2"))
      → lines_after [] true first ≡ went (version_line v ∷ []) → is_empty first ≡ false → is_clean first ≡ true → is_skipped first ≡ false
      → lines_from 1 [] (split newline p.text) ≡ ended Refused lines → policy_in p.text lines ≡ p → canonical p.text ≡ p.text → IsMade p
  made_with v first rest lines text one says some clean stays read is whole = record {
    version = v;
    first = first;
    rest = rest;
    lines = lines;
    text = text;
    first_is = one;
    said = sym (goes_on v rest first says some clean) ∙ ap (λ (t : List ℕ). lines_from 1 [] (split newline t)) (sym text) ∙ read;
    policy = is;
    rest_is =
        same_rest (first ++ newline ∷ []) (kept (split newline rest)) rest
        (again ∙ sym (append_assoc first (newline ∷ []) rest));
  }
    where
      again : (first ++ newline ∷ []) ++ kept (split newline rest) ≡ first ++ newline ∷ rest
      again =
          let parts : kept (first ∷ split newline rest) ≡ (first ++ newline ∷ []) ++ kept (split newline rest) = rw stays refl in
          sym parts ∙ ap kept (sym (split_clean first rest clean)) ∙ ap canonical (sym text) ∙ whole ∙ text

  of_first : (first : List ℕ) (others : List (List ℕ)) (lines : List Line) → filter is_kept (split newline p.text) ≡ first ∷ others → p.text ≡ kept (split newline p.text)
      → lines_from 1 [] (split newline p.text) ≡ ended Refused lines → policy_in p.text lines ≡ p → IsMade p
  unfolding lines_from
  of_first first others lines filtered text read is =
      let rest = flat_map (λ (t : List ℕ). t ++ newline ∷ []) others in
      let clean = head_clean (split newline p.text) first others (clean_split p.text) filtered in
      let stays = head_kept (split newline p.text) first others filtered in
      let cut : p.text ≡ first ++ newline ∷ rest = text ∙ ap (flat_map (λ (t : List ℕ). t ++ newline ∷ [])) filtered ∙ append_assoc first (newline ∷ []) rest in
      let parts : split newline p.text ≡ first ∷ split newline rest = ap (split newline) cut ∙ split_clean first rest clean in
      elim (cases_Bool (is_version first)) [
        | inr f ↦ absurd (refused first (split newline rest) lines stays f (ap (lines_from 1 []) (sym parts) ∙ read))
        | inl t ↦ elim (or_cases (bytes_eq first (codes "lnfs-policy 1")) (bytes_eq first (codes "lnfs-policy 2")) t) [
          | inl one ↦
              (let same = (bytes_eq-Decides first (codes "lnfs-policy 1")).0 one in
              made_with 1 first rest lines cut (inl (refl, same)) (ap (lines_after [] true) same ∙ says_1) (ap is_empty same) clean stays read is (sym text))
          | inr two ↦
              (let same = (bytes_eq-Decides first (codes "lnfs-policy 2")).0 two in
              made_with 2 first rest lines cut (inr (refl, same)) (ap (lines_after [] true) same ∙ says_2) (ap is_empty same) clean stays read is (sym text))
        ]
      ]
    where
      refused : (first : List ℕ) (others : List (List ℕ)) (lines : List Line) → is_skipped first ≡ false → is_version first ≡ false → lines_from 1 [] (first ∷ others) ≡ ended Refused lines → ⊥
      refused [] others lines stays f e = absurd (false≢true (sym stays))
      refused (b ∷ text) others lines stays f e = not_ok _ lines (rw (stays, f) at e)

  made : IsPolicy p → IsMade p
  unfolding policy_of lines_from
  made is = of_lines (lines_from 1 [] (split newline p.text)) refl is
    where
      none_read : (lines : List Line) → filter is_kept (split newline p.text) ≡ [] → p.text ≡ kept (split newline p.text) → lines_from 1 [] (split newline p.text) ≡ ended Refused lines → ⊥
      none_read lines none text read =
          let empty : p.text ≡ [] = text ∙ ap (flat_map (λ (t : List ℕ). t ++ newline ∷ [])) none in
          nothing lines (ap (λ (t : List ℕ). lines_from 1 [] (split newline t)) (sym empty) ∙ read)
        where
          nothing : (lines : List Line) → lines_from 1 [] ([] ∷ []) ≡ ended Refused lines → ⊥
          nothing lines e = not_ok _ lines e

      of_filtered : (kept_lines : List (List ℕ)) (lines : List Line) → filter is_kept (split newline p.text) ≡ kept_lines → p.text ≡ kept (split newline p.text)
          → lines_from 1 [] (split newline p.text) ≡ ended Refused lines → policy_in p.text lines ≡ p → IsMade p
      of_filtered [] lines none text read is = absurd (none_read lines none text read)
      of_filtered (first ∷ others) lines filtered text read is = of_first first others lines filtered text read is

      of_lines : (r : Result (List Line) Refused) → lines_from 1 [] (split newline p.text) ≡ r → policy_from (canonical p.text) r ≡ ended Refused p → IsMade p
      of_lines (Err refused) read e = absurd (not_ok refused p e)
      of_lines (Ok lines) read e =
          let whole : policy_in (canonical p.text) lines ≡ p = same_ok (policy_in (canonical p.text) lines) p e in
          let text : canonical p.text ≡ p.text = ap (λ (q : Policy). q.text) whole in
          of_filtered (filter is_kept (split newline p.text)) lines refl (sym text) read (ap (λ (t : List ℕ). policy_in t lines) (sym text) ∙ whole)

-- ---- the text in version 2

newer : (rest : List ℕ) (others : List Line) → lines_from 2 (version_line 2 ∷ []) (split newline rest) ≡ ended Refused (version_line 2 ∷ others) → kept (split newline rest) ≡ rest
    → policy_of (codes "lnfs-policy 2" ++ newline ∷ rest) ≡ Ok (policy_in (codes "lnfs-policy 2" ++ newline ∷ rest) (version_line 2 ∷ others))
unfolding policy_of
newer rest others read again =
    let text = codes "lnfs-policy 2" ++ newline ∷ rest in
    let lines : lines_from 1 [] (split newline text) ≡ ended Refused (version_line 2 ∷ others) = goes_on 2 rest (codes "lnfs-policy 2") says_2 refl refl ∙ read in
    let whole : canonical text ≡ text =
    ap kept (split_clean (codes "lnfs-policy 2") rest refl) ∙ ap (λ (t : List ℕ). codes "lnfs-policy 2" ++ newline ∷ t) again in
    ap (policy_from (canonical text)) lines ∙ ap (λ (t : List ℕ). ended Refused (policy_in t (version_line 2 ∷ others))) whole

pub migrated : (p : Policy) → IsPolicy p → IsMigrated p (version_2 ++ drop (length version_2) p.text)
migrated p is =
    let m = made p is in
    let more = all_lines m.version 2 [] m.lines (split newline m.rest) m.said in
    let behind : drop (length version_2) p.text ≡ m.rest = ap (drop (length version_2)) m.text ∙ left m.version m.first m.rest m.first_is in
    let text : version_2 ++ drop (length version_2) p.text ≡ codes "lnfs-policy 2" ++ newline ∷ m.rest = ap (λ (t : List ℕ). version_2 ++ t) behind in
    record {
      lines = refl;
      spells =
          subst (λ (t : List ℕ). policy_of t ≡ Ok (record p { text = t; version = 2 })) (sym text)
          (newer m.rest more.others more.new_is m.rest_is
          ∙ ap Ok (ap (λ (q : Policy). record q { text = codes "lnfs-policy 2" ++ newline ∷ m.rest; version = 2 }) (ap (policy_in p.text) (sym more.old_is) ∙ m.policy)));
    }
  where
    left : (v : ℕ) (first rest : List ℕ) → ((v ≡ 1) × (first ≡ codes "lnfs-policy 1") ⊎ (v ≡ 2) × (first ≡ codes "lnfs-policy 2")) → drop (length version_2) (first ++ newline ∷ rest) ≡ rest
    left v first rest (inl one) = ap (λ (f : List ℕ). drop (length version_2) (f ++ newline ∷ rest)) one.1
    left v first rest (inr two) = ap (λ (f : List ℕ). drop (length version_2) (f ++ newline ∷ rest)) two.1

-- there are as many bytes
pub version_there : (p : Policy) → IsPolicy p → 14 ≤ length p.text
version_there p is =
    let m = made p is in
    let long = ap length m.text in
    elim m.first_is [
      | inl one ↦ omega (arith, long, length-append m.first (newline ∷ m.rest), ap length one.1)
      | inr two ↦ omega (arith, long, length-append m.first (newline ∷ m.rest), ap length two.1)
    ]
