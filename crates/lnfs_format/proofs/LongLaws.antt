-- What is read of long texts and what is written are inverse to each other.
use Rattle.std.proofs.Common.{◌≡◌, ℕ, ◌+◌, ◌-◌, ◌<◌, ◌≤◌, ◌^◌, ◌==◌, ◌&&◌, ◌||◌, Bool, true, false, cond, eqb, leb, length, List, [], ◌∷◌, ◌++◌, Option, Some, None, refl, sym, ap, ◌∙◌, subst, arith, inl, inr, append_assoc, unwrap_or}
use Rattle.std.specs.Prelude.{codes}
use Rattle.std.specs.Option.{option_and_then}
use Rattle.std.specs.List.{list_any, list_all}
use Rattle.std.specs.Fmt.{decimal}
use Rattle.std.specs.Char.{is_ascii_digit}
use Rattle.std.specs.Str.{bytes_eq}
use Rattle.std.specs.Str.Parse.{digits_value}
use Rattle.std.proofs.lemmas.Bool.{cases_Bool, cond-true, cond-false, eqb-true, eq-eqb, false_from_ne_true, false≢true, and_parts, or_parts, or_right, lt-ltb}
use Rattle.std.proofs.lemmas.Slice.Eq.{bytes_eq-Decides}
use Rattle.lnfs_words.specs.Words.{split, longer, three_of}
use Rattle.lnfs_words.specs.Numbers.{is_plain, is_padded, number, number_up_to}
use Rattle.lnfs_words.proofs.Splits.{split_some}
use Rattle.lnfs_words.proofs.Decimals.{number_is, number_decimal}
use Rattle.lnfs_calipso.specs.Label.{Label, IsLabel, has_comp, compartments}
use Rattle.lnfs_calipso.specs.Equality.{same_parts}
use Rattle.lnfs_calipso.proofs.Among.{has_comp-compartments}
use Rattle.lnfs_format.specs.declared.reading.Reading.{Reading}
use Rattle.lnfs_format.specs.Text.{comps_text}
use Rattle.lnfs_format.specs.Reading.{with_range, bare, closed, step, read_bytes, finished, start_comps, told, where_spelled, short, reads_comps}
use Rattle.lnfs_format.specs.Long.{comps_word, long_of, label_with, of_words, reads_long, writes_long}
use Rattle.lnfs_format.specs.Laws.{IsComps}
use Rattle.lnfs_format.proofs.CompLaws.{short_is, IsShort, short_of, if_short, comps_read, comps_taken, none_some, some_some}

-- ---- parts of a text

unsplit : List (List ℕ) → List ℕ
unsplit [] = []
unsplit (part ∷ []) = part
unsplit (part ∷ other ∷ parts) = part ++ 47 ∷ unsplit (other ∷ parts)

first : (parts : List (List ℕ)) → 0 < length parts → unsplit ([] ∷ parts) ≡ 47 ∷ unsplit parts
unfolding unsplit
first [] l = absurd (omega arith)
first (part ∷ parts) l = refl

front : (b : ℕ) (parts : List (List ℕ)) → 0 < length parts → unsplit (longer b parts) ≡ b ∷ unsplit parts
unfolding unsplit
front b [] l = absurd (omega arith)
front b (part ∷ []) l = refl
front b (part ∷ other ∷ parts) l = refl

-- parts put together again
unsplit-split : (text : List ℕ) → unsplit (split 47 text) ≡ text
unfolding unsplit
unsplit-split [] = refl
unsplit-split (b ∷ text) =
    elim (cases_Bool (b == 47)) [
      | inl here ↦
          ap unsplit (cond-true (b == 47) ([] ∷ split 47 text) (longer b (split 47 text)) here)
          ∙ first (split 47 text) (split_some 47 text) ∙ ap (λ (ys : List ℕ). 47 ∷ ys) (unsplit-split text) ∙ ap (λ (c : ℕ). c ∷ text) (sym (eqb-true b 47 here))
      | inr there ↦
          ap unsplit (cond-false (b == 47) ([] ∷ split 47 text) (longer b (split 47 text)) there)
          ∙ front b (split 47 text) (split_some 47 text) ∙ ap (λ (ys : List ℕ). b ∷ ys) (unsplit-split text)
    ]

abbrev has_slash : List ℕ → Bool
has_slash text = list_any (λ b. b == 47) text

split_at : (a rest : List ℕ) → has_slash a ≡ false → split 47 (a ++ 47 ∷ rest) ≡ a ∷ split 47 rest
split_at [] rest none = refl
split_at (x ∷ a) rest none =
    let parts = or_parts (x == 47) (has_slash a) none in
    cond-false (x == 47) ([] ∷ split 47 (a ++ 47 ∷ rest)) (longer x (split 47 (a ++ 47 ∷ rest))) parts.0 ∙ ap (longer x) (split_at a rest parts.1)

split_last : (a : List ℕ) → has_slash a ≡ false → split 47 a ≡ a ∷ []
split_last [] none = refl
split_last (x ∷ a) none =
    let parts = or_parts (x == 47) (has_slash a) none in
    cond-false (x == 47) ([] ∷ split 47 a) (longer x (split 47 a)) parts.0 ∙ ap (longer x) (split_last a parts.1)

-- ---- no slash in a part

or_false : (x y : Bool) → x ≡ false → y ≡ false → (x || y) ≡ false
or_false x y e f = ap (λ (b : Bool). b || y) e ∙ f

digits_alone : (word : List ℕ) → list_all is_ascii_digit word ≡ true → has_slash word ≡ false
digits_alone [] all = refl
digits_alone (x ∷ word) all =
    let parts = and_parts (is_ascii_digit x) (list_all is_ascii_digit word) all in
    or_false (x == 47) (has_slash word)
    (false_from_ne_true (x == 47) (λ here. false≢true (sym (ap is_ascii_digit (eqb-true x 47 here)) ∙ parts.0)))
    (digits_alone word parts.1)

none_number : (n : ℕ) → None ≡ Some n → ⊥
none_number n e = cc

plain : (most : ℕ) (word : List ℕ) (n : ℕ) → number_up_to most word ≡ Some n → has_slash word ≡ false
plain most word n e =
    elim (cases_Bool (is_plain word && leb (digits_value 10 word) most)) [
      | inl good ↦ digits_alone word (and_parts _ (list_all is_ascii_digit word) (and_parts (is_plain word) (leb (digits_value 10 word) most) good).0).1
      | inr bad ↦ absurd (none_number n (sym (cond-false (is_plain word && leb (digits_value 10 word) most) (Some (digits_value 10 word)) None bad) ∙ e))
    ]

none_read : (r : Reading) → None ≡ Some r → ⊥
none_read r e = cc

-- a reading takes no slash
step_slash : (r : Reading) → step r 47 ≡ None
unfolding step
step_slash r = refl

after_alone : (bytes : List ℕ) → ((t s : Reading) → read_bytes t bytes ≡ Some s → has_slash bytes ≡ false) → (o : Option Reading) (s : Reading) → option_and_then (λ t. read_bytes t bytes) o ≡ Some s → has_slash bytes ≡ false
after_alone bytes next None s e = absurd (none_read s e)
after_alone bytes next (Some t) s e = next t s e

read_alone : (r : Reading) (bytes : List ℕ) (s : Reading) → read_bytes r bytes ≡ Some s → has_slash bytes ≡ false
read_alone r [] s e = refl
read_alone r (x ∷ bytes) s e =
    or_false (x == 47) (has_slash bytes)
    (false_from_ne_true (x == 47) (λ here.
    none_read s (sym (ap (λ (o : Option Reading). option_and_then (λ t. read_bytes t bytes) o) (ap (step r) (eqb-true x 47 here) ∙ step_slash r)) ∙ e)))
    (after_alone bytes (λ t u h. read_alone t bytes u h) (step r x) s e)

told_alone : (r : Reading) (bytes : List ℕ) (label : Label) → told r bytes ≡ Some label → has_slash bytes ≡ false
told_alone r bytes label e = of_end (read_bytes r bytes) refl label e
  where
    of_end : (o : Option Reading) → read_bytes r bytes ≡ o → (label : Label) → option_and_then finished o ≡ Some label → has_slash bytes ≡ false
    of_end None h label e = absurd (none_some label e)
    of_end (Some s) h label e = read_alone r bytes s h

-- a reading of compartments takes no `-`
step_minus : (r : Reading) → step r 45 ≡ None
unfolding step
step_minus r = refl

minus_untold : (r : Reading) → told r (codes "-") ≡ None
minus_untold r = ap (λ (o : Option Reading). option_and_then finished (option_and_then (λ t. read_bytes t []) o)) (step_minus r)

-- what is told of compartments that are read
record IsTold (doi sens : ℕ) (bytes : List ℕ) : Type 0 where
  label : Label
  is : told (start_comps doi sens) bytes ≡ Some label

told_of : (doi sens : ℕ) (bytes : List ℕ) (label : Label) → reads_comps doi sens bytes ≡ Some label → IsTold doi sens bytes
unfolding reads_comps
told_of doi sens bytes label e = of_option (told (start_comps doi sens) bytes) refl label e
  where
    of_option : (o : Option Label) → told (start_comps doi sens) bytes ≡ o → (label : Label)
        → option_and_then (λ l. cond (l.sens == sens) (where_spelled l (comps_text l.comps) bytes) None) o ≡ Some label → IsTold doi sens bytes
    of_option None h label e = absurd (none_some label e)
    of_option (Some l) h label e = record { label = l; is = h }

-- no bytes are no compartments
no_bytes : (doi sens : ℕ) (label : Label) → reads_comps doi sens [] ≡ Some label → label.comps ≡ [] → ⊥
unfolding reads_comps
no_bytes doi sens label e none =
    let l = closed (start_comps doi sens) in
    false≢true
    (sym (ap (λ (xs : List ℕ). has_comp xs 0) (ap (λ (x : Label). x.comps) (same l label e) ∙ none))
    ∙ has_comp-compartments (λ c. false || (leb 0 c && leb c 0)) 0)
  where
    same : (l label : Label) → cond (l.sens == sens) (where_spelled l (comps_text l.comps) []) None ≡ Some label → l ≡ label
    same l label e =
        elim (cases_Bool (l.sens == sens)) [
          | inr other ↦ absurd (none_some label (sym (cond-false (l.sens == sens) (where_spelled l (comps_text l.comps) []) None other) ∙ e))
          | inl right ↦ elim (cases_Bool (bytes_eq (comps_text l.comps) [])) [
            | inl spelled ↦ some_some l label (sym (cond-true (bytes_eq (comps_text l.comps) []) (Some l) None spelled) ∙ sym (cond-true (l.sens == sens) (where_spelled l (comps_text l.comps) []) None right) ∙ e)
            | inr un ↦ absurd (none_some label (sym (cond-false (bytes_eq (comps_text l.comps) []) (Some l) None un) ∙ sym (cond-true (l.sens == sens) (where_spelled l (comps_text l.comps) []) None right) ∙ e))
          ]
        ]

-- ---- the word of the compartments

is_minus : bytes_eq (codes "-") (codes "-") ≡ true
is_minus = (bytes_eq-Decides (codes "-") (codes "-")).1 refl

word_read : (label : Label) → IsLabel label → (comps : List ℕ) → label.comps ≡ comps → label_with label.doi label.sens (comps_word comps) ≡ Some label
unfolding label_with
word_read label is [] e = cond-true (bytes_eq (codes "-") (codes "-")) (Some (bare label.doi label.sens)) (reads_comps label.doi label.sens (codes "-")) is_minus ∙ ap Some (same_parts (bare label.doi label.sens) label refl refl (sym e))
word_read label is (c ∷ comps) e =
    let read : reads_comps label.doi label.sens (comps_text (c ∷ comps)) ≡ Some label =
    ap (λ (xs : List ℕ). reads_comps label.doi label.sens (comps_text xs)) (sym e) ∙ comps_read label is (λ none. no_cons (sym e ∙ none)) in
    let t = told_of label.doi label.sens (comps_text (c ∷ comps)) label read in
    cond-false (bytes_eq (comps_text (c ∷ comps)) (codes "-")) (Some (bare label.doi label.sens)) (reads_comps label.doi label.sens (comps_text (c ∷ comps)))
    (false_from_ne_true (bytes_eq (comps_text (c ∷ comps)) (codes "-")) (λ h.
    none_some t.label
    (sym (ap (told (start_comps label.doi label.sens)) ((bytes_eq-Decides (comps_text (c ∷ comps)) (codes "-")).0 h) ∙ minus_untold (start_comps label.doi label.sens)) ∙ t.is)))
    ∙ read
  where
    no_cons : {x : ℕ} {xs : List ℕ} → x ∷ xs ≡ [] → ⊥
    no_cons e = cc

word_alone : (label : Label) → IsLabel label → (comps : List ℕ) → label.comps ≡ comps → has_slash (comps_word comps) ≡ false
word_alone label is [] e = refl
word_alone label is (c ∷ comps) e =
    let read : reads_comps label.doi label.sens (comps_text (c ∷ comps)) ≡ Some label =
    ap (λ (xs : List ℕ). reads_comps label.doi label.sens (comps_text xs)) (sym e) ∙ comps_read label is (λ none. no_cons (sym e ∙ none)) in
    let t = told_of label.doi label.sens (comps_text (c ∷ comps)) label read in
    told_alone (start_comps label.doi label.sens) (comps_text (c ∷ comps)) t.label t.is
  where
    no_cons : {x : ℕ} {xs : List ℕ} → x ∷ xs ≡ [] → ⊥
    no_cons e = cc

-- a label whose compartments a word tells
record IsWord (doi sens : ℕ) (label : Label) (word : List ℕ) : Type 0 where
  doi_is : label.doi ≡ doi
  sens_is : label.sens ≡ sens
  word_is : comps_word label.comps ≡ word

word_back : (doi sens : ℕ) → doi < 2 ^ 32 → sens < 256 → (word : List ℕ) (label : Label) → label_with doi sens word ≡ Some label → IsWord doi sens label word
unfolding label_with
word_back doi sens d s word label e =
    elim (cases_Bool (bytes_eq word (codes "-"))) [
      | inl minus ↦
          (let same = some_some (bare doi sens) label (sym (cond-true (bytes_eq word (codes "-")) (Some (bare doi sens)) (reads_comps doi sens word) minus) ∙ e) in
          subst (λ (l : Label). IsWord doi sens l word) same (record { doi_is = refl; sens_is = refl; word_is = sym ((bytes_eq-Decides word (codes "-")).0 minus) }))
      | inr other ↦
          (let read = sym (cond-false (bytes_eq word (codes "-")) (Some (bare doi sens)) (reads_comps doi sens word) other) ∙ e in
          let t = comps_taken doi sens d s word label read in
          record { doi_is = t.doi_is; sens_is = t.sens_is; word_is = some_comps label.comps refl read t.text_is })
    ]
  where
    some_comps : (comps : List ℕ) → label.comps ≡ comps → reads_comps doi sens word ≡ Some label → comps_text comps ≡ word → comps_word comps ≡ word
    some_comps [] none read text = absurd (no_bytes doi sens label (ap (reads_comps doi sens) text ∙ read) none)
    some_comps (c ∷ comps) some read text = text

-- ---- the whole

pub long_again : (label : Label) → IsLabel label → (bytes : List ℕ) → writes_long label ≡ Some bytes → reads_long bytes ≡ Some label
unfolding writes_long reads_long long_of
long_again label is bytes e =
    let s = short_of (long_of label) bytes e in
    let doi = number_decimal (2 ^ 32 - 1) (omega arith) label.doi (omega (arith, is.doi)) in
    let sens = number_decimal 255 (omega arith) label.sens (omega (arith, is.sens)) in
    let word = comps_word label.comps in
    let apart : split 47 (long_of label) ≡ decimal label.doi ∷ decimal label.sens ∷ word ∷ [] =
    ap (split 47) (append_assoc (decimal label.doi) (47 ∷ decimal label.sens) (47 ∷ word))
    ∙ split_at (decimal label.doi) (decimal label.sens ++ 47 ∷ word) (plain (2 ^ 32 - 1) (decimal label.doi) label.doi doi)
    ∙ ap (λ (ps : List (List ℕ)). decimal label.doi ∷ ps)
    (split_at (decimal label.sens) word (plain 255 (decimal label.sens) label.sens sens)
    ∙ ap (λ (ps : List (List ℕ)). decimal label.sens ∷ ps) (split_last word (word_alone label is label.comps refl))) in
    ap (option_and_then (λ text. option_and_then of_words (three_of (split 47 text)))) (short_is bytes s.few)
    ∙ ap (λ (xs : List ℕ). option_and_then of_words (three_of (split 47 xs))) (sym s.same)
    ∙ ap (λ (ps : List (List ℕ)). option_and_then of_words (three_of ps)) apart
    ∙ ap (option_and_then (λ d. option_and_then (λ n. label_with d n word) (number_up_to 255 (decimal label.sens)))) doi
    ∙ ap (option_and_then (λ n. label_with label.doi n word)) sens
    ∙ word_read label is label.comps refl

record AreWords (bytes : List ℕ) (label : Label) : Type 0 where
  a : List ℕ
  b : List ℕ
  c : List ℕ
  apart : split 47 bytes ≡ a ∷ b ∷ c ∷ []
  doi : ℕ
  sens : ℕ
  doi_is : number a ≡ Some doi
  sens_is : number_up_to 255 b ≡ Some sens
  word : label_with doi sens c ≡ Some label

words_of : (bytes : List ℕ) (label : Label) → option_and_then of_words (three_of (split 47 bytes)) ≡ Some label → AreWords bytes label
words_of bytes label e = of_parts (split 47 bytes) refl e
  where
    of_sens : (a b c : List ℕ) → split 47 bytes ≡ a ∷ b ∷ c ∷ [] → (d : ℕ) → number a ≡ Some d → (n : Option ℕ) → number_up_to 255 b ≡ n → option_and_then (λ s. label_with d s c) n ≡ Some label → AreWords bytes label
    of_sens a b c apart d doi None sens e = absurd (none_some label e)
    of_sens a b c apart d doi (Some s) sens e = record { a = a; b = b; c = c; apart = apart; doi = d; sens = s; doi_is = doi; sens_is = sens; word = e }

    of_doi : (a b c : List ℕ) → split 47 bytes ≡ a ∷ b ∷ c ∷ [] → (d : Option ℕ) → number a ≡ d → option_and_then (λ d. option_and_then (λ s. label_with d s c) (number_up_to 255 b)) d ≡ Some label → AreWords bytes label
    of_doi a b c apart None doi e = absurd (none_some label e)
    of_doi a b c apart (Some d) doi e = of_sens a b c apart d doi (number_up_to 255 b) refl e

    of_parts : (parts : List (List ℕ)) → split 47 bytes ≡ parts → option_and_then of_words (three_of parts) ≡ Some label → AreWords bytes label
    of_parts [] apart e = absurd (none_some label e)
    of_parts (a ∷ []) apart e = absurd (none_some label e)
    of_parts (a ∷ b ∷ []) apart e = absurd (none_some label e)
    of_parts (a ∷ b ∷ c ∷ []) apart e = of_doi a b c apart (number a) refl e
    of_parts (a ∷ b ∷ c ∷ d ∷ rest) apart e = absurd (none_some label e)

pub long_back : (bytes : List ℕ) (label : Label) → reads_long bytes ≡ Some label → writes_long label ≡ Some bytes
unfolding writes_long reads_long long_of unsplit
long_back bytes label e =
    let s = if_short (λ text. option_and_then of_words (three_of (split 47 text))) bytes label e in
    let w = words_of bytes label s.1 in
    let doi = number_is (2 ^ 32 - 1) (omega arith) w.a w.doi w.doi_is in
    let sens = number_is 255 (omega arith) w.b w.sens w.sens_is in
    let word = word_back w.doi w.sens (omega (arith, doi.0)) (omega (arith, sens.0)) w.c label w.word in
    let joined = λ (x y z : List ℕ). x ++ 47 ∷ (y ++ 47 ∷ z) in
    let text : long_of label ≡ bytes =
    append_assoc (decimal label.doi) (47 ∷ decimal label.sens) (47 ∷ comps_word label.comps)
    ∙ ap (λ (d : ℕ). joined (decimal d) (decimal label.sens) (comps_word label.comps)) word.doi_is
    ∙ ap (λ (n : ℕ). joined (decimal w.doi) (decimal n) (comps_word label.comps)) word.sens_is
    ∙ ap (joined (decimal w.doi) (decimal w.sens)) word.word_is
    ∙ ap (λ (x : List ℕ). joined x (decimal w.sens) w.c) (sym doi.1) ∙ ap (λ (y : List ℕ). joined w.a y w.c) (sym sens.1)
    ∙ sym (ap unsplit w.apart) ∙ unsplit-split bytes in
    ap short text ∙ short_is bytes s.0
