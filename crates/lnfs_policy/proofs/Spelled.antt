-- A line says something exactly where its words are the one spelling of it.
use Rattle.std.proofs.Common.{◌≡◌, ◌^◌, ◌-◌, ℕ, Bool, true, false, cond, List, [], ◌∷◌, refl, sym, ap, ◌∙◌, subst, inl, inr, arith}
use Rattle.std.specs.Prelude.{Result, Ok, Err, Option, Some, None, IfSome, codes}
use Rattle.std.specs.Fmt.{decimal}
use Rattle.std.proofs.lemmas.Fmt.{decimal_digit}
use Rattle.std.proofs.lemmas.Slice.Eq.{bytes_eq-Decides}
use Rattle.std.proofs.lemmas.Bool.{cases_Bool}
use Rattle.std.specs.Str.{bytes_eq}
use Rattle.lnfs_policy.specs.Line.{or_number, number, long_number, Line, version_line, mode_line, level_line, format_line, name_line, parent_line, guest_line, quota_line, dir_line, ◌>>=◌, says_version, says_mode, says_level, says_format, says_name, says_parent, uid_of, says_guest, says_quota, says_dir, line_of}
use Rattle.lnfs_policy.specs.Spelled.{uid_word, spelled, Fits32, FitsQuota, HasNumbers}
use Rattle.lnfs_policy.specs.declared.mode.Mode.TheVariants.{Enforcing, Limited}
use Rattle.lnfs_policy.specs.declared.cause.Cause.{Cause}
use Rattle.lnfs_policy.specs.declared.cause.Cause.TheVariants as because
use Rattle.lnfs_words.proofs.Decimals.{number_is, number_decimal}
use Rattle.lnfs_policy.proofs.Outcomes.{same_ok, not_ok}

-- ---- steps that went well

-- what was chosen went well, and the other choice didn't
chosen : {A : Type 0} (b : Bool) (x : Result A Cause) (cause : Cause) (a : A) → cond b x (Err cause) ≡ Ok a → (b ≡ true) × (x ≡ Ok a)
chosen true x cause a e = (refl, e)
chosen false x cause a e = cc

-- one step and its value; and likewise two and three
one_step : {A L : Type 0} (r : Result A Cause) (f : A → L) (l : L) → r >>= (λ a. Ok (f a)) ≡ Ok l → (a : A) × (r ≡ Ok a) × (f a ≡ l)
one_step (Ok a) f l e = (a, refl, same_ok (f a) l e)
one_step (Err cause) f l e = cc

two_steps : {A B : Type 0} (r : Result A Cause) (s : Result B Cause) (f : A → B → Line) (l : Line) → r >>= (λ a. s >>= (λ b. Ok (f a b))) ≡ Ok l → (a : A) × (b : B) × (r ≡ Ok a) × (s ≡ Ok b) × (f a b ≡ l)
two_steps (Ok a) (Ok b) f l e = (a, b, refl, refl, same_ok (f a b) l e)
two_steps (Ok a) (Err cause) f l e = cc
two_steps (Err cause) s f l e = cc

three_steps : {A B C : Type 0} (r : Result A Cause) (s : Result B Cause) (t : Result C Cause) (f : A → B → C → Line) (l : Line) → r >>= (λ a. s >>= (λ b. t >>= (λ c. Ok (f a b c)))) ≡ Ok l → (a : A) × (b : B) × (c : C) × (r ≡ Ok a) × (s ≡ Ok b) × (t ≡ Ok c) × (f a b c ≡ l)
three_steps (Ok a) (Ok b) (Ok c) f l e = (a, b, c, refl, refl, refl, same_ok (f a b c) l e)
three_steps (Ok a) (Ok b) (Err cause) f l e = cc
three_steps (Ok a) (Err cause) t f l e = cc
three_steps (Err cause) s t f l e = cc

-- ---- words

name_is : (word name : List ℕ) → bytes_eq word name ≡ true → word ≡ name
name_is word name = (bytes_eq-Decides word name).0

given : (o : Option ℕ) (n : ℕ) → or_number o ≡ Ok n → o ≡ Some n
given (Some m) n e = ap Some (same_ok m n e)
given None n e = cc

short_is : (word : List ℕ) (n : ℕ) → number word ≡ Ok n → (word ≡ decimal n) × Fits32 n
short_is word n e = let p = number_is (2 ^ 32 - 1) (omega arith) word n (given _ n e) in (p.1, omega (arith, p.0))

short_decimal : (n : ℕ) → Fits32 n → number (decimal n) ≡ Ok n
short_decimal n h = ap or_number (number_decimal (2 ^ 32 - 1) (omega arith) n (omega arith))

long_is : (word : List ℕ) (n : ℕ) → long_number word ≡ Ok n → (word ≡ decimal n) × FitsQuota n
long_is word n e = let p = number_is (2 ^ 62) (omega arith) word n (given _ n e) in (p.1, omega (arith, p.0))

long_decimal : (n : ℕ) → FitsQuota n → long_number (decimal n) ≡ Ok n
long_decimal n h = ap or_number (number_decimal (2 ^ 62) (omega arith) n (omega arith))

-- no number is spelled `*`
star : (uid : ℕ) → Fits32 uid → bytes_eq (decimal uid) (codes "*") ≡ false
star uid small =
    elim (cases_Bool (bytes_eq (decimal uid) (codes "*"))) [
      | inl t ↦ absurd (not_ok because.Number uid (ap number (sym (name_is (decimal uid) (codes "*") t)) ∙ short_decimal uid small))
      | inr f ↦ f
    ]

uid_said : (uid : Option ℕ) → IfSome uid Fits32 → uid_of (uid_word uid) ≡ Ok uid
uid_said None h = refl
uid_said (Some uid) h = rw (star uid h, short_decimal uid h) refl

-- the word is the one of a user id that fits
abbrev pub IsUid : List ℕ → Option ℕ → Type 0
IsUid word uid = (word ≡ uid_word uid) × IfSome uid Fits32

uid_is : (word : List ℕ) (uid : Option ℕ) → uid_of word ≡ Ok uid → IsUid word uid
uid_is word uid e =
    elim (cases_Bool (bytes_eq word (codes "*"))) [
      | inl t ↦ subst (IsUid word) (same_ok None uid (rw t at e)) (name_is word (codes "*") t, tt)
      | inr f ↦
          let s = one_step (number word) Some uid (rw f at e) in
          subst (IsUid word) s.2 (short_is word s.0 s.1)
    ]

-- ---- from a line to its words

-- the words are the spelling of a line whose numbers fit
abbrev pub Says : List (List ℕ) → Line → Type 0
Says words line = HasNumbers line × (words ≡ spelled line)

version_says : (words : List (List ℕ)) (l : Line) → says_version words ≡ Ok l → Says (codes "lnfs-policy" ∷ words) l
version_says (one ∷ []) l e =
    elim (cases_Bool (bytes_eq one (codes "1"))) [
      | inl t ↦
          let o : one ≡ codes "1" = name_is one (codes "1") t in
          subst (Says (codes "lnfs-policy" ∷ one ∷ [])) (same_ok (version_line 1) l (rw t at e)) (inl refl, ap (λ (w : List ℕ). codes "lnfs-policy" ∷ w ∷ []) (o ∙ sym (decimal_digit 1 (omega arith))))
      | inr f ↦
          let s = chosen (bytes_eq one (codes "2")) (Ok (version_line 2)) because.Words l (rw f at e) in
          let o : one ≡ codes "2" = name_is one (codes "2") s.0 in
          subst (Says (codes "lnfs-policy" ∷ one ∷ [])) (same_ok (version_line 2) l s.1) (inr refl, ap (λ (w : List ℕ). codes "lnfs-policy" ∷ w ∷ []) (o ∙ sym (decimal_digit 2 (omega arith))))
    ]
version_says words l e = cc

mode_says : (words : List (List ℕ)) (l : Line) → says_mode words ≡ Ok l → Says (codes "mode" ∷ words) l
mode_says (mode ∷ []) l e =
    elim (cases_Bool (bytes_eq mode (codes "enforcing"))) [
      | inl t ↦
          let m : mode ≡ codes "enforcing" = name_is mode (codes "enforcing") t in
          subst (Says (codes "mode" ∷ mode ∷ [])) (same_ok (mode_line Enforcing) l (rw t at e)) (tt, cc m)
      | inr f ↦
          let s = chosen (bytes_eq mode (codes "limited")) (Ok (mode_line Limited)) because.Words l (rw f at e) in
          let m : mode ≡ codes "limited" = name_is mode (codes "limited") s.0 in
          subst (Says (codes "mode" ∷ mode ∷ [])) (same_ok (mode_line Limited) l s.1) (tt, cc m)
    ]
mode_says words l e = cc

level_says : (words : List (List ℕ)) (l : Line) → says_level words ≡ Ok l → Says (codes "level" ∷ words) l
level_says (a ∷ b ∷ c ∷ comps ∷ []) l e =
    let s = three_steps (number a) (number b) (number c) (λ place doi sens. level_line place doi sens comps) l e in
    let place = short_is a s.0 s.3 in
    let doi = short_is b s.1 s.4 in
    let sens = short_is c s.2 s.5 in
    subst (Says (codes "level" ∷ a ∷ b ∷ c ∷ comps ∷ [])) s.6 ((place.1, doi.1, sens.1), cc (place.0, doi.0, sens.0))
level_says words l e = cc

format_says : (words : List (List ℕ)) (l : Line) → says_format words ≡ Ok l → Says (codes "format" ∷ words) l
format_says (a ∷ b ∷ kind ∷ []) l e =
    let s = two_steps (number a) (number b) (λ lfs pi. format_line lfs pi kind) l e in
    let lfs = short_is a s.0 s.2 in
    let pi = short_is b s.1 s.3 in
    subst (Says (codes "format" ∷ a ∷ b ∷ kind ∷ [])) s.4 ((lfs.1, pi.1), cc (lfs.0, pi.0))
format_says words l e = cc

name_says : (words : List (List ℕ)) (l : Line) → says_name words ≡ Ok l → Says (codes "name" ∷ words) l
name_says (a ∷ b ∷ c ∷ hex ∷ []) l e =
    let s = three_steps (number a) (number b) (number c) (λ lfs pi level. name_line lfs pi level hex) l e in
    let lfs = short_is a s.0 s.3 in
    let pi = short_is b s.1 s.4 in
    let level = short_is c s.2 s.5 in
    subst (Says (codes "name" ∷ a ∷ b ∷ c ∷ hex ∷ [])) s.6 ((lfs.1, pi.1, level.1), cc (lfs.0, pi.0, level.0))
name_says words l e = cc

parent_says : (words : List (List ℕ)) (l : Line) → says_parent words ≡ Ok l → Says (codes "parent" ∷ words) l
parent_says (a ∷ hex ∷ b ∷ []) l e =
    let s = two_steps (number a) (number b) (λ place level. parent_line place hex level) l e in
    let place = short_is a s.0 s.2 in
    let level = short_is b s.1 s.3 in
    subst (Says (codes "parent" ∷ a ∷ hex ∷ b ∷ [])) s.4 ((place.1, level.1), cc (place.0, level.0))
parent_says words l e = cc

guest_says : (words : List (List ℕ)) (l : Line) → says_guest words ≡ Ok l → Says (codes "guest" ∷ words) l
guest_says (a ∷ b ∷ c ∷ []) l e =
    let s = three_steps (number a) (uid_of b) (number c) (λ class uid level. guest_line class uid level) l e in
    let class = short_is a s.0 s.3 in
    let uid = uid_is b s.1 s.4 in
    let level = short_is c s.2 s.5 in
    subst (Says (codes "guest" ∷ a ∷ b ∷ c ∷ [])) s.6 ((class.1, uid.1, level.1), cc (class.0, uid.0, level.0))
guest_says words l e = cc

quota_says : (words : List (List ℕ)) (l : Line) → says_quota words ≡ Ok l → Says (codes "quota" ∷ words) l
quota_says (a ∷ b ∷ c ∷ []) l e =
    let s = three_steps (number a) (long_number b) (long_number c) (λ level nodes bytes. quota_line level nodes bytes) l e in
    let level = short_is a s.0 s.3 in
    let nodes = long_is b s.1 s.4 in
    let bytes = long_is c s.2 s.5 in
    subst (Says (codes "quota" ∷ a ∷ b ∷ c ∷ [])) s.6 ((level.1, nodes.1, bytes.1), cc (level.0, nodes.0, bytes.0))
quota_says words l e = cc

dir_says : (words : List (List ℕ)) (l : Line) → says_dir words ≡ Ok l → Says (codes "dir" ∷ words) l
dir_says (path ∷ a ∷ []) l e =
    let s = one_step (number a) (λ level. dir_line path level) l e in
    let level = short_is a s.0 s.1 in
    subst (Says (codes "dir" ∷ path ∷ a ∷ [])) s.2 (level.1, cc level.0)
dir_says words l e = cc

pub line_says : (words : List (List ℕ)) (l : Line) → line_of words ≡ Ok l → Says words l
unfolding line_of
line_says [] l e = cc
line_says (name ∷ words) l e =
    let heads : (front : List ℕ) → bytes_eq name front ≡ true → Says (front ∷ words) l → Says (name ∷ words) l = λ front t. subst (λ (x : List ℕ). Says (x ∷ words) l) (sym (name_is name front t)) in
    elim (cases_Bool (bytes_eq name (codes "lnfs-policy"))) [
      | inl t ↦ heads (codes "lnfs-policy") t (version_says words l (rw t at e))
      | inr f ↦ let e = rw f at e in elim (cases_Bool (bytes_eq name (codes "mode"))) [
        | inl t ↦ heads (codes "mode") t (mode_says words l (rw t at e))
        | inr f ↦ let e = rw f at e in elim (cases_Bool (bytes_eq name (codes "level"))) [
          | inl t ↦ heads (codes "level") t (level_says words l (rw t at e))
          | inr f ↦ let e = rw f at e in elim (cases_Bool (bytes_eq name (codes "format"))) [
            | inl t ↦ heads (codes "format") t (format_says words l (rw t at e))
            | inr f ↦ let e = rw f at e in elim (cases_Bool (bytes_eq name (codes "name"))) [
              | inl t ↦ heads (codes "name") t (name_says words l (rw t at e))
              | inr f ↦ let e = rw f at e in elim (cases_Bool (bytes_eq name (codes "parent"))) [
                | inl t ↦ heads (codes "parent") t (parent_says words l (rw t at e))
                | inr f ↦ let e = rw f at e in elim (cases_Bool (bytes_eq name (codes "guest"))) [
                  | inl t ↦ heads (codes "guest") t (guest_says words l (rw t at e))
                  | inr f ↦ let e = rw f at e in elim (cases_Bool (bytes_eq name (codes "quota"))) [
                    | inl t ↦ heads (codes "quota") t (quota_says words l (rw t at e))
                    | inr f ↦ let e = rw f at e in elim (cases_Bool (bytes_eq name (codes "dir"))) [
                      | inl t ↦ heads (codes "dir") t (dir_says words l (rw t at e))
                      | inr f ↦ absurd (not_ok because.Words l (rw f at e))
                    ]
                  ]
                ]
              ]
            ]
          ]
        ]
      ]
    ]

-- ---- from words to a line

line_said : (l : Line) → HasNumbers l → line_of (spelled l) ≡ Ok l
unfolding line_of
line_said (version_line version) h =
    elim h [
      | inl one ↦ subst IsSaid (sym one) (ap (λ (w : List ℕ). line_of (codes "lnfs-policy" ∷ w ∷ [])) (decimal_digit 1 (omega arith)))
      | inr two ↦ subst IsSaid (sym two) (ap (λ (w : List ℕ). line_of (codes "lnfs-policy" ∷ w ∷ [])) (decimal_digit 2 (omega arith)))
    ]
  where
    IsSaid : ℕ → Type 0
    IsSaid version = line_of (spelled (version_line version)) ≡ Ok (version_line version)
line_said (mode_line Enforcing) h = refl
line_said (mode_line Limited) h = refl
line_said (level_line place doi sens comps) h = rw (short_decimal place h.0, short_decimal doi h.1, short_decimal sens h.2) refl
line_said (format_line lfs pi kind) h = rw (short_decimal lfs h.0, short_decimal pi h.1) refl
line_said (name_line lfs pi level hex) h = rw (short_decimal lfs h.0, short_decimal pi h.1, short_decimal level h.2) refl
line_said (parent_line place hex level) h = rw (short_decimal place h.0, short_decimal level h.1) refl
line_said (guest_line class uid level) h = rw (short_decimal class h.0, uid_said uid h.1, short_decimal level h.2) refl
line_said (quota_line level nodes bytes) h = rw (short_decimal level h.0, long_decimal nodes h.1, long_decimal bytes h.2) refl
line_said (dir_line path level) h = rw (short_decimal level h) refl

pub words_say : (words : List (List ℕ)) (l : Line) → Says words l → line_of words ≡ Ok l
words_say words l s = rw s.1 (line_said l s.0)
