-- What holds of the lines that say something.
use Rattle.std.proofs.Common.{◌≡◌, ◌≤◌, ◌+◌, ◌*◌, ℕ, Bool, true, false, List, [], ◌∷◌, map, length, nat_le, refl, subst, inl, inr, arith}
use Rattle.std.specs.Prelude.{Result, Ok, Err, Option, Some, None, All, is_some, IsSome, IsTrue, codes}
use Rattle.std.specs.Str.{bytes_eq}
use Rattle.std.proofs.lemmas.Bool.{cases_Bool, ltb-true, leb-true}
use Rattle.std.proofs.lemmas.List.Elements.{All-nil, All-cons}
use Rattle.hex.specs.Hex.{decode_of}
use Rattle.hex.specs.declared.error.FromHexError.{FromHexError}
use Rattle.hex.proofs.HexLemmas.{decode_of-ok}
use Rattle.lnfs_calipso.specs.declared.Level.{Level}
use Rattle.lnfs_words.specs.Words.{words, one_of, two_of, three_of, four_of}
use Rattle.lnfs_words.specs.Numbers.{number, number_up_to}
use Rattle.lnfs_words.specs.Hex.{decoded}
use Rattle.lnfs_words.specs.Paths.{is_path}
use Rattle.lnfs_words.proofs.Decimals.{number_is}
use Rattle.lnfs_policy.specs.Policy.{Policy, parent_at}
use Rattle.lnfs_policy.specs.Fits.{is_known}
use Rattle.lnfs_policy.specs.declared.fits.TheConstants.{MAX_CLASS}
use Rattle.lnfs_script.specs.Paths.{is_root_or_path}
use Rattle.lnfs_script.specs.Fits.{ActionFits, ActionSuits, IdentitySuits, IsLevelOf, IsOfLine}
use Rattle.lnfs_script.specs.Forms.{◌>>=◌, only_if, path_in, named_path_in, offset_in, count_in, content_in, level_in, parent_in, identity_in, says_link, says_list, says_read, says_write, says_make, says_mkdir, says_remove, says_raise, action_of, link_at, action_at}
use Rattle.lnfs_script.specs.Script.{all_from, script_with, script_in, script_of}
use Rattle.lnfs_script.specs.Lines.{lines_of}
use Rattle.lnfs_script.specs.declared.action.Action.{Action}
use Rattle.lnfs_script.specs.declared.identity.Identity.{Identity}
use Rattle.lnfs_script.specs.declared.forms.Link.{Link}
use Rattle.lnfs_script.specs.declared.script.Script.{Script}
use Rattle.lnfs_script.specs.declared.limits.TheConstants.{MAX_OFFSET, MAX_COUNT, MAX_CONTENT}

-- ---- steps that had a value

same_some : {A : Type 0} (a b : A) → Some a ≡ Some b → a ≡ b
same_some a b e = cc

-- both steps had one
bound : {A B : Type 0} (o : Option A) (next : A → Option B) (b : B) → (o >>= next) ≡ Some b → (a : A) × (o ≡ Some a) × (next a ≡ Some b)
bound None next b e = cc
bound (Some a) next b e = (a, refl, e)

passed : {A : Type 0} (test : Bool) (a b : A) → only_if test a ≡ Some b → (test ≡ true) × (a ≡ b)
passed true a b e = (refl, same_some a b e)
passed false a b e = cc

-- ---- what a word spells

path_is : (word path : List ℕ) → path_in word ≡ Some path → IsTrue (is_root_or_path path)
path_is word path e = let h = passed (is_root_or_path word) word path e in subst (λ (w : List ℕ). IsTrue (is_root_or_path w)) h.1 h.0

named_path_is : (word path : List ℕ) → named_path_in word ≡ Some path → IsTrue (is_path path)
named_path_is word path e = let h = passed (is_path word) word path e in subst (λ (w : List ℕ). IsTrue (is_path w)) h.1 h.0

offset_is : (word : List ℕ) (n : ℕ) → offset_in word ≡ Some n → n ≤ MAX_OFFSET
offset_is word n e = (number_is MAX_OFFSET (omega arith) word n e).0

count_is : (word : List ℕ) (n : ℕ) → count_in word ≡ Some n → n ≤ MAX_COUNT
count_is word n e = (number_is MAX_COUNT (omega arith) word n e).0

class_is : (word : List ℕ) (n : ℕ) → number_up_to MAX_CLASS word ≡ Some n → n ≤ MAX_CLASS
class_is word n e = (number_is MAX_CLASS (omega arith) word n e).0

decoded_is : (r : Result (List ℕ) FromHexError) (bytes : List ℕ) → decoded r ≡ Some bytes → r ≡ Ok bytes
decoded_is (Ok b) bytes e = cc
decoded_is (Err error) bytes e = cc

content_is : (word bytes : List ℕ) → content_in word ≡ Some bytes → length bytes ≤ MAX_CONTENT
content_is word bytes e =
    elim (cases_Bool (nat_le (length word) (2 * MAX_CONTENT))) [
      | inl t ↦
          let twice = (decode_of-ok word bytes (decoded_is (decode_of word) bytes (rw t at e))).2 in
          let few : length word ≤ 2 * MAX_CONTENT = leb-true _ _ t in
          omega arith
      | inr f ↦ absurd (let none : None ≡ Some bytes = rw f at e in cc)
    ]

level_is : (p : Policy) (word : List ℕ) (level : Level) → level_in p word ≡ Some level → IsLevelOf p level
level_is p word level e =
    let read = bound (number word) _ level e in
    let h = passed (is_known p.labels read.0) (let l : Level = record { 0 = read.0 } in l) level read.2 in
    subst (IsLevelOf p) h.1 (ltb-true _ _ h.0)

parent_is : (p : Policy) (word : List ℕ) (n : ℕ) → parent_in p word ≡ Some n → IsSome (parent_at p n)
parent_is p word n e =
    let read = bound (number word) _ n e in
    let h = passed (is_some (parent_at p read.0)) read.0 n read.2 in
    subst (λ (k : ℕ). IsSome (parent_at p k)) h.1 h.0

-- ---- the lines

pub record IsLine (p : Policy) (asked : Action) : Type 0 where
  pub fits : ActionFits asked
  pub suits : ActionSuits p asked
  pub of_line : IsOfLine asked

module _ (p : Policy) (ws : List (List ℕ)) (asked : Action) where
  list_says : says_list ws ≡ Some asked → IsLine p asked
  list_says e =
      let w = bound (one_of ws) _ asked e in
      let path = bound (path_in w.0) _ asked w.2 in
      subst (IsLine p) (same_some _ asked path.2) (record { fits = path_is w.0 path.0 path.1; suits = tt; of_line = tt })

  read_says : says_read ws ≡ Some asked → IsLine p asked
  read_says e =
      let w = bound (three_of ws) _ asked e in
      let path = bound (path_in w.0.0) _ asked w.2 in
      let offset = bound (offset_in w.0.1) _ asked path.2 in
      let count = bound (count_in w.0.2) _ asked offset.2 in
      subst (IsLine p) (same_some _ asked count.2)
      (record { fits = (path_is w.0.0 path.0 path.1, offset_is w.0.1 offset.0 offset.1, count_is w.0.2 count.0 count.1); suits = tt; of_line = tt })

  write_says : says_write ws ≡ Some asked → IsLine p asked
  write_says e =
      let w = bound (three_of ws) _ asked e in
      let path = bound (path_in w.0.0) _ asked w.2 in
      let offset = bound (offset_in w.0.1) _ asked path.2 in
      let content = bound (content_in w.0.2) _ asked offset.2 in
      subst (IsLine p) (same_some _ asked content.2)
      (record { fits = (path_is w.0.0 path.0 path.1, offset_is w.0.1 offset.0 offset.1, content_is w.0.2 content.0 content.1); suits = tt; of_line = tt })

  make_says : says_make ws ≡ Some asked → IsLine p asked
  make_says e =
      let w = bound (one_of ws) _ asked e in
      let path = bound (named_path_in w.0) _ asked w.2 in
      subst (IsLine p) (same_some _ asked path.2) (record { fits = named_path_is w.0 path.0 path.1; suits = tt; of_line = tt })

  mkdir_says : says_mkdir p ws ≡ Some asked → IsLine p asked
  mkdir_says e =
      let w = bound (two_of ws) _ asked e in
      let path = bound (named_path_in w.0.0) _ asked w.2 in
      let level = bound (level_in p w.0.1) _ asked path.2 in
      subst (IsLine p) (same_some _ asked level.2)
      (record { fits = named_path_is w.0.0 path.0 path.1; suits = level_is p w.0.1 level.0 level.1; of_line = tt })

  remove_says : says_remove ws ≡ Some asked → IsLine p asked
  remove_says e =
      let w = bound (one_of ws) _ asked e in
      let path = bound (named_path_in w.0) _ asked w.2 in
      subst (IsLine p) (same_some _ asked path.2) (record { fits = named_path_is w.0 path.0 path.1; suits = tt; of_line = tt })

  raise_says : says_raise p ws ≡ Some asked → IsLine p asked
  raise_says e =
      let w = bound (two_of ws) _ asked e in
      let path = bound (named_path_in w.0.0) _ asked w.2 in
      let level = bound (level_in p w.0.1) _ asked path.2 in
      subst (IsLine p) (same_some _ asked level.2)
      (record { fits = named_path_is w.0.0 path.0 path.1; suits = level_is p w.0.1 level.0 level.1; of_line = tt })

action_says : (p : Policy) (ws : List (List ℕ)) (asked : Action) → action_of p ws ≡ Some asked → IsLine p asked
unfolding action_of
action_says p [] asked e = cc
action_says p (name ∷ ws) asked e =
    elim (cases_Bool (bytes_eq name (codes "list"))) [
      | inl t ↦ list_says p ws asked (rw t at e)
      | inr f ↦ let e = rw f at e in elim (cases_Bool (bytes_eq name (codes "read"))) [
        | inl t ↦ read_says p ws asked (rw t at e)
        | inr f ↦ let e = rw f at e in elim (cases_Bool (bytes_eq name (codes "write"))) [
          | inl t ↦ write_says p ws asked (rw t at e)
          | inr f ↦ let e = rw f at e in elim (cases_Bool (bytes_eq name (codes "make"))) [
            | inl t ↦ make_says p ws asked (rw t at e)
            | inr f ↦ let e = rw f at e in elim (cases_Bool (bytes_eq name (codes "mkdir"))) [
              | inl t ↦ mkdir_says p ws asked (rw t at e)
              | inr f ↦ let e = rw f at e in elim (cases_Bool (bytes_eq name (codes "remove"))) [
                | inl t ↦ remove_says p ws asked (rw t at e)
                | inr f ↦ let e = rw f at e in elim (cases_Bool (bytes_eq name (codes "raise"))) [
                  | inl t ↦ raise_says p ws asked (rw t at e)
                  | inr f ↦ absurd (let none : None ≡ Some asked = rw f at e in cc)
                ]
              ]
            ]
          ]
        ]
      ]
    ]

at_says : (p : Policy) (line : Option (List ℕ)) (asked : Action) → action_at p line ≡ Some asked → IsLine p asked
at_says p None asked e = cc
at_says p (Some text) asked e = action_says p (words text) asked e

identity_says : (p : Policy) (kind word : List ℕ) (who : Identity) → identity_in p kind word ≡ Some who → IdentitySuits p who
identity_says p kind word who e =
    elim (cases_Bool (bytes_eq kind (codes "guest"))) [
      | inl t ↦ let uid = bound (number word) _ who (rw t at e) in subst (IdentitySuits p) (same_some _ who uid.2) tt
      | inr f ↦ let e = rw f at e in elim (cases_Bool (bytes_eq kind (codes "full"))) [
        | inl t ↦ let parent = bound (parent_in p word) _ who (rw t at e) in subst (IdentitySuits p) (same_some _ who parent.2) (parent_is p word parent.0 parent.1)
        | inr f ↦ absurd (let none : None ≡ Some who = rw f at e in cc)
      ]
    ]

pub record IsFirst (p : Policy) (link : Link) : Type 0 where
  pub class : link.class ≤ MAX_CLASS
  pub identity : IdentitySuits p link.identity

link_says : (p : Policy) (ws : List (List ℕ)) (link : Link) → says_link p ws ≡ Some link → IsFirst p link
link_says p ws link e =
    let w = bound (four_of ws) _ link e in
    let name = bound (only_if (bytes_eq w.0.0 (codes "link")) w.0.0) _ link w.2 in
    let class = bound (number_up_to MAX_CLASS w.0.1) _ link name.2 in
    let who = bound (identity_in p w.0.2 w.0.3) _ link class.2 in
    subst (IsFirst p) (same_some _ link who.2) (record { class = class_is w.0.1 class.0 class.1; identity = identity_says p w.0.2 w.0.3 who.0 who.1 })

first_says : (p : Policy) (line : Option (List ℕ)) (link : Link) → link_at p line ≡ Some link → IsFirst p link
first_says p None link e = cc
first_says p (Some text) link e = link_says p (words text) link e

-- ---- the script

same_ok : {A : Type 0} (a b : A) → let x : Result A ℕ = Ok a in x ≡ Ok b → a ≡ b
same_ok a b e = cc

not_ok : {A : Type 0} (n : ℕ) (a : A) → let x : Result A ℕ = Err n in x ≡ Ok a → ⊥
not_ok n a e = cc

all_say : (p : Policy) (number : ℕ) (lines : List (Option (List ℕ))) (actions : List Action) → all_from number (map (action_at p) lines) ≡ Ok actions → All (IsLine p) actions
all_say p number [] actions e = subst (All (IsLine p)) (same_ok [] actions e) (All-nil (IsLine p))
all_say p number (line ∷ lines) actions e =
    of (action_at p line) refl (all_from (number + 1) (map (action_at p) lines)) (λ others r. all_say p (number + 1) lines others r) refl e
  where
    of : (said : Option Action) → action_at p line ≡ said → (rest : Result (List Action) ℕ) → ((others : List Action) → rest ≡ Ok others → All (IsLine p) others)
        → all_from (number + 1) (map (action_at p) lines) ≡ rest → all_from number (action_at p line ∷ map (action_at p) lines) ≡ Ok actions → All (IsLine p) actions
    of None h rest all r e = absurd (not_ok number actions (rw h at e))
    of (Some asked) h (Ok others) all r e =
        let whole : asked ∷ others ≡ actions = same_ok (asked ∷ others) actions (rw (h, r) at e) in
        subst (All (IsLine p)) whole (All-cons (IsLine p) asked others (at_says p line asked h) (all others refl))
    of (Some asked) h (Err n) all r e = absurd (not_ok n actions (rw (h, r) at e))

pub record IsRead (p : Policy) (s : Script) : Type 0 where
  pub lines : All (IsLine p) s.actions
  pub class : s.class ≤ MAX_CLASS
  pub identity : IdentitySuits p s.identity

pub read_is : (p : Policy) (text : List ℕ) (s : Script) → script_of p text ≡ Ok s → IsRead p s
unfolding script_of
read_is p text s e = of (lines_of text) e
  where
    with_link : (link : Option Link) (first : Option (List ℕ)) (lines : List (Option (List ℕ))) → link_at p first ≡ link → (actions : Result (List Action) ℕ) → all_from 2 (map (action_at p) lines) ≡ actions → script_with link actions ≡ Ok s → IsRead p s
    with_link None first lines l actions a e = cc
    with_link (Some link) first lines l (Err n) a e = cc
    with_link (Some link) first lines l (Ok actions) a e =
        let f = first_says p first link l in
        let r : IsRead p (record { class = link.class; identity = link.identity; actions = actions }) = record { lines = all_say p 2 lines actions a; class = f.class; identity = f.identity } in
        subst (IsRead p) (same_ok _ s e) r

    of : (lines : List (Option (List ℕ))) → script_in p lines ≡ Ok s → IsRead p s
    of [] e = cc
    of (first ∷ lines) e = with_link (link_at p first) first lines refl (all_from 2 (map (action_at p) lines)) refl e
