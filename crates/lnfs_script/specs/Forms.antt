-- What a line of a script says: one definition for each form, of the words behind the first.
use Rattle.std.specs.Prelude.{ℕ, ◌*◌, Bool, if◌then◌else◌, nat_le, List, [], ◌∷◌, length, Option, Some, None, is_some, codes}
use Rattle.std.specs.Option.{option_and_then}
use Rattle.std.specs.Str.{bytes_eq}
use Rattle.lnfs_calipso.specs.declared.Level.{Level}
use Rattle.lnfs_words.specs.Words.{words, one_of, two_of, three_of, four_of}
use Rattle.lnfs_words.specs.Numbers.{number, number_up_to}
use Rattle.lnfs_words.specs.Hex.{hex_of}
use Rattle.lnfs_words.specs.Paths.{is_path}
use Rattle.lnfs_policy.specs.Policy.{Policy, parent_at}
use Rattle.lnfs_policy.specs.Fits.{is_known}
use Rattle.lnfs_policy.specs.declared.fits.TheConstants.{MAX_CLASS}
use Rattle.lnfs_script.specs.Paths.{is_root_or_path}
use Rattle.lnfs_script.specs.declared.action.Action.{Action}
use Rattle.lnfs_script.specs.declared.action.Action.TheVariants as action
use Rattle.lnfs_script.specs.declared.identity.Identity.{Identity}
use Rattle.lnfs_script.specs.declared.identity.Identity.TheVariants as identity
use Rattle.lnfs_script.specs.declared.forms.Link.{Link}
use Rattle.lnfs_script.specs.declared.limits.TheConstants.{MAX_OFFSET, MAX_COUNT, MAX_CONTENT}

-- ---- steps, each of which may have no value

infixl 10 ◌>>=◌
abbrev pub ◌>>=◌ : {A B : Type 0} → Option A → (A → Option B) → Option B
a >>= next = option_and_then next a

-- a value that passes a test
abbrev pub only_if : {A : Type 0} → Bool → A → Option A
only_if test a = if test then Some a else None

-- ---- what a word spells

-- the path of a directory or a file
abbrev pub path_in : List ℕ → Option (List ℕ)
path_in word = only_if (is_root_or_path word) word

-- of one that has a name, as the root has not
abbrev pub named_path_in : List ℕ → Option (List ℕ)
named_path_in word = only_if (is_path word) word

abbrev pub offset_in : List ℕ → Option ℕ
offset_in word = number_up_to MAX_OFFSET word

abbrev pub count_in : List ℕ → Option ℕ
count_in word = number_up_to MAX_COUNT word

-- bytes in hex of either case, two digits each; none are spelled by no digits
abbrev pub content_in : List ℕ → Option (List ℕ)
content_in word = if nat_le (length word) (2 * MAX_CONTENT) then hex_of word else None

-- a level of the policy
abbrev pub level_in : Policy → List ℕ → Option Level
level_in p word = number word >>= (λ n. only_if (is_known p.labels n) (record { 0 = n }))

-- a parent of the policy
abbrev pub parent_in : Policy → List ℕ → Option ℕ
parent_in p word = number word >>= (λ n. only_if (is_some (parent_at p n)) n)

-- ---- the first line

-- `guest UID` or `full PARENT`
abbrev pub identity_in : Policy → (kind number : List ℕ) → Option Identity
identity_in p kind word =
    if bytes_eq kind (codes "guest") then (number word >>= (λ uid. Some (identity.Guest uid)))
    else (if bytes_eq kind (codes "full") then (parent_in p word >>= (λ parent. Some (identity.Full parent))) else None)

-- `link CLASS guest UID` or `link CLASS full PARENT`
abbrev pub says_link : Policy → List (List ℕ) → Option Link
says_link p words = four_of words >>= (λ w. do
  _ ← only_if (bytes_eq w.0 (codes "link")) w.0
  class ← number_up_to MAX_CLASS w.1
  identity ← identity_in p w.2 w.3
  Some (record { class = class; identity = identity }))

-- ---- the other lines

-- `list PATH`
abbrev pub says_list : List (List ℕ) → Option Action
says_list words = one_of words >>= (λ path. do
  path ← path_in path
  Some (action.List path))

-- `read PATH OFFSET COUNT`
abbrev pub says_read : List (List ℕ) → Option Action
says_read words = three_of words >>= (λ w. do
  path ← path_in w.0
  offset ← offset_in w.1
  count ← count_in w.2
  Some (action.Read path offset count))

-- `write PATH OFFSET HEX`
abbrev pub says_write : List (List ℕ) → Option Action
says_write words = three_of words >>= (λ w. do
  path ← path_in w.0
  offset ← offset_in w.1
  content ← content_in w.2
  Some (action.Write path offset content))

-- `make PATH`
abbrev pub says_make : List (List ℕ) → Option Action
says_make words = one_of words >>= (λ path. do
  path ← named_path_in path
  Some (action.Make path))

-- `mkdir PATH LEVEL`
abbrev pub says_mkdir : Policy → List (List ℕ) → Option Action
says_mkdir p words = two_of words >>= (λ w. do
  path ← named_path_in w.0
  level ← level_in p w.1
  Some (action.Mkdir path level))

-- `remove PATH`
abbrev pub says_remove : List (List ℕ) → Option Action
says_remove words = one_of words >>= (λ path. do
  path ← named_path_in path
  Some (action.Remove path))

-- `raise PATH LEVEL`
abbrev pub says_raise : Policy → List (List ℕ) → Option Action
says_raise p words = two_of words >>= (λ w. do
  path ← named_path_in w.0
  level ← level_in p w.1
  Some (action.Raise path level))

unfoldable pub action_of : Policy → List (List ℕ) → Option Action
action_of p [] = None
action_of p (name ∷ others) =
    if bytes_eq name (codes "list") then says_list others
    else (if bytes_eq name (codes "read") then says_read others
    else (if bytes_eq name (codes "write") then says_write others
    else (if bytes_eq name (codes "make") then says_make others
    else (if bytes_eq name (codes "mkdir") then says_mkdir p others
    else (if bytes_eq name (codes "remove") then says_remove others
    else (if bytes_eq name (codes "raise") then says_raise p others
    else None))))))

-- ---- a line of the text, where there is one

abbrev pub link_at : Policy → Option (List ℕ) → Option Link
link_at p line = line >>= (λ text. says_link p (words text))

abbrev pub action_at : Policy → Option (List ℕ) → Option Action
action_at p line = line >>= (λ text. action_of p (words text))
