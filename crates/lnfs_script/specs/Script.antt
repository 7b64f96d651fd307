-- The script that a text spells. Its first line tells the link and who asks, and each other line an action. Any other text
-- is refused with the number of the first line that has none of these forms, counted from 1.
use Rattle.std.specs.Prelude.{◌≡◌, ◌+◌, ℕ, List, [], ◌∷◌, map, Option, Some, None, Result, Ok, Err}
use Rattle.lnfs_policy.specs.Policy.{Policy}
use Rattle.lnfs_script.specs.Lines.{lines_of}
use Rattle.lnfs_script.specs.Forms.{link_at, action_at}
use Rattle.lnfs_script.specs.declared.action.Action.{Action}
use Rattle.lnfs_script.specs.declared.forms.Link.{Link}
use Rattle.lnfs_script.specs.declared.script.Script.{Script}
use Rattle.lnfs_script.specs.declared.error.ScriptError.{ScriptError}
use Rattle.lnfs_script.specs.declared.error.ScriptError.TheVariants as error
use Rattle.lnfs_script.specs.declared.error.Stop.{Stop}
use Rattle.lnfs_script.specs.declared.error.Stop.TheVariants as stop

abbrev pub behind : {A : Type 0} → A → Result (List A) ℕ → Result (List A) ℕ
behind a (Ok others) = Ok (a ∷ others)
behind a (Err line) = Err line

-- what each of some lines says, or the number of the first that says nothing
abbrev pub all_from : {A : Type 0} → (number : ℕ) → List (Option A) → Result (List A) ℕ
all_from number [] = Ok []
all_from number (None ∷ lines) = Err number
all_from number (Some said ∷ lines) = behind said (all_from (number + 1) lines)

abbrev pub script_with : Option Link → Result (List Action) ℕ → Result Script ℕ
script_with None actions = Err 1
script_with (Some link) (Err line) = Err line
script_with (Some link) (Ok actions) = Ok (record { class = link.class; identity = link.identity; actions = actions })

-- a text without any line has no first line
abbrev pub script_in : Policy → List (Option (List ℕ)) → Result Script ℕ
script_in p [] = Err 1
script_in p (first ∷ others) = script_with (link_at p first) (all_from 2 (map (action_at p) others))

unfoldable pub script_of : Policy → (text : List ℕ) → Result Script ℕ
script_of p text = script_in p (lines_of text)

-- ---- why there is no script

-- an error that isn't want of memory is that of the text
abbrev pub IsRefusal : Result Script ℕ → ScriptError → Type 0
IsRefusal spelled (error.Refused line) = spelled ≡ Err line
IsRefusal spelled error.Memory = Unit {0}

-- a line says nothing, or memory is short
abbrev pub IsStop : {A : Type 0} → Option A → Stop → Type 0
IsStop said stop.Unlisted = said ≡ None
IsStop said stop.Memory = Unit {0}

abbrev pub error_at : (line : ℕ) → Stop → ScriptError
error_at line stop.Unlisted = error.Refused line
error_at line stop.Memory = error.Memory
