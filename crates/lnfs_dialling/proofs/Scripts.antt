-- The file of a script, and what is due behind it.
use Rattle.std.proofs.Common.{◌≡◌, ℕ, List, [], refl, ap, ◌∙◌, subst}
use Rattle.std.specs.Prelude.{Result, Ok, Err}
use Rattle.std.specs.Global.{Vec}
use Rattle.std.specs.declared.option.Option.{Option}
use Rattle.std.specs.declared.option.Option.TheVariants.{Some, None}
use Rattle.lnfs_policy.specs.Policy.{Policy}
use Rattle.lnfs_script.specs.Script.{script_of}
use Rattle.lnfs_script.specs.declared.script.Script.{Script}
use Rattle.lnfs_stage.specs.declared.ending.Ending.TheVariants.{ScriptRefused}
use Rattle.lnfs_stage.specs.declared.stop.Stop.{Stop}
use Rattle.lnfs_stage.specs.declared.stop.Stop.TheVariants.{Ends, Memory}
use Rattle.lnfs_stage.specs.Seen.{Seen}
use Rattle.lnfs_stage.specs.Due.{Due, written, ends, given}
use Rattle.lnfs_stage.specs.Does.{Does, Holds, ReadsIn}
use Rattle.lnfs_stage.proofs.Doing.{does_end, does_short, does_first, does_then, as_value, as_stop}
use Rattle.lnfs_stage.proofs.Reading.{stopped}
use Rattle.lnfs_dialling.specs.Visits.{IsSpoken, ScriptIn, scripted}

-- ---- the exits of `script_of`

module _ (p : Policy) (name : List ℕ) {s t : Seen} where
  pub script_unread : (stop : Stop) {result : Result Script Stop} → result ≡ Err stop → ReadsIn (Err stop) s t name → ScriptIn p result s t name
  script_unread stop is q = rw is (record { script = q.found; held = q.held; does = stopped stop q.found name (λ text. scripted (script_of p text) (λ s. written [])) refl q.does; taken = tt })

  module _ (bytes : Vec ℕ) (q : ReadsIn (Ok bytes) s t name) where
    text_held : Holds s.content name (Some bytes.items)
    text_held = subst (λ (o : Option (List ℕ)). Holds s.content name o) q.text q.held

    was_read : Does (Ok bytes) s t (written [])
    was_read = rw q.text at q.does

    pub script_read : (script : Script) → script_of p bytes.items ≡ Ok script → ScriptIn p (Ok script) s t name
    script_read script good = record {
      script = Some bytes.items;
      held = text_held;
      does = rw good (as_value bytes script was_read);
      taken = record { text = bytes.items; spelled = script; is_text = refl; is_script = good; say = refl };
    }

    pub script_refused : (line : ℕ) → script_of p bytes.items ≡ Err line → ScriptIn p (Err (Ends (ScriptRefused line))) s t name
    script_refused line refused = record {
      script = Some bytes.items;
      held = text_held;
      does = rw refused (does_then bytes (written []) (ends (ScriptRefused line)) was_read (does_end (ScriptRefused line) t refl));
      taken = tt;
    }

    pub script_short : {result : Result Script Stop} → result ≡ Err Memory → ScriptIn p result s t name
    script_short is = rw is (let next : Due = scripted (script_of p bytes.items) (λ s. written []) in record {
      script = Some bytes.items;
      held = text_held;
      does = does_then bytes (written []) next was_read (does_short t next refl);
      taken = tt;
    })

-- the text that spells it
pub spelled_by : (p : Policy) {file : Option (List ℕ)} {script : Script} → IsSpoken p file (λ spelled. spelled ≡ script) → (text : List ℕ) × (script_of p text ≡ Ok script)
spelled_by p t = (t.text, t.is_script ∙ ap Ok t.say)

-- ---- what is due behind it

pub under_script : (p : Policy) (name : List ℕ) (file : Option (List ℕ)) (script : Script) → IsSpoken p file (λ spelled. spelled ≡ script) → (next : Script → Due) → given file name (λ text. scripted (script_of p text) next) ≡ next script
under_script p name file script t next = rw (t.is_text, t.is_script, t.say) refl

stopped_scripted : {S T : Type 0} (stop : Stop) {result : Result T Stop} {s t : Seen} (spelled : Result Script ℕ) (next : Script → Due) → result ≡ Err stop → Does {T = S} (Err stop) s t (scripted spelled (λ s. written [])) → Does result s t (scripted spelled next)
stopped_scripted stop (Err line) next is q = as_stop stop is q
stopped_scripted stop (Ok script) next is q = does_first stop (written []) (next script) q is

-- the call stopped at the script
pub stopped_script : {S T : Type 0} (stop : Stop) {result : Result T Stop} {s t : Seen} (p : Policy) (file : Option (List ℕ)) (name : List ℕ) (next : Script → Due) → result ≡ Err stop → Does {T = S} (Err stop) s t (given file name (λ text. scripted (script_of p text) (λ s. written []))) → Does result s t (given file name (λ text. scripted (script_of p text) next))
stopped_script stop p None name next is q = as_stop stop is q
stopped_script stop p (Some text) name next is q = stopped_scripted stop (script_of p text) next is q

pub was_scripted : (p : Policy) (name : List ℕ) (script : Script) {s t : Seen} → ScriptIn p (Ok script) s t name → Does (Ok script) s t (written [])
was_scripted p name script {s} {t} q = subst (λ (d : Due). Does (Ok script) s t d) (under_script p name q.script script q.taken (λ s. written [])) q.does
