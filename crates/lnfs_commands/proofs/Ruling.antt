-- The file of a policy, and what is due behind it.
use Rattle.std.proofs.Common.{◌≡◌, ℕ, List, [], ◌∷◌, refl, sym, subst}
use Rattle.std.specs.Prelude.{Result, Ok, Err}
use Rattle.std.specs.Global.{Vec}
use Rattle.std.specs.declared.option.Option.{Option}
use Rattle.std.specs.declared.option.Option.TheVariants.{Some, None}
use Rattle.lnfs_policy.specs.Policy.{Policy}
use Rattle.lnfs_policy.specs.PolicyText.{Refused, policy_of, IsRefusal}
use Rattle.lnfs_policy.specs.declared.cause.Cause.{Cause}
use Rattle.lnfs_policy.specs.declared.cause.PolicyError.TheVariants as error
use Rattle.lnfs_stage.specs.declared.ending.Ending.TheVariants.{PolicyRefused}
use Rattle.lnfs_stage.specs.declared.stop.Stop.{Stop}
use Rattle.lnfs_stage.specs.declared.stop.Stop.TheVariants.{Ends, Memory}
use Rattle.lnfs_stage.specs.Seen.{Seen}
use Rattle.lnfs_stage.specs.Due.{Due, written, ends, given}
use Rattle.lnfs_stage.specs.Does.{Does, Holds, ReadsIn}
use Rattle.lnfs_stage.specs.Contents.{Contents, first, others, AllHold, Follows}
use Rattle.lnfs_stage.proofs.Doing.{does_end, does_short, does_first, does_then, as_value, as_stop}
use Rattle.lnfs_stage.proofs.Reading.{stopped, unread, unread_held}
use Rattle.lnfs_commands.specs.Commands.{judged}
use Rattle.lnfs_commands.specs.Rules.{IsTaken, RulesIn}

-- ---- the exits of `rules_of`

module _ (name : List ℕ) {s t : Seen} where
  pub rules_unread : (stop : Stop) {result : Result Policy Stop} → result ≡ Err stop → ReadsIn (Err stop) s t name → RulesIn result s t name
  rules_unread stop is p = rw is (record { policy = p.found; held = p.held; does = stopped stop p.found name (λ text. judged (policy_of text) (λ rules. written [])) refl p.does; taken = tt })

  module _ (bytes : Vec ℕ) (p : ReadsIn (Ok bytes) s t name) where
    text_held : Holds s.content name (Some bytes.items)
    text_held = subst (λ (o : Option (List ℕ)). Holds s.content name o) p.text p.held

    was_read : Does (Ok bytes) s t (written [])
    was_read = rw p.text at p.does

    pub rules_read : (rules : Policy) → policy_of bytes.items ≡ Ok rules → RulesIn (Ok rules) s t name
    rules_read rules good = record {
      policy = Some bytes.items;
      held = text_held;
      does = rw good (as_value bytes rules was_read);
      taken = record { text = bytes.items; rules = rules; is_text = refl; is_rules = good; say = refl };
    }

    pub rules_refused : (line : ℕ) (cause : Cause) → IsRefusal (policy_of bytes.items) (error.Refused line cause) → RulesIn (Err (Ends (PolicyRefused line cause))) s t name
    rules_refused line cause refused = record {
      policy = Some bytes.items;
      held = text_held;
      does = rw refused (does_then bytes (written []) (ends (PolicyRefused line cause)) was_read (does_end (PolicyRefused line cause) t refl));
      taken = tt;
    }

    pub rules_short : {result : Result Policy Stop} → result ≡ Err Memory → RulesIn result s t name
    rules_short is = rw is (let next : Due = judged (policy_of bytes.items) (λ rules. written []) in record {
      policy = Some bytes.items;
      held = text_held;
      does = does_then bytes (written []) next was_read (does_short t next refl);
      taken = tt;
    })

-- ---- what is due behind it

-- where the text spells the policy
pub under_rules : (name : List ℕ) (policy : Option (List ℕ)) (rules : Policy) → IsTaken policy (λ spelled. spelled ≡ rules) → (next : Policy → Due) → given policy name (λ text. judged (policy_of text) next) ≡ next rules
under_rules name policy rules t next = rw (t.is_text, t.is_rules, t.say) refl

stopped_judged : {S T : Type 0} (stop : Stop) {result : Result T Stop} {s t : Seen} (spelled : Result Policy Refused) (next : Policy → Due) → result ≡ Err stop → Does {T = S} (Err stop) s t (judged spelled (λ rules. written [])) → Does result s t (judged spelled next)
stopped_judged stop (Err refused) next is p = as_stop stop is p
stopped_judged stop (Ok rules) next is p = does_first stop (written []) (next rules) p is

-- the call stopped at the policy
pub stopped_rules : {S T : Type 0} (stop : Stop) {result : Result T Stop} {s t : Seen} (policy : Option (List ℕ)) (name : List ℕ) (next : Policy → Due) → result ≡ Err stop → Does {T = S} (Err stop) s t (given policy name (λ text. judged (policy_of text) (λ rules. written []))) → Does result s t (given policy name (λ text. judged (policy_of text) next))
stopped_rules stop None name next is p = as_stop stop is p
stopped_rules stop (Some text) name next is p = stopped_judged stop (policy_of text) next is p

pub was_ruled : (name : List ℕ) (rules : Policy) {s t : Seen} → RulesIn (Ok rules) s t name → Does (Ok rules) s t (written [])
was_ruled name rules {s} {t} p = subst (λ (d : Due). Does (Ok rules) s t d) (under_rules name p.policy rules p.taken (λ rules. written [])) p.does

module _ (name : List ℕ) (names : List (List ℕ)) (next : Policy → Contents → Due) where
  pub rules_stop : {T : Type 0} (stop : Stop) {result : Result T Stop} {s t : Seen} → result ≡ Err stop → RulesIn (Err stop) s t name → Follows result s t (name ∷ names) (λ files. given (first files) name (λ text. judged (policy_of text) (λ rules. next rules (others files))))
  rules_stop stop {result} {s} {t} is p = record {
    contents = p.policy ∷ unread s.content names;
    held = (p.held, unread_held s.content names);
    does = stopped_rules stop p.policy name (λ rules. next rules (unread s.content names)) is p.does;
  }

  pub rules_then : {T : Type 0} {result : Result T Stop} {r s t : Seen} (rules : Policy) → RulesIn (Ok rules) r s name → Follows result s t names (next rules) → Follows result r t (name ∷ names) (λ files. given (first files) name (λ text. judged (policy_of text) (λ rules. next rules (others files))))
  rules_then {T} {result} {r} {s} {t} rules p q = record {
    contents = p.policy ∷ q.contents;
    held = (p.held, subst (λ content. AllHold content names q.contents) p.does.stays.content q.held);
    does = subst (λ (d : Due). Does result r t d) (sym (under_rules name p.policy rules p.taken (λ rules. next rules q.contents))) (does_then rules (written []) (next rules q.contents) (was_ruled name rules p) q.does);
  }
