-- A service under the policy of a name.
use Rattle.std.proofs.Common.{◌≡◌, ℕ, List, [], refl, sym, ap, ◌∙◌, subst, arith}
use Rattle.std.specs.Prelude.{Result, Ok, Err}
use Rattle.std.specs.declared.option.Option.{Option}
use Rattle.std.specs.declared.option.Option.TheVariants.{None}
use Rattle.lnfs_outside.specs.Nets.{Deal, Back}
use Rattle.lnfs_types.specs.declared.event.Moment.{Moment}
use Rattle.lnfs_policy.specs.Policy.{Policy}
use Rattle.lnfs_gss3.specs.Mechanism.{keyed_digest}
use Rattle.lnfs_stage.specs.declared.stop.Stop.{Stop}
use Rattle.lnfs_stage.specs.Seen.{Seen}
use Rattle.lnfs_stage.specs.Due.{Due}
use Rattle.lnfs_stage.specs.Does.{DoesBy}
use Rattle.lnfs_stage.proofs.Doing.{beside_net, then_by}
use Rattle.lnfs_further.specs.Further.{further}
use Rattle.lnfs_commands.specs.Rules.{IsTaken, RulesIn}
use Rattle.lnfs_commands.proofs.Ruling.{stopped_rules, under_rules, was_ruled}
use Rattle.lnfs_service.specs.Handed.{Dealings, dealings, IsSpelled, IsService}
use Rattle.lnfs_service.specs.Session.{IsSession}
use Rattle.lnfs_service.specs.Serves.{Offers, Serves, served}
use Rattle.lnfs_service.proofs.Dealing.{says, untouched}
use Rattle.lnfs_service.proofs.Handing.{unread_is, served_to}

-- what is said of a policy is said of its text
taken : {policy : Option (List ℕ)} {rules : Policy} → IsTaken policy (λ spelled. spelled ≡ rules) → (Say : Policy → Type 0) → Say rules → IsTaken policy Say
taken {policy} {rules} t Say say = record { text = t.text; rules = rules; is_text = t.is_text; is_rules = t.is_rules ∙ ap Ok t.say; say = say }

module _ (may : Moment → Type 0) (name classes : List ℕ) where
  -- there is no such file, or its text spells no policy, or it couldn't be read
  pub offers_stopped : (stop : Stop) {result : Result (Unit {0}) Stop} {s t : Seen} (n : ℕ) (dealt : Option (List Deal)) (backs : Option (List Back)) → result ≡ Err stop → RulesIn (Err stop) s t name → Offers may name classes result s t n n (dealings dealt dealt backs backs) (λ due. due)
  offers_stopped stop {result} {s} {t} n dealt backs is p = rw is (record {
    policy = p.policy;
    session = None;
    held = p.held;
    does = beside_net n n (stopped_rules stop p.policy name (λ rules. served further keyed_digest rules [] None) refl p.does);
    links = untouched dealt backs (unread_is (IsSpelled p.policy) (IsService may p.policy) classes stop s t p.does.excused);
    later = omega arith;
  })

  pub offers_served : (rules : Policy) {result : Result (Unit {0}) Stop} {r s t : Seen} {n n' : ℕ} {d : Dealings} → RulesIn (Ok rules) r s name → Serves further may keyed_digest rules [] classes result s t n n' d → Offers may name classes result r t n n' d (λ due. due)
  offers_served rules {result} {r} {s} {t} {n} {n'} {d} p q = record {
    policy = p.policy;
    session = q.session;
    held = p.held;
    does = subst (λ (d : Due). DoesBy n n' result r t d) (sym (under_rules name p.policy rules p.taken (λ rules. served further keyed_digest rules [] q.session)))
        (then_by n n' rules [] (served further keyed_digest rules [] q.session) (was_ruled name rules p) q.does);
    links = says (served_to (Unit {0}) (IsSpelled p.policy) (IsSession further may keyed_digest rules []) (IsService may p.policy)
        (taken p.taken (λ rules. Unit {0})) (λ session all deals backs. taken p.taken (λ rules. IsSession further may keyed_digest rules [] session all deals backs)) q.session _ classes) q.links;
    later = q.later;
  }
