-- A visit under the policy of a name, by the script of a name.
use Rattle.std.proofs.Common.{◌≡◌, ◌<◌, ℕ, Bool, true, false, List, [], ◌∷◌, length, refl, sym, ap, ◌∙◌, subst, arith}
use Rattle.std.specs.Prelude.{Result, Ok, Err, cond, nat_lt}
use Rattle.std.specs.declared.option.Option.{Option}
use Rattle.std.specs.declared.option.Option.TheVariants.{None}
use Rattle.std.proofs.lemmas.Bool.Decides.{nat_tests}
use Rattle.lnfs_outside.specs.Nets.{Deal, Back}
use Rattle.lnfs_policy.specs.Policy.{Policy}
use Rattle.lnfs_gss3.specs.Mechanism.{keyed_digest}
use Rattle.lnfs_script.specs.Script.{script_of}
use Rattle.lnfs_script.specs.declared.script.Script.{Script}
use Rattle.lnfs_stage.specs.declared.ending.Ending.TheVariants.{Usage}
use Rattle.lnfs_stage.specs.declared.stop.Stop.{Stop}
use Rattle.lnfs_stage.specs.declared.stop.Stop.TheVariants.{Ends}
use Rattle.lnfs_stage.specs.Seen.{Seen}
use Rattle.lnfs_stage.specs.Due.{Due, written, ends, given}
use Rattle.lnfs_stage.specs.Does.{Does, DoesBy, Holds}
use Rattle.lnfs_stage.specs.Contents.{Contents, first, others}
use Rattle.lnfs_stage.proofs.Doing.{beside_net, does_end, does_then, then_by}
use Rattle.lnfs_stage.proofs.Reading.{unread, unread_held}
use Rattle.lnfs_commands.specs.Rules.{IsTaken, RulesIn}
use Rattle.lnfs_commands.proofs.Ruling.{stopped_rules, under_rules, was_ruled}
use Rattle.lnfs_service.specs.Handed.{Dealings, dealings}
use Rattle.lnfs_service.proofs.Dealing.{says, untouched}
use Rattle.lnfs_dialling.specs.Visits.{Dials, IsSpoken, IsVisit, IsVisited, IsVisitBy, MayVisit, ScriptIn, Visits, at_level, scripted, spoken, visit_due}
use Rattle.lnfs_dialling.proofs.Scripts.{stopped_script, under_script, was_scripted}
use Rattle.lnfs_dialling.proofs.Visiting.{unasked, visited_to}

module _ (policy : List ℕ) (level : ℕ) (script : List ℕ) where
  -- what is due behind the policy
  abbrev behind : Contents → Option (List (List ℕ)) → Policy → Due
  behind files records p = at_level p level (given (first files) script (λ lines. scripted (script_of p lines) (λ s. spoken keyed_digest p level s records)))

  levelled : (b : Bool) (due : Due) → b ≡ true → cond b due (ends Usage) ≡ due
  levelled true due is = refl
  levelled false due is = let h : ⊥ = cc in absurd h

  unlevelled : (b : Bool) (due : Due) → b ≡ false → cond b due (ends Usage) ≡ ends Usage
  unlevelled true due is = let h : ⊥ = cc in absurd h
  unlevelled false due is = refl

  module _ {n : ℕ} (dealt : Option (List Deal)) (backs : Option (List Back)) where
    -- there is no such policy, or it couldn't be read
    pub visits_unruled : (stop : Stop) {result : Result (Unit {0}) Stop} {s t : Seen} → result ≡ Err stop → RulesIn (Err stop) s t policy → Visits policy level script result s t n n (dealings dealt dealt backs backs) (λ due. due)
    visits_unruled stop {result} {s} {t} is q = rw is (record {
      contents = q.policy ∷ unread s.content (script ∷ []);
      records = None;
      held = (q.held, unread_held s.content (script ∷ []));
      does = beside_net n n (stopped_rules stop q.policy policy (behind (unread s.content (script ∷ [])) None) refl q.does);
      links = untouched dealt backs (unasked (MayVisit (q.policy ∷ unread s.content (script ∷ [])) level) (IsVisit (q.policy ∷ unread s.content (script ∷ [])) level) stop s t q.does.excused);
      later = omega arith;
    })

    -- it has no such level
    pub visits_unlevelled : (p : Policy) {result : Result (Unit {0}) Stop} {s t : Seen} → result ≡ Err (Ends Usage) → nat_lt level (length p.labels) ≡ false → RulesIn (Ok p) s t policy → Visits policy level script result s t n n (dealings dealt dealt backs backs) (λ due. due)
    visits_unlevelled p {result} {s} {t} is lacks q =
        let files : Contents = unread s.content (script ∷ []) in
        let due_is : visit_due policy level script (q.policy ∷ files) None ≡ ends Usage = under_rules policy q.policy p q.taken (behind files None) ∙ unlevelled (nat_lt level (length p.labels)) _ lacks in
        rw is (record {
          contents = q.policy ∷ files;
          records = None;
          held = (q.held, unread_held s.content (script ∷ []));
          does = beside_net n n (subst (λ (d : Due). Does {T = Unit {0}} (Err (Ends Usage)) s t d) (sym due_is) (does_then p (written []) (ends Usage) (was_ruled policy p q) (does_end Usage t refl)));
          links = untouched dealt backs (record { dealt = refl; handed = refl });
          later = omega arith;
        })

    -- there is no such script, or it is refused, or it couldn't be read
    pub visits_unscripted : (p : Policy) (stop : Stop) {result : Result (Unit {0}) Stop} {r s t : Seen} → result ≡ Err stop → nat_lt level (length p.labels) ≡ true → RulesIn (Ok p) r s policy → ScriptIn p (Err stop) s t script → Visits policy level script result r t n n (dealings dealt dealt backs backs) (λ due. due)
    visits_unscripted p stop {result} {r} {s} {t} is holds q u =
        let files : Contents = u.script ∷ [] in
        let due_is : visit_due policy level script (q.policy ∷ files) None ≡ given u.script script (λ lines. scripted (script_of p lines) (λ s. spoken keyed_digest p level s None)) = under_rules policy q.policy p q.taken (behind files None) ∙ levelled (nat_lt level (length p.labels)) _ holds in
        rw is (record {
          contents = q.policy ∷ files;
          records = None;
          held = (q.held, (subst (λ content. Holds content script u.script) q.does.stays.content u.held, tt));
          does = beside_net n n (subst (λ (d : Due). Does {T = Unit {0}} (Err stop) r t d) (sym due_is)
              (does_then p (written []) _ (was_ruled policy p q) (stopped_script stop p u.script script (λ s. spoken keyed_digest p level s None) refl u.does)));
          links = untouched dealt backs (unasked (MayVisit (q.policy ∷ files) level) (IsVisit (q.policy ∷ files) level) stop s t u.does.excused);
          later = omega arith;
        })

  taken : {file : Option (List ℕ)} {p : Policy} → IsTaken file (λ spelled. spelled ≡ p) → (Say : Policy → Type 0) → Say p → IsTaken file Say
  taken {file} {p} t Say say = record { text = t.text; rules = p; is_text = t.is_text; is_rules = t.is_rules ∙ ap Ok t.say; say = say }

  said : {p : Policy} {file : Option (List ℕ)} {s : Script} → IsSpoken p file (λ spelled. spelled ≡ s) → (Say : Script → Type 0) → Say s → IsSpoken p file Say
  said {p} {file} {s} t Say say = record { text = t.text; spelled = s; is_text = t.is_text; is_script = t.is_script ∙ ap Ok t.say; say = say }

  visit_by : (p : Policy) (s : Script) (files : Contents) → IsTaken (first files) (λ spelled. spelled ≡ p) → level < length p.labels → IsSpoken p (first (others files)) (λ spelled. spelled ≡ s) → (Say : Policy → Script → Type 0) → Say p s → IsVisitBy files level Say
  visit_by p s files t has u Say say = taken t (λ q. (level < length q.labels) × IsSpoken q (first (others files)) (Say q)) (has, said u (Say p) say)

  -- the script was talked through, or its link couldn't be dialled
  pub visits_dialled : (p : Policy) (s : Script) {result : Result (Unit {0}) Stop} {r a b t : Seen} {n n' : ℕ} {d : Dealings} → nat_lt level (length p.labels) ≡ true → RulesIn (Ok p) r a policy → ScriptIn p (Ok s) a b script → Dials keyed_digest p level s result b t n n' d → Visits policy level script result r t n n' d (λ due. due)
  visits_dialled p s {result} {r} {a} {b} {t} {n} {n'} {d} holds q u x =
      let files : Contents = u.script ∷ [] in
      let has : level < length p.labels = grind (arith, nat_tests, holds) in
      let is_due : visit_due policy level script (q.policy ∷ files) x.records ≡ spoken keyed_digest p level s x.records =
      under_rules policy q.policy p q.taken (behind files x.records) ∙ levelled (nat_lt level (length p.labels)) _ holds ∙ under_script p script u.script s u.taken (λ s. spoken keyed_digest p level s x.records) in
      let was_read : Does (Ok s) r b (written []) = does_then p (written []) (written []) (was_ruled policy p q) (was_scripted p script s u) in
      record {
        contents = q.policy ∷ files;
        records = x.records;
        held = (q.held, (subst (λ content. Holds content script u.script) q.does.stays.content u.held, tt));
        does = subst (λ (due : Due). DoesBy n n' result r t due) (sym is_due) (then_by n n' s [] (spoken keyed_digest p level s x.records) was_read x.does);
        links = says (λ deals backs v. visited_to (MayVisit (q.policy ∷ files) level) (IsVisited keyed_digest p level s) (IsVisit (q.policy ∷ files) level)
            (visit_by p s (q.policy ∷ files) q.taken has u.taken (λ p s. Unit {0}) tt)
            (λ ending records deal back say. visit_by p s (q.policy ∷ files) q.taken has u.taken (λ p s. IsVisited keyed_digest p level s ending records deal back) say) x.records _ deals backs v) x.links;
        later = x.later;
      }
