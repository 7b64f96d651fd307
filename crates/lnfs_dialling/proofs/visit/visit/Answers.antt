use Rattle.std.proofs.Common.{◌≡◌, length, true, false, nat_lt, rules, refl, arith}
use Rattle.std.proofs.lemmas.Bool.Decides.{nat_tests}
use Rattle.lnfs_dialling.proofs.Ruled.{visits_unruled, visits_unlevelled, visits_unscripted, visits_dialled}
use Rattle.lnfs_dialling.proofs.Scripts.{spelled_by}
use Rattle.lnfs_dialling.proofs.Visiting.{idle_same}
use Rattle.lnfs_dialling.proofs.visit.visit.Goals as goal

pub returns-in_err-policy-clause-visits : goal.returns-in_err-policy-clause-visits
returns-in_err-policy-clause-visits g c = visits_unruled _ _ _ _ _ _ (search rules) c.in_err-policy.ensures

pub returns-in_err-policy-clause-idle : goal.returns-in_err-policy-clause-idle
returns-in_err-policy-clause-idle g c = idle_same _ _

pub returns-then-not-holds-clause-visits : goal.returns-then-not-holds-clause-visits
returns-then-not-holds-clause-visits g c =
    let lacks : nat_lt c.args.visit.now.level (length c.in_ok-policy.policy.labels) ≡ false = search rules in
    visits_unlevelled _ _ _ _ _ _ refl lacks c.in_ok-policy.ensures

pub returns-in_err-script-clause-visits : goal.returns-in_err-script-clause-visits
returns-in_err-script-clause-visits g c =
    let holds : nat_lt c.args.visit.now.level (length c.in_ok-policy.policy.labels) ≡ true = search rules in
    visits_unscripted _ _ _ _ _ _ _ (search rules) holds c.in_ok-policy.ensures c.in_err-script.ensures

pub dial-requires : goal.dial-requires
dial-requires g c =
    let holds : nat_lt c.args.visit.now.level (length c.in_ok-policy.policy.labels) ≡ true = search rules in
    let law = c.scripts.ensures in
    let p = c.in_ok-policy.policy in
    let s = c.in_ok-script.script in
    let spelled = spelled_by p c.in_ok-script.ensures.taken in
    record {
      level_is = grind (arith, nat_tests, holds);
      identity = law.identity p spelled.0 s spelled.1;
      fits = law.fits p spelled.0 s spelled.1;
      suits = law.suits p spelled.0 s spelled.1;
    }

pub returns-clause-visits : goal.returns-clause-visits
returns-clause-visits g c =
    let holds : nat_lt c.args.visit.now.level (length c.in_ok-policy.policy.labels) ≡ true = search rules in
    visits_dialled _ _ _ _ _ holds c.in_ok-policy.ensures c.in_ok-script.ensures c.dial.ensures.dials
