-- LOCKT's tests, one after the other, by what the code finds.
use Rattle.std.proofs.Common.{◌≡◌, ◌∙◌, ℕ, refl, sym, ap, [], Option, Some, None, Result, Ok, Err}
use Rattle.std.specs.Prelude.{IsErrAnd}
use Rattle.std.specs.Option.{option_map}
use Rattle.lnfs_arguments.specs.declared.statuses.TheConstants.{NFS4ERR_OP_NOT_IN_SESSION}
use Rattle.lnfs_world.specs.World.{Node, World}
use Rattle.lnfs_world.specs.Outcome.{Site, Place, Outcome}
use Rattle.lnfs_monitor.specs.Rules.{Read}
use Rattle.lnfs_operations.specs.declared.Gate.TheVariants.{Session}
use Rattle.lnfs_operations.specs.declared.Refusal.{Refusal}
use Rattle.lnfs_operations.specs.Chain.{Answer, Refused, refuse, done, where_there}
use Rattle.lnfs_operations.specs.Judged.{where_allowed}
use Rattle.lnfs_nodes.specs.Trees.{refusal_of, denial as label_denial}
use Rattle.lnfs_nodes.specs.declared.held.Held.{Held}
use Rattle.lnfs_nodes.proofs.Refusing.{denied}
use Rattle.lnfs_nodes.proofs.Tests.{allowed}
use Rattle.lnfs_locks.specs.Arguments.{LockTArgs}
use Rattle.lnfs_locks.specs.Locks.{Locks}
use Rattle.lnfs_locks.specs.Denial.{Denial, counts_at, is_rival, denial}
use Rattle.lnfs_locks.specs.Ranges.{for_write, last_asked}
use Rattle.lnfs_locks.specs.Effects.{Came, Denied, Free}
use Rattle.lnfs_locks.specs.Lock.{asker, where_free}
use Rattle.lnfs_locks.specs.LockT.{lockt}
use Rattle.lnfs_locking.specs.declared.search.Denied as code
use Rattle.lnfs_locking.specs.Asking.{denial_of}
use Rattle.lnfs_byte_locks.specs.Answers.{tested_by}
use Rattle.lnfs_byte_locks.specs.Files.{where_asked_file, IsFileOf}

-- a refusal that `?` hands on
pub err_tested : (p : Place) (r : Result (Option code.Denied) Refusal) (why : Refusal) → IsErrAnd r (λ e. e ≡ why) → (o : Outcome (Answer Came)) → o ≡ refuse p why.gate why.status → tested_by r ≡ o.answer
err_tested p (Ok d) why is o e = absurd is
err_tested p (Err x) why is o e = ap (λ (y : Refusal). Refused (refusal_of y)) is ∙ sym (ap (λ (z : Outcome (Answer Came)). z.answer) e)

module _ (site : Site) (args : LockTArgs) (own : Locks) (p : Place) (w : World) where
  abbrev free : ℕ → Node → Outcome (Answer Came)
  free client n = where_free site own p w n (asker p client args.owner) args.asked (done p Free [])

  abbrev pub behind : ℕ → Node → Outcome (Answer Came)
  behind client n = where_allowed site p (Read n.label) (free client n)

  abbrev under : Option ℕ → Outcome (Answer Came)
  under client = where_there client (λ number. where_asked_file p w args.asked (behind number)) (refuse p Session NFS4ERR_OP_NOT_IN_SESSION)

  pub outside : p.client ≡ None → lockt site args own p w ≡ refuse p Session NFS4ERR_OP_NOT_IN_SESSION
  outside e = ap under e

  pub inside : (client : ℕ) → p.client ≡ Some client → lockt site args own p w ≡ where_asked_file p w args.asked (behind client)
  inside client e = ap under e

  module _ (client : ℕ) (of : p.client ≡ Some client) (h : Held) (file : IsFileOf p w args.asked h) where
    to_file : lockt site args own p w ≡ behind client file.node
    to_file = inside client of ∙ file.leads (behind client)

    pub unread : (why : Refusal) → Some (refusal_of why) ≡ label_denial site p.subject (Read h.facts.label.0) → lockt site args own p w ≡ refuse p why.gate why.status
    unread why e = to_file ∙ denied site p (Read file.node.label) (free client file.node) why (e ∙ ap (λ (l : ℕ). label_denial site p.subject (Read l)) file.holds.tells.label)

    to_free : None ≡ label_denial site p.subject (Read h.facts.label.0) → lockt site args own p w ≡ free client file.node
    to_free e = to_file ∙ allowed site p (Read file.node.label) (free client file.node) (e ∙ ap (λ (l : ℕ). label_denial site p.subject (Read l)) file.holds.tells.label)

    pub tested : None ≡ label_denial site p.subject (Read h.facts.label.0) → (d : Option code.Denied)
        → option_map denial_of d ≡ denial (is_rival site.dom (counts_at w p.moment) (asker p client args.owner)) file.node.id args.asked.offset (last_asked args.asked) (for_write args.asked) own.locks
        → tested_by (Ok d) ≡ (lockt site args own p w).answer
    tested e d is = at d ∙ ap answer is ∙ sym (ap (λ (o : Outcome (Answer Came)). o.answer) (to_free e))
      where
        answer : Option Denial → Answer Came
        answer o = (where_there o (λ d. done p (Denied d) []) (done p Free [])).answer

        at : (d : Option code.Denied) → tested_by (Ok d) ≡ answer (option_map denial_of d)
        at None = refl
        at (Some d) = refl
