-- LOCK behind the tests for its open: locks of others, the limits of the level, and what is answered.
use Rattle.std.proofs.Common.{◌≡◌, ℕ, Bool, true, false, not, ◌&&◌, List, [], Option, Some, None, Result, Ok, Err, refl, sym, ap, ◌∙◌}
use Rattle.std.specs.Prelude.{is_some}
use Rattle.std.specs.Option.{option_map}
use Rattle.lnfs_arguments.specs.declared.statuses.TheConstants.{NFS4ERR_NOSPC}
use Rattle.lnfs_world.specs.World.{Node, World}
use Rattle.lnfs_world.specs.Outcome.{Site, Place, Outcome}
use Rattle.lnfs_operations.specs.declared.Gate.TheVariants.{Quota}
use Rattle.lnfs_operations.specs.declared.Refusal.{Refusal}
use Rattle.lnfs_operations.specs.Chain.{Answer, Done, Refused, refuse, done, demand, where_there}
use Rattle.lnfs_nodes.specs.Trees.{refusal_of}
use Rattle.lnfs_engine.specs.declared.extra.ExtraRan.{ExtraRan}
use Rattle.lnfs_engine.specs.Further.{said_of}
use Rattle.lnfs_locks.specs.Arguments.{LockArgs}
use Rattle.lnfs_locks.specs.Locks.{Lock, Locks}
use Rattle.lnfs_locks.specs.Denial.{Denial, counts_at, is_rival, denial}
use Rattle.lnfs_locks.specs.Ranges.{for_write, last_asked}
use Rattle.lnfs_locks.specs.Effects.{Came, Denied, Holds, locked, gone_by_locking, has_lock_left, has_ranges_left}
use Rattle.lnfs_locks.specs.Lock.{asker, where_free, lock}
use Rattle.lnfs_locking.specs.declared.search.Denied as code
use Rattle.lnfs_locking.specs.Asking.{denial_of}
use Rattle.lnfs_byte_locks.specs.declared.asks.Asks.{Asks}
use Rattle.lnfs_byte_locks.specs.Answers.{said_by, locks_after, tested_by, Ends}
use Rattle.lnfs_byte_locks.specs.Asks.{where_asks, AreAsks}
use Rattle.lnfs_byte_locks.specs.Holders.{lock_held}
use Rattle.lnfs_byte_locks.specs.Taking.{answer_of}

-- ---- what is said where nothing changes

pub ends_refused : (o : Answer Came) (why : Refusal) (own : Locks) (ran : ExtraRan) → o ≡ Refused (refusal_of why) → said_of ran ≡ record { refusal = Some (refusal_of why); bytes = [] } → Ends o ran own own
ends_refused o why own ran is said = record {
  said = said ∙ ap said_by (sym is);
  locks = ap (λ (a : Answer Came). locks_after a own) (sym is);
}

tested_stays : (d : Option code.Denied) (own : Locks) → own ≡ locks_after (tested_by (Ok d)) own
tested_stays None own = refl
tested_stays (Some d) own = refl

pub ends_tested : (o : Answer Came) (d : Option code.Denied) (own : Locks) (ran : ExtraRan) → tested_by (Ok d) ≡ o → said_of ran ≡ said_by (tested_by (Ok d)) → Ends o ran own own
ends_tested o d own ran is said = record {
  said = said ∙ ap said_by is;
  locks = tested_stays d own ∙ ap (λ (a : Answer Came). locks_after a own) is;
}

-- ---- the tests behind that for the open

module _ (site : Site) (args : LockArgs) (own : Locks) (p : Place) (w : World) where
  -- within the limits
  abbrev limited : (client : ℕ) → Node → Lock → Outcome (Answer Came)
  limited client n l =
      demand (has_lock_left w (locked args.asked l) own.locks) (refuse p Quota NFS4ERR_NOSPC) (
      demand (has_ranges_left w (locked args.asked l) own.locks) (refuse p Quota NFS4ERR_NOSPC) (
      done p (Holds (locked args.asked l) (gone_by_locking w p.moment (asker p client l.owner) n.id args.asked own.locks)) []))

  abbrev after : (client : ℕ) → Node → Lock → Outcome (Answer Came)
  after client n l = where_free site own p w n (asker p client l.owner) args.asked (limited client n l)

  pub not_asks : (why : Refusal) → ((next : (client : ℕ) → Node → Lock → Outcome (Answer Came)) → where_asks site args own p w next ≡ refuse p why.gate why.status) →
      (lock site args own p w).answer ≡ Refused (refusal_of why)
  not_asks why leads = ap (λ (o : Outcome (Answer Came)). o.answer) (leads after)

  module _ (x : Asks) (asks : AreAsks site args own p w x) where
    abbrev held : Lock
    held = lock_held own p x.client asks.node x.holder

    abbrev in_way : (owner : List ℕ) → Option Denial
    in_way owner = denial (is_rival site.dom (counts_at w p.moment) (asker p x.client owner)) asks.node.id args.asked.offset (last_asked args.asked) (for_write args.asked) own.locks

    abbrev by_way : Option Denial → Outcome (Answer Came)
    by_way found = where_there found (λ d. done p (Denied d) []) (limited x.client asks.node held)

    to_way : (d : Option code.Denied) → option_map denial_of d ≡ in_way x.holder.owner.now → lock site args own p w ≡ by_way (option_map denial_of d)
    to_way d is = asks.leads after ∙ ap (λ (owner : List ℕ). by_way (in_way owner)) asks.lock_is.owner_is ∙ ap by_way (sym is)

    pub denied : (d : Option code.Denied) → option_map denial_of d ≡ in_way x.holder.owner.now → is_some d ≡ true → tested_by (Ok d) ≡ (lock site args own p w).answer
    denied d is there = at d there ∙ sym (ap (λ (o : Outcome (Answer Came)). o.answer) (to_way d is))
      where
        at : (d : Option code.Denied) → is_some d ≡ true → tested_by (Ok d) ≡ (by_way (option_map denial_of d)).answer
        at None there = absurd (cc)
        at (Some d) there = refl

    free : (d : Option code.Denied) → option_map denial_of d ≡ in_way x.holder.owner.now → is_some d ≡ false → (lock site args own p w).answer ≡ (limited x.client asks.node held).answer
    free d is none = ap (λ (o : Outcome (Answer Came)). o.answer) (to_way d is) ∙ at d none
      where
        at : (d : Option code.Denied) → is_some d ≡ false → (by_way (option_map denial_of d)).answer ≡ (limited x.client asks.node held).answer
        at None none = refl
        at (Some d) none = absurd (cc)

    abbrev with_lock : Outcome (Answer Came)
    with_lock = done p (Holds (locked args.asked held) (gone_by_locking w p.moment (asker p x.client held.owner) asks.node.id args.asked own.locks)) []

    abbrev has_room : Bool
    has_room = has_lock_left w (locked args.asked held) own.locks && has_ranges_left w (locked args.asked held) own.locks

    by_room : (a b : Bool) (o : Outcome (Answer Came)) → (a && b) ≡ false → (demand a (refuse p Quota NFS4ERR_NOSPC) (demand b (refuse p Quota NFS4ERR_NOSPC) o)).answer ≡ Refused (record { gate = Quota; status = NFS4ERR_NOSPC })
    by_room true true o is = absurd (cc)
    by_room true false o is = refl
    by_room false b o is = refl

    with_room : (a b : Bool) (o : Outcome (Answer Came)) → (a && b) ≡ true → (demand a (refuse p Quota NFS4ERR_NOSPC) (demand b (refuse p Quota NFS4ERR_NOSPC) o)).answer ≡ o.answer
    with_room true true o is = refl
    with_room true false o is = absurd (cc)
    with_room false b o is = absurd (cc)

    pub no_room : (d : Option code.Denied) → option_map denial_of d ≡ in_way x.holder.owner.now → is_some d ≡ false → has_room ≡ false →
        (lock site args own p w).answer ≡ Refused (record { gate = Quota; status = NFS4ERR_NOSPC })
    no_room d is none full = free d is none ∙ by_room (has_lock_left w (locked args.asked held) own.locks) (has_ranges_left w (locked args.asked held) own.locks) with_lock full

    pub holds : (d : Option code.Denied) → option_map denial_of d ≡ in_way x.holder.owner.now → is_some d ≡ false → has_room ≡ true →
        (lock site args own p w).answer ≡ answer_of args.asked own p w x.client asks.node held
    holds d is none room = free d is none ∙ with_room (has_lock_left w (locked args.asked held) own.locks) (has_ranges_left w (locked args.asked held) own.locks) with_lock room
