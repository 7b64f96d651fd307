-- LOCKU's tests and its effect, by what the code finds and does.
use Rattle.std.proofs.Common.{◌≡◌, ◌≤◌, ◌∙◌, ℕ, refl, sym, ap, Bool, true, false, not, ◌&&◌, [], None, Result, Ok, Err, length, arith}
use Rattle.std.specs.Prelude.{◌==◌, IsErrAnd, filter, is_some, nat_le}
use Rattle.std.specs.List.{AllByRecursion}
use Rattle.std.specs.Option.{option_map}
use Rattle.std.proofs.lemmas.Bool.Decides.{nat_tests}
use Rattle.lnfs_arguments.specs.SharedTexts.{state_id_text}
use Rattle.lnfs_arguments.specs.declared.statuses.TheConstants.{NFS4ERR_NOSPC}
use Rattle.lnfs_world.specs.declared.numbers.TheConstants.{LAST_NUMBER}
use Rattle.lnfs_world.specs.Opens.{sequence_after}
use Rattle.lnfs_world.specs.World.{Node, Open, World, is_given}
use Rattle.lnfs_world.specs.Outcome.{Place, Outcome}
use Rattle.lnfs_world.proofs.Rows.{all_find}
use Rattle.lnfs_operations.specs.declared.Gate.TheVariants.{Quota}
use Rattle.lnfs_operations.specs.declared.Refusal.{Refusal}
use Rattle.lnfs_operations.specs.Chain.{Answer, Done, Refused, refuse, done, demand}
use Rattle.lnfs_tree.specs.Rows.{id_of}
use Rattle.lnfs_nodes.specs.Trees.{refusal_of}
use Rattle.lnfs_nodes.specs.declared.held.Held.{Held}
use Rattle.lnfs_open.specs.Lists.{Lists, lists_of}
use Rattle.lnfs_ranges.specs.Modes.{set}
use Rattle.lnfs_locks.specs.declared.numbers.TheConstants.{LOCKS_OF_A_LEVEL}
use Rattle.lnfs_locks.specs.Arguments.{LockUArgs}
use Rattle.lnfs_locks.specs.Locks.{Lock, Locks}
use Rattle.lnfs_locks.specs.StateIds.{state_of, where_lock}
use Rattle.lnfs_locks.specs.Ranges.{last_asked}
use Rattle.lnfs_locks.specs.Effects.{Came, Holds, unlocked, gone_by_unlocking, has_lock_left, has_ranges_left, kept_with, live_with}
use Rattle.lnfs_locks.specs.Facts.{IsUnder, LockFacts}
use Rattle.lnfs_locks.specs.LockU.{locku}
use Rattle.lnfs_locks.proofs.LockBefore.{live_few}
use Rattle.lnfs_locking.specs.Keys as keys
use Rattle.lnfs_locking.specs.Rows.{lock_at, with_ranges}
use Rattle.lnfs_engine.specs.declared.extra.ExtraRan.{ExtraRan}
use Rattle.lnfs_byte_locks.specs.Standing.{is_found}
use Rattle.lnfs_byte_locks.specs.Answers.{said_by, locks_after, Ends}
use Rattle.lnfs_byte_locks.specs.Files.{where_asked_file, IsFileOf}
use Rattle.lnfs_byte_locks.specs.Naming.{lock_in, open_in, Names}
use Rattle.lnfs_byte_locks.specs.Unlocking.{where_asked_lock, IsAsked, FindsAsked, IsUnlocked}
use Rattle.lnfs_byte_locks.specs.declared.naming.Named.{Named}
use Rattle.lnfs_byte_locks.specs.declared.locku.Unlocked.{Unlocked}
use Rattle.lnfs_byte_locks.proofs.LiveLocks.{found_is_live, dead_gone}

module _ (args : LockUArgs) (own : Locks) (p : Place) (w : World) where
  -- a refusal that `?` hands on
  pub err_asked : (r : Result Named Refusal) (why : Refusal) → IsErrAnd r (λ e. e ≡ why)
      → ((next : Node → Outcome (Answer Came)) → where_asked_file p w args.asked next ≡ refuse p why.gate why.status) → FindsAsked args own p w r
  err_asked (Ok x) why is leads = absurd is
  err_asked (Err e) why is leads = λ next. leads (λ n. where_lock own p w n args.lock next) ∙ ap (λ (x : Refusal). refuse p x.gate x.status) (sym is)

  -- the lock of a file
  pub asked_names : (h : Held) (file : IsFileOf p w args.asked h) (r : Result Named Refusal) → Names own p w file.node args.lock r → FindsAsked args own p w r
  asked_names h file (Ok x) is = record {
    range = file.range;
    level = is.level;
    number = is.number;
    there = is.there;
    opened = is.opened;
    leads = λ next. file.leads (λ n. where_lock own p w n args.lock next) ∙ is.leads next;
  }
  asked_names h file (Err why) is = λ next. file.leads (λ n. where_lock own p w n args.lock next) ∙ is next

  -- what follows a lock that is named
  abbrev pub limited : Open → Lock → Outcome (Answer Came)
  limited o l = demand (has_ranges_left w (unlocked args.asked l) own.locks) (refuse p Quota NFS4ERR_NOSPC) (done p (Holds (unlocked args.asked l) (gone_by_unlocking w p.subject own.locks)) [])

  pub not_asked : (why : Refusal) → ((next : Open → Lock → Outcome (Answer Came)) → where_asked_lock args own p w next ≡ refuse p why.gate why.status) → (locku args own p w).answer ≡ Refused (refusal_of why)
  not_asked why leads = ap (λ (o : Outcome (Answer Came)). o.answer) (leads limited)

  module _ (facts : LockFacts w own) (x : Named) (asked : IsAsked args own p w x) where
    abbrev after : Lock
    after = unlocked args.asked (lock_in x)

    -- the level has no more locks than before
    lock_left : has_lock_left w after own.locks ≡ true
    lock_left =
        both (length (live_with w after own.locks)) LOCKS_OF_A_LEVEL x.id.number LAST_NUMBER
        (live_few p.subject w own facts _ (open_in x) (lock_in x) after asked.there asked.opened refl) asked.number
      where
        both : (m n k l : ℕ) → m ≤ n → k ≤ l → (nat_le m n && nat_le k l) ≡ true
        both m n k l a b = grind (arith, nat_tests, a, b)

    -- what its limits say
    room : (result : Bool) → result ≡ (has_lock_left w after own.locks && has_ranges_left w after own.locks) → has_ranges_left w after own.locks ≡ result
    room result is = sym (is ∙ ap (λ (b : Bool). b && has_ranges_left w after own.locks) lock_left)

    at_limit : (b : Bool) → has_ranges_left w after own.locks ≡ b
        → (locku args own p w).answer ≡ (demand b (refuse p Quota NFS4ERR_NOSPC) (done p (Holds after (gone_by_unlocking w p.subject own.locks)) [])).answer
    at_limit b is =
        ap (λ (o : Outcome (Answer Came)). o.answer) (asked.leads limited)
        ∙ ap (λ (t : Bool). (demand t (refuse p Quota NFS4ERR_NOSPC) (done p (Holds after (gone_by_unlocking w p.subject own.locks)) [])).answer) is

    pub no_room : (result : Bool) → ((l : Lock) → l.id ≡ keys.id_of x.id → length l.ranges ≡ length after.ranges → result ≡ (has_lock_left w l own.locks && has_ranges_left w l own.locks)) → result ≡ false
        → (locku args own p w).answer ≡ Refused (record { gate = Quota; status = NFS4ERR_NOSPC })
    no_room result is off = at_limit false (room result (is after refl refl) ∙ off)

    pub is_room : (result : Bool) → ((l : Lock) → l.id ≡ keys.id_of x.id → length l.ranges ≡ length after.ranges → result ≡ (has_lock_left w l own.locks && has_ranges_left w l own.locks)) → result ≡ true
        → (y : Unlocked) → y.id ≡ x.id → y.seq ≡ sequence_after x.row.now.seq → y.ranges ≡ set (lock_in x).ranges args.asked.offset (last_asked args.asked) None → IsUnlocked args own p w y
    is_room result is on y same seq ranges = record {
      lock = lock_in x;
      same = ap keys.id_of (sym same);
      level = asked.level;
      there = ap (lock_at own.locks) (ap keys.id_of same) ∙ asked.there;
      live = ap is_some asked.opened;
      answer =
          at_limit true (room result (is after refl refl) ∙ on)
          ∙ (λ k. Done (Holds (with_ranges (sym seq k) (sym ranges k) (lock_in x)) (gone_by_unlocking w p.subject own.locks)));
    }

  -- ---- the effect

  module _ (facts : LockFacts w own) (y : Unlocked) (is : IsUnlocked args own p w y) where
    abbrev pub after_is : Lock
    after_is = with_ranges y.seq y.ranges is.lock

    pub is_given_to : is_given own.lasts is.lock.id ≡ true
    is_given_to = (all_find (λ l. is_given own.lasts l.id ≡ true) _ own.locks is.lock facts.given is.there).0

    under : AllByRecursion (IsUnder is.lock) w.opens
    under = (all_find (λ l. AllByRecursion (IsUnder l) w.opens) _ own.locks is.lock facts.under is.there).0

    -- it stays
    pub stays : (s : Lists) → s ≡ lists_of w → not (is_found s.opens after_is) ≡ false
    stays s same = ap (λ (t : Lists). not (is_found t.opens is.lock)) same ∙ ap not (found_is_live w is.lock under ∙ is.live)

    -- and those go whose opens have ended
    pub kept : (s : Lists) → s ≡ lists_of w → (new : Locks)
        → new ≡ kept_with after_is (filter (λ x. x.id.level == is.lock.id.level && not (is_found s.opens x)) own.locks) own
        → (ran : ExtraRan) → ran.refusal ≡ None → ran.bytes ≡ state_id_text (state_of after_is) → Ends (locku args own p w).answer ran own new
    kept s same new e ran none bytes = record {
      said = (λ k. record { refusal = told k; bytes = bytes k }) ∙ ap said_by (sym is.answer);
      locks =
          e
          ∙ ap (λ (t : Lists). kept_with after_is (filter (λ x. x.id.level == is.lock.id.level && not (is_found t.opens x)) own.locks) own) same
          ∙ ap (λ gone. kept_with after_is gone own) (dead_gone w own facts is.lock.id.level ∙ ap (λ level. gone_by_unlocking w level own.locks) is.level)
          ∙ ap (λ (a : Answer Came). locks_after a own) (sym is.answer);
    }
      where
        told : option_map refusal_of ran.refusal ≡ None
        told = ap (option_map refusal_of) none
