-- LOCK's tests before that for locks of others, one after the other, by what the code finds.
use Rattle.std.proofs.Common.{◌≡◌, ℕ, Bool, true, false, not, Option, Some, None, Result, Ok, Err, refl, sym, ap, ◌∙◌, bit_and, arith}
use Rattle.std.specs.Prelude.{IsErrAnd}
use Rattle.lnfs_arguments.specs.declared.statuses.TheConstants.{NFS4ERR_OPENMODE, NFS4ERR_OP_NOT_IN_SESSION}
use Rattle.lnfs_world.specs.Opens.{has_any}
use Rattle.lnfs_world.specs.World.{Node, Open, World}
use Rattle.lnfs_world.specs.Outcome.{Site, Place, Outcome}
use Rattle.lnfs_monitor.specs.Rules.{Deny}
use Rattle.lnfs_operations.specs.declared.Gate.TheVariants as gates
use Rattle.lnfs_operations.specs.declared.Refusal.{Refusal}
use Rattle.lnfs_operations.specs.Chain.{Answer, refuse, demand, where_there}
use Rattle.lnfs_operations.specs.Judged.{where_allowed}
use Rattle.lnfs_nodes.specs.Trees.{refusal_of, denial as label_denial}
use Rattle.lnfs_nodes.specs.declared.held.Held.{Held}
use Rattle.lnfs_nodes.proofs.Refusing.{denied}
use Rattle.lnfs_nodes.proofs.Tests.{allowed}
use Rattle.lnfs_locks.specs.declared.numbers.TheConstants.{NFS4ERR_NO_GRACE}
use Rattle.lnfs_locks.specs.Arguments.{LockArgs}
use Rattle.lnfs_locks.specs.Locks.{Lock, Locks}
use Rattle.lnfs_locks.specs.Ranges.{access_for}
use Rattle.lnfs_locks.specs.Effects.{Came}
use Rattle.lnfs_locks.specs.Lock.{where_locker}
use Rattle.lnfs_byte_locks.specs.declared.asks.Asks.{Asks}
use Rattle.lnfs_byte_locks.specs.declared.asks.Target.{Target}
use Rattle.lnfs_byte_locks.specs.declared.holders.Holder.{Holder}
use Rattle.lnfs_byte_locks.specs.Asks.{where_target, IsTarget, FindsTarget, where_asks, AreAsks, FindsAsks}
use Rattle.lnfs_byte_locks.specs.Files.{where_asked_file, IsFileOf}
use Rattle.lnfs_byte_locks.specs.Holders.{lock_held, IsHolder}

-- ---- the client and the file

module _ (site : Site) (args : LockArgs) (p : Place) (w : World) where
  -- a refusal that `?` hands on
  pub err_target : (r : Result Target Refusal) (why : Refusal) → IsErrAnd r (λ e. e ≡ why) →
      ((next : (client : ℕ) → Node → Outcome (Answer Came)) → where_target site args p w next ≡ refuse p why.gate why.status) → FindsTarget site args p w r
  err_target (Ok x) why is leads = absurd is
  err_target (Err e) why is leads = λ next. leads next ∙ ap (λ (x : Refusal). refuse p x.gate x.status) (sym is)

  abbrev behind : ((client : ℕ) → Node → Outcome (Answer Came)) → ℕ → Node → Outcome (Answer Came)
  behind next client n = demand (not args.reclaim) (refuse p gates.Open NFS4ERR_NO_GRACE) (where_allowed site p (Deny n.label) (next client n))

  abbrev under : ((client : ℕ) → Node → Outcome (Answer Came)) → Option ℕ → Outcome (Answer Came)
  under next client = where_there client (λ number. where_asked_file p w args.asked (behind next number)) (refuse p gates.Session NFS4ERR_OP_NOT_IN_SESSION)

  pub no_client : p.client ≡ None → (next : (client : ℕ) → Node → Outcome (Answer Came)) → where_target site args p w next ≡ refuse p gates.Session NFS4ERR_OP_NOT_IN_SESSION
  no_client e next = ap (under next) e

  module _ (client : ℕ) (of : p.client ≡ Some client) where
    pub no_file : (why : Refusal) → ((next : Node → Outcome (Answer Came)) → where_asked_file p w args.asked next ≡ refuse p why.gate why.status) →
        (next : (client : ℕ) → Node → Outcome (Answer Came)) → where_target site args p w next ≡ refuse p why.gate why.status
    no_file why leads next = ap (under next) of ∙ leads (behind next client)

    module _ (h : Held) (file : IsFileOf p w args.asked h) where
      by_reclaim : (b : Bool) → args.reclaim ≡ b → (next : (client : ℕ) → Node → Outcome (Answer Came)) →
          where_target site args p w next ≡ demand (not b) (refuse p gates.Open NFS4ERR_NO_GRACE) (where_allowed site p (Deny file.node.label) (next client file.node))
      by_reclaim b is next =
          ap (under next) of
          ∙ file.leads (behind next client)
          ∙ ap (λ (x : Bool). demand (not x) (refuse p gates.Open NFS4ERR_NO_GRACE) (where_allowed site p (Deny file.node.label) (next client file.node))) is

      pub no_grace : args.reclaim ≡ true → (next : (client : ℕ) → Node → Outcome (Answer Came)) → where_target site args p w next ≡ refuse p gates.Open NFS4ERR_NO_GRACE
      no_grace e next = by_reclaim true e next

      pub not_allowed : args.reclaim ≡ false → (why : Refusal) → Some (refusal_of why) ≡ label_denial site p.subject (Deny h.facts.label.0) →
          (next : (client : ℕ) → Node → Outcome (Answer Came)) → where_target site args p w next ≡ refuse p why.gate why.status
      not_allowed e why told next =
          by_reclaim false e next
          ∙ denied site p (Deny file.node.label) (next client file.node) why (told ∙ ap (λ (l : ℕ). label_denial site p.subject (Deny l)) file.holds.tells.label)

      pub is_target : args.reclaim ≡ false → None ≡ label_denial site p.subject (Deny h.facts.label.0) → IsTarget site args p w (record { client = client; node = h.id })
      is_target e told = record {
        node = file.node;
        id = file.holds.id;
        client = of;
        range = file.range;
        leads = λ next.
            by_reclaim false e next
            ∙ allowed site p (Deny file.node.label) (next client file.node) (told ∙ ap (λ (l : ℕ). label_denial site p.subject (Deny l)) file.holds.tells.label);
      }

-- ---- and whose lock

module _ (site : Site) (args : LockArgs) (own : Locks) (p : Place) (w : World) where
  -- a refusal that `?` hands on
  pub err_asks : (r : Result Asks Refusal) (why : Refusal) → IsErrAnd r (λ e. e ≡ why) →
      ((next : (client : ℕ) → Node → Lock → Outcome (Answer Came)) → where_asks site args own p w next ≡ refuse p why.gate why.status) → FindsAsks site args own p w r
  err_asks (Ok x) why is leads = absurd is
  err_asks (Err e) why is leads = λ next. leads next ∙ ap (λ (x : Refusal). refuse p x.gate x.status) (sym is)

  abbrev in_mode : ((client : ℕ) → Node → Lock → Outcome (Answer Came)) → ℕ → Node → Open → Lock → Outcome (Answer Came)
  in_mode next client n o l = demand (has_any o.access (access_for args.asked)) (refuse p gates.Open NFS4ERR_OPENMODE) (next client n l)

  abbrev by_locker : ((client : ℕ) → Node → Lock → Outcome (Answer Came)) → ℕ → Node → Outcome (Answer Came)
  by_locker next client n = where_locker own p w client n args.locker (in_mode next client n)

  pub no_target : (why : Refusal) → ((next : (client : ℕ) → Node → Outcome (Answer Came)) → where_target site args p w next ≡ refuse p why.gate why.status) →
      (next : (client : ℕ) → Node → Lock → Outcome (Answer Came)) → where_asks site args own p w next ≡ refuse p why.gate why.status
  no_target why leads next = leads (by_locker next)

  module _ (t : Target) (target : IsTarget site args p w t) where
    pub no_holder : (why : Refusal) → ((next : Open → Lock → Outcome (Answer Came)) → where_locker own p w t.client target.node args.locker next ≡ refuse p why.gate why.status) →
        (next : (client : ℕ) → Node → Lock → Outcome (Answer Came)) → where_asks site args own p w next ≡ refuse p why.gate why.status
    no_holder why leads next = target.leads (by_locker next) ∙ leads (in_mode next t.client target.node)

    module _ (x : Holder) (holder : IsHolder own p w t.client target.node args.locker x) (bit : ℕ) (same : bit ≡ access_for args.asked) where
      abbrev held : Lock
      held = lock_held own p t.client target.node x

      by_mode : (b : Bool) → has_any x.access bit ≡ b → (next : (client : ℕ) → Node → Lock → Outcome (Answer Came)) →
          where_asks site args own p w next ≡ demand b (refuse p gates.Open NFS4ERR_OPENMODE) (next t.client target.node held)
      by_mode b is next =
          target.leads (by_locker next)
          ∙ holder.leads (in_mode next t.client target.node)
          ∙ ap (λ (a : ℕ). demand (has_any a (access_for args.asked)) (refuse p gates.Open NFS4ERR_OPENMODE) (next t.client target.node held)) holder.access
          ∙ ap (λ (a : ℕ). demand (has_any x.access a) (refuse p gates.Open NFS4ERR_OPENMODE) (next t.client target.node held)) (sym same)
          ∙ ap (λ (a : Bool). demand a (refuse p gates.Open NFS4ERR_OPENMODE) (next t.client target.node held)) is

      pub no_mode : bit_and x.access bit ≡ 0 → (next : (client : ℕ) → Node → Lock → Outcome (Answer Came)) → where_asks site args own p w next ≡ refuse p gates.Open NFS4ERR_OPENMODE
      no_mode e next = let off : has_any x.access bit ≡ false = grind (arith, e) in by_mode false off next

      pub are_asks : (bit_and x.access bit ≡ 0 → ⊥) → AreAsks site args own p w (record { client = t.client; node = t.node; holder = x })
      are_asks e =
          let on : has_any x.access bit ≡ true = grind (arith, e) in
          record {
            node = target.node;
            id = target.id;
            client = target.client;
            range = target.range;
            lock_is = holder.lock_is;
            leads = λ next. by_mode true on next;
          }
