-- The lock that a state id names, by what the code finds.
use Rattle.std.proofs.Common.{◌≡◌, ◌≤◌, ◌+◌, ◌^◌, ◌∙◌, ℕ, refl, sym, ap, Bool, true, false, cond, ◌&&◌, List, [], ◌∷◌, Option, Some, None, Result, Ok, Err, arith}
use Rattle.std.specs.Prelude.{◌==◌, IsErrAnd, find, if◌then◌else◌}
use Rattle.std.specs.List.{AllByRecursion}
use Rattle.std.proofs.lemmas.Bool.{and_parts}
use Rattle.std.proofs.lemmas.Bool.Decides.{nat_tests}
use Rattle.lnfs_arguments.specs.declared.stateid.StateId.{StateId}
use Rattle.lnfs_arguments.specs.declared.statuses.TheConstants.{NFS4ERR_BAD_STATEID}
use Rattle.lnfs_world.specs.declared.numbers.TheConstants.{LAST_NUMBER}
use Rattle.lnfs_world.specs.World.{Id, Node, Open, World, same_id, is_given}
use Rattle.lnfs_world.specs.Outcome.{Place, Outcome}
use Rattle.lnfs_world.proofs.Rows.{all_weaker, all_find}
use Rattle.lnfs_world.proofs.Views.{found_by_id}
use Rattle.lnfs_monitor.specs.declared.rule.Rule.TheVariants.{M9}
use Rattle.lnfs_operations.specs.declared.Gate.{Gate}
use Rattle.lnfs_operations.specs.declared.Gate.TheVariants as gates
use Rattle.lnfs_operations.specs.declared.Refusal.{Refusal}
use Rattle.lnfs_operations.specs.Chain.{Answer, refuse, demand, where_there}
use Rattle.lnfs_operations.specs.Handles.{handle_named}
use Rattle.lnfs_operations.specs.StateIds.{is_client}
use Rattle.lnfs_operations.proofs.ShownLaws.{and_false}
use Rattle.lnfs_open.specs.Lists.{Lists, lists_of}
use Rattle.lnfs_open.specs.Opening.{open_named}
use Rattle.lnfs_locks.specs.Locks.{Lock, Locks, client_of, opening_id, opening_of}
use Rattle.lnfs_locks.specs.StateIds.{told_id, where_lock}
use Rattle.lnfs_locks.specs.StateIds as locks
use Rattle.lnfs_locks.specs.Effects.{Came}
use Rattle.lnfs_locks.specs.Facts.{IsUnder, LockFacts}
use Rattle.lnfs_locking.specs.Rows.{lock_at}
use Rattle.lnfs_locking.proofs.Naming.{find_agree}
use Rattle.lnfs_byte_locks.proofs.LiveLocks.{number_itself, is_its_own}
use Rattle.lnfs_byte_locks.proofs.LiveLocks.{find_agree as opens_agree}
use Rattle.lnfs_byte_locks.specs.Naming.{where_told, where_state, where_opened, lock_told, IsTold, Names}
use Rattle.lnfs_byte_locks.specs.declared.naming.Told.{Told}
use Rattle.lnfs_byte_locks.specs.declared.naming.Named.{Named}

-- ---- identifiers

raised : (a b : ℕ) → (2 ^ 32 + a == 2 ^ 32 + b) ≡ (a == b)
raised a b = grind (arith, nat_tests)

told_same : (a b : Id) → same_id (told_id a) (told_id b) ≡ same_id a b
told_same a b = ap (λ (t : Bool). a.level == b.level && t) (raised a.number b.number)

turned : (a b : ℕ) → (a == b) ≡ (b == a)
turned a b = grind (arith, nat_tests)

-- ---- searches that find nothing

find_never : (test : Lock → Bool) (xs : List Lock) → AllByRecursion (λ l. test l ≡ false) xs → find test xs ≡ None
find_never test [] never = refl
find_never test (l ∷ xs) never = ap (λ (b : Bool). if b then Some l else find test xs) never.0 ∙ find_never test xs never.1

find_nowhere : (test : Lock → Bool) → ((l : Lock) → test l ≡ false) → (xs : List Lock) → find test xs ≡ None
find_nowhere test never [] = refl
find_nowhere test never (l ∷ xs) = ap (λ (b : Bool). if b then Some l else find test xs) (never l) ∙ find_nowhere test never xs

-- ---- the lock of a state id

module _ (own : Locks) (p : Place) (n : Node) (id : StateId) where
  abbrev named : Option Lock
  named = locks.lock_at p own.locks n (handle_named id.other)

  -- one of another level
  pub other_level : ((handle_named id.other).level == p.subject) ≡ false → (next : Lock → Outcome (Answer Came)) → where_told own p n id next ≡ refuse p (gates.Monitor M9) NFS4ERR_BAD_STATEID
  other_level e next = ap (λ (b : Bool). demand b (refuse p (gates.Monitor M9) NFS4ERR_BAD_STATEID) (where_there named next (refuse p gates.Open NFS4ERR_BAD_STATEID))) e

  own_level : ((handle_named id.other).level == p.subject) ≡ true → (next : Lock → Outcome (Answer Came)) → where_told own p n id next ≡ where_there named next (refuse p gates.Open NFS4ERR_BAD_STATEID)
  own_level e next = ap (λ (b : Bool). demand b (refuse p (gates.Monitor M9) NFS4ERR_BAD_STATEID) (where_there named next (refuse p gates.Open NFS4ERR_BAD_STATEID))) e

  module _ (level : ((handle_named id.other).level == p.subject) ≡ true) where
    none_there : named ≡ None → (next : Lock → Outcome (Answer Came)) → where_told own p n id next ≡ refuse p gates.Open NFS4ERR_BAD_STATEID
    none_there e next = own_level level next ∙ ap (λ o. where_there o next (refuse p gates.Open NFS4ERR_BAD_STATEID)) e

    pub no_client : p.client ≡ None → (next : Lock → Outcome (Answer Came)) → where_told own p n id next ≡ refuse p gates.Open NFS4ERR_BAD_STATEID
    no_client e =
        none_there (find_nowhere _ (λ l. ap (λ (c : Option ℕ). same_id (handle_named id.other) (told_id l.id) && (is_client c l.client && same_id n.id l.node)) e ∙ and_false (same_id (handle_named id.other) (told_id l.id))) own.locks)

    pub no_number : AllByRecursion (λ l. same_id (handle_named id.other) (told_id l.id) ≡ false) own.locks → (next : Lock → Outcome (Answer Came)) → where_told own p n id next ≡ refuse p gates.Open NFS4ERR_BAD_STATEID
    no_number never =
        none_there (find_never _ own.locks (all_weaker _ _ (λ l e. ap (λ (b : Bool). b && (is_client p.client l.client && same_id n.id l.node)) e) own.locks never))

    module _ (client : ℕ) (of : p.client ≡ Some client) (key node : Id) (told : told_id key ≡ handle_named id.other) (at : node ≡ n.id) where
      abbrev by_key : Lock → Bool
      by_key l = same_id key l.id && (l.client == client && same_id node l.node)

      as_named : named ≡ find by_key own.locks
      as_named =
          (λ k. find (λ l. same_id (sym told k) (told_id l.id) && (is_client (of k) l.client && same_id (sym at k) l.node)) own.locks)
          ∙ find_agree _ by_key own.locks (λ l. (λ k. told_same key l.id k && (turned client l.client k && same_id node l.node)))

      pub not_there : find by_key own.locks ≡ None → (next : Lock → Outcome (Answer Came)) → where_told own p n id next ≡ refuse p gates.Open NFS4ERR_BAD_STATEID
      not_there e = none_there (as_named ∙ e)

      pub found_there : (l : Lock) → find by_key own.locks ≡ Some l → (next : Lock → Outcome (Answer Came)) → where_told own p n id next ≡ next l
      found_there l e next = own_level level next ∙ ap (λ o. where_there o next (refuse p gates.Open NFS4ERR_BAD_STATEID)) (as_named ∙ e)

-- what is known of one that was found
pub told_of : (own : Locks) (p : Place) (w : World) (n : Node) (id : StateId) (client : ℕ) (node : Id) (x : Told) → LockFacts w own → ((handle_named id.other).level == p.subject) ≡ true → p.client ≡ Some client → node ≡ n.id
    → x.id.number ≤ LAST_NUMBER → told_id (lock_told x).id ≡ handle_named id.other
    → Some (lock_told x) ≡ find (λ l. same_id (lock_told x).id l.id && (l.client == client && same_id node l.node)) own.locks → IsTold own p n id x
told_of own p w n id client node x facts level of at few told found =
    let is = (all_find (λ l. is_given own.lasts l.id ≡ true) _ own.locks (lock_told x) facts.given (sym found)).1 in
    let parts = and_parts (same_id (lock_told x).id (lock_told x).id) ((lock_told x).client == client && same_id node (lock_told x).node) is in
    let rest = and_parts ((lock_told x).client == client) (same_id node (lock_told x).node) parts.1 in
    let here : (lock_told x).client ≡ client = grind (arith, nat_tests, rest.0) in
    record {
      level = same_level (handle_named id.other).level p.subject level (ap (λ (i : Id). i.level) told);
      number = few;
      client = of ∙ ap (λ c. Some c) (sym here);
      node = ap (λ i. same_id i (lock_told x).node) (sym at) ∙ rest.1;
      there = found_by_id (λ l. l.id) _ own.locks (lock_told x) facts.rise (sym found);
      leads = found_there own p n id level client of (lock_told x).id node told at (lock_told x) (sym found);
    }
  where
    same_level : (a b : ℕ) → (a == b) ≡ true → (lock_told x).id.level ≡ a → (lock_told x).id.level ≡ b
    same_level a b e is = grind (arith, nat_tests, e, is)

-- a refusal that `?` hands on
pub err_names : (own : Locks) (p : Place) (w : World) (n : Node) (id : StateId) (r : Result Named Refusal) (why : Refusal) → IsErrAnd r (λ e. e ≡ why)
    → ((next : Open → Lock → Outcome (Answer Came)) → where_lock own p w n id next ≡ refuse p why.gate why.status) → Names own p w n id r
err_names own p w n id (Ok x) why is leads = absurd is
err_names own p w n id (Err e) why is leads = λ next. leads next ∙ ap (λ (x : Refusal). refuse p x.gate x.status) (sym is)

-- the code's refusal by a status
pub refused_with : (p : Place) (gate : Gate) (status : ℕ) (why : Refusal) → why ≡ record { gate = gate; status = status } → (o : Outcome (Answer Came)) → o ≡ refuse p gate status → o ≡ refuse p why.gate why.status
refused_with p gate status why is o e = e ∙ ap (λ (x : Refusal). refuse p x.gate x.status) (sym is)

-- ---- the lock with its open

-- an open of its identifier is of its client and its node
pub opening_named : (w : World) (l : Lock) → AllByRecursion (IsUnder l) w.opens → open_named w.opens (client_of l) l.node (opening_id l) ≡ opening_of w l
opening_named w l under =
    ap (λ (b : Bool). cond b (find (λ o. same_id (opening_id l) o.id && (l.client == o.client && same_id l.node o.node)) w.opens) None) (number_itself l.id.level)
    ∙ opens_agree _ _ w.opens (all_weaker _ _ (λ o is. is_its_own l o is) w.opens under)

module _ (own : Locks) (p : Place) (w : World) (n : Node) (id : StateId) (facts : LockFacts w own) (x : Told) (told : IsTold own p n id x) where
  under : AllByRecursion (IsUnder (lock_told x)) w.opens
  under = (all_find (λ y. AllByRecursion (IsUnder y) w.opens) _ own.locks (lock_told x) facts.under told.there).0

  -- its open, as the opens tell it
  pub opened_by : (s : Lists) → s ≡ lists_of w → (found : Option Open) → found ≡ open_named s.opens (client_of (lock_told x)) (lock_told x).node (opening_id (lock_told x)) → opening_of w (lock_told x) ≡ found
  opened_by s same found is =
      sym (is ∙ ap (λ (t : Lists). open_named t.opens (client_of (lock_told x)) (lock_told x).node (opening_id (lock_told x))) same ∙ opening_named w (lock_told x) under)

  pub no_opening : opening_of w (lock_told x) ≡ None → (next : Open → Lock → Outcome (Answer Came)) → where_lock own p w n id next ≡ refuse p gates.Open NFS4ERR_BAD_STATEID
  no_opening none next =
      told.leads (where_opened p w id next)
      ∙ ap (λ o. where_there o (λ y. where_state p id (lock_told x).sequence (next y (lock_told x))) (refuse p gates.Open NFS4ERR_BAD_STATEID)) none

  pub by_opening : (o : Open) → opening_of w (lock_told x) ≡ Some o → (next : Open → Lock → Outcome (Answer Came)) → where_lock own p w n id next ≡ where_state p id (lock_told x).sequence (next o (lock_told x))
  by_opening o opened next =
      told.leads (where_opened p w id next)
      ∙ ap (λ o. where_there o (λ y. where_state p id (lock_told x).sequence (next y (lock_told x))) (refuse p gates.Open NFS4ERR_BAD_STATEID)) opened
