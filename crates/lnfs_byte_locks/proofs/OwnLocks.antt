-- The lock of a lock owner under an open, and that of a state id.
use Rattle.std.proofs.Common.{◌≡◌, ℕ, Bool, true, false, not, ◌&&◌, cond, List, [], ◌∷◌, Option, Some, None, Result, Ok, Err, refl, sym, ap, subst, ◌∙◌, arith}
use Rattle.std.specs.Prelude.{◌==◌, IsErrAnd, find, is_some, if◌then◌else◌}
use Rattle.std.specs.List.{AllByRecursion}
use Rattle.std.specs.Option.{option_map}
use Rattle.std.specs.Str.{bytes_eq}
use Rattle.std.proofs.lemmas.Bool.Decides.{nat_tests}
use Rattle.lnfs_world.specs.World.{Id, Node, Open, World, same_id}
use Rattle.lnfs_world.specs.Effects.{next_id}
use Rattle.lnfs_world.specs.Outcome.{Place, Outcome}
use Rattle.lnfs_world.proofs.Keys.{id_same, bytes_same}
use Rattle.lnfs_world.proofs.Rows.{all_find}
use Rattle.lnfs_counts.proofs.Rows.{each_at}
use Rattle.lnfs_arguments.specs.declared.stateid.StateId.{StateId}
use Rattle.lnfs_operations.specs.declared.Refusal.{Refusal}
use Rattle.lnfs_operations.specs.Chain.{Answer, refuse}
use Rattle.lnfs_open.specs.Opening.{open_named}
use Rattle.lnfs_locks.specs.Locks.{Lock, Locks, lock_order, opening_id, opening_of, is_live}
use Rattle.lnfs_locks.specs.Facts.{IsUnder, LockFacts}
use Rattle.lnfs_locks.specs.Arguments.{Locker, New, Known}
use Rattle.lnfs_locks.specs.Effects.{Came}
use Rattle.lnfs_locks.specs.Lock.{begun, lock_or, lock_under, where_locker}
use Rattle.lnfs_locking.specs.Keys.{id_of}
use Rattle.lnfs_locking.specs.Rows.{lock_id, lock_at}
use Rattle.lnfs_byte_locks.specs.declared.holders.Holder.{Holder}
use Rattle.lnfs_byte_locks.specs.declared.naming.Told.{Told}
use Rattle.lnfs_byte_locks.specs.declared.naming.Named.{Named}
use Rattle.lnfs_byte_locks.specs.declared.openings.Opened.{Opened}
use Rattle.lnfs_byte_locks.specs.Naming.{lock_told, lock_in, open_in, IsNamed}
use Rattle.lnfs_byte_locks.specs.Openings.{where_opening, opened_in, IsOpened}
use Rattle.lnfs_byte_locks.specs.Holders.{lock_by, IsKeptBy, IsHolder, FindsHolder}
use Rattle.lnfs_byte_locks.specs.Standing.{is_found}
use Rattle.lnfs_byte_locks.proofs.LiveLocks.{found_is_live}

-- ---- searches

-- what is found by one test more is found
wider_found : {X : Type 0} (first also : X → Bool) (xs : List X) → is_some (find (λ x. first x && also x) xs) ≡ true → is_some (find first xs) ≡ true
wider_found first also [] is = is
wider_found first also (x ∷ xs) is = by (first x) (also x) is (wider_found first also xs)
  where
    by : (a b : Bool) → is_some (if a && b then Some x else find (λ y. first y && also y) xs) ≡ true
        → (is_some (find (λ y. first y && also y) xs) ≡ true → is_some (find first xs) ≡ true) → is_some (if a then Some x else find first xs) ≡ true
    by true b is rest = refl
    by false b is rest = rest is

-- ---- the open of a client

abbrev own_open : List Open → (client node i : Id) → Option Open
own_open opens client node i = find (λ o. same_id i o.id && (client.number == o.client && same_id node o.node)) opens

open_there : (opens : List Open) (client node i : Id) (o : Open) → open_named opens client node i ≡ Some o → own_open opens client node i ≡ Some o
open_there opens client node i o is = by (i.level == client.level) is
  where
    by : (b : Bool) → cond b (own_open opens client node i) None ≡ Some o → own_open opens client node i ≡ Some o
    by true e = e
    by false e = absurd (cc)

same_number : (a b : ℕ) → (a == b) ≡ true → a ≡ b
same_number a b is = grind (arith, nat_tests)

both_true : (a b : Bool) → (a && b) ≡ true → (a ≡ true) × (b ≡ true)
both_true true b is = (refl, is)
both_true false b is = absurd (cc)

module _ (w : World) (own : Locks) (facts : LockFacts w own) where
  -- of a lock that is there
  pub under_at : (test : Lock → Bool) (l : Lock) → find test own.locks ≡ Some l → AllByRecursion (IsUnder l) w.opens
  under_at test l is = (all_find (λ x. AllByRecursion (IsUnder x) w.opens) test own.locks l facts.under is).0

  pub found_at : (test : Lock → Bool) (l : Lock) → find test own.locks ≡ Some l → is_live w l ≡ true → is_found w.opens l ≡ true
  found_at test l is live = found_is_live w l (under_at test l is) ∙ live

  pub kept_at : (test : Lock → Bool) (l : Lock) → find test own.locks ≡ Some l → lock_at own.locks l.id ≡ Some l
  kept_at test l is = (all_find (λ x. lock_at own.locks x.id ≡ Some x) test own.locks l (each_at lock_id own.locks facts.rise) is).0

  module _ (p : Place) (client : ℕ) (n : Node) (x : Holder) (o : Open)
      (found : open_named w.opens (record { level = p.subject; number = client }) n.id (record { level = p.subject; number = x.opening }) ≡ Some o) where
    there : own_open w.opens (record { level = p.subject; number = client }) n.id (record { level = p.subject; number = x.opening }) ≡ Some o
    there = open_there w.opens (record { level = p.subject; number = client }) n.id (record { level = p.subject; number = x.opening }) o found

    abbrev named : Id
    named = record { level = p.subject; number = x.opening }

    abbrev new_lock : (number : ℕ) → (owner : List ℕ) → Lock
    new_lock number owner = record { id = next_id own.lasts p.subject; client = client; opening = number; owner = owner; node = n.id; sequence = 0; ranges = [] }

    -- of the lock that the owner has under it
    abbrev pub Parts : Option Told → Type 0
    Parts lock =
        IsKeptBy own p.subject lock
        × ((lock_by own p client n x lock).client ≡ client)
        × ((lock_by own p client n x lock).owner ≡ x.owner.now)
        × (is_found w.opens (lock_by own p client n x lock) ≡ true)

    parts_there : (told : Told) → find (λ l. same_id (record { level = p.subject; number = x.opening }) (opening_id l) && bytes_eq l.owner x.owner.now) own.locks ≡ Some (lock_told told) → Parts (Some told)
    parts_there told is =
        let all = all_find (λ x. AllByRecursion (IsUnder x) w.opens) _ own.locks (lock_told told) facts.under is in
        let two = both_true (same_id named (opening_id (lock_told told))) (bytes_eq (lock_told told).owner x.owner.now) all.1 in
        let names : named ≡ opening_id (lock_told told) = id_same named (opening_id (lock_told told)) two.0 in
        let at_open = all_find (IsUnder (lock_told told)) _ w.opens o all.0 there in
        let apart = both_true (same_id named o.id) (client == o.client && same_id n.id o.node) at_open.1 in
        let same_open : same_id (opening_id (lock_told told)) o.id ≡ true = ap (λ (i : Id). same_id i o.id) (sym names) ∙ apart.0 in
        let live : is_live w (lock_told told) ≡ true =
        ap (λ (i : Id). is_some (find (λ q. same_id i q.id) w.opens)) (sym names)
        ∙ wider_found (λ q. same_id named q.id) (λ q. client == q.client && same_id n.id q.node) w.opens (ap is_some there) in (
          (sym (ap (λ (i : Id). i.level) names), kept_at _ (lock_told told) is),
          sym (at_open.0 same_open).0 ∙ sym (same_number client o.client (both_true (client == o.client) (same_id n.id o.node) apart.1).0),
          bytes_same _ _ two.1,
          found_at _ (lock_told told) is live,
        )

    pub parts : (lock : Option Told) → option_map lock_told lock ≡ find (λ l. same_id (record { level = p.subject; number = x.opening }) (opening_id l) && bytes_eq l.owner x.owner.now) own.locks → Parts lock
    parts None is = (tt, refl, refl, ap is_some found)
    parts (Some told) is = parts_there told (sym is)

    pub or_new : (lock : Option Told) → o.id ≡ record { level = p.subject; number = x.opening } → (owner : List ℕ) → owner ≡ x.owner.now →
        lock_or (begun own p client n o owner) (option_map lock_told lock) ≡ lock_by own p client n x lock
    or_new None is owner same = (λ i. new_lock (is i).number (same i))
    or_new (Some told) is owner same = refl

-- ---- a holder

module _ (own : Locks) (p : Place) (w : World) (client : ℕ) (n : Node) (locker : Locker) where
  -- a refusal that `?` hands on
  pub err_holder : (r : Result Holder Refusal) (why : Refusal) → IsErrAnd r (λ e. e ≡ why) →
      ((next : Open → Lock → Outcome (Answer Came)) → where_locker own p w client n locker next ≡ refuse p why.gate why.status) → FindsHolder own p w client n locker r
  err_holder (Ok x) why is leads = absurd is
  err_holder (Err e) why is leads = λ next. leads next ∙ ap (λ (x : Refusal). refuse p x.gate x.status) (sym is)

module _ (w : World) (own : Locks) (facts : LockFacts w own) (p : Place) (client : ℕ) (of : p.client ≡ Some client) (n : Node) where
  -- a new lock owner
  pub no_opening : (id : StateId) (owner : List ℕ) (why : Refusal) → ((next : Open → Outcome (Answer Came)) → where_opening p w n id next ≡ refuse p why.gate why.status) →
      (next : Open → Lock → Outcome (Answer Came)) → where_locker own p w client n (New id owner) next ≡ refuse p why.gate why.status
  no_opening id owner why leads next = leads (λ o. next o (lock_or (begun own p client n o owner) (lock_under p own.locks o owner)))

  pub under_opening : (id : StateId) (owner : List ℕ) (x : Opened) → IsOpened p w n id x → (y : Holder) → y.opening ≡ x.number → y.access ≡ x.row.now.access → y.owner.now ≡ owner →
      option_map lock_told y.lock ≡ lock_under p own.locks (opened_in p.subject x) owner → IsHolder own p w client n (New id owner) y
  under_opening id owner x opened y number access name lock =
      let o = opened_in p.subject x in
      let found : open_named w.opens (record { level = p.subject; number = client }) n.id (record { level = p.subject; number = y.opening }) ≡ Some o =
      ap (λ (k : ℕ). open_named w.opens (record { level = p.subject; number = client }) n.id (record { level = p.subject; number = k })) number ∙ opened.found client of in
      let told : option_map lock_told y.lock ≡ find (λ l. same_id (record { level = p.subject; number = y.opening }) (opening_id l) && bytes_eq l.owner y.owner.now) own.locks =
      lock ∙ (λ i. find (λ l. same_id (record { level = p.subject; number = sym number i }) (opening_id l) && bytes_eq l.owner (sym name i)) own.locks) in
      let all = parts w own facts p client n y o found y.lock told in
      record {
        opening = o;
        access = sym access;
        lock_is = record { kept = all.0; client_is = all.1; owner_is = all.2; found = all.3 };
        leads = λ next.
            opened.leads (λ q. next q (lock_or (begun own p client n q owner) (lock_under p own.locks q owner)))
            ∙ ap (λ (l : Option Lock). next o (lock_or (begun own p client n o owner) l)) (sym lock)
            ∙ ap (next o) (or_new w own facts p client n y o found y.lock (λ i. record { level = p.subject; number = sym number i }) owner (sym name));
      }

  -- a lock that is there
  pub of_lock : (id : StateId) (x : Named) → IsNamed own p w n id x → (y : Holder) → y.access ≡ x.opening.now.access → y.owner.now ≡ x.row.now.owner →
      y.lock ≡ Some (record { id = x.id; row = x.row }) → IsHolder own p w client n (Known id) y
  of_lock id x named y access name lock =
      let same : x.row.now.client.number ≡ client = some_same (sym named.client ∙ of) in
      let l : Lock = lock_in x in
      record {
        opening = open_in x;
        access = sym access;
        lock_is = record {
          kept = subst (IsKeptBy own p.subject) (sym lock) (named.level, named.there);
          client_is = ap (λ (o : Option Told). (lock_by own p client n y o).client) lock ∙ same;
          owner_is = ap (λ (o : Option Told). (lock_by own p client n y o).owner) lock ∙ sym name;
          found = ap (λ (o : Option Told). is_found w.opens (lock_by own p client n y o)) lock ∙ found_at w own facts _ l named.there (ap is_some named.opened);
        };
        leads = λ next. named.leads next ∙ ap (λ (o : Option Told). next (open_in x) (lock_by own p client n y o)) (sym lock);
      }
    where
      some_same : {a b : ℕ} → Some a ≡ Some b → a ≡ b
      some_same e = cc
