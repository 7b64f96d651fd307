-- What is known of a lock that an operation finds, or begins, before it gets its new state.
use Rattle.std.proofs.Common.{◌≡◌, ◌≤◌, ℕ, Bool, true, false, cond, not, ◌&&◌, ◌||◌, List, [], ◌∷◌, Option, Some, None, length, refl, sym, ap, ◌∙◌, subst, arith}
use Rattle.std.specs.Prelude.{◌==◌, filter, find, is_some, sum_by}
use Rattle.std.specs.List.{AllByRecursion}
use Rattle.std.specs.Option.{option_map, option_or}
use Rattle.std.specs.Ordering.{is_eq}
use Rattle.std.specs.declared.cmp.Ordering.TheVariants.{Less}
use Rattle.std.specs.Str.{bytes_eq}
use Rattle.std.proofs.lemmas.Bool.Decides.{nat_tests}
use Rattle.lnfs_arguments.specs.declared.numbers.TheConstants.{OWNER_LIMIT}
use Rattle.lnfs_world.specs.Rows.{Rising, Apart}
use Rattle.lnfs_world.specs.Outcome.{Place}
use Rattle.lnfs_world.specs.World.{Id, Node, Open, World, open_order, same_id}
use Rattle.lnfs_world.proofs.Keys.{id_itself, id_before, bytes_turned}
use Rattle.lnfs_world.proofs.Rows.{all_weaker, all_find, any_found}
use Rattle.lnfs_world.proofs.Sorted.{rising_filter}
use Rattle.lnfs_world.proofs.Views.{found_by_id, found_left}
use Rattle.lnfs_ranges.specs.declared.range.LockRange.{LockRange}
use Rattle.lnfs_ranges.specs.Modes.{AreRuns, conflicts}
use Rattle.lnfs_locks.specs.declared.numbers.TheConstants.{LOCKS_OF_A_LEVEL}
use Rattle.lnfs_locks.specs.Locks.{Lock, Locks, lock_order, opening_id, opening_of, is_live}
use Rattle.lnfs_locks.specs.Denial.{Denial, denied_by, denial}
use Rattle.lnfs_locks.specs.Effects.{is_one_of, live_with}
use Rattle.lnfs_locks.specs.Facts.{IsUnder, are_doubles, LockFacts}
use Rattle.lnfs_locks.specs.Lock.{lock_under, begun}
use Rattle.lnfs_locks.proofs.KeptFacts.{doubles_turn}
use Rattle.lnfs_locks.proofs.Totals.{count_is_sum, length_is_sum, filter_both, fewer, set_in_place}

-- ---- lists

find_none : {X : Type 0} (q : X → Bool) (xs : List X) → find q xs ≡ None → AllByRecursion (λ x. q x ≡ false) xs
find_none q [] none = tt
find_none {X} q (x ∷ xs) none = at (q x) refl (find_none q xs)
  where
    at : (b : Bool) → q x ≡ b → (find q xs ≡ None → AllByRecursion (λ y. q y ≡ false) xs) → (q x ≡ false) × AllByRecursion (λ y. q y ≡ false) xs
    at true is rest = absurd (grind (arith, is, none))
    at false is rest = (is, rest (grind (arith, is, none)))

-- no other row has the identifier of one
only_one : (i : Id) (xs : List Open) (o : Open) → Rising open_order xs → find (λ y. same_id i y.id) xs ≡ Some o → AllByRecursion (λ x. same_id i x.id ≡ true → x ≡ o) xs
only_one i [] o rise found = tt
only_one i (y ∷ ys) o rise found = at (same_id i y.id) refl (only_one i ys o rise.1)
  where
    at : (b : Bool) → same_id i y.id ≡ b → (find (λ z. same_id i z.id) ys ≡ Some o → AllByRecursion (λ x. same_id i x.id ≡ true → x ≡ o) ys) → (same_id i y.id ≡ true → y ≡ o) × AllByRecursion (λ x. same_id i x.id ≡ true → x ≡ o) ys
    at true is rest =
        let here : y ≡ o = grind (arith, is, found) in
        ((λ same. here), all_weaker (λ x. open_order y x ≡ Less) (λ x. same_id i x.id ≡ true → x ≡ o) (λ x before same. absurd (grind (arith, nat_tests, is, before, same))) ys rise.0)
    at false is rest = ((λ same. absurd (grind (arith, is, same))), rest (grind (arith, is, found)))

apart_from : (clash : Lock → Lock → Bool) → ((a b : Lock) → clash a b ≡ clash b a) → (l : Lock) (xs : List Lock) → Rising lock_order xs → Apart clash xs → find (λ x. same_id l.id x.id) xs ≡ Some l → AllByRecursion (λ x. (clash l x && not (same_id l.id x.id)) ≡ false) xs
apart_from clash turn l [] rise apart found = tt
apart_from clash turn l (x ∷ xs) rise apart found = at (same_id l.id x.id) refl (apart_from clash turn l xs rise.1 apart.1)
  where
    fails : (b : Bool) → (b && not true) ≡ false
    fails true = refl
    fails false = refl

    none : (b c : Bool) → b ≡ false → (b && not c) ≡ false
    none b c is = ap (λ t. t && not c) is

    at : (b : Bool) → same_id l.id x.id ≡ b → (find (λ y. same_id l.id y.id) xs ≡ Some l → AllByRecursion (λ y. (clash l y && not (same_id l.id y.id)) ≡ false) xs) →
        ((clash l x && not (same_id l.id x.id)) ≡ false) × AllByRecursion (λ y. (clash l y && not (same_id l.id y.id)) ≡ false) xs
    at true is rest =
        let here : x ≡ l = grind (arith, is, found) in
        (ap (λ t. clash l x && not t) is ∙ fails (clash l x), all_weaker _ _ (λ (y : Lock) e. none (clash l y) (same_id l.id y.id) (subst (λ (z : Lock). clash z y ≡ false) here e)) xs apart.0)
    at false is rest =
        let later : find (λ y. same_id l.id y.id) xs ≡ Some l = grind (arith, is, found) in
        (none (clash l x) (same_id l.id x.id) (turn l x ∙ (all_find (λ y. clash x y ≡ false) (λ y. same_id l.id y.id) xs l apart.0 later).0), rest later)

-- those that pass a test are among those that pass it
pub passing_gone : (q : Lock → Bool) (xs : List Lock) → AllByRecursion (λ x. q x ≡ true → is_one_of (filter q xs) x ≡ true) xs
passing_gone q [] = tt
passing_gone q (x ∷ xs) = (here (q x) refl, all_weaker (λ y. q y ≡ true → is_one_of (filter q xs) y ≡ true) (λ y. q y ≡ true → is_one_of (filter q (x ∷ xs)) y ≡ true) (λ y rest is. more (q x) y (rest is)) xs (passing_gone q xs))
  where
    here : (b : Bool) → q x ≡ b → q x ≡ true → is_one_of (cond b (x ∷ filter q xs) (filter q xs)) x ≡ true
    here true is passes = ap (λ t. t || is_one_of (filter q xs) x) (id_itself x.id)
    here false is passes = absurd (grind (arith, is, passes))

    or_so : (b c : Bool) → c ≡ true → (b || c) ≡ true
    or_so true c is = refl
    or_so false c is = is

    more : (b : Bool) (y : Lock) → is_one_of (filter q xs) y ≡ true → is_one_of (cond b (x ∷ filter q xs) (filter q xs)) y ≡ true
    more true y is = or_so (same_id x.id y.id) (is_one_of (filter q xs) y) is
    more false y is = is

-- ---- what is told of a lock in the way is of one that is kept

denied_lock : (node : Id) (rival : Lock → Bool) (first last : ℕ) (write : Bool) (l : Lock) (d : Denial) → cond (same_id node l.node) (denied_by rival first last write l) None ≡ Some d → d.lock ≡ l
denied_lock node rival first last write l d = at (same_id node l.node) (rival l) (find (conflicts first last write) l.ranges)
  where
    at : (b c : Bool) (o : Option LockRange) → cond {A = Option Denial} b (cond c (option_map (λ r. record { lock = l; range = r }) o) None) None ≡ Some d → d.lock ≡ l
    at true true (Some r) e = let same : (record { lock = l; range = r }) ≡ d = cc in sym (ap (λ (x : Denial). x.lock) same)
    at true true None e = absurd cc
    at true false o e = absurd cc
    at false c o e = absurd cc

pub denial_of_kept : (P : Lock → Type 0) (node : Id) (rival : Lock → Bool) (first last : ℕ) (write : Bool) (locks : List Lock) (d : Denial) → AllByRecursion P locks → denial rival node first last write locks ≡ Some d → P d.lock
denial_of_kept P node rival first last write [] d all e = absurd cc
denial_of_kept P node rival first last write (l ∷ locks) d all e = at (cond (same_id node l.node) (denied_by rival first last write l) None) refl (denial_of_kept P node rival first last write locks d all.1) e
  where
    at : (o : Option Denial) → cond (same_id node l.node) (denied_by rival first last write l) None ≡ o → (denial rival node first last write locks ≡ Some d → P d.lock) → option_or o (denial rival node first last write locks) ≡ Some d → P d.lock
    at None is rest told = rest told
    at (Some x) is rest told =
        let same : x ≡ d = cc in
        subst P (sym (denied_lock node rival first last write l d (is ∙ ap (λ y. Some y) same))) all.0

-- ---- the lock before

module _ (s : ℕ) (w : World) (own : Locks) where
  pub record IsBefore (o : Open) (l : Lock) : Type 0 where
    pub level : (l.id.level == s) ≡ true
    pub opened : opening_of w l ≡ Some o
    pub under : AllByRecursion (IsUnder l) w.opens
    pub alone : AllByRecursion (λ x. (are_doubles w l x && not (same_id l.id x.id)) ≡ false) own.locks
    pub owner : length l.owner ≤ OWNER_LIMIT
    pub runs : AreRuns l.ranges

  -- one that is there
  pub there_before : LockFacts w own → (q : Lock → Bool) (o : Open) (l : Lock) → find q own.locks ≡ Some l → opening_of w l ≡ Some o → (l.id.level == s) ≡ true → IsBefore o l
  there_before facts q o l found opened level = record {
    level = level;
    opened = opened;
    under = (all_find (λ x. AllByRecursion (IsUnder x) w.opens) q own.locks l facts.under found).0;
    alone = apart_from (are_doubles w) (doubles_turn w) l own.locks facts.rise facts.apart (found_by_id (λ x. x.id) q own.locks l facts.rise found);
    owner = (all_find (λ x. length x.owner ≤ OWNER_LIMIT) q own.locks l facts.owners found).0;
    runs = (all_find (λ x. AreRuns x.ranges) q own.locks l facts.runs found).0;
  }

  -- how many there are of its level, where it is there
  pub live_few : LockFacts w own → (q : Lock → Bool) (o : Open) (l changed : Lock) → find q own.locks ≡ Some l → opening_of w l ≡ Some o → changed.id ≡ l.id → length (live_with w changed own.locks) ≤ LOCKS_OF_A_LEVEL
  live_few facts q o l changed found opened same =
      let k : Lock → Bool = λ x. x.id.level == changed.id.level && is_live w x in
      let live : is_live w l ≡ true = ap is_some opened in
      let passes : k l ≡ true = grind (arith, nat_tests, live, same) in
      let tie : is_eq (lock_order changed l) ≡ true = grind (arith, nat_tests, same) in
      let there = any_found q (λ y. is_eq (lock_order changed y)) (filter k own.locks) l (found_left q k own.locks l found passes) tie in
      let whole = set_in_place lock_order changed (λ a b. id_before changed.id a.id b.id) (filter k own.locks) (rising_filter lock_order k own.locks facts.rise) there in
      let counted = length_is_sum (filter k own.locks) in
      let parted : sum_by (λ x. 1) (filter k own.locks) ≡ sum_by (λ x. 1) (filter (is_live w) (filter (λ x. x.id.level == changed.id.level) own.locks)) = ap (sum_by (λ x. 1)) (sym (filter_both (is_live w) (λ x. x.id.level == changed.id.level) own.locks)) in
      let few = fewer (λ x. 1) (is_live w) (filter (λ x. x.id.level == changed.id.level) own.locks) in
      let all = count_is_sum (λ x. x.id.level == changed.id.level) own.locks in
      let limit = facts.locks changed.id.level in
      omega (arith, whole, counted, parted, few, all, limit)

  -- one that begins, under an open of the subject's level
  pub begun_before : Rising open_order w.opens → (p : Place) (client : ℕ) (n : Node) (o : Open) (owner : List ℕ) (q : Open → Bool) → p.subject ≡ s → find q w.opens ≡ Some o → o.id.level ≡ p.subject → o.client ≡ client → same_id n.id o.node ≡ true → length owner ≤ OWNER_LIMIT → lock_under p own.locks o owner ≡ None →
      IsBefore o (begun own p client n o owner)
  begun_before rise p client n o owner q same found level of_client of_node short none = record {
    level = grind (arith, nat_tests, same);
    opened = opened;
    under = all_weaker (λ x. same_id (opening_id l) x.id ≡ true → x ≡ o) (IsUnder l) (λ x one is. under x (one is)) w.opens (only_one (opening_id l) w.opens o rise opened);
    alone = all_weaker (λ x. (same_id (opening_id l) (opening_id x) && bytes_eq x.owner owner) ≡ false) (λ x. (are_doubles w l x && not (same_id l.id x.id)) ≡ false) (λ x other. alone x other) own.locks (find_none (λ x. same_id (opening_id l) (opening_id x) && bytes_eq x.owner owner) own.locks none);
    owner = short;
    runs = record { rising = tt; apart = tt };
  }
    where
      l : Lock
      l = begun own p client n o owner

      id : opening_id l ≡ o.id
      id = λ k. record { level = sym level k; number = o.id.number }

      opened : opening_of w l ≡ Some o
      opened = ap (λ (i : Id). find (λ x. same_id i x.id) w.opens) id ∙ found_by_id (λ x. x.id) q w.opens o rise found

      under : (x : Open) → x ≡ o → (x.client ≡ client) × (same_id n.id x.node ≡ true)
      under x one = (ap (λ (y : Open). y.client) one ∙ of_client, ap (λ (y : Open). same_id n.id y.node) one ∙ of_node)

      alone : (x : Lock) → (same_id (opening_id l) (opening_id x) && bytes_eq x.owner owner) ≡ false → (are_doubles w l x && not (same_id l.id x.id)) ≡ false
      alone x other = neither (same_id (opening_id l) (opening_id x)) (bytes_eq x.owner owner) (bytes_eq owner x.owner) (is_live w l) (not (same_id l.id x.id)) (bytes_turned owner x.owner) other
        where
          neither : (b c d e f : Bool) → d ≡ c → (b && c) ≡ false → ((b && (d && e)) && f) ≡ false
          neither true true d e f is other = absurd cc
          neither true false d e f is other = ap (λ t. (true && (t && e)) && f) is
          neither false c d e f is other = refl
