-- A lock that LOCK takes: its number is new, it stays, and what is left is what is defined.
use Rattle.std.proofs.Common.{◌≡◌, ◌≤◌, ℕ, ◌+◌, Bool, true, false, not, ◌&&◌, ◌||◌, cond, List, [], ◌∷◌, Option, Some, None, refl, sym, ap, subst, ◌∙◌, arith}
use Rattle.std.specs.Prelude.{◌==◌, filter, find, is_some, nat_le, if◌then◌else◌}
use Rattle.std.specs.List.{AllByRecursion}
use Rattle.std.specs.Str.{bytes_eq}
use Rattle.std.proofs.lemmas.Bool.Decides.{nat_tests}
use Rattle.lnfs_types.specs.declared.event.Moment.{Moment}
use Rattle.lnfs_world.specs.Effects.{next_id}
use Rattle.lnfs_world.specs.World.{Id, Client, Node, Open, World, same_id, last_of, is_given}
use Rattle.lnfs_world.specs.Outcome.{Place}
use Rattle.lnfs_world.proofs.Keys.{id_same, id_itself, bytes_itself}
use Rattle.lnfs_world.proofs.Rows.{all_find}
use Rattle.lnfs_ranges.specs.declared.range.LockRange.{LockRange}
use Rattle.lnfs_ranges.specs.Modes.{conflicts}
use Rattle.lnfs_open.specs.Lists as opens
use Rattle.lnfs_session.specs.Standing as sessions
use Rattle.lnfs_open.specs.Listed.{node_id, client_id}
use Rattle.lnfs_locks.specs.Arguments.{Asked}
use Rattle.lnfs_locks.specs.Locks.{Lock, Locks, client_of}
use Rattle.lnfs_locks.specs.Denial.{Asker, is_own}
use Rattle.lnfs_locks.specs.Ranges.{for_write, last_asked}
use Rattle.lnfs_locks.specs.Effects.{locked, kept_with, gone_by_locking}
use Rattle.lnfs_locks.specs.Facts.{LockFacts}
use Rattle.lnfs_locks.specs.Lock.{asker}
use Rattle.lnfs_locking.specs.Keys.{id_of}
use Rattle.lnfs_locking.specs.declared.keys.LockRow.{LockRow}
use Rattle.lnfs_locking.specs.Rows.{lock_of, lock_at, with_ranges}
use Rattle.lnfs_byte_locks.specs.declared.taking.Taken.{Taken}
use Rattle.lnfs_byte_locks.specs.Standing.{is_found, is_leased_by, is_in_way, goes_by}
use Rattle.lnfs_byte_locks.specs.declared.standing.Going.{Going}
use Rattle.lnfs_byte_locks.specs.Going.{goes, Keeps}
use Rattle.lnfs_byte_locks.specs.Taking.{IsBefore, IsTaken}
use Rattle.lnfs_byte_locks.proofs.LiveLocks.{going_gone}

-- ---- the next number of a level

pub next_is_new : (lasts : List Id) (level : ℕ) → is_given lasts (next_id lasts level) ≡ false
next_is_new lasts level = by (last_of level lasts)
  where
    by : (n : ℕ) → nat_le (n + 1) n ≡ false
    by n = grind (arith, nat_tests)

pub not_there : (i : Id) (lasts : List Id) → is_given lasts i ≡ false → (locks : List Lock) → AllByRecursion (λ l. is_given lasts l.id ≡ true) locks → lock_at locks i ≡ None
not_there i lasts new [] all = refl
not_there i lasts new (l ∷ locks) all = by (same_id i l.id) refl (not_there i lasts new locks all.1)
  where
    by : (b : Bool) → same_id i l.id ≡ b → lock_at locks i ≡ None → (if b then Some l else lock_at locks i) ≡ None
    by true is rest = let given : is_given lasts i ≡ true = ap (is_given lasts) (id_same i l.id is) ∙ all.0 in absurd (cc)
    by false is rest = rest

-- ---- it stays

own_stays : (opens : List Open) (clients : List Client) (moment : Moment) (who : Asker) (node : Id) (first last : ℕ) (write : Bool) (l : Lock) →
    is_found opens l ≡ true → is_own who l ≡ true → goes_by opens clients moment who node first last write l ≡ false
own_stays opens clients moment who node first last write l found own =
    ap (λ (b : Bool). not b || (not (is_leased_by clients moment l) && is_in_way who node first last write l)) found
    ∙ ap (λ (b : Bool). not (is_leased_by clients moment l) && (same_id node l.node && (not b && is_some (find (conflicts first last write) l.ranges)))) own
    ∙ by (is_leased_by clients moment l) (same_id node l.node)
  where
    by : (a b : Bool) → (not a && (b && false)) ≡ false
    by true b = refl
    by false true = refl
    by false false = refl

module _ (w : World) (own : Locks) (facts : LockFacts w own) (a : Asked) (p : Place) (client : ℕ) (n : Node) (l : Lock) (x : Taken) (ranges : List LockRange)
    (taken : IsTaken a own p w client n l x ranges) where
  -- as the code tells who asks
  abbrev pub who : Asker
  who = record { subject = p.subject; client = client_id x.client; owner = x.owner }

  level_is : l.id.level ≡ p.subject
  level_is = ap (λ (i : Id). i.level) taken.id ∙ taken.level

  clients_same : client_id x.client ≡ client_of l
  clients_same = (λ i. record { level = (taken.client_level ∙ sym level_is) i; number = sym taken.client_is i })

  is_its_own : is_own who l ≡ true
  is_its_own =
      ap (λ (c : Id). same_id c (client_of l) && bytes_eq l.owner x.owner) clients_same
      ∙ ap (λ (b : Bool). b && bytes_eq l.owner x.owner) (id_itself (client_of l))
      ∙ ap (λ (o : List ℕ). bytes_eq o x.owner) taken.owner
      ∙ bytes_itself x.owner

  pub stays : (moment : Moment) (clients : List Client) (node : Id) (first last : ℕ) (write : Bool) →
      goes_by w.opens clients moment who node first last write (with_ranges x.seq ranges l) ≡ false
  stays moment clients node first last write = own_stays w.opens clients moment who node first last write (with_ranges x.seq ranges l) taken.found is_its_own

  same_asker : who ≡ asker p client l.owner
  same_asker = (λ i. record { subject = p.subject; client = record { level = taken.client_level i; number = taken.asking i }; owner = sym taken.owner i })

  -- the locks that go are those that are defined
  pub gone_same : filter (λ y. y.id.level == l.id.level && goes_by w.opens w.clients p.moment who (node_id x.node) x.wanted.first x.wanted.last x.wanted.write y) own.locks
      ≡ gone_by_locking w p.moment (asker p client l.owner) n.id a own.locks
  gone_same =
      ap (λ (level : ℕ). filter (λ y. y.id.level == level && goes_by w.opens w.clients p.moment who (node_id x.node) x.wanted.first x.wanted.last x.wanted.write y) own.locks) level_is
      ∙ ap (λ (f : ℕ). filter (λ y. y.id.level == p.subject && goes_by w.opens w.clients p.moment who (node_id x.node) f x.wanted.last x.wanted.write y) own.locks) taken.first
      ∙ ap (λ (f : ℕ). filter (λ y. y.id.level == p.subject && goes_by w.opens w.clients p.moment who (node_id x.node) a.offset f x.wanted.write y) own.locks) taken.last
      ∙ ap (λ (b : Bool). filter (λ y. y.id.level == p.subject && goes_by w.opens w.clients p.moment who (node_id x.node) a.offset (last_asked a) b y) own.locks) taken.write
      ∙ going_gone w own facts p.moment who (node_id x.node) a
      ∙ ap (λ (q : Asker). gone_by_locking w p.moment q (node_id x.node) a own.locks) same_asker
      ∙ ap (λ (i : Id). gone_by_locking w p.moment (asker p client l.owner) i a own.locks) taken.node

  pub kept_same : kept_with (with_ranges x.seq ranges l) (filter (λ y. y.id.level == l.id.level && goes_by w.opens w.clients p.moment who (node_id x.node) x.wanted.first x.wanted.last x.wanted.write y) own.locks) own
      ≡ kept_with (locked a l) (gone_by_locking w p.moment (asker p client l.owner) n.id a own.locks) own
  kept_same = (λ i. kept_with (sym taken.state i) (gone_same i) own)

  -- it may be kept where it stays
  abbrev pub keeps : (g : Going) → goes g (with_ranges x.seq ranges l) ≡ false → Keeps own x ranges g
  keeps g stay = record {
    lock = l;
    before = subst (λ (level : ℕ). IsBefore own level x x.opening l) (sym taken.client_level) taken.before;
    level = taken.client_level ∙ sym taken.level;
    id = taken.id;
    given = facts.given;
    stays = stay;
  }

  -- ---- by what the code has of who asks and of what is kept

  module _ (s : opens.Lists) (t : sessions.Lists) (name : List ℕ) (same : s ≡ opens.lists_of w) (alike : t ≡ sessions.lists_of w) (named : name ≡ x.owner) where
    abbrev gone_by : Lock → Bool
    gone_by y =
        goes_by s.opens t.clients p.moment (record { subject = p.subject; client = client_id x.client; owner = name }) (node_id x.node)
        x.wanted.first x.wanted.last x.wanted.write y

    pub code_stays : gone_by (with_ranges x.seq ranges l) ≡ false
    code_stays =
        (λ i. goes_by (same i).opens (alike i).clients p.moment (record { subject = p.subject; client = client_id x.client; owner = named i }) (node_id x.node)
        x.wanted.first x.wanted.last x.wanted.write (with_ranges x.seq ranges l))
        ∙ stays p.moment w.clients (node_id x.node) x.wanted.first x.wanted.last x.wanted.write

    pub code_kept : (new : Locks) → new ≡ kept_with (with_ranges x.seq ranges l) (filter (λ y. y.id.level == x.id.level && gone_by y) own.locks) own →
        new ≡ kept_with (locked a l) (gone_by_locking w p.moment (asker p client l.owner) n.id a own.locks) own
    code_kept new is =
        is
        ∙ (λ i. kept_with (with_ranges x.seq ranges l) (filter (λ y. y.id.level == (sym taken.id i).level
        && goes_by (same i).opens (alike i).clients p.moment (record { subject = p.subject; client = client_id x.client; owner = named i }) (node_id x.node)
        x.wanted.first x.wanted.last x.wanted.write y) own.locks) own)
        ∙ kept_same

-- ---- a new lock as a row

pub new_row : (i : Id) (row : LockRow) (l : Lock) →
    l ≡ record { id = i; client = row.client.number; opening = row.opening; owner = row.owner; node = node_id row.node; sequence = 0; ranges = [] } → lock_of i row ≡ with_ranges row.seq row.ranges l
new_row i row l is = sym (ap (with_ranges row.seq row.ranges) is)

module _ (own : Locks) (x : Taken) (ranges : List LockRange) (g : Going) (k : Keeps own x ranges g) (opening : ℕ) (comes : x.opening ≡ Some opening) where
  new_before : IsBefore own x.client.level.0 x (Some opening) k.lock
  new_before = subst (λ (o : Option ℕ). IsBefore own x.client.level.0 x o k.lock) comes k.before

  pub new_fresh : is_given own.lasts (id_of x.id) ≡ false
  new_fresh = ap (is_given own.lasts) new_before.0 ∙ next_is_new own.lasts x.client.level.0

  pub new_absent : lock_at own.locks (id_of x.id) ≡ None
  new_absent = not_there (id_of x.id) own.lasts new_fresh own.locks k.given

  pub row_is : (row : LockRow) → row.client ≡ x.client → row.opening ≡ opening → row.owner ≡ x.owner → row.node ≡ x.node → row.seq ≡ x.seq → row.ranges ≡ ranges →
      lock_of (id_of x.id) row ≡ with_ranges x.seq ranges k.lock
  row_is row client open_is owner node seq list =
      new_row (id_of x.id) row k.lock
      (new_before.1 ∙ (λ i. record { id = id_of x.id; client = (sym client i).number; opening = sym open_is i; owner = sym owner i; node = node_id (sym node i); sequence = 0; ranges = [] }))
      ∙ (λ i. with_ranges (seq i) (list i) k.lock)

-- one that is there
module _ (own : Locks) (x : Taken) (ranges : List LockRange) (g : Going) (k : Keeps own x ranges g) (stays_there : x.opening ≡ None) where
  pub old_there : lock_at own.locks (id_of x.id) ≡ Some k.lock
  old_there = subst (λ (o : Option ℕ). IsBefore own x.client.level.0 x o k.lock) stays_there k.before

  pub old_given : is_given own.lasts k.lock.id ≡ true
  old_given = (all_find (λ y. is_given own.lasts y.id ≡ true) _ own.locks k.lock k.given old_there).0
