-- What a subject looks at of locks is what it sees of them.
use Rattle.std.proofs.Common.{◌≡◌, ℕ, Bool, true, false, cond, not, ◌&&◌, ◌||◌, List, [], ◌∷◌, Option, None, refl, sym, ap, ◌∙◌, arith}
use Rattle.std.specs.Prelude.{◌==◌, filter, find, is_some}
use Rattle.std.specs.Option.{option_or}
use Rattle.std.specs.Str.{bytes_eq}
use Rattle.std.proofs.lemmas.Bool.{and_parts}
use Rattle.std.proofs.lemmas.Bool.Decides.{nat_tests}
use Rattle.lnfs_calipso.specs.Label.{IsPreorderWithBottom}
use Rattle.lnfs_types.specs.declared.event.Moment.{Moment}
use Rattle.lnfs_world.specs.Rows.{kept, inserted}
use Rattle.lnfs_world.specs.Erased.{erased}
use Rattle.lnfs_world.specs.Outcome.{Place}
use Rattle.lnfs_world.specs.World.{Id, Node, Open, World, same_id, last_of}
use Rattle.lnfs_world.proofs.Keys.{id_same}
use Rattle.lnfs_world.proofs.Leases.{over_at-seen}
use Rattle.lnfs_world.proofs.Rows.{filter-kept}
use Rattle.lnfs_world.proofs.Views.{row_at-seen, last_of-seen}
use Rattle.lnfs_operations.specs.StateIds.{is_client}
use Rattle.lnfs_beside.proofs.SidesLaws.{lefts-filter, rights-filter}
use Rattle.lnfs_ranges.specs.Modes.{conflicts}
use Rattle.lnfs_locks.specs.Arguments.{Asked}
use Rattle.lnfs_locks.specs.Locks.{Lock, Locks, Row, level_of, locks_of, client_of, opening_id, opening_of, is_live, lock_order}
use Rattle.lnfs_locks.specs.Denial.{Asker, Denial, is_own, is_leased, is_rival, first_of, denied_by, denial, counts_at}
use Rattle.lnfs_locks.specs.StateIds.{told_id, lock_at}
use Rattle.lnfs_locks.specs.Ranges.{for_write, last_asked}
use Rattle.lnfs_locks.specs.Effects.{is_dead, gives_way, gone_by_locking, gone_by_unlocking, live_with}
use Rattle.lnfs_locks.specs.Lock.{lock_under}

-- ---- lists

pub kept_is_filter : {X : Type 0} (p : X → Bool) (xs : List X) → kept p (λ x. x) xs ≡ filter p xs
kept_is_filter p [] = refl
kept_is_filter p (x ∷ xs) = grind (arith, kept_is_filter p xs)

first_of-filter : {X Y : Type 0} (keep : X → Bool) (f : X → Option Y) → ((x : X) → keep x ≡ false → f x ≡ None) → (xs : List X) → first_of f (filter keep xs) ≡ first_of f xs
first_of-filter keep f none [] = refl
first_of-filter {X} {Y} keep f none (x ∷ xs) = at (keep x) refl (first_of-filter keep f none xs)
  where
    at : (b : Bool) → keep x ≡ b → first_of f (filter keep xs) ≡ first_of f xs → first_of f (cond b (x ∷ filter keep xs) (filter keep xs)) ≡ option_or (f x) (first_of f xs)
    at true is rest = ap (option_or (f x)) rest
    at false is rest = rest ∙ ap (λ o. option_or o (first_of f xs)) (sym (none x is))

module _ (dom : ℕ → ℕ → Bool) (s : ℕ) where
  -- what it sees of all that is kept
  abbrev pub seen_of : Locks → Locks
  seen_of own = record { lasts = filter (λ i. dom s i.level) own.lasts; locks = filter (λ l. dom s l.id.level) own.locks }

  pub rows_seen : (rows : List Row) → locks_of (filter (λ r. dom s (level_of r)) rows) ≡ seen_of (locks_of rows)
  rows_seen rows = λ k. record { lasts = lefts-filter (λ r. dom s (level_of r)) rows k; locks = rights-filter (λ r. dom s (level_of r)) rows k }

  find_seen : {X : Type 0} (key : X → Id) (q : X → Bool) → ((x : X) → q x ≡ true → dom s (key x).level ≡ true) → (xs : List X) → find q (filter (λ x. dom s (key x).level) xs) ≡ find q xs
  find_seen key q own xs = ap (find q) (sym (kept_is_filter (λ x. dom s (key x).level) xs)) ∙ row_at-seen dom s key q own xs

  filter_seen : {X : Type 0} (key : X → Id) (q : X → Bool) → ((x : X) → q x ≡ true → dom s (key x).level ≡ true) → (xs : List X) → filter q (filter (λ x. dom s (key x).level) xs) ≡ filter q xs
  filter_seen key q own xs = ap (filter q) (sym (kept_is_filter (λ x. dom s (key x).level) xs)) ∙ filter-kept _ _ q own (λ x is. refl) (λ x. refl) xs

  pub last_seen : (lasts : List Id) → dom s s ≡ true → last_of s (filter (λ i. dom s i.level) lasts) ≡ last_of s lasts
  last_seen lasts itself = ap (last_of s) (sym (kept_is_filter (λ i. dom s i.level) lasts)) ∙ last_of-seen dom s s itself lasts

module _ (dom : ℕ → ℕ → Bool) (lattice : IsPreorderWithBottom dom) (s : ℕ) (w : World) where
  abbrev seen_world : World
  seen_world = erased dom s w

  own_above : (level : ℕ) → (level == s) ≡ true → dom s level ≡ true
  own_above level is = grind (arith, nat_tests, is, lattice.reflexive s)

  -- ---- opens and leases

  pub opening_of-seen : (l : Lock) → dom s l.id.level ≡ true → opening_of seen_world l ≡ opening_of w l
  opening_of-seen l above = row_at-seen dom s (λ o. o.id) (λ o. same_id (opening_id l) o.id) (λ o is. ap (λ (j : Id). dom s j.level) (sym (id_same (opening_id l) o.id is)) ∙ above) w.opens

  pub is_live-seen : (l : Lock) → dom s l.id.level ≡ true → is_live seen_world l ≡ is_live w l
  is_live-seen l above = ap is_some (opening_of-seen l above)

  is_leased-seen : (moment : Moment) (l : Lock) → dom s l.id.level ≡ true → is_leased seen_world moment l ≡ is_leased w moment l
  is_leased-seen moment l above = ap not (over_at-seen dom s w moment (client_of l) above)

  counts_at-seen : (moment : Moment) (l : Lock) → dom s l.id.level ≡ true → counts_at seen_world moment l ≡ counts_at w moment l
  counts_at-seen moment l above = λ k. is_live-seen l above k && is_leased-seen moment l above k

  -- ---- locks of others

  module _ (moment : Moment) (client : Id) (owner : List ℕ) where
    abbrev who : Asker
    who = record { subject = s; client = client; owner = owner }

    is_rival-seen : (l : Lock) → is_rival dom (counts_at seen_world moment) who l ≡ is_rival dom (counts_at w moment) who l
    is_rival-seen l = at (dom s l.id.level) refl
      where
        at : (b : Bool) → dom s l.id.level ≡ b → (b && (not (is_own who l) && counts_at seen_world moment l)) ≡ (b && (not (is_own who l) && counts_at w moment l))
        at true above = ap (λ c. true && (not (is_own who l) && c)) (counts_at-seen moment l above)
        at false apart = refl

    pub denial-seen : (node : Id) (first last : ℕ) (write : Bool) (locks : List Lock) →
        denial (is_rival dom (counts_at seen_world moment) who) node first last write (filter (λ l. dom s l.id.level) locks) ≡ denial (is_rival dom (counts_at w moment) who) node first last write locks
    denial-seen node first last write locks =
        (λ k. denial (λ l. is_rival-seen l k) node first last write (filter (λ l. dom s l.id.level) locks))
        ∙ first_of-filter (λ l. dom s l.id.level) (λ l. cond (same_id node l.node) (denied_by (is_rival dom (counts_at w moment) who) first last write l) None) hidden locks
      where
        at : (b c : Bool) (d : Option Denial) → b ≡ false → cond {A = Option Denial} c (cond b d None) None ≡ None
        at b true d is = ap (λ t. cond {A = Option Denial} t d None) is
        at b false d is = refl

        none : (b rest : Bool) → b ≡ false → (b && rest) ≡ false
        none b rest is = ap (λ t. t && rest) is

        hidden : (l : Lock) → dom s l.id.level ≡ false → cond {A = Option Denial} (same_id node l.node) (denied_by (is_rival dom (counts_at w moment) who) first last write l) None ≡ None
        hidden l apart = at (is_rival dom (counts_at w moment) who l) (same_id node l.node) _ (none (dom s l.id.level) _ apart)

    -- ---- locks of the subject's level

    goes_alike : (node : Id) (a : Asked) (l : Lock) → (is_dead seen_world s l || gives_way seen_world moment who node a l) ≡ (is_dead w s l || gives_way w moment who node a l)
    goes_alike node a l = at (l.id.level == s) refl
      where
        rest : Bool
        rest = is_some (find (conflicts a.offset (last_asked a) (for_write a)) l.ranges)

        at : (b : Bool) → (l.id.level == s) ≡ b →
            (b && not (is_live seen_world l) || b && (same_id node l.node && (not (is_own who l) && (is_live seen_world l && (not (is_leased seen_world moment l) && rest)))))
            ≡ (b && not (is_live w l) || b && (same_id node l.node && (not (is_own who l) && (is_live w l && (not (is_leased w moment l) && rest)))))
        at true is =
            let live = is_live-seen l (own_above l.id.level is) in
            let leased = is_leased-seen moment l (own_above l.id.level is) in
            λ k. true && not (live k) || true && (same_id node l.node && (not (is_own who l) && (live k && (not (leased k) && rest))))
        at false is = refl

    goes_own : (node : Id) (a : Asked) (l : Lock) → (is_dead w s l || gives_way w moment who node a l) ≡ true → (l.id.level == s) ≡ true
    goes_own node a l is = either (l.id.level == s) _ _ is
      where
        either : (b x y : Bool) → (b && x || b && y) ≡ true → b ≡ true
        either true x y e = refl
        either false x y e = e

    pub gone_by_locking-seen : (node : Id) (a : Asked) (locks : List Lock) → gone_by_locking seen_world moment who node a (filter (λ l. dom s l.id.level) locks) ≡ gone_by_locking w moment who node a locks
    gone_by_locking-seen node a locks =
        (λ k. filter (λ l. goes_alike node a l k) (filter (λ l. dom s l.id.level) locks))
        ∙ filter_seen dom s (λ l. l.id) (λ l. is_dead w s l || gives_way w moment who node a l) (λ l is. own_above l.id.level (goes_own node a l is)) locks

  dead_alike : (l : Lock) → is_dead seen_world s l ≡ is_dead w s l
  dead_alike l = at (l.id.level == s) refl
    where
      at : (b : Bool) → (l.id.level == s) ≡ b → (b && not (is_live seen_world l)) ≡ (b && not (is_live w l))
      at true is = ap (λ t. true && not t) (is_live-seen l (own_above l.id.level is))
      at false is = refl

  pub gone_by_unlocking-seen : (locks : List Lock) → gone_by_unlocking seen_world s (filter (λ l. dom s l.id.level) locks) ≡ gone_by_unlocking w s locks
  gone_by_unlocking-seen locks =
      (λ k. filter (λ l. dead_alike l k) (filter (λ l. dom s l.id.level) locks))
      ∙ filter_seen dom s (λ l. l.id) (is_dead w s) (λ l is. own_above l.id.level (and_parts _ _ is).0) locks

  live_alike : (level : ℕ) → (level == s) ≡ true → (l : Lock) → (l.id.level == level && is_live seen_world l) ≡ (l.id.level == level && is_live w l)
  live_alike level own l = at (l.id.level == level) refl
    where
      at : (b : Bool) → (l.id.level == level) ≡ b → (b && is_live seen_world l) ≡ (b && is_live w l)
      at true is = ap (λ t. true && t) (is_live-seen l (own_above l.id.level (grind (arith, nat_tests, own, is))))
      at false is = refl

  pub live_with-seen : (l : Lock) (locks : List Lock) → (l.id.level == s) ≡ true → live_with seen_world l (filter (λ x. dom s x.id.level) locks) ≡ live_with w l locks
  live_with-seen l locks own = ap (inserted lock_order l) (
      (λ k. filter (λ x. live_alike l.id.level own x k) (filter (λ x. dom s x.id.level) locks))
      ∙ filter_seen dom s (λ x. x.id) (λ x. x.id.level == l.id.level && is_live w x) (λ x is. own_above x.id.level (let same : (x.id.level == l.id.level) ≡ true = (and_parts _ _ is).0 in grind (arith, nat_tests, own, same))) locks)

-- ---- look-ups among locks of the subject's level

pub lock_at-seen : (dom : ℕ → ℕ → Bool) → IsPreorderWithBottom dom → (p : Place) (locks : List Lock) (n : Node) (i : Id) → (i.level == p.subject) ≡ true → lock_at p (filter (λ l. dom p.subject l.id.level) locks) n i ≡ lock_at p locks n i
lock_at-seen dom lattice p locks n i own = find_seen dom p.subject (λ l. l.id) (λ l. same_id i (told_id l.id) && (is_client p.client l.client && same_id n.id l.node)) above locks
  where
    above : (l : Lock) → (same_id i (told_id l.id) && (is_client p.client l.client && same_id n.id l.node)) ≡ true → dom p.subject l.id.level ≡ true
    above l is = let same : (i.level == l.id.level) ≡ true = (and_parts _ _ (and_parts (same_id i (told_id l.id)) _ is).0).0 in grind (arith, nat_tests, own, same, lattice.reflexive p.subject)

pub lock_under-seen : (dom : ℕ → ℕ → Bool) → IsPreorderWithBottom dom → (p : Place) (locks : List Lock) (o : Open) (owner : List ℕ) → lock_under p (filter (λ l. dom p.subject l.id.level) locks) o owner ≡ lock_under p locks o owner
lock_under-seen dom lattice p locks o owner = find_seen dom p.subject (λ l. l.id) (λ l. same_id (record { level = p.subject; number = o.id.number }) (opening_id l) && bytes_eq l.owner owner) above locks
  where
    above : (l : Lock) → (same_id (record { level = p.subject; number = o.id.number }) (opening_id l) && bytes_eq l.owner owner) ≡ true → dom p.subject l.id.level ≡ true
    above l is = let same : (p.subject == l.id.level) ≡ true = (and_parts _ _ (and_parts (same_id (record { level = p.subject; number = o.id.number }) (opening_id l)) _ is).0).0 in grind (arith, nat_tests, same, lattice.reflexive p.subject)
