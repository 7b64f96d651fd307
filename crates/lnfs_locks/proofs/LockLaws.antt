-- LOCK, LOCKT and LOCKU meet what further operations owe.
use Rattle.std.proofs.Common.{◌≡◌, ◌≤◌, ◌+◌, ℕ, Bool, true, false, cond, not, ◌||◌, List, [], ◌++◌, length, length-append, Ok, Err, inl, refl, sym, ap, subst, arith}
use Rattle.std.specs.Prelude.{◌==◌, nat_le}
use Rattle.std.proofs.lemmas.Bool.{eqb-true}
use Rattle.lnfs_calipso.specs.Label.{IsPreorderWithBottom}
use Rattle.lnfs_xdr.specs.Canon.{word, long, opaque, padded}
use Rattle.lnfs_xdr.specs.Format.{padding}
use Rattle.lnfs_xdr.specs.Reading.{Read, read}
use Rattle.lnfs_xdr.proofs.Sizes.{length-word, length-long, length-padded, length-opaque}
use Rattle.lnfs_arguments.specs.declared.numbers.TheConstants.{OWNER_LIMIT}
use Rattle.lnfs_arguments.specs.Identifiers.{client_id}
use Rattle.lnfs_arguments.specs.SharedTexts.{state_id_text}
use Rattle.lnfs_world.specs.World.{World, node_at, is_directory}
use Rattle.lnfs_world.specs.Outcome.{Site, Place, Outcome}
use Rattle.lnfs_world.specs.Both.{Both, both_seen, BothStand}
use Rattle.lnfs_world.specs.Lawful.{Lawful}
use Rattle.lnfs_world.specs.Tame.{Tame}
use Rattle.lnfs_world.proofs.Tamed.{tame_itself}
use Rattle.lnfs_operations.specs.Bounds.{Bounds}
use Rattle.lnfs_operations.specs.Chain.{Answer, Done, Refused}
use Rattle.lnfs_operations.specs.Extra.{spot_of, place_at, turned, further_deed, Untouched, IsRefused, IsTame, AreLawful}
use Rattle.lnfs_operations.specs.Handles.{handle_of, handle_named}
use Rattle.lnfs_operations.specs.Lookup.{is_link}
use Rattle.lnfs_operations.proofs.Chains.{demand_any, where_any}
use Rattle.lnfs_beside.proofs.SidesLaws.{lefts-both, rights-both}
use Rattle.lnfs_locks.specs.declared.numbers.TheConstants.{OP_LOCKU, LOCK_BOUND, LOCKU_BOUND}
use Rattle.lnfs_locks.specs.Arguments.{LockUArgs, locku_args, lock_grammar}
use Rattle.lnfs_locks.specs.Locks.{Lock, Locks, Row, rows_of, locks_of, level_of, opening_of}
use Rattle.lnfs_locks.specs.Denial.{Denial, length_told, kind_told, denial_text}
use Rattle.lnfs_locks.specs.StateIds.{told_id, state_of, lock_at}
use Rattle.lnfs_locks.specs.Ranges.{is_kind, is_range}
use Rattle.lnfs_locks.specs.Effects.{Came, Denied, Free, Holds, unlocked, has_ranges_left, kept_with}
use Rattle.lnfs_locks.specs.Facts.{LockFacts, AreKept}
use Rattle.lnfs_locks.specs.LockU.{locku}
use Rattle.lnfs_locks.specs.Outcome.{with_arguments, concluded, answered, locking}
use Rattle.lnfs_locks.proofs.Conclusions.{world_stays, current_stays, saved_stays}
use Rattle.lnfs_locks.proofs.LockBears.{kept_still}
use Rattle.lnfs_locks.proofs.LockErasure.{said_same, current_same, saved_same, seen_same, unseen_same}
use Rattle.lnfs_locks.proofs.LockSound.{IsSound, sound}

-- ---- nothing stands in the way of an unlocking

abbrev IsFree : Answer Came → Type 0
IsFree (Refused why) = Unit {0}
IsFree (Done (Denied d)) = ⊥
IsFree (Done Free) = Unit {0}
IsFree (Done (Holds l gone)) = Unit {0}

unlocking_free : (args : LockUArgs) (own : Locks) (p : Place) (w : World) → IsFree (locku args own p w).answer
unlocking_free args own p w =
    let P : Outcome (Answer Came) → Type 0 = λ o. IsFree o.answer in
    demand_any P (is_kind args.asked.kind) _ _ tt (λ kind.
    demand_any P (is_range args.asked) _ _ tt (λ range.
    where_any P p.current _ _ (λ i handle.
    where_any P (node_at w.nodes i) _ _ (λ n there.
    demand_any P (not (is_directory n.kind)) _ _ tt (λ file.
    demand_any P (not (is_link n.kind)) _ _ tt (λ plain.
    demand_any P ((handle_named args.lock.other).level == p.subject) _ _ tt (λ level.
    where_any P (lock_at p own.locks n (handle_named args.lock.other)) _ _ (λ l found.
    where_any P (opening_of w l) _ _ (λ o opened.
    demand_any P (nat_le args.lock.seqid l.sequence) _ _ tt (λ known.
    demand_any P (args.lock.seqid == 0 || args.lock.seqid == l.sequence) _ _ tt (λ now.
    demand_any P (has_ranges_left w (unlocked args.asked l) own.locks) _ _ tt (λ ranges. tt)))) tt) tt)))) tt) tt))

unlock_free : (site : Site) (number : ℕ) (arguments : List ℕ) (own : Locks) (p : Place) (w : World) → (number == OP_LOCKU) ≡ true → IsFree (answered site number arguments own p w)
unlock_free site number arguments own p w is =
    let this : number ≡ OP_LOCKU = eqb-true number OP_LOCKU is in
    subst (λ n. IsFree (answered site n arguments own p w)) (sym this) (read_free (read locku_args arguments))
  where
    read_free : (r : Read ⊥ LockUArgs) → IsFree (with_arguments r (λ args. (locku args own p w).answer))
    read_free (Ok x) = unlocking_free x.0 own p w
    read_free (Err stuck) = tt

-- ---- how long results are

state_id_length : (l : Lock) → length (state_id_text (state_of l)) ≡ 16
unfolding state_id_text
state_id_length l =
    let i = told_id l.id in
    let other = length-append (word i.level) (long i.number) in
    let a = length-word i.level in
    let b = length-long i.number in
    let handle : length (handle_of i) ≡ 12 = omega (arith, other, a, b) in
    let filled = length-padded (handle_of i) in
    let pad : padding (length (handle_of i)) ≡ 0 = ap padding handle in
    let c = length-word l.sequence in
    let whole = length-append (word l.sequence) (padded (handle_of i)) in
    omega (arith, handle, filled, pad, c, whole)

pad_few : (n : ℕ) → n + padding n ≤ n + 3
pad_few n = omega arith

padded_owner : (n : ℕ) → n ≤ OWNER_LIMIT → n + padding n ≤ 1024
padded_owner n short = omega (arith, short)

denial_length : (d : Denial) → length d.lock.owner ≤ OWNER_LIMIT → length (denial_text d) ≤ 1056
unfolding denial_text
denial_length d short =
    let a = length-long d.range.first in
    let b = length-long (length_told d.range) in
    let c = length-word (kind_told d.range) in
    let e = length-long (client_id d.lock.id.level d.lock.client) in
    let f = length-opaque d.lock.owner in
    let few = padded_owner (length d.lock.owner) short in
    let one = length-append (long d.range.first) (long (length_told d.range)) in
    let two = length-append (long d.range.first ++ long (length_told d.range)) (word (kind_told d.range)) in
    let three = length-append (long d.range.first ++ long (length_told d.range) ++ word (kind_told d.range)) (long (client_id d.lock.id.level d.lock.client)) in
    let four = length-append (long d.range.first ++ long (length_told d.range) ++ word (kind_told d.range) ++ long (client_id d.lock.id.level d.lock.client)) (opaque d.lock.owner) in
    let whole : length (denial_text d) ≡ length (long d.range.first ++ long (length_told d.range) ++ word (kind_told d.range) ++ long (client_id d.lock.id.level d.lock.client) ++ opaque d.lock.owner) = refl in
    omega (arith, whole, a, b, c, e, f, few, four, three, two, one)

-- ---- what is left

again : (own : Locks) → locks_of (rows_of own) ≡ own
again own = λ k. record { lasts = lefts-both own.lasts own.locks k; locks = rights-both own.lasts own.locks k }

kept_again : (w : World) (own : Locks) → LockFacts w own → AreKept w (rows_of own)
kept_again w own facts = record { facts = subst (LockFacts w) (sym (again own)) facts; order = ap rows_of (sym (again own)) }

module _ (site : Site) (lattice : IsPreorderWithBottom site.dom) (number : ℕ) (arguments : List ℕ) where
  abbrev answer_at : Place → Both Row → Answer Came
  answer_at p a = answered site number arguments (locks_of a.own) (place_at (spot_of p)) a.world

  sound_at : (p : Place) (a : Both Row) → BothStand AreKept site.dom p a → IsSound a.world (locks_of a.own) (answer_at p a)
  sound_at p a stands = sound (place_at (spot_of p)) a.world (locks_of a.own) stands.own.facts stands.world.facts.opens.rise stands.world.facts.opens.given site number arguments

  stands_after : (p : Place) (a : Both Row) → BothStand AreKept site.dom p a → (x : Answer Came) → IsSound a.world (locks_of a.own) x → BothStand AreKept site.dom (turned p (concluded x (spot_of p) a)).place (concluded x (spot_of p) a).state
  stands_after p a stands (Refused why) is = stands
  stands_after p a stands (Done (Denied d)) is = stands
  stands_after p a stands (Done Free) is = stands
  stands_after p a stands (Done (Holds l gone)) is = record { world = stands.world; own = kept_again a.world (kept_with l gone (locks_of a.own)) is }

  lawful : Lawful site.dom (both_seen level_of site.dom) (BothStand AreKept site.dom) (further_deed locking site number arguments)
  lawful = record {
    answer = λ level p a b above sa sb e. said_same site lattice number arguments level p above a b sa.world sb.world sa.own sb.own e;
    place = λ level p a b above sa sb e.
        (let current = current_same site lattice number arguments level p above a b sa.world sb.world sa.own sb.own e in
        let saved = saved_same site lattice number arguments level p above a b sa.world sb.world sa.own sb.own e in
        λ k. record p { current = current k; saved = saved k });
    seen = λ level p a b above sa sb e. seen_same site lattice number arguments level p above a b sa.world sb.world sa.own sb.own e;
    unseen = λ level p a apart stands. unseen_same site lattice number arguments level p apart a stands.own;
    stands = λ p a stands. stands_after p a stands (answer_at p a) (sound_at p a stands);
    subject = λ p a stands. refl;
  }

  refused_at : (p : Place) (a : Both Row) (x : Answer Came) → IsSound a.world (locks_of a.own) x → IsRefused p a (turned p (concluded x (spot_of p) a)) (concluded x (spot_of p) a).said.refusal
  refused_at p a (Refused why) is = (is, refl, refl)
  refused_at p a (Done (Denied d)) is = ((λ e. omega (arith, e)), refl, refl)
  refused_at p a (Done Free) is = tt
  refused_at p a (Done (Holds l gone)) is = tt

  bound_at : (p : Place) (a : Both Row) (x : Answer Came) (unlocks : Bool) → IsSound a.world (locks_of a.own) x → (unlocks ≡ true → IsFree x) → length (concluded x (spot_of p) a).said.bytes + 8 ≤ cond unlocks LOCKU_BOUND LOCK_BOUND
  bound_at p a (Refused why) true is free = omega arith
  bound_at p a (Refused why) false is free = omega arith
  bound_at p a (Done (Denied d)) true is free = absurd (free refl)
  bound_at p a (Done (Denied d)) false is free = let short = denial_length d is in omega (arith, short)
  bound_at p a (Done Free) true is free = omega arith
  bound_at p a (Done Free) false is free = omega arith
  bound_at p a (Done (Holds l gone)) true is free = let long = state_id_length l in omega (arith, long)
  bound_at p a (Done (Holds l gone)) false is free = let long = state_id_length l in omega (arith, long)

  tame : (p : Place) (a : Both Row) → BothStand AreKept site.dom p a → IsTame locking site (lock_grammar.bound number arguments) p a (further_deed locking site number arguments p a)
  tame p a stands =
      let x = answer_at p a in
      let same = sym (world_stays x (spot_of p) a) in
      record {
        untouched = subst (λ v. Untouched a.world v) same kept;
        tame = subst (λ v. Tame a.world v) same (tame_itself a.world);
        bounds = λ labels level bounds. subst (λ v. Bounds site v) same bounds;
        moved = record { current = inl (current_stays x (spot_of p) a); saved = inl (saved_stays x (spot_of p) a) };
        refused = refused_at p a x (sound_at p a stands);
        bound = bound_at p a x (number == OP_LOCKU) (sound_at p a stands) (λ is. unlock_free site number arguments (locks_of a.own) (place_at (spot_of p)) a.world is);
      }
    where
      kept : Untouched a.world a.world
      kept = record { clients = refl; sessions = refl; contexts = refl; last_clients = refl; last_sessions = refl; last_contexts = refl; labels = λ i l m here there. cc; new = λ i m none there. absurd cc }

begins : (w : World) → AreKept w []
begins w = record {
  facts = record { rise = tt; lasts_rise = tt; given = tt; opening_given = tt; under = tt; apart = tt; owners = tt; runs = tt; locks = λ level. omega arith; ranges = λ level. omega arith };
  order = refl;
}

pub locks_are_lawful : AreLawful locking
locks_are_lawful = record {
  begins = begins;
  bears = kept_still;
  laws = λ site lattice number arguments. lawful site lattice number arguments;
  tame = λ site lattice number arguments p a stands. tame site lattice number arguments p a stands;
}
