-- ALLOCATE, DEALLOCATE, SEEK and CLONE meet what further operations owe.
use Rattle.std.proofs.Common.{◌≡◌, ◌≤◌, ◌+◌, ℕ, Bool, true, false, cond, List, [], length, Ok, Err, inl, refl, ap, ◌∙◌, arith}
use Rattle.std.specs.Prelude.{◌==◌, ◌≢◌}
use Rattle.std.proofs.lemmas.Bool.Decides.{nat_tests}
use Rattle.std.proofs.Common.{length-append}
use Rattle.lnfs_calipso.specs.Label.{IsPreorderWithBottom}
use Rattle.lnfs_xdr.specs.Canon.{flag, long}
use Rattle.lnfs_xdr.specs.Reading.{Read as ReadOf, read}
use Rattle.lnfs_xdr.proofs.Sizes.{length-flag, length-long}
use Rattle.lnfs_arguments.specs.declared.statuses.TheConstants.{NFS4ERR_NOTSUPP}
use Rattle.lnfs_world.specs.World.{World}
use Rattle.lnfs_world.specs.Change.{Change, apply_all}
use Rattle.lnfs_world.specs.Erased.{erased}
use Rattle.lnfs_world.specs.Outcome.{Site, Place, Outcome, Stands, Footprint, is_place, done_to}
use Rattle.lnfs_world.specs.Both.{Both, both_seen, BothStand}
use Rattle.lnfs_world.specs.Lawful.{Lawful, deed_of}
use Rattle.lnfs_world.proofs.Beside.{both_same}
use Rattle.lnfs_world.proofs.ChangedNames.{place_left}
use Rattle.lnfs_world.proofs.Lawfulness.{lawful, tame}
use Rattle.lnfs_operations.specs.declared.Gate.TheVariants.{Outside}
use Rattle.lnfs_operations.specs.Chain.{Answer, Done, Refused, refuse}
use Rattle.lnfs_operations.specs.Extra.{spot_of, place_at, further_deed, IsRefused, IsTame, AreLawful}
use Rattle.lnfs_sparse_ops.specs.declared.numbers.TheConstants.{OP_ALLOCATE, OP_DEALLOCATE, OP_SEEK, OP_CLONE, PLAIN_BOUND, SEEK_BOUND}
use Rattle.lnfs_sparse_ops.specs.Arguments.{region_args, seek_args, clone_args, sparse_grammar}
use Rattle.lnfs_sparse_ops.specs.Allocate.{allocate}
use Rattle.lnfs_sparse_ops.specs.Deallocate.{deallocate}
use Rattle.lnfs_sparse_ops.specs.Seek.{Sought, seek, seek_text}
use Rattle.lnfs_sparse_ops.specs.Clone.{clone}
use Rattle.lnfs_sparse_ops.specs.Outcome.{bytes_of, told, plain, with_arguments, answered, said, sparse}
use Rattle.lnfs_sparse_ops.proofs.SetFiles.{AllSet, all_set_within, all_stay, stays_beside, stays_untouched, all_set_bounds}
use Rattle.lnfs_sparse_ops.proofs.SparseEnds.{answered_any}
use Rattle.lnfs_sparse_ops.proofs.SparseViews.{answered_view}

-- ---- what an outcome comes to

-- a refusal has a status other than 0, and changes nothing
abbrev pub Fails : Answer (List ℕ) → List Change → Type 0
Fails (Done bytes) changes = Unit {0}
Fails (Refused why) changes = ((why.status == 0) ≡ false) × (changes ≡ [])

-- what is known of an outcome, whatever it comes to
pub record Comes (p : Place) (w : World) (o : Outcome (Answer (List ℕ))) : Type 0 where
  pub place : o.place ≡ p
  pub set : AllSet p.subject w o.changes
  pub fails : Fails o.answer o.changes

pub comes : (site : Site) (number : ℕ) (arguments : List ℕ) (p : Place) (w : World) → Comes p w (answered site number arguments p w)
comes site number arguments p w = answered_any site p w (Comes p w)
    (record {
      plain = λ gate status is. record { place = refl; set = tt; fails = (is.failed, refl) };
      unread = λ n there off. record { place = refl; set = tt; fails = (refl, refl) };
      unwritten = λ n there off. record { place = refl; set = tt; fails = (refl, refl) };
    })
    (λ bytes changes set. record { place = refl; set = set; fails = tt }) number arguments

-- ---- how long results are

-- the bytes behind number and status
abbrev pub Fits : (most : ℕ) → Answer (List ℕ) → Type 0
Fits most (Done bytes) = length bytes + 8 ≤ most
Fits most (Refused why) = 8 ≤ most

bytes_fit : {R : Type 0} (most : ℕ) (text : R → List ℕ) → 8 ≤ most → ((r : R) → length (text r) + 8 ≤ most) → (x : Answer R) → Fits most (bytes_of text x)
bytes_fit most text least short (Done r) = short r
bytes_fit most text least short (Refused why) = least

seek_length : (s : Sought) → length (seek_text s) ≡ 12
unfolding seek_text
seek_length s =
    let a = length-flag s.eof in
    let b = length-long s.offset in
    let whole = length-append (flag s.eof) (long s.offset) in
    omega (arith, a, b, whole)

module _ (site : Site) (arguments : List ℕ) (p : Place) (w : World) where
  read_fits : {A : Type 0} (most : ℕ) (r : ReadOf ⊥ A) (next : A → Outcome (Answer (List ℕ))) → 8 ≤ most → ((args : A) → Fits most (next args).answer) → Fits most (with_arguments p r next).answer
  read_fits most (Ok x) next least is = is x.0
  read_fits most (Err stuck) next least is = least

  pub result_fits : (number : ℕ) → Fits (cond (number == OP_SEEK) SEEK_BOUND PLAIN_BOUND) (answered site number arguments p w).answer
  result_fits number = by (number == OP_ALLOCATE) (number == OP_DEALLOCATE) (number == OP_SEEK) (number == OP_CLONE)
    where
      least : (s : Bool) → 8 ≤ cond s SEEK_BOUND PLAIN_BOUND
      least true = omega arith
      least false = omega arith

      none : (s : Bool) (x : Answer (Unit {0})) → Fits (cond s SEEK_BOUND PLAIN_BOUND) (bytes_of (λ r. []) x)
      none s x = bytes_fit (cond s SEEK_BOUND PLAIN_BOUND) (λ r. []) (least s) (λ r. least s) x

      by : (a d s c : Bool) → Fits (cond s SEEK_BOUND PLAIN_BOUND) (cond a (with_arguments p (read region_args arguments) (λ args. plain (allocate site args p w)))
          (cond d (with_arguments p (read region_args arguments) (λ args. plain (deallocate site args p w)))
          (cond s (with_arguments p (read seek_args arguments) (λ args. told seek_text (seek site args p w)))
          (cond c (with_arguments p (read clone_args arguments) (λ args. plain (clone site args p w)))
          (refuse p Outside NFS4ERR_NOTSUPP))))).answer
      by true d s c = read_fits (cond s SEEK_BOUND PLAIN_BOUND) (read region_args arguments) _ (least s) (λ args. none s (allocate site args p w).answer)
      by false true s c = read_fits (cond s SEEK_BOUND PLAIN_BOUND) (read region_args arguments) _ (least s) (λ args. none s (deallocate site args p w).answer)
      by false false true c = read_fits SEEK_BOUND (read seek_args arguments) _ (least true) (λ args. bytes_fit SEEK_BOUND seek_text (least true) (λ r. (let long = seek_length r in omega (arith, long))) (seek site args p w).answer)
      by false false false true = read_fits PLAIN_BOUND (read clone_args arguments) _ (least false) (λ args. none false (clone site args p w).answer)
      by false false false false = least false

said_fits : (most : ℕ) (x : Answer (List ℕ)) → Fits most x → length (said x).bytes + 8 ≤ most
said_fits most (Done bytes) is = is
said_fits most (Refused why) is = is

-- ---- at a place of a COMPOUND

-- without its session
abbrev pub spot : Place → Place
spot p = place_at (spot_of p)

spot_stands : (dom : ℕ → ℕ → Bool) (p : Place) (w : World) → Stands dom p w → Stands dom (spot p) w
spot_stands dom p w stands = record { facts = stands.facts; place = (let place = stands.place in grind (arith, place)) }

module _ (site : Site) (lattice : IsPreorderWithBottom site.dom) (number : ℕ) (arguments : List ℕ) where
  footprint : Footprint site.dom (answered site number arguments)
  footprint p w stands =
      let is = comes site number arguments p w in
      let o : Outcome (Answer (List ℕ)) = answered site number arguments p w in
      record {
        within = all_set_within site.dom p.subject o.changes w is.set;
        place = ap (is_place site.dom (done_to w o)) is.place ∙ place_left site.dom p w (done_to w o) (stays_beside w (done_to w o) (all_stay p.subject o.changes w is.set)) stands.place;
        subject = ap (λ (q : Place). q.subject) is.place;
      }

  law : Lawful site.dom (erased site.dom) (Stands site.dom) (deed_of (answered site number arguments))
  law = lawful site.dom lattice (answered site number arguments) (answered_view site lattice number arguments) footprint

  abbrev at : Place → World → Outcome (Answer (List ℕ))
  at p w = answered site number arguments (spot p) w

  stays_place : (p : Place) (w : World) → Stands site.dom p w → is_place site.dom (done_to w (at p w)) p ≡ true
  stays_place p w stands =
      let set = (comes site number arguments (spot p) w).set in
      place_left site.dom p w (done_to w (at p w)) (stays_beside w (done_to w (at p w)) (all_stay p.subject (at p w).changes w set)) stands.place

  pub sparse_lawful : Lawful site.dom (both_seen sparse.level_of site.dom) (BothStand sparse.Fact site.dom) (further_deed sparse site number arguments)
  sparse_lawful = record {
    answer = λ level p a b above sa sb e. ap said (law.answer level (spot p) a.world b.world above (spot_stands site.dom p a.world sa.world) (spot_stands site.dom p b.world sb.world) (ap (λ (x : Both ⊥). x.world) e));
    place = λ level p a b above sa sb e. refl;
    seen = λ level p a b above sa sb e. both_same _ _ (law.seen level (spot p) a.world b.world above (spot_stands site.dom p a.world sa.world) (spot_stands site.dom p b.world sb.world) (ap (λ (x : Both ⊥). x.world) e)) (ap (λ (x : Both ⊥). x.own) e);
    unseen = λ level p a apart stands. both_same _ _ (law.unseen level (spot p) a.world apart (spot_stands site.dom p a.world stands.world)) refl;
    stands = λ p a stands. record {
      world = record { facts = (law.stands (spot p) a.world (spot_stands site.dom p a.world stands.world)).facts; place = stays_place p a.world stands.world };
      own = tt;
    };
    subject = λ p a stands. refl;
  }

  refused_at : (p : Place) (a : Both ⊥) (o : Outcome (Answer (List ℕ))) → Fails o.answer o.changes → IsRefused p a (record { answer = said o.answer; place = p; state = record { world = apply_all o.changes a.world; own = a.own } }) (said o.answer).refusal
  refused_at p a o fails = by o.answer fails
    where
      by : (x : Answer (List ℕ)) → Fails x o.changes → IsRefused p a (record { answer = said x; place = p; state = record { world = apply_all o.changes a.world; own = a.own } }) (said x).refusal
      by (Done bytes) is = tt
      by (Refused why) is = (nonzero why.status is.0, refl, ap (λ cs. record { world = apply_all cs a.world; own = a.own }) is.1)
        where
          nonzero : (status : ℕ) → (status == 0) ≡ false → status ≢ 0
          nonzero status is e = grind (arith, nat_tests, is, e)

  pub sparse_tame : (p : Place) (a : Both ⊥) → BothStand sparse.Fact site.dom p a → IsTame sparse site (sparse_grammar.bound number arguments) p a (further_deed sparse site number arguments p a)
  sparse_tame p a stands =
      let is = comes site number arguments (spot p) a.world in
      let o : Outcome (Answer (List ℕ)) = at p a.world in
      record {
        untouched = stays_untouched a.world (done_to a.world o) (all_stay p.subject o.changes a.world is.set);
        tame = tame site.dom lattice (answered site number arguments) (answered_view site lattice number arguments) footprint (spot p) a.world (spot_stands site.dom p a.world stands.world);
        bounds = λ labels level bounds. all_set_bounds site lattice p.subject o.changes a.world stands.world.facts is.set bounds;
        moved = record { current = inl refl; saved = inl refl };
        refused = refused_at p a o is.fails;
        bound = said_fits (sparse_grammar.bound number arguments) o.answer (result_fits site arguments (spot p) a.world number);
      }

pub sparse_is_lawful : AreLawful sparse
sparse_is_lawful = record {
  begins = λ w. tt;
  bears = λ a b rows tame fact. tt;
  laws = λ site lattice number arguments. sparse_lawful site lattice number arguments;
  tame = λ site lattice number arguments p a stands. sparse_tame site lattice number arguments p a stands;
}
