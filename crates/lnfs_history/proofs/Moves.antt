-- Each kind of step keeps the history.
use Rattle.std.proofs.Common.{◌≡◌, ◌≢◌, ℕ, zero, suc, ◌+◌, ◌<◌, ◌≤◌, List, [], ◌∷◌, ◌++◌, length, set, true, false, true≢false, refl, sym, ap, ◌∙◌, subst, ⊎_elim, arith}
use mathlib.Core.Option.{none, some, some-injective, some-ne-none}
use lib.ListN.{get_elem?}
use Rattle.atomic_table.specs.Table.{State, Me, step, keeps, opening, Allows, Splits, Joins}
use Rattle.atomic_table.specs.Seated.{TableId}
use Rattle.atomic_table.proofs.Lists.{at_set}
use Rattle.lnfs_history.specs.declared.entry.Entry.{Entry}
use Rattle.lnfs_history.specs.declared.entry.View.{View}
use Rattle.lnfs_history.specs.Entries.{of}
use Rattle.lnfs_history.specs.Rules.{view_of, keeper, place, nobody, Fits, Kept, Added, Learned, with_entry, one_more, new_place, with_place, without_place, place_of}
use Rattle.lnfs_history.proofs.Parts.{of_here, of_else, moved, moved_here, moved_else, at_end}

abbrev Table : Type 0
Table = State (Unit {0}) View

off : false ≡ true → ⊥
off e = true≢false (sym e)

-- a view that neither keeps nor has anything fits everywhere
idle_fits : (seat : ℕ) (log : List Entry) (made : ℕ) (at : ℕ → ℕ) (by : ℕ) → Fits seat log made at by nobody
idle_fits seat log made at by = record { keeps = λ k. absurd (off k); has = λ k. absurd (off k) }

-- what is true of one view at its seat is true of an equal one
fits_as : (seat : ℕ) (log : List Entry) (made : ℕ) (at : ℕ → ℕ) (by there : ℕ) (v w : View) → by ≡ there → w ≡ v → Fits seat log made at there w → Fits seat log made at by v
fits_as seat log made at by there v w here same fits = subst (λ (y : ℕ × View). Fits seat log made at y.0 y.1) (λ i. (sym here i, same i)) fits

pub begins : Kept (opening {S = Unit {0}} (0 ∷ []) [] (keeper [] 0))
begins = record { seat = 0; log = []; made = 0; seat_of = λ _. 0; fits = one; none = λ link h. refl }
  where
    one : (by : ℕ) (v : View) → get_elem? (keeper [] 0 ∷ []) by ≡ some v → Fits 0 [] 0 (λ _. 0) by v
    one zero v e = subst (Fits 0 [] 0 (λ _. 0) 0) (some-injective _ _ e) (record { keeps = λ _. (refl, refl, refl); has = λ k. absurd (off k) })
    one (suc by) v e = absurd (some-ne-none v (sym e))

-- a keeper's view, with or without a place
abbrev Mine : ℕ → List Entry → ℕ → Table → Type 0
Mine id log made s = (h : Kept s) → (id ≡ h.seat) × (log ≡ h.log) × (made ≡ h.made)

mine : (id : ℕ) (v : View) (s : Table) → v.keeps ≡ true → get_elem? s.views id ≡ some v → Mine id v.log v.made s
mine id v s k at h = (h.fits id v at).keeps k

pub places : (id : ℕ) (log : List Entry) (made : ℕ) → Splits Kept id (keeper log made) (keeper log (made + 1)) (place made [])
places id log made s h at =
    let m = mine id (keeper log made) s refl at h in
    let n = length (set s.views id (keeper log (made + 1))) in
    let at' = moved h.seat_of made n in
    record {
      seat = h.seat;
      log = h.log;
      made = h.made + 1;
      seat_of = at';
      fits = λ by u e. ⊎_elim
          (λ (old : get_elem? (set s.views id (keeper log (made + 1))) by ≡ some u).
          ⊎_elim
          (λ (x : (by ≡ id) × (keeper log (made + 1) ≡ u)). fits_as h.seat h.log (h.made + 1) at' by id u (keeper log (made + 1)) x.0 x.1
          (record { keeps = λ _. (m.0, m.1, ap (λ (k : ℕ). k + 1) m.2); has = λ k. absurd (off k) }))
          (λ (x : (by ≢ id) × (get_elem? s.views by ≡ some u)). let f = h.fits by u x.1 in record {
            keeps = λ k. absurd (x.0 ((f.keeps k).0 ∙ sym m.0));
            has = λ k. let t = f.has k in let less : u.link < made = omega (arith, t.2, m.2) in
                (moved_else h.seat_of made n u.link (λ e'. omega (arith, e', less)) ∙ t.0, t.1, omega (arith, t.2));
          })
          (at_set s.views id by (keeper log (made + 1)) u old))
          (λ (new : (by ≡ n) × (place made [] ≡ u)). fits_as h.seat h.log (h.made + 1) at' by n u (place made []) new.0 new.1
          (record { keeps = λ k. absurd (off k); has = λ _. (moved_here h.seat_of made n, sym (h.none made (omega (arith, m.2))), omega (arith, m.2)) }))
          (at_end (set s.views id (keeper log (made + 1))) (place made []) u by e);
      none = λ link le. h.none link (omega (arith, le));
    }

-- two links whose seats differ are two
apart_links : (at : ℕ → ℕ) (i j by there : ℕ) → at i ≡ by → at j ≡ there → by ≢ there → i ≢ j
apart_links at i j by there p q not same = not (sym p ∙ ap at same ∙ q)

pub takes_in : (id : ℕ) (log : List Entry) (made other link : ℕ) (es : List Entry) → Joins Kept id (keeper log made) other (place link es) (view_of true log made true link es) nobody
takes_in id log made other link es s h at ne there =
    let w = view_of true log made true link es in
    let m = mine id (keeper log made) s refl at h in
    let theirs : get_elem? s.views other ≡ some (place link es) = ⊎_elim
    (λ (t : (other ≡ id) × (w ≡ place link es)). absurd (ne t.0))
    (λ (t : (other ≢ id) × (get_elem? s.views other ≡ some (place link es))). t.1)
    (at_set s.views id other w (place link es) there) in
    let had = (h.fits other (place link es) theirs).has refl in
    let at' = moved h.seat_of link id in
    record {
      seat = h.seat;
      log = h.log;
      made = h.made;
      seat_of = at';
      fits = λ by u e. ⊎_elim
          (λ (x : (by ≡ other) × (nobody ≡ u)). fits_as h.seat h.log h.made at' by other u nobody x.0 x.1 (idle_fits h.seat h.log h.made at' other))
          (λ (x : (by ≢ other) × (get_elem? (set s.views id w) by ≡ some u)). ⊎_elim
          (λ (y : (by ≡ id) × (w ≡ u)). fits_as h.seat h.log h.made at' by id u w y.0 y.1
          (record { keeps = λ _. m; has = λ _. (moved_here h.seat_of link id, had.1, had.2) }))
          (λ (y : (by ≢ id) × (get_elem? s.views by ≡ some u)). let f = h.fits by u y.1 in record {
            keeps = λ k. absurd (y.0 ((f.keeps k).0 ∙ sym m.0));
            has = λ k. let t = f.has k in
                (moved_else h.seat_of link id u.link (apart_links h.seat_of u.link link by other t.0 had.0 x.0) ∙ t.0, t.1, t.2);
          })
          (at_set s.views id by w u x.1))
          (at_set (set s.views id w) other by nobody u e);
      none = h.none;
    }

pub adds : (slots id : ℕ) (log : List Entry) (made link : ℕ) (es : List Entry) (e : Entry) → e.event.link ≡ link
    → Allows Kept slots id (view_of true log made true link es, []) 0 (λ n. n) (Added e (step slots 0 0 0 none) (view_of true log made true link es, []))
adds slots id log made link es e is s h long at small =
    let v = view_of true log made true link es in
    let w = with_entry e v in
    let m = mine id v s refl at h in
    let had = (h.fits id v at).has refl in (
      w,
      keeps,
      tt,
      record {
        seat = h.seat;
        log = h.log ++ e ∷ [];
        made = h.made;
        seat_of = h.seat_of;
        fits = λ by u there. ⊎_elim
            (λ (x : (by ≡ id) × (w ≡ u)). fits_as h.seat (h.log ++ e ∷ []) h.made h.seat_of by id u w x.0 x.1 (record {
              keeps = λ _. (m.0, ap (λ l. l ++ e ∷ []) m.1, m.2);
              has = λ _. (had.0, ap (λ l. l ++ e ∷ []) had.1 ∙ sym (of_here link h.log e is), had.2);
            }))
            (λ (x : (by ≢ id) × (get_elem? s.views by ≡ some u)). let f = h.fits by u x.1 in record {
              keeps = λ k. absurd (x.0 ((f.keeps k).0 ∙ sym m.0));
              has = λ k. let t = f.has k in
                  (t.0, t.1 ∙ sym (of_else u.link h.log e (λ same. apart_links h.seat_of u.link link by id t.0 had.0 x.0 (same ∙ is))), t.2);
            })
            (at_set s.views id by w u there);
        none = λ i le. of_else i h.log e (λ same. let less : link < h.made = had.2 in omega (arith, same, is, le, less)) ∙ h.none i le;
      },
      refl,
    )

pub parts : (id : ℕ) (log : List Entry) (made link : ℕ) (es : List Entry) → Splits Kept id (view_of true log made true link es) (keeper log made) (place link es)
parts id log made link es s h at =
    let v = view_of true log made true link es in
    let w = keeper log made in
    let m = mine id v s refl at h in
    let had = (h.fits id v at).has refl in
    let n = length (set s.views id w) in
    let at' = moved h.seat_of link n in
    record {
      seat = h.seat;
      log = h.log;
      made = h.made;
      seat_of = at';
      fits = λ by u e. ⊎_elim
          (λ (old : get_elem? (set s.views id w) by ≡ some u).
          ⊎_elim
          (λ (x : (by ≡ id) × (w ≡ u)). fits_as h.seat h.log h.made at' by id u w x.0 x.1 (record { keeps = λ _. m; has = λ k. absurd (off k) }))
          (λ (x : (by ≢ id) × (get_elem? s.views by ≡ some u)). let f = h.fits by u x.1 in record {
            keeps = λ k. absurd (x.0 ((f.keeps k).0 ∙ sym m.0));
            has = λ k. let t = f.has k in (moved_else h.seat_of link n u.link (apart_links h.seat_of u.link link by id t.0 had.0 x.0) ∙ t.0, t.1, t.2);
          })
          (at_set s.views id by w u old))
          (λ (new : (by ≡ n) × (place link es ≡ u)). fits_as h.seat h.log h.made at' by n u (place link es) new.0 new.1
          (record { keeps = λ k. absurd (off k); has = λ _. (moved_here h.seat_of link n, had.1, had.2) }))
          (at_end (set s.views id w) (place link es) u by e);
      none = h.none;
    }

-- a seat has another view, which fits the history as it is
in_place : (id : ℕ) (w : View) (s now : Table) (h : Kept s) → now.views ≡ set s.views id w → Fits h.seat h.log h.made h.seat_of id w → Kept now
in_place id w s now h is fits = record {
  seat = h.seat;
  log = h.log;
  made = h.made;
  seat_of = h.seat_of;
  fits = λ by u there. ⊎_elim
      (λ (x : (by ≡ id) × (w ≡ u)). fits_as h.seat h.log h.made h.seat_of by id u w x.0 x.1 fits)
      (λ (x : (by ≢ id) × (get_elem? s.views by ≡ some u)). h.fits by u x.1)
      (at_set s.views id by w u (subst (λ (vs : List View). get_elem? vs by ≡ some u) is there));
  none = h.none;
}

pub learns : (slots id : ℕ) (log : List Entry) (made link : ℕ) (es : List Entry)
    → Allows Kept slots id (view_of true log made true link es, []) 0 (λ n. n) (Learned (step slots 0 0 0 none) (view_of true log made true link es, []))
learns slots id log made link es s h long at small =
    let v = view_of true log made true link es in
    let w = keeper log made in
    let m = mine id v s refl at h in
    let had = (h.fits id v at).has refl in (
      w,
      keeps,
      tt,
      in_place id w s _ h refl (record { keeps = λ _. m; has = λ k. absurd (off k) }),
      (
        refl,
        λ _. (had.1 ∙ ap (of link) (sym m.1), subst (λ (k : ℕ). link < k) (sym m.2) had.2),
        λ i le. ap (of i) m.1 ∙ h.none i (subst (λ (k : ℕ). k ≤ i) m.2 le),
      ),
    )

-- a keeper without a place learns the same of the other links
pub looks : (slots id : ℕ) (log : List Entry) (made : ℕ) → Allows Kept slots id (keeper log made, []) 0 (λ n. n) (Learned (step slots 0 0 0 none) (keeper log made, []))
looks slots id log made s h long at small =
    let w = keeper log made in
    let m = mine id w s refl at h in (
      w,
      keeps,
      tt,
      in_place id w s _ h refl (record { keeps = λ _. m; has = λ k. absurd (off k) }),
      (
        refl,
        λ k. absurd (off k),
        λ i le. ap (of i) m.1 ∙ h.none i (subst (λ (k : ℕ). k ≤ i) m.2 le),
      ),
    )

-- the same steps, of seats whose views are known by an equation
abbrev pub Seated : Type 0
Seated = Me (Unit {0}) View

abbrev pub both : List Entry → ℕ → ℕ → List Entry → Seated
both log made link es = (view_of true log made true link es, [])

pub places_as : (id : ℕ) (m : Seated) (log : List Entry) (made : ℕ) → m ≡ (keeper log made, []) → Splits Kept id m.0 (one_more m.0) (new_place m.0)
places_as id m log made is = subst (λ (u : Seated). Splits Kept id u.0 (one_more u.0) (new_place u.0)) (sym is) (places id log made)

joined : (m p n : Seated) (log : List Entry) (made link : ℕ) (es : List Entry) → m ≡ (keeper log made, []) → p ≡ (place link es, []) → n ≡ (with_place m.0 p.0, m.1) → n ≡ both log made link es
joined m p n log made link es is that made_one = made_one ∙ ap (λ (u : Seated). (with_place u.0 p.0, u.1)) is ∙ ap (λ (u : Seated). (with_place (keeper log made) u.0, [])) that

takes_in_as : (id other : ℕ) (m p : Seated) (log : List Entry) (made link : ℕ) (es : List Entry) → m ≡ (keeper log made, []) → p ≡ (place link es, []) → Joins Kept id m.0 other p.0 (with_place m.0 p.0) nobody
takes_in_as id other m p log made link es is that =
    subst (λ (u : Seated × Seated). Joins Kept id u.0.0 other u.1.0 (with_place u.0.0 u.1.0) nobody) (λ i. (sym is i, sym that i)) (takes_in id log made other link es)

-- what the table asks where a keeper takes a place in
pub can_take_in : (table mine theirs name : TableId) (id other : ℕ) (m p : Seated) (log : List Entry) (made link : ℕ) (es : List Entry) → table ≡ name → table.words ≡ 1 → mine ≡ name → theirs ≡ name → m ≡ (keeper log made, []) → p ≡ (place link es, [])
    → (mine ≡ table) × (theirs ≡ table) × (p.1 ≡ []) × (0 < table.words) × Joins Kept id m.0 other p.0 (with_place m.0 p.0) nobody
can_take_in table mine theirs name id other m p log made link es named one_word here there is that =
    (here ∙ sym named, there ∙ sym named, ap (λ (u : Seated). u.1) that, omega (arith, one_word), takes_in_as id other m p log made link es is that)

-- and what it asks of the step behind
pub taken_in : (table mine now name : TableId) (m p n : Seated) (log : List Entry) (made link : ℕ) (es : List Entry) → table ≡ name → table.words ≡ 1 → mine ≡ name → now ≡ mine → m ≡ (keeper log made, []) → p ≡ (place link es, []) → n ≡ (with_place m.0 p.0, m.1)
    → (now ≡ table) × (0 < table.words) × (n ≡ both log made link es)
taken_in table mine now name m p n log made link es named one_word here there is that made_one =
    (there ∙ here ∙ sym named, omega (arith, one_word), joined m p n log made link es is that made_one)

pub adds_as : (slots id : ℕ) (m : Seated) (log : List Entry) (made link : ℕ) (es : List Entry) (e : Entry) → m ≡ both log made link es → e.event.link ≡ link
    → Allows Kept slots id m 0 (λ n. n) (Added e (step slots 0 0 0 none) m)
adds_as slots id m log made link es e is same = subst (λ (u : Seated). Allows Kept slots id u 0 (λ n. n) (Added e (step slots 0 0 0 none) u)) (sym is) (adds slots id log made link es e same)

pub parts_as : (id : ℕ) (m : Seated) (log : List Entry) (made link : ℕ) (es : List Entry) → m ≡ both log made link es → Splits Kept id m.0 (without_place m.0) (place_of m.0)
parts_as id m log made link es is = subst (λ (u : Seated). Splits Kept id u.0 (without_place u.0) (place_of u.0)) (sym is) (parts id log made link es)

pub learns_as : (slots id : ℕ) (m : Seated) (log : List Entry) (made link : ℕ) (es : List Entry) → m ≡ both log made link es
    → Allows Kept slots id m 0 (λ n. n) (Learned (step slots 0 0 0 none) m)
learns_as slots id m log made link es is = subst (λ (u : Seated). Allows Kept slots id u 0 (λ n. n) (Learned (step slots 0 0 0 none) u)) (sym is) (learns slots id log made link es)

pub looks_as : (slots id : ℕ) (m : Seated) (log : List Entry) (made : ℕ) → m ≡ (keeper log made, []) → Allows Kept slots id m 0 (λ n. n) (Learned (step slots 0 0 0 none) m)
looks_as slots id m log made is = subst (λ (u : Seated). Allows Kept slots id u 0 (λ n. n) (Learned (step slots 0 0 0 none) u)) (sym is) (looks slots id log made)
