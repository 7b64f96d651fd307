-- A row more, as a loop writes it.
use Rattle.std.proofs.Common.{◌≡◌, ℕ, zero, suc, ◌+◌, ◌-◌, ◌<◌, ◌≤◌, ◌^◌, List, [], ◌∷◌, ◌++◌, length, map, take, get_or, sym, ap, subst, ◌∙◌, append_assoc, arith}
use Rattle.std.specs.List.{flat_map, AllByRecursion}
use Rattle.std.proofs.lemmas.List.{append-nil, length-map, map-append, map-id, take_all, take_more}
use Rattle.std.proofs.lemmas.List.Concat.{flat_map-cons}
use Rattle.std.proofs.lemmas.List.Elements.{All-from_recursion}
use Rattle.std.proofs.lemmas.Grind.{flat_map-append}
use Rattle.lnfs_xdr.specs.Canon.{long}
use Rattle.lnfs_world.specs.Effects.{read_at}
use Rattle.lnfs_world.specs.World as world
use Rattle.lnfs_layout.specs.Fits.{ListFits}
use Rattle.lnfs_layout.specs.Texts.{many_text, last_text, lasts_text}

-- reading all of a file gives its bytes
pub all_read : (v : List ℕ) → read_at 0 (length v) v ≡ v
all_read v = take_all (length v) v (omega arith)

-- ---- rows

one_more : {X A : Type 0} (text : A → List ℕ) (view : X → A) (rows more : List X) (x : X) → more ≡ rows ++ x ∷ [] → flat_map text (map view more) ≡ flat_map text (map view rows) ++ text (view x)
one_more text view rows more x e =
    ap (λ (l : List _). flat_map text (map view l)) e ∙ ap (flat_map text) (map-append view rows (x ∷ [])) ∙ flat_map-append text (map view rows) (view x ∷ [])
    ∙ ap (λ (t : List ℕ). flat_map text (map view rows) ++ t) (flat_map-cons text (view x) [] ∙ append-nil (text (view x)))

-- a row that is named by its place
pub row_put_at : {X A : Type 0} (text : A → List ℕ) (view : X → A) (rows : List X) (i : ℕ) (d : X) (count old out new : List ℕ) → i < length rows → new ≡ out ++ text (view (get_or rows i d))
    → out ≡ old ++ (count ++ flat_map text (map view (take i rows))) → new ≡ old ++ (count ++ flat_map text (map view (take (i + 1) rows)))
row_put_at text view rows i d count old out new lt put so_far =
    let before : List ℕ = flat_map text (map view (take i rows)) in
    let x = get_or rows i d in
    let more = one_more text view (take i rows) (take (i + 1) rows) x (take_more rows i d lt) in
    put ∙ ap (λ (o : List ℕ). o ++ text (view x)) so_far ∙ append_assoc old (count ++ before) (text (view x)) ∙ ap (λ (t : List ℕ). old ++ t) (append_assoc count before (text (view x)))
    ∙ ap (λ (t : List ℕ). old ++ (count ++ t)) (sym more)

-- and one with a name of its own
pub row_put : {X A : Type 0} (text : A → List ℕ) (view : X → A) (rows : List X) (i : ℕ) (x : X) (count old out new : List ℕ) → i < length rows → x ≡ get_or rows i x → new ≡ out ++ text (view x)
    → out ≡ old ++ (count ++ flat_map text (map view (take i rows))) → new ≡ old ++ (count ++ flat_map text (map view (take (i + 1) rows)))
row_put text view rows i x count old out new lt is put so_far = row_put_at text view rows i x count old out new lt (put ∙ ap (λ (y : _). out ++ text (view y)) is) so_far

pub rows_put : {X A : Type 0} (text : A → List ℕ) (view : X → A) (rows : List X) (i : ℕ) (old out : List ℕ) → length rows ≤ i → out ≡ old ++ (long (length rows) ++ flat_map text (map view (take i rows))) → out ≡ old ++ many_text text (map view rows)
rows_put text view rows i old out le so_far =
    so_far ∙ ap (λ (l : List _). old ++ (long (length rows) ++ flat_map text (map view l))) (take_all i rows le) ∙ ap (λ (n : ℕ). old ++ (long n ++ flat_map text (map view rows))) (sym (length-map rows view))

-- ---- each fits

one_fits : {A : Type 0} (P : A → Type 0) (xs : List A) (x : A) → AllByRecursion P xs → P x → AllByRecursion P (xs ++ x ∷ [])
one_fits P [] x all fits = (fits, tt)
one_fits P (y ∷ xs) x all fits = (all.0, one_fits P xs x all.1 fits)

pub row_fits_at : {X A : Type 0} (P : A → Type 0) (view : X → A) (rows : List X) (i : ℕ) (d : X) → i < length rows → P (view (get_or rows i d)) → AllByRecursion P (map view (take i rows)) → AllByRecursion P (map view (take (i + 1) rows))
row_fits_at P view rows i d lt fits so_far =
    let x = get_or rows i d in
    subst (AllByRecursion P) (sym (ap (map view) (take_more rows i d lt) ∙ map-append view (take i rows) (x ∷ []))) (one_fits P (map view (take i rows)) (view x) so_far fits)

pub row_fits : {X A : Type 0} (P : A → Type 0) (view : X → A) (rows : List X) (i : ℕ) (x : X) → i < length rows → x ≡ get_or rows i x → P (view x) → AllByRecursion P (map view (take i rows)) → AllByRecursion P (map view (take (i + 1) rows))
row_fits P view rows i x lt is fits so_far = row_fits_at P view rows i x lt (subst (λ (y : _). P (view y)) is fits) so_far

pub rows_fit : {X A : Type 0} (P : A → Type 0) (view : X → A) (rows : List X) (i : ℕ) → length rows < 2 ^ 64 → length rows ≤ i → AllByRecursion P (map view (take i rows)) → ListFits P (map view rows)
rows_fit P view rows i small le fits = record {
  count = omega (arith, small, length-map rows view);
  each = All-from_recursion P (map view rows) (subst (λ (l : List _). AllByRecursion P (map view l)) (take_all i rows le) fits);
}

-- ---- rows that are the items themselves

pub items_put : {A : Type 0} (text : A → List ℕ) (items : List A) (i : ℕ) (old out : List ℕ) → length items ≤ i → out ≡ old ++ (long (length items) ++ flat_map text (map (λ x. x) (take i items))) → out ≡ old ++ many_text text items
items_put text items i old out le so_far = rows_put text (λ x. x) items i old out le so_far ∙ ap (λ (l : List _). old ++ many_text text l) (map-id items)

pub items_fit : {A : Type 0} (P : A → Type 0) (items : List A) (i : ℕ) → length items < 2 ^ 64 → length items ≤ i → AllByRecursion P (map (λ x. x) (take i items)) → ListFits P items
items_fit P items i small le fits = subst (ListFits P) (map-id items) (rows_fit P (λ x. x) items i small le fits)

-- ---- last numbers

pub lasts_more : (level levels : ℕ) (l : world.Lasts) (locks : List world.Id) (out new total : List ℕ) → level < levels → new ≡ out ++ last_text level l locks → out ++ lasts_text level (levels - level) l locks ≡ total → new ++ lasts_text (level + 1) (levels - (level + 1)) l locks ≡ total
unfolding lasts_text
lasts_more level levels l locks out new total lt put so_far =
    let k : levels - level ≡ suc (levels - (level + 1)) = omega arith in
    let n : level + 1 ≡ suc level = omega arith in
    let later : List ℕ = lasts_text (suc level) (levels - (level + 1)) l locks in
    let here : out ++ lasts_text level (levels - level) l locks ≡ out ++ (last_text level l locks ++ later) = ap (λ (m : ℕ). out ++ lasts_text level m l locks) k in
    ap (λ (i : ℕ). new ++ lasts_text i (levels - (level + 1)) l locks) n ∙ ap (λ (b : List ℕ). b ++ later) put ∙ append_assoc out (last_text level l locks) later ∙ sym here ∙ so_far

pub lasts_end : (level levels : ℕ) (l : world.Lasts) (locks : List world.Id) (out total : List ℕ) → levels ≤ level → out ++ lasts_text level (levels - level) l locks ≡ total → out ≡ total
unfolding lasts_text
lasts_end level levels l locks out total le so_far =
    let k : levels - level ≡ zero = omega arith in
    let none : out ++ lasts_text level (levels - level) l locks ≡ out ++ [] = ap (λ (m : ℕ). out ++ lasts_text level m l locks) k in
    sym (append-nil out) ∙ sym none ∙ so_far
