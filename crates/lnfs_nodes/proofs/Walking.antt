-- A walk over the entries of a directory, entry by entry.
use Rattle.std.proofs.Common.{◌≡◌, ◌+◌, ◌-◌, ◌<◌, ◌≤◌, ℕ, suc, Bool, true, false, cond, List, [], ◌∷◌, ◌++◌, length, nat_lt, nat_le, Option, Some, None, refl, ap, sym, subst, ◌∙◌, append_assoc, append-nil, length-append, arith}
use Rattle.std.specs.List.{flat_map, AllByRecursion}
use Rattle.std.specs.declared.cmp.Ordering.TheVariants.{Less}
use Rattle.std.proofs.lemmas.Bool.Decides.{nat_tests}
use Rattle.std.proofs.lemmas.Grind.{flat_map-append}
use Rattle.lnfs_xdr.proofs.Sizes.{length-flag}
use Rattle.lnfs_results.specs.declared.types.DirEntry.{DirEntry}
use Rattle.lnfs_world.specs.World.{Id, Entry, entry_order}
use Rattle.lnfs_world.specs.Names.{is_above, entries_above, entry_above}
use Rattle.lnfs_world.specs.Rows.{Rising}
use Rattle.lnfs_operations.specs.ReadDir.{Listed, taken, with_entry, where_shown, listed}
use Rattle.lnfs_nodes.specs.Walks.{entry_written, has_any, Walks}
use Rattle.lnfs_nodes.specs.declared.entries.Walked.TheVariants.{Ended, Refused}

-- ---- the entries above a number

pub found_above : (entries : List Entry) (d : Id) (cookie : ℕ) (e : Entry) → entry_above entries d cookie ≡ Some e → is_above d cookie e ≡ true
found_above [] d cookie e found = cc
found_above (x ∷ xs) d cookie e found = at (is_above d cookie x) refl (found_above xs d cookie e) found
  where
    at : (b : Bool) → is_above d cookie x ≡ b → (entry_above xs d cookie ≡ Some e → is_above d cookie e ≡ true) → cond b (Some x) (entry_above xs d cookie) ≡ Some e → is_above d cookie e ≡ true
    at true is rest found = let same : x ≡ e = cc in subst (λ (y : Entry). is_above d cookie y ≡ true) same is
    at false is rest found = rest found

-- above an entry there are those behind it
same_above : (d : Id) (cookie : ℕ) (x y : Entry) → is_above d cookie x ≡ true → entry_order x y ≡ Less → is_above d cookie y ≡ is_above d x.cookie y
same_above d cookie x y is less = grind (arith, nat_tests, is, less)

all_above : (d : Id) (cookie : ℕ) (x : Entry) (ys : List Entry) → is_above d cookie x ≡ true → AllByRecursion (λ y. entry_order x y ≡ Less) ys → entries_above ys d cookie ≡ entries_above ys d x.cookie
all_above d cookie x [] is all = refl
all_above d cookie x (y ∷ ys) is all =
    ap (λ (b : Bool). cond b (y ∷ entries_above ys d cookie) (entries_above ys d cookie)) (same_above d cookie x y is all.0)
    ∙ ap (λ (zs : List Entry). cond (is_above d x.cookie y) (y ∷ zs) zs) (all_above d cookie x ys is all.1)

not_itself : (d : Id) (x : Entry) → is_above d x.cookie x ≡ false
not_itself d x = grind (arith, nat_tests)

not_below : (d : Id) (cookie : ℕ) (x e : Entry) → is_above d cookie x ≡ false → is_above d cookie e ≡ true → is_above d e.cookie x ≡ false
not_below d cookie x e not is = grind (arith, nat_tests, not, is)

pub above_first : (entries : List Entry) (d : Id) (cookie : ℕ) (e : Entry) → Rising entry_order entries → entry_above entries d cookie ≡ Some e → entries_above entries d cookie ≡ e ∷ entries_above entries d e.cookie
above_first [] d cookie e rise found = cc
above_first (x ∷ xs) d cookie e rise found = at (is_above d cookie x) refl (found_above xs d cookie e) (above_first xs d cookie e rise.1) found
  where
    at : (b : Bool) → is_above d cookie x ≡ b → (entry_above xs d cookie ≡ Some e → is_above d cookie e ≡ true) → (entry_above xs d cookie ≡ Some e → entries_above xs d cookie ≡ e ∷ entries_above xs d e.cookie)
        → cond b (Some x) (entry_above xs d cookie) ≡ Some e → cond b (x ∷ entries_above xs d cookie) (entries_above xs d cookie) ≡ e ∷ entries_above (x ∷ xs) d e.cookie
    at true is above rest found =
        let same : x ≡ e = cc in
        ap (λ (ys : List Entry). x ∷ ys) (all_above d cookie x xs is rise.0 ∙ sym (ap (λ (b : Bool). cond b (x ∷ entries_above xs d x.cookie) (entries_above xs d x.cookie)) (not_itself d x)))
        ∙ ap (λ (y : Entry). y ∷ entries_above (x ∷ xs) d y.cookie) same
    at false is above rest found =
        rest found
        ∙ sym (ap (λ (b : Bool). e ∷ cond b (x ∷ entries_above xs d e.cookie) (entries_above xs d e.cookie)) (not_below d cookie x e is (above found)))

no_more : (entries : List Entry) (d : Id) (cookie higher : ℕ) → cookie < higher → length (entries_above entries d higher) ≤ length (entries_above entries d cookie)
no_more [] d cookie higher lt = omega arith
no_more (x ∷ xs) d cookie higher lt = at (is_above d cookie x) (is_above d higher x) refl refl (no_more xs d cookie higher lt)
  where
    at : (a b : Bool) → is_above d cookie x ≡ a → is_above d higher x ≡ b → length (entries_above xs d higher) ≤ length (entries_above xs d cookie)
        → length (cond b (x ∷ entries_above xs d higher) (entries_above xs d higher)) ≤ length (cond a (x ∷ entries_above xs d cookie) (entries_above xs d cookie))
    at true true low high rest = omega (arith, rest)
    at true false low high rest = omega (arith, rest)
    at false true low high rest = absurd (grind (arith, nat_tests, low, high, lt))
    at false false low high rest = rest

-- fewer are above one of them
pub fewer : (entries : List Entry) (d : Id) (cookie : ℕ) (e : Entry) → entry_above entries d cookie ≡ Some e → length (entries_above entries d e.cookie) < length (entries_above entries d cookie)
fewer [] d cookie e found = cc
fewer (x ∷ xs) d cookie e found = at (is_above d cookie x) refl (found_above xs d cookie e) (fewer xs d cookie e) found
  where
    at : (b : Bool) → is_above d cookie x ≡ b → (entry_above xs d cookie ≡ Some e → is_above d cookie e ≡ true) → (entry_above xs d cookie ≡ Some e → length (entries_above xs d e.cookie) < length (entries_above xs d cookie))
        → cond b (Some x) (entry_above xs d cookie) ≡ Some e → length (entries_above (x ∷ xs) d e.cookie) < length (cond b (x ∷ entries_above xs d cookie) (entries_above xs d cookie))
    at true is above rest found =
        let same : x ≡ e = cc in
        let lt : cookie < x.cookie = grind (arith, nat_tests, is) in
        let drops : length (entries_above (x ∷ xs) d x.cookie) ≡ length (entries_above xs d x.cookie) = ap (λ (b : Bool). length (cond b (x ∷ entries_above xs d x.cookie) (entries_above xs d x.cookie))) (not_itself d x) in
        subst (λ (y : Entry). length (entries_above (x ∷ xs) d y.cookie) < suc (length (entries_above xs d cookie))) same (omega (arith, drops, no_more xs d cookie x.cookie lt))
    at false is above rest found =
        let drops : length (entries_above (x ∷ xs) d e.cookie) ≡ length (entries_above xs d e.cookie) = ap (λ (b : Bool). length (cond b (x ∷ entries_above xs d e.cookie) (entries_above xs d e.cookie))) (not_below d cookie x e is (above found)) in
        omega (arith, drops, rest found)

pub above_none : (entries : List Entry) (d : Id) (cookie : ℕ) → entry_above entries d cookie ≡ None → entries_above entries d cookie ≡ []
above_none [] d cookie none = refl
above_none (x ∷ xs) d cookie none = at (is_above d cookie x) (above_none xs d cookie) none
  where
    at : (b : Bool) → (entry_above xs d cookie ≡ None → entries_above xs d cookie ≡ []) → cond b (Some x) (entry_above xs d cookie) ≡ None → cond b (x ∷ entries_above xs d cookie) (entries_above xs d cookie) ≡ []
    at true rest none = cc
    at false rest none = rest none

-- ---- entries that were shown

-- the list behind some entries
abbrev pub behind : List DirEntry → Option Listed → Option Listed
behind [] found = found
behind (d ∷ ds) found = with_entry d (behind ds found)

behind_more : (ds : List DirEntry) (d : DirEntry) (found : Option Listed) → behind (ds ++ d ∷ []) found ≡ behind ds (with_entry d found)
behind_more [] d found = refl
behind_more (x ∷ ds) d found = ap (with_entry x) (behind_more ds d found)

behind_end : (ds : List DirEntry) (eof : Bool) → behind ds (Some (record { entries = []; eof = eof })) ≡ Some (record { entries = ds; eof = eof })
behind_end [] eof = refl
behind_end (x ∷ ds) eof = ap (with_entry x) (behind_end ds eof)

behind_none : (ds : List DirEntry) → behind ds None ≡ None
behind_none [] = refl
behind_none (x ∷ ds) = ap (with_entry x) (behind_none ds)

-- the list at an entry that fits, at one that doesn't, and at one that may not be shown
fits : (show : Entry → Option DirEntry) (room : ℕ) (e : Entry) (es : List Entry) (x : DirEntry) → show e ≡ Some x → taken x ≤ room → listed show room (e ∷ es) ≡ with_entry x (listed show (room - taken x) es)
fits show room e es x is le =
    let test : nat_le (taken x) room ≡ true = grind (arith, nat_tests, le) in
    ap (λ (o : Option DirEntry). where_shown o room (λ left. listed show left es)) is
    ∙ ap (λ (b : Bool). cond b (with_entry x (listed show (room - taken x) es)) (Some (record { entries = []; eof = false }))) test

fits_not : (show : Entry → Option DirEntry) (room : ℕ) (e : Entry) (es : List Entry) (x : DirEntry) → show e ≡ Some x → room < taken x → listed show room (e ∷ es) ≡ Some (record { entries = []; eof = false })
fits_not show room e es x is lt =
    let test : nat_le (taken x) room ≡ false = grind (arith, nat_tests, lt) in
    ap (λ (o : Option DirEntry). where_shown o room (λ left. listed show left es)) is
    ∙ ap (λ (b : Bool). cond b (with_entry x (listed show (room - taken x) es)) (Some (record { entries = []; eof = false }))) test

-- ---- the entries so far

pub record SoFar (show : Entry → Option DirEntry) (entries : List Entry) (d : Id) (from cookie room : ℕ) (old out : List ℕ) : Type 0 where
  pub shown : List DirEntry
  -- they were appended, and what is left is listed behind them
  pub wrote : out ≡ old ++ flat_map entry_written shown
  pub rest : listed show room (entries_above entries d from) ≡ behind shown (listed show (room - (length out - length old)) (entries_above entries d cookie))

length_written : (x : DirEntry) → length (entry_written x) ≡ taken x
length_written x = simp (length-append, length-flag) refl

grown : (old out : List ℕ) (shown : List DirEntry) → out ≡ old ++ flat_map entry_written shown → length old ≤ length out
grown old out shown is = omega (arith, ap length is, length-append old (flat_map entry_written shown))

any_shown : (old : List ℕ) (shown : List DirEntry) → nat_lt (length old) (length (old ++ flat_map entry_written shown)) ≡ has_any shown
any_shown old [] = let same : length (old ++ []) ≡ length old = ap length (append-nil old) in grind (arith, nat_tests, same)
any_shown old (x ∷ shown) =
    let long : length (old ++ (entry_written x ++ flat_map entry_written shown)) ≡ length old + (taken x + length (flat_map entry_written shown)) = simp (length-append, length-flag) refl in
    grind (arith, nat_tests, long)

walks_as : (old new : List ℕ) (o : Option Listed) (found : Listed) (any eof : Bool) → o ≡ Some found → new ≡ old ++ flat_map entry_written found.entries → any ≡ has_any found.entries → eof ≡ found.eof → Walks old new o (Ended any eof)
walks_as old new o found any eof is wrote some end = subst (λ (o : Option Listed). Walks old new o (Ended any eof)) (sym is) (wrote, some, end)

module _ (show : Entry → Option DirEntry) (entries : List Entry) (d : Id) (from room : ℕ) (old : List ℕ) where
  pub none_yet : SoFar show entries d from from room old old
  none_yet = record {
    shown = [];
    wrote = sym (append-nil old);
    rest = ap (λ (left : ℕ). listed show left (entries_above entries d from)) (omega arith);
  }

  pub one_more : (cookie left : ℕ) (out new : List ℕ) (e : Entry) (x : DirEntry) → SoFar show entries d from cookie room old out → Rising entry_order entries → Some e ≡ entry_above entries d cookie → show e ≡ Some x
      → new ≡ out ++ entry_written x → taken x ≤ left → left ≡ room - (length out - length old) → SoFar show entries d from e.cookie room old new
  one_more cookie left out new e x so_far rise found is wrote le room_left =
      let more : List DirEntry = so_far.shown ++ x ∷ [] in
      let long : length new ≡ length out + taken x = ap length wrote ∙ length-append out (entry_written x) ∙ ap (λ (n : ℕ). length out + n) (length_written x) in
      let begun : length old ≤ length out = grown old out so_far.shown so_far.wrote in
      let left_then : left - taken x ≡ room - (length new - length old) = omega (arith, long, begun, room_left) in
      record {
        shown = more;
        wrote = wrote ∙ ap (λ (b : List ℕ). b ++ entry_written x) so_far.wrote ∙ append_assoc old (flat_map entry_written so_far.shown) (entry_written x)
            ∙ ap (λ (b : List ℕ). old ++ (flat_map entry_written so_far.shown ++ b)) (sym (append-nil (entry_written x)))
            ∙ ap (λ (b : List ℕ). old ++ b) (sym (flat_map-append entry_written so_far.shown (x ∷ [])));
        rest = so_far.rest
            ∙ ap (λ (n : ℕ). behind so_far.shown (listed show n (entries_above entries d cookie))) (sym room_left)
            ∙ ap (λ (es : List Entry). behind so_far.shown (listed show left es)) (above_first entries d cookie e rise (sym found))
            ∙ ap (behind so_far.shown) (fits show left e (entries_above entries d e.cookie) x is le)
            ∙ sym (behind_more so_far.shown x (listed show (left - taken x) (entries_above entries d e.cookie)))
            ∙ ap (λ (n : ℕ). behind more (listed show n (entries_above entries d e.cookie))) left_then;
      }

  -- no entry is left
  pub all_shown : (cookie : ℕ) (out : List ℕ) (any : Bool) → SoFar show entries d from cookie room old out → None ≡ entry_above entries d cookie → any ≡ nat_lt (length old) (length out) → Walks old out (listed show room (entries_above entries d from)) (Ended any true)
  all_shown cookie out any so_far none some =
      walks_as old out _ (record { entries = so_far.shown; eof = true }) any true
      (so_far.rest
      ∙ ap (λ (es : List Entry). behind so_far.shown (listed show (room - (length out - length old)) es)) (above_none entries d cookie (sym none))
      ∙ behind_end so_far.shown true)
      so_far.wrote
      (some ∙ ap (λ (b : List ℕ). nat_lt (length old) (length b)) so_far.wrote ∙ any_shown old so_far.shown) refl

  -- the next one doesn't fit
  pub one_left : (cookie left : ℕ) (out new : List ℕ) (any : Bool) (e : Entry) (x : DirEntry) → SoFar show entries d from cookie room old out → Rising entry_order entries → Some e ≡ entry_above entries d cookie → show e ≡ Some x
      → new ≡ out → left < taken x → left ≡ room - (length out - length old) → any ≡ nat_lt (length old) (length out) → Walks old new (listed show room (entries_above entries d from)) (Ended any false)
  one_left cookie left out new any e x so_far rise found is same lt room_left some =
      walks_as old new _ (record { entries = so_far.shown; eof = false }) any false
      (so_far.rest
      ∙ ap (λ (n : ℕ). behind so_far.shown (listed show n (entries_above entries d cookie))) (sym room_left)
      ∙ ap (λ (es : List Entry). behind so_far.shown (listed show left es)) (above_first entries d cookie e rise (sym found))
      ∙ ap (behind so_far.shown) (fits_not show left e (entries_above entries d e.cookie) x is lt)
      ∙ behind_end so_far.shown false)
      (same ∙ so_far.wrote)
      (some ∙ ap (λ (b : List ℕ). nat_lt (length old) (length b)) so_far.wrote ∙ any_shown old so_far.shown) refl

  -- the next one may not be shown
  pub one_denied : (cookie : ℕ) (out new : List ℕ) (e : Entry) → SoFar show entries d from cookie room old out → Rising entry_order entries → Some e ≡ entry_above entries d cookie → show e ≡ None
      → Walks old new (listed show room (entries_above entries d from)) Refused
  one_denied cookie out new e so_far rise found is =
      let left : ℕ = room - (length out - length old) in
      let none : listed show room (entries_above entries d from) ≡ None =
      so_far.rest
      ∙ ap (λ (es : List Entry). behind so_far.shown (listed show left es)) (above_first entries d cookie e rise (sym found))
      ∙ ap (λ (o : Option DirEntry). behind so_far.shown (where_shown o left (λ n. listed show n (entries_above entries d e.cookie)))) is
      ∙ behind_none so_far.shown in
      subst (λ (o : Option Listed). Walks old new o Refused) (sym none) tt
