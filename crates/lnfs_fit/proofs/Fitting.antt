-- What rows tell of a name, and of a number that was given.
use Rattle.std.proofs.Common.{◌≡◌, ℕ, ◌<◌, ◌≤◌, Bool, ◌&&◌, ◌||◌, List, Some, sym, ap, ◌∙◌, subst, length, arith}
use Rattle.std.specs.Prelude.{◌==◌, nat_le, nat_lt, slice_index}
use Rattle.std.specs.Option.{option_map}
use Rattle.std.proofs.lemmas.Bool.Decides.{nat_tests}
use Rattle.std.proofs.lemmas.List.{get_or_past}
use Rattle.lnfs_world.specs.Rows.{Rising}
use Rattle.lnfs_world.specs.World.{Id, Node, Entry, node_order, is_given, last_of, label_at}
use Rattle.lnfs_world.specs.Facts.{is_below, cookies_at, fits_under}
use Rattle.lnfs_rows.specs.Lasts.{given_of}
use Rattle.lnfs_decide.proofs.LastNumbers.{told}
use Rattle.lnfs_fit.specs.Places.{nth_node}
use Rattle.lnfs_fit.specs.Fits.{fits_in}
use Rattle.lnfs_fit.proofs.Placed.{node_nth}

pub given_within : (last : List ℕ) (i : Id) → is_given (given_of last) i ≡ nat_le i.number (slice_index last i.level)
given_within last i = ap (nat_le i.number) (told last i.level)

none_below : (n m : ℕ) → m ≡ 0 → (n == 0) ≡ nat_le n m
none_below n m is = grind (arith, nat_tests)

pub given_past : (last : List ℕ) (i : Id) → length last ≤ i.level → (i.number == 0) ≡ is_given (given_of last) i
given_past last i past = none_below i.number (last_of i.level (given_of last)) (told last i.level ∙ get_or_past last i.level 0 past)

module _ (dom : ℕ → ℕ → Bool) (nodes : List Node) (rising : Rising node_order nodes) (e : Entry) (name dir : ℕ) (name_in : name < length nodes) (dir_in : dir < length nodes) (name_is : (nth_node nodes name).id ≡ e.node) (dir_is : (nth_node nodes dir).id ≡ e.directory) where
  pub fit_is : fits_in dom nodes e ≡ (nat_lt e.cookie (nth_node nodes dir).inner.cookies && (dom (nth_node nodes name).label (nth_node nodes dir).label && ((nth_node nodes dir).label == (nth_node nodes name).id.level || (nth_node nodes dir).label == (nth_node nodes name).label)))
  fit_is =
      let next : cookies_at nodes e.directory ≡ Some (nth_node nodes dir).inner.cookies = subst (λ i. cookies_at nodes i ≡ Some (nth_node nodes dir).inner.cookies) dir_is (ap (option_map (λ n. n.inner.cookies)) (node_nth nodes rising dir dir_in)) in
      let above : label_at nodes e.directory ≡ Some (nth_node nodes dir).label = subst (λ i. label_at nodes i ≡ Some (nth_node nodes dir).label) dir_is (ap (option_map (λ n. n.label)) (node_nth nodes rising dir dir_in)) in
      let own : label_at nodes e.node ≡ Some (nth_node nodes name).label = subst (λ i. label_at nodes i ≡ Some (nth_node nodes name).label) name_is (ap (option_map (λ n. n.label)) (node_nth nodes rising name name_in)) in
      let home : e.node.level ≡ (nth_node nodes name).id.level = ap (λ i. i.level) (sym name_is) in
      λ k. is_below e.cookie (next k) && fits_under dom (home k) (above k) (own k)
