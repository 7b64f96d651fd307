-- What a node holds is within its bounds, after each thing that may happen to it.
use Rattle.std.proofs.Common.{◌≡◌, ◌≤◌, ◌<◌, ◌+◌, ◌-◌, ℕ, true, false, List, [], ◌∷◌, ◌++◌, length, drop, Option, Some, None, refl, sym, subst, ◌∙◌, arith, length-append, length-drop}
use Rattle.std.specs.Prelude.{IfSome, is_some, nat_le}
use Rattle.std.specs.Option.{option_map}
use Rattle.std.proofs.lemmas.Bool.{false≢true}
use Rattle.std.proofs.lemmas.Bool.Decides.{nat_tests}
use Rattle.std.proofs.lemmas.List.{length-take, length-replicate}
use Rattle.lnfs_types.specs.declared.event.Moment.{Moment}
use Rattle.lnfs_world.specs.declared.numbers.TheConstants.{FIRST_COOKIE, LAST_CHANGE, LAST_COOKIE, MOST_FILE}
use Rattle.lnfs_world.specs.World.{Id, Kind, File, Directory, SymbolicLink, Stored, Inner, Node, World, node_at, is_directory}
use Rattle.lnfs_world.specs.Change.{Touch}
use Rattle.lnfs_world.specs.Effects.{stepped, attributes_changed, names_changed, name_added, sized, written, size_written, data_changed}
use Rattle.lnfs_world.specs.Outcome.{Site, Place}
use Rattle.lnfs_operations.specs.declared.numbers.TheConstants.{MOST_MODE}
use Rattle.lnfs_operations.specs.Sizes.{IsBetween}
use Rattle.lnfs_operations.specs.Bounds.{HoldsBy, InnerBounds}
use Rattle.lnfs_operations.specs.Lookup.{is_link}
use Rattle.lnfs_operations.specs.Given.{is_mode}
use Rattle.lnfs_operations.specs.SetAttr.{size_set, mode_set}
use Rattle.lnfs_operations.proofs.BoundChanges.{Brings}

-- ---- data of files

pub length-sized : (size : ℕ) (content : List ℕ) → length (sized size content) ≡ size
length-sized size content = simp (length-take, length-append, length-replicate) (omega arith)

-- as many bytes as the size that was tested
pub length-written : (offset : ℕ) (bytes content : List ℕ) → 0 < length bytes → length (written offset bytes content) ≡ size_written offset bytes content
length-written offset [] content some = absurd (omega arith)
length-written offset (b ∷ bytes) content some =
    let tail : length ((b ∷ bytes) ++ drop (offset + length (b ∷ bytes)) content) ≡ length (b ∷ bytes) + (length content - (offset + length (b ∷ bytes))) = simp (length-append, length-drop) refl in
    length-append (sized offset content) ((b ∷ bytes) ++ drop (offset + length (b ∷ bytes)) content) ∙ omega (arith, length-sized offset content, tail)

-- ---- what a kind holds

holds_as : (kind : Kind) (a b : Inner) → b.content ≡ a.content → b.cookies ≡ a.cookies → HoldsBy kind a → HoldsBy kind b
holds_as File a b content cookies holds = (subst (λ (bytes : List ℕ). length bytes ≤ MOST_FILE) (sym content) holds.0, cookies ∙ holds.1)
holds_as Directory a b content cookies holds = (content ∙ holds.0, subst (IsBetween FIRST_COOKIE LAST_COOKIE) (sym cookies) holds.1)
holds_as SymbolicLink a b content cookies holds = cookies ∙ holds

-- only a directory holds names
pub cookies_from : (kind : Kind) (inner : Inner) → is_directory kind ≡ true → HoldsBy kind inner → FIRST_COOKIE ≤ inner.cookies
cookies_from File inner directory holds = absurd (false≢true directory)
cookies_from Directory inner directory holds = holds.1.0
cookies_from SymbolicLink inner directory holds = absurd (false≢true directory)

stepped_bound : (change : ℕ) → stepped change ≤ LAST_CHANGE
stepped_bound change = omega arith

-- ---- what happens to it

module _ (kind : Kind) where
  -- neither content nor cookies change
  inner_as : (a b : Inner) → b.content ≡ a.content → b.cookies ≡ a.cookies → b.mode ≤ MOST_MODE → b.change ≤ LAST_CHANGE → InnerBounds kind a → InnerBounds kind b
  inner_as a b content cookies mode change is = record { mode = mode; change = change; holds = holds_as kind a b content cookies is.holds }

  pub accessed_bounds : (moment : Moment) (inner : Inner) → InnerBounds kind inner → InnerBounds kind (record inner { accessed = moment })
  accessed_bounds moment inner is = inner_as inner _ refl refl is.mode is.change is

  pub stored_bounds : (inner : Inner) (stored : Option Stored) → InnerBounds kind inner → InnerBounds kind (record inner { stored = stored })
  stored_bounds inner stored is = inner_as inner _ refl refl is.mode is.change is

  pub attributes_bounds : (moment : Moment) (inner : Inner) → InnerBounds kind inner → InnerBounds kind (attributes_changed moment inner)
  attributes_bounds moment inner is = inner_as inner _ refl refl is.mode (stepped_bound inner.change) is

  pub names_bounds : (moment : Moment) (inner : Inner) → InnerBounds kind inner → InnerBounds kind (names_changed moment inner)
  names_bounds moment inner is = inner_as inner _ refl refl is.mode (stepped_bound inner.change) is

  -- a directory that has a cookie left
  pub added_bounds : (moment : Moment) (inner : Inner) → is_directory kind ≡ true → inner.cookies < LAST_COOKIE → InnerBounds kind inner → InnerBounds kind (name_added moment inner)
  added_bounds moment inner directory left is = record { mode = is.mode; change = stepped_bound inner.change; holds = at kind directory is.holds }
    where
      at : (k : Kind) → is_directory k ≡ true → HoldsBy k inner → HoldsBy k (name_added moment inner)
      at File d holds = absurd (false≢true d)
      at Directory d holds = (holds.0, (omega (arith, holds.1.0), omega (arith, left)))
      at SymbolicLink d holds = absurd (false≢true d)

  -- a file that has no more bytes than it may have
  pub data_bounds : (moment : Moment) (content : List ℕ) (inner : Inner) → is_directory kind ≡ false → is_link kind ≡ false → length content ≤ MOST_FILE → InnerBounds kind inner → InnerBounds kind (data_changed moment content inner)
  data_bounds moment content inner other link short is = record { mode = is.mode; change = stepped_bound inner.change; holds = at kind other link is.holds }
    where
      at : (k : Kind) → is_directory k ≡ false → is_link k ≡ false → HoldsBy k inner → HoldsBy k (data_changed moment content inner)
      at File d l holds = (short, holds.1)
      at Directory d l holds = absurd (false≢true (sym d))
      at SymbolicLink d l holds = absurd (false≢true (sym l))

  pub mode_bounds : (p : Place) (mode : Option ℕ) (inner : Inner) → is_mode mode ≡ true → InnerBounds kind inner → InnerBounds kind (mode_set p mode inner)
  mode_bounds p None inner fits is = is
  mode_bounds p (Some mode) inner fits is = inner_as inner _ refl refl (grind (arith, nat_tests, fits)) (stepped_bound inner.change) is

-- a size is that of a file, which may have it
pub size_bounds : (p : Place) (n : Node) (size : Option ℕ) → (is_some size ≡ true → is_directory n.kind ≡ false) → (is_some size ≡ true → is_link n.kind ≡ false) → IfSome size (λ size. nat_le size MOST_FILE ≡ true) → InnerBounds n.kind n.inner → InnerBounds n.kind (size_set p n size)
size_bounds p n None plain file small is = is
size_bounds p n (Some size) plain file small is =
    data_bounds n.kind p.moment (sized size n.inner.content) n.inner (plain refl) (file refl) (grind (arith, nat_tests, small, length-sized size n.inner.content)) is

-- ---- of a node that is found

-- of which kind a node is
abbrev pub kind_at : List Node → Id → Option Kind
kind_at nodes i = option_map (λ n. n.kind) (node_at nodes i)

found_kind : (inner : Inner) (kind : Kind) (o : Option Node) → option_map (λ (n : Node). n.kind) o ≡ Some kind → InnerBounds kind inner → IfSome o (λ n. InnerBounds n.kind inner)
found_kind inner kind None found is = tt
found_kind inner kind (Some n) found is = let same : kind ≡ n.kind = cc in subst (λ k. InnerBounds k inner) same is

-- a touch of a node of a kind
pub touch_brings : (site : Site) (v : World) (i : Id) (inner : Inner) (kind : Kind) → kind_at v.nodes i ≡ Some kind → InnerBounds kind inner → Brings site v (Touch i inner)
touch_brings site v i inner kind found is = found_kind inner kind (node_at v.nodes i) found is
