-- What GETATTR, VERIFY and NVERIFY look at; they change nothing.
use Rattle.std.proofs.Common.{◌≡◌, ℕ, Bool, true, false, not, [], Some, refl, ap, arith}
use Rattle.std.specs.Str.{bytes_eq}
use Rattle.lnfs_calipso.specs.Label.{IsPreorderWithBottom}
use Rattle.lnfs_attrs.specs.declared.bitmap.Bitmap.{Bitmap}
use Rattle.lnfs_attrs.specs.declared.raw.RawAttrs.{RawAttrs}
use Rattle.lnfs_attrs.specs.declared.numbers.TheConstants.{RDATTR_ERROR}
use Rattle.lnfs_attrs.specs.Bitmaps.{has_attr}
use Rattle.lnfs_world.specs.World.{Id, Node, World, node_at}
use Rattle.lnfs_world.specs.Erased.{erased}
use Rattle.lnfs_world.specs.Outcome.{Site, Place, Outcome, Stands, View, Footprint, IsFootprint}
use Rattle.lnfs_monitor.specs.Rules.{Read}
use Rattle.lnfs_arguments.specs.declared.statuses.TheConstants.{NFS4ERR_SAME, NFS4ERR_NOT_SAME}
use Rattle.lnfs_operations.specs.declared.Gate.{Gate}
use Rattle.lnfs_operations.specs.declared.Gate.TheVariants.{Namespace}
use Rattle.lnfs_operations.specs.Chain.{Answer, refuse, done, demand}
use Rattle.lnfs_operations.specs.Judged.{where_asked}
use Rattle.lnfs_operations.specs.Shown.{shown, asks_inner, answer_to}
use Rattle.lnfs_operations.specs.GetAttr.{get_attr, is_supported, compared, verify, nverify}
use Rattle.lnfs_operations.proofs.Chains.{demand_alike, demand_any, standing_view, unchanged_footprint}
use Rattle.lnfs_operations.proofs.CurrentLaws.{with_current-seen}
use Rattle.lnfs_operations.proofs.Ends.{current_any, asked_any}
use Rattle.lnfs_operations.proofs.ShownLaws.{none_asked, list_seen, answer_seen}

-- what VERIFY and NVERIFY answer, by whether the values are the same
abbrev verified : Place → Bool → Outcome (Answer (Unit {0}))
verified p same = demand same (refuse p Namespace NFS4ERR_NOT_SAME) (done p tt [])

abbrev denied : Place → Bool → Outcome (Answer (Unit {0}))
denied p same = demand (not same) (refuse p Namespace NFS4ERR_SAME) (done p tt [])

-- ---- where inner attributes are asked, the label is dominated

-- what stands behind the question is alike where its subject may read, or nothing inner is asked
asked_alike : {R : Type 0} (asks : Bool) (site : Site) (p : Place) (label : ℕ) (x y : Outcome (Answer R)) → ((site.dom p.subject label ≡ false → asks ≡ false) → x ≡ y) → where_asked asks site p (Read label) x ≡ where_asked asks site p (Read label) y
asked_alike true site p label x y same = demand_alike (site.dom p.subject label) _ x y (λ above. same (λ apart. absurd (grind (arith, above, apart))))
asked_alike false site p label x y same = same (λ apart. refl)

module _ (site : Site) (lattice : IsPreorderWithBottom site.dom) where
  pub get_attr_seen : (asked : Bitmap) (p : Place) (w : World) → Stands site.dom p w → get_attr site asked p (erased site.dom p.subject w) ≡ get_attr site asked p w
  get_attr_seen asked p w stands = with_current-seen site.dom p w stands _ _ (λ n held.
      asked_alike (asks_inner asked) site p n.label _ _ (λ none.
      ap (λ a. done p a []) (answer_seen site lattice p w stands.facts n.id n 0 asked true held.found (λ apart. none_asked asked true (none apart)))))

  pub get_attr_view : (asked : Bitmap) → View site.dom (get_attr site asked)
  get_attr_view asked = standing_view site.dom (get_attr site asked) (get_attr_seen asked)

  compared_seen : (given : RawAttrs) (p : Place) (w : World) (same : Bool → Outcome (Answer (Unit {0}))) → Stands site.dom p w → compared site given p (erased site.dom p.subject w) same ≡ compared site given p w same
  compared_seen given p w same stands =
      demand_alike (is_supported given.mask) _ _ _ (λ supported.
      demand_alike (not (has_attr given.mask RDATTR_ERROR)) _ _ _ (λ plain.
      with_current-seen site.dom p w stands _ _ (λ n held.
      asked_alike (asks_inner given.mask) site p n.label _ _ (λ none.
      ap (λ list. same (bytes_eq given.list list)) (list_seen site lattice p w stands.facts n.id n 0 given.mask true held.found (λ apart. none_asked given.mask true (none apart)))))))

  pub verify_view : (given : RawAttrs) → View site.dom (verify site given)
  verify_view given = standing_view site.dom (verify site given) (λ p w stands. compared_seen given p w (verified p) stands)

  pub nverify_view : (given : RawAttrs) → View site.dom (nverify site given)
  nverify_view given = standing_view site.dom (nverify site given) (λ p w stands. compared_seen given p w (denied p) stands)

-- ---- nothing changes

-- what holds of each end of a comparison holds of its outcome
pub compared_any : (P : Outcome (Answer (Unit {0})) → Type 0) (site : Site) (given : RawAttrs) (p : Place) (w : World) (same : Bool → Outcome (Answer (Unit {0}))) → ((gate : Gate) (status : ℕ) → P (refuse p gate status)) → ((b : Bool) → P (same b)) → P (compared site given p w same)
compared_any P site given p w same refused told =
    demand_any P (is_supported given.mask) _ _ (refused _ _) (λ supported.
    demand_any P (not (has_attr given.mask RDATTR_ERROR)) _ _ (refused _ _) (λ plain.
    current_any P p refused w _ (λ i n found.
    asked_any P p refused (asks_inner given.mask) site (Read n.label) _ (λ allowed. told _))))

pub verify_any : (P : Outcome (Answer (Unit {0})) → Type 0) (site : Site) (given : RawAttrs) (p : Place) (w : World) → ((gate : Gate) (status : ℕ) → P (refuse p gate status)) → P (done p tt []) → P (verify site given p w)
verify_any P site given p w refused told = compared_any P site given p w (verified p) refused (λ b. demand_any P b (refuse p Namespace NFS4ERR_NOT_SAME) (done p tt []) (refused Namespace NFS4ERR_NOT_SAME) (λ is. told))

pub nverify_any : (P : Outcome (Answer (Unit {0})) → Type 0) (site : Site) (given : RawAttrs) (p : Place) (w : World) → ((gate : Gate) (status : ℕ) → P (refuse p gate status)) → P (done p tt []) → P (nverify site given p w)
nverify_any P site given p w refused told = compared_any P site given p w (denied p) refused (λ b. demand_any P (not b) (refuse p Namespace NFS4ERR_SAME) (done p tt []) (refused Namespace NFS4ERR_SAME) (λ is. told))

pub get_attr_any : (P : Outcome (Answer RawAttrs) → Type 0) (site : Site) (asked : Bitmap) (p : Place) (w : World) → ((gate : Gate) (status : ℕ) → P (refuse p gate status)) → ((i : Id) (n : Node) → node_at w.nodes i ≡ Some n → P (done p (answer_to asked true (shown site p w n 0)) [])) → P (get_attr site asked p w)
get_attr_any P site asked p w refused told =
    current_any P p refused w _ (λ i n found.
    asked_any P p refused (asks_inner asked) site (Read n.label) _ (λ allowed. told i n found))

pub get_attr_footprint : (site : Site) → IsPreorderWithBottom site.dom → (asked : Bitmap) → Footprint site.dom (get_attr site asked)
get_attr_footprint site lattice asked p w stands = get_attr_any (IsFootprint site.dom p w) site asked p w (λ gate status. unchanged_footprint site.dom p w stands _) (λ i n found. unchanged_footprint site.dom p w stands _)

pub verify_footprint : (site : Site) → IsPreorderWithBottom site.dom → (given : RawAttrs) → Footprint site.dom (verify site given)
verify_footprint site lattice given p w stands = verify_any (IsFootprint site.dom p w) site given p w (λ gate status. unchanged_footprint site.dom p w stands _) (unchanged_footprint site.dom p w stands _)

pub nverify_footprint : (site : Site) → IsPreorderWithBottom site.dom → (given : RawAttrs) → Footprint site.dom (nverify site given)
nverify_footprint site lattice given p w stands = nverify_any (IsFootprint site.dom p w) site given p w (λ gate status. unchanged_footprint site.dom p w stands _) (unchanged_footprint site.dom p w stands _)
