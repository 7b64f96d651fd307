-- What CLOSE, READ, WRITE and COMMIT look at, and what they change: an open of the subject's level, a time of access, the data
-- of a file at the subject's label.
use Rattle.std.proofs.Common.{◌≡◌, ◌+◌, ◌-◌, ℕ, Bool, true, false, not, cond, ◌&&◌, List, [], ◌∷◌, length, Some, refl, ap, ◌∙◌, arith}
use Rattle.std.specs.Prelude.{◌==◌, is_some, nat_le, nat_lt}
use Rattle.std.proofs.lemmas.Bool.Decides.{nat_tests}
use Rattle.lnfs_words.specs.Words.{is_empty}
use Rattle.lnfs_calipso.specs.Label.{IsPreorderWithBottom}
use Rattle.lnfs_arguments.specs.declared.stateid.StateId.{StateId}
use Rattle.lnfs_arguments.specs.declared.statuses.TheConstants.{NFS4ERR_FBIG, NFS4ERR_DQUOT}
use Rattle.lnfs_monitor.specs.Rules as rules
use Rattle.lnfs_world.specs.World.{Node, Open, World, node_at, is_directory}
use Rattle.lnfs_world.specs.Erased.{erased}
use Rattle.lnfs_world.specs.Change.{Touch, EndOpen, apply}
use Rattle.lnfs_world.specs.Effects.{written, size_written, data_changed}
use Rattle.lnfs_world.specs.Within.{is_within}
use Rattle.lnfs_world.specs.Outcome.{Site, Place, Outcome, Stands, View, IsFootprint}
use Rattle.lnfs_world.proofs.Seen.{node_at-id, shrunk_whole}
use Rattle.lnfs_world.proofs.Usage.{bytes_used-seen}
use Rattle.lnfs_operations.specs.declared.Gate.{Gate}
use Rattle.lnfs_operations.specs.declared.Gate.TheVariants.{Namespace, Quota}
use Rattle.lnfs_world.specs.declared.numbers.TheConstants.{MOST_FILE}
use Rattle.lnfs_operations.specs.declared.numbers.TheConstants.{FILE_SYNC4}
use Rattle.lnfs_operations.specs.Chain.{Answer, refuse, done, demand}
use Rattle.lnfs_operations.specs.Accessed.{accessed}
use Rattle.lnfs_operations.specs.Handles.{with_current}
use Rattle.lnfs_operations.specs.Lookup.{is_link}
use Rattle.lnfs_operations.specs.StateIds.{special, Reading, Writing}
use Rattle.lnfs_operations.specs.Files.{where_file, passes_quota, where_fitting}
use Rattle.lnfs_operations.specs.Close.{close}
use Rattle.lnfs_operations.specs.Read.{Arguments as ReadArguments, Data, read_from, read}
use Rattle.lnfs_operations.specs.Write.{Arguments as WriteArguments, data_written, write, commit}
use Rattle.lnfs_operations.proofs.Chains.{demand_alike, demand_any, standing_view, unchanged_footprint}
use Rattle.lnfs_operations.proofs.CurrentLaws.{with_current-seen, accessed_footprint}
use Rattle.lnfs_operations.proofs.Ends.{current_any, allowed_any}
use Rattle.lnfs_operations.proofs.TakingLaws.{own_above, own_whole}
use Rattle.lnfs_world.proofs.ChangedNames.{place_left, touch_within, own_label, own_cookies}
use Rattle.lnfs_operations.proofs.StateIdLaws.{where_open-seen, where_usable-seen, IsNamedBy, named_open_any, usable_any}

-- ---- what is looked at

-- the tests of a kind
pub file_alike : {R : Type 0} (p : Place) (n : Node) (x y : Outcome (Answer R)) → x ≡ y → where_file p n x ≡ where_file p n y
file_alike p n x y same = ap (where_file p n) same

module _ (site : Site) (lattice : IsPreorderWithBottom site.dom) (p : Place) (w : World) (stands : Stands site.dom p w) where
  -- a size, of a file at the subject's label
  pub where_fitting-seen : {R : Type 0} (n : Node) (size : ℕ) (next : Outcome (Answer R)) → (p.subject == n.label) ≡ true → where_fitting site p (erased site.dom p.subject w) n size next ≡ where_fitting site p w n size next
  where_fitting-seen n size next own =
      let used = bytes_used-seen site.dom lattice p.subject n.label w stands.facts (own_above site.dom lattice p w stands n.label own) in
      λ k. demand (nat_le size MOST_FILE) (refuse p Namespace NFS4ERR_FBIG) (
      demand (not (nat_lt (length n.inner.content) size && nat_lt (site.bytes n.label) (used k - length n.inner.content + size))) (refuse p Quota NFS4ERR_DQUOT) next)

  close_seen : (id : StateId) → close id p (erased site.dom p.subject w) ≡ close id p w
  close_seen id =
      with_current-seen site.dom p w stands _ _ (λ n held.
      demand_alike (not (is_some (special id))) _ _ _ (λ plain.
      where_open-seen site.dom lattice p w n id _ _ (λ o. refl)))

  read_seen : (args : ReadArguments) → read site args p (erased site.dom p.subject w) ≡ read site args p w
  read_seen args =
      with_current-seen site.dom p w stands _ _ (λ n held.
      file_alike p n _ _ (
      demand_alike (site.dom p.subject n.label) _ _ _ (λ above.
      where_usable-seen site lattice p w n args.id Reading _ _ (ap (λ m. done p (read_from args m) (accessed p m)) (shrunk_whole site.dom p.subject n above)))))

  write_seen : (args : WriteArguments) → write site args p (erased site.dom p.subject w) ≡ write site args p w
  write_seen args =
      demand_alike (nat_le args.stable FILE_SYNC4) _ _ _ (λ known.
      with_current-seen site.dom p w stands _ _ (λ n held.
      file_alike p n _ _ (
      demand_alike (p.subject == n.label) _ _ _ (λ own.
      where_usable-seen site lattice p w n args.id Writing _ _ (
      ap (λ m. where_fitting site p (erased site.dom p.subject w) m (size_written args.offset args.content m.inner.content) (done p (length args.content) (data_written p m args))) (own_whole site.dom lattice p w stands n own)
      ∙ where_fitting-seen n (size_written args.offset args.content n.inner.content) _ own)))))

  commit_seen : commit site p (erased site.dom p.subject w) ≡ commit site p w
  commit_seen = with_current-seen site.dom p w stands _ _ (λ n held. refl)

module _ (site : Site) (lattice : IsPreorderWithBottom site.dom) where
  pub close_view : (id : StateId) → View site.dom (close id)
  close_view id = standing_view site.dom (close id) (λ p w stands. close_seen site lattice p w stands id)

  pub read_view : (args : ReadArguments) → View site.dom (read site args)
  read_view args = standing_view site.dom (read site args) (λ p w stands. read_seen site lattice p w stands args)

  pub write_view : (args : WriteArguments) → View site.dom (write site args)
  write_view args = standing_view site.dom (write site args) (λ p w stands. write_seen site lattice p w stands args)

  pub commit_view : View site.dom (commit site)
  commit_view = standing_view site.dom (commit site) (λ p w stands. commit_seen site lattice p w stands)

-- ---- what is answered

-- a file that is found, and its kind
pub record IsFile (w : World) (n : Node) : Type 0 where
  pub found : node_at w.nodes n.id ≡ Some n
  pub other : is_directory n.kind ≡ false
  pub link : is_link n.kind ≡ false

-- what holds of each end holds of the outcomes
module _ {R : Type 0} (P : Outcome (Answer R) → Type 0) (p : Place) (refused : (gate : Gate) (status : ℕ) → P (refuse p gate status)) where
  pub file_any : (w : World) (n : Node) (next : Outcome (Answer R)) → node_at w.nodes n.id ≡ Some n → (IsFile w n → P next) → P (where_file p n next)
  file_any w n next found is =
      demand_any P (not (is_directory n.kind)) _ _ (refused _ _) (λ other.
      demand_any P (not (is_link n.kind)) _ _ (refused _ _) (λ link.
      is (record { found = found; other = grind (arith, other); link = grind (arith, link) })))

  pub fitting_any : (site : Site) (w : World) (n : Node) (size : ℕ) (next : Outcome (Answer R)) → (nat_le size MOST_FILE ≡ true → not (passes_quota site w n size) ≡ true → P next) → P (where_fitting site p w n size next)
  fitting_any site w n size next is =
      demand_any P (nat_le size MOST_FILE) _ _ (refused _ _) (λ small.
      demand_any P (not (passes_quota site w n size)) _ _ (refused _ _) (λ few. is small few))

  -- the current file
  pub current_file_any : (w : World) (next : Node → Outcome (Answer R)) → ((n : Node) → node_at w.nodes n.id ≡ Some n → P (next n)) → P (with_current p w next)
  current_file_any w next is = current_any P p refused w next (λ i n found. is n (ap (node_at w.nodes) (node_at-id i w.nodes n found) ∙ found))

pub close_any : (P : Outcome (Answer (Unit {0})) → Type 0) (id : StateId) (p : Place) (w : World) → ((gate : Gate) (status : ℕ) → P (refuse p gate status)) →
    ((n : Node) (o : Open) → node_at w.nodes n.id ≡ Some n → IsNamedBy p w n id o → P (done p tt (EndOpen o.id ∷ []))) → P (close id p w)
close_any P id p w refused told =
    current_file_any P p refused w _ (λ n found.
    demand_any P (not (is_some (special id))) _ _ (refused _ _) (λ plain.
    named_open_any P p refused w n id _ (λ o named. told n o found named)))

pub read_any : (P : Outcome (Answer Data) → Type 0) (site : Site) (args : ReadArguments) (p : Place) (w : World) → ((gate : Gate) (status : ℕ) → P (refuse p gate status)) →
    ((n : Node) → IsFile w n → P (done p (read_from args n) (accessed p n))) → P (read site args p w)
read_any P site args p w refused told =
    current_file_any P p refused w _ (λ n found.
    file_any P p refused w n _ found (λ file.
    allowed_any P p refused site (rules.Read n.label) _ (λ above.
    usable_any P p refused w site n args.id Reading _ (told n file))))

-- a file at the subject's label, whose data may be set to a size
pub record MayWrite (site : Site) (p : Place) (w : World) (n : Node) (size : ℕ) : Type 0 where
  pub file : IsFile w n
  pub own : (p.subject == n.label) ≡ true
  pub small : nat_le size MOST_FILE ≡ true
  pub few : not (passes_quota site w n size) ≡ true

pub write_any : (P : Outcome (Answer ℕ) → Type 0) (site : Site) (args : WriteArguments) (p : Place) (w : World) → ((gate : Gate) (status : ℕ) → P (refuse p gate status)) →
    ((n : Node) → MayWrite site p w n (size_written args.offset args.content n.inner.content) → P (done p (length args.content) (data_written p n args))) → P (write site args p w)
write_any P site args p w refused told =
    demand_any P (nat_le args.stable FILE_SYNC4) _ _ (refused _ _) (λ known.
    current_file_any P p refused w _ (λ n found.
    file_any P p refused w n _ found (λ file.
    allowed_any P p refused site (rules.Write n.label) _ (λ own.
    usable_any P p refused w site n args.id Writing _ (
    fitting_any P p refused site w n (size_written args.offset args.content n.inner.content) _ (λ small few.
    told n (record { file = file; own = own; small = small; few = few })))))))

pub commit_any : (P : Outcome (Answer (Unit {0})) → Type 0) (site : Site) (p : Place) (w : World) → ((gate : Gate) (status : ℕ) → P (refuse p gate status)) → P (done p tt []) → P (commit site p w)
commit_any P site p w refused told =
    current_file_any P p refused w _ (λ n found.
    file_any P p refused w n _ found (λ file.
    allowed_any P p refused site (rules.Write n.label) _ (λ own. told)))

-- ---- what is changed

-- the data of a file at the subject's label
pub data_within : (dom : ℕ → ℕ → Bool) (p : Place) (w : World) (n : Node) (content : List ℕ) → node_at w.nodes n.id ≡ Some n → (p.subject == n.label) ≡ true → is_within dom p.subject w (Touch n.id (data_changed p.moment content n.inner)) ≡ true
data_within dom p w n content found own = touch_within dom p.subject w n.id (data_changed p.moment content n.inner) n.inner.cookies (own_label p.subject w.nodes n.id n found own) (own_cookies w.nodes n.id n found) (grind (arith, nat_tests))

module _ (site : Site) (p : Place) (w : World) (stands : Stands site.dom p w) where
  pub close_footprint : (id : StateId) → IsFootprint site.dom p w (close id p w)
  close_footprint id = close_any (IsFootprint site.dom p w) id p w (λ gate status. unchanged_footprint site.dom p w stands _) (λ n o found named.
      let own = named.own in
      record {
        within = grind (arith, nat_tests, own);
        place = place_left site.dom p w (apply (EndOpen o.id) w) (record { clients = refl; sessions = refl }) stands.place;
        subject = refl;
      })

  pub read_footprint : (args : ReadArguments) → IsFootprint site.dom p w (read site args p w)
  read_footprint args = read_any (IsFootprint site.dom p w) site args p w (λ gate status. unchanged_footprint site.dom p w stands _) (λ n file. accessed_footprint site.dom p w stands _ n file.found)

  written_footprint : (args : WriteArguments) (n : Node) → node_at w.nodes n.id ≡ Some n → (p.subject == n.label) ≡ true → IsFootprint site.dom p w (done p (length args.content) (data_written p n args))
  written_footprint args n found own = at (is_empty args.content)
    where
      content : List ℕ
      content = written args.offset args.content n.inner.content

      at : (b : Bool) → IsFootprint site.dom p w (done p (length args.content) (cond b [] (Touch n.id (data_changed p.moment content n.inner) ∷ [])))
      at true = unchanged_footprint site.dom p w stands _
      at false = record {
        within = ap (λ b. b && true) (data_within site.dom p w n content found own);
        place = place_left site.dom p w (apply (Touch n.id (data_changed p.moment content n.inner)) w) (record { clients = refl; sessions = refl }) stands.place;
        subject = refl;
      }

  pub write_footprint : (args : WriteArguments) → IsFootprint site.dom p w (write site args p w)
  write_footprint args = write_any (IsFootprint site.dom p w) site args p w (λ gate status. unchanged_footprint site.dom p w stands _) (λ n may. written_footprint args n may.file.found may.own)

  pub commit_footprint : IsFootprint site.dom p w (commit site p w)
  commit_footprint = commit_any (IsFootprint site.dom p w) site p w (λ gate status. unchanged_footprint site.dom p w stands _) (unchanged_footprint site.dom p w stands _)
