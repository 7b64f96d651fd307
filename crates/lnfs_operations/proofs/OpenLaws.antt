-- What OPEN looks at, and what it changes: opens of the subject's level, with a file at its label that is made or cut.
use Rattle.std.proofs.Common.{◌≡◌, ◌+◌, ℕ, Bool, true, false, not, ◌&&◌, ◌||◌, cond, List, [], ◌∷◌, ◌++◌, Option, Some, None, refl, ap, ◌∙◌, arith}
use Rattle.std.specs.Prelude.{◌==◌, is_some, nat_le, nat_lt}
use Rattle.std.proofs.lemmas.Bool.Decides.{nat_tests}
use Rattle.lnfs_attrs.specs.declared.numbers.TheConstants.{SIZE}
use Rattle.lnfs_calipso.specs.Label.{IsPreorderWithBottom}
use Rattle.lnfs_arguments.specs.declared.stateid.Cinfo.{Cinfo}
use Rattle.lnfs_arguments.specs.declared.types.Making.{Making}
use Rattle.lnfs_arguments.specs.declared.types.Making.TheVariants.{Unchecked, Guarded, Exclusive}
use Rattle.lnfs_arguments.specs.declared.types.Claim.{Claim}
use Rattle.lnfs_arguments.specs.declared.types.Claim.TheVariants.{Name, Handle}
use Rattle.lnfs_arguments.specs.declared.statuses.TheConstants.{NFS4ERR_NOENT, NFS4ERR_NOSPC}
use Rattle.lnfs_monitor.specs.Rules.{Asks, allows}
use Rattle.lnfs_monitor.specs.Rules as rules
use Rattle.lnfs_world.specs.declared.numbers.TheConstants.{OPENS_OF_A_LEVEL, LAST_NUMBER}
use Rattle.lnfs_world.specs.World.{Id, Node, Open, World, node_at, is_directory, last_of}
use Rattle.lnfs_world.specs.Names.{entry_at}
use Rattle.lnfs_world.specs.Erased.{erased, shrunk}
use Rattle.lnfs_world.specs.Facts.{same_opening}
use Rattle.lnfs_world.specs.Change.{Change, Touch, Make, SetOpen, AddOpen}
use Rattle.lnfs_world.specs.Effects.{name_added, next_entry, has_cookie, data_changed}
use Rattle.lnfs_world.specs.Outcome.{Site, Place, Outcome, Stands, View}
use Rattle.lnfs_world.proofs.Rows.{count-kept}
use Rattle.lnfs_world.proofs.Seen.{shrunk_whole, node_at-seen, sees_node, entry_at-seen, entry_at-home}
use Rattle.lnfs_world.proofs.Usage.{nodes_used-seen}
use Rattle.lnfs_world.proofs.Views.{row_at-seen, last_of-seen}
use Rattle.lnfs_operations.specs.declared.Gate.TheVariants as gates
use Rattle.lnfs_operations.specs.declared.numbers.TheConstants.{OPEN4_SHARE_ACCESS_WRITE, OPEN4_SHARE_ACCESS_BOTH}
use Rattle.lnfs_operations.specs.Chain.{Answer, refuse, done, demand, where_there}
use Rattle.lnfs_operations.specs.NewNames.{changed, unchanged}
use Rattle.lnfs_operations.specs.Shown.{bitmap_of}
use Rattle.lnfs_operations.specs.Given.{is_mode, level_or}
use Rattle.lnfs_world.specs.Opens.{has_any, ended}
use Rattle.lnfs_world.proofs.Leases.{give_way_seen}
use Rattle.lnfs_world.proofs.Leases as leases
use Rattle.lnfs_operations.specs.StateIds.{state_of}
use Rattle.lnfs_operations.specs.Open.{Arguments, Opened, access_of, opener, passed_over, Wanted, attrs_of, nothing_wanted, is_no_size, where_wanted, gives_size, is_of_handle, where_claim, new_open, own_open, joined, conflicts, has_open_left, where_shared, new_file, open_absent, may_be_there, opened, open_present, no_change, open_claimed, open_file}
use Rattle.lnfs_operations.proofs.Chains.{demand_alike, asked_alike, demand_agrees, where_alike, standing_view}
use Rattle.lnfs_operations.proofs.CurrentLaws.{shown_alike, with_current-seen}
use Rattle.lnfs_operations.proofs.GivenLaws.{values_alike, label_alike}
use Rattle.lnfs_operations.proofs.SessionLaws.{own_level}
use Rattle.lnfs_operations.proofs.TakingLaws.{own_above, own_whole}
use Rattle.lnfs_operations.proofs.FileLaws.{file_alike}

-- ---- tests that look at no world

wanted_alike : {R : Type 0} (site : Site) (p : Place) (making : Option Making) (f g : Wanted → Outcome (Answer R)) → ((wanted : Wanted) → f wanted ≡ g wanted) → where_wanted site p making f ≡ where_wanted site p making g
wanted_alike site p None f g same = same nothing_wanted
wanted_alike site p (Some making) f g same =
    values_alike p (attrs_of making) _ _ (λ values.
    demand_alike (is_no_size values.size) _ _ _ (λ none.
    demand_alike (is_mode values.mode) _ _ _ (λ mode.
    label_alike site p values.label _ _ (λ label. same _))))

-- ---- what is looked at

module _ (site : Site) (lattice : IsPreorderWithBottom site.dom) (args : Arguments) (p : Place) (w : World) (stands : Stands site.dom p w) (client : ℕ) (wanted : Wanted) where
  abbrev seen_world : World
  seen_world = erased site.dom p.subject w

  abbrev seen_node : Node → Node
  seen_node n = shrunk site.dom p.subject n

  -- opens, of the subject's level, and their last number
  last_open_seen : last_of p.subject seen_world.lasts.opens ≡ last_of p.subject w.lasts.opens
  last_open_seen = last_of-seen site.dom p.subject p.subject (lattice.reflexive p.subject) w.lasts.opens

  has_open_left-seen : has_open_left p seen_world ≡ has_open_left p w
  has_open_left-seen =
      let count = count-kept _ _ (λ o. o.id.level == p.subject) (λ o is. own_level site.dom lattice p.subject o.id.level is) (λ o. refl) w.opens in
      λ k. nat_lt (count k) OPENS_OF_A_LEVEL && nat_lt (last_open_seen k) LAST_NUMBER

  own_open-seen : (node : Id) → own_open args p seen_world client node ≡ own_open args p w client node
  own_open-seen node = row_at-seen site.dom p.subject (λ o. o.id) (same_opening (new_open args p w client node)) (λ o same. above o same) w.opens
    where
      above : (o : Open) → same_opening (new_open args p w client node) o ≡ true → site.dom p.subject o.id.level ≡ true
      above o same = grind (arith, nat_tests, same, lattice.reflexive p.subject)

  conflicts_seen : (n : Node) → conflicts site args p seen_world client (seen_node n) ≡ conflicts site args p w client n
  conflicts_seen n = leases.conflicts_seen site.dom p.subject w p.moment (Some (opener args p client)) n.id (access_of args) args.deny

  passed_over-seen : (n : Node) → passed_over args p seen_world client (seen_node n) ≡ passed_over args p w client n
  passed_over-seen n = give_way_seen site.dom p.subject w p.moment lattice (opener args p client) n.id (access_of args) args.deny

  -- what an exclusive create brought is outside of a node's label
  may_be_there-seen : (making : Option Making) (n : Node) → may_be_there making (seen_node n) ≡ may_be_there making n
  may_be_there-seen None n = refl
  may_be_there-seen (Some (Unchecked attrs)) n = refl
  may_be_there-seen (Some (Guarded attrs)) n = refl
  may_be_there-seen (Some (Exclusive verifier attrs)) n = refl

  -- a file is cut at the subject's label
  cut_seen : (sized : Bool) (n : Node) → (sized ≡ true → (p.subject == n.label) ≡ true) → cond sized (Touch n.id (data_changed p.moment [] (seen_node n).inner) ∷ []) [] ≡ cond sized (Touch n.id (data_changed p.moment [] n.inner) ∷ []) []
  cut_seen true n own = ap (λ m. Touch n.id (data_changed p.moment [] m.inner) ∷ []) (own_whole site.dom lattice p w stands n (own refl))
  cut_seen false n own = refl

  -- a new open under its number
  abbrev numbered : Id → (last : ℕ) → Open
  numbered node last = record (new_open args p w client node) { id = record { level = p.subject; number = last + 1 } }

  -- the last outcome, on what was cut
  abbrev finished : Cinfo → Id → List Change → Open → List Change → Outcome (Answer Opened)
  finished info i before o changes = done (record p { current = Some i }) (record { id = state_of o; info = info; set = bitmap_of (λ attr. wanted.sized && attr == SIZE) }) (before ++ changes)

  opened_seen : (info : Cinfo) (n : Node) → (wanted.sized ≡ true → (p.subject == n.label) ≡ true) → (o : Option Open) → opened args p seen_world client wanted info (seen_node n) o ≡ opened args p w client wanted info n o
  opened_seen info n own (Some o) =
      let before = cut_seen wanted.sized n own in
      λ k. finished info n.id (before k) (joined args o) (SetOpen (joined args o) ∷ ended (passed_over-seen n k))
  opened_seen info n own None =
      let before = cut_seen wanted.sized n own in
      λ k. demand (has_open_left-seen k) (refuse p gates.Quota NFS4ERR_NOSPC) (finished info n.id (before k) (numbered n.id (last_open_seen k)) (AddOpen (numbered n.id (last_open_seen k)) ∷ ended (passed_over-seen n k)))

  present_seen : (info : Cinfo) (n : Node) → open_present site args p seen_world client wanted info (seen_node n) ≡ open_present site args p w client wanted info n
  present_seen info n =
      file_alike p n _ _ (
      demand_agrees _ (may_be_there args.making n) _ _ _ (may_be_there-seen args.making n) (λ may.
      ap (where_shared site p args n.label) (
      asked_alike wanted.sized site p (rules.Write n.label) _ _ (λ own.
      demand_agrees _ (not (conflicts site args p w client n)) _ _ _ (ap not (conflicts_seen n)) (λ free.
      ap (opened args p seen_world client wanted info (seen_node n)) (own_open-seen n.id)
      ∙ opened_seen info n own (own_open args p w client n.id))))))

  -- the last tests of a new file, on what they look at of the world
  abbrev made_on : (name : List ℕ) → Node → Making → (used last : ℕ) → (left : Bool) → (last_open : ℕ) → Outcome (Answer Opened)
  made_on name d making used last left last_open =
      let n : Node = record (new_file site p w making wanted d) { id = record { level = d.label; number = last + 1 } } in
      let o = numbered n.id last_open in
      demand (nat_lt used (site.nodes d.label) && (nat_lt last LAST_NUMBER && has_cookie d)) (refuse p gates.Quota NFS4ERR_NOSPC) (
      demand left (refuse p gates.Quota NFS4ERR_NOSPC) (
      done (record p { current = Some n.id }) (record { id = state_of o; info = changed d; set = wanted.set }) (
      Touch d.id (name_added p.moment d.inner) ∷ Make n (next_entry d name n.id) ∷ AddOpen o ∷ [])))

  absent_seen : (d : Node) (name : List ℕ) (making : Option Making) → open_absent site args p seen_world client d name wanted making ≡ open_absent site args p w client d name wanted making
  absent_seen d name None = refl
  absent_seen d name (Some making) =
      demand_alike (p.subject == d.label) _ _ _ (λ own.
      demand_alike (site.dom (level_or d.label wanted.label) d.label) _ _ _ (λ rises.
      let above = own_above site.dom lattice p w stands d.label own in
      let used = nodes_used-seen site.dom p.subject d.label w above in
      let last = last_of-seen site.dom p.subject d.label above w.lasts.nodes in
      ap (where_shared site p args (level_or d.label wanted.label)) (λ k. made_on name d making (used k) (last k) (has_open_left-seen k) (last_open_seen k))))

  -- a name in a directory that is read
  named_seen : (d : Node) (name : List ℕ) → node_at w.nodes d.id ≡ Some d → site.dom p.subject d.label ≡ true →
      where_there (entry_at seen_world.entries d.id name) (λ e. where_there (node_at seen_world.nodes e.node) (open_present site args p seen_world client wanted (unchanged d)) (refuse p gates.Namespace NFS4ERR_NOENT)) (open_absent site args p seen_world client d name wanted args.making)
      ≡ where_there (entry_at w.entries d.id name) (λ e. where_there (node_at w.nodes e.node) (open_present site args p w client wanted (unchanged d)) (refuse p gates.Namespace NFS4ERR_NOENT)) (open_absent site args p w client d name wanted args.making)
  named_seen d name found above =
      let seen = sees_node site.dom lattice p.subject w stands.facts d.id d found above in
      ap (λ o. where_there o (λ e. where_there (node_at seen_world.nodes e.node) (open_present site args p seen_world client wanted (unchanged d)) (refuse p gates.Namespace NFS4ERR_NOENT)) (open_absent site args p seen_world client d name wanted args.making)) (entry_at-seen site.dom p.subject w d.id seen name)
      ∙ ap (where_there (entry_at w.entries d.id name) _) (absent_seen d name args.making)
      ∙ where_alike (entry_at w.entries d.id name) _ _ _ (λ e named.
      ap (λ o. where_there o (open_present site args p seen_world client wanted (unchanged d)) (refuse p gates.Namespace NFS4ERR_NOENT)) (node_at-seen site.dom p.subject w e.node (entry_at-home site.dom lattice p.subject w stands.facts d.id name e seen named))
      ∙ shown_alike seen_node _ _ _ (node_at w.nodes e.node) (λ n there. present_seen (unchanged d) n))

  claimed_seen : (claim : Claim) → open_claimed site args p seen_world client wanted claim ≡ open_claimed site args p w client wanted claim
  claimed_seen (Name name) =
      with_current-seen site.dom p w stands _ _ (λ d held.
      demand_alike (is_directory d.kind) _ _ _ (λ directory.
      demand_alike (site.dom p.subject d.label) _ _ _ (λ above.
      ap (λ m. where_there (entry_at seen_world.entries d.id name) (λ e. where_there (node_at seen_world.nodes e.node) (open_present site args p seen_world client wanted (unchanged m)) (refuse p gates.Namespace NFS4ERR_NOENT)) (open_absent site args p seen_world client m name wanted args.making)) (shrunk_whole site.dom p.subject d above)
      ∙ named_seen d name held.found above)))
  claimed_seen Handle = with_current-seen site.dom p w stands _ _ (λ n held. present_seen no_change n)

pub open_view : (site : Site) → IsPreorderWithBottom site.dom → (args : Arguments) → View site.dom (open_file site args)
open_view site lattice args = standing_view site.dom (open_file site args) (λ p w stands.
    where_alike p.client _ _ _ (λ client under.
    demand_alike (not (access_of args == 0)) _ _ _ (λ some.
    demand_alike (nat_le args.deny OPEN4_SHARE_ACCESS_BOTH) _ _ _ (λ known.
    demand_alike (not (is_of_handle args.claim && is_some args.making)) _ _ _ (λ plain.
    demand_alike (not (gives_size args.making) || has_any (access_of args) OPEN4_SHARE_ACCESS_WRITE) _ _ _ (λ writes.
    ap (where_claim p args.claim) (
    wanted_alike site p args.making _ _ (λ wanted.
    claimed_seen site lattice args p w stands client wanted args.claim))))))))
