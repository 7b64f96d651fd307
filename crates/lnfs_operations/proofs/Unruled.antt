-- Where labels are carried alone no rule of labels but M9 refuses an operation: all labels that it meets are of level 0.
use Rattle.std.proofs.Common.{◌≡◌, ◌-◌, ℕ, Bool, true, false, cond, List, [], ◌∷◌, Option, Some, None, Ok, Err, refl, sym, ap, ◌∙◌, subst, arith}
use Rattle.std.specs.Prelude.{◌==◌, Result, is_some, min, nat_le}
use Rattle.std.specs.List.{AllByRecursion}
use Rattle.std.proofs.lemmas.Bool.Decides.{nat_tests}
use Rattle.lnfs_calipso.specs.Label.{IsPreorderWithBottom}
use Rattle.lnfs_arguments.specs.declared.types.CreateSession.{CreateSession}
use Rattle.lnfs_arguments.specs.declared.types.Sequence.{Sequence}
use Rattle.lnfs_arguments.specs.declared.types.What.{What}
use Rattle.lnfs_arguments.specs.declared.types.Making.{Making}
use Rattle.lnfs_arguments.specs.declared.types.Claim.{Claim}
use Rattle.lnfs_arguments.specs.declared.types.Claim.TheVariants.{Name, Handle}
use Rattle.lnfs_arguments.specs.declared.stateid.StateId.{StateId}
use Rattle.lnfs_attrs.specs.declared.bitmap.Bitmap.{Bitmap}
use Rattle.lnfs_attrs.specs.declared.raw.RawAttrs.{RawAttrs}
use Rattle.lnfs_attrs.specs.declared.settable.AttrSet.{AttrSet}
use Rattle.lnfs_attrs.specs.declared.view.LabelValue.{LabelValue}
use Rattle.lnfs_results.specs.declared.types.DirEntry.{DirEntry}
use Rattle.lnfs_results.specs.declared.limits.TheConstants.{MOST_DATA}
use Rattle.lnfs_monitor.specs.declared.rule.Rule.TheVariants.{M8}
use Rattle.lnfs_world.specs.World.{Id, Stored, Node, Entry, Open as OpenRow, World, same_id, node_at, label_at, is_directory}
use Rattle.lnfs_world.specs.Change.{Change}
use Rattle.lnfs_world.specs.Names.{entries_above}
use Rattle.lnfs_world.specs.Outcome.{LabelRead, LevelOf, WrongFormat, BadLabel, Site, Place, Outcome, Stands}
use Rattle.lnfs_world.proofs.Rows.{all_find, all_weaker}
use Rattle.lnfs_world.proofs.Seen.{node_at-id, node_there, sees_node, entries_above-behind}
use Rattle.lnfs_operations.specs.declared.Gate.{Gate}
use Rattle.lnfs_operations.specs.declared.Gate.TheVariants as gates
use Rattle.lnfs_operations.specs.declared.numbers.TheConstants.{EMPTY_LISTING}
use Rattle.lnfs_operations.specs.Carried.{CarriesAlone, StandsLow, is_rule}
use Rattle.lnfs_operations.specs.Chain.{Answer, Done, Refused, refuse, done, where_there}
use Rattle.lnfs_operations.specs.ExchangeId.{Arguments, exchange_id}
use Rattle.lnfs_operations.specs.CreateSession.{create_session}
use Rattle.lnfs_operations.specs.DestroySession.{destroy_session}
use Rattle.lnfs_operations.specs.DestroyClientId.{destroy_clientid}
use Rattle.lnfs_operations.specs.ReclaimComplete.{reclaim_complete}
use Rattle.lnfs_operations.specs.Sequence.{Sent, sequence}
use Rattle.lnfs_operations.specs.FileHandles.{put_fh, get_fh, save_fh, restore_fh}
use Rattle.lnfs_operations.specs.Lookup.{lookup, lookup_parent}
use Rattle.lnfs_operations.specs.GetAttr.{get_attr, verify, nverify}
use Rattle.lnfs_operations.specs.Access.{access}
use Rattle.lnfs_operations.specs.ReadDir.{Arguments as Listing, Listed, taken, with_entry, may_show, shown_entry, where_shown, listed, finished, read_dir}
use Rattle.lnfs_operations.specs.ReadLink.{read_link}
use Rattle.lnfs_operations.specs.Create.{create}
use Rattle.lnfs_operations.specs.Link.{link}
use Rattle.lnfs_operations.specs.Remove.{remove}
use Rattle.lnfs_operations.specs.Rename.{Mover, moved_onto, rename}
use Rattle.lnfs_operations.specs.SetAttr.{where_size, set_on, set_attr}
use Rattle.lnfs_operations.specs.Open.{Arguments as Opening, Wanted, nothing_wanted, where_wanted, where_claim, where_shared, open_absent, opened, open_present, open_claimed, open_file}
use Rattle.lnfs_operations.specs.Given.{where_parsed, where_read, where_label, GivenLabel, level_or, spelled_by}
use Rattle.lnfs_operations.specs.StateIds.{Special, Anonymous, Bypass, Current, Way, Reading, Writing, where_usable_by}
use Rattle.lnfs_operations.specs.Close.{close}
use Rattle.lnfs_operations.specs.Read.{Arguments as ReadArguments, read}
use Rattle.lnfs_operations.specs.Write.{Arguments as WriteArguments, write, commit}
use Rattle.lnfs_operations.proofs.Chains.{demand_any}
use Rattle.lnfs_operations.proofs.ReadDirLaws.{entries_found}

abbrev pub IsFree : {R : Type 0} → Answer R → Type 0
IsFree (Done r) = Unit {0}
IsFree (Refused why) = is_rule why.gate ≡ false

-- where it is refused, it is by no rule but M9
pub record Free {R : Type 0} (o : Outcome (Answer R)) : Type 0 where
  pub is : IsFree o.answer

-- ---- chains of tests

pub free_done : {R : Type 0} (q : Place) (r : R) (changes : List Change) → Free (done q r changes)
free_done q r changes = record { is = tt }

pub free_refused : {R : Type 0} (p : Place) (gate : Gate) (status : ℕ) → is_rule gate ≡ false → Free {R = R} (refuse p gate status)
free_refused p gate status is = record { is = is }

free_cond : {R : Type 0} (b : Bool) (x y : Outcome (Answer R)) → Free x → Free y → Free (cond b x y)
free_cond true x y a b = a
free_cond false x y a b = b

-- a test that holds
pub free_passed : {R : Type 0} (b : Bool) (x y : Outcome (Answer R)) → b ≡ true → Free x → Free (cond b x y)
free_passed true x y is a = a
free_passed false x y is a = absurd (grind arith)

free_where : {X R : Type 0} (o : Option X) (found : X → Outcome (Answer R)) (absent : Outcome (Answer R)) → ((x : X) → Free (found x)) → Free absent → Free (where_there o found absent)
free_where None found absent a b = b
free_where (Some x) found absent a b = a x

ruleset walk = (free_where, free_cond, free_done, free_refused)

-- ---- a listing of which each entry may be shown

with_some : (d : DirEntry) (o : Option Listed) → is_some o ≡ true → is_some (with_entry d o) ≡ true
with_some d None is = is
with_some d (Some rest) is = refl

shown_some : (o : Option DirEntry) (room : ℕ) (rest : ℕ → Option Listed) → is_some o ≡ true → ((left : ℕ) → is_some (rest left) ≡ true) → is_some (where_shown o room rest) ≡ true
shown_some None room rest is some = absurd (grind arith)
shown_some (Some d) room rest is some = at (nat_le (taken d) room)
  where
    at : (b : Bool) → is_some (cond b (with_entry d (rest (room - taken d))) (Some (record { entries = []; eof = false }))) ≡ true
    at true = with_some d (rest (room - taken d)) (some (room - taken d))
    at false = refl

listed_some : (show : Entry → Option DirEntry) (entries : List Entry) (room : ℕ) → AllByRecursion (λ e. is_some (show e) ≡ true) entries → is_some (listed show room entries) ≡ true
listed_some show [] room all = refl
listed_some show (e ∷ entries) room all = shown_some (show e) room _ all.0 (λ left. listed_some show entries left all.1)

may_some : {X : Type 0} (b : Bool) (x : X) → b ≡ true → is_some (cond b (Some x) None) ≡ true
may_some true x is = refl
may_some false x is = absurd (grind arith)

-- ---- where all is of level 0

-- a label that is given there, if one is, doesn't raise
abbrev IsLow : Option GivenLabel → Type 0
IsLow label = (level : ℕ) → level ≡ 0 → level_or level label ≡ 0

-- the label of a node that is found, which the subject reads
module _ (site : Site) (lattice : IsPreorderWithBottom site.dom) (p : Place) (w : World) (low : StandsLow p w) where
  pub node_low : (i : Id) (n : Node) → node_at w.nodes i ≡ Some n → n.label ≡ 0
  node_low i n found = (all_find (λ n. (n.id.level ≡ 0) × (n.label ≡ 0)) (λ m. same_id i m.id) w.nodes n low.rows.nodes found).0.1

  pub reads_low : (level : ℕ) → level ≡ 0 → site.dom p.subject level ≡ true
  reads_low level is = ap (site.dom p.subject) is ∙ ap (λ s. site.dom s 0) low.subject ∙ lattice.reflexive 0

module _ (site : Site) (lattice : IsPreorderWithBottom site.dom) (alone : CarriesAlone site) (p : Place) (w : World) (stands : Stands site.dom p w) (low : StandsLow p w) where
  low_node : (i : Id) (n : Node) → node_at w.nodes i ≡ Some n → n.label ≡ 0
  low_node = node_low site lattice p w low

  -- the node of an identifier, if there is one
  free_node : {R : Type 0} (i : Id) (found : Node → Outcome (Answer R)) (absent : Outcome (Answer R)) → ((n : Node) → n.label ≡ 0 → Free (found n)) → Free absent → Free (where_there (node_at w.nodes i) found absent)
  free_node {R} i found absent a b = at (node_at w.nodes i) refl
    where
      at : (o : Option Node) → node_at w.nodes i ≡ o → Free (where_there o found absent)
      at None is = b
      at (Some n) is = a n (low_node i n is)

  -- ---- what the rules are asked

  reads : (level : ℕ) → level ≡ 0 → site.dom p.subject level ≡ true
  reads = reads_low site lattice p w low

  owns : (level : ℕ) → level ≡ 0 → (p.subject == level) ≡ true
  owns level is = let subject = low.subject in grind (arith, nat_tests)

  fits : (child directory : ℕ) → child ≡ 0 → directory ≡ 0 → site.dom child directory ≡ true
  fits child directory is under = ap (λ level. site.dom level directory) is ∙ ap (site.dom 0) under ∙ lattice.reflexive 0

  free_home : {R : Type 0} (status : ℕ) → Free {R = R} (refuse p (cond site.limited gates.Namespace (gates.Monitor M8)) status)
  free_home {R} status = subst (λ b. Free {R = R} (refuse p (cond b gates.Namespace (gates.Monitor M8)) status)) (sym alone.limited) (record { is = refl })

  free_limited : {R : Type 0} (x y : Outcome (Answer R)) → Free x → Free (cond site.limited x y)
  free_limited x y a = free_passed site.limited x y alone.limited a

  -- ---- what is given

  free_parsed : {R : Type 0} (r : Result AttrSet (List ℕ)) (next : AttrSet → Outcome (Answer R)) → ((set : AttrSet) → Free (next set)) → Free (where_parsed p r next)
  free_parsed (Ok set) next a = a set
  free_parsed (Err stuck) next a = record { is = refl }

  free_read : {R : Type 0} (spelled : Stored) (l : LabelRead) (next : Option GivenLabel → Outcome (Answer R)) → ((level : ℕ) → l ≡ LevelOf level → Free (next (Some (record { level = level; spelled = spelled })))) → Free (where_read p spelled l next)
  free_read spelled (LevelOf level) next a = a level refl
  free_read spelled WrongFormat next a = record { is = refl }
  free_read spelled BadLabel next a = record { is = refl }

  free_label : {R : Type 0} (o : Option LabelValue) (next : Option GivenLabel → Outcome (Answer R)) → ((o : Option GivenLabel) → IsLow o → Free (next o)) → Free (where_label site p o next)
  free_label None next a = a None (λ level is. is)
  free_label (Some v) next a = free_read (spelled_by v) (site.reading (spelled_by v)) next (λ level read. a _ (λ own is. alone.level (spelled_by v) level read))

  free_usable : {R : Type 0} (o : Option Special) (n : Node) (id : StateId) (way : Way) (next : Outcome (Answer R)) → Free next → Free (where_usable_by o site p w n id way next)
  free_usable (Some Anonymous) n id way next a = search walk depth 40
  free_usable (Some Bypass) n id Reading next a = a
  free_usable (Some Bypass) n id Writing next a = search walk depth 40
  free_usable (Some Current) n id way next a = record { is = refl }
  free_usable None n id way next a = search walk depth 40

  ruleset low_walk = (free_node, free_limited, free_home, free_passed, reads, owns, fits, walk)

  ruleset given = (free_parsed, free_label, free_usable)

  -- ---- operations of clients, sessions and file handles

  pub exchange_id_free : (args : Arguments) → Free (exchange_id args p w)
  exchange_id_free args = search walk depth 40 fits 4000

  pub destroy_session_free : (session : List ℕ) → Free (destroy_session session p w)
  destroy_session_free session = search walk depth 40 fits 4000

  pub destroy_clientid_free : (client : ℕ) → Free (destroy_clientid client p w)
  destroy_clientid_free client = search walk depth 40 fits 4000

  pub reclaim_complete_free : (one_fs : Bool) → Free (reclaim_complete one_fs p w)
  reclaim_complete_free one_fs = search walk depth 40 fits 4000

  pub sequence_free : (args : Sequence) (sent : Sent) → Free (sequence args sent p w)
  sequence_free args sent = search walk depth 40 fits 4000

  pub create_session_free : (args : CreateSession) (arguments : List ℕ) → Free (create_session args arguments p w)
  create_session_free args arguments = search walk depth 40 fits 4000

  pub put_fh_free : (handle : List ℕ) → Free (put_fh site handle p w)
  put_fh_free handle = search (free_home, walk) depth 40 fits 4000

  pub get_fh_free : Free (get_fh p w)
  get_fh_free = search walk depth 40 fits 4000

  pub save_fh_free : Free (save_fh p w)
  save_fh_free = search walk depth 40 fits 4000

  pub restore_fh_free : Free (restore_fh p w)
  restore_fh_free = search walk depth 40 fits 4000

  -- ---- operations of names and attributes

  pub lookup_free : (name : List ℕ) → Free (lookup site name p w)
  lookup_free name = search low_walk depth 40 fits 4000

  pub lookup_parent_free : Free (lookup_parent site p w)
  lookup_parent_free = search low_walk depth 40 fits 4000

  pub get_attr_free : (asked : Bitmap) → Free (get_attr site asked p w)
  get_attr_free asked = search low_walk depth 40 fits 4000

  pub verify_free : (given : RawAttrs) → Free (verify site given p w)
  verify_free given = search low_walk depth 40 fits 4000

  pub nverify_free : (given : RawAttrs) → Free (nverify site given p w)
  nverify_free given = search low_walk depth 40 fits 4000

  pub access_free : (bits : ℕ) → Free (access site bits p w)
  access_free bits = search walk depth 40 fits 4000

  pub read_link_free : Free (read_link site p w)
  read_link_free = search low_walk depth 40 fits 4000

  pub link_free : (name : List ℕ) → Free (link site name p w)
  link_free name = search low_walk depth 40 fits 4000

  pub remove_free : (name : List ℕ) → Free (remove site name p w)
  remove_free name = search low_walk depth 40 fits 4000

  pub create_free : (what : What) (name : List ℕ) (attrs : RawAttrs) → Free (create site what name attrs p w)
  create_free what name attrs = search (given, low_walk) depth 60 fits 6000

  moved_onto_free : (new : List ℕ) (m : Mover) (o : Option Entry) → Free (moved_onto site new p w m o)
  moved_onto_free new m None = search walk depth 40
  moved_onto_free new m (Some other) = search low_walk depth 40 fits 4000

  pub rename_free : (old new : List ℕ) → Free (rename site old new p w)
  rename_free old new = search (moved_onto_free, low_walk) depth 60 fits 6000

  -- ---- READDIR

  entry_shown : (asked : Bitmap) (e : Entry) → is_some (label_at w.nodes e.node) ≡ true → is_some (shown_entry site p w asked e (node_at w.nodes e.node)) ≡ true
  entry_shown asked e there =
      let found = node_there e.node w.nodes there in
      let above = reads found.0.label (low_node e.node found.0 found.1) in
      ap (λ o. is_some (shown_entry site p w asked e o)) found.1 ∙ may_some (may_show site p asked found.0) _ (grind (arith, above))

  finished_free : (d : Node) (size : ℕ) (o : Option Listed) → is_some o ≡ true → Free (finished site p d size o)
  finished_free d size None is = absurd (grind arith)
  finished_free d size (Some found) is = search walk depth 40

  listed_free : (args : Listing) (i : Id) (d : Node) → node_at w.nodes i ≡ Some d → Free (finished site p d (min args.maxcount MOST_DATA) (entries_found site args p w d))
  listed_free args i d found =
      let own : node_at w.nodes d.id ≡ Some d = ap (node_at w.nodes) (node_at-id i w.nodes d found) ∙ found in
      let seen = sees_node site.dom lattice p.subject w stands.facts d.id d own (reads d.label (low_node i d found)) in
      finished_free d (min args.maxcount MOST_DATA) (entries_found site args p w d)
      (listed_some _ (entries_above w.entries d.id args.cookie) (min args.maxcount MOST_DATA - EMPTY_LISTING) (all_weaker _ _ (λ e known. entry_shown args.asked e known.0) _ (entries_above-behind site.dom lattice p.subject w stands.facts d.id args.cookie seen)))

  -- a node that is found there
  free_found : {R : Type 0} (i : Id) (found : Node → Outcome (Answer R)) (absent : Outcome (Answer R)) → ((n : Node) → node_at w.nodes i ≡ Some n → Free (found n)) → Free absent → Free (where_there (node_at w.nodes i) found absent)
  free_found {R} i found absent a b = at (node_at w.nodes i) refl
    where
      at : (o : Option Node) → node_at w.nodes i ≡ o → Free (where_there o found absent)
      at None is = b
      at (Some n) is = a n is

  pub read_dir_free : (args : Listing) → Free (read_dir site args p w)
  read_dir_free args =
      free_where p.current _ _ (λ i.
      free_found i _ _ (λ d found.
      demand_any Free (is_directory d.kind) _ _ (free_refused p _ _ refl) (λ directory.
      free_passed (site.dom p.subject d.label) _ _ (reads d.label (low_node i d found)) (listed_free args i d found))) (free_refused p _ _ refl)) (free_refused p _ _ refl)

  -- ---- operations of files

  pub close_free : (id : StateId) → Free (close id p w)
  close_free id = search walk depth 40 fits 4000

  pub commit_free : Free (commit site p w)
  commit_free = search low_walk depth 40 fits 4000

  pub read_free : (args : ReadArguments) → Free (read site args p w)
  read_free args = search (given, low_walk) depth 40 fits 4000

  pub write_free : (args : WriteArguments) → Free (write site args p w)
  write_free args = search (given, low_walk) depth 40 fits 4000

  where_size_free : {R : Type 0} (id : StateId) (n : Node) (o : Option ℕ) (next : Outcome (Answer R)) → Free next → Free (where_size site id p w n o next)
  where_size_free id n None next a = a
  where_size_free id n (Some size) next a = search (given, walk) depth 40

  set_on_free : (id : StateId) (n : Node) (values : AttrSet) (o : Option GivenLabel) (set : Bitmap) → n.label ≡ 0 → Free (set_on site id p w n values o set)
  set_on_free id n values None set is = search (where_size_free, low_walk) depth 40
  set_on_free id n values (Some label) set is = search low_walk depth 40

  pub set_attr_free : (id : StateId) (attrs : RawAttrs) → Free (set_attr site id attrs p w)
  set_attr_free id attrs = search (set_on_free, given, low_walk) depth 60 fits 6000

  -- ---- OPEN

  wanted_free : {R : Type 0} (o : Option Making) (next : Wanted → Outcome (Answer R)) → ((wanted : Wanted) → IsLow wanted.label → Free (next wanted)) → Free (where_wanted site p o next)
  wanted_free None next a = a nothing_wanted (λ level is. is)
  wanted_free (Some making) next a = search (given, walk, a) depth 40 fits 4000

  claim_free : {R : Type 0} (claim : Claim) (next : Outcome (Answer R)) → Free next → Free (where_claim p claim next)
  claim_free (Name name) next a = search walk depth 40
  claim_free Handle next a = a

  shared_free : {R : Type 0} (args : Opening) (label : ℕ) (next : Outcome (Answer R)) → label ≡ 0 → Free next → Free (where_shared site p args label next)
  shared_free args label next is a = search low_walk depth 40

  absent_free : (args : Opening) (client : ℕ) (d : Node) (name : List ℕ) (wanted : Wanted) (o : Option Making) → d.label ≡ 0 → IsLow wanted.label → Free (open_absent site args p w client d name wanted o)
  absent_free args client d name wanted None is low_label = record { is = refl }
  absent_free args client d name wanted (Some making) is low_label = search (shared_free, low_walk) depth 40

  opened_free : (args : Opening) (client : ℕ) (wanted : Wanted) (info : _) (n : Node) (o : Option OpenRow) → Free (opened args p w client wanted info n o)
  opened_free args client wanted info n None = search walk depth 40
  opened_free args client wanted info n (Some o) = search walk depth 40

  present_free : (args : Opening) (client : ℕ) (wanted : Wanted) (info : _) (n : Node) → n.label ≡ 0 → Free (open_present site args p w client wanted info n)
  present_free args client wanted info n is = search (shared_free, opened_free, low_walk) depth 40 fits 4000

  claimed_free : (args : Opening) (client : ℕ) (wanted : Wanted) (claim : Claim) → IsLow wanted.label → Free (open_claimed site args p w client wanted claim)
  claimed_free args client wanted (Name name) low_label = search (present_free, absent_free, low_walk) depth 40 fits 4000
  claimed_free args client wanted Handle low_label = search (present_free, low_walk) depth 40 fits 4000

  pub open_free : (args : Opening) → Free (open_file site args p w)
  open_free args = search (claim_free, wanted_free, claimed_free, walk) depth 60 fits 6000
