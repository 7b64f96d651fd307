-- The ends of OPEN: what holds of each holds of its outcome.
use Rattle.std.proofs.Common.{◌∷◌, ◌≡◌, ℕ, true, not, ◌&&◌, ◌||◌, List, Option, Some, None, refl, sym, ap, ◌∙◌}
use Rattle.std.specs.Prelude.{◌==◌, is_some, nat_le}
use Rattle.lnfs_attrs.specs.declared.settable.AttrSet.{AttrSet}
use Rattle.lnfs_arguments.specs.declared.stateid.Cinfo.{Cinfo}
use Rattle.lnfs_arguments.specs.declared.types.Making.{Making}
use Rattle.lnfs_arguments.specs.declared.types.Claim.{Claim}
use Rattle.lnfs_arguments.specs.declared.types.Claim.TheVariants.{Name, Handle}
use Rattle.lnfs_arguments.specs.declared.statuses.TheConstants.{NFS4ERR_NOENT, NFS4ERR_STALE, NFS4ERR_NOFILEHANDLE}
use Rattle.lnfs_monitor.specs.Rules as rules
use Rattle.lnfs_world.specs.World.{Id, Node, Entry, Open, World, node_at, is_directory}
use Rattle.lnfs_world.specs.Names.{entry_at}
use Rattle.lnfs_world.specs.Change.{SetOpen, AddOpen}
use Rattle.lnfs_world.specs.Outcome.{Site, Place, Outcome}
use Rattle.lnfs_world.proofs.Seen.{node_at-id}
use Rattle.lnfs_operations.specs.declared.Gate.{Gate}
use Rattle.lnfs_operations.specs.declared.Gate.TheVariants as gates
use Rattle.lnfs_operations.specs.declared.numbers.TheConstants.{OPEN4_SHARE_ACCESS_READ, OPEN4_SHARE_ACCESS_WRITE, OPEN4_SHARE_ACCESS_BOTH}
use Rattle.lnfs_operations.specs.Chain.{Answer, refuse, where_there}
use Rattle.lnfs_operations.specs.NewNames.{unchanged}
use Rattle.lnfs_operations.specs.Given.{is_mode, level_or, set_of}
use Rattle.lnfs_operations.specs.Bounds.{is_well_formed}
use Rattle.lnfs_operations.specs.Create.{has_room}
use Rattle.lnfs_world.specs.Opens.{has_any, ended}
use Rattle.lnfs_operations.specs.Open.{Arguments, Opened, access_of, Wanted, attrs_of, nothing_wanted, is_no_size, where_wanted, gives_size, is_of_handle, where_claim, new_open, own_open, joined, conflicts, passed_over, has_open_left, where_shared, new_file, made, open_absent, may_be_there, opened_with, opened, open_present, open_name, no_change, open_claimed, open_file}
use Rattle.lnfs_operations.proofs.Chains.{demand_any, where_any}
use Rattle.lnfs_operations.proofs.Ends.{at_current_any, allowed_any, asked_any, well_named_any}
use Rattle.lnfs_operations.proofs.GivenLaws.{AreRead, IsGiven, values_any, mode_any, label_any}
use Rattle.lnfs_operations.proofs.FileLaws.{IsFile, file_any}

-- ---- what was tested

-- what is wanted of a file that is made, as it was given
pub record IsWanted (site : Site) (making : Making) (wanted : Wanted) : Type 0 where
  pub values : AttrSet
  pub read : AreRead (attrs_of making) values
  pub given : IsGiven site values.label wanted.label
  pub mode : is_mode wanted.mode ≡ true
  pub set : wanted.set ≡ set_of (attrs_of making)

abbrev pub WantedOf : Site → Option Making → Wanted → Type 0
WantedOf site None wanted = wanted ≡ nothing_wanted
WantedOf site (Some making) wanted = IsWanted site making wanted

-- what is asked of an open: something, and no more bits than there are
pub record Shares (args : Arguments) : Type 0 where
  pub some : not (access_of args == 0) ≡ true
  pub known : nat_le args.deny OPEN4_SHARE_ACCESS_BOTH ≡ true

-- the directory of a new file, its name, and that it may be opened
pub record MayMake (site : Site) (args : Arguments) (p : Place) (w : World) (client : ℕ) (name : List ℕ) (making : Making) (wanted : Wanted) (d : Node) : Type 0 where
  pub under : p.client ≡ Some client
  pub shares : Shares args
  pub named : is_well_formed name ≡ true
  pub asked : args.making ≡ Some making
  pub as_given : IsWanted site making wanted
  pub current : p.current ≡ Some d.id
  pub found : node_at w.nodes d.id ≡ Some d
  pub directory : is_directory d.kind ≡ true
  pub own : (p.subject == d.label) ≡ true
  pub rises : site.dom (level_or d.label wanted.label) d.label ≡ true
  pub new : entry_at w.entries d.id name ≡ None
  pub room : has_room site w d ≡ true
  pub left : has_open_left p w ≡ true

-- where a file that is there was found: at the current file handle, or by its name in a directory that is read
pub data IsReached (site : Site) (p : Place) (w : World) (n : Node) : Type 0 where
  Handed : p.current ≡ Some n.id → IsReached site p w n
  Named : (d : Node) (name : List ℕ) (e : Entry) → node_at w.nodes d.id ≡ Some d → site.dom p.subject d.label ≡ true → entry_at w.entries d.id name ≡ Some e → e.node ≡ n.id → IsReached site p w n

-- a file that is there, which may be cut
pub record MayOpen (site : Site) (args : Arguments) (p : Place) (w : World) (client : ℕ) (wanted : Wanted) (n : Node) : Type 0 where
  pub under : p.client ≡ Some client
  pub shares : Shares args
  pub file : IsFile w n
  pub reached : IsReached site p w n
  pub own : wanted.sized ≡ true → (p.subject == n.label) ≡ true

-- a name that is claimed is well formed
abbrev pub ClaimIs : Claim → Type 0
ClaimIs (Name name) = is_well_formed name ≡ true
ClaimIs Handle = Unit {0}

-- ---- the tests

module _ {R : Type 0} (P : Outcome (Answer R) → Type 0) (p : Place) (refused : (gate : Gate) (status : ℕ) → P (refuse p gate status)) (site : Site) where
  wanted_any : (making : Option Making) (next : Wanted → Outcome (Answer R)) → ((wanted : Wanted) → WantedOf site making wanted → P (next wanted)) → P (where_wanted site p making next)
  wanted_any None next is = is nothing_wanted refl
  wanted_any (Some making) next is =
      values_any P p refused (attrs_of making) _ (λ values read.
      demand_any P (is_no_size values.size) _ _ (refused _ _) (λ none.
      mode_any P p refused values.mode _ (λ mode.
      label_any P p refused site values.label _ (λ label given.
      is _ (record { values = values; read = read; given = given; mode = mode; set = refl })))))

  shared_any : (args : Arguments) (label : ℕ) (next : Outcome (Answer R)) → P next → P (where_shared site p args label next)
  shared_any args label next is =
      asked_any P p refused (has_any (access_of args) OPEN4_SHARE_ACCESS_READ) site (rules.Read label) _ (λ reads.
      asked_any P p refused (has_any (access_of args) OPEN4_SHARE_ACCESS_WRITE) site (rules.Write label) _ (λ writes.
      asked_any P p refused (not (args.deny == 0)) site (rules.Deny label) _ (λ denies. is)))

  claim_any : (claim : Claim) (next : Outcome (Answer R)) → (ClaimIs claim → P next) → P (where_claim p claim next)
  claim_any (Name name) next is = well_named_any P p refused name next is
  claim_any Handle next is = is tt

-- ---- the ends

pub record OpenEnds (P : Outcome (Answer Opened) → Type 0) (site : Site) (args : Arguments) (p : Place) (w : World) : Type 0 where
  pub refused : (gate : Gate) (status : ℕ) → P (refuse p gate status)
  -- a new file, which is opened
  pub makes : (client : ℕ) (name : List ℕ) (making : Making) (wanted : Wanted) (d : Node) → MayMake site args p w client name making wanted d → P (made args p w client d name wanted.set (new_file site p w making wanted d))
  -- an open that is joined, and a new one
  pub joins : (client : ℕ) (wanted : Wanted) (info : Cinfo) (n : Node) (o : Open) → MayOpen site args p w client wanted n → own_open args p w client n.id ≡ Some o → P (opened_with p wanted n info (joined args o) (SetOpen (joined args o) ∷ ended (passed_over args p w client n)))
  pub adds : (client : ℕ) (wanted : Wanted) (info : Cinfo) (n : Node) → MayOpen site args p w client wanted n → own_open args p w client n.id ≡ None → has_open_left p w ≡ true →
      P (opened_with p wanted n info (new_open args p w client n.id) (AddOpen (new_open args p w client n.id) ∷ ended (passed_over args p w client n)))

module _ (P : Outcome (Answer Opened) → Type 0) (site : Site) (args : Arguments) (p : Place) (w : World) (ends : OpenEnds P site args p w) (client : ℕ) (is_client : p.client ≡ Some client) (shares : Shares args) (wanted : Wanted) where
  opened_any : (info : Cinfo) (n : Node) → MayOpen site args p w client wanted n → (o : Option Open) → own_open args p w client n.id ≡ o → P (opened args p w client wanted info n o)
  opened_any info n may None none = demand_any P (has_open_left p w) _ _ (ends.refused _ _) (λ left. ends.adds client wanted info n may none left)
  opened_any info n may (Some o) there = ends.joins client wanted info n o may there

  present_any : (info : Cinfo) (i : Id) (n : Node) → node_at w.nodes i ≡ Some n → (n.id ≡ i → IsReached site p w n) → P (open_present site args p w client wanted info n)
  present_any info i n there reached =
      let id = node_at-id i w.nodes n there in
      file_any P p ends.refused w n _ (ap (node_at w.nodes) id ∙ there) (λ file.
      demand_any P (may_be_there args.making n) _ _ (ends.refused _ _) (λ may.
      shared_any P p ends.refused site args n.label _ (
      asked_any P p ends.refused wanted.sized site (rules.Write n.label) _ (λ own.
      demand_any P (not (conflicts site args p w client n)) _ _ (ends.refused _ _) (λ free.
      opened_any info n (record { under = is_client; shares = shares; file = file; reached = reached id; own = own }) (own_open args p w client n.id) refl)))))

  absent_any : (d : Node) (name : List ℕ) → is_well_formed name ≡ true → (making : Option Making) → args.making ≡ making → WantedOf site making wanted → p.current ≡ Some d.id → node_at w.nodes d.id ≡ Some d → is_directory d.kind ≡ true → entry_at w.entries d.id name ≡ None → P (open_absent site args p w client d name wanted making)
  absent_any d name well None asked as_given current found directory new = ends.refused _ _
  absent_any d name well (Some making) asked as_given current found directory new =
      allowed_any P p ends.refused site (rules.Change d.label) _ (λ own.
      allowed_any P p ends.refused site (rules.Child d.label (level_or d.label wanted.label)) _ (λ rises.
      shared_any P p ends.refused site args (level_or d.label wanted.label) _ (
      demand_any P (has_room site w d) _ _ (ends.refused _ _) (λ room.
      demand_any P (has_open_left p w) _ _ (ends.refused _ _) (λ left.
      ends.makes client name making wanted d (record { under = is_client; shares = shares; named = well; asked = asked; as_given = as_given; current = current; found = found; directory = directory; own = own; rises = rises; new = new; room = room; left = left }))))))

  name_any : (name : List ℕ) → is_well_formed name ≡ true → WantedOf site args.making wanted → P (open_name site args p w client wanted name)
  name_any name well as_given =
      at_current_any P p ends.refused w _ (λ i d is there.
      let id = node_at-id i w.nodes d there in
      let found = ap (node_at w.nodes) id ∙ there in
      demand_any P (is_directory d.kind) _ _ (ends.refused _ _) (λ directory.
      allowed_any P p ends.refused site (rules.Read d.label) _ (λ above.
      at d (is ∙ ap Some (sym id)) found directory above (entry_at w.entries d.id name) refl)))
    where
      at : (d : Node) → p.current ≡ Some d.id → node_at w.nodes d.id ≡ Some d → is_directory d.kind ≡ true → site.dom p.subject d.label ≡ true → (o : Option Entry) → entry_at w.entries d.id name ≡ o →
          P (where_there o
          (λ e. where_there (node_at w.nodes e.node) (open_present site args p w client wanted (unchanged d)) (refuse p gates.Namespace NFS4ERR_NOENT))
          (open_absent site args p w client d name wanted args.making))
      at d current found directory above None new = absent_any d name well args.making refl as_given current found directory new
      at d current found directory above (Some e) named =
          where_any P (node_at w.nodes e.node) _ _ (λ n there. present_any (unchanged d) e.node n there (λ id. Named d name e found above named (sym id))) (ends.refused _ _)

  claimed_any : (claim : Claim) → ClaimIs claim → WantedOf site args.making wanted → P (open_claimed site args p w client wanted claim)
  claimed_any (Name name) well as_given = name_any name well as_given
  claimed_any Handle well as_given =
      where_any P p.current _ _ (λ i current.
      where_any P (node_at w.nodes i) _ _ (λ n there. present_any no_change i n there (λ id. Handed (current ∙ ap Some (sym id)))) (ends.refused gates.Namespace NFS4ERR_STALE)) (ends.refused gates.Namespace NFS4ERR_NOFILEHANDLE)

-- what holds of each end of OPEN holds of its outcome
pub open_any : (P : Outcome (Answer Opened) → Type 0) (site : Site) (args : Arguments) (p : Place) (w : World) → OpenEnds P site args p w → P (open_file site args p w)
open_any P site args p w ends =
    where_any P p.client _ _ (λ client there.
    demand_any P (not (access_of args == 0)) _ _ (ends.refused _ _) (λ some.
    demand_any P (nat_le args.deny OPEN4_SHARE_ACCESS_BOTH) _ _ (ends.refused _ _) (λ known.
    demand_any P (not (is_of_handle args.claim && is_some args.making)) _ _ (ends.refused _ _) (λ plain.
    demand_any P (not (gives_size args.making) || has_any (access_of args) OPEN4_SHARE_ACCESS_WRITE) _ _ (ends.refused _ _) (λ writes.
    claim_any P p ends.refused site args.claim _ (λ well.
    wanted_any P p ends.refused site args.making _ (λ wanted as_given.
    claimed_any P site args p w ends client there (record { some = some; known = known }) wanted args.claim well as_given))))))) (ends.refused _ _)
