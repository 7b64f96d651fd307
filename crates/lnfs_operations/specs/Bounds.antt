-- What bounds the rows of every world that is kept, beside the sizes that they have: levels, numbers and lengths, the bits of
-- shares, and how many rows a level may have. They speak of the levels of the site, and of whether it carries labels alone.
use Rattle.std.specs.Prelude.{◌≡◌, ◌≤◌, ◌==◌, ℕ, Bool, true, not, ◌&&◌, List, [], length, IfSome, nat_le, count_by}
use Rattle.std.specs.List.{AllByRecursion}
use Rattle.std.specs.Str.{is_utf8}
use Rattle.lnfs_words.specs.Words.{is_empty}
use Rattle.lnfs_arguments.specs.declared.numbers.TheConstants.{OWNER_LIMIT}
use Rattle.lnfs_world.specs.World.{Id, Client, Session, Context, Kind, File, Directory, SymbolicLink, Inner, Node, Entry, Open, Lasts, World}
use Rattle.lnfs_world.specs.Names.{names_of}
use Rattle.lnfs_world.specs.Facts.{Facts}
use Rattle.lnfs_world.specs.Outcome.{Site}
use Rattle.lnfs_world.specs.declared.numbers.TheConstants.{FIRST_COOKIE, LAST_NUMBER, LAST_CHANGE, LAST_COOKIE, LAST_SEQUENCE, MOST_NAMES, MOST_FILE, OPENS_OF_A_LEVEL}
use Rattle.lnfs_operations.specs.declared.numbers.TheConstants.{CLIENTS_OF_A_LEVEL, SESSIONS_OF_A_LEVEL, LONGEST_NAME, MOST_MODE, OPEN4_SHARE_ACCESS_BOTH}
use Rattle.lnfs_operations.specs.Names.{has_bad_byte, is_dots}
use Rattle.lnfs_operations.specs.Sizes.{IsBetween, is_level, Sizes}

-- ---- identifiers

-- A level gives numbers from 1 on. So a level that gave none has no last number.
pub record IsGivenBy (site : Site) (i : Id) : Type 0 where
  pub level : is_level site i.level ≡ true
  pub number : IsBetween 1 LAST_NUMBER i.number

-- ---- clients, sessions, contexts

pub record ClientBounds (site : Site) (c : Client) : Type 0 where
  pub id : IsGivenBy site c.id
  -- the name and the verifier of a client owner (`client_owner4`, RFC 8881 section 3.3.10.1)
  pub owner : length c.owner ≤ OWNER_LIMIT
  pub verifier : length c.verifier ≡ 8
  pub sequence : c.sequence ≤ LAST_SEQUENCE

pub record SessionBounds (site : Site) (x : Session) : Type 0 where
  pub id : IsGivenBy site x.id
  -- the last sequence of each slot
  pub sequences : AllByRecursion (λ slot. slot.sequence ≤ LAST_SEQUENCE) x.slots

abbrev pub ContextBounds : Site → Context → Type 0
ContextBounds site x = IsGivenBy site x.id

-- ---- nodes and entries

-- The data of a file are limited. A directory has none, and only a directory gives cookies, from the first one on.
abbrev pub HoldsBy : Kind → Inner → Type 0
HoldsBy File inner = (length inner.content ≤ MOST_FILE) × (inner.cookies ≡ FIRST_COOKIE)
HoldsBy Directory inner = (inner.content ≡ []) × IsBetween FIRST_COOKIE LAST_COOKIE inner.cookies
HoldsBy SymbolicLink inner = inner.cookies ≡ FIRST_COOKIE

pub record InnerBounds (kind : Kind) (inner : Inner) : Type 0 where
  -- the twelve bits of section 6.2.4
  pub mode : inner.mode ≤ MOST_MODE
  pub change : inner.change ≤ LAST_CHANGE
  pub holds : HoldsBy kind inner

pub record NodeBounds (site : Site) (n : Node) : Type 0 where
  pub id : IsGivenBy site n.id
  pub label : is_level site n.label ≡ true
  -- `createverf4` of an exclusive create (section 18.16.1)
  pub verifier : IfSome n.verifier (λ bytes. length bytes ≡ 8)
  pub inner : InnerBounds n.kind n.inner

-- the tests of a component's name (sections 14.4 and 18.15.3)
abbrev pub is_well_formed : (name : List ℕ) → Bool
is_well_formed name =
    not (is_empty name) && (nat_le (length name) LONGEST_NAME && (is_utf8 name
    && (not (has_bad_byte name) && not (is_dots name))))

pub record EntryBounds (e : Entry) : Type 0 where
  -- cookies 0, 1 and 2 have meanings of their own (section 18.23.3)
  pub cookie : FIRST_COOKIE ≤ e.cookie
  pub name : is_well_formed e.name ≡ true

-- ---- opens

pub record OpenBounds (site : Site) (o : Open) : Type 0 where
  pub id : IsGivenBy site o.id
  -- the opaque name of an open owner (`open_owner4`, section 3.3.10.2)
  pub owner : length o.owner ≤ OWNER_LIMIT
  -- an open is for reading, for writing or for both, and may deny them (section 18.16.3)
  pub access : IsBetween 1 OPEN4_SHARE_ACCESS_BOTH o.access
  pub deny : o.deny ≤ OPEN4_SHARE_ACCESS_BOTH
  -- the sequence of a state id never is 0 (section 8.2.2)
  pub sequence : IsBetween 1 LAST_SEQUENCE o.sequence

-- ---- all rows

-- last numbers, of levels that gave one
pub record LastBounds (site : Site) (lasts : Lasts) : Type 0 where
  pub clients : AllByRecursion (IsGivenBy site) lasts.clients
  pub sessions : AllByRecursion (IsGivenBy site) lasts.sessions
  pub contexts : AllByRecursion (IsGivenBy site) lasts.contexts
  pub nodes : AllByRecursion (IsGivenBy site) lasts.nodes
  pub opens : AllByRecursion (IsGivenBy site) lasts.opens

-- what may be refused for want of room, by level, and the names of a node
pub record CountBounds (w : World) : Type 0 where
  pub clients : (level : ℕ) → count_by (λ c. c.id.level == level) w.clients ≤ CLIENTS_OF_A_LEVEL
  pub sessions : (level : ℕ) → count_by (λ x. x.id.level == level) w.sessions ≤ SESSIONS_OF_A_LEVEL
  pub opens : (level : ℕ) → count_by (λ o. o.id.level == level) w.opens ≤ OPENS_OF_A_LEVEL
  pub names : (node : Id) → names_of w.entries node ≤ MOST_NAMES

-- The directory and the node of an entry are there, and so are the node of an open and the client of a session and of an open,
-- so these are within their bounds too.
pub record RowBounds (site : Site) (w : World) : Type 0 where
  pub clients : AllByRecursion (ClientBounds site) w.clients
  pub sessions : AllByRecursion (SessionBounds site) w.sessions
  pub contexts : AllByRecursion (ContextBounds site) w.contexts
  pub nodes : AllByRecursion (NodeBounds site) w.nodes
  pub entries : AllByRecursion EntryBounds w.entries
  pub opens : AllByRecursion (OpenBounds site) w.opens
  pub lasts : LastBounds site w.lasts

-- the bounds of all rows, with their sizes, and how many there are
pub record Bounds (site : Site) (w : World) : Type 0 where
  pub sizes : Sizes w
  pub rows : RowBounds site w
  pub counts : CountBounds w

-- all that holds of every world that is kept
pub record IsSound (site : Site) (w : World) : Type 0 where
  pub facts : Facts site.dom w
  pub bounds : Bounds site w
