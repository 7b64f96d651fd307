-- READDIR (RFC 8881 section 18.23).
use Rattle.std.specs.Prelude.{ℕ, ◌+◌, ◌-◌, ◌&&◌, ◌||◌, Bool, true, false, not, cond, List, [], ◌∷◌, length, Option, Some, None, min, nat_le}
use Rattle.lnfs_attrs.specs.declared.bitmap.Bitmap.{Bitmap}
use Rattle.lnfs_attrs.specs.declared.numbers.TheConstants.{RDATTR_ERROR}
use Rattle.lnfs_attrs.specs.Bitmaps.{has_attr}
use Rattle.lnfs_world.specs.World.{Node, Entry, World, node_at, is_directory}
use Rattle.lnfs_world.specs.Names.{entries_above}
use Rattle.lnfs_world.specs.Outcome.{Site, Place, Outcome, Act}
use Rattle.lnfs_arguments.specs.declared.statuses.TheConstants.{NFS4_OK, NFS4ERR_ACCESS, NFS4ERR_NOTDIR, NFS4ERR_TOOSMALL}
use Rattle.lnfs_results.specs.declared.limits.TheConstants.{MOST_DATA}
use Rattle.lnfs_results.specs.declared.types.DirEntry.{DirEntry}
use Rattle.lnfs_results.specs.Texts.{entry_text}
use Rattle.lnfs_monitor.specs.Rules.{Read, allows, rule_of}
use Rattle.lnfs_operations.specs.declared.Gate.TheVariants.{Namespace, Monitor}
use Rattle.lnfs_operations.specs.declared.numbers.TheConstants.{EMPTY_LISTING}
use Rattle.lnfs_operations.specs.Chain.{Answer, refuse, done, demand}
use Rattle.lnfs_operations.specs.Judged.{where_allowed, denied_with}
use Rattle.lnfs_operations.specs.Handles.{with_current}
use Rattle.lnfs_operations.specs.Shown.{shown, asks_inner, answer_to}
use Rattle.lnfs_operations.specs.Accessed.{accessed}

-- what the operation looks at of its arguments: neither the verifier nor dircount
pub record Arguments : Type 0 where
  pub cookie : ℕ
  pub maxcount : ℕ
  pub asked : Bitmap

pub record Listed : Type 0 where
  pub entries : List DirEntry
  -- whether no entry is left behind these
  pub eof : Bool

-- ---- an entry

-- whether the node of an entry may be shown with what is asked of it
abbrev pub may_show : Site → Place → Bitmap → Node → Bool
may_show site p asked n = not (asks_inner asked) || (has_attr asked RDATTR_ERROR || allows site.dom p.subject (Read n.label))

abbrev pub error_of : Site → Place → Bitmap → Node → ℕ
error_of site p asked n = cond (asks_inner asked && not (allows site.dom p.subject (Read n.label))) NFS4ERR_ACCESS NFS4_OK

-- Where the label of a node isn't dominated, inner attributes are left out and rdattr_error tells why, if it is asked.
abbrev pub entry_of : Site → Place → World → Bitmap → Entry → Node → DirEntry
entry_of site p w asked e n = record {
  cookie = e.cookie;
  name = e.name;
  attrs = answer_to asked (allows site.dom p.subject (Read n.label)) (shown site p w n (error_of site p asked n));
}

abbrev pub shown_entry : Site → Place → World → Bitmap → Entry → Option Node → Option DirEntry
shown_entry site p w asked e None = None
shown_entry site p w asked e (Some n) = cond (may_show site p asked n) (Some (entry_of site p w asked e n)) None

-- ---- the walk

-- an entry and the word before it
abbrev pub taken : DirEntry → ℕ
taken d = 4 + length (entry_text d)

abbrev pub with_entry : DirEntry → Option Listed → Option Listed
with_entry d None = None
with_entry d (Some rest) = Some (record { entries = d ∷ rest.entries; eof = rest.eof })

abbrev pub where_shown : Option DirEntry → (room : ℕ) → (ℕ → Option Listed) → Option Listed
where_shown None room rest = None
where_shown (Some d) room rest = cond (nat_le (taken d) room) (with_entry d (rest (room - taken d))) (Some (record { entries = []; eof = false }))

-- Entry by entry, up to the first that doesn't fit; none where one of these may not be shown.
abbrev pub listed : (Entry → Option DirEntry) → (room : ℕ) → List Entry → Option Listed
listed show room [] = Some (record { entries = []; eof = true })
listed show room (e ∷ entries) = where_shown (show e) room (λ left. listed show left entries)

-- ---- the operation

-- entries are left, and the first of them doesn't fit
abbrev pub is_fruitless : (eof : Bool) → List DirEntry → Bool
is_fruitless eof [] = not eof
is_fruitless eof (d ∷ entries) = false

abbrev pub finished : Site → Place → Node → (size : ℕ) → Option Listed → Outcome (Answer Listed)
finished site p d size None = refuse p (Monitor (rule_of (Read d.label))) (denied_with (rule_of (Read d.label)))
finished site p d size (Some found) =
    demand (nat_le EMPTY_LISTING size && not (is_fruitless found.eof found.entries)) (refuse p Namespace NFS4ERR_TOOSMALL)
    (done p found (accessed p d))

-- The size counts the verifier, the entries and the two words behind them.
abbrev pub read_dir : Site → Arguments → Act (Answer Listed)
read_dir site args p w =
    let size = min args.maxcount MOST_DATA in
    with_current p w (λ d.
    demand (is_directory d.kind) (refuse p Namespace NFS4ERR_NOTDIR) (
    where_allowed site p (Read d.label) (
    finished site p d size (listed (λ e. shown_entry site p w args.asked e (node_at w.nodes e.node)) (size - EMPTY_LISTING) (entries_above w.entries d.id args.cookie)))))
