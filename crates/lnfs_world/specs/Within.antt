-- What a subject may change. The test of a change looks at the world that it changes. It lets a change
-- touch only rows of the subject's level, entries of directories and nodes whose label is that level, new
-- nodes whose home is, and opens of a node that goes; and only so that the facts are kept.
use Rattle.std.specs.Prelude.{ℕ, Bool, true, not, ◌&&◌, ◌||◌, ◌==◌, List, [], ◌∷◌, Option, Some, None, is_some, nat_le, nat_lt}
use Rattle.std.specs.List.{list_any}
use Rattle.lnfs_world.specs.World.{Id, Entry, Open, World, same_id, client_at, label_at, directory_at, last_of}
use Rattle.lnfs_world.specs.Tree.{is_some_directory, is_other_node, same_entry, has_name, has_other_name, holds_names, goes_under}
use Rattle.lnfs_world.specs.Change.{Change, AddClient, SetClient, DropClient, AddSession, SetSession, DropSession, AddContext, DropContext, Make, Touch, Relabel, Link, Unlink, Drop, Move, AddOpen, SetOpen, EndOpen, apply}
use Rattle.lnfs_world.specs.Facts.{are_rivals, is_confirmed, has_confirmed, is_label, fits_under, same_name, cookies_at, is_below, same_opening}

-- a new number of the subject's level
abbrev pub is_new : ℕ → List Id → Id → Bool
is_new s lasts i = i.level == s && nat_lt (last_of s lasts) i.number

-- whether an entry may be added: in a directory whose label is the subject's level, under a name and a
-- cookie that are free, and below the cookie of the directory's next name
abbrev pub is_free : List Entry → Entry → Bool
is_free entries entry = not (list_any (λ e. same_name entry e || same_id entry.directory e.directory && entry.cookie == e.cookie) entries)

abbrev pub may_add : ℕ → World → Entry → Bool
may_add s w entry =
    is_label s (label_at w.nodes entry.directory) && (is_some_directory (directory_at w.nodes entry.directory)
    && (is_free w.entries entry && is_below entry.cookie (cookies_at w.nodes entry.directory)))

-- the cookie of the next name is not taken back
abbrev pub is_no_less : Option ℕ → ℕ → Bool
is_no_less None cookies = true
is_no_less (Some before) cookies = nat_le before cookies

-- an open of the same identifier, client, owner and node
abbrev pub is_same_open : Open → Open → Bool
is_same_open a b = same_id a.id b.id && same_opening a b

abbrev pub is_within : (ℕ → ℕ → Bool) → ℕ → World → Change → Bool
is_within dom s w (AddClient row) = is_new s w.lasts.clients row.id && not (list_any (are_rivals row) w.clients)
is_within dom s w (SetClient row) =
    row.id.level == s && (is_some (client_at w.clients row.id)
    && ((row.confirmed || not (is_confirmed (client_at w.clients row.id)))
    && not (list_any (λ c. are_rivals row c && not (same_id row.id c.id)) w.clients)))
is_within dom s w (DropClient client) = client.level == s
is_within dom s w (AddSession row) = is_new s w.lasts.sessions row.id && has_confirmed w.clients row.id.level row.client
is_within dom s w (SetSession row) =
    row.id.level == s && (list_any (λ x. same_id row.id x.id) w.sessions && has_confirmed w.clients row.id.level row.client)
is_within dom s w (DropSession session) = session.level == s
is_within dom s w (AddContext row) = is_new s w.lasts.contexts row.id
is_within dom s w (DropContext context) = context.level == s
is_within dom s w (Make node entry) =
    is_new s w.lasts.nodes node.id && (dom node.label s && (same_id entry.node node.id && may_add s w entry))
is_within dom s w (Touch node inner) = is_label s (label_at w.nodes node) && is_no_less (cookies_at w.nodes node) inner.cookies
is_within dom s w (Relabel node label inner) =
    is_label s (label_at w.nodes node) && (node.level == s && (dom label s
    && (not (holds_names w.entries node) && has_name w.entries node)))
is_within dom s w (Link entry) =
    may_add s w entry && (is_label s (label_at w.nodes entry.node) && is_other_node (directory_at w.nodes entry.node))
is_within dom s w (Unlink entry) =
    is_label s (label_at w.nodes entry.directory) && (is_label s (label_at w.nodes entry.node)
    && (is_other_node (directory_at w.nodes entry.node) && has_other_name w.entries entry))
is_within dom s w (Drop entry) =
    is_label s (label_at w.nodes entry.directory) && (is_label s (label_at w.nodes entry.node) && (entry.node.level == s
    && (has_name w.entries entry.node && (not (has_other_name w.entries entry) && not (holds_names w.entries entry.node)))))
is_within dom s w (Move entry other) =
    may_add s w other && (is_label s (label_at w.nodes entry.directory) && (same_id entry.node other.node
    && (list_any (λ e. same_entry entry e) w.entries && (fits_under dom entry.node.level (Some s) (label_at w.nodes entry.node)
    && not (goes_under dom s w entry.node other.directory)))))
is_within dom s w (AddOpen row) =
    is_new s w.lasts.opens row.id && (dom s row.node.level && (is_some (label_at w.nodes row.node)
    && (has_confirmed w.clients row.id.level row.client && not (list_any (same_opening row) w.opens))))
is_within dom s w (SetOpen row) =
    row.id.level == s && (list_any (is_same_open row) w.opens
    && not (list_any (λ o. same_opening row o && not (same_id row.id o.id)) w.opens))
is_within dom s w (EndOpen opening) = opening.level == s

abbrev pub all_within : (ℕ → ℕ → Bool) → ℕ → World → List Change → Bool
all_within dom s w [] = true
all_within dom s w (c ∷ cs) = is_within dom s w c && all_within dom s (apply c w) cs
