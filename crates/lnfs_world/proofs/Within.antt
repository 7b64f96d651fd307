-- What the test of a change tells.
use Rattle.std.proofs.Common.{◌≡◌, ◌<◌, ℕ, Bool, true, false, not, ◌&&◌, ◌||◌, List, [], ◌∷◌, Option, Some, None, refl, ap, arith}
use Rattle.std.specs.Prelude.{◌==◌, is_some}
use Rattle.std.specs.List.{list_any, AllByRecursion}
use Rattle.std.proofs.lemmas.Bool.{and_parts, not-true}
use Rattle.std.proofs.lemmas.Bool.Decides.{nat_tests}
use Rattle.lnfs_world.specs.World.{Id, Client, Session, Node, Inner, Entry, Open, World, same_id, client_at, label_at, directory_at, last_of}
use Rattle.lnfs_world.specs.Tree.{is_some_directory, is_other_node, same_entry, has_name, has_other_name, holds_names, goes_under}
use Rattle.lnfs_world.specs.Change.{Change, AddClient, SetClient, DropClient, AddSession, SetSession, DropSession, AddContext, DropContext, Make, Touch, Relabel, Link, Unlink, Drop, Move, AddOpen, SetOpen, EndOpen, apply}
use Rattle.lnfs_world.specs.Facts.{are_rivals, is_confirmed, has_confirmed, is_label, fits_under, same_name, cookies_at, is_below, same_opening}
use Rattle.lnfs_world.specs.Within.{is_new, is_no_less, is_same_open, is_within, all_within, may_add}
use Rattle.lnfs_world.proofs.Rows.{none_any, all_weaker}
use Rattle.lnfs_world.proofs.Keys.{id_same}

pub is_label-true : (s : ℕ) (o : Option ℕ) → is_label s o ≡ true → o ≡ Some s
is_label-true s None e = grind arith
is_label-true s (Some l) e = grind (arith, nat_tests)

is_some_directory-true : (o : Option Bool) → is_some_directory o ≡ true → o ≡ Some true
is_some_directory-true None e = grind arith
is_some_directory-true (Some b) e = ap Some e

is_other_node-true : (o : Option Bool) → is_other_node o ≡ true → o ≡ Some false
is_other_node-true None e = grind arith
is_other_node-true (Some true) e = grind arith
is_other_node-true (Some false) e = refl

-- a new identifier
pub record IsNew (s : ℕ) (lasts : List Id) (i : Id) : Type 0 where
  pub own : i.level ≡ s
  pub above : last_of s lasts < i.number

new_tells : (s : ℕ) (lasts : List Id) (i : Id) → is_new s lasts i ≡ true → IsNew s lasts i
new_tells s lasts i e = record { own = grind (arith, nat_tests); above = grind (arith, nat_tests) }

-- an entry that is added
pub record MayAdd (s : ℕ) (w : World) (entry : Entry) : Type 0 where
  pub own : label_at w.nodes entry.directory ≡ Some s
  pub under : directory_at w.nodes entry.directory ≡ Some true
  pub names : AllByRecursion (λ e. same_name entry e ≡ false) w.entries
  pub keys : AllByRecursion (λ e. (same_id entry.directory e.directory && entry.cookie == e.cookie) ≡ false) w.entries
  pub below : is_below entry.cookie (cookies_at w.nodes entry.directory) ≡ true

add_tells : (s : ℕ) (w : World) (entry : Entry) → may_add s w entry ≡ true → MayAdd s w entry
add_tells s w entry e =
    let a = and_parts _ _ e in
    let b = and_parts _ _ a.1 in
    let c = and_parts _ _ b.1 in
    let free = none_any (λ x. same_name entry x || same_id entry.directory x.directory && entry.cookie == x.cookie) w.entries (not-true _ c.0) in
    record {
      own = is_label-true s _ a.0;
      under = is_some_directory-true _ b.0;
      names = all_weaker _ _ (λ x none. grind (arith, none)) w.entries free;
      keys = all_weaker _ _ (λ x none. grind (arith, none)) w.entries free;
      below = c.1;
    }

pub record SetsClient (s : ℕ) (w : World) (row : Client) : Type 0 where
  pub own : row.id.level ≡ s
  pub there : is_some (client_at w.clients row.id) ≡ true
  pub stays : (row.confirmed || not (is_confirmed (client_at w.clients row.id))) ≡ true
  pub alone : AllByRecursion (λ c. (are_rivals row c && not (same_id row.id c.id)) ≡ false) w.clients

pub record SetsSession (s : ℕ) (w : World) (row : Session) : Type 0 where
  pub own : row.id.level ≡ s
  pub there : list_any (λ x. same_id row.id x.id) w.sessions ≡ true
  pub behind : has_confirmed w.clients row.id.level row.client ≡ true

pub record Makes (dom : ℕ → ℕ → Bool) (s : ℕ) (w : World) (node : Node) (entry : Entry) : Type 0 where
  pub new : IsNew s w.lasts.nodes node.id
  pub rises : dom node.label s ≡ true
  pub names_it : entry.node ≡ node.id
  pub adds : MayAdd s w entry

pub record Touches (s : ℕ) (w : World) (node : Id) (inner : Inner) : Type 0 where
  pub own : label_at w.nodes node ≡ Some s
  pub cookies : is_no_less (cookies_at w.nodes node) inner.cookies ≡ true

pub record Relabels (dom : ℕ → ℕ → Bool) (s : ℕ) (w : World) (node : Id) (label : ℕ) : Type 0 where
  pub own : label_at w.nodes node ≡ Some s
  pub home : node.level ≡ s
  pub rises : dom label s ≡ true
  pub empty : AllByRecursion (λ e. same_id node e.directory ≡ false) w.entries
  pub named : has_name w.entries node ≡ true

pub record Links (s : ℕ) (w : World) (entry : Entry) : Type 0 where
  pub adds : MayAdd s w entry
  pub own : label_at w.nodes entry.node ≡ Some s
  pub other : directory_at w.nodes entry.node ≡ Some false

pub record Unlinks (s : ℕ) (w : World) (entry : Entry) : Type 0 where
  pub directory : label_at w.nodes entry.directory ≡ Some s
  pub own : label_at w.nodes entry.node ≡ Some s
  pub other : directory_at w.nodes entry.node ≡ Some false
  pub others : has_other_name w.entries entry ≡ true

pub record Drops (s : ℕ) (w : World) (entry : Entry) : Type 0 where
  pub directory : label_at w.nodes entry.directory ≡ Some s
  pub own : label_at w.nodes entry.node ≡ Some s
  pub home : entry.node.level ≡ s
  pub named : has_name w.entries entry.node ≡ true
  pub last : has_other_name w.entries entry ≡ false
  pub empty : holds_names w.entries entry.node ≡ false

pub record Moves (dom : ℕ → ℕ → Bool) (s : ℕ) (w : World) (entry other : Entry) : Type 0 where
  pub adds : MayAdd s w other
  pub from : label_at w.nodes entry.directory ≡ Some s
  pub same_node : entry.node ≡ other.node
  pub there : list_any (λ e. same_entry entry e) w.entries ≡ true
  pub fits : fits_under dom entry.node.level (Some s) (label_at w.nodes entry.node) ≡ true
  pub clear : goes_under dom s w entry.node other.directory ≡ false

pub record AddsOpen (dom : ℕ → ℕ → Bool) (s : ℕ) (w : World) (row : Open) : Type 0 where
  pub new : IsNew s w.lasts.opens row.id
  pub home : dom s row.node.level ≡ true
  pub node : is_some (label_at w.nodes row.node) ≡ true
  pub behind : has_confirmed w.clients row.id.level row.client ≡ true
  pub alone : AllByRecursion (λ o. same_opening row o ≡ false) w.opens

pub record SetsOpen (s : ℕ) (w : World) (row : Open) : Type 0 where
  pub own : row.id.level ≡ s
  pub there : list_any (is_same_open row) w.opens ≡ true
  pub alone : AllByRecursion (λ o. (same_opening row o && not (same_id row.id o.id)) ≡ false) w.opens

abbrev pub IsWithin : (ℕ → ℕ → Bool) → ℕ → World → Change → Type 0
IsWithin dom s w (AddClient row) = IsNew s w.lasts.clients row.id × AllByRecursion (λ c. are_rivals row c ≡ false) w.clients
IsWithin dom s w (SetClient row) = SetsClient s w row
IsWithin dom s w (DropClient client) = client.level ≡ s
IsWithin dom s w (AddSession row) = IsNew s w.lasts.sessions row.id × (has_confirmed w.clients row.id.level row.client ≡ true)
IsWithin dom s w (SetSession row) = SetsSession s w row
IsWithin dom s w (DropSession session) = session.level ≡ s
IsWithin dom s w (AddContext row) = IsNew s w.lasts.contexts row.id
IsWithin dom s w (DropContext context) = context.level ≡ s
IsWithin dom s w (Make node entry) = Makes dom s w node entry
IsWithin dom s w (Touch node inner) = Touches s w node inner
IsWithin dom s w (Relabel node label inner) = Relabels dom s w node label
IsWithin dom s w (Link entry) = Links s w entry
IsWithin dom s w (Unlink entry) = Unlinks s w entry
IsWithin dom s w (Drop entry) = Drops s w entry
IsWithin dom s w (Move entry other) = Moves dom s w entry other
IsWithin dom s w (AddOpen row) = AddsOpen dom s w row
IsWithin dom s w (SetOpen row) = SetsOpen s w row
IsWithin dom s w (EndOpen opening) = opening.level ≡ s

abbrev pub AllWithin : (ℕ → ℕ → Bool) → ℕ → World → List Change → Type 0
AllWithin dom s w [] = Unit {0}
AllWithin dom s w (c ∷ cs) = IsWithin dom s w c × AllWithin dom s (apply c w) cs

module _ (dom : ℕ → ℕ → Bool) (s : ℕ) where
  level_is : (n : ℕ) → n == s ≡ true → n ≡ s
  level_is n e = grind (arith, nat_tests)

  moves : (entry other : Entry) (w : World) → is_within dom s w (Move entry other) ≡ true → Moves dom s w entry other
  moves entry other w e =
      let a = and_parts _ _ e in
      let b = and_parts _ _ a.1 in
      let c = and_parts _ _ b.1 in
      let d = and_parts _ _ c.1 in
      let f = and_parts _ _ d.1 in
      record {
        adds = add_tells s w other a.0;
        from = is_label-true s _ b.0;
        same_node = id_same entry.node other.node c.0;
        there = d.0;
        fits = f.0;
        clear = not-true _ f.1;
      }

  drops : (entry : Entry) (w : World) → is_within dom s w (Drop entry) ≡ true → Drops s w entry
  drops entry w e =
      let a = and_parts _ _ e in
      let b = and_parts _ _ a.1 in
      let c = and_parts _ _ b.1 in
      let d = and_parts _ _ c.1 in
      let f = and_parts _ _ d.1 in
      record {
        directory = is_label-true s _ a.0;
        own = is_label-true s _ b.0;
        home = level_is _ c.0;
        named = d.0;
        last = not-true _ f.0;
        empty = not-true _ f.1;
      }

  relabels : (node : Id) (label : ℕ) (inner : Inner) (w : World) → is_within dom s w (Relabel node label inner) ≡ true → Relabels dom s w node label
  relabels node label inner w e =
      let a = and_parts _ _ e in
      let b = and_parts _ _ a.1 in
      let c = and_parts _ _ b.1 in
      let d = and_parts _ _ c.1 in
      record {
        own = is_label-true s _ a.0;
        home = level_is _ b.0;
        rises = c.0;
        empty = none_any _ w.entries (not-true _ d.0);
        named = d.1;
      }

  unlinks : (entry : Entry) (w : World) → is_within dom s w (Unlink entry) ≡ true → Unlinks s w entry
  unlinks entry w e =
      let a = and_parts _ _ e in
      let b = and_parts _ _ a.1 in
      let c = and_parts _ _ b.1 in
      record { directory = is_label-true s _ a.0; own = is_label-true s _ b.0; other = is_other_node-true _ c.0; others = c.1 }

  adds_open : (row : Open) (w : World) → is_within dom s w (AddOpen row) ≡ true → AddsOpen dom s w row
  adds_open row w e =
      let a = and_parts _ _ e in
      let b = and_parts _ _ a.1 in
      let c = and_parts _ _ b.1 in
      let d = and_parts _ _ c.1 in
      record { new = new_tells s w.lasts.opens row.id a.0; home = b.0; node = c.0; behind = d.0; alone = none_any _ w.opens (not-true _ d.1) }

  sets_client : (row : Client) (w : World) → is_within dom s w (SetClient row) ≡ true → SetsClient s w row
  sets_client row w e =
      let a = and_parts _ _ e in
      let b = and_parts _ _ a.1 in
      let c = and_parts _ _ b.1 in
      record { own = level_is _ a.0; there = b.0; stays = c.0; alone = none_any _ w.clients (not-true _ c.1) }

  pub within : (c : Change) (w : World) → is_within dom s w c ≡ true → IsWithin dom s w c
  within (AddClient row) w e = let a = and_parts _ _ e in (new_tells s w.lasts.clients row.id a.0, none_any _ w.clients (not-true _ a.1))
  within (SetClient row) w e = sets_client row w e
  within (DropClient client) w e = level_is _ e
  within (AddSession row) w e = let a = and_parts _ _ e in (new_tells s w.lasts.sessions row.id a.0, a.1)
  within (SetSession row) w e = let a = and_parts _ _ e in let b = and_parts _ _ a.1 in record { own = level_is _ a.0; there = b.0; behind = b.1 }
  within (DropSession session) w e = level_is _ e
  within (AddContext row) w e = new_tells s w.lasts.contexts row.id e
  within (DropContext context) w e = level_is _ e
  within (Make node entry) w e =
      let a = and_parts _ _ e in
      let b = and_parts _ _ a.1 in
      let c = and_parts _ _ b.1 in
      record { new = new_tells s w.lasts.nodes node.id a.0; rises = b.0; names_it = id_same entry.node node.id c.0; adds = add_tells s w entry c.1 }
  within (Touch node inner) w e = let a = and_parts _ _ e in record { own = is_label-true s _ a.0; cookies = a.1 }
  within (Relabel node label inner) w e = relabels node label inner w e
  within (Link entry) w e =
      let a = and_parts _ _ e in
      let b = and_parts _ _ a.1 in
      record { adds = add_tells s w entry a.0; own = is_label-true s _ b.0; other = is_other_node-true _ b.1 }
  within (Unlink entry) w e = unlinks entry w e
  within (Drop entry) w e = drops entry w e
  within (Move entry other) w e = moves entry other w e
  within (AddOpen row) w e = adds_open row w e
  within (SetOpen row) w e =
      let a = and_parts _ _ e in
      let b = and_parts _ _ a.1 in
      record { own = level_is _ a.0; there = b.0; alone = none_any _ w.opens (not-true _ b.1) }
  within (EndOpen opening) w e = level_is _ e

  pub within_all : (cs : List Change) (w : World) → all_within dom s w cs ≡ true → AllWithin dom s w cs
  within_all [] w e = tt
  within_all (c ∷ cs) w e = let a = and_parts _ _ e in (within c w a.0, within_all cs (apply c w) a.1)
