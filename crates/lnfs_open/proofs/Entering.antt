-- What an open is found by is entered, and taken back.
use Rattle.std.proofs.Common.{◌≡◌, ℕ, Bool, true, false, cond, not, ◌&&◌, ◌||◌, ◌+◌, List, Option, Some, None, refl, sym, ap, ◌∙◌, arith}
use Rattle.std.specs.Str.{bytes_eq}
use Rattle.std.specs.Prelude.{find}
use Rattle.lnfs_world.specs.World.{Id, Open, last_of, same_id}
use Rattle.lnfs_world.specs.Effects.{next_id}
use Rattle.lnfs_world.specs.Facts.{same_opening}
use Rattle.lnfs_world.proofs.Keys.{id_same}
use Rattle.lnfs_counts.specs.Counters.{Counters, TellSame}
use Rattle.lnfs_open.specs.declared.keys.OpenRow.{OpenRow}
use Rattle.lnfs_open.specs.declared.finder.Finder.{Finder}
use Rattle.lnfs_open.specs.Lists.{Lists}
use Rattle.lnfs_open.specs.Listed.{client_id, node_id, row_of}
use Rattle.lnfs_open.specs.Indexed.{Index, IsIndexed}
use Rattle.lnfs_open.specs.Groups.{holds}
use Rattle.lnfs_open.specs.Owners.{number_at}
use Rattle.lnfs_open.specs.Finding.{Filed, IsEntered, IsLeft, FindSame, index_of}
use Rattle.lnfs_open.proofs.Indexing.{keyed, SameIndex, client_of, none_numbered, none_of_node, none_of_client}

pub index_same : (c d : Counters) (a b : Finder) → TellSame c d → FindSame a b → SameIndex (index_of c a) (index_of d b)
index_same c d a b counters finder = record { last = counters.last; opens = counters.count; nodes = finder.nodes; clients = finder.clients; number = finder.numbers }

module _ (f : Filed) (a b d : Finder) (entered : IsEntered f a b) (left : IsLeft f b d) (node : holds a.nodes f.node f.id ≡ false) (client : holds a.clients f.client f.id ≡ false) (number : number_at a.owners f.client f.node f.owner ≡ None) where
  back : (h : Id → Id → Bool) (g : Id) → h g f.id ≡ false → (n j : Id) (k : Bool) → (same_id g n && same_id f.id j) ≡ k → (not k && (k || h n j)) ≡ h n j
  back h g none n j false is = refl
  back h g none n j true is =
      let group : g ≡ n = id_same g n (grind (arith, is)) in
      let own : f.id ≡ j = id_same f.id j (grind (arith, is)) in
      sym none ∙ (λ t. h (group t) (own t))

  number_back : (c n : Id) (o : List ℕ) (k : Bool) → ((same_id f.client c && same_id f.node n) && bytes_eq f.owner o) ≡ k → cond k None (cond k (Some f.id.number) (number_at a.owners c n o)) ≡ number_at a.owners c n o
  number_back c n o false is = refl
  number_back c n o true is = let k = keyed f.client c f.node n f.owner o is in sym number ∙ (λ t. number_at a.owners (k.0 t) (k.1 t) (k.2 t))

  pub taken_back : FindSame a d
  taken_back = record {
    nodes = λ n j. left.nodes n j ∙ ap (λ h. not (same_id f.node n && same_id f.id j) && h) (entered.nodes n j) ∙ back (holds a.nodes) f.node node n j _ refl;
    clients = λ c j. left.clients c j ∙ ap (λ h. not (same_id f.client c && same_id f.id j) && h) (entered.clients c j) ∙ back (holds a.clients) f.client client c j _ refl;
    numbers = λ c n o. left.numbers c n o ∙ ap (λ (h : Option ℕ). cond ((same_id f.client c && same_id f.node n) && bytes_eq f.owner o) None h) (entered.numbers c n o) ∙ number_back c n o _ refl;
  }

-- what is known of an open before it enters, and of the keys of its client and its node
pub record CanEnter (ix : Index) (old : Finder) (row : Open) (client node : Id) : Type 0 where
  pub next : row.id.number ≡ ix.last row.id.level + 1
  pub none : ix.number (client_of row) row.node row.owner ≡ None
  pub own : client ≡ client_of row
  pub free_client : holds old.clients client row.id ≡ false
  pub free_node : holds old.nodes node row.id ≡ false

pub can_enter : (counters : Counters) (old : Finder) (s v : Lists) (i client node : Id) (r : OpenRow) → s ≡ v → IsIndexed s (index_of counters old)
    → i ≡ next_id v.lasts i.level → r.client.level.0 ≡ i.level → find (same_opening (row_of i r)) v.opens ≡ None → client ≡ client_id r.client → node ≡ node_id r.node
    → CanEnter (index_of counters old) old (row_of i r) client node
can_enter counters old s v i client node r view indexed place level absent of_client of_node =
    let ix = index_of counters old in
    let row : Open = row_of i r in
    let next : row.id.number ≡ ix.last row.id.level + 1 = ap (λ (j : Id). j.number) place ∙ ap (λ (k : Lists). last_of i.level k.lasts + 1) (sym view) ∙ ap (λ (n : ℕ). n + 1) (indexed.counted.lasting i.level) in
    let none : ix.number (client_of row) row.node row.owner ≡ None = none_numbered s ix indexed (client_of row) row.node row.owner (ap (λ (k : Lists). find (same_opening row) k.opens) view ∙ absent) in
    let own : client ≡ client_of row = of_client ∙ (λ t. record { level = level t; number = row.client }) in
    record {
      next = next;
      none = none;
      own = own;
      free_client = ap (λ n. holds old.clients n i) own ∙ none_of_client s ix indexed row next none;
      free_node = ap (λ n. holds old.nodes n i) of_node ∙ none_of_node s ix indexed row next none;
    }
