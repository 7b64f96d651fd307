-- Opens are found by what is kept to find them, and stay so found after each change.
use Rattle.std.proofs.Common.{◌≡◌, ℕ, Bool, true, false, cond, not, ◌&&◌, ◌||◌, List, Option, Some, None, refl, sym, ap, ◌∙◌, subst, arith}
use Rattle.std.specs.Prelude.{◌+◌, ◌-◌, find, filter}
use Rattle.std.specs.Str.{bytes_eq}
use Rattle.std.proofs.lemmas.Bool.{false≢true}
use Rattle.std.proofs.lemmas.Bool.Decides.{nat_tests}
use Rattle.lnfs_world.specs.Rows.{inserted}
use Rattle.lnfs_world.specs.World.{Id, Open, open_order, level_order, same_id}
use Rattle.lnfs_world.specs.Change.{is_open_of}
use Rattle.lnfs_world.proofs.Rows.{all_weaker}
use Rattle.lnfs_world.proofs.Keys.{id_same, id_itself, bytes_same, bytes_itself}
use Rattle.lnfs_counts.proofs.Rows.{each_at, found_id, passing, none_passes, one_passes, row_at-inserted, row_at-dropped}
use Rattle.lnfs_counts.specs.Counted.{IsCounted}
use Rattle.lnfs_counts.proofs.Counted as counting
use Rattle.lnfs_counts.proofs.Counted.{with_number}
use Rattle.lnfs_open.specs.Lists.{Lists}
use Rattle.lnfs_open.specs.Indexed.{own_id, open_at, passes, is_matter, Index, IsIndexed}

abbrev pub entered_in : (group i : Id) → (Id → Id → Bool) → Id → Id → Bool
entered_in group i f g j = same_id group g && same_id i j || f g j

abbrev pub left_in : (group i : Id) → (Id → Id → Bool) → Id → Id → Bool
left_in group i f g j = not (same_id group g && same_id i j) && f g j

abbrev pub numbered : (client node : Id) → List ℕ → Option ℕ → (Id → Id → List ℕ → Option ℕ) → Id → Id → List ℕ → Option ℕ
numbered client node name w f c n o = cond ((same_id client c && same_id node n) && bytes_eq name o) w (f c n o)

pub keyed : (client c node n : Id) (name o : List ℕ) → ((same_id client c && same_id node n) && bytes_eq name o) ≡ true → (client ≡ c) × (node ≡ n) × (name ≡ o)
keyed client c node n name o is = (id_same client c (grind (arith, is)), id_same node n (grind (arith, is)), bytes_same name o (grind (arith, is)))

pub record SameIndex (a b : Index) : Type 0 where
  pub last : (l : ℕ) → b.last l ≡ a.last l
  pub opens : (l : ℕ) → b.opens l ≡ a.opens l
  pub nodes : (n i : Id) → b.nodes n i ≡ a.nodes n i
  pub clients : (c i : Id) → b.clients c i ≡ a.clients c i
  pub number : (c n : Id) (o : List ℕ) → b.number c n o ≡ a.number c n o

-- what is told in the same way
pub told_same : (s t : Lists) (a b : Index) → t ≡ s → SameIndex a b → IsIndexed s a → IsIndexed t b
told_same s t a b lists same kept =
    let index : a ≡ b = λ i. record {
      last = λ l. sym (same.last l) i;
      opens = λ l. sym (same.opens l) i;
      nodes = λ n j. sym (same.nodes n j) i;
      clients = λ c j. sym (same.clients c j) i;
      number = λ c n o. sym (same.number c n o) i;
    } in
    subst (λ (X : Type 0). X) (λ i. IsIndexed (sym lists i) (index i)) kept

abbrev pub at_number : List Open → ℕ → Option ℕ → Option Open
at_number rows level None = None
at_number rows level (Some number) = open_at rows (record { level = level; number = number })

abbrev pub client_of : Open → Id
client_of o = record { level = o.id.level; number = o.client }

-- with one more open, and what is then told of the levels
abbrev pub entered_index : Index → Open → (last opens : ℕ → ℕ) → Index
entered_index ix row last opens = record {
  last = last;
  opens = opens;
  nodes = entered_in row.node row.id ix.nodes;
  clients = entered_in (client_of row) row.id ix.clients;
  number = numbered (client_of row) row.node row.owner (Some row.id.number) ix.number;
}

module _ (s : Lists) (ix : Index) (kept : IsIndexed s ix) where
  -- ---- by client, node and name

  matter_of : (client node : Id) (name : List ℕ) (o : Open) → is_matter client node name o ≡ true → (client ≡ client_of o) × (node ≡ o.node) × (name ≡ o.owner)
  matter_of client node name o is = (id_same client (client_of o) (grind (arith, nat_tests, is)), id_same node o.node (grind (arith, nat_tests, is)), bytes_same name o.owner (grind (arith, nat_tests, is)))

  filed_as : (client node : Id) (name : List ℕ) (o : Open) → open_at s.opens o.id ≡ Some o → is_matter client node name o ≡ true → ix.number client node name ≡ Some o.id.number
  filed_as client node name o there is =
      let of = matter_of client node name o is in
      (λ t. ix.number (of.0 t) (of.1 t) (of.2 t)) ∙ kept.filed o.id o there

  pub find-matter : (client node : Id) (name : List ℕ) → find (is_matter client node name) s.opens ≡ at_number s.opens client.level (ix.number client node name)
  find-matter client node name = by (ix.number client node name) refl
    where
      q : Open → Bool
      q = is_matter client node name

      fails : ix.number client node name ≡ None → (o : Open) (b : Bool) → is_matter client node name o ≡ b → open_at s.opens o.id ≡ Some o → is_matter client node name o ≡ false
      fails none o true is there = absurd (let filed = filed_as client node name o there is in cc)
      fails none o false is there = is

      named : (number : ℕ) → ix.number client node name ≡ Some number → (o : Open) → open_at s.opens o.id ≡ Some o → is_matter client node name o ≡ true → same_id (record { level = client.level; number = number }) o.id ≡ true
      named number known o there is =
          let filed = filed_as client node name o there is in
          let same : number ≡ o.id.number = cc in
          let level : client.level ≡ o.id.level = ap (λ (i : Id). i.level) (matter_of client node name o is).0 in
          grind (arith, nat_tests, same, level)

      passing_all : (o : Option Open) → passes (is_matter client node name) o ≡ true → passing (is_matter client node name) o ≡ o
      passing_all None is = refl
      passing_all (Some o) is = ap (λ b. cond b (Some o) None) is

      by : (n : Option ℕ) → ix.number client node name ≡ n → find (is_matter client node name) s.opens ≡ at_number s.opens client.level n
      by None is = none_passes (is_matter client node name) s.opens (all_weaker _ _ (λ o there. fails is o (is_matter client node name o) refl there) s.opens (each_at own_id s.opens kept.counted.rise))
      by (Some number) is =
          one_passes own_id (is_matter client node name) (record { level = client.level; number = number }) s.opens kept.counted.rise (all_weaker _ _ (λ o there passes. named number is o there passes) s.opens (each_at own_id s.opens kept.counted.rise))
          ∙ passing_all _ (kept.there client node name number is)

  -- the identifier that such a number leads to is that of an open
  pub matter_id : (client node : Id) (name : List ℕ) (number : ℕ) → ix.number client node name ≡ Some number → (o : Open) × (find (is_matter client node name) s.opens ≡ Some o) × (o.id ≡ record { level = client.level; number = number })
  matter_id client node name number is = by (open_at s.opens (record { level = client.level; number = number })) refl
    where
      by : (x : Option Open) → open_at s.opens (record { level = client.level; number = number }) ≡ x → (o : Open) × (find (is_matter client node name) s.opens ≡ Some o) × (o.id ≡ record { level = client.level; number = number })
      by None at = absurd (false≢true (ap (passes (is_matter client node name)) (sym at) ∙ kept.there client node name number is))
      by (Some o) at = (o, find-matter client node name ∙ ap (at_number s.opens client.level) is ∙ at, sym (id_same (record { level = client.level; number = number }) o.id (found_id own_id s.opens (record { level = client.level; number = number }) o at)))

  pub none_numbered : (client node : Id) (name : List ℕ) → find (is_matter client node name) s.opens ≡ None → ix.number client node name ≡ None
  none_numbered client node name none = by (ix.number client node name) refl
    where
      by : (x : Option ℕ) → ix.number client node name ≡ x → ix.number client node name ≡ None
      by None is = is
      by (Some number) is = absurd (let there = (matter_id client node name number is).1 in cc)

  -- ---- an open gets another state

  module _ (i : Id) (o : Open) (found : open_at s.opens i ≡ Some o) (access deny sequence : ℕ) where
    abbrev row : Open
    row = record o { access = access; deny = deny; sequence = sequence }

    own : o.id ≡ i
    own = sym (id_same i o.id (found_id own_id s.opens i o found))

    at_own : open_at s.opens o.id ≡ Some o
    at_own = ap (open_at s.opens) own ∙ found

    set_keeps : (P : Option Open → Type 0) → (P (Some o) → P (Some row)) → (j : Id) → P (open_at s.opens j) → P (open_at (inserted open_order row s.opens) j)
    set_keeps P stays j before = subst P (sym (row_at-inserted own_id row s.opens j)) (by (same_id j o.id) refl)
      where
        by : (b : Bool) → same_id j o.id ≡ b → P (cond b (Some row) (open_at s.opens j))
        by true is = stays (subst P (ap (open_at s.opens) (id_same j o.id is) ∙ at_own) before)
        by false is = before

    pub set : IsIndexed (record s { opens = inserted open_order row s.opens }) ix
    set = record {
      counted = counting.set own_id s.opens s.lasts ix.last ix.opens kept.counted row o at_own;
      nodes = λ node j. set_keeps (λ x. ix.nodes node j ≡ passes (λ y. same_id node y.node) x) (λ h. h) j (kept.nodes node j);
      clients = λ client j. set_keeps (λ x. ix.clients client j ≡ passes (is_open_of client) x) (λ h. h) j (kept.clients client j);
      filed = λ j. set_keeps (λ x. (y : Open) → x ≡ Some y → ix.number (client_of y) y.node y.owner ≡ Some j.number)
          (λ h y is. let same : row ≡ y = cc in subst (λ (z : Open). ix.number (client_of z) z.node z.owner ≡ Some j.number) same (h o refl)) j (kept.filed j);
      there = λ client node name number known. set_keeps (λ x. passes (is_matter client node name) x ≡ true) (λ h. h) (record { level = client.level; number = number }) (kept.there client node name number known);
    }

  -- ---- an open that wasn't there

  module _ (row : Open) (absent : open_at s.opens row.id ≡ None) (none : ix.number (client_of row) row.node row.owner ≡ None) where
    pub not_of_node : ix.nodes row.node row.id ≡ false
    not_of_node = kept.nodes row.node row.id ∙ ap (passes (λ y. same_id row.node y.node)) absent

    pub not_of_client : ix.clients (client_of row) row.id ≡ false
    not_of_client = kept.clients (client_of row) row.id ∙ ap (passes (is_open_of (client_of row))) absent

    add_keeps : (P : Option Open → Type 0) (j : Id) → (same_id j row.id ≡ true → P (Some row)) → (same_id j row.id ≡ false → P (open_at s.opens j)) → P (open_at (inserted open_order row s.opens) j)
    add_keeps P j new old = subst P (sym (row_at-inserted own_id row s.opens j)) (by (same_id j row.id) refl)
      where
        by : (b : Bool) → same_id j row.id ≡ b → P (cond b (Some row) (open_at s.opens j))
        by true is = new is
        by false is = old is

    turned : (j : Id) → same_id row.id j ≡ same_id j row.id
    turned j = grind (arith, nat_tests)

    -- a group that the new open is in, and no other open of its identifier
    grouped : (f : Id → Id → Bool) (g : Id) (test : Id → Open → Bool) → ((n j : Id) → f n j ≡ passes (test n) (open_at s.opens j)) → ((n : Id) → same_id g n ≡ test n row) → (n j : Id) → entered_in g row.id f n j ≡ passes (test n) (open_at (inserted open_order row s.opens) j)
    grouped f g test told here n j = add_keeps (λ x. entered_in g row.id f n j ≡ passes (test n) x) j
        (λ is.
        let before : f n j ≡ false = told n j ∙ ap (passes (test n)) (ap (open_at s.opens) (id_same j row.id is) ∙ absent) in
        let own : same_id row.id j ≡ true = turned j ∙ is in
        (λ t. (same_id g n && own t || before t)) ∙ grind (arith, here n))
        (λ is.
        let own : same_id row.id j ≡ false = turned j ∙ is in
        (λ t. (same_id g n && own t || told n j t)) ∙ grind arith)

    filed_added : (j : Id) (y : Open) → open_at (inserted open_order row s.opens) j ≡ Some y → numbered (client_of row) row.node row.owner (Some row.id.number) ix.number (client_of y) y.node y.owner ≡ Some j.number
    filed_added j = add_keeps (λ x. (y : Open) → x ≡ Some y → numbered (client_of row) row.node row.owner (Some row.id.number) ix.number (client_of y) y.node y.owner ≡ Some j.number) j
        (λ is y at.
        let same : row ≡ y = cc in
        let itself : ((same_id (client_of row) (client_of row) && same_id row.node row.node) && bytes_eq row.owner row.owner) ≡ true = grind (arith, id_itself (client_of row), id_itself row.node, bytes_itself row.owner) in
        let number : row.id.number ≡ j.number = ap (λ (k : Id). k.number) (sym (id_same j row.id is)) in
        subst (λ (z : Open). numbered (client_of row) row.node row.owner (Some row.id.number) ix.number (client_of z) z.node z.owner ≡ Some j.number) same
        (ap (λ b. cond b (Some row.id.number) (ix.number (client_of row) row.node row.owner)) itself ∙ ap Some number))
        (λ is y at. other y ((same_id (client_of row) (client_of y) && same_id row.node y.node) && bytes_eq row.owner y.owner) refl (kept.filed j y at))
      where
        other : (y : Open) (b : Bool) → ((same_id (client_of row) (client_of y) && same_id row.node y.node) && bytes_eq row.owner y.owner) ≡ b → ix.number (client_of y) y.node y.owner ≡ Some j.number → cond b (Some row.id.number) (ix.number (client_of y) y.node y.owner) ≡ Some j.number
        other y true is before =
            let k = keyed (client_of row) (client_of y) row.node y.node row.owner y.owner is in
            let here : ix.number (client_of row) row.node row.owner ≡ Some j.number = (λ t. ix.number (k.0 t) (k.1 t) (k.2 t)) ∙ before in
            absurd (cc)
        other y false is before = before

    there_added : (client node : Id) (name : List ℕ) (number : ℕ) → numbered (client_of row) row.node row.owner (Some row.id.number) ix.number client node name ≡ Some number → passes (is_matter client node name) (open_at (inserted open_order row s.opens) (record { level = client.level; number = number })) ≡ true
    there_added client node name number = by ((same_id (client_of row) client && same_id row.node node) && bytes_eq row.owner name) refl
      where
        j : Id
        j = record { level = client.level; number = number }

        by : (b : Bool) → ((same_id (client_of row) client && same_id row.node node) && bytes_eq row.owner name) ≡ b → cond b (Some row.id.number) (ix.number client node name) ≡ Some number → passes (is_matter client node name) (open_at (inserted open_order row s.opens) (record { level = client.level; number = number })) ≡ true
        by true is known =
            let k = keyed (client_of row) client row.node node row.owner name is in
            let number_is : row.id.number ≡ number = cc in
            let id : record { level = client.level; number = number } ≡ row.id = λ t. record { level = (sym k.0 t).level; number = sym number_is t } in
            let here : open_at (inserted open_order row s.opens) row.id ≡ Some row = row_at-inserted own_id row s.opens row.id ∙ ap (λ b. cond b (Some row) (open_at s.opens row.id)) (id_itself row.id) in
            let itself : is_matter (client_of row) row.node row.owner row ≡ true = grind (arith, nat_tests, id_itself row.node, bytes_itself row.owner) in
            ap (passes (is_matter client node name)) (ap (open_at (inserted open_order row s.opens)) id ∙ here) ∙ (λ t. is_matter (sym k.0 t) (sym k.1 t) (sym k.2 t) row) ∙ itself
        by false is known = add_keeps (λ x. passes (is_matter client node name) x ≡ true) (record { level = client.level; number = number })
            (λ own. absurd (let old = kept.there client node name number known in let gone = ap (open_at s.opens) (id_same (record { level = client.level; number = number }) row.id own) ∙ absent in false≢true (ap (passes (is_matter client node name)) (sym gone) ∙ old)))
            (λ other. kept.there client node name number known)

    pub entered_by : (lasts : List Id) (last opens : ℕ → ℕ) → IsCounted own_id (inserted open_order row s.opens) lasts last opens → IsIndexed (record { opens = inserted open_order row s.opens; lasts = lasts }) (entered_index ix row last opens)
    entered_by lasts last opens counted = record {
      counted = counted;
      nodes = grouped ix.nodes row.node (λ n y. same_id n y.node) kept.nodes (λ n. grind (arith, nat_tests));
      clients = grouped ix.clients (client_of row) is_open_of kept.clients (λ c. grind (arith, nat_tests));
      filed = filed_added;
      there = there_added;
    }

  -- ---- a new open

  module _ (row : Open) (next : row.id.number ≡ ix.last row.id.level + 1) (none : ix.number (client_of row) row.node row.owner ≡ None) where
    pub absent : open_at s.opens row.id ≡ None
    absent = counting.absent own_id s.opens s.lasts ix.last ix.opens kept.counted row next

    pub none_of_node : ix.nodes row.node row.id ≡ false
    none_of_node = not_of_node row absent none

    pub none_of_client : ix.clients (client_of row) row.id ≡ false
    none_of_client = not_of_client row absent none

    pub entered : IsIndexed (record { opens = inserted open_order row s.opens; lasts = inserted level_order row.id s.lasts })
        (entered_index ix row (with_number row.id.level row.id.number ix.last) (with_number row.id.level (ix.opens row.id.level + 1) ix.opens))
    entered = entered_by row absent none (inserted level_order row.id s.lasts) _ _ (counting.added own_id s.opens s.lasts ix.last ix.opens kept.counted row next)

  -- ---- an open goes

  module _ (i : Id) (o : Open) (found : open_at s.opens i ≡ Some o) where
    own_left : o.id ≡ i
    own_left = sym (id_same i o.id (found_id own_id s.opens i o found))

    abbrev left : List Open
    left = filter (λ x. not (same_id i x.id)) s.opens

    abbrev Left : Index
    Left = record {
      last = ix.last;
      opens = with_number i.level (ix.opens i.level - 1) ix.opens;
      nodes = left_in o.node i ix.nodes;
      clients = left_in (client_of o) i ix.clients;
      number = numbered (client_of o) o.node o.owner None ix.number;
    }

    drop_keeps : (P : Option Open → Type 0) (j : Id) → (same_id j i ≡ true → P None) → (same_id j i ≡ false → P (open_at s.opens j)) → P (open_at left j)
    drop_keeps P j gone other = subst P (sym (row_at-dropped own_id i s.opens j)) (by (same_id j i) refl)
      where
        by : (b : Bool) → same_id j i ≡ b → P (cond b None (open_at s.opens j))
        by true is = gone is
        by false is = other is

    turned_left : (j : Id) → same_id i j ≡ same_id j i
    turned_left j = grind (arith, nat_tests)

    grouped_left : (f : Id → Id → Bool) (g : Id) (test : Id → Open → Bool) → ((n j : Id) → f n j ≡ passes (test n) (open_at s.opens j)) → ((n : Id) → same_id g n ≡ test n o) → (n j : Id) → left_in g i f n j ≡ passes (test n) (open_at left j)
    grouped_left f g test told here n j = drop_keeps (λ x. left_in g i f n j ≡ passes (test n) x) j
        (λ is.
        let before : f n j ≡ test n o = told n j ∙ ap (passes (test n)) (ap (open_at s.opens) (id_same j i is) ∙ found) in
        let own : same_id i j ≡ true = turned_left j ∙ is in
        (λ t. (not (same_id g n && own t) && before t)) ∙ grind (arith, here n))
        (λ is.
        let own : same_id i j ≡ false = turned_left j ∙ is in
        (λ t. (not (same_id g n && own t) && told n j t)) ∙ grind arith)

    filed_left : (j : Id) (y : Open) → open_at left j ≡ Some y → numbered (client_of o) o.node o.owner None ix.number (client_of y) y.node y.owner ≡ Some j.number
    filed_left j = drop_keeps (λ x. (y : Open) → x ≡ Some y → numbered (client_of o) o.node o.owner None ix.number (client_of y) y.node y.owner ≡ Some j.number) j
        (λ is y at. absurd (cc))
        (λ is y at. other y is at ((same_id (client_of o) (client_of y) && same_id o.node y.node) && bytes_eq o.owner y.owner) refl)
      where
        other : (y : Open) → same_id j i ≡ false → open_at s.opens j ≡ Some y → (b : Bool) → ((same_id (client_of o) (client_of y) && same_id o.node y.node) && bytes_eq o.owner y.owner) ≡ b → cond b None (ix.number (client_of y) y.node y.owner) ≡ Some j.number
        other y is at false key = kept.filed j y at
        other y is at true key =
            let k = keyed (client_of o) (client_of y) o.node y.node o.owner y.owner key in
            let mine : ix.number (client_of y) y.node y.owner ≡ Some i.number = (λ t. ix.number (sym k.0 t) (sym k.1 t) (sym k.2 t)) ∙ kept.filed i o found in
            let number : j.number ≡ i.number = let before = kept.filed j y at in cc in
            let level : i.level ≡ y.id.level = ap (λ (x : Id). x.level) (sym own_left) ∙ ap (λ (x : Id). x.level) k.0 in
            let here : j.level ≡ y.id.level = ap (λ (x : Id). x.level) (id_same j y.id (found_id own_id s.opens j y at)) in
            absurd (false≢true (sym is ∙ grind (arith, nat_tests, number, level, here)))

    there_left : (client node : Id) (name : List ℕ) (number : ℕ) → numbered (client_of o) o.node o.owner None ix.number client node name ≡ Some number → passes (is_matter client node name) (open_at left (record { level = client.level; number = number })) ≡ true
    there_left client node name number = by ((same_id (client_of o) client && same_id o.node node) && bytes_eq o.owner name) refl
      where
        by : (b : Bool) → ((same_id (client_of o) client && same_id o.node node) && bytes_eq o.owner name) ≡ b → cond b None (ix.number client node name) ≡ Some number → passes (is_matter client node name) (open_at left (record { level = client.level; number = number })) ≡ true
        by true key known = absurd (cc)
        by false key known = drop_keeps (λ x. passes (is_matter client node name) x ≡ true) (record { level = client.level; number = number })
            (λ is.
            let here : is_matter client node name o ≡ true = sym (ap (passes (is_matter client node name)) (ap (open_at s.opens) (id_same (record { level = client.level; number = number }) i is) ∙ found)) ∙ kept.there client node name number known in
            let of = matter_of client node name o here in
            let same : ((same_id (client_of o) client && same_id o.node node) && bytes_eq o.owner name) ≡ true = (λ t. (same_id (client_of o) (of.0 t) && same_id o.node (of.1 t)) && bytes_eq o.owner (of.2 t)) ∙ grind (arith, id_itself (client_of o), id_itself o.node, bytes_itself o.owner) in
            absurd (false≢true (sym key ∙ same)))
            (λ is. kept.there client node name number known)

    pub dropped : IsIndexed (record s { opens = left }) Left
    dropped = record {
      counted = counting.dropped own_id s.opens s.lasts ix.last ix.opens kept.counted i o found;
      nodes = grouped_left ix.nodes o.node (λ n y. same_id n y.node) kept.nodes (λ n. grind (arith, nat_tests));
      clients = grouped_left ix.clients (client_of o) is_open_of kept.clients (λ c. grind (arith, nat_tests));
      filed = filed_left;
      there = there_left;
    }
