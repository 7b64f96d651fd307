-- What is shown of a node to who may not read it doesn't tell of its content.
use Rattle.std.proofs.Common.{◌≡◌, ◌-◌, ℕ, Bool, true, false, cond, ◌&&◌, ◌||◌, not, List, [], ◌∷◌, ◌++◌, Some, refl, sym, ap, ◌∙◌, rules}
use Rattle.std.specs.List.{flat_map, AllByRecursion}
use Rattle.std.proofs.lemmas.List.Concat.{flat_map-cons}
use Rattle.lnfs_attrs.specs.declared.bitmap.Bitmap.{Bitmap}
use Rattle.lnfs_attrs.specs.declared.view.View.{View}
use Rattle.lnfs_attrs.specs.Bitmaps.{has_attr}
use Rattle.lnfs_attrs.specs.Attributes.{table, numbers_in, inner_in, is_inner, is_answered, value_of, attr_text, list_text}
use Rattle.lnfs_calipso.specs.Label.{IsPreorderWithBottom}
use Rattle.lnfs_world.specs.World.{Id, Stored, Node, World, node_at}
use Rattle.lnfs_world.specs.Erased.{erased, sees, shrunk}
use Rattle.lnfs_world.specs.Facts.{Facts}
use Rattle.lnfs_world.specs.Usage.{bytes_used}
use Rattle.lnfs_world.specs.Outcome.{Site, Place}
use Rattle.lnfs_world.proofs.Rows.{none_any}
use Rattle.lnfs_world.proofs.Seen.{node_at-id, shrunk_whole, sees_node, size_of-seen, links_of-seen}
use Rattle.lnfs_world.proofs.Usage.{bytes_used-seen}
use Rattle.lnfs_operations.specs.Shown.{label_value, stored_or, shown, asks_inner, answer_to}

-- ---- values

-- what a view tells that isn't of the content
abbrev hidden : View → View
hidden v = record v {
  change = 0;
  size = 0;
  mode = 0;
  links = 0;
  access = record { secs = 0; nanos = 0 };
  metadata = record { secs = 0; nanos = 0 };
  modify = record { secs = 0; nanos = 0 };
}

flat_map_alike : {X A : Type 0} (f g : X → List A) (xs : List X) → AllByRecursion (λ x. f x ≡ g x) xs → flat_map f xs ≡ flat_map g xs
flat_map_alike f g [] all = refl
flat_map_alike f g (x ∷ xs) all = flat_map-cons f x xs ∙ (λ i. all.0 i ++ flat_map_alike f g xs all.1 i) ∙ sym (flat_map-cons g x xs)

-- no inner attribute is answered
abbrev pub NoneInner : Bitmap → Bool → Type 0
NoneInner asked allowed = AllByRecursion (λ n. is_answered asked allowed n ≡ false) (inner_in table)

pub and_false : (b : Bool) → (b && false) ≡ false
and_false true = refl
and_false false = refl

pub none_allowed : (asked : Bitmap) → NoneInner asked false
unfolding is_inner
none_allowed asked = search (rules, and_false)

none_asked_in : (asked : Bitmap) (allowed : Bool) (ns : List ℕ) → AllByRecursion (λ n. has_attr asked n ≡ false) ns → AllByRecursion (λ n. is_answered asked allowed n ≡ false) ns
none_asked_in asked allowed [] all = tt
none_asked_in asked allowed (n ∷ ns) all = (ap (λ b. b && (allowed || not (is_inner n))) all.0, none_asked_in asked allowed ns all.1)

pub none_asked : (asked : Bitmap) (allowed : Bool) → asks_inner asked ≡ false → NoneInner asked allowed
none_asked asked allowed none = none_asked_in asked allowed (inner_in table) (none_any (λ n. has_attr asked n) (inner_in table) none)

left_out : (asked : Bitmap) (u v : View) (allowed : Bool) (n : ℕ) → is_answered asked allowed n ≡ false → attr_text asked u allowed n ≡ attr_text asked v allowed n
unfolding attr_text
left_out asked u v allowed n none = ap (λ b. cond b (value_of n u) []) none ∙ sym (ap (λ b. cond b (value_of n v) []) none)

list_hidden : (asked : Bitmap) (allowed : Bool) (v : View) → NoneInner asked allowed → list_text asked v allowed ≡ list_text asked (hidden v) allowed
unfolding list_text attr_text value_of
list_hidden asked allowed v none = flat_map_alike (attr_text asked v allowed) (attr_text asked (hidden v) allowed) (numbers_in table) (search (rules, none, left_out asked v (hidden v) allowed))

-- ---- what is seen of a node

-- a label that isn't dominated is written as the site writes it
label_hidden : (limited above : Bool) (a b c : Stored) → above ≡ false → cond (limited && above) a c ≡ cond (limited && above) b c
label_hidden true above a b c apart = ap (λ t. cond t a c) apart ∙ sym (ap (λ t. cond t b c) apart)
label_hidden false above a b c apart = refl

module _ (site : Site) (lattice : IsPreorderWithBottom site.dom) (p : Place) (w : World) (facts : Facts site.dom w) where
  abbrev seen_world : World
  seen_world = erased site.dom p.subject w

  -- the bytes of the subject's own level
  bytes_seen : bytes_used seen_world.nodes p.subject ≡ bytes_used w.nodes p.subject
  bytes_seen = bytes_used-seen site.dom lattice p.subject p.subject w facts (lattice.reflexive p.subject)

  shown_hidden : (n : Node) (error : ℕ) → site.dom p.subject n.label ≡ false → hidden (shown site p seen_world (shrunk site.dom p.subject n) error) ≡ hidden (shown site p w n error)
  shown_hidden n error apart =
      let inner = (shrunk site.dom p.subject n).inner in
      let label = label_hidden site.limited (site.dom p.subject n.label) (stored_or (site.spelling n.label) inner.stored) (stored_or (site.spelling n.label) n.inner.stored) (site.spelling n.label) apart in
      λ k. let v : View = record (hidden (shown site p w n error)) { avail = site.bytes p.subject - bytes_seen k; used = bytes_seen k; label = label_value (label k) } in v

  -- who may read a node sees all that is shown of it
  shown_whole : (i : Id) (n : Node) (error : ℕ) → node_at w.nodes i ≡ Some n → site.dom p.subject n.label ≡ true → shown site p seen_world (shrunk site.dom p.subject n) error ≡ shown site p w n error
  shown_whole i n error found above =
      let seen = ap (λ j. sees site.dom p.subject w.nodes j) (node_at-id i w.nodes n found) ∙ sees_node site.dom lattice p.subject w facts i n found above in
      let size = size_of-seen site.dom lattice p.subject w facts n n.kind seen in
      let links = links_of-seen site.dom lattice p.subject w facts n n.kind seen in
      ap (λ m. shown site p seen_world m error) (shrunk_whole site.dom p.subject n above)
      ∙ (λ k. record (shown site p w n error) { size = size k; links = links k; avail = site.bytes p.subject - bytes_seen k; used = bytes_seen k })

  pub list_seen : (i : Id) (n : Node) (error : ℕ) (asked : Bitmap) (allowed : Bool) → node_at w.nodes i ≡ Some n → (site.dom p.subject n.label ≡ false → NoneInner asked allowed) →
      list_text asked (shown site p seen_world (shrunk site.dom p.subject n) error) allowed ≡ list_text asked (shown site p w n error) allowed
  list_seen i n error asked allowed found none = at (site.dom p.subject n.label) refl
    where
      at : (above : Bool) → site.dom p.subject n.label ≡ above → list_text asked (shown site p seen_world (shrunk site.dom p.subject n) error) allowed ≡ list_text asked (shown site p w n error) allowed
      at true is = ap (λ v. list_text asked v allowed) (shown_whole i n error found is)
      at false is =
          list_hidden asked allowed (shown site p seen_world (shrunk site.dom p.subject n) error) (none is)
          ∙ ap (λ v. list_text asked v allowed) (shown_hidden n error is)
          ∙ sym (list_hidden asked allowed (shown site p w n error) (none is))

  pub answer_seen : (i : Id) (n : Node) (error : ℕ) (asked : Bitmap) (allowed : Bool) → node_at w.nodes i ≡ Some n → (site.dom p.subject n.label ≡ false → NoneInner asked allowed) →
      answer_to asked allowed (shown site p seen_world (shrunk site.dom p.subject n) error) ≡ answer_to asked allowed (shown site p w n error)
  answer_seen i n error asked allowed found none = ap (λ list. record (answer_to asked allowed (shown site p w n error)) { list = list }) (list_seen i n error asked allowed found none)
