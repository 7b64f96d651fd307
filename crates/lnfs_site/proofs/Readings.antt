-- The tables of a policy's formats tell the level of a label as the formats do.
use Rattle.std.proofs.Common.{◌≡◌, ◌+◌, ◌<◌, refl, ap, sym, ◌∙◌, ℕ, Bool, true, false, not, cond, List, [], ◌∷◌, map, length, nat_lt, Option, Some, None, subst, arith}
use Rattle.std.specs.Prelude.{All, position, slice_index, option_map}
use Rattle.std.specs.List.{AllByRecursion, find, position_or_len}
use Rattle.std.proofs.lemmas.Bool.Decides.{nat_tests}
use Rattle.std.proofs.lemmas.List.{length-map}
use Rattle.std.proofs.lemmas.List.Elements.{recursion_from_All}
use Rattle.std.proofs.lemmas.Slice.Eq.{bytes_eq-Decides}
use Rattle.lnfs_calipso.specs.Label.{Label, IsLabel}
use Rattle.lnfs_calipso.specs.Same.{same_label, level_of}
use Rattle.lnfs_calipso.specs.Equality.{agree, same_label-refl, same_label-true}
use Rattle.lnfs_format.specs.Entries.{entry_of}
use Rattle.lnfs_format.specs.Kinds.{reads, writes}
use Rattle.lnfs_format.specs.Laws.{IsFormat, AreBytes, ReadBack, WrittenBack}
use Rattle.lnfs_format.specs.LevelRead.{or_bad, level_in, read_in, level_read}
use Rattle.lnfs_format.specs.Site.{AreFormats}
use Rattle.lnfs_format.specs.declared.kind.Kind.{Kind}
use Rattle.lnfs_format.specs.declared.formats.FormatEntry.{FormatEntry}
use Rattle.lnfs_policy.specs.Policy.{Policy}
use Rattle.lnfs_site.specs.Site.{told_by, is_limited, carried, reading}
use Rattle.lnfs_site.specs.Labels.{Spellings, spellings, table_of, is_table, is_spelled, level_or_bad, read_in_table, table_read}

-- ---- places in a list that is made of another

abbrev place_if : ℕ → ℕ → Option ℕ
place_if n len = cond (nat_lt n len) (Some n) None

module _ {A B : Type 0} (p : B → Bool) (q : A → Bool) (f : A → B) where
  places : (xs : List A) → AllByRecursion (λ x. p (f x) ≡ q x) xs → position_or_len p (map f xs) ≡ position_or_len q xs
  places [] all = refl
  places (x ∷ xs) all = ap (λ b. cond (not b) (1 + position_or_len p (map f xs)) 0) all.0 ∙ ap (λ n. cond (not (q x)) (1 + n) 0) (places xs all.1)

  position-map : (xs : List A) → AllByRecursion (λ x. p (f x) ≡ q x) xs → position p (map f xs) ≡ position q xs
  position-map xs all = ap (λ n. place_if n (length (map f xs))) (places xs all) ∙ ap (place_if (position_or_len q xs)) (length-map xs f)

nowhere : {A : Type 0} (p : A → Bool) (xs : List A) → AllByRecursion (λ x. p x ≡ false) xs → position_or_len p xs ≡ length xs
nowhere p [] all = refl
nowhere p (x ∷ xs) all = grind (arith, all.0, nowhere p xs all.1)

position-none : {A : Type 0} (p : A → Bool) (xs : List A) → AllByRecursion (λ x. p x ≡ false) xs → position p xs ≡ None
position-none p xs all = ap (λ n. place_if n (length xs)) (nowhere p xs all) ∙ past (length xs)
  where
    past : (n : ℕ) → place_if n n ≡ None
    past n = grind (arith, nat_tests)

find-map : {A B : Type 0} (f : A → B) (p : B → Bool) (xs : List A) → find p (map f xs) ≡ option_map f (find (λ x. p (f x)) xs)
find-map f p [] = refl
find-map f p (x ∷ xs) = grind (arith, find-map f p xs)

mapped : {X : Type 0} {P Q : X → Type 0} → ((x : X) → P x → Q x) → (xs : List X) → AllByRecursion P xs → AllByRecursion Q xs
mapped each [] all = tt
mapped each (x ∷ xs) all = (each x all.0, mapped each xs all.1)

-- ---- a level that is spelled

spelled_same : (bytes : List ℕ) → is_spelled bytes (Some bytes) ≡ true
spelled_same bytes = (bytes_eq-Decides bytes bytes).1 refl

spelled_is : (bytes : List ℕ) (row : Option (List ℕ)) → is_spelled bytes row ≡ true → row ≡ Some bytes
spelled_is bytes None spells = cc
spelled_is bytes (Some spelled) spells = ap Some ((bytes_eq-Decides spelled bytes).0 spells)

some_same : (a b : Label) (o : Option Label) → o ≡ Some a → o ≡ Some b → a ≡ b
some_same a b None e f = cc
some_same a b (Some c) e f = let first : c ≡ a = cc in let second : c ≡ b = cc in sym first ∙ second

module _ (read_back : ReadBack) (written_back : WrittenBack) (kind : Kind) (is : IsFormat kind) (bytes : List ℕ) (are : AreBytes bytes) where
  -- a label that is read is the one that is spelled so
  spells_label : (label l : Label) → reads kind bytes ≡ Some label → IsLabel l → is_spelled bytes (writes kind l) ≡ same_label l label
  spells_label label l read lawful = agree (is_spelled bytes (writes kind l)) (same_label l label)
      (λ spells. let own : l ≡ label = some_same l label (reads kind bytes) (read_back kind is l lawful bytes (spelled_is bytes (writes kind l) spells)) read in
      subst (λ (m : Label). same_label l m ≡ true) own (same_label-refl l))
      (λ same. subst (λ (row : Option (List ℕ)). is_spelled bytes row ≡ true) (sym (ap (writes kind) (same_label-true l label same) ∙ written_back kind is bytes are label read)) (spelled_same bytes))

  -- where none is read none is spelled so
  spells_none : (l : Label) → reads kind bytes ≡ None → IsLabel l → is_spelled bytes (writes kind l) ≡ false
  spells_none l none lawful = at (is_spelled bytes (writes kind l)) refl
    where
      at : (b : Bool) → is_spelled bytes (writes kind l) ≡ b → b ≡ false
      at false spells = refl
      at true spells = let read : reads kind bytes ≡ Some l = read_back kind is l lawful bytes (spelled_is bytes (writes kind l) spells) in cc

  level_alike : (labels : List Label) → All IsLabel labels → level_or_bad (position (is_spelled bytes) (map (writes kind) labels)) ≡ told_by (level_in labels (reads kind bytes))
  level_alike labels lawful = at (reads kind bytes) refl
    where
      each : AllByRecursion IsLabel labels
      each = recursion_from_All IsLabel labels lawful

      told : (o : Option ℕ) → level_or_bad o ≡ told_by (or_bad o)
      told None = refl
      told (Some level) = refl

      at : (o : Option Label) → reads kind bytes ≡ o → level_or_bad (position (is_spelled bytes) (map (writes kind) labels)) ≡ told_by (level_in labels o)
      at None read = ap level_or_bad (position-map (is_spelled bytes) (λ l. false) (writes kind) labels (mapped (λ l h. spells_none l read h) labels each) ∙ position-none (λ l. false) labels (mapped (λ l h. refl) labels each))
      at (Some label) read = ap level_or_bad (position-map (is_spelled bytes) (λ l. same_label l label) (writes kind) labels (mapped (λ l h. spells_label label l read h) labels each)) ∙ told (level_of labels label)

pub tables_read : ReadBack → WrittenBack → (entries : List FormatEntry) (labels : List Label) → All IsLabel labels → AreFormats entries → (lfs pi : ℕ) (bytes : List ℕ) → AreBytes bytes → table_read (map (table_of labels) entries) lfs pi bytes ≡ told_by (level_read entries labels lfs pi bytes)
unfolding level_read
tables_read read_back written_back entries labels lawful formats lfs pi bytes are =
    ap (λ o. read_in_table o bytes) (find-map (table_of labels) (is_table lfs pi) entries) ∙ at (entry_of entries lfs pi) refl
  where
    at : (o : Option FormatEntry) → entry_of entries lfs pi ≡ o → read_in_table (option_map (table_of labels) o) bytes ≡ told_by (read_in o labels bytes)
    at None found = refl
    at (Some entry) found = level_alike read_back written_back entry.kind (formats lfs pi entry found) bytes are labels lawful

-- the tables of a site tell what is read there, where labels aren't carried alone
pub site_read : ReadBack → WrittenBack → (p q : Policy) (spelled : Spellings) → All IsLabel p.labels → AreFormats p.formats → spelled ≡ spellings p → p ≡ q → is_limited q.mode ≡ false → (lfs pi : ℕ) (bytes : List ℕ) → AreBytes bytes → table_read spelled.tables lfs pi bytes ≡ reading q (record { lfs = lfs; pi = pi; bytes = bytes })
site_read read_back written_back p q spelled lawful formats kept same enforcing lfs pi bytes are =
    ap (λ (s : Spellings). table_read s.tables lfs pi bytes) kept
    ∙ tables_read read_back written_back p.formats p.labels lawful formats lfs pi bytes are
    ∙ ap (λ (r : Policy). told_by (level_read r.formats r.labels lfs pi bytes)) same
    ∙ sym (ap (λ b. cond b (carried (record { lfs = lfs; pi = pi; bytes = bytes })) (told_by (level_read q.formats q.labels lfs pi bytes))) enforcing)
