-- The classes that a word lists, part by part.
use Rattle.std.proofs.Common.{◌≡◌, ℕ, List, [], ◌∷◌, ◌++◌, refl, sym, ap, ◌∙◌, append_assoc, append-nil}
use Rattle.std.specs.Option.{option_map}
use Rattle.std.specs.declared.option.Option.{Option}
use Rattle.std.specs.declared.option.Option.TheVariants.{Some, None}
use Rattle.lnfs_words.specs.Numbers.{number_up_to}
use Rattle.lnfs_words.specs.Words.{split}
use Rattle.lnfs_policy.specs.declared.fits.TheConstants.{MAX_CLASS}
use Rattle.lnfs_commands.specs.Words.{before_all, classes_of, few, classes_in}

-- behind some classes
abbrev pub behind : List ℕ → Option (List ℕ) → Option (List ℕ)
behind classes others = option_map (λ (rest : List ℕ). classes ++ rest) others

behind_more : (classes : List ℕ) (class : ℕ) (o : Option (List ℕ)) → behind classes (before_all (Some class) o) ≡ behind (classes ++ class ∷ []) o
behind_more classes class None = refl
behind_more classes class (Some rest) = ap Some (sym (append_assoc classes (class ∷ []) rest))

-- those of the parts that were read, and then those of the parts that are left
abbrev pub Listed : (word classes : List ℕ) → List (List ℕ) → Type 0
Listed word classes parts = classes_of (split 44 word) ≡ behind classes (classes_of parts)

module _ (word classes : List ℕ) {parts : List (List ℕ)} (so_far : Listed word classes parts) where
  pub listed_more : {part : List ℕ} {others : List (List ℕ)} {class : ℕ} → parts ≡ part ∷ others → number_up_to MAX_CLASS part ≡ Some class → Listed word (classes ++ class ∷ []) others
  listed_more {part} {others} {class} cut is =
      so_far
      ∙ ap (λ (ps : List (List ℕ)). behind classes (classes_of ps)) cut
      ∙ ap (λ (c : Option ℕ). behind classes (before_all c (classes_of others))) is
      ∙ behind_more classes class (classes_of others)

  pub listed_wrong : {part : List ℕ} {others : List (List ℕ)} → parts ≡ part ∷ others → number_up_to MAX_CLASS part ≡ None → classes_in word ≡ None
  listed_wrong {part} {others} cut is =
      ap few (so_far
      ∙ ap (λ (ps : List (List ℕ)). behind classes (classes_of ps)) cut
      ∙ ap (λ (c : Option ℕ). behind classes (before_all c (classes_of others))) is)

  pub listed_all : parts ≡ [] → classes_in word ≡ few (Some classes)
  listed_all none = ap few (so_far ∙ ap (λ (ps : List (List ℕ)). behind classes (classes_of ps)) none ∙ ap Some (append-nil classes))
