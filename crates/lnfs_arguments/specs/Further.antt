-- A further grammar: operations beside those of the table. The arguments of each are one item, whose length is told by all the bytes that are left.
use Rattle.std.specs.Prelude.{◌≡◌, ℕ, ◌≤◌, Bool, true, false, List, [], ◌∷◌, Result, Err, ◌==◌, ◌||◌}
use Rattle.lnfs_xdr.specs.declared.error.XdrError.{XdrError}
use Rattle.lnfs_xdr.specs.declared.error.XdrError.TheVariants.{Short}
use Rattle.lnfs_xdr.specs.Format.{Format, Done, when◌then◌else◌}
use Rattle.lnfs_xdr.specs.Lengths.{length_at}
use Rattle.lnfs_arguments.specs.Numbers.{is_operation}
use Rattle.lnfs_arguments.specs.Grammar.{table}

pub record Further : Type 0 where
  -- whether it has the operation of a number
  pub serves : ℕ → Bool
  -- how many of the bytes that are left are the operation's arguments
  pub measure : ℕ → List ℕ → Result ℕ XdrError
  -- the most bytes of the operation's result
  pub bound : ℕ → List ℕ → ℕ

-- whether a table has a number
abbrev pub listed : {E A : Type 0} → List (ℕ × Format E A) → ℕ → Bool
listed [] number = false
listed ((n, f) ∷ more) number = number == n || listed more number

pub record IsLawful (x : Further) : Type 0 where
  -- its operations have numbers of minor version 2 that the table has none of
  pub numbered : (number : ℕ) → x.serves number ≡ true → is_operation number ≡ true
  pub beside : (number : ℕ) → x.serves number ≡ true → listed table number ≡ false
  -- a result has at least its number and its status
  pub room : (number : ℕ) (args : List ℕ) → 8 ≤ x.bound number args

-- no further operation
abbrev pub nothing_further : Further
nothing_further = record { serves = λ number. false; measure = λ number bytes. Err Short; bound = λ number args. 8 }

-- ---- operations as blocks, as those of the table are

-- the numbers of further operations, each with the format of its arguments
abbrev pub Blocks : Type 1
Blocks = List (ℕ × Format ⊥ (Unit {0}))

abbrev pub block_of : Blocks → ℕ → Format ⊥ (Unit {0})
block_of [] number = Done tt
block_of ((n, f) ∷ more) number = when number == n then f else block_of more number

-- every number is one of minor version 2, and the table has none of them
abbrev pub AreFree : Blocks → Type 0
AreFree [] = Unit {0}
AreFree ((n, f) ∷ more) = (is_operation n ≡ true) × (listed table n ≡ false) × AreFree more

abbrev pub further_of : Blocks → (ℕ → List ℕ → ℕ) → Further
further_of blocks bound = record { serves = listed blocks; measure = λ number bytes. length_at (block_of blocks number) bytes; bound = bound }
