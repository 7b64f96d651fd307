-- Lemmas: no operation, and operations that are given as blocks, are further grammars. They stand here since an `impl` of `ExtraGrammar` names them.
use Rattle.std.proofs.Common.{◌≡◌, ℕ, ◌≤◌, Bool, true, false, eqb, List, [], ◌∷◌, refl, ap, ◌∙◌, arith}
use Rattle.std.specs.Prelude.{◌||◌}
use Rattle.std.proofs.lemmas.Bool.{eqb-true}
use Rattle.lnfs_arguments.specs.Numbers.{is_operation}
use Rattle.lnfs_arguments.specs.Grammar.{table}
use Rattle.lnfs_arguments.specs.Further.{IsLawful, listed, Blocks, AreFree, further_of, nothing_further}

pub nothing_further_is_lawful : IsLawful nothing_further
nothing_further_is_lawful = record {
  numbered = λ number e. absurd cc;
  beside = λ number e. absurd cc;
  room = λ number args. omega arith;
}

-- the first block, or one of the others
either : (b : Bool) (number n : ℕ) (test : ℕ → Bool) (wanted more : Bool) → eqb number n ≡ b → (b || more) ≡ true → test n ≡ wanted → (more ≡ true → test number ≡ wanted) → test number ≡ wanted
either true number n test wanted more same on first later = ap test (eqb-true number n same) ∙ first
either false number n test wanted more same on first later = later on

numbered : (blocks : Blocks) → AreFree blocks → (number : ℕ) → listed blocks number ≡ true → is_operation number ≡ true
numbered [] free number on = absurd cc
numbered ((n, f) ∷ more) free number on = either (eqb number n) number n is_operation true (listed more number) refl on free.0 (numbered more free.2 number)

beside : (blocks : Blocks) → AreFree blocks → (number : ℕ) → listed blocks number ≡ true → listed table number ≡ false
beside [] free number on = absurd cc
beside ((n, f) ∷ more) free number on = either (eqb number n) number n (listed table) false (listed more number) refl on free.1 (beside more free.2 number)

pub blocks_are_lawful : (blocks : Blocks) (bound : ℕ → List ℕ → ℕ) → AreFree blocks → ((number : ℕ) (args : List ℕ) → 8 ≤ bound number args) → IsLawful (further_of blocks bound)
blocks_are_lawful blocks bound free room = record {
  numbered = λ number on. numbered blocks free number on;
  beside = λ number on. beside blocks free number on;
  room = room;
}
