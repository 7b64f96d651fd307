-- The arguments of each operation, as they are read: verifiers have eight bytes, and owners are short.
use Rattle.std.proofs.Common.{◌≡◌, ◌≤◌, ◌+◌, ℕ, List, [], ◌∷◌, length, take, drop, Option, Some, None, Ok, nat_lt, ap, arith, length-take}
use Rattle.std.specs.Prelude.{◌==◌, IfSome}
use Rattle.std.proofs.lemmas.Bool.{ltb-false}
use Rattle.lnfs_xdr.specs.declared.error.XdrError.TheVariants.{Short}
use Rattle.lnfs_xdr.specs.Format.{Word, Long, Fixed, Outside, Done, padding}
use Rattle.lnfs_xdr.specs.Reading.{read, padded_at}
use Rattle.lnfs_xdr.proofs.Fields.{guard_ok, here_ok}
use Rattle.lnfs_attrs.specs.Parsing.{Args}
use Rattle.lnfs_arguments.specs.declared.types.Op.{Op}
use Rattle.lnfs_arguments.specs.declared.types.Op.TheVariants as ops
use Rattle.lnfs_arguments.specs.declared.types.Making.{Making}
use Rattle.lnfs_arguments.specs.declared.types.Making.TheVariants.{Unchecked, Guarded, Exclusive}
use Rattle.lnfs_arguments.specs.Shared.{attrs}
use Rattle.lnfs_arguments.specs.Grammar.{access, create, getattr, link, lookup, remove, nverify, verify, setattr, putfh, readdir, rename, close, commit, reading, writing, created, making, claim, opening, who_made, exchange_id, making_session, destroy_session, sequencing, destroy_clientid, reclaim_complete, table, entry, arguments}
use Rattle.lnfs_operations.specs.Sizes.{IsOpRead}
use Rattle.lnfs_operations.specs.Open.{verifier_of}
use Rattle.lnfs_step.proofs.Gives.{Gives, gives_opaque, gives_done, gives_then, gives_any, gives_if}
use Rattle.lnfs_step.proofs.Outsides.{EndsBy, ends}

-- ---- formats

fixed_long : (n : ℕ) (bytes : List ℕ) (x : List ℕ × List ℕ) → padded_at n bytes ≡ Ok x → length x.0 ≡ n
fixed_long n bytes x e =
    let c = guard_ok (nat_lt (length bytes) (n + padding n)) Short (take n bytes, drop (padding n) (drop n bytes)) x e in
    let enough : n + padding n ≤ length bytes = ltb-false _ _ c.0 in
    let cut : take n bytes ≡ x.0 = ap (λ (p : List ℕ × List ℕ). p.0) c.1 in
    omega (arith, length-take n bytes, ap length cut, enough)

gives_fixed : {E : Type 0} (n : ℕ) → Gives {E = E} (Fixed n) (λ v. length v ≡ n)
gives_fixed n = record { is = λ bytes x e. fixed_long n bytes x (here_ok bytes (padded_at n bytes) x e) }

gives_outside : {E A : Type 0} {P : A → Type 0} (e : E) → Gives {E = E} (Outside e) P
gives_outside e = record { is = λ bytes x is. absurd (let f = is in cc) }

-- whatever it ends with
gives_ends : {P : Op → Type 0} (f : Args Op) → EndsBy P f → Gives f P
gives_ends {P = P} f by = record { is = λ bytes x is. ends P f by bytes x is }

-- ---- owners and verifiers

exchange_id_read : Gives exchange_id IsOpRead
unfolding exchange_id
exchange_id_read =
    gives_then (λ v. length v ≡ 8) (gives_fixed 8) (λ verifier long.
    gives_then (λ o. length o ≤ 1024) (gives_opaque 1024) (λ owner short.
    gives_then (λ x. Unit {0}) (gives_any Word) (λ flags _.
    gives_then (λ x. Unit {0}) (gives_any Word) (λ how _.
    gives_if (how == 0)
    (gives_then (λ x. Unit {0}) (gives_any who_made) (λ made _. gives_done (ops.ExchangeId verifier owner flags made) (long, short)))
    (gives_outside _)))))

-- what an exclusive create brings
abbrev IsVerified : Option Making → Type 0
IsVerified o = IfSome o (λ m. IfSome (verifier_of m) (λ bytes. length bytes ≡ 8))

created_read : Gives created (λ m. IsVerified (Some m))
unfolding created
created_read =
    gives_then (λ x. Unit {0}) (gives_any Word) (λ mode _.
    gives_if (mode == 0)
    (gives_then (λ x. Unit {0}) (gives_any attrs) (λ given _. gives_done (Unchecked given) tt))
    (gives_if (mode == 1)
    (gives_then (λ x. Unit {0}) (gives_any attrs) (λ given _. gives_done (Guarded given) tt))
    (gives_if (mode == 2)
    (gives_outside _)
    (gives_if (mode == 3)
    (gives_then (λ v. length v ≡ 8) (gives_fixed 8) (λ verifier long. gives_then (λ x. Unit {0}) (gives_any attrs) (λ given _. gives_done (Exclusive verifier given) long)))
    (gives_outside _)))))

making_read : Gives making IsVerified
unfolding making
making_read =
    gives_then (λ x. Unit {0}) (gives_any Word) (λ kind _.
    gives_if (kind == 0)
    (gives_done None tt)
    (gives_if (kind == 1)
    (gives_then (λ m. IsVerified (Some m)) created_read (λ made verified. gives_done (Some made) verified))
    (gives_outside _)))

opening_read : Gives opening IsOpRead
unfolding opening
opening_read =
    gives_then (λ x. Unit {0}) (gives_any Word) (λ seqid _.
    gives_then (λ x. Unit {0}) (gives_any Word) (λ access _.
    gives_then (λ x. Unit {0}) (gives_any Word) (λ deny _.
    gives_then (λ x. Unit {0}) (gives_any Long) (λ client _.
    gives_then (λ o. length o ≤ 1024) (gives_opaque 1024) (λ owner short.
    gives_then IsVerified making_read (λ how verified.
    gives_then (λ x. Unit {0}) (gives_any claim) (λ target _.
    gives_done (ops.Open seqid access deny client owner how target) (short, verified))))))))

-- ---- the table

abbrev AllRead : List (ℕ × Args Op) → Type 0
AllRead [] = Unit {0}
AllRead ((number, f) ∷ more) = Gives f IsOpRead × AllRead more

-- of most rows nothing is kept untested
rows_read : AllRead table
unfolding access create getattr link lookup remove nverify verify setattr putfh readdir rename close commit reading writing making_session destroy_session sequencing destroy_clientid reclaim_complete
rows_read = (
  gives_ends access (search parts 20 depth 40),
  (
    gives_ends close (search parts 20 depth 40),
    (
      gives_ends commit (search parts 20 depth 40),
      (
        gives_ends create (search parts 20 depth 40),
        (
          gives_ends getattr (search parts 20 depth 40),
          (
            gives_ends (Done ops.GetFh) tt,
            (
              gives_ends link (search parts 20 depth 40),
              (
                gives_ends lookup (search parts 20 depth 40),
                (
                  gives_ends (Done ops.LookupP) tt,
                  (
                    gives_ends nverify (search parts 20 depth 40),
                    (
                      opening_read,
                      (
                        gives_ends putfh (search parts 20 depth 40),
                        (
                          gives_ends (Done ops.PutRootFh) tt,
                          (
                            gives_ends reading (search parts 20 depth 40),
                            (
                              gives_ends readdir (search parts 20 depth 40),
                              (
                                gives_ends (Done ops.ReadLink) tt,
                                (
                                  gives_ends remove (search parts 20 depth 40),
                                  (
                                    gives_ends rename (search parts 20 depth 40),
                                    (
                                      gives_ends (Done ops.RestoreFh) tt,
                                      (
                                        gives_ends (Done ops.SaveFh) tt,
                                        (
                                          gives_ends setattr (search parts 20 depth 40),
                                          (
                                            gives_ends verify (search parts 20 depth 40),
                                            (
                                              gives_ends writing (search parts 20 depth 40),
                                              (
                                                exchange_id_read,
                                                (
                                                  gives_ends making_session (search parts 20 depth 40),
                                                  (
                                                    gives_ends destroy_session (search parts 20 depth 40),
                                                    (
                                                      gives_ends sequencing (search parts 20 depth 40),
                                                      (
                                                        gives_ends destroy_clientid (search parts 20 depth 40),
                                                        (
                                                          gives_ends reclaim_complete (search parts 20 depth 40),
                                                          tt,
                                                        ),
                                                      ),
                                                    ),
                                                  ),
                                                ),
                                              ),
                                            ),
                                          ),
                                        ),
                                      ),
                                    ),
                                  ),
                                ),
                              ),
                            ),
                          ),
                        ),
                      ),
                    ),
                  ),
                ),
              ),
            ),
          ),
        ),
      ),
    ),
  ),
)

entry_read : (rows : List (ℕ × Args Op)) → AllRead rows → (number : ℕ) → Gives (entry rows number) IsOpRead
entry_read [] all number = gives_outside _
entry_read ((n, f) ∷ more) all number = gives_if (number == n) all.0 (entry_read more all.1 number)

pub op_read : (number : ℕ) (bytes : List ℕ) (x : Op × List ℕ) → read (arguments number) bytes ≡ Ok x → IsOpRead x.0
unfolding arguments
op_read number bytes x e = (entry_read table rows_read number).is bytes x e
