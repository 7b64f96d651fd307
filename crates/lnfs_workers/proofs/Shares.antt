-- What threads may share: a closure over three things that are lent, and what a struct lends.
use Rattle.std.proofs.Common.{ℕ, [], ◌∷◌}
use mir.Syntax.{Sym, Ty}
use denote.Exit.{Kept}
use denote.RattleType.{RattleType}
use denote.Hole.{as_row}
use denote.Ref.{NamedLft, ShrRef}
use denote.Builtin.{One}
use denote.Param.{param, arg}
use denote.Param.Send.{IsSync, param_sync, arg_sync, shr_sync}
use denote.Param.SendFields.{declared_sync, as_row_sync}
use denote.Struct.Field.{row_field, shr_ref_field}
use denote.Struct.Tuple.{TupleAt, type_at}

three_sync : (ν : Sym) (A B C : RattleType) → IsSync A → IsSync B → IsSync C → IsSync (TupleAt ν (A ∷ B ∷ C ∷ []))
three_sync ν A B C a b c = declared_sync (type_at ν (A ∷ B ∷ C ∷ [])) (as_row_sync (row_field A) a, (as_row_sync (row_field B) b, (as_row_sync (row_field C) c, tt)))

pub closure_sync : (i : ℕ) (δ : Ty) (k : Kept) (ν : Sym) (a b c : NamedLft) (A B C : RattleType) (one : One A.mir) (one' : One B.mir) (one'' : One C.mir) → IsSync A → IsSync B → IsSync C
    → IsSync (param i (arg δ k (TupleAt ν ((shr_ref_field a A one).row ∷ (shr_ref_field b B one').row ∷ (shr_ref_field c C one'').row ∷ []))))
closure_sync i δ k ν a b c A B C one one' one'' x y z =
    param_sync i _ (arg_sync δ k _ (three_sync ν _ _ _ (shr_sync a.mir a.lft A x) (shr_sync b.mir b.lft B y) (shr_sync c.mir c.lft C z)))

-- what a field lends: a value of a declared type, or of a type parameter
pub lent_sync : (a : NamedLft) (R : RattleType) (one : One R.mir) → IsSync R → IsSync (as_row (shr_ref_field a R one))
lent_sync a R one s = as_row_sync (shr_ref_field a R one) (shr_sync a.mir a.lft R s)

pub given_sync : (a : NamedLft) (R : RattleType) → IsSync R → IsSync (as_row (row_field (ShrRef a.mir a.lft R)))
given_sync a R s = as_row_sync (row_field (ShrRef a.mir a.lft R)) (shr_sync a.mir a.lft R s)
