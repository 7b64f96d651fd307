-- What is written is read again, whatever further grammar reads beside the table.
use Rattle.std.proofs.Common.{◌≡◌, ℕ, ◌≤◌, Bool, true, false, eqb, List, [], ◌∷◌, ◌++◌, length, Result, Ok, Err, refl, sym, ap, subst, ◌∙◌, append_assoc, arith, inl}
use Rattle.std.specs.Prelude.{IfOk, ◌||◌}
use Rattle.std.specs.Global.{Vec}
use Rattle.std.specs.List.{flat_map, AllByRecursion}
use Rattle.std.proofs.lemmas.List.{append-nil}
use Rattle.std.proofs.lemmas.List.Concat.{flat_map-cons}
use Rattle.std.proofs.lemmas.List.Elements.{recursion_from_All}
use Rattle.std.proofs.lemmas.Bool.Decides.{nat_tests}
use Rattle.lnfs_xdr.specs.Canon.{word, opaque}
use Rattle.lnfs_xdr.specs.Format.{Format, Spells, If}
use Rattle.lnfs_xdr.proofs.Spelled.{Spelled, word_spelled, opaque_spelled, done_spelled, ◌▸◌, last, grouped, on_true}
use Rattle.lnfs_attrs.specs.Parsing.{Args}
use Rattle.lnfs_arguments.specs.declared.types.Compound.{Compound}
use Rattle.lnfs_arguments.specs.declared.types.Op.{Op}
use Rattle.lnfs_arguments.specs.declared.types.Op.TheVariants as ops
use Rattle.lnfs_arguments.specs.Grammar.{arguments, table, entry}
use Rattle.lnfs_arguments.specs.Further.{Further, IsLawful, listed}
use Rattle.lnfs_xdr.specs.Message.{Message, Next, Tells}
use Rattle.lnfs_requests.specs.Texts.{op_text, compound_text}
use Rattle.lnfs_requests.specs.Fits.{OpFits, CompoundFits}
use Rattle.lnfs_arguments.specs.Whole.{header, served, is_cut, chosen, with_op, operations, compound}
use Rattle.lnfs_requests.proofs.Texts.{op_spelled}

-- ---- what is spelled is in the table

by_row : (b : Bool) (f h : Args Op) (more : Bool) (op : Op) (bytes : List ℕ) → (Spells h op bytes → more ≡ true) → Spells (If b f h) op bytes → (b || more) ≡ true
by_row true f h more op bytes later s = refl
by_row false f h more op bytes later s = later s

is_listed : (rows : List (ℕ × Args Op)) (number : ℕ) (op : Op) (bytes : List ℕ) → Spells (entry rows number) op bytes → listed rows number ≡ true
is_listed [] number op bytes s = absurd s
is_listed ((n, f) ∷ more) number op bytes s = by_row (eqb number n) f (entry more number) (listed more number) op bytes (is_listed more number op bytes) s

unserved_here : (x : Further) → IsLawful x → (number : ℕ) (b : Bool) → x.serves number ≡ b → listed table number ≡ true → b ≡ false
unserved_here x lawful number true e l = absurd (let f = lawful.beside number e in cc)
unserved_here x lawful number false e l = refl

-- c with these operations behind its own
abbrev with_ops : Compound → List Op → Compound
with_ops c xs = record c { ops = c.ops ++ xs }

told_on_false : {B : Type 0} (b : Bool) (m n : Message B) (y : B) (bytes : List ℕ) → b ≡ false → Tells n y bytes → Tells (chosen b m n) y bytes
told_on_false true m n y bytes e t = absurd cc
told_on_false false m n y bytes e t = t

ops_told : (x : Further) → IsLawful x → (xs : List Op) (c : Compound) → AllByRecursion OpFits xs → Tells (operations x false (length xs) c) (with_ops c xs) (flat_map op_text xs)
unfolding operations arguments
ops_told x lawful [] c all = (ap (λ (l : List Op). record c { ops = l }) (sym (append-nil c.ops)), refl)
ops_told x lawful (op ∷ xs) c all =
    let s = (op_spelled op all.0).is in
    let back : List ℕ = flat_map op_text xs in
    let after_it : Tells (operations x false (length xs) (with_op c op)) (with_ops c (op ∷ xs)) back =
    subst (λ (l : List Op). Tells (operations x false (length xs) (with_op c op)) (record c { ops = l }) back) (append_assoc c.ops (op ∷ []) xs) (ops_told x lawful xs (with_op c op) all.1) in
    let unserved_one : x.serves s.0 ≡ false = unserved_here x lawful s.0 (x.serves s.0) refl (is_listed table s.0 op s.2 s.4) in
    let body : Tells (Next (arguments s.0) (λ op. operations x false (length xs) (with_op c op)) (λ e. with_op c (ops.Outside e.0 e.1))) (with_ops c (op ∷ xs)) (s.2 ++ back) =
    inl (op, s.2, back, s.4, refl, after_it) in
    let parts : flat_map op_text (op ∷ xs) ≡ s.1 ++ (s.2 ++ back) = flat_map-cons op_text op xs ∙ ap (λ (l : List ℕ). l ++ back) s.5 ∙ append_assoc s.1 s.2 back in
    inl (s.0, s.1, s.2 ++ back, s.3, parts, told_on_false (x.serves s.0) _ _ _ _ unserved_one body)

is_not_cut : (minor count : ℕ) → minor ≡ 2 → count ≤ 32 → is_cut minor count ≡ false
is_not_cut minor count e le = grind (arith, nat_tests)

all_served : (minor count : ℕ) → minor ≡ 2 → count ≤ 32 → served minor count ≡ count
all_served minor count e le = grind (arith, nat_tests)

-- behind minor version 2
counted : {A : Type 0} (minor : ℕ) → minor ≡ 2 → (f g : Format ⊥ A) (x : A) (bytes : List ℕ) → Spelled f x bytes → Spelled (If (eqb minor 2) f g) x bytes
counted minor e f g x bytes s = subst (λ (n : ℕ). Spelled (If (eqb n 2) f g) x bytes) (sym e) (on_true s)

pub compound_told : (x : Further) → IsLawful x → (c : Compound) → CompoundFits c → Tells (compound x) c (compound_text c)
unfolding compound header compound_text
compound_told x lawful c fits =
    let few : c.count ≤ 32 = omega (arith, fits.count, fits.few) in
    let h : Compound = record { tag = c.tag; minor = c.minor; count = c.count; ops = [] } in
    let front : Spelled header h (opaque c.tag ++ word c.minor ++ word c.count) =
    grouped (opaque_spelled 1024 c.tag fits.tag (omega (arith, fits.tag)) ▸ word_spelled c.minor (omega (arith, fits.minor)) ▸ counted c.minor fits.minor _ _ h (word c.count) (last (word_spelled c.count (omega arith)) (done_spelled h))) (simp append_assoc) in
    let body : Tells (operations x (is_cut c.minor c.count) (served c.minor c.count) h) c (flat_map op_text c.ops) =
    rw (is_not_cut c.minor c.count fits.minor few, all_served c.minor c.count fits.minor few ∙ fits.count) (ops_told x lawful c.ops h (recursion_from_All OpFits c.ops fits.ops)) in
    inl (h, opaque c.tag ++ word c.minor ++ word c.count, flat_map op_text c.ops, front.is, refl, body)

pub is_again : {E : Type 0} (c : Compound) (r : Result (Vec ℕ) E) → CompoundFits c → IfOk r (λ v. v.items ≡ compound_text c) → (x : Further) → IsLawful x → IfOk r (λ v. Tells (compound x) c v.items)
is_again c (Ok v) fits given x lawful = subst (Tells (compound x) c) (sym given) (compound_told x lawful c fits)
is_again c (Err e) fits given x lawful = tt
