-- The arguments of a COMPOUND that are written are read again, whatever their bytes are.
use Rattle.std.proofs.Common.{◌≡◌, ℕ, ◌≤◌, Bool, true, false, eqb, List, [], ◌∷◌, ◌++◌, length, Ok, refl, sym, ap, subst, ◌∙◌, append_assoc, arith}
use Rattle.std.specs.Prelude.{◌||◌}
use Rattle.std.specs.List.{flat_map, AllByRecursion}
use Rattle.std.proofs.lemmas.List.{append-nil}
use Rattle.std.proofs.lemmas.List.Concat.{flat_map-cons}
use Rattle.std.proofs.lemmas.List.Elements.{recursion_from_All}
use Rattle.std.proofs.lemmas.Bool.Decides.{nat_tests}
use Rattle.lnfs_xdr.specs.Canon.{word, opaque}
use Rattle.lnfs_xdr.specs.Format.{Format, Word, Spells, If}
use Rattle.lnfs_xdr.specs.Message.{Message, Next, Measured, decided, parse}
use Rattle.lnfs_xdr.proofs.Laws.{again}
use Rattle.lnfs_xdr.proofs.Spelled.{Spelled, word_spelled, opaque_spelled, done_spelled, ◌▸◌, last, grouped, on_true}
use Rattle.lnfs_attrs.specs.Parsing.{Args}
use Rattle.lnfs_arguments.specs.declared.types.Compound.{Compound}
use Rattle.lnfs_arguments.specs.declared.types.Op.{Op}
use Rattle.lnfs_arguments.specs.declared.types.Op.TheVariants as ops
use Rattle.lnfs_arguments.specs.Grammar.{arguments, table, entry}
use Rattle.lnfs_arguments.specs.Further.{Further, IsLawful, listed}
use Rattle.lnfs_arguments.specs.Whole.{header, served, is_cut, chosen, with_op, operations, compound}
use Rattle.lnfs_requests.specs.Texts.{op_text, compound_text}
use Rattle.lnfs_requests.specs.Fits.{OpFits, CompoundFits}
use Rattle.lnfs_requests.proofs.Texts.{op_spelled}

-- an item that is there is read, and the others behind it
pub parse_next : {E A B : Type 0} (f : Format E A) (k : A → Message B) (g : E → B) (a : A) (front rest : List ℕ) → Spells f a front → parse (Next f k g) (front ++ rest) ≡ parse (k a) rest
parse_next f k g a front rest s = ap (λ r. decided r (λ a rest. parse (k a) rest) g) (again f a front rest s)

by_row : (b : Bool) (f h : Args Op) (more : Bool) (op : Op) (bytes : List ℕ) → (Spells h op bytes → more ≡ true) → Spells (If b f h) op bytes → (b || more) ≡ true
by_row true f h more op bytes later s = refl
by_row false f h more op bytes later s = later s

-- what is spelled is in the table
is_listed : (rows : List (ℕ × Args Op)) (number : ℕ) (op : Op) (bytes : List ℕ) → Spells (entry rows number) op bytes → listed rows number ≡ true
is_listed [] number op bytes s = absurd s
is_listed ((n, f) ∷ more) number op bytes s = by_row (eqb number n) f (entry more number) (listed more number) op bytes (is_listed more number op bytes) s

unserved_here : (x : Further) → IsLawful x → (number : ℕ) (b : Bool) → x.serves number ≡ b → listed table number ≡ true → b ≡ false
unserved_here x lawful number true e l = absurd (let f = lawful.beside number e in cc)
unserved_here x lawful number false e l = refl

-- c with these operations behind its own
abbrev with_ops : Compound → List Op → Compound
with_ops c xs = record c { ops = c.ops ++ xs }

on_false_parsed : {B : Type 0} (b : Bool) (m n : Message B) (bytes : List ℕ) → b ≡ false → parse (chosen b m n) bytes ≡ parse n bytes
on_false_parsed true m n bytes e = absurd cc
on_false_parsed false m n bytes e = refl

-- an operation of the further grammar, and one of the table, and those behind it
abbrev further : Further → ℕ → Compound → ℕ → Message Compound
further x n c number = Measured (x.measure number) (λ args. operations x false n (with_op c (ops.Extra number args)))

abbrev own_of : Further → ℕ → Compound → ℕ → Message Compound
own_of x n c number = Next (arguments number) (λ op. operations x false n (with_op c op)) (λ e. with_op c (ops.Outside e.0 e.1))

ops_parsed : (x : Further) → IsLawful x → (xs : List Op) (c : Compound) → AllByRecursion OpFits xs → parse (operations x false (length xs) c) (flat_map op_text xs) ≡ Ok (with_ops c xs)
unfolding operations arguments
ops_parsed x lawful [] c all = ap (λ (l : List Op). Ok (record c { ops = l })) (sym (append-nil c.ops))
ops_parsed x lawful (op ∷ xs) c all =
    let s = (op_spelled op all.0).is in
    let back : List ℕ = flat_map op_text xs in
    let parts : flat_map op_text (op ∷ xs) ≡ s.1 ++ (s.2 ++ back) = flat_map-cons op_text op xs ∙ ap (λ (l : List ℕ). l ++ back) s.5 ∙ append_assoc s.1 s.2 back in
    let unserved : x.serves s.0 ≡ false = unserved_here x lawful s.0 (x.serves s.0) refl (is_listed table s.0 op s.2 s.4) in
    let behind : parse (operations x false (length xs) (with_op c op)) back ≡ Ok (with_ops c (op ∷ xs)) =
    ops_parsed x lawful xs (with_op c op) all.1 ∙ ap (λ (l : List Op). Ok (record c { ops = l })) (append_assoc c.ops (op ∷ []) xs) in
    let own : parse (own_of x (length xs) c s.0) (s.2 ++ back) ≡ parse (operations x false (length xs) (with_op c op)) back =
    parse_next (arguments s.0) (λ op. operations x false (length xs) (with_op c op)) (λ e. with_op c (ops.Outside e.0 e.1)) op s.2 back s.4 in
    ap (parse (operations x false (length (op ∷ xs)) c)) parts
    ∙ ap (λ r. decided r (λ number rest. parse (chosen (x.serves number) (further x (length xs) c number) (own_of x (length xs) c number)) rest) (λ e. absurd e)) (again {E = ⊥} Word s.0 s.1 (s.2 ++ back) s.3)
    ∙ on_false_parsed (x.serves s.0) (further x (length xs) c s.0) (own_of x (length xs) c s.0) (s.2 ++ back) unserved
    ∙ own ∙ behind

is_not_cut : (minor count : ℕ) → minor ≡ 2 → count ≤ 32 → is_cut minor count ≡ false
is_not_cut minor count e le = grind (arith, nat_tests)

all_served : (minor count : ℕ) → minor ≡ 2 → count ≤ 32 → served minor count ≡ count
all_served minor count e le = grind (arith, nat_tests)

counted : {A : Type 0} (minor : ℕ) → minor ≡ 2 → (f g : Format ⊥ A) (x : A) (bytes : List ℕ) → Spelled f x bytes → Spelled (If (eqb minor 2) f g) x bytes
counted minor e f g x bytes s = subst (λ (n : ℕ). Spelled (If (eqb n 2) f g) x bytes) (sym e) (on_true s)

pub compound_parsed : (x : Further) → IsLawful x → (c : Compound) → CompoundFits c → parse (compound x) (compound_text c) ≡ Ok c
unfolding compound header compound_text
compound_parsed x lawful c fits =
    let few : c.count ≤ 32 = omega (arith, fits.count, fits.few) in
    let h : Compound = record { tag = c.tag; minor = c.minor; count = c.count; ops = [] } in
    let front : Spelled header h (opaque c.tag ++ word c.minor ++ word c.count) =
    grouped (opaque_spelled 1024 c.tag fits.tag (omega (arith, fits.tag)) ▸ word_spelled c.minor (omega (arith, fits.minor)) ▸ counted c.minor fits.minor _ _ h (word c.count) (last (word_spelled c.count (omega arith)) (done_spelled h))) (simp append_assoc) in
    let body : parse (operations x (is_cut c.minor c.count) (served c.minor c.count) h) (flat_map op_text c.ops) ≡ Ok c =
    rw (is_not_cut c.minor c.count fits.minor few, all_served c.minor c.count fits.minor few ∙ fits.count) (ops_parsed x lawful c.ops h (recursion_from_All OpFits c.ops fits.ops)) in
    parse_next header (λ h. operations x (is_cut h.minor h.count) (served h.minor h.count) h) (λ e. absurd e) h (opaque c.tag ++ word c.minor ++ word c.count) (flat_map op_text c.ops) front.is ∙ body
