-- A node whose bytes are taken out, copied to, and put back.
use Rattle.std.proofs.Common.{◌≡◌, ℕ, Bool, true, false, cond, List, [], ◌∷◌, Option, Some, None, Result, Ok, Err, refl, sym, ◌∙◌, ap, arith}
use Rattle.std.specs.Option.{option_map}
use Rattle.std.specs.Result.{OnErr}
use Rattle.lnfs_types.specs.declared.event.Moment.{Moment}
use Rattle.lnfs_world.specs.Rows.{updated}
use Rattle.lnfs_world.specs.World.{Id, same_id}
use Rattle.lnfs_world.specs.Effects.{written}
use Rattle.lnfs_tree.specs.declared.store.Node.{Node}
use Rattle.lnfs_tree.specs.Rows.{id_of}
use Rattle.lnfs_tree.specs.Held.{is_node, node_at, bytes_in, with_bytes, with_names_step, with_written}
use Rattle.lnfs_tree.proofs.Touched.{IsPlain, node_at-set}

plain_bytes : (bytes : List ℕ) → IsPlain (with_bytes bytes)
plain_bytes bytes = record { id = λ n. refl; kind = λ n. refl; names = λ n. refl; links = λ n. refl; parent = λ n. refl }

-- another node is as it was
pub other_kept : (to from : Id) (bytes : List ℕ) (ns : List Node) → same_id to from ≡ false → node_at (updated (is_node to) (with_bytes bytes) ns) from ≡ node_at ns from
other_kept to from bytes ns other = node_at-set (with_bytes bytes) (plain_bytes bytes) to ns from ∙ ap (λ (b : Bool). cond b (option_map (with_bytes bytes) (node_at ns from)) (node_at ns from)) other

-- the bytes were put back as they were
pub put_back : (i : Id) (ns : List Node) → updated (is_node i) (with_bytes (bytes_in (node_at ns i))) (updated (is_node i) (with_bytes []) ns) ≡ ns
put_back i [] = refl
put_back i (n ∷ ns) = at (is_node i n) refl (put_back i ns)
  where
    at : (b : Bool) → is_node i n ≡ b → updated (is_node i) (with_bytes (bytes_in (node_at ns i))) (updated (is_node i) (with_bytes []) ns) ≡ ns → updated (is_node i) (with_bytes (bytes_in (cond (is_node i n) (Some n) (node_at ns i)))) (cond (is_node i n) (with_bytes [] n ∷ ns) (n ∷ updated (is_node i) (with_bytes []) ns)) ≡ n ∷ ns
    at true e rest = ap (λ (b : Bool). updated (is_node i) (with_bytes (bytes_in (cond b (Some n) (node_at ns i)))) (cond b (with_bytes [] n ∷ ns) (n ∷ updated (is_node i) (with_bytes []) ns))) e ∙ ap (λ (b : Bool). cond b (n ∷ ns) (with_bytes [] n ∷ updated (is_node i) (with_bytes n.bytes) ns)) e
    at false e rest = ap (λ (b : Bool). updated (is_node i) (with_bytes (bytes_in (cond b (Some n) (node_at ns i)))) (cond b (with_bytes [] n ∷ ns) (n ∷ updated (is_node i) (with_bytes []) ns))) e ∙ ap (λ (b : Bool). cond b (with_bytes (bytes_in (node_at ns i)) n ∷ updated (is_node i) (with_bytes []) ns) (n ∷ updated (is_node i) (with_bytes (bytes_in (node_at ns i))) (updated (is_node i) (with_bytes []) ns))) e ∙ ap (λ (ms : List Node). n ∷ ms) rest

-- other bytes were put back
module _ (i : Id) (target : ℕ) (bytes : List ℕ) (at : Moment) where
  abbrev put : List ℕ → List Node → List Node
  put xs ms = updated (is_node i) (with_names_step at) (updated (is_node i) (with_bytes (written target bytes xs)) ms)

  put_in : (n : Node) (ns ms : List Node) (o : Option Node) (b : Bool) → is_node i n ≡ b → put (bytes_in o) ms ≡ updated (is_node i) (with_written target bytes at) ns → put (bytes_in (cond b (Some n) o)) (cond b (with_bytes [] n ∷ ns) (n ∷ ms)) ≡ cond b (with_written target bytes at n ∷ ns) (n ∷ updated (is_node i) (with_written target bytes at) ns)
  put_in n ns ms o true e rest =
      ap (λ (b : Bool). updated (is_node i) (with_names_step at) (cond b (with_bytes (written target bytes n.bytes) n ∷ ns) (with_bytes [] n ∷ updated (is_node i) (with_bytes (written target bytes n.bytes)) ns))) e
      ∙ ap (λ (b : Bool). cond b (with_written target bytes at n ∷ ns) (with_bytes (written target bytes n.bytes) n ∷ updated (is_node i) (with_names_step at) ns)) e
  put_in n ns ms o false e rest =
      ap (λ (b : Bool). updated (is_node i) (with_names_step at) (cond b (with_bytes (written target bytes (bytes_in o)) n ∷ ms) (n ∷ updated (is_node i) (with_bytes (written target bytes (bytes_in o))) ms))) e
      ∙ ap (λ (b : Bool). cond b (with_names_step at n ∷ updated (is_node i) (with_bytes (written target bytes (bytes_in o))) ms) (n ∷ put (bytes_in o) ms)) e
      ∙ ap (λ (xs : List Node). n ∷ xs) rest

  pub put_written : (ns : List Node) → put (bytes_in (node_at ns i)) (updated (is_node i) (with_bytes []) ns) ≡ updated (is_node i) (with_written target bytes at) ns
  put_written [] = refl
  put_written (n ∷ ns) = put_in n ns (updated (is_node i) (with_bytes []) ns) (node_at ns i) (is_node i n) refl (put_written ns)

-- what holds, holds after an error
pub on_err : {T E : Type 0} (r : Result T E) (P : Type 0) → P → OnErr r P
on_err (Ok x) P p = tt
on_err (Err e) P p = p
