-- READ of a file that is held.
use Rattle.std.proofs.Common.{◌≡◌, refl, ap, ◌∙◌, ℕ, Bool, ◌+◌, ◌++◌, List, take, append_assoc, Option, None, Result, Ok, Err}
use Rattle.std.specs.Prelude.{min, length, nat_le, OnOk}
use Rattle.lnfs_xdr.specs.Format.{padding}
use Rattle.lnfs_xdr.specs.Canon.{word, flag, padded, opaque, zeros}
use Rattle.lnfs_arguments.specs.Numbers.{op_read}
use Rattle.lnfs_results.specs.declared.types.OpResult.{OpResult}
use Rattle.lnfs_results.specs.declared.types.OpResult.TheVariants as results
use Rattle.lnfs_results.specs.declared.limits.TheConstants.{MOST_DATA}
use Rattle.lnfs_results.specs.Texts.{fields_text, result_text}
use Rattle.lnfs_world.specs.World.{Kind, File, Directory, SymbolicLink, Node, World}
use Rattle.lnfs_world.specs.Change.{apply_all}
use Rattle.lnfs_world.specs.Effects.{read_at}
use Rattle.lnfs_world.specs.Outcome.{Site, Place}
use Rattle.lnfs_operations.specs.StateIds.{Reading}
use Rattle.lnfs_operations.specs.Accessed.{accessed}
use Rattle.lnfs_operations.specs.Read.{Arguments, Data, read}
use Rattle.lnfs_tree.specs.Rows.{Rows, id_of, of_file, on_file, file_found}
use Rattle.lnfs_open.specs.Lists.{Lists}
use Rattle.lnfs_operations.specs.Chain.{done}
use Rattle.lnfs_nodes.specs.Trees.{held_in, Holds, IsHeld}
use Rattle.lnfs_nodes.specs.Writes.{Writes}
use Rattle.lnfs_nodes.specs.declared.held.Held.{Held}
use Rattle.lnfs_files.specs.Worlds.{with_files}
use Rattle.lnfs_files.specs.Tests.{passed, refusal_in}
use Rattle.lnfs_files.specs.Uses.{where_current_usable}
use Rattle.lnfs_nodes.proofs.Written.{result_written}
use Rattle.lnfs_files.proofs.Uses.{used}

of_one : (kind : Kind) (mine content : List ℕ) → Ok content ≡ of_file {A = List ℕ} kind (Ok mine) → content ≡ mine
of_one File mine content e = cc
of_one Directory mine content e = cc
of_one SymbolicLink mine content e = cc

-- the data of a file that is held
held_data : (t : Rows) (n : Node) (h : Held) (content : List ℕ) → Holds t n h → Ok content ≡ file_found t (id_of h.id) → content ≡ n.inner.content
held_data t n h content holds e = of_one n.kind n.inner.content content (e ∙ ap (file_found t) holds.id ∙ ap (λ (x : Option Node). on_file x (λ n. Ok n.inner.content)) holds.node_is)

abbrev told : Data → OpResult
told d = results.Read d.eof d.content

abbrev data_of : (offset count : ℕ) → (content : List ℕ) → Data
data_of offset count content = record { content = read_at offset count content; eof = nat_le (length content) (offset + length (read_at offset count content)) }

pub file_read : (site : Site) (at : Place) (rest : World) (t u : Rows) (s : Lists) (args : Arguments) (h : Held) (content old new : List ℕ) (count : ℕ)
    → IsHeld t (held_in t.nodes at.current) (Ok h)
    → None ≡ refusal_in (where_current_usable site at (with_files rest t s) args.id Reading (λ n. passed at))
    → Ok content ≡ file_found t (id_of h.id)
    → count ≡ min args.count MOST_DATA
    → new ≡ old ++ result_text (told (data_of args.offset count content))
    → ((n : Node) → Holds t n h → with_files rest u s ≡ apply_all (accessed at n) (with_files rest t s))
    → Writes old new told at (with_files rest t s) (with_files rest u s) (read site args at (with_files rest t s)) (Ok tt)
file_read site at rest t u s args h content old new count held usable is few written touched =
    used site at rest t s args.id Reading (λ n. done at (data_of args.offset (min args.count MOST_DATA) n.inner.content) (accessed at n))
    (λ o. Writes old new told at (with_files rest t s) (with_files rest u s) o (Ok tt)) h held usable (λ n holds. record {
      place = refl;
      world = touched n holds;
      wrote = written ∙ ap (λ (c : ℕ). old ++ result_text (told (data_of args.offset c content))) few
          ∙ ap (λ (d : List ℕ). old ++ result_text (told (data_of args.offset (min args.count MOST_DATA) d))) (held_data t n h content holds is);
    })

-- ---- the result, as it is written

regroup : (b f l v pad : List ℕ) → (((b ++ f) ++ l) ++ v) ++ pad ≡ b ++ (f ++ (l ++ (v ++ pad)))
regroup b f l v pad = simp (append_assoc)

fields_written : (eof : Bool) (v b c d e new : List ℕ) → c ≡ b ++ flag eof → d ≡ c ++ word (length v) → e ≡ d ++ v → new ≡ e ++ take (padding (length v)) zeros → new ≡ b ++ fields_text (results.Read eof v)
unfolding fields_text opaque padded
fields_written eof v b c d e new is_eof counted copied end =
    end ∙ ap (λ (x : List ℕ). x ++ take (padding (length v)) zeros) (copied ∙ ap (λ (x : List ℕ). x ++ v) (counted ∙ ap (λ (x : List ℕ). x ++ word (length v)) is_eof))
    ∙ regroup b (flag eof) (word (length v)) v (take (padding (length v)) zeros)

pub read_written : (eof : Bool) (v old a b c d e new : List ℕ) → a ≡ old ++ word op_read → b ≡ a ++ word 0 → c ≡ b ++ flag eof → d ≡ c ++ word (length v) → e ≡ d ++ v → new ≡ e ++ take (padding (length v)) zeros
    → new ≡ old ++ result_text (results.Read eof v)
read_written eof v old a b c d e new number status is_eof counted copied end =
    result_written (results.Read eof v) old a b new number status (fields_written eof v b c d e new is_eof counted copied end) refl

pub on_ok : {A E : Type 0} {P Q : Type 0} (r : Result A E) → (P → Q) → OnOk r P → OnOk r Q
on_ok (Ok a) f x = f x
on_ok (Err e) f x = x
