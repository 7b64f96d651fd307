-- The data of a file, looked for and set.
use Rattle.std.proofs.Common.{◌≡◌, ◌+◌, ◌≤◌, ℕ, Bool, true, false, cond, List, [], ◌∷◌, length, drop, Option, Some, None, Ok, Err, map, refl, sym, ◌∙◌, ap, subst, arith, length-drop}
use Rattle.std.specs.Prelude.{Result, nat_le}
use Rattle.std.specs.Option.{option_map}
use Rattle.std.proofs.lemmas.Bool.Decides.{nat_tests}
use Rattle.std.proofs.lemmas.List.{length-take}
use Rattle.lnfs_calipso.specs.declared.Level.{Level}
use Rattle.lnfs_types.specs.declared.event.Moment.{Moment}
use Rattle.lnfs_world.specs.Rows.{updated}
use Rattle.lnfs_world.specs.World.{Id, Kind, File, Directory, SymbolicLink, Node as NodeRow, same_id}
use Rattle.lnfs_world.specs.World as world
use Rattle.lnfs_world.specs.Effects.{sized, written, size_written, read_at, data_changed}
use Rattle.lnfs_world.specs.declared.numbers.TheConstants.{MOST_FILE}
use Rattle.lnfs_tree.specs.declared.node.TreeError.{TreeError}
use Rattle.lnfs_tree.specs.declared.node.TreeError.TheVariants.{Stale, NotDir, NoEnt, IsDir, Exist, NotEmpty, Inval, MLink, FBig, Spent, Memory}
use Rattle.lnfs_tree.specs.declared.store.Node.{Node}
use Rattle.lnfs_tree.specs.Rows.{Rows, id_of, kind_of, of_file, on_file, file_found, read_found, Gives}
use Rattle.lnfs_tree.specs.Held.{is_node, node_at, file_in, with_names_step, bytes_in, with_size, with_written, with_zeroed, with_moved}
use Rattle.lnfs_tree.specs.Flat.{row_of, rows_in, content_of, IsTree}
use Rattle.lnfs_tree.specs.Changed.{test, sets_data, set_size_of, writes, write_of, zero_of, Doing, copy_of, move_of}
use Rattle.lnfs_content.specs.Sparse.{zeroed, has_region, lie_apart}
use Rattle.lnfs_tree.proofs.Flat.{node_at-rows, found_id}
use Rattle.lnfs_tree.proofs.Touched.{IsPlain, tree-set, rows_in-set}
use Rattle.lnfs_tree.proofs.Chains.{done, refused, row_found}
use Rattle.lnfs_tree.proofs.Settings.{Sets}

-- ---- a file that is looked for
module _ (ns : List Node) (i : Id) where
  pub file_there : (n : Node) → Ok n ≡ file_in (node_at ns i) → (node_at ns i ≡ Some n) × (kind_of n.kind ≡ File)
  file_there n is = at (node_at ns i) is
    where
      kind : (m : Node) (k : Kind) → kind_of m.kind ≡ k → Ok n ≡ of_file k (Ok m) → (Some m ≡ Some n) × (kind_of n.kind ≡ File)
      kind m File is e = let same : m ≡ n = cc in (ap Some same, subst (λ (x : Node). kind_of x.kind ≡ File) same is)
      kind m Directory is e = absurd (cc)
      kind m SymbolicLink is e = absurd (cc)

      at : (o : Option Node) → Ok n ≡ file_in o → (o ≡ Some n) × (kind_of n.kind ≡ File)
      at None e = absurd (cc)
      at (Some m) e = kind m (kind_of m.kind) refl e

  module _ {A : Type 0} (look : NodeRow → Result A TreeError) where
    pub no_file : (why : TreeError) → Err why ≡ file_in (node_at ns i) → on_file (world.node_at (map row_of ns) i) look ≡ Err why
    no_file why is = ap (λ (o : Option NodeRow). on_file o look) (node_at-rows i ns) ∙ at (node_at ns i) is
      where
        kind : (m : Node) (k : Kind) → Err why ≡ of_file k (Ok m) → of_file k (look (row_of m)) ≡ Err why
        kind m File e = absurd (cc)
        kind m Directory e = let same : IsDir ≡ why = cc in ap (λ (w : TreeError). Err w) same
        kind m SymbolicLink e = let same : Inval ≡ why = cc in ap (λ (w : TreeError). Err w) same

        at : (o : Option Node) → Err why ≡ file_in o → on_file (option_map row_of o) look ≡ Err why
        at None e = let same : Stale ≡ why = cc in ap (λ (w : TreeError). Err w) same
        at (Some m) e = kind m (kind_of m.kind) e

    pub a_file : (n : Node) → Ok n ≡ file_in (node_at ns i) → on_file (world.node_at (map row_of ns) i) look ≡ look (row_of n)
    a_file n is =
        ap (λ (o : Option NodeRow). on_file o look) (row_found ns i n (file_there n is).0)
        ∙ ap (λ (k : Kind). of_file k (look (row_of n))) (file_there n is).1

-- its row has its bytes
pub file_content : (ns : List Node) (i : Id) (n : Node) → Ok n ≡ file_in (node_at ns i) → (row_of n).inner.content ≡ n.bytes
file_content ns i n is = ap (λ (k : Kind). content_of k n.bytes n.text) (file_there ns i n is).1

-- ---- what is told of its data
module _ (i : Id) (ns : List Node) (lasts : List (Level × ℕ)) (t : Rows) (view : rows_in ns lasts ≡ t) where
  pub content_of_none : (why : TreeError) → Err why ≡ file_in (node_at ns i) → file_found t i ≡ Err why
  content_of_none why is = ap (λ (t : Rows). file_found t i) (sym view) ∙ no_file ns i _ why is

  pub content_of_file : (n : Node) → Ok n ≡ file_in (node_at ns i) → Ok n.bytes ≡ file_found t i
  content_of_file n is = sym (ap (λ (t : Rows). file_found t i) (sym view) ∙ a_file ns i _ n is ∙ ap (λ (content : List ℕ). Ok content) (file_content ns i n is))

  module _ (offset count : ℕ) where
    pub read_of_none : (why : TreeError) → Err why ≡ file_in (node_at ns i) → read_found t i offset count ≡ Err why
    read_of_none why is = ap (λ (t : Rows). read_found t i offset count) (sym view) ∙ no_file ns i _ why is

    pub read_of_file : (n : Node) → Ok n ≡ file_in (node_at ns i) → Ok (read_at offset count n.bytes) ≡ read_found t i offset count
    read_of_file n is = sym (ap (λ (t : Rows). read_found t i offset count) (sym view) ∙ a_file ns i _ n is ∙ ap (λ (content : List ℕ). Ok (read_at offset count content)) (file_content ns i n is))

pub gives_refusal : {A B : Type 0} (seen : A → B) (told : Result B TreeError) (why : TreeError) → told ≡ Err why → Gives seen told (Err why)
gives_refusal seen told Stale is = sym is
gives_refusal seen told NotDir is = sym is
gives_refusal seen told NoEnt is = sym is
gives_refusal seen told IsDir is = sym is
gives_refusal seen told Exist is = sym is
gives_refusal seen told NotEmpty is = sym is
gives_refusal seen told Inval is = sym is
gives_refusal seen told MLink is = sym is
gives_refusal seen told FBig is = sym is
gives_refusal seen told Spent is = sym is
gives_refusal seen told Memory is = tt

-- ---- data that is set

abbrev with_bytes : (List ℕ → List ℕ) → Moment → Node → Node
with_bytes f at n = with_names_step at (record n { bytes = f n.bytes })

plain : (f : List ℕ → List ℕ) (at : Moment) → IsPlain (with_bytes f at)
plain f at = record { id = λ n. refl; kind = λ n. refl; names = λ n. refl; links = λ n. refl; parent = λ n. refl }

module _ (f : List ℕ → List ℕ) (at : Moment) (i : Id) (ns now : List Node) (set : now ≡ updated (is_node i) (with_bytes f at) ns) where
  tree_set : IsTree ns → IsTree now
  tree_set tree = subst IsTree (sym set) (tree-set (with_bytes f at) (plain f at) i ns tree)

  module _ (lasts : List (Level × ℕ)) (n : Node) (file : Ok n ≡ file_in (node_at ns i)) where
    abbrev set_row : List ℕ → NodeRow → NodeRow
    set_row content r = record r { inner = data_changed at content (row_of n).inner }

    row_set : row_of (with_bytes f at n) ≡ set_row (f (row_of n).inner.content) (row_of n)
    row_set = ap (λ (content : List ℕ). set_row content (row_of n)) (ap (λ (k : Kind). content_of k (f n.bytes) n.text) (file_there ns i n file).1 ∙ ap f (sym (file_content ns i n file)))

    rows_set : rows_in now lasts ≡ record (rows_in ns lasts) { nodes = updated (λ r. same_id (id_of n.id) r.id) (set_row (f (row_of n).inner.content)) (map row_of ns) }
    rows_set =
        ap (λ (ns : List Node). rows_in ns lasts) set
        ∙ rows_in-set (with_bytes f at) (plain f at) i (set_row (f (row_of n).inner.content)) ns lasts n (file_there ns i n file).0 row_set
        ∙ ap (λ (j : Id). record (rows_in ns lasts) { nodes = updated (λ r. same_id j r.id) (set_row (f (row_of n).inner.content)) (map row_of ns) }) (found_id i ns n (file_there ns i n file).0)

pub size_tree : (size : ℕ) (at : Moment) (i : Id) (ns now : List Node) → now ≡ updated (is_node i) (with_size size at) ns → IsTree ns → IsTree now
size_tree size at = tree_set (sized size) at

pub written_tree : (offset : ℕ) (bytes : List ℕ) (at : Moment) (i : Id) (ns now : List Node) → now ≡ updated (is_node i) (with_written offset bytes at) ns → IsTree ns → IsTree now
written_tree offset bytes at = tree_set (written offset bytes) at

pub zeroed_tree : (first end : ℕ) (at : Moment) (i : Id) (ns now : List Node) → now ≡ updated (is_node i) (with_zeroed first end at) ns → IsTree ns → IsTree now
zeroed_tree first end at = tree_set (zeroed first end) at

pub moved_tree : (from to count : ℕ) (at : Moment) (i : Id) (ns now : List Node) → now ≡ updated (is_node i) (with_moved from to count at) ns → IsTree ns → IsTree now
moved_tree from to count at = tree_set (λ content. written to (read_at from count content) content) at

module _ (at : Moment) (i : Id) (ns : List Node) (lasts : List (Level × ℕ)) (t : Rows) (view : rows_in ns lasts ≡ t) where
  -- ---- a size
  module _ (size : ℕ) where
    pub size_no_file : (why : TreeError) → Err why ≡ file_in (node_at ns i) → Sets (set_size_of t i size at) t t (Err why)
    size_no_file why is = subst (λ (t : Rows). Sets (set_size_of t i size at) t t (Err why)) view (refused (λ u. u) (rows_in ns lasts) why (set_size_of (rows_in ns lasts) i size at) (no_file ns i _ why is))

    module _ (n : Node) (file : Ok n ≡ file_in (node_at ns i)) where
      told : (b : Bool) → nat_le size MOST_FILE ≡ b → set_size_of (rows_in ns lasts) i size at ≡ test b FBig (Ok (sets_data at (row_of n) (sized size (row_of n).inner.content)))
      told b is = a_file ns i _ n file ∙ ap (λ (b : Bool). test b FBig (Ok (sets_data at (row_of n) (sized size (row_of n).inner.content)))) is

      pub size_too_big : MOST_FILE + 1 ≤ size → Sets (set_size_of t i size at) t t (Err FBig)
      size_too_big big = subst (λ (t : Rows). Sets (set_size_of t i size at) t t (Err FBig)) view (refused (λ u. u) (rows_in ns lasts) FBig (set_size_of (rows_in ns lasts) i size at) (told false (grind (arith, nat_tests))))

      pub size_set : (now : List Node) → now ≡ updated (is_node i) (with_size size at) ns → size ≤ MOST_FILE → Sets (set_size_of t i size at) t (rows_in now lasts) (Ok tt)
      size_set now set fits = subst (λ (t : Rows). Sets (set_size_of t i size at) t (rows_in now lasts) (Ok tt)) view (done (λ u. u) (rows_in ns lasts) (rows_in now lasts) tt (set_size_of (rows_in ns lasts) i size at) _ (told true (grind (arith, nat_tests))) refl (rows_set (sized size) at i ns now set lasts n file))

  -- ---- bytes that are written
  module _ (offset : ℕ) (bytes : List ℕ) where
    pub write_no_file : (why : TreeError) → Err why ≡ file_in (node_at ns i) → Sets (write_of t i offset bytes at) t t (Err why)
    write_no_file why is = subst (λ (t : Rows). Sets (write_of t i offset bytes at) t t (Err why)) view (refused (λ u. u) (rows_in ns lasts) why (write_of (rows_in ns lasts) i offset bytes at) (no_file ns i _ why is))

    module _ (n : Node) (file : Ok n ≡ file_in (node_at ns i)) where
      written_told : (b : Bool) → b ≡ nat_le (size_written offset bytes n.bytes) MOST_FILE → write_of (rows_in ns lasts) i offset bytes at ≡ test b FBig (Ok (writes at (row_of n) offset bytes))
      written_told b is = a_file ns i _ n file ∙ ap (λ (b : Bool). test b FBig (Ok (writes at (row_of n) offset bytes))) (ap (λ (content : List ℕ). nat_le (size_written offset bytes content) MOST_FILE) (file_content ns i n file) ∙ sym is)

      pub write_too_big : false ≡ nat_le (size_written offset bytes n.bytes) MOST_FILE → Sets (write_of t i offset bytes at) t t (Err FBig)
      write_too_big is = subst (λ (t : Rows). Sets (write_of t i offset bytes at) t t (Err FBig)) view (refused (λ u. u) (rows_in ns lasts) FBig (write_of (rows_in ns lasts) i offset bytes at) (written_told false is))

      module _ (fits : true ≡ nat_le (size_written offset bytes n.bytes) MOST_FILE) where
        pub write_none : length bytes ≡ 0 → Sets (write_of t i offset bytes at) t t (Ok tt)
        write_none none = subst (λ (t : Rows). Sets (write_of t i offset bytes at) t t (Ok tt)) view (done (λ u. u) (rows_in ns lasts) (rows_in ns lasts) tt (write_of (rows_in ns lasts) i offset bytes at) (record { answer = tt; changes = [] }) (written_told true fits ∙ nothing bytes none) refl refl)
          where
            nothing : (xs : List ℕ) → length xs ≡ 0 → test true FBig (Ok (writes at (row_of n) offset xs)) ≡ Ok (record { answer = tt; changes = [] })
            nothing [] e = refl
            nothing (x ∷ xs) e = absurd (omega arith)

        pub write_set : (now : List Node) → now ≡ updated (is_node i) (with_written offset bytes at) ns → 1 ≤ length bytes → Sets (write_of t i offset bytes at) t (rows_in now lasts) (Ok tt)
        write_set now set some = subst (λ (t : Rows). Sets (write_of t i offset bytes at) t (rows_in now lasts) (Ok tt)) view (done (λ u. u) (rows_in ns lasts) (rows_in now lasts) tt (write_of (rows_in ns lasts) i offset bytes at) (sets_data at (row_of n) (written offset bytes (row_of n).inner.content)) (written_told true fits ∙ something bytes some) refl (rows_set (written offset bytes) at i ns now set lasts n file))
          where
            something : (xs : List ℕ) → 1 ≤ length xs → test true FBig (Ok (writes at (row_of n) offset xs)) ≡ Ok (sets_data at (row_of n) (written offset xs (row_of n).inner.content))
            something [] e = absurd (omega arith)
            something (x ∷ xs) e = refl

  -- ---- a region that is cleared
  module _ (first end : ℕ) where
    pub zero_no_file : (why : TreeError) → Err why ≡ file_in (node_at ns i) → Sets (zero_of t i first end at) t t (Err why)
    zero_no_file why is = subst (λ (t : Rows). Sets (zero_of t i first end at) t t (Err why)) view (refused (λ u. u) (rows_in ns lasts) why (zero_of (rows_in ns lasts) i first end at) (no_file ns i _ why is))

    module _ (n : Node) (file : Ok n ≡ file_in (node_at ns i)) where
      zeroed_told : (b : Bool) → b ≡ has_region first end n.bytes → zero_of (rows_in ns lasts) i first end at ≡ Ok (cond b (sets_data at (row_of n) (zeroed first end (row_of n).inner.content)) (record { answer = tt; changes = [] }))
      zeroed_told b is = a_file ns i _ n file ∙ ap (λ (b : Bool). Ok (cond b (sets_data at (row_of n) (zeroed first end (row_of n).inner.content)) (record { answer = tt; changes = [] }))) (ap (has_region first end) (file_content ns i n file) ∙ sym is)

      pub zero_none : false ≡ has_region first end n.bytes → Sets (zero_of t i first end at) t t (Ok tt)
      zero_none none = subst (λ (t : Rows). Sets (zero_of t i first end at) t t (Ok tt)) view (done (λ u. u) (rows_in ns lasts) (rows_in ns lasts) tt (zero_of (rows_in ns lasts) i first end at) (record { answer = tt; changes = [] }) (zeroed_told false none) refl refl)

      pub zero_set : (now : List Node) → now ≡ updated (is_node i) (with_zeroed first end at) ns → true ≡ has_region first end n.bytes → Sets (zero_of t i first end at) t (rows_in now lasts) (Ok tt)
      zero_set now set some = subst (λ (t : Rows). Sets (zero_of t i first end at) t (rows_in now lasts) (Ok tt)) view (done (λ u. u) (rows_in ns lasts) (rows_in now lasts) tt (zero_of (rows_in ns lasts) i first end at) (sets_data at (row_of n) (zeroed first end (row_of n).inner.content)) (zeroed_told true some) refl (rows_set (zeroed first end) at i ns now set lasts n file))

  -- ---- bytes that are copied from another file
  module _ (from : Id) (source target count : ℕ) where
    pub copy_no_source : (why : TreeError) → Err why ≡ file_in (node_at ns from) → Sets (copy_of t from i source target count at) t t (Err why)
    copy_no_source why is = subst (λ (t : Rows). Sets (copy_of t from i source target count at) t t (Err why)) view (refused (λ u. u) (rows_in ns lasts) why (copy_of (rows_in ns lasts) from i source target count at) (no_file ns from _ why is))

    module _ (a : Node) (other : Ok a ≡ file_in (node_at ns from)) where
      abbrev bytes : List ℕ
      bytes = read_at source count a.bytes

      abbrev rest : List ℕ → NodeRow → Result (Doing (Unit {0})) TreeError
      rest content n = test (nat_le (source + count) (length content)) Inval (test (nat_le (size_written target (read_at source count content) n.inner.content) MOST_FILE) FBig (Ok (writes at n target (read_at source count content))))

      source_told : copy_of (rows_in ns lasts) from i source target count at ≡ on_file (world.node_at (map row_of ns) i) (rest a.bytes)
      source_told = a_file ns from _ a other ∙ ap (λ (content : List ℕ). on_file (world.node_at (map row_of ns) i) (rest content)) (file_content ns from a other)

      pub copy_no_file : (why : TreeError) → Err why ≡ file_in (node_at ns i) → Sets (copy_of t from i source target count at) t t (Err why)
      copy_no_file why is = subst (λ (t : Rows). Sets (copy_of t from i source target count at) t t (Err why)) view (refused (λ u. u) (rows_in ns lasts) why (copy_of (rows_in ns lasts) from i source target count at) (source_told ∙ no_file ns i (rest a.bytes) why is))

      module _ (n : Node) (file : Ok n ≡ file_in (node_at ns i)) where
        copied_told : (b c : Bool) → b ≡ nat_le (source + count) (length a.bytes) → c ≡ nat_le (size_written target bytes n.bytes) MOST_FILE → copy_of (rows_in ns lasts) from i source target count at ≡ test b Inval (test c FBig (Ok (writes at (row_of n) target bytes)))
        copied_told b c is fits =
            source_told ∙ a_file ns i (rest a.bytes) n file
            ∙ ap (λ (b : Bool). test b Inval (test (nat_le (size_written target bytes (row_of n).inner.content) MOST_FILE) FBig (Ok (writes at (row_of n) target bytes)))) (sym is)
            ∙ ap (λ (c : Bool). test b Inval (test c FBig (Ok (writes at (row_of n) target bytes)))) (ap (λ (content : List ℕ). nat_le (size_written target bytes content) MOST_FILE) (file_content ns i n file) ∙ sym fits)

        pub copy_past : false ≡ nat_le (source + count) (length a.bytes) → Sets (copy_of t from i source target count at) t t (Err Inval)
        copy_past is = subst (λ (t : Rows). Sets (copy_of t from i source target count at) t t (Err Inval)) view (refused (λ u. u) (rows_in ns lasts) Inval (copy_of (rows_in ns lasts) from i source target count at) (copied_told false _ is refl))

        module _ (there : true ≡ nat_le (source + count) (length a.bytes)) where
          pub copy_too_big : false ≡ nat_le (size_written target bytes n.bytes) MOST_FILE → Sets (copy_of t from i source target count at) t t (Err FBig)
          copy_too_big is = subst (λ (t : Rows). Sets (copy_of t from i source target count at) t t (Err FBig)) view (refused (λ u. u) (rows_in ns lasts) FBig (copy_of (rows_in ns lasts) from i source target count at) (copied_told true false there is))

          long : length bytes ≡ count
          long =
              let le : source + count ≤ length a.bytes = grind (arith, nat_tests) in
              omega (arith, length-take count (drop source a.bytes), length-drop source a.bytes, le)

          module _ (fits : true ≡ nat_le (size_written target bytes n.bytes) MOST_FILE) where
            pub copy_none : count ≡ 0 → Sets (copy_of t from i source target count at) t t (Ok tt)
            copy_none none = subst (λ (t : Rows). Sets (copy_of t from i source target count at) t t (Ok tt)) view (done (λ u. u) (rows_in ns lasts) (rows_in ns lasts) tt (copy_of (rows_in ns lasts) from i source target count at) (record { answer = tt; changes = [] }) (copied_told true true there fits ∙ nothing bytes (omega (arith, long, none))) refl refl)
              where
                nothing : (xs : List ℕ) → length xs ≡ 0 → test true Inval (test true FBig (Ok (writes at (row_of n) target xs))) ≡ Ok (record { answer = tt; changes = [] })
                nothing [] e = refl
                nothing (x ∷ xs) e = absurd (omega arith)

            pub copy_fits : 1 ≤ count → target + count ≤ MOST_FILE
            copy_fits some = omega (arith, long, room bytes (omega (arith, long, some)) fits)
              where
                room : (xs : List ℕ) → 1 ≤ length xs → true ≡ nat_le (size_written target xs n.bytes) MOST_FILE → target + length xs ≤ MOST_FILE
                room [] e is = absurd (omega arith)
                room (x ∷ xs) e is = grind (arith, nat_tests)

            pub copy_set : (now : List Node) → now ≡ updated (is_node i) (with_written target (read_at source count (bytes_in (node_at ns from))) at) ns → 1 ≤ count → Sets (copy_of t from i source target count at) t (rows_in now lasts) (Ok tt)
            copy_set now put some = let set : now ≡ updated (is_node i) (with_written target bytes at) ns = put ∙ ap (λ (xs : List ℕ). updated (is_node i) (with_written target (read_at source count xs) at) ns) (ap bytes_in (file_there ns from a other).0) in subst (λ (t : Rows). Sets (copy_of t from i source target count at) t (rows_in now lasts) (Ok tt)) view (done (λ u. u) (rows_in ns lasts) (rows_in now lasts) tt (copy_of (rows_in ns lasts) from i source target count at) (sets_data at (row_of n) (written target bytes (row_of n).inner.content)) (copied_told true true there fits ∙ something bytes (omega (arith, long, some))) refl (rows_set (written target bytes) at i ns now set lasts n file))
              where
                something : (xs : List ℕ) → 1 ≤ length xs → test true Inval (test true FBig (Ok (writes at (row_of n) target xs))) ≡ Ok (sets_data at (row_of n) (written target xs (row_of n).inner.content))
                something [] e = absurd (omega arith)
                something (x ∷ xs) e = refl

  -- ---- bytes that are written to another place of the file
  module _ (from to count : ℕ) where
    abbrev move : List ℕ → List ℕ
    move content = written to (read_at from count content) content

    pub move_no_file : (why : TreeError) → Err why ≡ file_in (node_at ns i) → Sets (move_of t i from to count at) t t (Err why)
    move_no_file why is = subst (λ (t : Rows). Sets (move_of t i from to count at) t t (Err why)) view (refused (λ u. u) (rows_in ns lasts) why (move_of (rows_in ns lasts) i from to count at) (no_file ns i _ why is))

    module _ (n : Node) (file : Ok n ≡ file_in (node_at ns i)) where
      moved_told : (a b c : Bool) → a ≡ nat_le (from + count) (length n.bytes) → b ≡ lie_apart from to count → c ≡ nat_le (size_written to (read_at from count n.bytes) n.bytes) MOST_FILE → move_of (rows_in ns lasts) i from to count at ≡ test a Inval (test b Inval (test c FBig (Ok (writes at (row_of n) to (read_at from count (row_of n).inner.content)))))
      moved_told a b c is apart fits =
          a_file ns i _ n file
          ∙ ap (λ (a : Bool). test a Inval (test (lie_apart from to count) Inval (test (nat_le (size_written to (read_at from count (row_of n).inner.content) (row_of n).inner.content) MOST_FILE) FBig (Ok (writes at (row_of n) to (read_at from count (row_of n).inner.content)))))) (ap (λ (content : List ℕ). nat_le (from + count) (length content)) (file_content ns i n file) ∙ sym is)
          ∙ ap (λ (b : Bool). test a Inval (test b Inval (test (nat_le (size_written to (read_at from count (row_of n).inner.content) (row_of n).inner.content) MOST_FILE) FBig (Ok (writes at (row_of n) to (read_at from count (row_of n).inner.content)))))) (sym apart)
          ∙ ap (λ (c : Bool). test a Inval (test b Inval (test c FBig (Ok (writes at (row_of n) to (read_at from count (row_of n).inner.content)))))) (ap (λ (content : List ℕ). nat_le (size_written to (read_at from count content) content) MOST_FILE) (file_content ns i n file) ∙ sym fits)

      pub move_past : false ≡ nat_le (from + count) (length n.bytes) → Sets (move_of t i from to count at) t t (Err Inval)
      move_past is = subst (λ (t : Rows). Sets (move_of t i from to count at) t t (Err Inval)) view (refused (λ u. u) (rows_in ns lasts) Inval (move_of (rows_in ns lasts) i from to count at) (moved_told false _ _ is refl refl))

      module _ (there : true ≡ nat_le (from + count) (length n.bytes)) where
        pub move_onto : false ≡ lie_apart from to count → Sets (move_of t i from to count at) t t (Err Inval)
        move_onto is = subst (λ (t : Rows). Sets (move_of t i from to count at) t t (Err Inval)) view (refused (λ u. u) (rows_in ns lasts) Inval (move_of (rows_in ns lasts) i from to count at) (moved_told true false _ there is refl))

        module _ (apart : true ≡ lie_apart from to count) where
          pub move_too_big : false ≡ nat_le (size_written to (read_at from count n.bytes) n.bytes) MOST_FILE → Sets (move_of t i from to count at) t t (Err FBig)
          move_too_big is = subst (λ (t : Rows). Sets (move_of t i from to count at) t t (Err FBig)) view (refused (λ u. u) (rows_in ns lasts) FBig (move_of (rows_in ns lasts) i from to count at) (moved_told true true false there apart is))

          moved_long : length (read_at from count n.bytes) ≡ count
          moved_long =
              let le : from + count ≤ length n.bytes = grind (arith, nat_tests) in
              omega (arith, length-take count (drop from n.bytes), length-drop from n.bytes, le)

          row_long : length (read_at from count (row_of n).inner.content) ≡ count
          row_long = ap (λ (content : List ℕ). length (read_at from count content)) (file_content ns i n file) ∙ moved_long

          module _ (fits : true ≡ nat_le (size_written to (read_at from count n.bytes) n.bytes) MOST_FILE) where
            pub move_none : count ≡ 0 → Sets (move_of t i from to count at) t t (Ok tt)
            move_none none = subst (λ (t : Rows). Sets (move_of t i from to count at) t t (Ok tt)) view (done (λ u. u) (rows_in ns lasts) (rows_in ns lasts) tt (move_of (rows_in ns lasts) i from to count at) (record { answer = tt; changes = [] }) (moved_told true true true there apart fits ∙ nothing (read_at from count (row_of n).inner.content) (omega (arith, row_long, none))) refl refl)
              where
                nothing : (xs : List ℕ) → length xs ≡ 0 → test true Inval (test true Inval (test true FBig (Ok (writes at (row_of n) to xs)))) ≡ Ok (record { answer = tt; changes = [] })
                nothing [] e = refl
                nothing (x ∷ xs) e = absurd (omega arith)

            pub move_fits : 1 ≤ count → to + count ≤ MOST_FILE
            move_fits some = omega (arith, moved_long, room (read_at from count n.bytes) (omega (arith, moved_long, some)) fits)
              where
                room : (xs : List ℕ) → 1 ≤ length xs → true ≡ nat_le (size_written to xs n.bytes) MOST_FILE → to + length xs ≤ MOST_FILE
                room [] e is = absurd (omega arith)
                room (x ∷ xs) e is = grind (arith, nat_tests)

            pub move_set : (now : List Node) → now ≡ updated (is_node i) (with_moved from to count at) ns → 1 ≤ count → Sets (move_of t i from to count at) t (rows_in now lasts) (Ok tt)
            move_set now set some = subst (λ (t : Rows). Sets (move_of t i from to count at) t (rows_in now lasts) (Ok tt)) view (done (λ u. u) (rows_in ns lasts) (rows_in now lasts) tt (move_of (rows_in ns lasts) i from to count at) (sets_data at (row_of n) (move (row_of n).inner.content)) (moved_told true true true there apart fits ∙ something (read_at from count (row_of n).inner.content) (omega (arith, row_long, some))) refl (rows_set move at i ns now set lasts n file))
              where
                something : (xs : List ℕ) → 1 ≤ length xs → test true Inval (test true Inval (test true FBig (Ok (writes at (row_of n) to xs)))) ≡ Ok (sets_data at (row_of n) (written to xs (row_of n).inner.content))
                something [] e = absurd (omega arith)
                something (x ∷ xs) e = refl
