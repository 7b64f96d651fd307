-- Changes of nodes and names alone, on a world with the rows of a tree.
use Rattle.std.proofs.Common.{◌≡◌, refl, ap, sym, ◌∙◌, Bool, true, false, List, [], ◌∷◌, ◌++◌, Result, Ok, Err, arith}
use Rattle.std.specs.List.{list_all}
use Rattle.std.proofs.lemmas.Bool.{false≢true}
use Rattle.lnfs_world.specs.World.{World}
use Rattle.lnfs_world.specs.Change.{Change, AddClient, SetClient, DropClient, AddSession, SetSession, DropSession, AddContext, DropContext, Make, Touch, Relabel, Link, Unlink, Drop, Move, AddOpen, SetOpen, EndOpen, apply, apply_all}
use Rattle.lnfs_tree.specs.declared.node.TreeError.{TreeError}
use Rattle.lnfs_tree.specs.Rows.{Rows, rows_of}
use Rattle.lnfs_tree.specs.Places.{world_of}
use Rattle.lnfs_tree.specs.Changed.{Doing, ran}
use Rattle.lnfs_nodes.specs.Trees.{with_tree}
use Rattle.lnfs_nodes.specs.Acts.{without_opens_of}

-- whether a change is of nodes and names
abbrev pub is_of_nodes : Change → Bool
is_of_nodes (AddClient row) = false
is_of_nodes (SetClient row) = false
is_of_nodes (DropClient client) = false
is_of_nodes (AddSession row) = false
is_of_nodes (SetSession row) = false
is_of_nodes (DropSession session) = false
is_of_nodes (AddContext row) = false
is_of_nodes (DropContext context) = false
is_of_nodes (Make node entry) = true
is_of_nodes (Touch node inner) = true
is_of_nodes (Relabel node label inner) = true
is_of_nodes (Link entry) = true
is_of_nodes (Unlink entry) = true
is_of_nodes (Drop entry) = true
is_of_nodes (Move entry other) = true
is_of_nodes (AddOpen row) = false
is_of_nodes (SetOpen row) = false
is_of_nodes (EndOpen opening) = false

-- whether what a tree tells is of nodes and names
abbrev pub are_of_nodes : {A : Type 0} → Result (Doing A) TreeError → Bool
are_of_nodes (Ok doing) = list_all is_of_nodes doing.changes
are_of_nodes (Err why) = true

-- What such a change leaves of a world's other rows: a node that is dropped takes its opens with it.
abbrev pub left_by : Change → World → World
left_by (Drop entry) rest = without_opens_of entry.node rest
left_by c rest = rest

abbrev pub left_by_all : List Change → World → World
left_by_all [] rest = rest
left_by_all (c ∷ cs) rest = left_by_all cs (left_by c rest)

pub left_by_both : (a b : List Change) (rest : World) → left_by_all (a ++ b) rest ≡ left_by_all b (left_by_all a rest)
left_by_both [] b rest = refl
left_by_both (c ∷ a) b rest = left_by_both a b (left_by c rest)

-- a change on the rows alone
step_back : (c : Change) (t : Rows) → is_of_nodes c ≡ true → apply c (world_of t) ≡ world_of (rows_of (apply c (world_of t)))
step_back (AddClient row) t of = absurd (false≢true of)
step_back (SetClient row) t of = absurd (false≢true of)
step_back (DropClient client) t of = absurd (false≢true of)
step_back (AddSession row) t of = absurd (false≢true of)
step_back (SetSession row) t of = absurd (false≢true of)
step_back (DropSession session) t of = absurd (false≢true of)
step_back (AddContext row) t of = absurd (false≢true of)
step_back (DropContext context) t of = absurd (false≢true of)
step_back (Make node entry) t of = refl
step_back (Touch node inner) t of = refl
step_back (Relabel node label inner) t of = refl
step_back (Link entry) t of = refl
step_back (Unlink entry) t of = refl
step_back (Drop entry) t of = refl
step_back (Move entry other) t of = refl
step_back (AddOpen row) t of = absurd (false≢true of)
step_back (SetOpen row) t of = absurd (false≢true of)
step_back (EndOpen opening) t of = absurd (false≢true of)

one_step : (c : Change) (rest : World) (t : Rows) → is_of_nodes c ≡ true → apply c (with_tree rest t) ≡ with_tree (left_by c rest) (rows_of (apply c (world_of t)))
one_step (AddClient row) rest t of = absurd (false≢true of)
one_step (SetClient row) rest t of = absurd (false≢true of)
one_step (DropClient client) rest t of = absurd (false≢true of)
one_step (AddSession row) rest t of = absurd (false≢true of)
one_step (SetSession row) rest t of = absurd (false≢true of)
one_step (DropSession session) rest t of = absurd (false≢true of)
one_step (AddContext row) rest t of = absurd (false≢true of)
one_step (DropContext context) rest t of = absurd (false≢true of)
one_step (Make node entry) rest t of = refl
one_step (Touch node inner) rest t of = refl
one_step (Relabel node label inner) rest t of = refl
one_step (Link entry) rest t of = refl
one_step (Unlink entry) rest t of = refl
one_step (Drop entry) rest t of = refl
one_step (Move entry other) rest t of = refl
one_step (AddOpen row) rest t of = absurd (false≢true of)
one_step (SetOpen row) rest t of = absurd (false≢true of)
one_step (EndOpen opening) rest t of = absurd (false≢true of)

pub all_steps : (cs : List Change) (rest : World) (t : Rows) → list_all is_of_nodes cs ≡ true → apply_all cs (with_tree rest t) ≡ with_tree (left_by_all cs rest) (ran cs t)
all_steps [] rest t of = refl
all_steps (c ∷ cs) rest t of =
    let both : (is_of_nodes c ≡ true) × (list_all is_of_nodes cs ≡ true) = (grind arith, grind arith) in
    ap (apply_all cs) (one_step c rest t both.0) ∙ all_steps cs (left_by c rest) (rows_of (apply c (world_of t))) both.1
    ∙ ap (λ (w : World). with_tree (left_by_all cs (left_by c rest)) (rows_of (apply_all cs w))) (sym (step_back c t both.0))
