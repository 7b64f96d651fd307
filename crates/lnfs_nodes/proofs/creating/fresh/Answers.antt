use Rattle.std.proofs.Common.{◌≡◌, ◌∙◌, refl, ap, ℕ, List, [], Option, None}
use Rattle.lnfs_types.specs.declared.event.Moment.{Moment}
use Rattle.lnfs_world.specs.World.{Id, Kind, Stored, Node}
use Rattle.lnfs_operations.specs.Given.{level_or}
use Rattle.lnfs_arguments.specs.declared.types.What.{What}
use Rattle.lnfs_arguments.specs.declared.types.What.TheVariants.{Dir, Symlink}
use Rattle.lnfs_operations.specs.Create.{new_inner, kind_of, text_of}
use Rattle.lnfs_tree.specs.Flat.{content_of}
use Rattle.lnfs_nodes.specs.GivenValues.{given_of}
use Rattle.std.specs.Option.{option_map}
use Rattle.lnfs_nodes.proofs.creating.fresh.Goals as goal

abbrev node : Id → Kind → ℕ → Moment → Option Stored → ℕ → List ℕ → Node
node i kind label moment stored mode content = record { id = i; kind = kind; label = label; verifier = None; inner = new_inner moment stored mode content }

same_node : (i : Id) (moment : Moment) (k k' : Kind) (l l' : ℕ) (s s' : Option Stored) (m m' : ℕ) (c c' : List ℕ) → k ≡ k' → l ≡ l' → s ≡ s' → m ≡ m' → c ≡ c' → node i k l moment s m c ≡ node i k' l' moment s' m' c'
same_node i moment k k' l l' s s' m m' c c' kind label stored mode content =
    ap (λ (x : Kind). node i x l moment s m c) kind
    ∙ ap (λ (x : ℕ). node i k' x moment s m c) label
    ∙ ap (λ (x : Option Stored). node i k' l' moment x m c) stored
    ∙ ap (λ (x : ℕ). node i k' l' moment s' x c) mode
    ∙ ap (λ (x : List ℕ). node i k' l' moment s' m' x) content

-- what a new node holds is its text
content_made : (what : What) → content_of (kind_of what) [] (text_of what) ≡ text_of what
content_made Dir = refl
content_made (Symlink text) = refl

pub returns-clause-node : goal.returns-clause-node
returns-clause-node c = λ d p w holds.
    same_node _ p.moment _ _ _ _ _ _ _ _ _ _
    c.kind_of.ensures
    (c.level_or-label.ensures ∙ ap (λ (l : ℕ). level_or l (option_map given_of c.args.asked.label)) holds.tells.label)
    (c.in_ok-stored.ensures d p holds)
    c.mode_of.ensures
    (ap (λ (k : Kind). content_of k [] c.in_ok-text.text) c.kind_of.ensures
    ∙ ap (content_of (kind_of c.args.what.now) []) c.in_ok-text.ensures
    ∙ content_made c.args.what.now)
