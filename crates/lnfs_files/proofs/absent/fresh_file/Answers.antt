use Rattle.std.proofs.Common.{◌≡◌, ◌∙◌, ap, ℕ, List, [], Option}
use Rattle.lnfs_types.specs.declared.event.Moment.{Moment}
use Rattle.lnfs_world.specs.World.{Id, File, Stored, Node}
use Rattle.lnfs_operations.specs.Create.{new_inner}
use Rattle.lnfs_files.proofs.absent.fresh_file.Goals as goal

abbrev file : Id → ℕ → Option (List ℕ) → Moment → Option Stored → ℕ → Node
file i label verifier moment stored mode = record { id = i; kind = File; label = label; verifier = verifier; inner = new_inner moment stored mode [] }

same_file : (i : Id) (moment : Moment) (l l' : ℕ) (v v' : Option (List ℕ)) (s s' : Option Stored) (m m' : ℕ) → l ≡ l' → v ≡ v' → s ≡ s' → m ≡ m' → file i l v moment s m ≡ file i l' v' moment s' m'
same_file i moment l l' v v' s s' m m' label verifier stored mode =
    ap (λ (x : ℕ). file i x v moment s m) label
    ∙ ap (λ (x : Option (List ℕ)). file i l' x moment s m) verifier
    ∙ ap (λ (x : Option Stored). file i l' v' moment x m) stored
    ∙ ap (λ (x : ℕ). file i l' v' moment s' x) mode

pub returns-clause-node : goal.returns-clause-node
returns-clause-node c = λ d p w holds label. same_file _ p.moment _ _ _ _ _ _ _ _ label c.verifier_of.ensures (c.in_ok-stored.ensures d p holds) c.file_mode.ensures
