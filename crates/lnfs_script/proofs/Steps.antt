-- One turn of the reader.
use Rattle.std.proofs.Common.{◌≡◌, ◌≤◌, ◌+◌, ℕ, List, [], ◌∷◌, ◌++◌, Bor, map, length, refl, sym, ap, ◌∙◌, append_assoc, arith}
use Rattle.std.specs.Prelude.{Result, Ok, Err, Option, Some, None, MatchOption}
use Rattle.std.specs.Option.{option_copied, option_flatten}
use Rattle.std.proofs.lemmas.List.{append-nil}
use Rattle.lnfs_words.specs.Words.{split, newline}
use Rattle.lnfs_words.proofs.Splits.{length-split}
use Rattle.lnfs_policy.specs.Policy.{Policy}
use Rattle.lnfs_script.specs.Forms.{action_at, link_at}
use Rattle.lnfs_script.specs.Lines.{lines_of}
use Rattle.lnfs_script.specs.Script.{behind, all_from, script_with, script_in, script_of, IsRefusal, IsStop, error_at}
use Rattle.lnfs_script.specs.declared.action.Action.{Action}
use Rattle.lnfs_script.specs.declared.forms.Link.{Link}
use Rattle.lnfs_script.specs.declared.script.Script.{Script}
use Rattle.lnfs_script.specs.declared.error.Stop.{Stop}
use Rattle.lnfs_script.specs.declared.error.Stop.TheVariants as stop
use Rattle.lnfs_script.proofs.Ends.{length-lines_in}

-- the actions that were read, before those of the lines that are left
abbrev pub ahead : List Action → Result (List Action) ℕ → Result (List Action) ℕ
ahead front (Ok others) = Ok (front ++ others)
ahead front (Err line) = Err line

-- what a script is, when some of its actions were read and some of its lines are left
abbrev pub finally : Policy → Link → List Action → (number : ℕ) → List (Option (List ℕ)) → Result Script ℕ
finally p link front number lines = script_with (Some link) (ahead front (all_from number (map (action_at p) lines)))

ahead-nil : (r : Result (List Action) ℕ) → r ≡ ahead [] r
ahead-nil (Ok actions) = refl
ahead-nil (Err line) = refl

module _ (p : Policy) (link : Link) (front : List Action) (number : ℕ) where
  pub refused : (said : Option (List ℕ)) (lines : List (Option (List ℕ))) (whole : Result Script ℕ) (s : Stop)
      → whole ≡ finally p link front number (said ∷ lines) → IsStop (action_at p said) s → IsRefusal whole (error_at number s)
  refused said lines whole stop.Unlisted e h = rw h at e
  refused said lines whole stop.Memory e h = tt

  pub taken : (said : Option (List ℕ)) (lines : List (Option (List ℕ))) (whole : Result Script ℕ) (action : Action)
      → whole ≡ finally p link front number (said ∷ lines) → action_at p said ≡ Some action
      → whole ≡ finally p link (front ++ action ∷ []) (number + 1) lines
  taken said lines whole action e h = (rw h at e) ∙ ap (script_with (Some link)) (moved (all_from (number + 1) (map (action_at p) lines)))
    where
      moved : (r : Result (List Action) ℕ) → ahead front (behind action r) ≡ ahead (front ++ action ∷ []) r
      moved (Ok others) = ap (λ (xs : List Action). Ok xs) (sym (append_assoc front (action ∷ []) others))
      moved (Err line) = refl

  pub done : (whole : Result Script ℕ) → whole ≡ finally p link front number [] → whole ≡ Ok (record { class = link.class; identity = link.identity; actions = front })
  done whole e = e ∙ ap (λ (xs : List Action). Ok (record { class = link.class; identity = link.identity; actions = xs })) (append-nil front)

module _ (p : Policy) (text : List ℕ) (lines others : List (Option (List ℕ))) (all : lines ≡ lines_of text) where
  -- the first line tells the link
  pub started : (next : Option (Option (Bor (List ℕ)))) (link : Link) → MatchOption next ((lines ≡ []) × (others ≡ [])) (λ line. lines ≡ option_copied line ∷ others)
      → Some link ≡ link_at p (option_copied (option_flatten next)) → script_of p text ≡ finally p link [] 2 others
  unfolding script_of
  started None link m e = cc
  started (Some line) link m e =
      ap (script_in p) (sym all ∙ m) ∙ ap (λ l. script_with l (all_from 2 (map (action_at p) others))) (sym e)
      ∙ ap (script_with (Some link)) (ahead-nil (all_from 2 (map (action_at p) others)))

  -- or doesn't
  pub unstarted : (next : Option (Option (Bor (List ℕ)))) → MatchOption next ((lines ≡ []) × (others ≡ [])) (λ line. lines ≡ option_copied line ∷ others)
      → None ≡ link_at p (option_copied (option_flatten next)) → script_of p text ≡ Err 1
  unfolding script_of
  unstarted None m e = ap (script_in p) (sym all ∙ m.0)
  unstarted (Some line) m e = ap (script_in p) (sym all ∙ m) ∙ ap (λ l. script_with l (all_from 2 (map (action_at p) others))) (sym e)

  pub few_left : (next : Option (Option (Bor (List ℕ)))) (link : Link) → MatchOption next ((lines ≡ []) × (others ≡ [])) (λ line. lines ≡ option_copied line ∷ others)
      → Some link ≡ link_at p (option_copied (option_flatten next)) → length others ≤ length text
  few_left None link m e = cc
  few_left (Some line) link m e =
      let whole : lines_of text ≡ option_copied line ∷ others = sym all ∙ m in
      omega (arith, length-lines_in (split newline text), length-split newline text, ap length whole)
