-- Files that are read whole, one after another, and what is due behind them.
use Rattle.std.proofs.Common.{◌≡◌, ℕ, List, [], ◌∷◌, ◌∙◌, subst}
use Rattle.std.specs.Prelude.{Result, Ok, Err, IfSome, IsSome}
use Rattle.std.specs.Global.{Vec}
use Rattle.std.specs.declared.option.Option.{Option}
use Rattle.std.specs.declared.option.Option.TheVariants.{Some, None}
use Rattle.lnfs_outside.specs.Bytes.{Told}
use Rattle.lnfs_stage.specs.declared.stop.Stop.{Stop}
use Rattle.lnfs_stage.specs.Seen.{Seen}
use Rattle.lnfs_stage.specs.Due.{Due, written, given}
use Rattle.lnfs_stage.specs.Does.{Does, DoesLeft, Holds, OpensIn, ReadsIn}
use Rattle.lnfs_stage.specs.Contents.{Contents, first, others, AllHold, Follows}
use Rattle.lnfs_stage.proofs.Calling.{seen, seen_held, same_text}
use Rattle.lnfs_stage.proofs.Doing.{does_first, does_then}

-- what the names stand for, as far as contents are told
pub unread : Told → List (List ℕ) → Contents
unread content [] = []
unread content (name ∷ names) = seen content name ∷ unread content names

pub unread_held : (content : Told) (names : List (List ℕ)) → AllHold content names (unread content names)
unfolding unread
unread_held content [] = tt
unread_held content (name ∷ names) = (seen_held content name, unread_held content names)

-- no file is read any more
pub follows_over : {T : Type 0} {result : Result T Stop} {s t : Seen} (names : List (List ℕ)) (due : Contents → Due) → ((files : Contents) → Does result s t (due files)) → Follows result s t names due
follows_over {s = s} names due p = record { contents = unread s.content names; held = unread_held s.content names; does = p (unread s.content names) }

-- the call stopped at the first file
pub stopped : {S T : Type 0} (stop : Stop) {result : Result T Stop} {s t : Seen} (found : Option (List ℕ)) (name : List ℕ) (next : List ℕ → Due) → result ≡ Err stop → Does {T = S} (Err stop) s t (given found name (λ text. written [])) → Does result s t (given found name next)
stopped stop None name next is p = rw is (record { whole = p.whole; begun = p.begun; stays = p.stays; excused = p.excused })
stopped stop (Some text) name next is p = does_first stop (written []) (next text) p is

module _ (name : List ℕ) (names : List (List ℕ)) (next : List ℕ → Contents → Due) where
  pub reads_stop : {T : Type 0} (stop : Stop) {result : Result T Stop} {s t : Seen} → result ≡ Err stop → ReadsIn (Err stop) s t name → Follows result s t (name ∷ names) (λ files. given (first files) name (λ text. next text (others files)))
  reads_stop stop {result} {s} {t} is p = record {
    contents = p.found ∷ unread s.content names;
    held = (p.held, unread_held s.content names);
    does = stopped stop p.found name (λ text. next text (unread s.content names)) is p.does;
  }

  -- the first file was read, and then the call did what is due behind it
  pub reads_then : {T : Type 0} {result : Result T Stop} {r s t : Seen} (bytes : Vec ℕ) → ReadsIn (Ok bytes) r s name → Follows result s t names (next bytes.items) → Follows result r t (name ∷ names) (λ files. given (first files) name (λ text. next text (others files)))
  reads_then {T} {result} {r} {s} {t} bytes p q = record {
    contents = p.found ∷ q.contents;
    held = (p.held, subst (λ content. AllHold content names q.contents) p.does.stays.content q.held);
    does = rw p.text (does_then bytes (written []) (next bytes.items q.contents) (rw p.text at p.does) q.does);
  }

-- no file is left to be read
pub follows_does : {T : Type 0} {result : Result T Stop} {s t : Seen} {due : Due} → Does result s t due → Follows result s t [] (λ files. due)
follows_does p = record { contents = []; held = tt; does = p }

-- ---- a file that was opened, and then read in pieces

held_as : (content : Told) (name : List ℕ) (found left : Option (List ℕ)) (items : List ℕ) → Holds content name found → IsSome found → IfSome content (λ look. found ≡ left) → IfSome left (λ l. items ≡ l) → Holds content name (Some items)
held_as None name found left items h some e is = tt
held_as (Some look) name found left items h some e is = h ∙ same_text found left items e (subst (λ o. IsSome o) e some) is

found_in : {S : Type 0} (value : S) {r s : Seen} (found : Option (List ℕ)) (name : List ℕ) → IsSome found → Does (Ok value) r s (given found name (λ text. written [])) → Does (Ok value) r s (written [])
found_in value None name some p = let h : ⊥ = cc in absurd h
found_in value (Some text) name some p = p

module _ (name : List ℕ) (next : List ℕ → Due) where
  pub opens_stop : {S T : Type 0} (stop : Stop) {result : Result T Stop} {s t : Seen} → result ≡ Err stop → OpensIn {T = S} (Err stop) s t name → Follows result s t (name ∷ []) (λ files. given (first files) name next)
  opens_stop stop is p = record { contents = p.found ∷ []; held = (p.held, tt); does = stopped stop p.found name next is p.does }

  pub opens_then : {S T : Type 0} (value : S) {result : Result T Stop} {r s t : Seen} → OpensIn (Ok value) r s name → DoesLeft result s t next → Follows result r t (name ∷ []) (λ files. given (first files) name next)
  opens_then value {result} {r} {s} {t} p q = record {
    contents = Some q.text ∷ [];
    held = (held_as r.content name p.found s.left q.text p.held p.some.0 p.some.1 q.was_left, tt);
    does = does_then value (written []) (next q.text) (found_in value p.found name p.some.0 p.does) q.does;
  }
