-- Transcripts that grow.
use Rattle.std.proofs.Common.{◌≡◌, List, [], ◌∷◌, ◌++◌, ℕ, refl, sym, ap, ◌∙◌, append_assoc, append-nil}
use Rattle.std.specs.List.{AllByRecursion}
use Rattle.lnfs_history.specs.declared.entry.Entry.{Entry}
use Rattle.lnfs_workers.specs.Transcripts.{messages, framed, transcript}

pub messages_push : (es : List Entry) (e : Entry) → messages (es ++ e ∷ []) ≡ messages es ++ e.event.message ∷ []
messages_push [] e = refl
messages_push (x ∷ es) e = ap (λ (l : List (List ℕ)). x.event.message ∷ l) (messages_push es e)

pub transcript_push : (es : List Entry) (e : Entry) → transcript (es ++ e ∷ []) ≡ transcript es ++ framed e.reply
transcript_push [] e = append-nil (framed e.reply)
transcript_push (x ∷ es) e = ap (λ (l : List ℕ). framed x.reply ++ l) (transcript_push es e) ∙ sym (append_assoc (framed x.reply) (transcript es) (framed e.reply))

pub all_push : {A : Type 0} (P : A → Type 0) (xs : List A) (x : A) → AllByRecursion P xs → P x → AllByRecursion P (xs ++ x ∷ [])
all_push P [] x a p = (p, tt)
all_push P (y ∷ xs) x a p = (a.0, all_push P xs x a.1 p)
