-- What events come to, one event after another.
use Rattle.std.proofs.Common.{◌≡◌, ◌≤◌, ◌+◌, ℕ, List, [], ◌∷◌, ◌++◌, length, sym, ap, subst, ◌∙◌, arith, append-nil}
use Rattle.std.proofs.lemmas.List.{length-append, append_assoc}
use Rattle.std.specs.declared.option.Option.{Option}
use Rattle.std.specs.declared.option.Option.TheVariants.{Some, None}
use Rattle.lnfs_types.specs.declared.event.Event.{Event}
use Rattle.lnfs_commands.specs.Summary.{one_of, count_after}
use Rattle.lnfs_commands.specs.Events.{framed, frames_after}

one_at_most : {A : Type 0} (o : Option A) → one_of o ≤ 1
one_at_most None = omega arith
one_at_most (Some told) = omega arith

module _ {A : Type 0} (told : List Event → Event → Option A) where
  pub count_more : (journal events : List Event) (event : Event) → count_after told journal (events ++ event ∷ []) ≡ count_after told journal events + one_of (told (journal ++ events) event)
  unfolding count_after
  count_more journal [] event = let same = ap (λ j. one_of (told j event)) (append-nil journal) in omega (arith, same)
  count_more journal (e ∷ events) event =
      let same = ap (λ j. one_of (told j event)) (append_assoc journal (e ∷ []) events) in
      omega (arith, count_more (journal ++ e ∷ []) events event, same)

  pub count_few : (journal events : List Event) → count_after told journal events ≤ length events
  unfolding count_after
  count_few journal [] = omega arith
  count_few journal (e ∷ events) = omega (arith, one_at_most (told journal e), count_few (journal ++ e ∷ []) events)

pub frames_more : (reply : List Event → Event → Option (List ℕ)) (journal events : List Event) (event : Event) → frames_after reply journal (events ++ event ∷ []) ≡ frames_after reply journal events ++ framed (reply (journal ++ events) event)
unfolding frames_after
frames_more reply journal [] event = append-nil (framed (reply journal event)) ∙ ap (λ j. framed (reply j event)) (sym (append-nil journal))
frames_more reply journal (e ∷ events) event =
    ap (λ f. framed (reply journal e) ++ f) (frames_more reply (journal ++ e ∷ []) events event ∙ ap (λ j. frames_after reply (journal ++ e ∷ []) events ++ framed (reply j event)) (append_assoc journal (e ∷ []) events))
    ∙ sym (append_assoc (framed (reply journal e)) (frames_after reply (journal ++ e ∷ []) events) (framed (reply (journal ++ e ∷ events) event)))

-- ---- what was counted, up to some of the events

-- Behind a journal, of some events and of the frames of their replies.
pub record Counted {A : Type 0} (reply : List Event → Event → Option (List ℕ)) (line : List Event → Event → Option A) (before events journal rest : List Event) (replies failed : ℕ) (Holds : List ℕ → Type 0) : Type 0 where
  pub served : List Event
  pub journal_is : journal ≡ before ++ served
  pub all : served ++ rest ≡ events
  pub replies_are : replies ≡ count_after reply before served
  pub failed_are : failed ≡ count_after line before served
  pub frames_are : Holds (frames_after reply before served)

module _ {A : Type 0} (reply : List Event → Event → Option (List ℕ)) (line : List Event → Event → Option A) (before events : List Event) where
  -- none yet
  pub counts_none : {rest : List Event} {replies failed : ℕ} (Holds : List ℕ → Type 0) → rest ≡ events → replies ≡ 0 → failed ≡ 0 → Holds [] → Counted reply line before events before rest replies failed Holds
  unfolding count_after frames_after
  counts_none Holds all replies failed empty = record { served = []; journal_is = sym (append-nil before); all = all; replies_are = replies; failed_are = failed; frames_are = empty }

  module _ {journal rest : List Event} {replies failed : ℕ} {Holds : List ℕ → Type 0} (c : Counted reply line before events journal rest replies failed Holds) where
    -- so far no more than there are events
    pub few_replies : replies ≤ length events
    few_replies = omega (arith, c.replies_are, count_few reply before c.served, ap length c.all, length-append c.served rest)

    pub few_failed : failed ≤ length events
    few_failed = omega (arith, c.failed_are, count_few line before c.served, ap length c.all, length-append c.served rest)

    -- one more
    pub counts_next : {journal' rest' : List Event} {replies' failed' : ℕ} {Holds' : List ℕ → Type 0} (event : Event) → rest ≡ event ∷ rest' → journal' ≡ journal ++ event ∷ []
        → replies' ≡ replies + one_of (reply journal event) → failed' ≡ failed + one_of (line journal event) → ((bytes : List ℕ) → Holds bytes → Holds' (bytes ++ framed (reply journal event)))
        → Counted reply line before events journal' rest' replies' failed' Holds'
    counts_next {journal'} {rest'} {replies'} {failed'} {Holds'} event cut behind replied refused hashed =
        let is = c.journal_is in record {
          served = c.served ++ event ∷ [];
          journal_is = behind ∙ ap (λ (j : List Event). j ++ event ∷ []) is ∙ append_assoc before c.served (event ∷ []);
          all = append_assoc c.served (event ∷ []) rest' ∙ ap (λ (r : List Event). c.served ++ r) (sym cut) ∙ c.all;
          replies_are = replied ∙ (λ i. c.replies_are i + one_of (reply (is i) event)) ∙ sym (count_more reply before c.served event);
          failed_are = refused ∙ (λ i. c.failed_are i + one_of (line (is i) event)) ∙ sym (count_more line before c.served event);
          frames_are = subst Holds' ((λ i. frames_after reply before c.served ++ framed (reply (is i) event)) ∙ sym (frames_more reply before c.served event)) (hashed (frames_after reply before c.served) c.frames_are);
        }

    -- all of them
    module _ (none : rest ≡ []) where
      all_served : c.served ≡ events
      all_served = sym (ap (λ (r : List Event). c.served ++ r) none ∙ append-nil c.served) ∙ c.all

      pub counts_replies : replies ≡ count_after reply before events
      counts_replies = c.replies_are ∙ ap (count_after reply before) all_served

      pub counts_failed : failed ≡ count_after line before events
      counts_failed = c.failed_are ∙ ap (count_after line before) all_served

      pub counts_frames : Holds (frames_after reply before events)
      counts_frames = subst (λ (es : List Event). Holds (frames_after reply before es)) all_served c.frames_are

-- four texts, one behind the other
pub in_fours : {begun one two three four : List ℕ} (a b c d : List ℕ) → begun ≡ [] → one ≡ begun ++ a → two ≡ one ++ b → three ≡ two ++ c → four ≡ three ++ d → four ≡ a ++ b ++ c ++ d
in_fours a b c d empty first second third last =
    last ∙ ap (λ t. t ++ d) (third ∙ ap (λ t. t ++ c) (second ∙ ap (λ t. t ++ b) (first ∙ ap (λ t. t ++ a) empty)))
