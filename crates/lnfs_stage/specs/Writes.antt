-- What is written, on which of the two streams, and in which order.
use Rattle.std.specs.Prelude.{ℕ, zero, suc, List, [], ◌∷◌, ◌++◌, take}
use Rattle.std.specs.Io.KnownBytes.{Appends}
use Rattle.lnfs_stage.specs.Seen.{Seen}

-- an empty text is no write
pub data Write : Type 0 where
  to_out : List ℕ → Write
  to_audit : List ℕ → Write

abbrev pub on_out : List Write → List ℕ
on_out [] = []
on_out (to_out text ∷ writes) = text ++ on_out writes
on_out (to_audit text ∷ writes) = on_out writes

abbrev pub on_audit : List Write → List ℕ
on_audit [] = []
on_audit (to_out text ∷ writes) = on_audit writes
on_audit (to_audit text ∷ writes) = text ++ on_audit writes

-- so many bytes of a text
abbrev pub cut : ℕ → Write → Write
cut n (to_out text) = to_out (take n text)
cut n (to_audit text) = to_audit (take n text)

-- the first k writes, and n bytes of the next
abbrev pub front : ℕ → ℕ → List Write → List Write
front k n [] = []
front zero n (write ∷ writes) = cut n write ∷ []
front (suc k) n (write ∷ writes) = write ∷ front k n writes

-- the two streams took the writes
pub record Takes (before after : Seen) (writes : List Write) : Type 0 where
  pub out_took : Appends before.out.taken after.out.taken (on_out writes)
  pub audit_took : Appends before.audit.taken after.audit.taken (on_audit writes)

-- a front of them: what comes later was taken only where all that comes before it was taken whole
pub record TakesFront (before after : Seen) (writes : List Write) : Type 0 where
  pub whole : ℕ
  pub part : ℕ
  pub takes : Takes before after (front whole part writes)
