-- The writes of a service, up to where a call gave up.
use Rattle.std.proofs.Common.{◌≡◌, ℕ, List, [], ◌∷◌, ◌++◌, map, sym, ap, ◌∙◌, subst}
use Rattle.std.specs.Prelude.{Result, Ok, Err}
use Rattle.std.proofs.lemmas.List.{map-append}
use Rattle.std.specs.declared.option.Option.TheVariants.{Some}
use Rattle.lnfs_outside.specs.Nets.{Back}
use Rattle.lnfs_types.specs.declared.event.Event.{Event}
use Rattle.lnfs_policy.specs.Policy.{Policy}
use Rattle.lnfs_gss3.specs.Mechanism.{Signing}
use Rattle.lnfs_operations.specs.Extra.{Extra}
use Rattle.lnfs_traffic.specs.Texts.{recording_text}
use Rattle.lnfs_vault.specs.declared.audit.AuditLine.{AuditLine}
use Rattle.lnfs_workers.specs.Lines.{lines_in, lines_of}
use Rattle.lnfs_workers.specs.declared.line.LinkEnd.{LinkEnd}
use Rattle.lnfs_stage.specs.declared.stop.Stop.{Stop}
use Rattle.lnfs_stage.specs.declared.stop.Stop.TheVariants.{Memory}
use Rattle.lnfs_stage.specs.Seen.{Seen}
use Rattle.lnfs_stage.specs.Writes.{Write, to_out, to_audit}
use Rattle.lnfs_stage.specs.Due.{written}
use Rattle.lnfs_stage.specs.Does.{Does}
use Rattle.lnfs_stage.proofs.Doing.{does_first, does_then, does_short, as_value, as_stop}
use Rattle.lnfs_commands.specs.Events.{audit_with, each_line}
use Rattle.lnfs_commands.specs.Lines.{text_at_place}
use Rattle.lnfs_service.specs.Links.{told_end}
use Rattle.lnfs_service.specs.Serves.{served}
use Rattle.lnfs_service.specs.Session.{Session, link_lines}
use Rattle.lnfs_service.proofs.Sessions.{journal_lines, told_lines}

module _ (X : Extra) (m : Signing) (policy : Policy) {L : Type 0} (tell : L → Back) (journal : List Event) (ends : List (LinkEnd L)) (lines : List AuditLine) (lines_are : lines_in lines ≡ lines_of X m policy journal) where
  abbrev session : Session
  session = record { journal = journal; ends = map (told_end tell) ends }

  -- the recording and the audit lines, and then the lines of the links
  abbrev pub first : List Write
  first = to_out (recording_text journal) ∷ map to_audit (map text_at_place lines)

  abbrev pub last : List Write
  last = map to_audit (link_lines 0 ends)

  all_writes : first ++ last ≡ (served X m policy [] (Some session)).writes
  all_writes =
      let texts : map text_at_place lines ++ link_lines 0 ends ≡ each_line (audit_with X m policy) [] journal ++ link_lines 0 (map (told_end tell) ends) =
      λ i. journal_lines X m policy journal lines lines_are i ++ sym (told_lines tell 0 ends) i in
      ap (λ (ws : List Write). to_out (recording_text journal) ∷ ws) (sym (map-append to_audit (map text_at_place lines) (link_lines 0 ends)) ∙ ap (map to_audit) texts)

  module _ {result : Result (Unit {0}) Stop} {s t : Seen} where
    is_all : Does result s t (written (first ++ last)) → Does result s t (served X m policy [] (Some session))
    is_all p = subst (λ (ws : List Write). Does result s t (written ws)) all_writes p

    -- the call gave up within the first, or behind them
    pub stopped_first : {S : Type 0} (stop : Stop) → result ≡ Err stop → Does {T = S} (Err stop) s t (written first) → Does result s t (served X m policy [] (Some session))
    stopped_first stop is p = is_all (does_first stop (written first) (written last) p is)

    pub stopped_between : {S : Type 0} (value : S) → result ≡ Err Memory → Does {T = S} (Ok value) s t (written first) → Does result s t (served X m policy [] (Some session))
    stopped_between value is p = is_all (does_then value (written first) (written last) p (does_short t (written last) is))

    module _ {S U : Type 0} {r : Seen} (value : S) (p : Does {T = S} (Ok value) s r (written first)) where
      -- within the last, or behind all
      pub stopped_last : (stop : Stop) → result ≡ Err stop → Does {T = U} (Err stop) r t (written last) → Does result s t (served X m policy [] (Some session))
      stopped_last stop is q = is_all (does_then value (written first) (written last) p (as_stop stop is q))

  module _ {s r t : Seen} {S U : Type 0} (value : S) (other : U) (p : Does {T = S} (Ok value) s r (written first)) (q : Does {T = U} (Ok other) r t (written last)) where
    -- all was told
    pub told_whole : Does {T = Unit {0}} (Ok tt) s t (served X m policy [] (Some session))
    told_whole = is_all (does_then value (written first) (written last) p (as_value other tt q))

    -- and there was no memory for some of it
    pub told_short : Does {T = Unit {0}} (Err Memory) s t (served X m policy [] (Some session))
    told_short = let all = told_whole in record { whole = tt; begun = all.begun; stays = all.stays; excused = tt }

-- lines of the same texts
pub lines_as : {T : Type 0} {result : Result T Stop} {s t : Seen} {texts put : List (List ℕ)} → put ≡ texts → Does result s t (written (map to_audit put)) → Does result s t (written (map to_audit texts))
lines_as {T} {result} {s} {t} e p = subst (λ (ls : List (List ℕ)). Does result s t (written (map to_audit ls))) e p
