-- OPEN, from its arguments to what is claimed.
use Rattle.std.proofs.Common.{◌≡◌, ap, sym, subst, ◌∙◌, ℕ, Option, Some, Result}
use Rattle.lnfs_arguments.specs.declared.statuses.TheConstants.{NFS4ERR_OP_NOT_IN_SESSION}
use Rattle.lnfs_world.specs.World.{World}
use Rattle.lnfs_world.specs.Outcome.{Site, Place, Outcome}
use Rattle.lnfs_operations.specs.declared.Gate.TheVariants.{Session}
use Rattle.lnfs_operations.specs.Chain.{Answer, refuse, where_there}
use Rattle.lnfs_operations.specs.Open.{Arguments, Opened, Wanted, where_claim, where_wanted, open_claimed, open_file}
use Rattle.lnfs_operations.specs.declared.Refusal.{Refusal}
use Rattle.lnfs_tree.specs.Rows.{Rows, id_of}
use Rattle.lnfs_open.specs.Lists.{Lists}
use Rattle.lnfs_files.specs.Acts.{ActsTo}
use Rattle.lnfs_files.specs.Openings.{where_words}
use Rattle.lnfs_files.specs.Openings as files
use Rattle.lnfs_files.specs.declared.opened.Opened as code_opened

module _ (site : Site) (args : Arguments) (p : Place) (w : World) where
  abbrev pub claimed : (number : ℕ) → Wanted → Outcome (Answer Opened)
  claimed number wanted = open_claimed site args p w number wanted args.claim

  abbrev pub behind_claim : (number : ℕ) → Outcome (Answer Opened)
  behind_claim number = where_wanted site p args.making (claimed number)

  abbrev pub behind_words : (number : ℕ) → Outcome (Answer Opened)
  behind_words number = where_claim p args.claim (behind_claim number)

  abbrev by_client : Option ℕ → Outcome (Answer Opened)
  by_client client = where_there client (λ number. where_words p args (behind_words number)) (refuse p Session NFS4ERR_OP_NOT_IN_SESSION)

  module _ (number : ℕ) (client : p.client ≡ Some number) where
    to_words : open_file site args p w ≡ where_words p args (behind_words number)
    to_words = ap by_client client

    pub by_words : (o : Outcome (Answer Opened)) → where_words p args (behind_words number) ≡ o → open_file site args p w ≡ o
    by_words o e = to_words ∙ e

-- ---- what is done of another outcome that is the same

abbrev pub OpenActs : Place → World → (t u : Rows) → (s v : Lists) → Outcome (Answer Opened) → Result code_opened.Opened Refusal → Type 0
OpenActs at rest t u s v o told = ActsTo files.opened_of (λ o. record at { current = Some (id_of o.node) }) at rest t u s v o told

pub moved : (at : Place) (rest : World) (t u : Rows) (s v : Lists) (o o' : Outcome (Answer Opened)) (told : Result code_opened.Opened Refusal) → o ≡ o' → OpenActs at rest t u s v o' told → OpenActs at rest t u s v o told
moved at rest t u s v o o' told e acts = subst (λ (x : Outcome (Answer Opened)). OpenActs at rest t u s v x told) (sym e) acts
