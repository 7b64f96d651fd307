-- A file is opened past the opens that give way, which end (RFC 8881 section 8.4.3).
use Rattle.std.specs.Prelude.{◌≡◌, Bool, List, Ok, Err}
use Rattle.lnfs_world.specs.World.{Id, Open}
use Rattle.lnfs_world.specs.Change.{apply_all}
use Rattle.lnfs_world.specs.Opens.{that_give_way, ended}
use Rattle.lnfs_operations.specs.Open.{access_of}
use Rattle.lnfs_open.specs.Lists.{Lists, world_of}
use Rattle.lnfs_open.specs.Listed.{client_id}
use Rattle.lnfs_open.specs.Opening.{Wish, Does, opened_of}
use Rattle.lnfs_open.specs.declared.keys.OpenRef.{OpenRef}
use Rattle.lnfs_open.specs.declared.keys.OpenError.{OpenError}
use Rattle.lnfs_files.specs.declared.present.Opener.{Opener}
use Rattle.lnfs_files.specs.Openings.{args_of}

-- what is wished of the opens, by the code's values
abbrev pub wish_of : Opener → (node : Id) → Wish
wish_of x node = record { client = client_id x.client; owner = x.args.now.owner.now; node = node; access = access_of (args_of x.args.now); deny = x.args.now.deny }

-- the opens that give way to what is wished
abbrev pub giving_way : Wish → (over : Id → Bool) → List Open → List Open
giving_way wish over opens = that_give_way wish.client.level (wish.client, wish.owner) wish.node wish.access wish.deny over opens

-- after some have ended
abbrev pub without : List Open → Lists → Lists
without gone s = record s { opens = (apply_all (ended gone) (world_of s)).opens }

-- the opens did what is wished, and those that gave way have ended
abbrev pub Passes : Wish → (over : Id → Bool) → (before after : Lists) → OpenRef → Type 0
Passes wish over before after answer = (mid : Lists) × (Does (opened_of before wish) before mid (Ok answer) × (after ≡ without (giving_way wish over before.opens) mid))

-- or it is refused
abbrev pub Fails : Wish → (before after : Lists) → OpenError → Type 0
Fails wish before after error = Does (opened_of before wish) before after (Err error)
