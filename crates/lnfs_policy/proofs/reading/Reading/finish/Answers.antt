use Rattle.std.proofs.Common.{◌≡◌, true, false, sym, ap, ◌∙◌, rules}
use Rattle.std.specs.Prelude.{Some}
use Rattle.lnfs_words.specs.Words.{is_empty}
use Rattle.lnfs_policy.specs.PolicyText.{spells_all}
use Rattle.lnfs_policy.specs.Reading.{Read, finish, entries_in}
use Rattle.lnfs_policy.proofs.Full.{full}
use Rattle.lnfs_policy.proofs.reading.Reading.finish.Goals as goal

pub invariant_of-result : goal.invariant_of-result
invariant_of-result g c =
    let r : Read = record {
      begun = c.self.inside.begun;
      stage = c.self.inside.stage;
      text = c.self.inside.text.items;
      version = c.self.inside.version;
      mode = c.self.inside.mode;
      labels = c.self.inside.labels.items;
      rows = c.self.inside.rows.items;
      names = c.self.inside.names.items;
      parents = c.self.inside.parents.entries;
      guests = c.self.inside.guests.items;
      quotas = c.self.inside.quotas.items;
      dirs = c.self.inside.dirs.items;
    } in
    let b : r.begun ≡ true = search rules in
    let m : r.mode ≡ Some c.in-Some.mode = c.in-Some.is in
    let l : is_empty r.labels ≡ false = search rules in
    let e : c.in_ok-entries.entries.items ≡ entries_in r = search rules in
    let s : spells_all (entries_in r) r.labels ≡ true = search rules in
    let lines : c.in_ok-guests.guests ≡ r.guests = search rules in
    rw (c.unwrap_or.ensures, c.of-2.ensures, c.of-3.ensures, e, lines) (c.requires _ (ap finish (sym c.self.view_is) ∙ full r c.in-Some.mode b m l s))
