use Rattle.std.proofs.Common.{ap, sym, ◌∙◌}
use Rattle.std.specs.Prelude.{option_map}
use Rattle.lnfs_policy.specs.Policy.{dominance}
use Rattle.lnfs_arguments.specs.Further.{Further}
use Rattle.lnfs_operations.specs.Extra.{place_at}
use Rattle.lnfs_site.specs.Site.{site_of}
use Rattle.lnfs_tree.specs.Rows.{id_of}
use Rattle.lnfs_engine.specs.Further.{said_of, spot_of}
use Rattle.lnfs_beside.proofs.Telling.{first_bears, second_bears, left_told, right_told}
use Rattle.lnfs_sides.proofs.sides.BesideExtra.run.Goals as goal

pub run-requires : goal.run-requires
run-requires g c = record {
  stands = first_bears g.A.ExtraRows.extra g.B.ExtraRows.extra c.args.store.now (g.A.ExtraRows.rows c.args.self.now.first) (g.B.ExtraRows.rows c.args.self.now.second)
      (dominance c.args.at.now.site.now) (place_at (spot_of c.args.at.now)) c.requires.stands;
}

pub run-requires-else-serves : goal.run-requires-else-serves
run-requires-else-serves g c = record {
  stands = second_bears g.A.ExtraRows.extra g.B.ExtraRows.extra c.args.store.now (g.A.ExtraRows.rows c.args.self.now.first) (g.B.ExtraRows.rows c.args.self.now.second)
      (dominance c.args.at.now.site.now) (place_at (spot_of c.args.at.now)) c.requires.stands;
}

pub returns-then-serves : goal.returns-then-serves
returns-then-serves g c = record {
  outcome = left_told g.A.ExtraRows.extra g.B.ExtraRows.extra c.args.store.now (g.A.ExtraRows.rows c.args.self.now.first) (g.B.ExtraRows.rows c.args.self.now.second)
      (site_of c.args.at.now.site.now) c.args.number c.args.args.now (spot_of c.args.at.now)
      c.run.result said_of (option_map id_of c.run.new.at.current) (option_map id_of c.run.new.at.saved) c.run.new.store (g.A.ExtraRows.rows c.run.new.self)
      (ap (λ (x : Further). x.serves c.args.number) (sym g.met.A.Extra.same_grammar) ∙ (sym c.serves.ensures ∙ c.if-serves.true)) c.run.ensures.outcome;
}

pub returns-else-serves : goal.returns-else-serves
returns-else-serves g c = record {
  outcome = right_told g.A.ExtraRows.extra g.B.ExtraRows.extra c.args.store.now (g.A.ExtraRows.rows c.args.self.now.first) (g.B.ExtraRows.rows c.args.self.now.second)
      (site_of c.args.at.now.site.now) c.args.number c.args.args.now (spot_of c.args.at.now)
      c.run-else-serves.result said_of (option_map id_of c.run-else-serves.new.at.current) (option_map id_of c.run-else-serves.new.at.saved) c.run-else-serves.new.store (g.B.ExtraRows.rows c.run-else-serves.new.self)
      (ap (λ (x : Further). x.serves c.args.number) (sym g.met.A.Extra.same_grammar) ∙ (sym c.serves.ensures ∙ c.if-serves.false)) c.run-else-serves.ensures.outcome;
}
