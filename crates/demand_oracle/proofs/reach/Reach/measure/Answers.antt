use Rattle.demand_oracle.proofs.reach.Reach.measure.Goals as goal

pub returns : goal.returns
returns c = record {
  lightest = c.lightest-self.ensures;
  hopes = c.put_hopes.ensures;
  covers = c.put_most.ensures;
}
