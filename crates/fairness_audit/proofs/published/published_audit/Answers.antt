use Rattle.std.proofs.Common.{map}
use Rattle.market_certificate.specs.Views.{publication_of}
use Rattle.published_parts.specs.Views.{market_in}
use Rattle.demand_api.specs.Views.{data_of}
use Rattle.fairness_audit.proofs.Allocating.{accepted_by, checked}
use Rattle.fairness_audit.proofs.Fairness.{no_lower_count}
use Rattle.fairness_audit.proofs.published.published_audit.Goals as goal

pub audit_accepted-requires-clause-checked : goal.audit_accepted-requires-clause-checked
audit_accepted-requires-clause-checked g c κs within =
    checked (market_in c.args.market.now) (map (λ stream. stream.items) c.args.streams.now) c.args.text.items
    (publication_of c.in_ok-accepted.accepted.publication) (data_of c.in_ok-accepted.accepted.crowd)
    c.in_ok-accepted.ensures.text c.in_ok-accepted.ensures.holds

pub returns-clause-audited : goal.returns-clause-audited
returns-clause-audited g c =
    let market = market_in c.args.market.now in
    let streams = map (λ stream. stream.items) c.args.streams.now in
    record {
      publication = publication_of c.in_ok-accepted.accepted.publication;
      is_text = c.in_ok-accepted.ensures.text;
      crowd = data_of c.in_ok-accepted.accepted.crowd;
      holds = c.in_ok-accepted.ensures.holds;
      is_audited = c.in_ok-audit_accepted.ensures;
      none_lower = no_lower_count market streams c.args.text.items
          (accepted_by market streams c.args.text.items (publication_of c.in_ok-accepted.accepted.publication) (data_of c.in_ok-accepted.accepted.crowd)
          c.in_ok-accepted.ensures.text c.in_ok-accepted.ensures.holds);
    }
