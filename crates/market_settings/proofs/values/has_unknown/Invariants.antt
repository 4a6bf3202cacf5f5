use Rattle.std.proofs.Common.{◌≡◌}
use Rattle.serde_json.specs.View.{members_view}
use Rattle.market_settings.specs.Values.{has_unknown}
use Rattle.market_settings.proofs.values.has_unknown.Given as goal

-- whether a name is no setting's is decided by the entries that are left
abbrev pub invariant-loop-name : goal.invariant-loop-name
invariant-loop-name l = has_unknown (members_view l.fn.object.entries) ≡ has_unknown (members_view l.name-iterator)
