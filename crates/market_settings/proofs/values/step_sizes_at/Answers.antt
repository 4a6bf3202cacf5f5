use Rattle.std.proofs.Common.{refl, ◌∙◌, rules}
use Rattle.serde_json.specs.View.{view}
use Rattle.market_settings.proofs.StepReading.{other_count, right_count}
use Rattle.market_settings.proofs.values.step_sizes_at.Goals as goal

pub returns-then-not-is_step_count-clause-only : goal.returns-then-not-is_step_count-clause-only
returns-then-not-is_step_count-clause-only c _ = (refl, other_count (view c.args.value.now) c.in-Some.items.now.items c.in-Some.ensures (search rules))

pub returns-clause-sizes : goal.returns-clause-sizes
returns-clause-sizes c = right_count (view c.args.value.now) c.in-Some.items.now.items c.in-Some.ensures (search rules) ∙ search rules
