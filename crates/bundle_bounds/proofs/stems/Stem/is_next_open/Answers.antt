use Rattle.std.proofs.Common.{◌-◌, length, take, drop, get_or, sym, ◌∙◌}
use Rattle.plain_facts.proofs.Lists.{first_rest}
use Rattle.bundle_rules.specs.Bundles.{sections_of}
use Rattle.bundle_bounds.specs.Offers.{places_of}
use Rattle.bundle_bounds.specs.Views.{data_of}
use Rattle.bundle_bounds.proofs.BelowLimit.{rest_of_room}
use Rattle.bundle_bounds.proofs.Steps.{no_prospect}
use Rattle.bundle_bounds.proofs.Stemming.{next_first}
use Rattle.bundle_bounds.proofs.stems.Stem.is_next_open.Goals as goal

pub returns-in-len1-up : goal.returns-in-len1-up
returns-in-len1-up c =
    let offer = data_of c.args.offer.now in
    let cs = places_of c.args.offer.now.menu.now (sections_of c.args.node.now.chosen) in
    let k = c.args.node.now.place in
    let kept = c.requires.stem.keeps in
    let open_ones = take (60 - c.args.self.now.start) (drop c.args.self.now.start c.args.self.now.room) in
    next_first offer cs k (get_or open_ones 0 no_prospect) (take (length open_ones - 1) (drop 1 open_ones)) c.requires.left
    (sym kept.kept_is ∙ sym (rest_of_room c.args.self.now.room c.args.self.now.start kept.whole) ∙ first_rest open_ones no_prospect c.in-len1-up.len_at_least)
